-- The words that a sweep begins with are the model's beginning.
use Prim.Native.Nat.{◌*◌, ◌<◌, ◌≤◌, ℕ}
use Rattle.aig.specs.Lookup.{cleared}
use Rattle.bdd.specs.code.Rows.{RADIX}
use Rattle.sweep_graph.proofs.StageLaws.{stage_at, stage_word_lem, stages_length, stages-set}
use Rattle.sweep_pick.specs.code.Begin.{begun}
use Rattle.sweep_graph.specs.code.Stages.{stage_word, stages_of, word_stage}
use Rattle.sweep_graph.specs.code.Takes.{TakesRoom, held}
use Rattle.sweep_model.specs.State.{Problem, Stage, bare, gone, opened, stage_of}
use Rattle.sweep_model.specs.Sweep.{begin}
use lib.ListN.{get_or-append, drop, get_or, get_or-replicate, length, length-append, length-drop, length-replicate, length-set, replicate, set, take}
use lib.Seq.{ext_get_or, take_at}
use mathlib.Core.List.{List}
use mathlib.Core.Path.{◌∙◌, ◌≡◌, ap, sym}
use native.Mathlib.Omega.{arith}

-- A cleared word is 0.
pub cleared-word : (words : List ℕ) (n i : ℕ) → i < n → get_or (cleared words n) i 0 ≡ 0
cleared-word words n i h =
    get_or-append (replicate n 0) (drop n words) 0 i (rw (length-replicate {A = ℕ} n 0) h) ∙ get_or-replicate n i 0 0 h

-- Clearing keeps the number of words.
pub cleared_length : (words : List ℕ) (n : ℕ) → n ≤ length words → length (cleared words n) ≡ length words
cleared_length words n h = simp (length-append, length-replicate, length-drop) (omega arith)

-- Cleared words are bare stages.
bare-words : (words : List ℕ) (count : ℕ) → stages_of (cleared words (2 * count)) count ≡ replicate count bare
unfolding word_stage
bare-words words count =
    ext_get_or gone (stages_of (cleared words (2 * count)) count) (replicate count bare)
    (stages_length (cleared words (2 * count)) count ∙ sym (length-replicate {A = Stage} count bare))
    (λ i l. at i (rw (stages_length (cleared words (2 * count)) count) at l))
  where
    at : (i : ℕ) → i < count → stage_of (stages_of (cleared words (2 * count)) count) i ≡ stage_of (replicate count bare) i
    at i l =
        stage_at (cleared words (2 * count)) count i l ∙ ap word_stage (cleared-word words (2 * count) (2 * i) (omega arith))
        ∙ sym (get_or-replicate count i bare gone l)

module _ (p : Problem) (rows : List ℕ) where
  -- The stages.
  pub begin-stages :
      (words : List ℕ) → 1 ≤ length p.functions → 2 * length p.functions ≤ length words
      → stages_of (begun words (length p.functions)) (length p.functions) ≡ (begin p rows).stages
  unfolding begin
  begin-stages words some room =
      let count = length p.functions in
      stages-set (cleared words (2 * count)) count 0 (stage_word opened) some (rw (cleared_length words (2 * count) room) room)
      ∙ ap (λ (s : List Stage). set s 0 (word_stage (stage_word opened))) (bare-words words count)
      ∙ ap (set (replicate count bare) 0) (stage_word_lem opened)

  -- The marks.
  pub begin-marks : (marks : List ℕ) → take (length p.functions) (cleared marks (length p.functions)) ≡ (begin p rows).marks
  unfolding begin
  begin-marks marks =
      let count = length p.functions in
      take_at (replicate count 0) (drop count marks) count (length-replicate {A = ℕ} count 0)

-- There is room for handing over.
pub begin-room :
    (count : ℕ) (stages diagrams rows : List ℕ) → 2 * count ≤ length stages → 2 * count ≤ length diagrams → count ≤ RADIX
    → TakesRoom count (held (begun stages count) (cleared diagrams (2 * count)) rows)
begin-room count stages diagrams rows stages-long diagrams-long few =
    record {
      stages-long =
          rw (length-set (cleared stages (2 * count)) (2 * 0) (stage_word opened), cleared_length stages (2 * count) stages-long) stages-long;
      diagrams-long = rw (cleared_length diagrams (2 * count) diagrams-long) diagrams-long;
      rows-within = λ v l. rw (cleared-word diagrams (2 * count) (2 * v) (omega arith)) (omega arith);
      few = few;
    }
