-- The laws of every reply: rows, steps and marks, each by its own name.
use Prim.Native.Nat.{◌+◌, ◌-◌, ◌<◌, ◌≤◌, suc, zero, ℕ}
use Rattle.product_model.proofs.Store.{holds_rows}
use Rattle.product_model.specs.code.Books.{Stored}
use Rattle.sweep_model.proofs.Apart.{apart_unlike, apart_varies}
use Rattle.sweep_model.proofs.Choices.{some-dropped}
use Rattle.sweep_model.proofs.Halt.{sweep_quiet}
use Rattle.sweep_model.proofs.Induction.{sweep-keeps}
use Rattle.sweep_model.proofs.Inputs.{own_part, part_own}
use Rattle.sweep_model.proofs.Kept.{sweep-steady}
use Rattle.sweep_model.proofs.Marked.{chosen_from, marked-chosen, marked-part, sum_sublist, together_sublist}
use Rattle.sweep_model.proofs.Replies.{Ended, Spent, marked-stored, reachable-keeps}
use Rattle.sweep_model.proofs.SomeDropped.{rest-dropped, sweep-rests}
use Rattle.sweep_model.proofs.Stages.{has_not_gone}
use Rattle.sweep_model.proofs.Steady.{alive_within}
use Rattle.sweep_model.proofs.Tidy.{made-merged}
use Rattle.sweep_model.specs.Claims.{And, Names, and_steps, ands_of, is, is_either, rows_marked, rows_marked_with_last, steps_marked_with_last, sum}
use Rattle.sweep_model.specs.Fit.{Fit, vertex_count}
use Rattle.sweep_model.specs.Normalise.{merged?, was_merged?}
use Rattle.sweep_model.specs.code.Reachable.{InputsMarked}
use Rattle.sweep_model.specs.State.{Problem, State, function_of, has?, stage_of}
use Rattle.sweep_model.specs.Sweep.{sweep, undecided}
use Rattle.sweep_model.specs.declared.Cause.TheVariants.{Rows, Size, Steps}
use Rattle.sweep_model.specs.declared.Cause.{Cause}
use Rattle.truth.proofs.Booleans.{clash}
use Rattle.truth.specs.Distinct.{among}
use Rattle.truth.specs.Parts.{alike?, parts, size, together}
use Rattle.truth.specs.Truth.{Truth, constant?, constantly, input}
use borrow.Author.Tests.{eqb-true}
use lib.ListN.{drop, get_or, length}
use lib.Seq.{get_or-drop}
use mathlib.Core.Bool.{Bool, ◌||◌, false, not, true}
use mathlib.Core.List.{List, map}
use mathlib.Core.Logic.{◌↔◌, ◌≢◌}
use mathlib.Core.Path.{◌∙◌, ◌≡◌, ap, refl, sym}
use native.Mathlib.Decide.{dec_lt, ℕ_discrete}
use native.Mathlib.Omega.{arith}

-- The state that a sweep leaves.
abbrev pub left_by : Problem → List ℕ → State
left_by p entry = (sweep p entry).left

-- The mark of a vertex in it.
abbrev pub mark_left : Problem → List ℕ → ℕ → ℕ
mark_left p entry v = get_or (left_by p entry).marks v 0

-- The functions of the first vertices and of those that were not merged at entry.
abbrev pub functions_unmerged : Problem → List ℕ → List Truth
functions_unmerged p entry = chosen_from (λ v. not (was_merged? p.first entry v)) 0 p.functions

-- The ANDs that were not merged at entry.
abbrev pub ands_unmerged : Problem → List ℕ → List And
ands_unmerged p entry = chosen_from (λ v. not (was_merged? p.first entry v)) p.first (ands_of p entry)

module _ {p : Problem} {entry : List ℕ} (fit : Fit p entry) where
  -- What holds of the verdict and of the state that it leaves.
  pub sweep-ended : Ended p entry (sweep p entry).verdict (sweep p entry).added (left_by p entry)
  sweep-ended = sweep-keeps fit (reachable-keeps fit)

  -- There is a mark a vertex.
  pub marks-long : length (left_by p entry).marks ≡ vertex_count p
  marks-long = (sweep-steady fit).marked

  -- A mark is 0, 1, 2 or 3.
  pub mark-known : (v : ℕ) → mark_left p entry v ≤ 3
  mark-known v = (sweep-ended.fits v).known

  -- The constant's mark is 0.
  pub constant-mark : mark_left p entry 0 ≡ 0
  constant-mark = (sweep-ended.fits 0).constant refl

  -- A vertex is marked 3 exactly where the verdict names it.
  pub three_named : (v : ℕ) → Names (sweep p entry).verdict v ↔ (mark_left p entry v ≡ 3)
  three_named = sweep-ended.three

  -- A vertex marked 2 is a made vertex.
  pub two_made : (v : ℕ) → mark_left p entry v ≡ 2 → p.first ≤ v
  two_made v = (sweep-ended.fits v).made

  -- It is larger than the size limit.
  pub two_large : (v : ℕ) → mark_left p entry v ≡ 2 → p.limits.size < size (function_of p v)
  two_large v = (sweep-ended.fits v).large

  -- A made vertex marked 1 is not larger than the size limit.
  pub one-small : (v : ℕ) → p.first ≤ v → mark_left p entry v ≡ 1 → size (function_of p v) ≤ p.limits.size
  one-small v made e = (sweep-ended.fits v).small e made

  -- A vertex that was merged at entry has no mark.
  pub merged-unmarked : (v : ℕ) → was_merged? p.first entry v ≡ true → mark_left p entry v ≡ 0
  merged-unmarked v e =
      elim (ℕ_discrete (mark_left p entry v) 0) [
        | yes i ↦ i
        | no i ↦ clash e ((sweep-ended.fits v).unmerged i)
      ]

  -- A made vertex with a mark was not merged at entry.
  pub marked-unmerged : (v : ℕ) → p.first ≤ v → mark_left p entry v ≢ 0 → merged? entry v ≡ false
  marked-unmerged v made d = sym (made-merged p.first entry v made) ∙ (sweep-ended.fits v).unmerged d

  -- An input is marked 1 exactly where it has a diagram.
  pub input_diagram : (v : ℕ) → 1 ≤ v → v < p.first → (mark_left p entry v ≡ 1) ↔ (has? (stage_of (left_by p entry).stages v) ≡ true)
  input_diagram = sweep-ended.inputs

  -- Every input is marked 1 before a made vertex is marked.
  pub inputs-first : (v : ℕ) → p.first ≤ v → mark_left p entry v ≢ 0 → InputsMarked p (left_by p entry).marks
  inputs-first = sweep-ended.inputs-first

  -- After Size and Steps, and after Rows at a made vertex, every input is marked 1.
  pub inputs-marked :
      (c : Cause) → (sweep p entry).verdict ≡ undecided c → ((v : ℕ) → c ≡ Rows v → p.first ≤ v) → InputsMarked p (left_by p entry).marks
  inputs-marked = sweep-ended.all-inputs

  -- A vertex marked 1 has its rows in the store.
  pub one-stored : (v : ℕ) → mark_left p entry v ≡ 1 → Stored (function_of p v) (left_by p entry).book.store
  one-stored = marked-stored p (left_by p entry).marks (left_by p entry).book marks-long sweep-ended.holds

  -- An input is marked 1 exactly where its row is in the store.
  pub input-row : (v : ℕ) → 1 ≤ v → v < p.first → (mark_left p entry v ≡ 1) ↔ Stored (function_of p v) (left_by p entry).book.store
  input-row zero l h = absurd (omega arith)
  input-row (suc i) l h = (
    one-stored (suc i),
    λ w.
        go (marked-part (is 1) (left_by p entry).marks p.functions (constantly p.inputs false) row (sym (sweep-ended.holds.members row) ∙ w row own)),
  )
    where
      row : Truth
      row = input (p.inputs - i) 1

      inside : i < p.inputs
      inside = omega (arith, fit.well_formed.first-few)

      own : among alike? row (parts (function_of p (suc i))) ≡ true
      own = rw (fit.well_formed.inputs (suc i) l h) (own_part p.inputs i inside)

      -- The vertex marked 1 that has the row is this input, or a made vertex.
      from : (u : ℕ) → u < p.first → mark_left p entry u ≡ 1 → among alike? row (parts (function_of p u)) ≡ true → mark_left p entry (suc i) ≡ 1
      from zero k e f = absurd (omega (arith, constant-mark))
      from (suc j) k e f =
          let same = part_own p.inputs i j inside (omega (arith, fit.well_formed.first-few)) (rw (fit.well_formed.inputs (suc j) (omega arith) k) at f) in
          ap (λ (x : ℕ). mark_left p entry (suc x)) same ∙ e

      go : (u : ℕ) × (u < vertex_count p) × (is 1 (mark_left p entry u) ≡ true) × (among alike? row (parts (function_of p u)) ≡ true)
          → mark_left p entry (suc i) ≡ 1
      go x =
          let e = eqb-true (mark_left p entry x.0) 1 x.2 in
          elim (dec_lt x.0 p.first) [
            | yes k ↦ from x.0 k e x.3
            | no k ↦ inputs-first x.0 (omega arith) (λ z. omega arith) (suc i) l h
          ]

  -- A vertex with a diagram has its rows in the store.
  pub diagram_stored : (v : ℕ) → has? (stage_of (left_by p entry).stages v) ≡ true → Stored (function_of p v) (left_by p entry).book.store
  diagram_stored = sweep-ended.stored

  -- Two different vertices with diagrams are neither equal nor inverse.
  pub diagrams-apart :
      (u v : ℕ) → u ≢ v → has? (stage_of (left_by p entry).stages u) ≡ true → has? (stage_of (left_by p entry).stages v) ≡ true
      → alike? (function_of p u) (function_of p v) ≡ false
  diagrams-apart = apart_unlike p (left_by p entry).stages sweep-ended.apart

  -- A vertex with a diagram, other than the constant, is not constant.
  pub diagram_varies : (v : ℕ) → v ≢ 0 → has? (stage_of (left_by p entry).stages v) ≡ true → constant? (function_of p v) ≡ false
  diagram_varies v d e =
      apart_varies p (left_by p entry).stages sweep-ended.apart fit.well_formed (sweep-steady fit).staged.constant v d
      (alive_within (sweep-steady fit) v (has_not_gone (stage_of (left_by p entry).stages v) e)) e

  -- Rows are the distinct parts of the functions marked 1.
  pub rows-counted : length (left_by p entry).book.store ≡ rows_marked p (left_by p entry).marks
  rows-counted = holds_rows sweep-ended.proper sweep-ended.holds

  -- They are within the limit.
  pub rows-within : length (left_by p entry).book.store ≤ p.limits.rows
  rows-within = sweep-ended.proper.rows

  -- What the verdict says of rows, steps and rows added, the operands by the entry rows.
  pub sweep-spent :
      Spent p entry (left_by p entry).marks (sweep p entry).verdict (length (left_by p entry).book.store) (left_by p entry).book.steps (sweep p entry).added
  sweep-spent = sweep-ended.spent

  -- Steps are within the limit.
  pub steps-within : (left_by p entry).book.steps ≤ p.limits.steps
  steps-within = sweep-ended.proper.taken

  -- After Size some vertex is marked 2: one that is dropped.
  pub size-some : (sweep p entry).verdict ≡ undecided Size → (v : ℕ) × (v < vertex_count p) × (mark_left p entry v ≡ 2)
  size-some e =
      let d = some-dropped (left_by p entry).stages (rest-dropped (sweep-rests fit e) fit) in
      let reach = (sweep_quiet fit (reachable-keeps fit) e).reached.kept in
      (d.0, omega (arith, d.1, reach.steady.staged.long), (reach.fits d.0).dropped_two d.2)

  -- A vertex whose mark passes a test that 0 does not was not merged at entry.
  chosen : (test : ℕ → Bool) → test 0 ≡ false → (v : ℕ) → test (mark_left p entry v) ≡ true → not (was_merged? p.first entry v) ≡ true
  chosen test none v e =
      ap not ((sweep-ended.fits v).unmerged (λ z. clash e (ap test z ∙ none)))

  -- The functions marked 1 or 3 are among those not merged at entry.
  pub rows-bounded : rows_marked_with_last p (left_by p entry).marks ≤ together (functions_unmerged p entry)
  rows-bounded =
      together_sublist
      (marked-chosen (is_either 1 3) (λ v. not (was_merged? p.first entry v)) (left_by p entry).marks p.functions 0
      (λ i e. let z : 0 + i ≡ i = omega arith in rw z (chosen (is_either 1 3) refl i e)))

  -- The ANDs marked 1, 2 or 3 are among those not merged at entry.
  pub steps-bounded : steps_marked_with_last p entry (left_by p entry).marks ≤ sum (map and_steps (ands_unmerged p entry))
  steps-bounded =
      sum_sublist and_steps
      (marked-chosen (λ m. is_either 1 2 m || is 3 m) (λ v. not (was_merged? p.first entry v)) (drop p.first (left_by p entry).marks) (ands_of p entry) p.first
      (λ i e. chosen (λ m. is_either 1 2 m || is 3 m) refl (p.first + i) (rw (get_or-drop p.first (left_by p entry).marks i 0) at e)))

  -- After Rows the vertices not merged at entry have more parts than the row limit.
  pub rows_short : (v : ℕ) → (sweep p entry).verdict ≡ undecided (Rows v) → p.limits.rows < together (functions_unmerged p entry)
  rows_short v e = let x = rw e at sweep-spent in omega (arith, x.over, rows-bounded)

  -- After Steps the ANDs not merged at entry take more steps than the step limit.
  pub steps-short : (v : ℕ) → (sweep p entry).verdict ≡ undecided (Steps v) → p.limits.steps < sum (map and_steps (ands_unmerged p entry))
  steps-short v e = let x = rw e at sweep-spent in omega (arith, x.over, steps-bounded)
