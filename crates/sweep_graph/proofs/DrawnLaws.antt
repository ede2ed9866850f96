-- What handing over keeps of the diagrams and of their rows.
use Prim.Native.Nat.{◌*◌, ◌+◌, ◌/◌, ◌<◌, ◌≤◌, suc, zero, ℕ}
use Rattle.aig.proofs.IndexLaws.{row-holds}
use Rattle.aig.specs.Literal.{vertex_of}
use Rattle.aig.specs.Lookup.{first_word, second_word, with_row}
use Rattle.bdd.specs.Diagram.{edge}
use Rattle.bdd.specs.code.Owners.{with_owner}
use Rattle.sweep_graph.proofs.StageLaws.{stage_word_lem}
use Rattle.sweep_graph.proofs.TakeLaws.{handed_room, take-room}
use Rattle.sweep_graph.specs.code.Graph.{Graph}
use Rattle.sweep_graph.specs.code.Stages.{stage_word, with_stage, word_stage}
use Rattle.sweep_graph.specs.code.Takes.{Held, TakesRoom, handed_over, has_word, held, leave, take_words, taken_diagrams, takes_words, wake_words}
use Rattle.sweep_model.proofs.Rows.{row_other}
use Rattle.sweep_model.specs.Normalise.{merged?, wake}
use Rattle.sweep_model.specs.State.{gone, gone?, has?}
use Rattle.truth.proofs.Booleans.{clash}
use lib.Dec.{eqb}
use lib.Seq.{get_or-set_other, get_or-set_same}
use mathlib.Core.Bool.{Bool, cond, false, true}
use mathlib.Core.List.{List}
use mathlib.Core.Logic.{◌≢◌}
use mathlib.Core.Path.{◌∙◌, ◌≡◌, ap, refl, sym}
use native.Mathlib.Decide.{ℕ_discrete}
use native.Mathlib.Omega.{arith}

-- Waking leaves the words of other vertices.
wake-other : (w u : ℕ) (stages : List ℕ) → u ≢ w → first_word (wake_words w stages) u ≡ first_word stages u
unfolding wake_words
wake-other w u stages d = go (eqb w 0)
  where
    go : (b : Bool) → first_word (cond b stages (with_stage stages w (stage_word (wake (word_stage (first_word stages w)))))) u ≡ first_word stages u
    go true = refl
    go false = get_or-set_other stages (2 * w) (2 * u) (stage_word (wake (word_stage (first_word stages w)))) 0 (λ e. d (omega arith))

-- What holds of every vertex with a diagram, its reference and its size, holds after handing over, if it goes over from a merged vertex to its target.
module _ (Q : ℕ → ℕ → ℕ → Type 0) (count : ℕ) where
  -- Every vertex with a diagram has the property.
  abbrev pub Drawn : Held → Type 0
  Drawn h = (u : ℕ) → u < count → has_word h.stages u ≡ true → Q u (first_word h.diagrams u) (second_word h.diagrams u)

  module _
      (v x : ℕ) (h : Held) (lv : v < count) (lw : vertex_of x < count) (r : TakesRoom count h) (over : (c s : ℕ) → Q v c s → Q (vertex_of x) (edge c x) s)
      (d : Drawn h) where
    still : (u : ℕ) → u ≢ vertex_of x → has_word (wake_words (vertex_of x) h.stages) u ≡ true → has_word h.stages u ≡ true
    still u n has = sym (ap (λ (s : ℕ). has? (word_stage s)) (wake-other (vertex_of x) u h.stages n)) ∙ has

    woken_drawn : has_word h.stages (vertex_of x) ≡ true → (rows : List ℕ) → Drawn (held (wake_words (vertex_of x) h.stages) h.diagrams rows)
    woken_drawn its rows u l has =
        elim (ℕ_discrete u (vertex_of x)) [
          | yes e ↦ rw e (d (vertex_of x) lw its)
          | no n ↦ d u l (still u n has)
        ]

    given-drawn :
        has_word h.stages v ≡ true → (rows : List ℕ)
        → Drawn (held (wake_words (vertex_of x) h.stages) (with_row h.diagrams (vertex_of x) (edge (first_word h.diagrams v) x) (second_word h.diagrams v)) rows)
    given-drawn mine rows u l has =
        elim (ℕ_discrete u (vertex_of x)) [
          | yes e ↦
              let here = row-holds h.diagrams (vertex_of x) (edge (first_word h.diagrams v) x) (second_word h.diagrams v) (omega (arith, r.diagrams-long)) in
              rw (e, here.first, here.second) (over (first_word h.diagrams v) (second_word h.diagrams v) (d v lv mine))
          | no n ↦
              let other = row_other h.diagrams (vertex_of x) (edge (first_word h.diagrams v) x) (second_word h.diagrams v) u n in
              rw (other.first, other.second) (d u l (still u n has))
        ]

    handed_drawn : Drawn (handed_over v x h)
    unfolding handed_over taken_diagrams
    handed_drawn = go (has_word h.stages v) refl (has_word h.stages (vertex_of x)) refl
      where
        go :
            (a : Bool) → has_word h.stages v ≡ a → (b : Bool) → has_word h.stages (vertex_of x) ≡ b
            → Drawn
            (cond a
            (held (wake_words (vertex_of x) h.stages)
            (cond b h.diagrams (with_row h.diagrams (vertex_of x) (edge (first_word h.diagrams v) x) (second_word h.diagrams v)))
            (with_owner h.rows (first_word h.diagrams v / 2) (vertex_of x)))
            (cond b (held (wake_words (vertex_of x) h.stages) h.diagrams h.rows) h))
        go true mine true its = woken_drawn its (with_owner h.rows (first_word h.diagrams v / 2) (vertex_of x))
        go true mine false its = given-drawn mine (with_owner h.rows (first_word h.diagrams v / 2) (vertex_of x))
        go false mine true its = woken_drawn its h.rows
        go false mine false its = d

  -- A vertex that is gone has no diagram.
  left-drawn : (v : ℕ) (h : Held) → v < count → TakesRoom count h → Drawn h → Drawn (leave v h)
  unfolding has?
  left-drawn v h lv r d u l has =
      elim (ℕ_discrete u v) [
        | yes e ↦ clash (rw (e, get_or-set_same h.stages (2 * v) (stage_word gone) 0 (omega (arith, r.stages-long)), stage_word_lem gone) at has) refl
        | no n ↦ d u l
            (sym (ap (λ (s : ℕ). has? (word_stage s)) (get_or-set_other h.stages (2 * v) (2 * u) (stage_word gone) 0 (λ e. n (omega arith)))) ∙ has)
      ]

  -- One vertex's turn.
  take-drawn :
      (pairs : List ℕ) (v : ℕ) (h : Held) → v < count → vertex_of (first_word pairs v) < count → TakesRoom count h
      → (merged? pairs v ≡ true → (c s : ℕ) → Q v c s → Q (vertex_of (first_word pairs v)) (edge c (first_word pairs v)) s) → Drawn h
      → Drawn (take_words pairs v h)
  unfolding take_words
  take-drawn pairs v h lv lw r over d = go (merged? pairs v) refl (gone? (word_stage (first_word h.stages v)))
    where
      go : (a : Bool) → merged? pairs v ≡ a → (b : Bool) → Drawn (cond a (cond b h (leave v (handed_over v (first_word pairs v) h))) h)
      go true e true = d
      go true e false =
          left-drawn v (handed_over v (first_word pairs v) h) lv (handed_room v (first_word pairs v) h lv lw r)
          (handed_drawn v (first_word pairs v) h lv lw r (over e) d)
      go false e b = d

  -- n vertices' turns.
  pub takes-drawn :
      {pairs : List ℕ} {first : ℕ} → Graph first count pairs
      → ((v c s : ℕ) → first ≤ v → v < count → merged? pairs v ≡ true → Q v c s → Q (vertex_of (first_word pairs v)) (edge c (first_word pairs v)) s)
      → (n v : ℕ) (h : Held) → first ≤ v → v + n ≤ count → TakesRoom count h → Drawn h → Drawn (takes_words pairs v n h)
  unfolding takes_words
  takes-drawn g over zero v h from to r d = d
  takes-drawn {pairs} {first} g over (suc n) v h from to r d =
      let lv : v < count = omega arith in
      let lw : vertex_of (first_word pairs v) < count = omega (arith, g.downward.first_below v from lv) in
      takes-drawn g over n (suc v) (take_words pairs v h) (omega arith) (omega arith) (take-room pairs v h lv lw r)
      (take-drawn pairs v h lv lw r (λ e c s. over v c s from lv e) d)
