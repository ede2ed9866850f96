-- A run depends on which parts have rows, not on the order of the rows or on which of two inverse functions stands in one.
use Prim.Native.Nat.{◌+◌, suc, ℕ}
use Rattle.product_model.specs.Run.{Book, Outcome, ◌and_then◌, add_part, add_row, count_step, done, plain, run, short_of_rows, short_of_steps, with_row, with_step}
use Rattle.truth.specs.Distinct.{among}
use Rattle.truth.specs.Parts.{alike?, depends?}
use Rattle.truth.specs.Steps.{terminal?}
use Rattle.truth.specs.Truth.{Truth, conj, leaf, node, same?}
use lib.Dec.{ltb}
use lib.ListN.{length}
use mathlib.Core.Bool.{Bool, ◌||◌, cond, false, true}
use mathlib.Core.Path.{◌≡◌, ap, subst, subst₂}

-- Two books with the same steps and as many rows, of the same parts up to inversion.
pub record SameRows (b c : Book) : Type 0 where
  pub steps : b.steps ≡ c.steps
  pub count : length b.store ≡ length c.store
  pub members : (t : Truth) → among alike? t b.store ≡ among alike? t c.store

-- Two outcomes of one kind with such books.
pub data SameOutcome : Outcome → Outcome → Type 0 where
  both-done : {b c : Book} → SameRows b c → SameOutcome (done b) (done c)
  both-short_of_rows : {b c : Book} → SameRows b c → SameOutcome (short_of_rows b) (short_of_rows c)
  both-short_of_steps : {b c : Book} → SameRows b c → SameOutcome (short_of_steps b) (short_of_steps c)

-- Both are short of rows,
pub both-rows : {b c : Book} → SameOutcome (short_of_rows b) (short_of_rows c) → SameRows b c
both-rows (both-short_of_rows h) = h

-- or of steps.
pub both-steps : {b c : Book} → SameOutcome (short_of_steps b) (short_of_steps c) → SameRows b c
both-steps (both-short_of_steps h) = h

-- What follows two such outcomes, where it is such on such books.
then_same :
    {o p : Outcome} {next other : Book → Outcome} → SameOutcome o p → ((b c : Book) → SameRows b c → SameOutcome (next b) (other c))
    → SameOutcome (o and_then next) (p and_then other)
unfolding ◌and_then◌
then_same (both-done {b} {c} h) k = k b c h
then_same (both-short_of_rows h) k = both-short_of_rows h
then_same (both-short_of_steps h) k = both-short_of_steps h

-- The same choice by a test.
choose_same : (x : Bool) {o p q r : Outcome} → SameOutcome o p → SameOutcome q r → SameOutcome (cond x o q) (cond x p r)
choose_same true h k = h
choose_same false h k = k

module _ (row_limit step_limit : ℕ) where
  -- One step more,
  count_same : {b c : Book} → SameRows b c → SameOutcome (count_step step_limit b) (count_step step_limit c)
  unfolding count_step
  count_same {b} {c} h =
      subst (λ (x : Bool). SameOutcome (count_step step_limit b) (cond x (done (with_step c)) (short_of_steps c))) (ap (λ (n : ℕ). ltb n step_limit) h.steps)
      (choose_same (ltb b.steps step_limit)
      (both-done (record { steps = ap (λ (n : ℕ). n + 1) h.steps; count = h.count; members = h.members }))
      (both-short_of_steps h))

  -- one part added,
  part_same : (f : Truth) {b c : Book} → SameRows b c → SameOutcome (add_part row_limit f b) (add_part row_limit f c)
  unfolding add_part among
  part_same f {b} {c} h =
      subst₂ (λ (x y : Bool). SameOutcome (add_part row_limit f b) (cond x (done c) (cond y (done (with_row f c)) (short_of_rows c)))) (h.members f)
      (ap (λ (n : ℕ). ltb n row_limit) h.count)
      (choose_same (among alike? f b.store) (both-done h)
      (choose_same (ltb (length b.store) row_limit)
      (both-done (record { steps = h.steps; count = ap suc h.count; members = λ t. ap (◌||◌ (alike? t (plain f))) (h.members t) }))
      (both-short_of_rows h)))

  -- one row added,
  row_same : (low high : Truth) {b c : Book} → SameRows b c → SameOutcome (add_row row_limit low high b) (add_row row_limit low high c)
  unfolding add_row
  row_same low high h = choose_same (same? low high) (both-done h) (part_same (node low high) h)

  -- and so a whole run.
  pub run-same : (f g : Truth) {b c : Book} → SameRows b c → SameOutcome (run row_limit step_limit f g b) (run row_limit step_limit f g c)
  unfolding run
  run-same (leaf x) g h = count_same h
  run-same (node f₀ f₁) (leaf y) h = count_same h
  run-same (node f₀ f₁) (node g₀ g₁) h =
      choose_same (terminal? (node f₀ f₁) (node g₀ g₁)) (count_same h)
      (choose_same (depends? (node f₀ f₁) || depends? (node g₀ g₁))
      (then_same (then_same (then_same (count_same h) (λ b c. run-same f₀ g₀)) (λ b c. run-same f₁ g₁)) (λ b c. row_same (conj f₀ g₀) (conj f₁ g₁)))
      (run-same f₀ g₀ h))
