-- The order of the two functions does not matter to a run.
use Prim.Native.Nat.{ℕ}
use Rattle.product_model.specs.Run.{Book, Outcome, ◌and_then◌, count_step, done, run, short_of_rows, short_of_steps}
use Rattle.truth.proofs.Steps.{terminal-symmetric}
use Rattle.truth.proofs.Values.{conj-symmetric}
use Rattle.truth.specs.Parts.{depends?}
use Rattle.truth.specs.Steps.{terminal?}
use Rattle.truth.specs.Truth.{Truth, leaf, node}
use mathlib.Core.Bool.{◌||◌, cond, or_comm}
use mathlib.Core.Path.{◌≡◌, ap₂, refl}

-- What follows is the same where it is so on every book.
then_same : {o p : Outcome} {next other : Book → Outcome} → o ≡ p → ((b : Book) → next b ≡ other b) → o and_then next ≡ p and_then other
unfolding ◌and_then◌
then_same {o} {next = next} {other = other} e h = rw (← e) (go o)
  where
    go : (o : Outcome) → o and_then next ≡ o and_then other
    go (done b) = h b
    go (short_of_rows b) = refl
    go (short_of_steps b) = refl

module _ (row_limit step_limit : ℕ) where
  -- So a run is the same in either order.
  pub run-symmetric : (f g : Truth) (b : Book) → run row_limit step_limit f g b ≡ run row_limit step_limit g f b
  unfolding run
  run-symmetric (leaf x) (leaf y) b = refl
  run-symmetric (leaf x) (node g₀ g₁) b = refl
  run-symmetric (node f₀ f₁) (leaf y) b = refl
  run-symmetric (node f₀ f₁) (node g₀ g₁) b =
      rw (terminal-symmetric (node f₀ f₁) (node g₀ g₁), or_comm (depends? (node f₀ f₁)) (depends? (node g₀ g₁)))
      (ap₂
      (λ (x y : Outcome). cond (terminal? (node g₀ g₁) (node f₀ f₁)) (count_step step_limit b) (cond (depends? (node g₀ g₁) || depends? (node f₀ f₁)) x y))
      (then_same (then_same (then_same refl (run-symmetric f₀ g₀)) (run-symmetric f₁ g₁))
      (λ c. rw (conj-symmetric f₀ g₀, conj-symmetric f₁ g₁) refl))
      (run-symmetric f₀ g₀ b))
