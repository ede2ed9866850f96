-- A run by its cases.
use Prim.Native.Nat.{ℕ}
use Rattle.product_model.specs.Run.{Book, ◌and_then◌, add_row, count_step, run}
use Rattle.truth.proofs.Equality.{same-reflexive}
use Rattle.truth.specs.Parts.{alike?, depends?}
use Rattle.truth.specs.Steps.{terminal?}
use Rattle.truth.specs.Truth.{Truth, conj, constant?, invert, leaf, node, same?}
use mathlib.Core.Bool.{Bool, ◌&&◌, ◌||◌, and_self, cond, false, true}
use mathlib.Core.Path.{◌≡◌, ap₂, refl, sym}

terminal_skip : (f g : Truth) → terminal? (node f f) (node g g) ≡ terminal? f g
unfolding terminal? constant? alike? same? invert
terminal_skip f g =
    ap₂ ◌||◌ (ap₂ ◌||◌ (constant_skip f) (constant_skip g)) (ap₂ ◌||◌ (and_self (same? f g)) (and_self (same? f (invert g))))
  where
    constant_skip : (t : Truth) → same? t t && constant? t ≡ constant? t
    constant_skip t = rw (same-reflexive t)

module _ (row_limit step_limit : ℕ) where
  -- A terminal pair takes one step.
  pub run-terminal : (f g : Truth) (b : Book) → terminal? f g ≡ true → run row_limit step_limit f g b ≡ count_step step_limit b
  unfolding run
  run-terminal (leaf x) g b e = refl
  run-terminal (node f₀ f₁) (leaf y) b e = refl
  run-terminal (node f₀ f₁) (node g₀ g₁) b e = rw e

  -- An input that neither function depends on changes nothing in their run.
  pub run_skip : (f g : Truth) (b : Book) → run row_limit step_limit (node f f) (node g g) b ≡ run row_limit step_limit f g b
  unfolding run depends?
  run_skip f g b = rw (terminal_skip f g, same-reflexive f, same-reflexive g) (go (terminal? f g) refl)
    where
      go : (t : Bool) → terminal? f g ≡ t → cond t (count_step step_limit b) (run row_limit step_limit f g b) ≡ run row_limit step_limit f g b
      go true e = sym (run-terminal f g b e)
      go false e = refl

  -- Otherwise one step, value 0, value 1, and the row of the conjunction.
  pub run-both : (f₀ f₁ g₀ g₁ : Truth) (b : Book) → terminal? (node f₀ f₁) (node g₀ g₁) ≡ false → depends? (node f₀ f₁) || depends? (node g₀ g₁) ≡ true
      → run row_limit step_limit (node f₀ f₁) (node g₀ g₁) b
      ≡ (count_step step_limit b and_then run row_limit step_limit f₀ g₀ and_then run row_limit step_limit f₁ g₁ and_then add_row row_limit (conj f₀ g₀) (conj f₁ g₁))
  unfolding run
  run-both f₀ f₁ g₀ g₁ b e d = rw (e, d)
