-- A first difference written from two references to the same rows.
use Prim.Native.Nat.{◌+◌, ℕ}
use Rattle.bdd.specs.Diagram.{Reference, denote}
use Rattle.bdd.specs.Difference.{digits}
use Rattle.truth.specs.Settings.{first_difference}
use Rattle.truth.specs.Truth.{Setting}
use lib.ListN.{drop, length}
use mathlib.Core.List.{List, [], ◌++◌}
use mathlib.Core.Path.{◌≡◌, refl}
use native.Mathlib.Omega.{arith}

-- The digits of the first inputs are written; a and b are left, of the last level inputs.
pub record Writing (rows : List ℕ) (n inputs f g : ℕ) (before now : List ℕ) (level a b : ℕ) : Type 0 where
  pub done : Setting
  pub at : length done + level ≡ inputs
  pub is : now ≡ digits done ++ drop (length done) before
  pub whole : done ++ first_difference (denote rows level a) (denote rows level b) ≡ first_difference (denote rows inputs f) (denote rows inputs g)
  pub first : Reference rows n level a
  pub second : Reference rows n level b
  pub long : length now ≡ length before

-- Nothing is written yet.
pub writing_begins : (rows : List ℕ) (n inputs f g : ℕ) (before : List ℕ) → Reference rows n inputs f → Reference rows n inputs g → Writing rows n inputs f g before before inputs f g
unfolding digits
writing_begins rows n inputs f g before F G = record { done = []; at = omega arith; is = refl; whole = refl; first = F; second = G; long = refl }
