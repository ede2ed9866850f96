-- Two references at the highest input on which either depends, and the products that end at once.
use Rattle.std.specs.Prelude.{◌/◌, max, ℕ, false, true, List, None, Option, Some, ◌≡◌}
use Rattle.bdd.specs.Diagram.{Canonical, Reference, cofactor, denote}
use Rattle.bdd.specs.code.Rows.{level_at}
use Rattle.bdd.specs.declared.references.Halves.{Halves}
use Rattle.truth.specs.Steps.{terminal?}
use Rattle.truth.specs.Truth.{conj}

-- The higher level of f and g, "the lowest-numbered input on which f or g depends", and the cofactors there. (RULES 5.6)
pub record Halved (rows : List ℕ) (f g : ℕ) (h : Halves) : Type 0 where
  pub level : h.level ≡ max (level_at rows (f / 2)) (level_at rows (g / 2))
  pub f0 : h.f0 ≡ cofactor rows false h.level f
  pub f1 : h.f1 ≡ cofactor rows true h.level f
  pub g0 : h.g0 ≡ cofactor rows false h.level g
  pub g1 : h.g1 ≡ cofactor rows true h.level g

-- "The product steps of f and g are 1 if either is constant, or they are equal, or inverse.": in every store r is their AND. (RULES 5.6)
pub record EndsAt (f g r : ℕ) : Type 0 where
  pub terminal : (rows : List ℕ) (n m : ℕ) → Canonical rows n → Reference rows n m f → Reference rows n m g → terminal? (denote rows m f) (denote rows m g) ≡ true
  pub product : (rows : List ℕ) (n m : ℕ) → Canonical rows n → Reference rows n m f → Reference rows n m g → denote rows m r ≡ conj (denote rows m f) (denote rows m g)
  pub reference : (rows : List ℕ) (n m : ℕ) → Canonical rows n → Reference rows n m f → Reference rows n m g → Reference rows n m r

-- "Otherwise": in no store does their product end at once. (RULES 5.6)
pub record GoesOn (f g : ℕ) : Type 0 where
  pub going : (rows : List ℕ) (n m : ℕ) → Canonical rows n → Reference rows n m f → Reference rows n m g → terminal? (denote rows m f) (denote rows m g) ≡ false

-- What `ends` gives, by its answer.
abbrev pub Ends : ℕ → ℕ → Option ℕ → Type 0
Ends f g (Some r) = EndsAt f g r
Ends f g None = GoesOn f g
