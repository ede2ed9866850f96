-- Laws of lists whose members are all members of another.
use Rattle.truth.proofs.Booleans.{clash, or_cases, or_left, or_right}
use Rattle.truth.proofs.Distinct.{Within, among_append, among-congruent}
use Rattle.truth.specs.Distinct.{Sameness, among}
use mathlib.Core.Bool.{Bool, or-false, true}
use mathlib.Core.List.{List, [], ◌++◌, ◌∷◌}
use mathlib.Core.Logic.{⊎_elim}
use mathlib.Core.Path.{◌∙◌, ◌≡◌, refl, sym}

module _ {A : Type 0} (same : A → A → Bool) where
  -- The empty list has no members.
  pub within_none : (ys : List A) → Within same [] ys
  unfolding among
  within_none ys z h = clash h refl

  -- Two lists after one another have the members of both, and no others.
  pub within-left : (xs ys : List A) → Within same xs (xs ++ ys)
  within-left xs ys z h = among_append same z xs ys ∙ or_left (among same z xs) (among same z ys) h

  pub within-right : (xs ys : List A) → Within same ys (xs ++ ys)
  within-right xs ys z h = among_append same z xs ys ∙ or_right (among same z xs) (among same z ys) h

  pub within_append : (xs ys zs : List A) → Within same xs zs → Within same ys zs → Within same (xs ++ ys) zs
  within_append xs ys zs f g z h = ⊎_elim (f z) (g z) (or_cases (among same z xs) (among same z ys) (sym (among_append same z xs ys) ∙ h))

  -- One member.
  pub within-one : Sameness same → (x : A) (ys : List A) → among same x ys ≡ true → Within same (x ∷ []) ys
  unfolding among
  within-one S x ys e z h = among-congruent same S z x ys (sym (or-false (same z x)) ∙ h) ∙ e
