-- Functions of one depth are equal where they agree on all settings; the test decides equality; inverse functions.
use Prim.Native.Nat.{suc, zero, ℕ}
use Rattle.truth.proofs.Booleans.{and_left, and_right, beq_equal, beq_reflexive, clash, iff_equal, or_cases, or_left, or_right}
use Rattle.truth.proofs.Values.{value-invert}
use Rattle.truth.specs.Parts.{alike?}
use Rattle.truth.specs.Truth.{Perfect, Setting, Truth, constant?, constantly, halves, invert, leaf, node, same?, value_at, whole}
use lib.ListN.{length}
use mathlib.Core.Bool.{Bool, not-not, false, not, true}
use mathlib.Core.List.{[], ◌∷◌}
use mathlib.Core.Logic.{◌⊎◌, inl, inr, ⊎_elim}
use mathlib.Core.Path.{◌∙◌, ◌≡◌, ap, ap₂, refl, sym}

-- Two functions of m inputs that agree on every setting are equal.
pub agree-equal : {m : ℕ} {f g : Truth} → Perfect m f → Perfect m g
    → ((s : Setting) → length s ≡ m → value_at f s ≡ value_at g s) → f ≡ g
unfolding value_at
agree-equal whole whole h = ap leaf (h [] refl)
agree-equal (halves p q) (halves u v) h =
    ap₂ node (agree-equal p u (λ s e. h (false ∷ s) (ap suc e))) (agree-equal q v (λ s e. h (true ∷ s) (ap suc e)))

-- The test decides equality.
pub same-equal : (f g : Truth) → same? f g ≡ true → f ≡ g
unfolding same?
same-equal (leaf a) (leaf b) h = ap leaf (beq_equal a b h)
same-equal (leaf a) (node c d) h = clash h refl
same-equal (node a b) (leaf c) h = clash h refl
same-equal (node a b) (node c d) h =
    ap₂ node (same-equal a c (and_left (same? a c) (same? b d) h)) (same-equal b d (and_right (same? a c) (same? b d) h))

pub same-reflexive : (f : Truth) → same? f f ≡ true
unfolding same?
same-reflexive (leaf b) = beq_reflexive b
same-reflexive (node f g) = rw (same-reflexive f, same-reflexive g)

pub equal-same : {f g : Truth} → f ≡ g → same? f g ≡ true
equal-same {f} e = rw (← e) (same-reflexive f)

-- Where one equality follows from another and back, the tests are equal.
pub same_iff : {f g f' g' : Truth} → (f ≡ g → f' ≡ g') → (f' ≡ g' → f ≡ g) → same? f g ≡ same? f' g'
same_iff {f} {g} {f'} {g'} h k =
    iff_equal (same? f g) (same? f' g') (λ e. equal-same (h (same-equal f g e))) (λ e. equal-same (k (same-equal f' g' e)))

-- Inverting twice changes nothing.
pub invert-twice : (f : Truth) → invert (invert f) ≡ f
unfolding invert
invert-twice (leaf b) = ap leaf (not-not b)
invert-twice (node f g) = ap₂ node (invert-twice f) (invert-twice g)

-- An inversion may change sides.
pub invert_across : {f g : Truth} → invert f ≡ g → f ≡ invert g
invert_across {f} e = sym (invert-twice f) ∙ ap invert e

pub invert_injective : {f g : Truth} → invert f ≡ invert g → f ≡ g
invert_injective {f} {g} e = invert_across e ∙ invert-twice g

pub same-invert : (f g : Truth) → same? (invert f) (invert g) ≡ same? f g
same-invert f g = same_iff invert_injective (ap invert)

-- No function is its own inverse.
pub invert_differs : (f : Truth) → invert f ≡ f → ⊥
invert_differs f e = not_self (value_at f []) (sym (value-invert f []) ∙ ap (λ g. value_at g []) e)
  where
    not_self : (b : Bool) → not b ≡ b → ⊥
    not_self true h = clash refl (sym h)
    not_self false h = clash refl h

-- Two functions are alike exactly where they are equal or inverse.
pub alike-cases : (f g : Truth) → alike? f g ≡ true → (f ≡ g) ⊎ (f ≡ invert g)
unfolding alike?
alike-cases f g h =
    ⊎_elim (λ e. inl (same-equal f g e)) (λ e. inr (same-equal f (invert g) e)) (or_cases (same? f g) (same? f (invert g)) h)

pub equal-alike : {f g : Truth} → f ≡ g → alike? f g ≡ true
unfolding alike?
equal-alike {f} {g} e = or_left (same? f g) (same? f (invert g)) (equal-same e)

pub inverse-alike : (f g : Truth) → f ≡ invert g → alike? f g ≡ true
unfolding alike?
inverse-alike f g e = or_right (same? f g) (same? f (invert g)) (equal-same e)

-- What passes the test of a constant is one, and a constant passes it.
pub constant-equal : {m : ℕ} {f : Truth} → Perfect m f → constant? f ≡ true → f ≡ constantly m (value_at f [])
unfolding constant? constantly value_at
constant-equal whole h = refl
constant-equal (halves {f = f} {g = g} p q) h =
    let e = constant-equal p (and_right (same? f g) (constant? f) h) in
    ap₂ node e (sym (same-equal f g (and_left (same? f g) (constant? f) h)) ∙ e)

pub constantly-constant : (n : ℕ) (b : Bool) → constant? (constantly n b) ≡ true
unfolding constant? constantly
constantly-constant zero b = refl
constantly-constant (suc n) b = rw (same-reflexive (constantly n b)) (constantly-constant n b)
