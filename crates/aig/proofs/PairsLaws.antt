-- The laws of the same two operands in either order.
use Rattle.aig.specs.Pairs.{SamePair, crossed, straight}
use mathlib.Core.Path.{◌∙◌, ◌≡◌, ap, ap₂}

module _ {A : Type 0} where
  -- Two pairs that are the same as a third are the same.
  pub pair_then : {a b c d e f : A} → SamePair a b c d → SamePair c d e f → SamePair a b e f
  pair_then (straight x y) (straight z w) = straight (x ∙ z) (y ∙ w)
  pair_then (straight x y) (crossed z w) = crossed (x ∙ z) (y ∙ w)
  pair_then (crossed x y) (straight z w) = crossed (x ∙ w) (y ∙ z)
  pair_then (crossed x y) (crossed z w) = straight (x ∙ w) (y ∙ z)

  -- A function has the same two values on the same two operands.
  pub pair_map : {B : Type 0} (f : A → B) {x y p q : A} → SamePair x y p q → SamePair (f x) (f y) (f p) (f q)
  pair_map f (straight h k) = straight (ap f h) (ap f k)
  pair_map f (crossed h k) = crossed (ap f h) (ap f k)

  -- What holds of each of two operands holds of each of the same two.
  pub pair-each : (P : A → Type 0) {x y p q : A} → SamePair x y p q → P p → P q → P x × P y
  pair-each P (straight h k) a b = (rw h a, rw k b)
  pair-each P (crossed h k) a b = (rw h b, rw k a)

  -- What is symmetric has one value on the same two operands.
  pub same-pair-value : {B : Type 0} (f : A → A → B) → ((x y : A) → f x y ≡ f y x) → {x y p q : A} → SamePair x y p q → f x y ≡ f p q
  same-pair-value f comm (straight h k) = ap₂ f h k
  same-pair-value f comm {p = p} {q = q} (crossed h k) = ap₂ f h k ∙ comm q p
