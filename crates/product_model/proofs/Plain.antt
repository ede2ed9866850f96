-- The plain form: one function stands for itself and its inverse.
use Rattle.product_model.specs.Run.{plain}
use Rattle.truth.proofs.Equality.{equal-alike}
use Rattle.truth.proofs.Parts.{alike-invert}
use Rattle.truth.proofs.Values.{value-invert}
use Rattle.truth.specs.Parts.{alike?}
use Rattle.truth.specs.Truth.{Truth, invert, value_at}
use mathlib.Core.Bool.{Bool, cond, false, not, true}
use mathlib.Core.List.{[]}
use mathlib.Core.Path.{◌∙◌, ◌≡◌, ap, refl, sym}

-- It is false on the all-zero setting.
pub plain_false : (f : Truth) → value_at (plain f) [] ≡ false
unfolding plain
plain_false f = go (value_at f []) refl
  where
    go : (b : Bool) → value_at f [] ≡ b → value_at (cond b (invert f) f) [] ≡ false
    go true e = value-invert f [] ∙ ap not e
    go false e = e

-- What is alike to the plain form is alike to the function.
pub alike-plain : (t f : Truth) → alike? t (plain f) ≡ alike? t f
unfolding plain
alike-plain t f = go (value_at f [])
  where
    go : (b : Bool) → alike? t (cond b (invert f) f) ≡ alike? t f
    go true = alike-invert t f
    go false = refl

pub plain-self : (f : Truth) → alike? (plain f) f ≡ true
plain-self f = sym (alike-plain (plain f) f) ∙ equal-alike {f = plain f} refl
