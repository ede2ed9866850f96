-- Pairs of operands.
use Rattle.std.specs.Prelude.{◌≡◌}

-- The same two operands, in either order.
pub data SamePair {A : Type 0} (x y p q : A) : Type 0 where
  straight : x ≡ p → y ≡ q → SamePair x y p q
  crossed : x ≡ q → y ≡ p → SamePair x y p q
