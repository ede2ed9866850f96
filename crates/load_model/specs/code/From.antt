-- Where rows come from: ANDs that were asked for, each row from one of its own, in order.
use Rattle.std.specs.Prelude.{◌+◌, ℕ, List, [], ◌∷◌}
use Rattle.aig.specs.Pairs.{SamePair}

-- The operands of some rows come, row by row, from ANDs further and further on.
pub data From {A : Type 0} : List (A × A) → List (A × A) → Type 0 where
  none : From [] []
  made : {x y : A × A} {xs ys : List (A × A)} → SamePair x.0 x.1 y.0 y.1 → From xs ys → From (x ∷ xs) (y ∷ ys)
  other : {y : A × A} {xs ys : List (A × A)} → From xs ys → From xs (y ∷ ys)

-- The sum over pairs.
unfoldable pub total : {A : Type 0} → (A → A → ℕ) → List (A × A) → ℕ
total f [] = 0
total f (x ∷ xs) = f x.0 x.1 + total f xs
