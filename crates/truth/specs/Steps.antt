-- Product steps: the calls of the recursive AND of two decision diagrams.
use Rattle.std.specs.Prelude.{ℕ, length, Bool, ◌||◌, cond, List, [], ◌++◌, ◌∷◌}
use Rattle.truth.specs.Parts.{alike?, depends?}
use Rattle.truth.specs.Truth.{Truth, constant?, leaf, node}

-- "The product steps of f and g are 1 if either is constant, or they are equal, or inverse." (RULES 5.6)
unfoldable pub terminal? : Truth → Truth → Bool
terminal? f g = constant? f || constant? g || alike? f g

-- The pairs that the product of f and g is called on: "Otherwise they are 1 plus the steps for both values of the lowest-numbered
-- input on which f or g depends." (RULES 5.6)
unfoldable pub calls : Truth → Truth → List (Truth × Truth)
calls (leaf a) g = (leaf a, g) ∷ []
calls (node a b) (leaf c) = (node a b, leaf c) ∷ []
calls (node a b) (node c d) =
    cond (terminal? (node a b) (node c d)) ((node a b, node c d) ∷ [])
    (cond (depends? (node a b) || depends? (node c d)) ((node a b, node c d) ∷ (calls a c ++ calls b d)) (calls a c))

-- Product steps: "1 plus" for each call. (RULES 5.6)
unfoldable pub steps : Truth → Truth → ℕ
steps f g = length (calls f g)
