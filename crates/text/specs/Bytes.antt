-- Byte strings compared.
use Rattle.std.specs.Prelude.{ℕ, eqb, Bool, ◌&&◌, false, true, List, [], ◌∷◌}

-- "where op is exactly the bytes `and`, `or` or `xor`": whether two byte strings are the same. (RULES 1.4)
abbrev pub same_bytes : List ℕ → List ℕ → Bool
same_bytes [] [] = true
same_bytes [] (y ∷ ys) = false
same_bytes (x ∷ xs) [] = false
same_bytes (x ∷ xs) (y ∷ ys) = eqb x y && same_bytes xs ys
