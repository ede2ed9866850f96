-- Boolean functions of some inputs as truth tables.
use Rattle.std.specs.Prelude.{suc, zero, ℕ, Bool, ◌&&◌, cond, false, not, true, List, [], ◌∷◌}
use Rattle.std.specs.Bool.{beq}

-- A function of the inputs not yet passed. A leaf is a value; a node has the half where the next input is 0 and the half where it
-- is 1. Input 1 is tested at the root, so the leaves stand in counting order: "input 1 is the leading digit, 0 before 1". (RULES 7.1)
pub data Truth : Type 0 where
  leaf : Bool → Truth
  node : Truth → Truth → Truth

-- A function of exactly m inputs: every way to a leaf has m nodes.
pub data Perfect : ℕ → Truth → Type 0 where
  whole : {b : Bool} → Perfect zero (leaf b)
  halves : {m : ℕ} {f g : Truth} → Perfect m f → Perfect m g → Perfect (suc m) (node f g)

-- A setting (assignment) of the inputs, a digit each, input 1 first. (RULES 1.10)
abbrev pub Setting : Type 0
Setting = List Bool

-- "On a setting an input has its digit": each digit picks a half. A missing digit counts as 0. (RULES 1.10)
unfoldable pub value_at : Truth → Setting → Bool
value_at (leaf b) s = b
value_at (node f g) [] = value_at f []
value_at (node f g) (x ∷ s) = cond x (value_at g s) (value_at f s)

-- "Vertex 0 is constant false": the constant b of n inputs. (RULES 1.6)
unfoldable pub constantly : ℕ → Bool → Truth
constantly zero b = leaf b
constantly (suc n) b = node (constantly n b) (constantly n b)

-- "vertices 1 to inputs are the inputs": vertex i of n inputs, the constant false at 0. (RULES 1.6)
unfoldable pub input : ℕ → ℕ → Truth
input zero i = leaf false
input (suc n) zero = constantly (suc n) false
input (suc n) (suc zero) = node (constantly n false) (constantly n true)
input (suc n) (suc (suc i)) = node (input n (suc i)) (input n (suc i))

-- "plus 1 if inverted": the inversion of a function. (RULES 1.7, 1.10)
unfoldable pub invert : Truth → Truth
invert (leaf b) = leaf (not b)
invert (node f g) = node (invert f) (invert g)

-- "the and, or or exclusive or of its references": the conjunction. A leaf beside a node is a constant of its inputs. (RULES 1.10)
unfoldable pub conj : Truth → Truth → Truth
conj (leaf a) g = cond a g (leaf false)
conj (node a b) (leaf c) = cond c (node a b) (leaf false)
conj (node a b) (node c d) = node (conj a c) (conj b d)

-- "`or` is the inversion of (not p) and (not q)." (RULES 1.9)
unfoldable pub disj : Truth → Truth → Truth
disj f g = invert (conj (invert f) (invert g))

-- "`xor` stands for three ANDs in this order: p with not q, not p with q, then the inversions of these two results; the gate's
-- value is the inversion of the third." (RULES 1.9)
unfoldable pub exclusive : Truth → Truth → Truth
exclusive f g = invert (conj (invert (conj f (invert g))) (invert (conj (invert f) g)))

-- Whether two functions are equal.
unfoldable pub same? : Truth → Truth → Bool
same? (leaf a) (leaf b) = beq a b
same? (leaf a) (node c d) = false
same? (node a b) (leaf c) = false
same? (node a b) (node c d) = same? a c && same? b d

-- Whether a function is constant: it depends on no input.
unfoldable pub constant? : Truth → Bool
constant? (leaf b) = true
constant? (node f g) = same? f g && constant? f
