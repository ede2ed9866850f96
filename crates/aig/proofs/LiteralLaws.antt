-- The laws of literals.
use Prim.Native.Nat.{◌%◌, ◌*◌, ◌+◌, ◌<◌, ℕ}
use Rattle.aig.specs.Literal.{inverted?, literal_of, negate, onto, vertex_of}
use borrow.Author.Tests.{eq-eqb, eqb-false, eqb-true, ne_eqb}
use mathlib.Core.Bool.{Bool, false, not, true}
use mathlib.Core.Path.{◌≡◌, refl}
use native.Mathlib.Omega.{arith}

-- The inversion of an inversion is the literal.
pub negate-negate : (r : ℕ) → negate (negate r) ≡ r
negate-negate r = omega arith

-- Two literals are inverse to each other or not at all.
pub negate-swap : (p q : ℕ) → negate p ≡ q → negate q ≡ p
negate-swap p q e = omega arith

-- A literal and its inversion name one vertex.
pub vertex-negate : (r : ℕ) → vertex_of (negate r) ≡ vertex_of r
vertex-negate r = omega arith

-- An inversion is inverted where the literal is not.
pub inverted-negate : (r : ℕ) → inverted? (negate r) ≡ not (inverted? r)
inverted-negate r = go (inverted? r) refl
  where
    go : (b : Bool) → inverted? r ≡ b → inverted? (negate r) ≡ not b
    go true e = let h : r % 2 ≡ 1 = eqb-true (r % 2) 1 e in ne_eqb (negate r % 2) 1 (omega arith)
    go false e = let h : (r % 2 ≡ 1 → ⊥) = eqb-false (r % 2) 1 e in eq-eqb (negate r % 2) 1 (omega arith)

-- An inversion keeps an even bound.
pub negate-below : (r n : ℕ) → r < 2 * n → negate r < 2 * n
negate-below r n h = omega arith

-- A literal below twice a number names a vertex below it.
pub vertex-below : (r n : ℕ) → r < 2 * n → vertex_of r < n
vertex-below r n h = omega arith

-- A vertex below a number has literals below twice it.
pub literal-below : (v n : ℕ) (b : Bool) → v < n → literal_of v b < 2 * n
literal-below v n true h = omega arith
literal-below v n false h = omega arith

-- The vertex of the literal of a vertex.
pub vertex-literal : (v : ℕ) (b : Bool) → vertex_of (literal_of v b) ≡ v
vertex-literal v true = omega arith
vertex-literal v false = omega arith

-- The inversion of the literal of a vertex.
pub inverted-literal : (v : ℕ) (b : Bool) → inverted? (literal_of v b) ≡ b
inverted-literal v true = eq-eqb ((2 * v + 1) % 2) 1 (omega arith)
inverted-literal v false = ne_eqb ((2 * v + 0) % 2) 1 (omega arith)

-- A literal inverted where another is: itself or its inversion, and its bound.
pub onto_even : (x r : ℕ) → r % 2 ≡ 0 → onto x r ≡ x
onto_even x r h = omega arith

pub onto_odd : (x r : ℕ) → r % 2 ≡ 1 → onto x r ≡ negate x
onto_odd x r h = omega arith

pub onto-below : (x r n : ℕ) → x < 2 * n → onto x r < 2 * n
onto-below x r n h = omega arith
