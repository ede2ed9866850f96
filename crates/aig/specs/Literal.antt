-- Literals as numbers. The rules call a literal a reference. (RULES 1.7)
use Rattle.std.specs.Prelude.{◌%◌, ◌*◌, ◌+◌, ◌-◌, ◌/◌, ℕ, eqb, Bool, cond}
use Rattle.aig.specs.declared.literal.Literal.{Literal}

-- The literal with a number.
abbrev pub lit : ℕ → Literal
lit n = record { 0 = n }

-- "A reference is twice a vertex number, plus 1 if inverted. So 0 is false and 1 is true." (RULES 1.7)
abbrev pub literal_of : ℕ → Bool → ℕ
literal_of v b = 2 * v + cond b 1 0

-- The vertex that a literal names.
abbrev pub vertex_of : ℕ → ℕ
vertex_of r = r / 2

-- Whether a literal is inverted.
abbrev pub inverted? : ℕ → Bool
inverted? r = eqb (r % 2) 1

-- The inversion of a literal: the same vertex, inverted if it was not.
abbrev pub negate : ℕ → ℕ
negate r = r + 1 - 2 * (r % 2)

-- The literal x, inverted where r is: what r stands for where its vertex stands for x. (RULES 3.1)
abbrev pub onto : ℕ → ℕ → ℕ
onto x r = x / 2 * 2 + (x + r) % 2
