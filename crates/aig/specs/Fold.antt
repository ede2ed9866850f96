-- What an AND of two literals comes to before any vertex is looked for.
use Rattle.std.specs.Prelude.{◌<◌, ◌≤◌, ℕ, eqb, ltb, cond, ◌≡◌}
use Rattle.aig.specs.Literal.{lit, negate}
use Rattle.aig.specs.declared.fold.Folded.TheVariants.{Pair, To}
use Rattle.aig.specs.declared.fold.Folded.{Folded}

-- "Folded: equal operands give that operand, an operand and its inversion give false, an operand false gives false, an operand true gives the
-- other operand. Otherwise the lower reference stands first." (RULES 3.3, 3.4)
unfoldable pub fold_of : ℕ → ℕ → Folded
fold_of p q =
    cond (eqb p q) (To (lit p))
    (cond (eqb (negate p) q) (To (lit 0))
    (cond (eqb p 0) (To (lit 0))
    (cond (eqb q 0) (To (lit 0))
    (cond (eqb p 1) (To (lit q))
    (cond (eqb q 1) (To (lit p))
    (cond (ltb p q) (Pair (lit p) (lit q)) (Pair (lit q) (lit p))))))))

-- A pair that does not fold: the lower literal first, none constant, not inverse to each other. (RULES 3.3, 3.4)
pub record Unfolded (p q : ℕ) : Type 0 where
  pub ordered : p < q
  pub unfixed : 2 ≤ p
  pub independent : negate p ≡ q → ⊥
