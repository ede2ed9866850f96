-- The functions of vertices and literals. Truth tables of one depth obey the laws of folding.
use Prim.Native.Nat.{◌%◌, ◌*◌, ℕ}
use borrow.Author.Tests.{ne_eqb}
use mathlib.Core.Bool.{Bool, cond, false}
use mathlib.Core.Path.{◌≡◌}
use native.Mathlib.Omega.{arith}
pub use Rattle.aig.proofs.TruthLaws.{functions as truth-tables}
use Rattle.aig.proofs.ValuesLaws.{all-good, value-good, value-literal, value-negate}
use Rattle.aig.specs.Literal.{inverted?, literal_of, negate, vertex_of}
use Rattle.aig.specs.Values.{AllGood}
use Rattle.sweep_model.specs.Fit.{WellFormed}
use Rattle.sweep_model.specs.State.{Problem, function_of, literal_function}
use Rattle.truth.proofs.Values.{perfect-constant}
use Rattle.truth.specs.Truth.{Perfect, conj, constantly, invert}

-- The function of a vertex's own literal.
pub own_function : (p : Problem) (v : ℕ) → literal_function p (2 * v) ≡ function_of p v
own_function p v =
    let e : vertex_of (2 * v) ≡ v = omega arith in
    let i : inverted? (2 * v) ≡ false = ne_eqb (2 * v % 2) 1 (omega arith) in
    rw (i, e)

-- The function of a vertex's literal, inverted or not.
pub literal_function_lem : (p : Problem) (v : ℕ) (b : Bool) → literal_function p (literal_of v b) ≡ cond b (invert (function_of p v)) (function_of p v)
literal_function_lem p v b = value-literal invert conj (constantly p.inputs false) p.functions v b

module _ (p : Problem) (w : WellFormed p) where
  -- Every vertex has a function of the problem's inputs.
  pub all-perfect : AllGood (Perfect p.inputs) (constantly p.inputs false) p.functions
  all-perfect = all-good (Perfect p.inputs) (constantly p.inputs false) (perfect-constant p.inputs false) p.functions w.perfect

  -- Every literal has a function of the problem's inputs.
  pub literal-perfect : (r : ℕ) → Perfect p.inputs (literal_function p r)
  literal-perfect r = value-good (truth-tables p.inputs) p.functions all-perfect r

  -- The inversion of a literal has the inverse function.
  pub function_negate : (r : ℕ) → literal_function p (negate r) ≡ invert (literal_function p r)
  function_negate r = value-negate (truth-tables p.inputs) p.functions all-perfect r

  -- The conjunction of a literal's function with itself.
  pub function_self : (r : ℕ) → conj (literal_function p r) (literal_function p r) ≡ literal_function p r
  function_self r = (truth-tables p.inputs).both-self (literal_function p r) (literal-perfect r)
