-- The two words, one after the other; no loop.
-- One law says that they are a row written.
use Prim.Native.Nat.{◌+◌, ℕ}
use Rattle.aig.specs.declared.literal.Literal.{Literal}
use Rattle.compare_copy.proofs.CopyLaws.{row_written}
use lib.ListN.{set}
use mathlib.Core.Path.{◌∙◌, ap, ap₂}
use Rattle.compare_copy.proofs.write_next.Goals as goal

pub returns : goal.returns
returns c =
    let old = c.args.pairs.now in
    let at = c.args.at in
    let constraint = ap (λ (r : Literal). r.0) c.constraint.ensures in
    let literal = ap (λ (r : Literal). r.0) c.output_literal.ensures in
    ap₂ (λ (x y : ℕ). set (set old at x) (at + 1) y) constraint literal ∙ row_written old at _ _ c.requires.at_in_bounds
