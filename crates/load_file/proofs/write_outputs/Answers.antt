use Rattle.load_file.proofs.Passing.{outputs-begin, outputs-due, outputs_end_lem, outputs-next, outputs-over}
use mathlib.Core.Logic.{inl, inr}
use mathlib.Core.Path.{◌∙◌, refl}
use native.Mathlib.Omega.{arith}
use Rattle.load_file.proofs.write_outputs.Goals as goal

pub loop-k-init : goal.loop-k-init
loop-k-init c =
    rw (c.into_iter-k-iterator.ensures.into_iter_gives, c.zip-k-items.ensures.first, c.zip-k-items.ensures.second)
    (outputs-begin c.args.literals.now _ _ c.requires.lines, refl, refl)

pub output_literal-requires : goal.output_literal-requires
output_literal-requires c =
    let s = c.in-Some.ensures.steps in
    rw s.1.1.0 (outputs-due c.loop-k.invariant.0 (omega (arith, s.0.1.0)))

pub loop-k-preserved : goal.loop-k-preserved
loop-k-preserved c =
    let s = c.in-Some.ensures.steps in
    let e = rw s.1.1.0 at c.output_literal.ensures in
    let w = outputs-next c.loop-k.invariant.0 (omega (arith, s.0.1.0)) _ e
    (omega (arith, c.loop-k.invariant.0.writing.same, s.0.1.0, c.loop-k.invariant.2, c.requires.room)) in
    (rw (s.0.0, s.1.1.2, s.0.1.2, s.0.1.1, s.1.1.0, c.loop-k.invariant.1) w, s.1.0 ∙ c.loop-k.invariant.1, s.0.0 ∙ c.loop-k.invariant.2)

pub returns : goal.returns
returns c =
    let w = c.loop-k.invariant.0 in
    elim c.in-None.ensures.steps [
      | inl h ↦ outputs_end_lem w (omega (arith, h.1.1.0))
      | inr h ↦ outputs_end_lem w (outputs-over w (rw c.loop-k.invariant.1 at h.1.1))
    ]
