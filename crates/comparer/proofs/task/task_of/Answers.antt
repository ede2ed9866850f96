-- The header, the two literals looked at and the limits; no loop.
-- The literals are those of the problem.
use Prim.Native.Nat.{◌+◌, ℕ}
use Rattle.aig.specs.declared.literal.Literal.{Literal}
use Rattle.compare_model.proofs.GraphLaws.{next-few}
use Rattle.compare_model.specs.Compare.{limits_of, looked_at, problem_of}
use mathlib.Core.Path.{◌∙◌, ap, ap₂, refl}
use native.Mathlib.Omega.{arith}
use Rattle.comparer.proofs.task.task_of.Goals as goal

pub overflow_add-result-2 : goal.overflow_add-result-2
overflow_add-result-2 c =
    let a = c.args in
    omega (
      arith,
      c.next_count.ensures a.output,
      next-few a.table.now.words.now a.output (limits_of a.limits),
      c.vertices-vertices.ensures,
      c.args.table.now.formed.made,
      c.args.table.now.formed.inputs,
    )

pub returns : goal.returns
unfolding problem_of
returns c =
    let a = c.args in
    let vertices = c.vertices-vertices.ensures in
    let first = ap (λ (r : Literal). r.0) c.output_literal-left.ensures in
    let second = ap (λ (r : Literal). r.0) c.output_literal-right.ensures in
    record {
      problem =
          rw (
            c.looked_at.ensures ∙ ap₂ (looked_at a.table.now.words.now) first vertices,
            c.looked_at-2.ensures ∙ ap₂ (looked_at a.table.now.words.now) second (ap (λ (n : ℕ). n + 1) vertices),
            c.inputs-inputs.ensures,
          ) refl;
      count = ap₂ ◌+◌ vertices (c.next_count.ensures a.output);
      inputs = c.inputs-inputs.ensures;
      size = refl;
      rows = refl;
      steps = refl;
    }
