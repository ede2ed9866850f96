-- A case for the row at the level and one for any other.
-- No loop.
use Rattle.bdd.proofs.DiagramLaws.{cofactor-hit, cofactor_miss}
use Rattle.bdd.specs.Diagram.{edge}
use mathlib.Core.Path.{◌∙◌, ap, sym}
use Rattle.bdd.proofs.references.cofactor_of.Goals as goal

pub returns-then-level_of-level : goal.returns-then-level_of-level
returns-then-level_of-level c =
    let a = c.args in
    c.edge_to.ensures
    ∙ ap (λ x. edge x a.r) c.child_of.ensures
    ∙ sym (cofactor-hit a.rows.now a.b a.level a.r (sym c.level_of.ensures.0 ∙ c.if-level_of-level.true))

pub returns-else-level_of-level : goal.returns-else-level_of-level
returns-else-level_of-level c =
    let a = c.args in
    sym (cofactor_miss a.rows.now a.b a.level a.r (λ h. c.if-level_of-level.false (c.level_of.ensures.0 ∙ h)))
