-- The line's gate is asked for and its literal stored; no loop.
-- The line is a gate's, whose references are to vertices below it.
use Rattle.load_file.proofs.Passing.{gate-due, gate-stored}
use Rattle.std.specs.Prelude.{Some}
use mathlib.Core.Path.{◌∙◌, ap, sym}
use Rattle.load_file.proofs.ask_line.Goals as goal

pub returns-clause-asked : goal.returns-clause-asked
returns-clause-asked c =
    let e = sym c.read_line-found.ensures ∙ c.in-Some-Gate.is ∙ ap Some (rw c.in-Some-Gate.is at c.in-Some-Gate.field-0-is) in
    let d = gate-due c.requires.line e in
    gate-stored c.args.literals.now c.args.vertex _ _ _ _ c.requires.room d.first_below d.second_below c.literal_for-p.ensures
    c.literal_for-q.ensures c.ask_gate.ensures.result e
