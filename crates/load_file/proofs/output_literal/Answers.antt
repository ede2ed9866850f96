-- The literal for the line's reference; no loop.
-- The line is an output's.
use Rattle.load_file.proofs.Passing.{output-stored}
use mathlib.Core.Path.{◌∙◌, ap, sym}
use Rattle.std.specs.Prelude.{Some}
use Rattle.load_file.proofs.output_literal.Goals as goal

pub returns : goal.returns
returns c = output-stored c.args.literals.now _ c.literal_for.ensures (sym c.read_line-found.ensures ∙ c.in-Some-Output.is ∙ ap Some (rw c.in-Some-Output.is at c.in-Some-Output.field-0-is))
