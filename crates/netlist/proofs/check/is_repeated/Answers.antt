-- The line is that of the name which was read.
use Rattle.netlist_model.proofs.LineLaws.{name-read, name_line_told}
use Rattle.netlist_model.proofs.NameLaws.{found_among}
use Rattle.netlist_model.proofs.StepLaws.{not_twice}
use Rattle.netlist_model.specs.Check.{twice?}
use Rattle.std.proofs.Common.{◌∙◌, sym}
use Rattle.netlist.proofs.check.is_repeated.Goals as goal

pub returns-in_default : goal.returns-in_default
returns-in_default c = sym (not_twice _ _ (λ e. c.in_default.not-Name (let f = c.requires.found_value ∙ e in cc)))

pub name_at-name-requires-clause-file_value : goal.name_at-name-requires-clause-file_value
name_at-name-requires-clause-file_value c = name-read c.args.file.now c.args.at (rw c.in-Name.is at c.requires.found_value)

pub returns : goal.returns
unfolding twice?
returns c =
    rw (name_line_told c.args.file.now c.args.at (rw c.in-Name.is at c.requires.found_value) c.name_at-name.ensures, c.is_some.ensures, c.find_name.ensures, c.front_names.ensures.names)
    (found_among _ _)
