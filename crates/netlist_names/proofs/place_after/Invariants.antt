-- The invariant: `at` is the place after the lines counted.
use Rattle.netlist_model.specs.code.Passing.{place_after}
use mathlib.Core.Path.{◌≡◌}
use Rattle.netlist_names.proofs.place_after.Given as goal

abbrev pub invariant-loop : goal.invariant-loop
invariant-loop l = l.at ≡ place_after l.file l.counter
