-- The rows from i on, given the values below their first vertex, have the values that all rows have.
use Rattle.std.proofs.Common.{◌≡◌, ◌*◌, ◌+◌, ◌-◌, drop, take}
use Rattle.evaluate_model.specs.code.Values.{number_values}
use Rattle.table.specs.Table.{inputs_of, made_of, pairs, rows_of}
use Rattle.evaluate.proofs.values.fill_rows.Given as goal

abbrev pub invariant-loop-i : goal.invariant-loop-i
invariant-loop-i l =
    let ws = l.table.words.now in
    number_values (take (1 + inputs_of ws + l.i) l.values) (pairs (made_of ws - l.i) (drop (3 + 2 * l.i) ws))
    ≡ number_values (take (1 + inputs_of ws) l.initial.values) (rows_of ws)
