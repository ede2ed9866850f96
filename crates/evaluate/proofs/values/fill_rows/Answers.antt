use Rattle.evaluate_model.proofs.NumberLaws.{bits_ahead, values_end, values_step}
use Rattle.table.proofs.AcceptedLaws.{row_words-below}
use Rattle.table.specs.Table.{inputs_of, rows_of, vertices_of}
use Rattle.std.proofs.Common.{◌≡◌, ◌+◌, rules, arith, sym, ◌∙◌}
use Rattle.evaluate.proofs.values.fill_rows.Goals as goal

pub loop-i-init : goal.loop-i-init
unfolding rows_of
loop-i-init c = search rules

pub row_value-requires-clause-row_below : goal.row_value-requires-clause-row_below
row_value-requires-clause-row_below c =
    rw c.inputs.ensures (row_words-below c.requires.accepted _ (rw c.made-i-end.ensures at c.loop-i-test.true))

pub row_value-requires-clause-bits : goal.row_value-requires-clause-bits
row_value-requires-clause-bits c = rw c.inputs.ensures (bits_ahead _ _ _ _ c.loop-i.invariant c.requires.bits)

pub loop-i-preserved : goal.loop-i-preserved
loop-i-preserved c =
    let ws = c.args.table.now.words.now in
    let taken = rw c.made-i-end.ensures at c.loop-i-test.true in
    rw c.inputs.ensures
    (sym (values_step _ ws (1 + inputs_of ws) _ _ _ (search rules) taken (rw c.inputs.ensures at c.row_value.ensures)) ∙ c.loop-i.invariant)

pub returns : goal.returns
returns c =
    let ws = c.args.table.now.words.now in
    let all : 1 + inputs_of ws + c.loop-i.i ≡ vertices_of ws = omega (arith, c.made-i-end.ensures, c.loop-i-test.false) in
    rw (← all) (sym (values_end _ ws _ _ _ (rw c.made-i-end.ensures at c.loop-i-test.false)) ∙ c.loop-i.invariant)
