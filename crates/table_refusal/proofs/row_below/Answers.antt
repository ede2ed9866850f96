use Rattle.std.proofs.Common.{◌≡◌, ◌*◌, arith, rules, tests}
use Rattle.table.specs.Table.{row_below?}
use Rattle.table_refusal.proofs.row_below.Goals as goal

pub returns-then-lt : goal.returns-then-lt
unfolding row_below?
returns-then-lt c =
    let own : c.new-own.result.0 ≡ 2 * c.args.vertex = rw c.new-own.ensures (omega arith) in
    rw (← own) (search (rules, tests))

pub returns-else-lt : goal.returns-else-lt
unfolding row_below?
returns-else-lt c =
    let own : c.new-own.result.0 ≡ 2 * c.args.vertex = rw c.new-own.ensures (omega arith) in
    rw (← own) (search (rules, tests))
