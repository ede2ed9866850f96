use Prim.Native.Nat.{◌+◌, ◌/◌, ◌≤◌, ℕ}
use Rattle.bdd_size.proofs.MarkLaws.{ToMark, count-bound, high-earlier, low-earlier, mark-high, mark-low, mark-row, set_mark-asks}
use mathlib.Core.Bool.{false≢true}
use mathlib.Core.Path.{ap}
use native.Mathlib.Omega.{arith}
use Rattle.bdd_size.proofs.+mark.Goals as goal
use Rattle.bdd_size.proofs.+mark.Goals.{After-high_of-high}

-- What is known once both edges are read.
known : (t : ℕ) (c : After-high_of-high t) → ToMark c.args.rows.now c.args.i (c.low_of-low.result / 2) (c.high_of-high.result / 2)
known t c =
    record {
      pos = omega (arith, c.if-i-eq0.false);
      canonical = c.requires.0;
      long = c.requires.1;
      free = λ o. false≢true (c.if-is_marked.ensures.1 o);
      low = ap (λ x. x / 2) c.low_of-low.ensures.0;
      high = ap (λ x. x / 2) c.high_of-high.ensures.0;
    }

pub mark-low_count-requires : goal.mark-low_count-requires
mark-low_count-requires t c =
    let opened = known t ((goal.at.mark-low_count-requires t c).After-high_of-high) in
    (omega (arith, low-earlier opened), mark-low opened)

pub mark-high_count-requires : goal.mark-high_count-requires
mark-high_count-requires t c =
    let opened = known t ((goal.at.mark-high_count-requires t c).After-high_of-high) in
    (omega (arith, high-earlier opened), mark-high opened c.mark-low_count.ensures)

pub set_mark-requires : goal.set_mark-requires
set_mark-requires t c =
    let opened = known t ((goal.at.set_mark-requires t c).After-high_of-high) in
    let asks = set_mark-asks opened c.mark-low_count.ensures c.mark-high_count.ensures in
    (opened.pos, asks.0, asks.1)

pub overflow_add-result : goal.overflow_add-result
overflow_add-result t c =
    let opened = known t ((goal.at.overflow_add-result t c).After-high_of-high) in
    let bound : c.mark-low_count.result + c.mark-high_count.result ≤ c.args.i = count-bound opened c.mark-low_count.ensures c.mark-high_count.ensures in
    omega (arith, bound, c.requires.1)

pub overflow_add-result-2 : goal.overflow_add-result-2
overflow_add-result-2 t c =
    let opened = known t ((goal.at.overflow_add-result-2 t c).After-high_of-high) in
    let bound : c.mark-low_count.result + c.mark-high_count.result ≤ c.args.i = count-bound opened c.mark-low_count.ensures c.mark-high_count.ensures in
    omega (arith, bound, c.requires.1)

pub returns : goal.returns
returns t c =
    let opened = known t ((goal.at.returns t c).After-high_of-high) in
    mark-row opened c.mark-low_count.ensures c.mark-high_count.ensures c.set_mark.ensures
