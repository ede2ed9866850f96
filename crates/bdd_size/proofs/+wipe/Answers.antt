use Prim.Native.Nat.{◌/◌, ℕ}
use Rattle.bdd.proofs.RowsLaws.{mark-cases}
use Rattle.bdd_size.proofs.MarkLaws.{ToWipe, clear-mark-asks, wipe_high, wipe_high-earlier, wipe_low, wipe_low-earlier, wipe_none, wipe_pos, wipe_row}
use mathlib.Core.Bool.{false≢true}
use mathlib.Core.Logic.{⊎_elim}
use mathlib.Core.Path.{ap, refl}
use native.Mathlib.Omega.{arith}
use Rattle.bdd_size.proofs.+wipe.Goals as goal
use Rattle.bdd_size.proofs.+wipe.Goals.{After-high_of-high}

-- What is known once both edges are read.
known : (t : ℕ) (c : After-high_of-high t) → ToWipe c.args.rows.now c.args.i (c.low_of-low.result / 2) (c.high_of-high.result / 2)
known t c =
    record {
      ready = c.requires;
      one = c.if-not-is_marked.ensures.0 refl;
      low = ap (λ x. x / 2) c.low_of-low.ensures.0;
      high = ap (λ x. x / 2) c.high_of-high.ensures.0;
    }

pub returns-then-not-is_marked : goal.returns-then-not-is_marked
returns-then-not-is_marked t c =
    wipe_none c.args.rows.now c.args.i c.requires
    (⊎_elim (λ z. z) (λ o. absurd (false≢true (c.if-not-is_marked.ensures.1 o))) (mark-cases c.args.rows.now c.args.i))

pub wipe-requires : goal.wipe-requires
wipe-requires t c =
    let opened = known t ((goal.at.wipe-requires t c).After-high_of-high) in
    (omega (arith, wipe_low-earlier opened), wipe_low opened)

pub wipe-requires-2 : goal.wipe-requires-2
wipe-requires-2 t c =
    let opened = known t ((goal.at.wipe-requires-2 t c).After-high_of-high) in
    (omega (arith, wipe_high-earlier opened), wipe_high opened c.wipe.ensures)

pub clear_mark-requires : goal.clear_mark-requires
clear_mark-requires t c =
    let opened = known t ((goal.at.clear_mark-requires t c).After-high_of-high) in
    let asks = clear-mark-asks opened c.wipe.ensures c.wipe-2.ensures in
    (wipe_pos opened, asks.0, asks.1)

pub returns : goal.returns
returns t c =
    let opened = known t ((goal.at.returns t c).After-high_of-high) in
    wipe_row opened c.wipe.ensures c.wipe-2.ensures c.clear_mark.ensures
