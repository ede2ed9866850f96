-- Each place of the call is one law of ProductLaws.
-- What is known after a call is gathered once: `parted` at the split, `zero_done` and `one_done` once each value is done.
use Prim.Native.Nat.{◌+◌, ◌-◌, ℕ}
use Rattle.product.proofs.ProductLaws.{Split, ask_one, ask_row, ask_zero, at_top, ends_now, falls, one-short, row-made, short_now, zero_short}
use Rattle.product.specs.Product.{Ask, Multiplies}
use Rattle.std.proofs.lemmas.Result.{err_from_is_err_and}
use Rattle.std.specs.Prelude.{Ok}
use mathlib.Core.Path.{◌∙◌}
use native.Mathlib.Omega.{arith}
use Rattle.product.proofs.+multiply.Goals as goal
use Rattle.product.proofs.+multiply.Goals.{After-split-h, In_ok-high, In_ok-low, Start}

-- What the call is asked.
asked : (t : ℕ) (c : Start t)
    → let s = c.args.store.now in Ask s.rows.now s.limit s.used c.args.f c.args.g c.args.left c.args.steps.now.taken c.args.steps.now.most
asked t c =
    let n = c.args.steps.now in record {
      store = c.args.store.now.store;
      first = c.requires.first;
      second = c.requires.second;
      few = c.requires.few;
      under = n.within.0;
      small = n.within.1;
    }

-- What is known at the split.
parted : (t : ℕ) (c : After-split-h t)
    → let s = c.args.store.now in Split s.rows.now s.limit s.used c.args.f c.args.g c.args.left c.args.steps.now.taken c.args.steps.now.most c.split-h.result
parted t c =
    let n = c.args.steps.now in record {
      ask = record {
        store = c.args.store.now.store;
        first = c.requires.first;
        second = c.requires.second;
        few = c.requires.few;
        under = n.within.0;
        small = n.within.1;
      };
      free = c.in_ok-take.ensures.taken.0;
      on = c.in_default.ensures;
      halved = c.split-h.ensures;
    }

-- What is known once value 0 is done.
zero_done : (t : ℕ) (c : In_ok-low t)
    → let s = c.args.store.now in let s0 = c.multiply.new.store in let h = c.split-h.result in
    Multiplies s.rows.now s0.rows.now s.limit s.used s0.used h.f0 h.g0 (h.level - 1) (c.args.steps.now.taken + 1) c.multiply.new.steps.taken c.args.steps.now.most (Ok c.in_ok-low.low)
zero_done t c =
    rw (c.in_ok-take.ensures.taken.1, c.in_ok-take.ensures.most) at c.in_ok-low.ensures.product

-- What is known once value 1 is done.
one_done : (t : ℕ) (c : In_ok-high t)
    → let s = c.args.store.now in let s0 = c.multiply.new.store in let s1 = c.multiply-2.new.store in let h = c.split-h.result in
    Multiplies s0.rows.now s1.rows.now s.limit s0.used s1.used h.f1 h.g1 (h.level - 1) c.multiply.new.steps.taken c.multiply-2.new.steps.taken c.args.steps.now.most (Ok c.in_ok-high.high)
one_done t c =
    let same = c.in_ok-low.ensures.same in
    rw (same.0.1, same.1 ∙ c.in_ok-take.ensures.most) at c.in_ok-high.ensures.product

pub returns-in_err-take-clause-product : goal.returns-in_err-take-clause-product
returns-in_err-take-clause-product t c =
    let p = err_from_is_err_and c.from_residual.result c.from_residual.ensures.1 in
    let taken = c.in_err-take.ensures.taken in
    rw (p.1, p.2, taken.1, taken.2) (short_now (asked t ((goal.at.returns-in_err-take-clause-product t c).Start)) taken.0)

pub returns-in-Some-clause-product : goal.returns-in-Some-clause-product
returns-in-Some-clause-product t c =
    rw c.in_ok-take.ensures.taken.1
    (ends_now (asked t ((goal.at.returns-in-Some-clause-product t c).Start)) c.in_ok-take.ensures.taken.0 c.in-Some.ensures)

pub overflow_sub-h : goal.overflow_sub-h
overflow_sub-h t c = (at_top (parted t ((goal.at.overflow_sub-h t c).After-split-h))).deep

pub multiply-requires : goal.multiply-requires
multiply-requires t c =
    let S = parted t ((goal.at.multiply-requires t c).After-split-h) in
    let Q = ask_zero S in
    (omega (arith, falls S), record { first = Q.first; second = Q.second; few = Q.few })

pub returns-in_err-low-clause-product : goal.returns-in_err-low-clause-product
returns-in_err-low-clause-product t c =
    let p = err_from_is_err_and c.from_residual-in_err-low.result c.from_residual-in_err-low.ensures.1 in
    let taken = c.in_ok-take.ensures in
    rw (p.1, p.2)
    (zero_short (parted t ((goal.at.returns-in_err-low-clause-product t c).After-split-h)) (rw (taken.taken.1, taken.most) at c.in_err-low.ensures.product))

pub overflow_sub-h-2 : goal.overflow_sub-h-2
overflow_sub-h-2 t c = (at_top (parted t ((goal.at.overflow_sub-h-2 t c).After-split-h))).deep

pub multiply-requires-2 : goal.multiply-requires-2
multiply-requires-2 t c =
    let S = parted t ((goal.at.multiply-requires-2 t c).After-split-h) in
    let Q = ask_one S (zero_done t ((goal.at.multiply-requires-2 t c).In_ok-low)) in
    (omega (arith, falls S), record { first = Q.first; second = Q.second; few = Q.few })

pub returns-in_err-high-clause-product : goal.returns-in_err-high-clause-product
returns-in_err-high-clause-product t c =
    let p = err_from_is_err_and c.from_residual-in_err-high.result c.from_residual-in_err-high.ensures.1 in
    let at = goal.at.returns-in_err-high-clause-product t c in
    let same = c.in_ok-low.ensures.same in
    rw (p.1, p.2)
    (one-short (parted t at.After-split-h) (zero_done t at.In_ok-low) (rw (same.0.1, same.1 ∙ c.in_ok-take.ensures.most) at c.in_err-high.ensures.product))

pub make-requires-clause-level : goal.make-requires-clause-level
make-requires-clause-level t c =
    let at = goal.at.make-requires-clause-level t c in
    let Q = ask_row (parted t at.After-split-h) (zero_done t at.In_ok-low) (one_done t at.In_ok-high) in
    (Q.deep, Q.small)

pub returns-clause-product : goal.returns-clause-product
returns-clause-product t c =
    let at = goal.at.returns-clause-product t c in
    let limit = c.in_ok-high.ensures.same.0.1 ∙ c.in_ok-low.ensures.same.0.1 in
    rw c.ok_or.ensures.value
    (row-made (parted t at.After-split-h) (zero_done t at.In_ok-low) (one_done t at.In_ok-high) _ _ c.make.result (rw limit at c.make.ensures.made))
