use Rattle.text.proofs.DecimalSteps.{digit-fits, last_fits, stored-digit, stored_more, tenth_fits}
use native.Mathlib.Omega.{arith}
use Rattle.text.proofs.decimal.+print.Goals as goal

pub bounds-out-at : goal.bounds-out-at
bounds-out-at t c =
    digit-fits c.args.out.now c.args.at c.args.n c.requires c.if-n-lt10.true

pub returns-then-n-lt10 : goal.returns-then-n-lt10
returns-then-n-lt10 t c =
    let a = c.args in
    stored-digit a.out.now a.at a.n c.requires c.if-n-lt10.true c.digit.result c.digit.ensures

pub print-last-requires : goal.print-last-requires
print-last-requires t c =
    let a = c.args in
    (omega arith, omega (arith, tenth_fits a.out.now a.at a.n c.requires c.if-n-lt10.false))

pub bounds-out-last : goal.bounds-out-last
bounds-out-last t c =
    let a = c.args in
    last_fits a.out.now a.at a.n c.requires c.if-n-lt10.false c.print-last.ensures

pub overflow_add-result-2 : goal.overflow_add-result-2
overflow_add-result-2 t c = omega (arith, bounds-out-last t c)

pub returns : goal.returns
returns t c =
    let a = c.args in
    stored_more a.out.now a.at a.n c.requires c.if-n-lt10.false c.print-last.ensures
    c.digit-2.result c.digit-2.ensures
