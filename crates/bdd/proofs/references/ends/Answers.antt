-- Each return is one rule of the products that end; the last has passed every test.
-- No loop.
use Rattle.bdd.proofs.SplitLaws.{equals, false_left, false_right, goes_on, opposites, true_left, true_right}
use Rattle.bdd.proofs.references.ends.Goals as goal

pub returns-then-f-eq0 : goal.returns-then-f-eq0
returns-then-f-eq0 c = false_left c.args.f c.args.g c.if-f-eq0.true

pub returns-then-g-eq0 : goal.returns-then-g-eq0
returns-then-g-eq0 c = false_right c.args.f c.args.g c.if-g-eq0.true

pub returns-then-f-eq1 : goal.returns-then-f-eq1
returns-then-f-eq1 c = true_left c.args.f c.args.g c.if-f-eq1.true

pub returns-then-g-eq1 : goal.returns-then-g-eq1
returns-then-g-eq1 c = true_right c.args.f c.args.g c.if-g-eq1.true

pub returns-then-f-g : goal.returns-then-f-g
returns-then-f-g c = equals c.args.f c.args.g c.if-f-g.true

pub returns-then-f-g-2 : goal.returns-then-f-g-2
returns-then-f-g-2 c =
    opposites c.args.f c.args.g c.if-f-g.false c.if-f-g-2.true

pub returns : goal.returns
returns c =
    goes_on c.args.f c.args.g c.if-f-eq0.false c.if-g-eq0.false c.if-f-eq1.false c.if-g-eq1.false c.if-f-g-2.false
