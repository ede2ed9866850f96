-- Each return is one edition; no loop.
-- What is written is what the call that was made writes.
use Rattle.load_model.specs.code.Paired.{second_literals}
use borrow.Author.Tests.{eq-eqb, ne_eqb}
use Rattle.load_inputs.proofs.write_second.Goals as goal

pub returns-then-edition-from : goal.returns-then-edition-from
unfolding second_literals
returns-then-edition-from c =
    rw (eq-eqb _ 2 (rw c.from.ensures at c.if-edition-from.true))
    (rw (c.front_names-left.ensures.names, c.front_names-right.ensures.names) at c.write_by_name.ensures)

pub returns : goal.returns
unfolding second_literals
returns c = rw (ne_eqb _ 2 (rw c.from.ensures at c.if-edition-from.false)) c.write_by_place.ensures
