-- The first vertices' own words, then the rows after them; no loop.
-- One law joins the two.
use Rattle.compare_copy.proofs.CopyLaws.{rows_copied}
use borrow.Author.Rules.{rules}
use Rattle.compare_copy.proofs.copy_rows.Goals as goal

pub returns : goal.returns
returns c =
    let inputs = c.inputs-first in
    rows_copied c.args.table.now.words.now c.args.pairs.now c.write_own.new.pairs c.copy.new.to (search rules)
    (rw inputs.ensures at c.write_own.ensures) (rw (inputs.ensures, c.rows.ensures) at c.copy.ensures.list)
