-- The rows after the header, then the output references resolved in place; no loop.
-- One law says what is lent between the two, one what is left.
use Rattle.compare_copy.proofs.CopyLaws.{outputs_resolved, outputs-within}
use Rattle.compare_copy.proofs.copy_out.Goals as goal

pub resolve_all-requires : goal.resolve_all-requires
resolve_all-requires c =
    rw (c.rows_end-from.ensures, c.outputs-outputs.ensures)
    (outputs-within c.args.table.now c.args.pairs.now c.copy.new.to c.requires.accepted.formed.whole c.requires.pairs_len
    (rw c.inputs.ensures at c.copy.ensures.list) c.requires.accepted.references)

pub returns : goal.returns
returns c =
    rw (c.rows_end-from.ensures, c.outputs-outputs.ensures)
    (outputs_resolved c.args.table.now c.args.pairs.now c.copy.new.to c.requires.accepted.formed.whole c.requires.pairs_len
    (rw c.inputs.ensures at c.copy.ensures.list) c.resolve_all.new.words
    (rw (c.rows_end-from.ensures, c.outputs-outputs.ensures) at c.resolve_all.ensures))
