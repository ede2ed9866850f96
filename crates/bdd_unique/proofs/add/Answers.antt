-- The four words, the head read before any is written.
-- No loop.
use Rattle.bdd_unique.proofs.ChainLaws.{added-words}
use Rattle.bdd_unique.proofs.add.Goals as goal

pub returns : goal.returns
returns c =
    let a = c.args in
    added-words a.rows.now a.limit a.used a.node.level a.node.low a.node.high c.bucket_of-b.ensures.0 c.head_of-next.ensures.0
    c.put_word.ensures c.put_word-2.ensures c.put_word-3.ensures c.put_word-4.ensures
