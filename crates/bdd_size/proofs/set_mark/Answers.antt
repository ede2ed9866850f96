-- The word with the mark added; a word without it leaves room.
-- No loop.
use Prim.Native.Nat.{◌+◌}
use Rattle.bdd.specs.code.Rows.{MARK, put}
use Rattle.bdd_size.proofs.MarkLaws.{mark-room}
use Rattle.bdd_size.specs.code.Marks.{marked}
use mathlib.Core.Path.{◌∙◌, ap}
use Rattle.bdd_size.proofs.set_mark.Goals as goal

pub put_word-requires : goal.put_word-requires
put_word-requires c =
    (c.requires.0, c.requires.1, mark-room c.args.rows.now c.args.i c.word_of-w.result c.requires.2 c.word_of-w.ensures.0 c.word_of-w.ensures.1)

pub returns : goal.returns
unfolding marked
returns c =
    let a = c.args in
    c.put_word.ensures ∙ ap (λ w. put a.rows.now 0 a.i (w + MARK)) c.word_of-w.ensures.0
