-- The word with the mark taken off; a word with it is large enough.
-- No loop.
use Prim.Native.Nat.{◌-◌}
use Rattle.bdd.specs.code.Rows.{MARK, put}
use Rattle.bdd_size.proofs.MarkLaws.{mark-large}
use Rattle.bdd_size.specs.code.Marks.{wiped}
use mathlib.Core.Path.{◌∙◌, ap}
use Rattle.bdd_size.proofs.clear_mark.Goals as goal

pub overflow_sub-w : goal.overflow_sub-w
overflow_sub-w c =
    mark-large c.args.rows.now c.args.i c.word_of-w.result c.requires.2 c.word_of-w.ensures.0

pub returns : goal.returns
unfolding wiped
returns c =
    let a = c.args in
    c.put_word.ensures ∙ ap (λ w. put a.rows.now 0 a.i (w - MARK)) c.word_of-w.ensures.0
