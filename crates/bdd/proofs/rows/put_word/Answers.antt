-- The definition at a row from 1 on.
-- No loop.
use Rattle.bdd.proofs.RowsLaws.{put_at}
use Rattle.bdd.proofs.WordLaws.{cast_place}
use Rattle.bdd.specs.code.Words.{place}
use mathlib.Core.Path.{sym}
use Rattle.bdd.proofs.rows.put_word.Goals as goal

pub returns : goal.returns
returns c = rw (cast_place c.args.word) (sym (put_at c.args.rows.now (place c.args.word) c.args.i c.args.w c.requires.0))
