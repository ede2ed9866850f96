-- Row 0 has no words; the definition at a row from 1 on.
-- No loop.
use Prim.Native.Nat.{◌*◌, ◌+◌, ◌-◌}
use Rattle.bdd.proofs.RowsLaws.{word_at_lem, word_none}
use Rattle.bdd.proofs.WordLaws.{cast_place}
use Rattle.bdd.specs.code.Words.{place}
use mathlib.Core.Path.{sym}
use native.Mathlib.Omega.{arith}
use Rattle.bdd.proofs.rows.word_of.Goals as goal

pub returns-then-i-eq0 : goal.returns-then-i-eq0
returns-then-i-eq0 c = (sym (word_none c.args.rows.now (place c.args.word) c.args.i c.if-i-eq0.true), omega arith)

pub returns : goal.returns
returns c =
    let a = c.args in
    rw (cast_place a.word) (sym (word_at_lem a.rows.now (place a.word) a.i (omega (arith, c.if-i-eq0.false))), (c.type_inv.rows ((a.i - 1) * 4 + place a.word)).fits)
