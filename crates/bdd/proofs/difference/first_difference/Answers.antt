use Prim.Native.Nat.{◌+◌, ◌-◌, suc}
use Rattle.bdd.proofs.DifferenceLaws.{writing_begins, writing-ends, writing-on}
use mathlib.Core.Bool.{Bool, cond, false, true}
use mathlib.Core.Path.{◌≡◌, refl}
use mir.Val.{bool_byte}
use native.Mathlib.Nat.{sub-zero}
use native.Mathlib.Numerals.{add-one}
use native.Mathlib.Omega.{arith}
use Rattle.bdd.proofs.difference.first_difference.Goals as goal

byte_of : (b : Bool) → 48 + bool_byte b ≡ cond b 49 48
byte_of false = refl
byte_of true = refl

pub loop-i-init : goal.loop-i-init
loop-i-init c = rw (sub-zero c.args.inputs) (writing_begins c.requires.first c.requires.second c.args.setting.now)

pub loop-i-preserved : goal.loop-i-preserved
loop-i-preserved c =
    let less : c.args.inputs - suc c.loop-i.i ≡ c.args.inputs - c.loop-i.i - 1 = omega arith in
    rw (c.cofactor_of-a.ensures, c.cofactor_of-b.ensures, c.from.ensures, c.cofactor_of.ensures, c.cofactor_of-in-loop-i.ensures, add-one c.loop-i.i, less)
    (writing-on c.loop-i.invariant (omega arith) c.requires.long _ (byte_of _))

pub returns : goal.returns
returns c = writing-ends c.loop-i.invariant (omega arith)
