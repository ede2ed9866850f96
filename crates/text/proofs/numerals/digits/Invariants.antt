-- The invariant: `value` is below ten to the number of bytes read, and with the bytes after them gives what all bytes give.
use Prim.Native.Nat.{◌<◌, ◌^◌}
use Rattle.text.specs.Numerals.{digits_from}
use lib.ListN.{drop}
use mathlib.Core.Path.{◌≡◌}
use Rattle.text.proofs.numerals.digits.Given as goal

abbrev pub invariant-loop-b : goal.invariant-loop-b
invariant-loop-b l = (l.value < 10 ^ l.b-index) × (digits_from 0 l.s ≡ digits_from l.value (drop l.b-index l.s))
