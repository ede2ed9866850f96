-- The numbers written, and after them those of the digits from i on, are the numbers of false and all digits.
use Rattle.std.proofs.Common.{◌≡◌, ◌+◌, ◌++◌, ◌∷◌, drop, false, map, take}
use Rattle.evaluate_model.specs.Evaluate.{bit, digits_of}
use Rattle.evaluate.proofs.values.fill_inputs.Given as goal

abbrev pub invariant-loop-i : goal.invariant-loop-i
invariant-loop-i l = take (l.i + 1) l.values ++ map bit (digits_of (drop l.i l.setting)) ≡ map bit (false ∷ digits_of l.setting)
