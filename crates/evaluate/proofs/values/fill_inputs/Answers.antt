use Rattle.evaluate_model.proofs.DigitLaws.{digit_at, digits_step}
use Rattle.std.proofs.Common.{◌∙◌, arith, refl, rules, sym}
use lib.Seq.{take-suc-set}
use Rattle.evaluate.proofs.values.fill_inputs.Goals as goal

pub loop-i-init : goal.loop-i-init
loop-i-init c = rw (take-suc-set c.args.values.now 0 0 (search rules)) refl

pub overflow_sub-values : goal.overflow_sub-values
overflow_sub-values c = omega (arith, (digit_at _ _ c.requires.setting_value c.loop-i-test.true).at_least)

pub loop-i-preserved : goal.loop-i-preserved
loop-i-preserved c =
    let taken = c.loop-i-test.true in
    let byte = digit_at _ _ c.requires.setting_value taken in
    sym (digits_step _ _ _ _ (search rules) taken byte.number) ∙ c.loop-i.invariant
