-- Where the literals are inverse, as many bytes as inputs are filled.
use Rattle.compare_reply.proofs.SettingLaws.{zeros_left}
use Rattle.sweep_state.specs.code.Ending.{verdict_of}
use lib.Seq.{length-take-le}
use Rattle.compare_reply.proofs.write_setting.Goals as goal

pub returns-in-Inverse : goal.returns-in-Inverse
unfolding verdict_of
returns-in-Inverse c =
    let a = c.args in
    rw (c.in-Inverse.is, c.fill.ensures.after (λ y e. e), length-take-le a.inputs a.setting.now c.requires.long) (zeros_left a.inputs a.setting.now)
