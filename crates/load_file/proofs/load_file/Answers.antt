-- The gates, the outputs and the constraint of the file, one after the other; no loop.
-- What the file holds is ahead of each.
use Rattle.load_file.proofs.FileLoading.{file_built, file-written, gates-few, gates-there, inputs-few, outputs-few, outputs-there, reference-below}
use native.Mathlib.Omega.{arith}
use Rattle.load_file.proofs.load_file.Goals as goal

pub ask_gates-at-requires-clause-lines : goal.ask_gates-at-requires-clause-lines
ask_gates-at-requires-clause-lines c = gates-there c.requires.file c.requires.room.0

pub write_outputs-requires-clause-lines : goal.write_outputs-requires-clause-lines
write_outputs-requires-clause-lines c =
    outputs-there c.requires.file c.ask_gates-at.ensures.passed
    (omega (arith, inputs-few c.requires.file, gates-few c.requires.file, c.requires.room.1))

pub literal_for-constraint-requires : goal.literal_for-constraint-requires
literal_for-constraint-requires c =
    omega (arith, reference-below c.requires.file, inputs-few c.requires.file, gates-few c.requires.file, c.requires.room.1)

pub returns-clause-graph : goal.returns-clause-graph
returns-clause-graph c = file_built c.requires.file _ _ c.ask_gates-at.ensures.passed

pub returns-clause-outputs : goal.returns-clause-outputs
returns-clause-outputs c =
    file-written c.requires.file _ _ c.ask_gates-at.ensures.passed c.args.outputs.now c.args.from
    (omega (arith, outputs-few c.requires.file, c.requires.room.2)) c.write_outputs.ensures c.literal_for-constraint.ensures
