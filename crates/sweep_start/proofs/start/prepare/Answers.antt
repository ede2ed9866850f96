-- Each call's needs follow from what was asked and from what the calls before it left.
-- The words that are left stand for the model's state after its first normalising.
use Prim.Native.Nat.{◌*◌, ◌-◌}
use Rattle.aig.specs.Lookup.{cleared}
use Rattle.sweep_model.specs.Normalise.{normalise_from}
use Rattle.sweep_pick.proofs.BeginLaws.{cleared_length}
use Rattle.sweep_pick.specs.code.Begin.{begun_arrays}
use Rattle.sweep_start.proofs.StartModel.{start-kept, start-prepares}
use Rattle.sweep_state.proofs.LongLaws.{kept-put, lengths-then, merged-long, normalised-long}
use Rattle.sweep_state.specs.code.Arrays.{arrays}
use Rattle.sweep_state.specs.code.Meet.{handed_in, held_of, with_held, workspace}
use lib.ListN.{length-set}
use mathlib.Core.Path.{◌∙◌, refl}
use Rattle.sweep_start.proofs.start.prepare.Goals as goal

pub takes-requires-clause-graph : goal.takes-requires-clause-graph
takes-requires-clause-graph c = rw (c.normalise.ensures.left, c.begin.ensures, c.empty.ensures.left) (start-kept c.requires refl)

pub returns-clause-prepared : goal.returns-clause-prepared
returns-clause-prepared c =
    rw (c.takes.ensures, c.normalise.ensures.left, c.begin.ensures, c.empty.ensures.left) (start-prepares c.requires c.empty.ensures.cleared)

pub returns-clause-kept : goal.returns-clause-kept
returns-clause-kept c =
    let s = c.args.s.now in
    let t = s.task in
    let q = c.requires in
    let cleared_rows = c.empty.new.s.rows.now in
    let begun = begun_arrays t.count (arrays s.diagrams.now s.stages.now cleared_rows s.marks.now) in
    let first = workspace s.pairs.now begun in
    let pairs = normalise_from s.pairs.now t.first (t.count - t.first) in
    rw (c.takes.ensures, c.normalise.ensures.left, c.begin.ensures, c.empty.ensures.left)
    (kept-put s c.normalise.new.s.look.now (workspace pairs (with_held (handed_in t pairs (held_of begun)) begun)) 0 0
    (rw (c.begin.ensures, c.empty.ensures.left) at c.normalise.ensures.long)
    (lengths-then {b = first}
    (record {
      pairs = refl;
      diagrams = cleared_length s.diagrams.now (2 * t.count) q.diagrams-long;
      stages = length-set (cleared s.stages.now (2 * t.count)) (2 * 0) 2 ∙ cleared_length s.stages.now (2 * t.count) q.stages-long;
      rows = c.empty.ensures.long;
      marks = cleared_length s.marks.now t.count q.marks-long;
    })
    (merged-long t pairs first (normalised-long s.pairs.now t.first (t.count - t.first)))))
