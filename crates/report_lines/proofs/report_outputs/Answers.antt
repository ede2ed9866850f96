-- The lines of the comparisons made so far, and one more.
use Rattle.compare_model.specs.Lent.{room_of}
use Rattle.compare_model.specs.declared.Lengths.{Lengths}
use Rattle.report_lines.proofs.PrintingLaws.{here-ready, line_room, printing_end, printing_length, printing_more, printing_none, same_then}
use Rattle.table.specs.Table.{outputs_of}
use mathlib.Core.Path.{◌∙◌, ◌≡◌, ap, refl}
use native.Mathlib.Omega.{arith}
use Rattle.report_lines.proofs.report_outputs.Goals as goal

pub loop-output-init : goal.loop-output-init
loop-output-init c =
    record {
      printing = printing_none _ _ _ _ refl;
      lent_same = record { pairs = refl; look = refl; diagrams = refl; stages = refl; rows = refl; marks = refl; setting = refl; lengths = refl };
      report_same = refl;
    }

pub report_output-requires : goal.report_output-requires
report_output-requires c =
    let n = outputs_of c.args.table.now in
    let turn = rw c.outputs-outputs.ensures at c.loop-output-test.true in
    let p = c.loop-output.invariant.printing in record {
      ready = here-ready p n turn c.requires.reply_room_in_bounds c.requires.ready;
      reply_room_in_bounds = line_room p n turn c.requires.reply_room_in_bounds;
    }

pub loop-output-preserved : goal.loop-output-preserved
loop-output-preserved c =
    let n = outputs_of c.args.table.now in
    let turn = rw c.outputs-outputs.ensures at c.loop-output-test.true in
    let inv = c.loop-output.invariant in
    let line = c.report_output.ensures in
    let same = same_then inv.lent_same line.same in record {
      printing =
          printing_more inv.printing n turn c.requires.reply_room_in_bounds line.left_to_next
          (record {
            room = ap room_of same.lengths;
            table = c.report_output.auto.table ∙ inv.printing.same.table;
            marks = ap (λ (l : Lengths). l.marks) same.lengths;
            setting = ap (λ (l : Lengths). l.setting) same.lengths;
          })
          line.added.stored;
      lent_same = same;
      report_same = line.added.same ∙ inv.report_same;
    }

pub returns-clause-added : goal.returns-clause-added
returns-clause-added c =
    let n = outputs_of c.args.table.now in
    let loop = c.loop-output in
    let p = loop.invariant.printing in
    let last : loop.output ≡ n = omega (arith, c.loop-output-test.false, loop.auto.output-end, c.outputs-outputs.ensures) in
    record {
      stored = (printing_end p n last).0;
      long = printing_length p n (omega (arith, last)) c.requires.reply_room_in_bounds;
      same = loop.invariant.report_same;
    }
