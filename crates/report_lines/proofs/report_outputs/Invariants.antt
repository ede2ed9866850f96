-- From turn to turn the lines of the comparisons made so far are stored, and the slices hold what the last of them left.
use Rattle.std.proofs.Common.{◌≡◌}
use Rattle.compare_model.specs.Lent.{SameSlices}
use Rattle.comparer.specs.Lent.{holding}
use Rattle.report_lines.proofs.PrintingLaws.{Printing}
use Rattle.report_output.specs.code.Slices.{asked}
use Rattle.report_lines.proofs.report_outputs.Given as goal

abbrev pub invariant-loop-output : goal.invariant-loop-output
invariant-loop-output l =
    record {
      printing : Printing l.edition (asked 0 (holding l.initial.table l.initial.lent)) (asked l.output (holding l.table l.lent)) l.initial.report.out.now l.initial.report.at l.report.out.now l.report.at;
      lent_same : SameSlices l.initial.lent l.lent;
      report_same : l.report.out.ghost_name ≡ l.initial.report.out.ghost_name;
    }
