-- The slices that are too short, then the load, decide; no loop.
-- Each return is a case of the report.
use Rattle.compare_model.specs.Compare.{CompareRoom}
use Rattle.comparer.specs.Lent.{holding}
use Rattle.load_model.specs.Load.{answer_of}
use Rattle.report_model.proofs.ReportLaws.{long-enough, report_short, works-accepted}
use Rattle.report_model.specs.Report.{Lent, load_room, program_limits, short?}
use Rattle.report_pair.proofs.ReportLaws.{accepted_report, front-stored, kept-as, refused_report, refused_unchanged, same-room, table-ready}
use Rattle.report_pair.specs.Lent.{lent}
use Rattle.truth.proofs.Booleans.{clash}
use lib.ListN.{length}
use mathlib.Core.Bool.{false}
use mathlib.Core.Path.{◌∙◌, ◌≡◌, ap, refl, sym}
use borrow.Author.Rules.{rules}
use native.Mathlib.Omega.{arith}
use Rattle.report_pair.proofs.report_pair.Goals as goal

pub returns-then-is_short-clause-reported : goal.returns-then-is_short-clause-reported
returns-then-is_short-clause-reported c =
    let a = c.args in
    let l : Lent = lent a.out.now (holding a.table.now a.lent.now) in record {
      result = sym (report_short a.left.now a.right.now l (sym (rw c.lengths.ensures at c.is_short.ensures) ∙ c.if-is_short.true));
      kept = λ h. record { pairs = refl; look = refl; diagrams = refl; stages = refl; rows = refl };
    }

pub report_table-requires : goal.report_table-requires
report_table-requires c =
    let load = c.load in
    let a = c.args in
    let l : Lent = lent a.out.now (holding a.table.now a.lent.now) in
    let long : short? l ≡ false = sym (rw c.lengths.ensures at c.is_short.ensures) ∙ c.if-is_short.false in
    let bounds = long-enough (length a.out.now) l.room (length a.lent.now.marks.now) (length a.lent.now.setting.now) long in record {
      ready = table-ready a.left.now a.right.now (load_room l) (answer_of load.result) _ _ load.ensures.result (ap answer_of c.in-Ok.is) load.new.table a.table.now load.ensures.table bounds.setting;
      report_room_in_bounds = bounds.out;
    }

pub returns-in-Err-clause-reported : goal.returns-in-Err-clause-reported
returns-in-Err-clause-reported c =
    let load = c.load in
    let told = ap answer_of c.in-Err.is in
    let a = c.args in
    let l : Lent = lent a.out.now (holding a.table.now a.lent.now) in
    let long : short? l ≡ false = sym (rw c.lengths.ensures at c.is_short.ensures) ∙ c.if-is_short.false in
    let bounds = long-enough (length a.out.now) l.room (length a.lent.now.marks.now) (length a.lent.now.setting.now) long in record {
      result =
          refused_report a.left.now a.right.now l long (answer_of load.result) load.ensures.result load.new.table load.ensures.table _ _ _ told (omega (arith, bounds.out)) _ _
          (rw c.from-number.ensures at c.write_refused.ensures);
      kept = λ h. refused_unchanged (answer_of load.result) told (kept-as _ _ (search rules) (search rules) (search rules) (search rules) load.ensures.kept) refl;
    }

pub returns-in-Ok-clause-reported : goal.returns-in-Ok-clause-reported
returns-in-Ok-clause-reported c =
    let load = c.load in
    let table = c.report_table in
    let told = ap answer_of c.in-Ok.is in
    let a = c.args in
    let l : Lent = lent a.out.now (holding a.table.now a.lent.now) in
    let long : short? l ≡ false = sym (rw c.lengths.ensures at c.is_short.ensures) ∙ c.if-is_short.false in record {
      result =
          accepted_report a.left.now a.right.now l long (answer_of load.result) load.ensures.result load.new.table load.ensures.table _ _ told _ _ _ table.result
          (ap (λ (r : CompareRoom). record { table = load.new.table; output = 0; limits = program_limits; room = r; marks = a.lent.now.marks.now; setting = a.lent.now.setting.now })
          (same-room (search rules) (search rules) (search rules) (search rules) refl))
          (rw c.from-edition.ensures at table.ensures.stored_within.stored) table.ensures.left_after;
      kept = λ h. clash (works-accepted a.left.now a.right.now l long _ _ (sym load.ensures.result ∙ told)) h;
    }

pub returns-in-Ok-clause-front : goal.returns-in-Ok-clause-front
returns-in-Ok-clause-front c =
    let a = c.args in
    let l : Lent = lent a.out.now (holding a.table.now a.lent.now) in
    let long : short? l ≡ false = sym (rw c.lengths.ensures at c.is_short.ensures) ∙ c.if-is_short.false in
    let bounds = long-enough (length a.out.now) l.room (length a.lent.now.marks.now) (length a.lent.now.setting.now) long in
    front-stored bounds.out c.report_table.auto.out c.report_table.ensures.stored_within
