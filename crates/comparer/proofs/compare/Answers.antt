-- A refusal, or the sweep and what follows it; no loop.
-- The laws say it of the arguments as given.
use Rattle.compare_model.proofs.RefusalLaws.{passed}
use Rattle.compare_model.specs.Compare.{Given, setting_left}
use Rattle.compare_model.specs.Said.{replied, said_of}
use Rattle.refusal.proofs.NumberLaws.{passed_on}
use Rattle.comparer.proofs.CompareLaws.{finished, finishes, refusal_found, turned_back_lem}
use Rattle.comparer.specs.Lent.{given, holding, left}
use Rattle.sweep_state.specs.code.Ending.{verdict_of}
use Rattle.table.specs.Table.{inputs_of}
use mathlib.Core.Path.{◌∙◌, ap, refl, sym}
use Rattle.comparer.proofs.compare.Goals as goal

pub returns-in_err-words-clause-compared : goal.returns-in_err-words-clause-compared
returns-in_err-words-clause-compared c =
    let a = c.args in
    let g : Given = given a.output a.limits (holding a.table.now a.lent.now) in
    record {
      result =
          ap (λ r. left (said_of r) g.table g.marks g.setting) (passed_on c.from_residual.result _ c.from_residual.ensures)
          ∙ turned_back_lem g _ (refusal_found g _ (rw c.lengths.ensures at c.in_err-words.ensures.refusal));
      kept = λ h. record { pairs = refl; look = refl; diagrams = refl; stages = refl; rows = refl };
    }

pub run-ended-requires : goal.run-ended-requires
run-ended-requires c =
    let a = c.args in
    let g : Given = given a.output a.limits (holding a.table.now a.lent.now) in
    let p = passed g (sym (refusal_found g _ (rw c.lengths.ensures at c.in_ok-words.ensures.refusal))) in record {
      accepted = rw c.in_ok-words.ensures.table p.table;
      known = rw c.in_ok-words.ensures.table p.output;
      within = p.limits;
      room = rw c.in_ok-words.ensures.table p.room;
    }

pub finish-requires : goal.finish-requires
finish-requires c =
    let a = c.args in
    let g : Given = given a.output a.limits (holding a.table.now a.lent.now) in
    let p = passed g (sym (refusal_found g _ (rw c.lengths.ensures at c.in_ok-words.ensures.refusal))) in
    let run = c.run-ended in
    rw run.ensures.setting_kept (finishes g run.new.lent.pairs.now run.new.lent.rows.now run.new.lent.marks.now run.result (rw c.in_ok-words.ensures.table at run.ensures.swept) p)

pub returns-clause-compared : goal.returns-clause-compared
returns-clause-compared c =
    let a = c.args in
    let g : Given = given a.output a.limits (holding a.table.now a.lent.now) in
    let h = sym (refusal_found g _ (rw c.lengths.ensures at c.in_ok-words.ensures.refusal)) in
    let run = c.run-ended in
    let finish = c.finish in
    record {
      result =
          ap (λ l. left (replied finish.result) finish.new.table l.marks.now l.setting.now) finish.ensures.left
          ∙ finished g run.new.lent.pairs.now run.new.lent.rows.now run.new.lent.marks.now run.result (rw c.in_ok-words.ensures.table at run.ensures.swept) h
          finish.result finish.new.table _ finish.ensures.table_after
          (ap (λ s. setting_left (verdict_of run.new.lent.rows.now (inputs_of a.table.now) run.result.end) s.now) run.ensures.setting_kept) finish.ensures.result_value;
      kept = λ n. absurd (n h);
    }
