-- What compare gives back and leaves, refused or not, is the comparison.
use Prim.Native.Nat.{◌*◌, ◌+◌, ℕ}
use Rattle.compare_model.proofs.RefusalLaws.{compared-answered, compared-refused}
use Rattle.refusal.proofs.NumberLaws.{number_some}
use Rattle.compare_model.specs.Compare.{Given, answer_to, answered, call_tests, compared, next_rows, own_rows, refusal_of, said_by, setting_left, table_left, turned_back}
use Rattle.compare_model.specs.Passed.{Passed}
use Rattle.compare_model.specs.Said.{Said, replied}
use Rattle.compare_reply.proofs.SettingLaws.{followed}
use Rattle.comparer.specs.Lent.{left}
use Rattle.comparer.specs.code.Work.{Finishes, SweepRan}
use Rattle.refusal.specs.Number.{number_of}
use Rattle.refusal.specs.declared.Refusal.{Refusal}
use Rattle.sweep_state.specs.code.Ending.{verdict_of}
use Rattle.sweep_state.specs.declared.end.Ended.{Ended}
use Rattle.sweep_model.specs.Sweep.{Verdict}
use Rattle.sweep_model.specs.declared.Reply.{Reply}
use Rattle.table.specs.Refusals.{first_refusal}
use Rattle.table.specs.Table.{inputs_of, table_tests, vertices_of}
use lib.ListN.{length, take}
use lib.Seq.{take-take}
use mathlib.Core.List.{List, ◌++◌}
use mathlib.Core.Path.{◌∙◌, ◌≡◌, ap, ap₂, sym}
use native.Mathlib.Omega.{arith}

module _ (g : Given) where
  -- The first refusal, by the lengths of the slices.
  pub refusal_found : (n : ℕ)
      → n ≡ first_refusal 0 (table_tests g.table ++ call_tests g.table g.output g.limits g.room (length g.marks) (length g.setting))
      → n ≡ refusal_of g
  unfolding refusal_of
  refusal_found n e = e

  -- A refusal is given back, and nothing is changed.
  pub turned_back_lem : (r : Refusal) → number_of r ≡ refusal_of g → left (Said.refused (number_of r)) g.table g.marks g.setting ≡ compared g
  unfolding turned_back
  turned_back_lem r e = rw e (sym (compared-refused g (λ z. number_some r (e ∙ z))))

  -- The sweep has ended.
  module _ (pairs rows marks : List ℕ) (e : Ended) (ran : SweepRan g pairs rows marks e) where
    -- What finishing needs.
    pub finishes : Passed g → Finishes g.table pairs rows e (length g.setting)
    finishes p =
        record {
          accepted = p.table;
          long = ran.long;
          room = p.setting;
          followed = followed ran.store (inputs_of g.table) e.end ran.refers;
          within = ran.within;
          counted = ran.counted;
        }

    -- The rows of the table's own vertices stand first in the pairs.
    own_rows_lem : own_rows g.table (answer_to g).left.rows ≡ take (2 * vertices_of g.table) pairs
    own_rows_lem = ap (take (2 * vertices_of g.table)) ran.rows_left ∙ take-take (2 * vertices_of g.table) (2 * (vertices_of g.table + length (next_rows g.table g.output))) pairs (omega arith)

    -- What was finished is the comparison.
    pub finished : refusal_of g ≡ 0 → (reply : Reply) (table setting : List ℕ) → table ≡ table_left g.table (take (2 * vertices_of g.table) pairs)
        → setting ≡ setting_left (verdict_of rows (inputs_of g.table) e.end) g.setting
        → replied reply ≡ said_by (verdict_of rows (inputs_of g.table) e.end) e.used e.steps e.added → left (replied reply) table marks setting ≡ compared g
    unfolding answered
    finished h reply table setting t s r =
        let table-left : table ≡ table_left g.table (own_rows g.table (answer_to g).left.rows) = t ∙ ap (table_left g.table) (sym own_rows_lem) in
        let setting-left : setting ≡ setting_left (answer_to g).verdict g.setting = s ∙ ap (λ (v : Verdict). setting_left v g.setting) (sym ran.verdict) in
        let said : replied reply ≡ said_by (answer_to g).verdict (length (answer_to g).left.book.store) (answer_to g).left.book.steps (answer_to g).added =
        r ∙ sym (rw (ran.verdict, ran.rows-used, ran.steps-taken, ran.rows-added)) in
        ap₂ (λ (x : Said) (ws : List ℕ). left x ws marks setting) said table-left
        ∙ ap₂ (left (answered g (answer_to g)).reply (table_left g.table (own_rows g.table (answer_to g).left.rows))) (sym ran.marks-left) setting-left
        ∙ sym (compared-answered g h)
