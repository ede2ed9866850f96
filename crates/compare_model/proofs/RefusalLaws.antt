-- A comparison is refused, or every bound holds and the sweep answers.
use Prim.Native.Nat.{◌*◌, ℕ}
use Rattle.compare_model.specs.Compare.{CompareRoom, Given, answer_to, answered, beyond?, compared, max_rows, max_steps, outside?, refusal_of, short_slice?, slice_words, turned_back, vertex_room}
use Rattle.compare_model.specs.Passed.{Enough, LimitsWithin, Passed, Within}
use Rattle.sweep_model.specs.State.{Limits}
use Rattle.table.proofs.AcceptedLaws.{accepted}
use Rattle.table.proofs.RefusalLaws.{first-passed, none-applies, table-passed}
use Rattle.table.specs.Refusals.{Test}
use Rattle.table.specs.Table.{inputs_of, outputs_of, table_tests}
use Rattle.truth.proofs.Booleans.{neither}
use borrow.Author.Tests.{eq-eqb, leb-false, leb-true, ltb-false, ne_eqb, not-false}
use lib.Dec.{leb, ltb}
use lib.ListN.{length}
use mathlib.Core.Bool.{Bool, ◌||◌, false, not}
use mathlib.Core.List.{List, [], ◌∷◌}
use mathlib.Core.Logic.{◌≢◌}
use mathlib.Core.Path.{◌∙◌, ◌≡◌, sym}
use native.Mathlib.Omega.{arith}

limit_within : (most n : ℕ) → outside? most n ≡ false → Within most n
unfolding outside?
limit_within most n h =
    let p = neither (not (leb 1 n)) (ltb most n) h in
    record { some = leb-true 1 n (not-false (leb 1 n) p.0); bounded = ltb-false most n p.1 }

limits-within : (l : Limits) → beyond? l ≡ false → LimitsWithin l
unfolding beyond?
limits-within l h =
    let p = neither (outside? max_rows l.size || outside? max_rows l.rows) (outside? max_steps l.steps) h in
    let q = neither (outside? max_rows l.size) (outside? max_rows l.rows) p.0 in
    record {
      size = limit_within max_rows l.size q.0;
      rows = limit_within max_rows l.rows q.1;
      steps = limit_within max_steps l.steps p.1;
    }

pub slices-enough : (vertices rows : ℕ) (r : CompareRoom) (marks : ℕ) → short_slice? vertices rows r marks ≡ false → Enough vertices rows r marks
unfolding short_slice?
slices-enough vertices rows r marks h =
    let p = neither (pairs || look || diagrams || stages || diagram_rows) (ltb marks vertices) h in
    let q = neither (pairs || look || diagrams || stages) diagram_rows p.0 in
    let s = neither (pairs || look || diagrams) stages q.0 in
    let t = neither (pairs || look) diagrams s.0 in
    let u = neither pairs look t.0 in
    record {
      pairs = ltb-false r.pairs (slice_words vertices) u.0;
      look = ltb-false r.look (slice_words vertices) u.1;
      diagrams = ltb-false r.diagrams (slice_words vertices) t.1;
      stages = ltb-false r.stages (slice_words vertices) s.1;
      diagram_rows = ltb-false r.rows (4 * rows) q.1;
      marked = ltb-false marks vertices p.1;
    }
  where
    pairs : Bool
    pairs = ltb r.pairs (slice_words vertices)

    look : Bool
    look = ltb r.look (slice_words vertices)

    diagrams : Bool
    diagrams = ltb r.diagrams (slice_words vertices)

    stages : Bool
    stages = ltb r.stages (slice_words vertices)

    diagram_rows : Bool
    diagram_rows = ltb r.rows (4 * rows)

module _ (g : Given) where
  -- Where none of 10 to 15 applies, every bound holds.
  pub passed : refusal_of g ≡ 0 → Passed g
  unfolding refusal_of
  passed h =
      let t = first-passed (table_tests g.table) own h in
      let a = none-applies 12 (leb (outputs_of g.table) g.output) (limit_test ∷ slice-test ∷ setting-test ∷ []) (omega arith)
      (sym (table-passed g.table own t) ∙ h) in
      let b = none-applies 13 (beyond? g.limits) (slice-test ∷ setting-test ∷ []) (omega arith) a.1 in
      let c = none-applies 14 (short_slice? (vertex_room g.table) g.limits.rows g.room (length g.marks)) (setting-test ∷ []) (omega arith) b.1 in
      let d = none-applies 15 (ltb (length g.setting) (inputs_of g.table)) [] (omega arith) c.1 in
      record {
        table = accepted g.table t;
        output = leb-false (outputs_of g.table) g.output a.0;
        limits = limits-within g.limits b.0;
        room = slices-enough (vertex_room g.table) g.limits.rows g.room (length g.marks) c.0;
        setting = ltb-false (length g.setting) (inputs_of g.table) d.0;
      }
    where
      limit_test : Test ℕ
      limit_test = record { answer = 13; applies = beyond? g.limits }

      slice-test : Test ℕ
      slice-test = record { answer = 14; applies = short_slice? (vertex_room g.table) g.limits.rows g.room (length g.marks) }

      setting-test : Test ℕ
      setting-test = record { answer = 15; applies = ltb (length g.setting) (inputs_of g.table) }

      own : List (Test ℕ)
      own = record { answer = 12; applies = leb (outputs_of g.table) g.output } ∷ limit_test ∷ slice-test ∷ setting-test ∷ []

  -- Where one of 10 to 15 applies, the call is turned back with the first of them.
  pub compared-refused : refusal_of g ≢ 0 → compared g ≡ turned_back g (refusal_of g)
  unfolding compared
  compared-refused h = rw (ne_eqb (refusal_of g) 0 h)

  -- Otherwise the sweep answers.
  pub compared-answered : refusal_of g ≡ 0 → compared g ≡ answered g (answer_to g)
  unfolding compared
  compared-answered h = rw (eq-eqb (refusal_of g) 0 h)
