-- Demand 1 for a comparison: a good call is not refused, and no other is answered.
use Prim.Native.Nat.{◌*◌, ℕ}
use Rattle.compare_model.proofs.ClaimLaws.{reply-says}
use Rattle.compare_model.proofs.RefusalLaws.{passed}
use Rattle.compare_model.proofs.Since.{since_loaded}
use Rattle.compare_model.specs.Claims.{ReplySays}
use Rattle.compare_model.specs.Compare.{CompareRoom, Given, beyond?, call_tests, compared, outside?, refusal_of, short_slice?, slice_words}
use Rattle.compare_model.specs.Demand1.{Answers, Good, says-different, says-equal, says-rows, says-size, says-steps}
use Rattle.compare_model.specs.Passed.{Enough, LimitsWithin, Passed, Within}
use Rattle.compare_model.specs.Said.{Said}
use Rattle.sweep_model.specs.State.{Limits}
use Rattle.table.proofs.AcceptedLaws.{accepts}
use Rattle.table.proofs.FitsLaws.{accepted-fits, fits-accepted}
use Rattle.table.proofs.RefusalLaws.{table-passed}
use Rattle.table.specs.Refusals.{first_refusal}
use Rattle.table.specs.Table.{inputs_of, outputs_of}
use borrow.Author.Tests.{le-leb, le-ltb, lt-leb}
use lib.ListN.{length}
use mathlib.Core.Bool.{false}
use mathlib.Core.Path.{◌∙◌, ◌≡◌, refl}
use native.Mathlib.Omega.{arith}

-- Test 13 does not apply to limits within theirs.
limit_inside : {most n : ℕ} → Within most n → outside? most n ≡ false
unfolding outside?
limit_inside {most} {n} h = rw (le-leb 1 n h.some, le-ltb most n h.bounded)

limits-inside : {l : Limits} → LimitsWithin l → beyond? l ≡ false
unfolding beyond?
limits-inside {l} h = rw (limit_inside h.size, limit_inside h.rows, limit_inside h.steps)

-- Test 14 does not apply to slices that are long enough.
slices-suffice : {vertices rows : ℕ} {r : CompareRoom} {marks : ℕ} → Enough vertices rows r marks → short_slice? vertices rows r marks ≡ false
unfolding short_slice?
slices-suffice {vertices} {rows} {r} {marks} h =
    rw (
      le-ltb r.pairs (slice_words vertices) h.pairs,
      le-ltb r.look (slice_words vertices) h.look,
      le-ltb r.diagrams (slice_words vertices) h.diagrams,
      le-ltb r.stages (slice_words vertices) h.stages,
      le-ltb r.rows (4 * rows) h.diagram_rows,
      le-ltb marks vertices h.marked,
    )

module _ (g : Given) where
  -- Where every bound holds none of 10 to 15 applies.
  pub passes : Passed g → refusal_of g ≡ 0
  unfolding refusal_of first_refusal
  passes h =
      table-passed g.table (call_tests g.table g.output g.limits g.room (length g.marks) (length g.setting)) (accepts g.table h.table)
      ∙ rw (
        lt-leb (outputs_of g.table) g.output h.output,
        limits-inside h.limits,
        slices-suffice h.room,
        le-ltb (length g.setting) (inputs_of g.table) h.setting,
      ) refl

  -- Every bound holds of a good call.
  good-passed : Good g → Passed g
  good-passed h =
      record {
        table = fits-accepted g.table h.table;
        output = h.output;
        limits =
            record {
              size = record { some = h.some_size; bounded = omega (arith, h.size) };
              rows = record { some = h.some-row; bounded = omega (arith, h.rows) };
              steps = record { some = h.some_step; bounded = omega (arith, h.steps) };
            };
        room =
            record {
              pairs = omega (arith, h.pairs);
              look = omega (arith, h.look);
              diagrams = omega (arith, h.diagrams);
              stages = omega (arith, h.stages);
              diagram_rows = h.diagram_rows;
              marked = h.marks;
            };
        setting = h.setting;
      }

  -- A call that is not refused is a good one.
  pub compare_only : refusal_of g ≡ 0 → Good g
  compare_only e =
      let h = passed g e in
      record {
        table = accepted-fits h.table;
        output = h.output;
        some_size = h.limits.size.some;
        size = omega (arith, h.limits.size.bounded);
        some-row = h.limits.rows.some;
        rows = omega (arith, h.limits.rows.bounded);
        some_step = h.limits.steps.some;
        steps = omega (arith, h.limits.steps.bounded);
        pairs = omega (arith, h.room.pairs);
        look = omega (arith, h.room.look);
        diagrams = omega (arith, h.room.diagrams);
        stages = omega (arith, h.room.stages);
        diagram_rows = h.room.diagram_rows;
        marks = h.room.marked;
        setting = h.setting;
      }

  -- Demand 1: a good call is not refused.
  pub compare_accepts : Good g → refusal_of g ≡ 0
  compare_accepts h = passes (good-passed h)

  -- It is answered by Equal, Different or Undecided: what is said of its reply says no refusal.
  pub compare_answers : Good g → Answers (compared g).reply
  compare_answers h =
      let accepted = compare_accepts h in
      answers (compared g).reply (reply-says g accepted (since_loaded (passed g accepted).table))
    where
      answers : (x : Said) → ReplySays g.table g (compared g) x → Answers x
      answers (Said.refused n) k = absurd k
      answers (Said.equal rows steps added) k = says-equal
      answers (Said.different rows steps added) k = says-different
      answers (Said.size rows steps added) k = says-size
      answers (Said.rows v rows steps added) k = says-rows
      answers (Said.steps v rows steps added) k = says-steps
