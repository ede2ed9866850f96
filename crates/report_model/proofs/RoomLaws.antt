-- Where there is room for every pair of files, none of the program's comparisons is refused: each leaves the lengths of its slices.
use Prim.Native.Nat.{◌<◌, ◌≤◌, ℕ}
use Rattle.compare_model.proofs.Demand1.{passes}
use Rattle.compare_model.proofs.GraphLaws.{count-vertices, next-few}
use Rattle.compare_model.proofs.RefusalLaws.{compared-answered, passed}
use Rattle.compare_model.proofs.Since.{given-fits, given-steady, since_compared, since_loaded}
use Rattle.compare_model.specs.Compare.{Given, answer_to, answered, over_front, problem_of, refusal_of, setting_bytes, setting_left, vertex_room}
use Rattle.compare_model.specs.Passed.{Enough}
use Rattle.report_model.specs.Report.{compare_vertices, next, program_limits, row_limit}
use Rattle.sweep_model.proofs.Right.{different-right}
use Rattle.sweep_model.specs.Sweep.{Verdict, different, equal, undecided}
use Rattle.table.specs.Accepted.{Accepted}
use Rattle.table.specs.Limits.{max_inputs}
use Rattle.table.specs.Table.{outputs_of}
use lib.ListN.{length, length-append, length-drop, length-map}
use mathlib.Core.List.{List}
use mathlib.Core.Path.{◌≡◌, refl}
use native.Mathlib.Omega.{arith}

-- A comparison with the program's limits and slices that are long enough for every table.
pub record Roomy (g : Given) : Type 0 where
  pub table : Accepted g.table
  pub limits : g.limits ≡ program_limits
  pub room : Enough compare_vertices row_limit g.room (length g.marks)
  pub setting : max_inputs ≤ length g.setting

-- The front of a list replaced by no more than it has leaves its length.
over_length : (new old : List ℕ) → length new ≤ length old → length (over_front new old) ≡ length old
over_length new old h = simp (length-append, length-drop) (omega arith)

-- A comparison that is not refused leaves the lengths of the marks and the setting.
module _ (g : Given) (h : refusal_of g ≡ 0) where
  marks-kept : length (answered g (answer_to g)).marks ≡ length g.marks
  unfolding answered
  marks-kept =
      over_length (answer_to g).left.marks g.marks
      (omega (
        arith,
        (given-steady g h).marked,
        count-vertices g.table g.output g.limits,
        next-few g.table g.output g.limits,
        (passed g h).room.marked,
      ))

  setting_kept : length (answered g (answer_to g)).setting ≡ length g.setting
  unfolding answer_to answered problem_of setting_left setting_bytes
  setting_kept = go (answer_to g).verdict refl
    where
      go : (x : Verdict) → (answer_to g).verdict ≡ x → length (setting_left x g.setting) ≡ length g.setting
      go equal e = refl
      go (different t) e =
          let digits : length (setting_bytes t) ≡ length t = length-map t _ in
          over_length (setting_bytes t) g.setting
          (omega (arith, digits, (different-right (given-fits g h) t e).digits, (passed g h).setting))
      go (undecided c) e = refl

module _ {g : Given} (r : Roomy g) (inside : g.output < outputs_of g.table) where
  vertices : vertex_room g.table ≤ compare_vertices
  vertices = omega (arith, r.table.formed.inputs, r.table.formed.made)

  rows_limit : g.limits.rows ≡ row_limit
  rows_limit = rw r.limits refl

  -- It is not refused.
  pub never_refused : refusal_of g ≡ 0
  never_refused =
      passes g
      (record {
        table = r.table;
        output = inside;
        limits =
            rw r.limits
            (record {
              size = record { some = omega arith; bounded = omega arith };
              rows = record { some = omega arith; bounded = omega arith };
              steps = record { some = omega arith; bounded = omega arith };
            });
        room =
            record {
              pairs = omega (arith, vertices, r.room.pairs);
              look = omega (arith, vertices, r.room.look);
              diagrams = omega (arith, vertices, r.room.diagrams);
              stages = omega (arith, vertices, r.room.stages);
              diagram_rows = omega (arith, rows_limit, r.room.diagram_rows);
              marked = omega (arith, vertices, r.room.marked);
            };
        setting = omega (arith, r.table.formed.inputs, r.setting);
      })

  -- The next one has as much room,
  pub roomy_next : Roomy (next g)
  unfolding next
  roomy_next =
      record {
        table = (since_compared g (since_loaded r.table)).accepted;
        limits = r.limits;
        room =
            record {
              pairs = r.room.pairs;
              look = r.room.look;
              diagrams = r.room.diagrams;
              stages = r.room.stages;
              diagram_rows = r.room.diagram_rows;
              marked = rw (compared-answered g never_refused) (omega (arith, marks-kept g never_refused, r.room.marked));
            };
        setting = rw (compared-answered g never_refused) (omega (arith, setting_kept g never_refused, r.setting));
      }

  -- and the table as many outputs.
  pub outputs-next : outputs_of (next g).table ≡ outputs_of g.table
  unfolding next
  outputs-next = (since_compared g (since_loaded r.table)).outputs
