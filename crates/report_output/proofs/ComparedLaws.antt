-- What a comparison leaves is the next one's, and its line is stored.
use Prim.Native.Nat.{◌+◌, ◌≤◌, ℕ}
use Rattle.compare_model.specs.Compare.{CompareRoom, Given, Left, compared}
use Rattle.compare_model.specs.Said.{said_of}
use Rattle.comparer.specs.Lent.{left}
use Rattle.reply_line.specs.Line.{line_for}
use Rattle.report_format.specs.Report.{LINE_ROOM}
use Rattle.report_model.specs.Report.{comparison_line, next, reply_room}
use Rattle.refusal.specs.declared.Refusal.{Refusal}
use Rattle.report_fields.proofs.Adding.{added_within}
use Rattle.report_fields.specs.code.Line.{Added}
use Rattle.report_fields.specs.declared.Line.{Line}
use Rattle.std.specs.Prelude.{Result}
use Rattle.sweep_model.specs.declared.Reply.{Reply}
use Rattle.table.specs.Limits.{max_inputs}
use Rattle.table.specs.Table.{inputs_of}
use lib.ListN.{length, take}
use lib.Seq.{length-take-le}
use mathlib.Core.List.{List}
use mathlib.Core.Path.{◌≡◌, ap, subst}
use native.Mathlib.Omega.{arith}

module _ (g : Given) (answer : Result Reply Refusal) (table marks setting : List ℕ) (e : left (said_of answer) table marks setting ≡ compared g) where
  -- What it left is what the next one is given.
  pub compared-next : (room : CompareRoom) → room ≡ g.room
      → record { table = table; output = g.output + 1; limits = g.limits; room = room; marks = marks; setting = setting } ≡ next g
  unfolding next
  compared-next room h =
      rw h
      (ap
      (λ (l : Left).
      record { table = l.table; output = g.output + 1; limits = g.limits; room = g.room; marks = l.marks; setting = l.setting })
      e)

  -- The line of its reply is its line.
  pub compared-added : (edition : ℕ) → inputs_of g.table ≤ max_inputs → inputs_of g.table ≤ length setting → {old new : Line}
      → Added old (LINE_ROOM + length (take (inputs_of g.table) setting)) (line_for edition g.output (said_of answer) (take (inputs_of g.table) setting)) new
      → Added old reply_room (comparison_line edition g) new
  unfolding comparison_line
  compared-added edition within long {old} {new} h =
      subst (λ (bytes : List ℕ). Added old reply_room bytes new)
      (ap (λ (l : Left). line_for edition g.output l.reply (take (inputs_of g.table) l.setting)) e)
      (added_within (omega (arith, length-take-le (inputs_of g.table) setting long)) h)
