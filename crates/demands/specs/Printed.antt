-- What the program prints of two files whose load is accepted: the head line, and of each output in rising number a line that is true of
-- the files. (RULES 11.2, 11.3)
use Rattle.std.specs.Prelude.{suc, ℕ, length, take, None, false, List, [], ◌++◌, ◌∷◌, ◌≡◌}
use Rattle.compare_model.specs.Compare.{setting_bytes}
use Rattle.compare_model.specs.Said.{undecided_by}
use Rattle.demands.specs.Claims.{Agree, Separated}
use Rattle.demands.specs.Demand3.{Call, Each, Holds, Ran}
use Rattle.load_model.specs.Load.{accepted, load_result, refused, table_of}
use Rattle.load_model.specs.declared.Tally.{Tally}
use Rattle.netlist_model.specs.Check.{read, read_netlist}
use Rattle.netlist_model.specs.Netlist.{Netlist}
use Rattle.netlist_model.specs.Pairing.{paired}
use Rattle.netlist_model.specs.declared.Role.TheVariants.{First, Second}
use Rattle.reply_line.specs.Line.{line_for}
use Rattle.report_format.specs.Report.{head_line, refused_line, reply_line}
use Rattle.report_format.specs.declared.Word.TheVariants.{Different, Equal}
use Rattle.report_model.specs.Report.{Lent, Report, load_room, program_limits, report_of, short?}
use Rattle.sweep_model.specs.declared.Cause.{Cause}
use Rattle.table.specs.Table.{inputs_of}

-- "then a line each": the line of a comparison of a pair of an edition. (RULES 11.3)
abbrev pub call_line : ℕ → Call → List ℕ
call_line edition c = line_for edition c.given.output c.left.reply (take (inputs_of c.given.table) c.left.setting)

unfoldable pub call_lines : ℕ → List Call → List ℕ
call_lines edition [] = []
call_lines edition (c ∷ cs) = call_line edition c ++ call_lines edition cs

-- "compares every output in rising number", "with size and row limits 4,096 and step limit 1,000,000": calls on the outputs from k on. (RULES 11.2)
pub data Numbered : ℕ → List Call → Type 0 where
  none : {k : ℕ} → Numbered k []
  next : {k : ℕ} {c : Call} {cs : List Call} → c.given.output ≡ k → c.given.limits ≡ program_limits → Numbered (suc k) cs → Numbered k (c ∷ cs)

-- A line on output k that is true of two files and opens with their edition: `equal` where the output agrees on every allowed setting,
-- `different` with the first allowed one on which it does not, or one of the undecided words. (RULES 11.4, 12.2)
pub data TrueLine (d e : Netlist) (k : ℕ) : List ℕ → Type 0 where
  says-equal : (rows steps : ℕ) → Agree d e k → TrueLine d e k (reply_line d.edition k Equal [] None rows steps)
  says-different : (rows steps : ℕ) {before after : List ℕ} (s : Separated d e k before after)
      → TrueLine d e k (reply_line d.edition k Different (setting_bytes s.setting) None rows steps)
  says-undecided : (c : Cause) (rows steps added : ℕ) → TrueLine d e k (line_for d.edition k (undecided_by c rows steps added) [])

-- The bytes printed, and the comparisons of which they are the lines.
pub record Printed (d e : Netlist) (loaded : List ℕ) (report : Report) : Type 0 where
  pub calls : List Call
  pub bytes : take report.count report.out ≡ head_line ++ call_lines d.edition calls
  pub count : length calls ≡ length d.outputs
  pub numbered : Numbered 0 calls
  pub ran : Ran loaded calls report.table
  pub holds : Holds d e loaded calls report.table
  pub true_lines : Each (λ c. TrueLine d e c.given.output (call_line d.edition c)) calls

abbrev pub PrintedTrue : Type 0
PrintedTrue =
    (left right : List ℕ) (lent : Lent) (edition : ℕ) (tally : Tally) (d e : Netlist)
    → short? lent ≡ false → load_result left right (load_room lent) ≡ accepted edition tally
    → read_netlist First left ≡ read d → read_netlist (Second d.edition) right ≡ read e
    → Printed d e (table_of d (paired d e) lent.table) (report_of left right lent)

-- "A refused load prints only `refused⇥number⇥file⇥line`." (RULES 11.6)
abbrev pub PrintedRefused : Type 0
PrintedRefused =
    (left right : List ℕ) (lent : Lent) (number file line : ℕ)
    → short? lent ≡ false → load_result left right (load_room lent) ≡ refused number file line
    → take (report_of left right lent).count (report_of left right lent).out ≡ refused_line number file line
