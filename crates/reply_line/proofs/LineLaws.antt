-- The line of an Undecided by its cause.
use Prim.Native.Nat.{ℕ}
use Rattle.compare_model.specs.Said.{undecided_by}
use Rattle.reply_line.specs.code.Cause.{cause_vertex, cause_word}
use Rattle.reply_line.specs.Line.{line_for}
use Rattle.report_format.specs.Report.{reply_line}
use Rattle.sweep_model.specs.declared.Cause.TheVariants.{Rows, Size, Steps}
use Rattle.sweep_model.specs.declared.Cause.{Cause}
use mathlib.Core.List.{List, []}
use mathlib.Core.Path.{◌≡◌, refl}

-- It has the cause's word and vertex, and no setting.
pub undecided_line : (edition output : ℕ) (x : Cause) (rows steps added : ℕ) (setting : List ℕ)
    → line_for edition output (undecided_by x rows steps added) setting ≡ reply_line edition output (cause_word x) [] (cause_vertex x) rows steps
undecided_line edition output Size rows steps added setting = refl
undecided_line edition output (Rows v) rows steps added setting = refl
undecided_line edition output (Steps v) rows steps added setting = refl
