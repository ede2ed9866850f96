-- The word and the vertex of an Undecided, by its cause.
use Rattle.std.specs.Prelude.{ℕ, Option, Some, None}
use Rattle.report_format.specs.declared.Word.TheVariants as word
use Rattle.report_format.specs.declared.Word.{Word}
use Rattle.sweep_model.specs.declared.Cause.TheVariants.{Rows, Size, Steps}
use Rattle.sweep_model.specs.declared.Cause.{Cause}

-- "reply word (.. size, rows, steps)" (RULES 11.4)
abbrev pub cause_word : Cause → Word
cause_word Size = word.Size
cause_word (Rows v) = word.Rows
cause_word (Steps v) = word.Steps

-- "vertex named by Rows or Steps" (RULES 11.4)
abbrev pub cause_vertex : Cause → Option ℕ
cause_vertex Size = None
cause_vertex (Rows v) = Some v
cause_vertex (Steps v) = Some v
