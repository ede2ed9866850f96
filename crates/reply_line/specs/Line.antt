-- The line that the program prints of a reply.
use Rattle.std.specs.Prelude.{◌+◌, ℕ, length, List, [], Result, Ok, Err, Some, None}
use Rattle.compare_model.specs.Said.{Said, replied}
use Rattle.report_format.specs.Report.{LINE_ROOM, refused_line, reply_line}
use Rattle.report_format.specs.declared.Word.TheVariants as word
use Rattle.sweep_model.specs.declared.Reply.{Reply}

-- The reply, or the number of a refusal. (RULES 7.3, 8.1)
abbrev pub said_or_number : Result Reply ℕ → Said
said_or_number (Ok reply) = replied reply
said_or_number (Err number) = Said.refused number

-- "A Different writes one byte an input .. to the front of the lent setting slice": the other replies have no setting. (RULES 7.2)
abbrev pub setting_for : Said → List ℕ → List ℕ
setting_for (Said.refused n) setting = []
setting_for (Said.equal rows steps added) setting = []
setting_for (Said.different rows steps added) setting = setting
setting_for (Said.size rows steps added) setting = []
setting_for (Said.rows v rows steps added) setting = []
setting_for (Said.steps v rows steps added) setting = []

-- "then a line each": of a reply on an output. "The fields are: edition, output number, reply word (equal, different, size, rows, steps)" and
-- the "vertex named by Rows or Steps"; "the reply line prints that edition". A comparison that is refused has neither file nor line.
-- (RULES 11.3, 11.4)
abbrev pub line_for : ℕ → ℕ → Said → List ℕ → List ℕ
line_for edition output (Said.refused n) setting = refused_line n 0 0
line_for edition output (Said.equal rows steps added) setting = reply_line edition output word.Equal [] None rows steps
line_for edition output (Said.different rows steps added) setting = reply_line edition output word.Different setting None rows steps
line_for edition output (Said.size rows steps added) setting = reply_line edition output word.Size [] None rows steps
line_for edition output (Said.rows v rows steps added) setting = reply_line edition output word.Rows [] (Some v) rows steps
line_for edition output (Said.steps v rows steps added) setting = reply_line edition output word.Steps [] (Some v) rows steps

-- The bytes that the line is sure to fit in.
abbrev pub room_for : Said → List ℕ → ℕ
room_for said setting = LINE_ROOM + length (setting_for said setting)
