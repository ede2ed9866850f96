-- The numbers of the refusals. (RULES 8.1)
use Rattle.std.specs.Prelude.{ℕ, Result, Ok, Err}
use Rattle.refusal.specs.declared.Refusal.TheVariants.{Count, CountsDiffer, Edition, FileTooLong, LackedName, Limits, MalformedLine, MalformedTable, NotDue, Reference, RepeatedName, SettingDigit, SettingLength, ShortSetting, ShortSlice, ShortTable, TableOrder, TooManyAnds, UnknownOutput}
use Rattle.refusal.specs.declared.Refusal.{Refusal}

-- "Number | Why the call is turned back": the number of a refusal. (RULES 8.1)
abbrev pub number_of : Refusal → ℕ
number_of FileTooLong = 1
number_of MalformedLine = 2
number_of Edition = 3
number_of Count = 4
number_of NotDue = 5
number_of Reference = 6
number_of CountsDiffer = 7
number_of TooManyAnds = 8
number_of ShortTable = 9
number_of MalformedTable = 10
number_of TableOrder = 11
number_of UnknownOutput = 12
number_of Limits = 13
number_of ShortSlice = 14
number_of ShortSetting = 15
number_of SettingLength = 16
number_of SettingDigit = 17
number_of RepeatedName = 18
number_of LackedName = 19

-- "A call that is turned back gives the number of the first refusal that applies": the number of an answer's refusal, 0 where the call is accepted. (RULES 8.1)
abbrev pub refusal_number : {A : Type 0} → Result A Refusal → ℕ
refusal_number (Ok x) = 0
refusal_number (Err refusal) = number_of refusal
