-- The laws of the refusals' numbers.
use Rattle.std.proofs.Common.{◌≡◌, ◌≢◌, Err, IsErr, IsErrAnd, Ok, Result, ap, arith}
use Rattle.std.proofs.lemmas.Bool.{false≢true}
use Rattle.refusal.specs.Number.{number_of}
use Rattle.refusal.specs.declared.Refusal.TheVariants.{Count, CountsDiffer, Edition, FileTooLong, LackedName, Limits, MalformedLine, MalformedTable, NotDue, Reference, RepeatedName, SettingDigit, SettingLength, ShortSetting, ShortSlice, ShortTable, TableOrder, TooManyAnds, UnknownOutput}
use Rattle.refusal.specs.declared.Refusal.{Refusal}

-- 0 is the number of no refusal.
pub number_some : (r : Refusal) → number_of r ≢ 0
number_some FileTooLong e = omega arith
number_some MalformedLine e = omega arith
number_some Edition e = omega arith
number_some Count e = omega arith
number_some NotDue e = omega arith
number_some Reference e = omega arith
number_some CountsDiffer e = omega arith
number_some TooManyAnds e = omega arith
number_some ShortTable e = omega arith
number_some MalformedTable e = omega arith
number_some TableOrder e = omega arith
number_some UnknownOutput e = omega arith
number_some Limits e = omega arith
number_some ShortSlice e = omega arith
number_some ShortSetting e = omega arith
number_some SettingLength e = omega arith
number_some SettingDigit e = omega arith
number_some RepeatedName e = omega arith
number_some LackedName e = omega arith

-- An error passed on by a `?` is the result.
pub passed_on : {A : Type 0} (r : Result A Refusal) (e : Refusal) → IsErr r × IsErrAnd r (λ x. x ≡ e) → r ≡ Err e
passed_on (Ok x) e h = absurd (false≢true h.0)
passed_on (Err x) e h = ap Err h.1
