-- Laws of the lines.
use Prim.Native.Nat.{◌+◌, ◌<◌, ◌^◌, ◌≤◌, ℕ}
use Rattle.report_format.specs.Report.{NUMBER_DIGITS, Printed, StoredWithin, line_length, line_put, refused_line, reply_line, setting_field, vertex_field, word_bytes}
use Rattle.std.specs.Prelude.{Option}
use Rattle.report_format.specs.declared.Word.{Word}
use Rattle.text.proofs.DecimalLaws.{decimal_length, stored_length}
use Rattle.text.specs.Decimal.{decimal, written}
use borrow.Author.Tests.{le-ltb, lt-ltb}
use lib.ListN.{length}
use lib.Seq.{length-take-le}
use mathlib.Core.List.{List, [], ◌++◌, ◌∷◌, append_assoc}
use mathlib.Core.Path.{◌≡◌, refl, sym}
use native.Mathlib.Omega.{arith}

-- A number of 32 bits has few digits.
pub number_short : (n : ℕ) → n < 2 ^ 32 → length (decimal n) ≤ NUMBER_DIGITS
number_short n h = decimal_length 9 n (omega arith)

-- A reply line as its fields are stored.
pub reply-parts :
    (edition output : ℕ) (word : Word) (setting : List ℕ) (vertex : Option ℕ) (rows steps : ℕ)
    → reply_line edition output word setting vertex rows steps
    ≡ ((decimal edition ++ 9 ∷ []) ++ (decimal output ++ 9 ∷ []))
    ++ ((word_bytes word ++ 9 ∷ [])
    ++ ((setting_field setting ++ 9 ∷ []) ++ ((vertex_field vertex ++ 9 ∷ []) ++ ((decimal rows ++ 9 ∷ []) ++ (decimal steps ++ 10 ∷ [])))))
unfolding reply_line
reply-parts edition output word setting vertex rows steps = simp append_assoc

-- The line of a refused load likewise.
pub refused-parts :
    (number file line : ℕ)
    → refused_line number file line
    ≡ (114 ∷ 101 ∷ 102 ∷ 117 ∷ 115 ∷ 101 ∷ 100 ∷ 9 ∷ []) ++ ((decimal number ++ 9 ∷ []) ++ ((decimal file ++ 9 ∷ []) ++ (decimal line ++ 10 ∷ [])))
unfolding refused_line
refused-parts number file line = simp append_assoc

-- A line stored at the front of a slice that has room for it is printed.
pub printed_line : {r room : ℕ} {line old new : List ℕ} {next : ℕ} → r ≤ room → room ≤ length old → StoredWithin old 0 r line new next → Printed room line old new next
unfolding line_put line_length written
printed_line {r} {room} {line} {old} {new} {next} l h p =
    let z : 0 + length line ≡ length line = omega arith in
    let e = le-ltb (length old) room h in
    let f : 0 + length line ≤ length old = omega (arith, p.short) in
    let w : next ≤ length new = omega (arith, p.stored.place, stored_length f p.stored) in
    record { list = rw e (rw z at p.stored.list); count = rw e (rw z at p.stored.place); within = w; front = sym (length-take-le next new w) }

-- A shorter slice is left as it is.
pub printed-none : {room : ℕ} {line old : List ℕ} → length old < room → Printed room line old old 0
unfolding line_put line_length
printed-none {room} {line} {old} h =
    let e = lt-ltb (length old) room h in
    record { list = rw e refl; count = rw e refl; within = omega arith; front = refl }

-- A line printed into a slice that is the same.
pub printed_as : {room given : ℕ} {line old new mid : List ℕ} → Printed room line old mid given → new ≡ mid → Printed room line old new given
printed_as p e = rw e p
