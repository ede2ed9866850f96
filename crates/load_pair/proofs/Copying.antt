-- The header, the rows, the outputs and the constraint of the table, each written over a list.
use Prim.Native.Nat.{◌+◌, ◌≤◌, ℕ}
use Rattle.text.proofs.DecimalLaws.{stored-append, stored_length, written_one}
use Rattle.text.specs.Decimal.{Stored, written}
use Rattle.words.proofs.Writing.{writing_begins, writing-ends, writing-turn}
use lib.ListN.{length, length-append, length-set, set}
use mathlib.Core.List.{List, [], ◌++◌, ◌∷◌, append_assoc}
use mathlib.Core.Path.{◌≡◌, refl}
use native.Mathlib.Omega.{arith}

-- Three words at the front.
pub header-written : (old : List ℕ) (a b c : ℕ) → 3 ≤ length old → set (set (set old 0 a) 1 b) 2 c ≡ written old 0 (a ∷ b ∷ c ∷ [])
header-written old a b c h =
    writing-ends
    (writing-turn
    (writing-turn (writing-turn (writing_begins old 0 (a ∷ b ∷ c ∷ [])) (omega arith)) (rw length-set (omega arith)))
    (rw (length-set, length-set) (omega arith)))

-- A header, rows, the outputs of both sides and a last word, each written after the other.
pub table-written :
    (old : List ℕ) (a b c x : ℕ) {one two three four rows left right : List ℕ} {n k m : ℕ} → 3 + length rows + length left + length right + 1 ≤ length old
    → one ≡ written old 0 (a ∷ b ∷ c ∷ []) → Stored one 3 rows two n → Stored two n left three k → Stored three k right four m
    → set four m x ≡ written old 0 (a ∷ b ∷ c ∷ (rows ++ (left ++ (right ++ (x ∷ [])))))
table-written old a b c x {four = four} {rows = rows} {left = left} {right = right} {m = m} room e p q r =
    let header : List ℕ = a ∷ b ∷ c ∷ [] in
    let h : Stored old 0 header _ 3 = record { place = refl; list = e } in
    let w = stored-append (omega arith) h p in
    let y = stored-append (rw length-append (omega arith)) w q in
    let z = stored-append (rw (length-append, length-append) (omega arith)) y r in
    let fits : 0 + length (((header ++ rows) ++ left) ++ right) + 1 ≤ length old = rw (length-append, length-append, length-append) (omega arith) in
    let within : 0 + length (((header ++ rows) ++ left) ++ right) ≤ length old = omega arith in
    let last : Stored four m (x ∷ []) (set four m x) (m + 1) =
    record { place = refl; list = written_one four m x (omega (arith, z.place, stored_length within z)) } in
    let v = stored-append within z last in
    simp append_assoc at v.list
