-- Laws of bytes stored one after the other.
use Prim.Native.Nat.{◌+◌, ◌<◌, ◌≤◌, ℕ}
use Rattle.report_format.specs.Report.{StoredWithin}
use Rattle.text.proofs.DecimalLaws.{stored-append, stored_length, written_one}
use Rattle.text.specs.Decimal.{Stored, written}
use lib.ListN.{get_or, length, length-append, set, take, take-append-drop}
use lib.Seq.{length-take-le, take-suc}
use mathlib.Core.List.{List, [], ◌++◌, ◌∷◌}
use mathlib.Core.Path.{◌≡◌, refl, sym}
use native.Mathlib.Numerals.{add-one}
use native.Mathlib.Omega.{arith}

-- A field is stored, and there was room for more after it.
module _ {old a mid : List ℕ} {at r between : ℕ} (q : ℕ) (room : at + (r + q) ≤ length old) (first : StoredWithin old at r a mid between) where
  fits : at + length a ≤ length old
  fits = omega (arith, first.short)

  -- There still is.
  pub room_next : between + q ≤ length mid
  room_next = omega (arith, stored_length fits first.stored, first.stored.place, first.short)

  -- What is stored after it is stored with it.
  pub stored_next : {b new : List ℕ} {next : ℕ} → (between + q ≤ length mid → StoredWithin mid between q b new next) → StoredWithin old at (r + q) (a ++ b) new next
  stored_next {b} f =
      let second = f room_next in
      record { stored = stored-append fits first.stored second.stored; short = rw (length-append a b) (omega (arith, first.short, second.short)) }

-- One byte stored.
pub stored-byte : (old : List ℕ) (at b : ℕ) → at < length old → Stored old at (b ∷ []) (set old at b) (at + 1)
stored-byte old at b h = record { place = refl; list = written_one old at b h }

-- Nothing is stored of a string at first.
pub stored-none : (old : List ℕ) (at : ℕ) → Stored old at [] old (at + 0)
unfolding written
stored-none old at =
    let z : at + 0 ≡ at = omega arith in
    record { place = refl; list = sym (rw z (take-append-drop at old)) }

-- The first `i` bytes of a string are stored, and the next follows.
module _ (old : List ℕ) (at : ℕ) (bytes new : List ℕ) (i : ℕ) (room : at + length bytes ≤ length old) (stored : Stored old at (take i bytes) new (at + i))
    (more : i < length bytes) where
  -- The first `i` have room.
  pub part_room : at + length (take i bytes) ≤ length old
  part_room = omega (arith, length-take-le i bytes (omega arith))

  -- So has the next.
  pub byte_fits : at + i < length new
  byte_fits = omega (arith, stored_length part_room stored)

  -- Then one more is stored.
  pub stored_more : Stored old at (take (i + 1) bytes) (set new (at + i) (get_or bytes i 0)) (at + (i + 1))
  stored_more =
      let e : at + (i + 1) ≡ at + i + 1 = omega arith in
      rw (e, add-one i, take-suc bytes i 0) (stored-append part_room stored (stored-byte new (at + i) (get_or bytes i 0) byte_fits))
