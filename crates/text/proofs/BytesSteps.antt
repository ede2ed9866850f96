-- What a turn of the loop that compares byte strings shows.
use Prim.Native.Nat.{◌+◌, ◌<◌, ◌≤◌, ℕ}
use Rattle.text.specs.Bytes.{same_bytes}
use borrow.Author.Tests.{eq-eqb, ne_eqb}
use lib.ListN.{drop, drop_of_length-le, get_or, length}
use lib.Seq.{drop-cons}
use mathlib.Core.Bool.{false, true}
use mathlib.Core.List.{List}
use mathlib.Core.Path.{◌≡◌, refl}
use native.Mathlib.Numerals.{add-one}

-- What one byte says of the strings from it on.
module _ (a b : List ℕ) (i : ℕ) (ha : i < length a) (hb : i < length b) where
  -- Bytes that differ decide.
  pub same_differs : (get_or a i 0 ≡ get_or b i 0 → ⊥) → same_bytes (drop i a) (drop i b) ≡ false
  same_differs h = rw (drop-cons a i 0, drop-cons b i 0) (rw (ne_eqb (get_or a i 0) (get_or b i 0) h) refl)

  -- Bytes that are equal leave the others to decide.
  pub same_agrees : get_or a i 0 ≡ get_or b i 0 → same_bytes (drop i a) (drop i b) ≡ same_bytes (drop (i + 1) a) (drop (i + 1) b)
  same_agrees h = rw (add-one i, drop-cons a i 0, drop-cons b i 0) (rw (eq-eqb (get_or a i 0) (get_or b i 0) h) refl)

-- At the end nothing is left to decide.
pub same_ended : (a b : List ℕ) (i : ℕ) → length a ≤ i → length b ≤ i → same_bytes (drop i a) (drop i b) ≡ true
same_ended a b i ha hb = rw (drop_of_length-le a ha, drop_of_length-le b hb) refl
