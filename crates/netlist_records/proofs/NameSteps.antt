-- What a turn of the loop that tests the bytes of a name shows.
use Prim.Native.Nat.{◌+◌, ◌<◌, ◌≤◌, ℕ}
use Rattle.netlist_model.specs.Records.{letter_or_digit?, letters_or_digits?}
use lib.ListN.{drop, drop_of_length-le, get_or, length}
use lib.Seq.{drop-cons}
use mathlib.Core.Bool.{false, true}
use mathlib.Core.List.{List}
use mathlib.Core.Path.{◌≡◌, refl}
use native.Mathlib.Numerals.{add-one}

-- What the byte at `i` says of the bytes from it on.
module _ (s : List ℕ) (i : ℕ) (h : i < length s) where
  -- A byte that is no letter or digit decides.
  pub letters_broken : letter_or_digit? (get_or s i 0) ≡ false → letters_or_digits? (drop i s) ≡ false
  letters_broken e = rw (drop-cons s i 0) (rw e refl)

  -- A letter or digit leaves the others to decide.
  pub letters_next : letter_or_digit? (get_or s i 0) ≡ true → letters_or_digits? (drop i s) ≡ letters_or_digits? (drop (i + 1) s)
  letters_next e = rw (add-one i, drop-cons s i 0) (rw e refl)

-- At the end nothing is left to decide.
pub letters_ended : (s : List ℕ) (i : ℕ) → length s ≤ i → letters_or_digits? (drop i s) ≡ true
letters_ended s i h = rw (drop_of_length-le s h) refl
