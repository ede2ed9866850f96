-- What a turn of the loop that reads digits shows.
use Prim.Native.Nat.{◌*◌, ◌+◌, ◌-◌, ◌<◌, ◌^◌, ◌≤◌, suc, ℕ}
use Rattle.text.specs.Numerals.{MAX_DIGITS, all_digits, digits_from, is_digit, value_from}
use Rattle.std.specs.Prelude.{None, Some}
use mathlib.Core.Bool.{Bool, ◌&&◌, cond, false, true}
use borrow.Author.Tests.{le-leb, lt-leb}
use lib.Dec.{lit<}
use lib.ListN.{drop, drop_of_length-le, get_or, length}
use lib.Seq.{drop-cons}
use mathlib.Core.List.{List}
use mathlib.Core.Path.{◌≡◌, refl}
use native.Mathlib.Nat.{pow-le-pow_right, pow-suc}
use native.Mathlib.Numerals.{add-one}
use native.Mathlib.Omega.{arith}

-- The byte at `i` is one more digit of the number, or there is no number.
pub digits_next :
    (s : List ℕ) (i v : ℕ) → i < length s
    → digits_from v (drop i s) ≡ cond (is_digit (get_or s i 0)) (digits_from (v * 10 + (get_or s i 0 - 48)) (drop (i + 1) s)) None
unfolding digits_from
digits_next s i v h = rw (add-one i, drop-cons s i 0) (go (is_digit (get_or s i 0)))
  where
    go : (t : Bool) → cond (t && all_digits (drop (suc i) s)) (Some (value_from (v * 10 + (get_or s i 0 - 48)) (drop (suc i) s))) None
        ≡ cond t (cond (all_digits (drop (suc i) s)) (Some (value_from (v * 10 + (get_or s i 0 - 48)) (drop (suc i) s))) None) None
    go true = refl
    go false = refl

-- A byte above "9" is no digit: there is no number.
pub digits_above : (s : List ℕ) (i v : ℕ) → i < length s → 57 < get_or s i 0 → digits_from v (drop i s) ≡ None
unfolding digits_from
digits_above s i v h l = rw (drop-cons s i 0) (rw (le-leb 48 (get_or s i 0) (omega arith), lt-leb (get_or s i 0) 57 l) refl)

-- At the end the number is whole.
pub digits_ended : (s : List ℕ) (i v : ℕ) → length s ≤ i → digits_from v (drop i s) ≡ Some v
unfolding digits_from
digits_ended s i v h = rw (drop_of_length-le s h) refl

-- Fewer than `MAX_DIGITS` digits leave room for one more.
pub value_small : (v i : ℕ) → i < MAX_DIGITS → v < 10 ^ i → v < 100000
value_small v i h l =
    let q : i ≤ 5 = omega arith in
    let m : 10 ^ i ≤ 10 ^ 5 = pow-le-pow_right (lit< tt) q in
    omega arith

-- A digit more takes one power of ten more.
pub value_next : (v d i : ℕ) → d < 10 → v < 10 ^ i → v * 10 + d < 10 ^ (i + 1)
value_next v d i h l = rw (add-one i, pow-suc) (omega arith)
