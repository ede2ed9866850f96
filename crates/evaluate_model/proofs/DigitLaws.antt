-- The bytes of a setting and their digits.
use Rattle.std.proofs.lemmas.Grind.{common_steps}
use Prim.Native.Nat.{◌+◌, ◌-◌, ◌<◌, ◌≤◌, suc, zero, ℕ}
use Rattle.evaluate_model.specs.Evaluate.{all_digits?, bit, digit?, digit_one, digit_zero, digits_of}
use Rattle.truth.proofs.Booleans.{and_left, and_right}
use lib.Dec.{eqb}
use lib.ListN.{drop, get_or, length, set, take}
use lib.Seq.{drop-cons}
use mathlib.Core.Bool.{◌&&◌, true}
use mathlib.Core.List.{List, [], ◌++◌, ◌∷◌, map}
use mathlib.Core.Path.{◌≡◌}
use native.Mathlib.Numerals.{add-one}
use native.Mathlib.Omega.{arith}

-- All bytes from i on are digits where byte i is and all after it are.
pub all_digits_step : (i : ℕ) (bs : List ℕ) → i < length bs → all_digits? (drop i bs) ≡ digit? (get_or bs i 0) && all_digits? (drop (i + 1) bs)
unfolding all_digits?
all_digits_step i bs h = rw (drop-cons bs i 0 h, add-one i)

-- A digit's byte, and the number that it stands for.
pub record Digit (b : ℕ) : Type 0 where
  pub at_least : digit_zero ≤ b
  pub number : b - digit_zero ≡ bit (eqb b digit_one)

pub digit : (b : ℕ) → digit? b ≡ true → Digit b
unfolding digit?
digit b h = grind (arith, common_steps)

pub digit_at : (bs : List ℕ) (i : ℕ) → all_digits? bs ≡ true → i < length bs → Digit (get_or bs i 0)
unfolding all_digits?
digit_at [] i h l = absurd (omega arith)
digit_at (b ∷ bs) zero h l = digit b (and_left (digit? b) (all_digits? bs) h)
digit_at (b ∷ bs) (suc i) h l = digit_at bs i (and_right (digit? b) (all_digits? bs) h) (omega arith)

-- One more digit: its number is written after the numbers before it, and the digits after it are left.
pub digits_step : (vs bs : List ℕ) (i x : ℕ) → i + 1 < length vs → i < length bs → x ≡ bit (eqb (get_or bs i 0) digit_one)
    → take (i + 1) vs ++ map bit (digits_of (drop i bs)) ≡ take (i + 1 + 1) (set vs (i + 1) x) ++ map bit (digits_of (drop (i + 1) bs))
digits_step vs bs i x lv lb e = grind (arith, common_steps)

-- No digit is left: the numbers are those written.
pub digits_end : (vs bs : List ℕ) (i : ℕ) → length bs ≤ i → i ≤ length bs
    → take (i + 1) vs ++ map bit (digits_of (drop i bs)) ≡ take (1 + length bs) vs
digits_end vs bs i l k = grind (arith, common_steps)
