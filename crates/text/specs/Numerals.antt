-- Decimal numerals read.
use Rattle.std.specs.Prelude.{◌*◌, ◌+◌, ◌-◌, ℕ, eqb, leb, ltb, get_or, length, Bool, ◌&&◌, cond, not, true, List, [], ◌∷◌, Option, Some, None}

-- "1 to 6 digits": the most digits of a numeral. (RULES 1.2)
abbrev pub MAX_DIGITS : ℕ
MAX_DIGITS = 6

-- "0" is the byte 48 and "9" the byte 57.
abbrev pub is_digit : ℕ → Bool
is_digit b = leb 48 b && leb b 57

-- Whether all bytes are digits.
abbrev pub all_digits : List ℕ → Bool
all_digits [] = true
all_digits (b ∷ bs) = is_digit b && all_digits bs

-- The number that digits stand for after those that stand for `n`.
abbrev pub value_from : ℕ → List ℕ → ℕ
value_from n [] = n
value_from n (b ∷ bs) = value_from (n * 10 + (b - 48)) bs

-- "without leading zeros ("0" itself is allowed)": a zero before other bytes is a leading zero. (RULES 1.2)
abbrev pub leading_zero : List ℕ → Bool
leading_zero s = ltb 1 (length s) && eqb (get_or s 0 0) 48

-- Digits as a number, after those that stand for `n`.
unfoldable pub digits_from : ℕ → List ℕ → Option ℕ
digits_from n s = cond (all_digits s) (Some (value_from n s)) None

-- "Numerals throughout are decimal, 1 to 6 digits, without leading zeros ("0" itself is allowed)." (RULES 1.2)
unfoldable pub numeral_of : List ℕ → Option ℕ
numeral_of s = cond (leb 1 (length s) && leb (length s) MAX_DIGITS && not (leading_zero s)) (digits_from 0 s) None
