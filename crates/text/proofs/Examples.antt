-- Worked examples of the definitions.
use Rattle.text.specs.Decimal.{decimal, digits_within}
use Rattle.text.specs.Numerals.{digits_from, numeral_of}
use Rattle.text.specs.Split.{split_at}
use Rattle.std.specs.Prelude.{None, Some}
use mathlib.Core.List.{[], ◌∷◌}
use mathlib.Core.Path.{◌≡◌, refl}

-- "a", tab, tab, "b" is the fields "a", "" and "b".
fields : split_at 9 (97 ∷ 9 ∷ 9 ∷ 98 ∷ []) ≡ (97 ∷ []) ∷ [] ∷ (98 ∷ []) ∷ []
fields = refl

-- "0" is a numeral.
zero_itself : numeral_of (48 ∷ []) ≡ Some 0
unfolding digits_from numeral_of
zero_itself = refl

-- "4096" is one.
four-digits : numeral_of (52 ∷ 48 ∷ 57 ∷ 54 ∷ []) ≡ Some 4096
unfolding digits_from numeral_of
four-digits = refl

-- "06" has a leading zero.
leading_zero_lem : numeral_of (48 ∷ 54 ∷ []) ≡ None
unfolding digits_from numeral_of
leading_zero_lem = refl

-- "1000000" has 7 digits.
seven_digits : numeral_of (49 ∷ 48 ∷ 48 ∷ 48 ∷ 48 ∷ 48 ∷ 48 ∷ []) ≡ None
unfolding digits_from numeral_of
seven_digits = refl

-- No digit, and a byte that is no digit.
no_digit : numeral_of [] ≡ None
unfolding digits_from numeral_of
no_digit = refl

minus_one : numeral_of (45 ∷ 49 ∷ []) ≡ None
unfolding digits_from numeral_of
minus_one = refl

-- 0 and 4,294,967,295 printed.
print_zero : decimal 0 ≡ 48 ∷ []
unfolding decimal digits_within
print_zero = refl

print_greatest : decimal 4294967295 ≡ 52 ∷ 50 ∷ 57 ∷ 52 ∷ 57 ∷ 54 ∷ 55 ∷ 50 ∷ 57 ∷ 53 ∷ []
unfolding decimal digits_within
print_greatest = refl
