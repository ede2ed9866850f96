-- A number read by its digits, one after the other.
use Prim.Native.Nat.{◌*◌, ◌+◌, ◌-◌, ◌≤◌, min, ℕ}
use Rattle.run_card_file.specs.CardFile.{HIGHEST, value_of}
use Rattle.std.specs.List.{fold}
use Rattle.text.specs.Numerals.{value_from}
use mathlib.Core.List.{List, [], ◌∷◌}
use mathlib.Core.Path.{◌∙◌, ◌≡◌, ap, refl, sym}
use native.Mathlib.Omega.{arith}

-- A number with one more digit, or the highest where it is higher.
abbrev pub with_digit : ℕ → ℕ → ℕ
with_digit value byte = min (value * 10 + (byte - 48)) HIGHEST

-- The number of digits after those that stand for n is the same where n is replaced by the highest that it is above.
clipped : (n : ℕ) (digits : List ℕ) → min (value_from (min n HIGHEST) digits) HIGHEST ≡ min (value_from n digits) HIGHEST
clipped n [] = omega arith
clipped n (b ∷ bs) =
    sym (clipped (min n HIGHEST * 10 + (b - 48)) bs)
    ∙ ap (λ (m : ℕ). min (value_from m bs) HIGHEST) (omega arith)
    ∙ clipped (n * 10 + (b - 48)) bs

-- One digit added after the other gives the number of them all.
digits_added : (n : ℕ) (digits : List ℕ) → n ≤ HIGHEST → fold with_digit n digits ≡ min (value_from n digits) HIGHEST
digits_added n [] h = omega arith
digits_added n (b ∷ bs) h = digits_added (with_digit n b) bs (omega arith) ∙ clipped (n * 10 + (b - 48)) bs

pub number_added : (digits : List ℕ) → fold with_digit 0 digits ≡ value_of digits
unfolding value_of
number_added digits = digits_added 0 digits (omega arith)

-- The number that digits stand for after those that stand for n, or the highest where it is higher.
unfoldable pub number_from : ℕ → List ℕ → ℕ
number_from n digits = min (value_from n digits) HIGHEST

-- From the start it is the number of all digits.
pub number_started : (digits : List ℕ) → number_from 0 digits ≡ value_of digits
unfolding number_from value_of
number_started digits = refl

-- Each byte is one more digit.
pub with_byte : (n b : ℕ) (bs : List ℕ) → number_from n (b ∷ bs) ≡ number_from (min (n * 10 + (b - 48)) HIGHEST) bs
unfolding number_from
with_byte n b bs = sym (clipped (n * 10 + (b - 48)) bs)
