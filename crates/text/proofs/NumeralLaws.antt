-- Laws of `numeral_of`, and of reading what was printed.
use Rattle.std.proofs.lemmas.Grind.{common_steps}
use Prim.Native.Nat.{◌%◌, ◌*◌, ◌+◌, ◌-◌, ◌/◌, ◌<◌, ◌^◌, ◌≤◌, ℕ}
use Rattle.text.proofs.DecimalLaws.{decimal-below, decimal_digit, decimal_induction, decimal-lead, decimal_length, decimal-more}
use Rattle.text.specs.Decimal.{decimal}
use Rattle.text.specs.Numerals.{MAX_DIGITS, all_digits, digits_from, is_digit, leading_zero, numeral_of, value_from}
use Rattle.text.specs.Split.{has}
use Rattle.std.specs.Prelude.{None, Some}
use borrow.Author.Tests.{eqb-true, le-leb, leb-true, ltb-false, ltb-true, ne_eqb}
use lib.Dec.{eqb, leb, lit<, ltb}
use lib.ListN.{get_or, length}
use mathlib.Core.Bool.{Bool, ◌&&◌, ◌||◌, and-false, cond, false, false≢true, not, true}
use mathlib.Core.List.{List, [], ◌++◌, ◌∷◌, append_assoc, append-nil}
use mathlib.Core.Path.{◌∙◌, ◌≡◌, ap, refl, sym}
use native.Mathlib.Nat.{pow-le-pow_right}
use native.Mathlib.Omega.{arith}

-- Bytes are a numeral that stands for `n`.
pub record IsNumeral (s : List ℕ) (n : ℕ) : Type 0 where
  pub some : 1 ≤ length s
  pub few : length s ≤ MAX_DIGITS
  pub lead : leading_zero s ≡ false
  pub digits : all_digits s ≡ true
  pub value : value_from 0 s ≡ n

-- A numeral is accepted with its value.
pub numeral_value : {s : List ℕ} {n : ℕ} → IsNumeral s n → numeral_of s ≡ Some n
unfolding numeral_of digits_from
numeral_value {s} r = grind (arith, common_steps)

-- What is malformed has no value.
malformed_no_value : (n : ℕ) → None ≡ Some n → ⊥
malformed_no_value n h = let z : ◌≡◌ {A = ℕ} 0 1 = cc in omega arith

-- What is accepted is a numeral.
pub value_numeral : (s : List ℕ) (n : ℕ) → numeral_of s ≡ Some n → IsNumeral s n
unfolding numeral_of digits_from
value_numeral s n h = go (leb 1 (length s)) (leb (length s) MAX_DIGITS) (leading_zero s) (all_digits s) refl refl refl refl h
  where
    go : (a b c d : Bool) → leb 1 (length s) ≡ a → leb (length s) MAX_DIGITS ≡ b → leading_zero s ≡ c → all_digits s ≡ d
        → cond (a && b && not c) (cond d (Some (value_from 0 s)) None) None ≡ Some n → IsNumeral s n
    go false b c d ea eb ec ed h = absurd (malformed_no_value n h)
    go true false c d ea eb ec ed h = absurd (malformed_no_value n h)
    go true true true d ea eb ec ed h = absurd (malformed_no_value n h)
    go true true false false ea eb ec ed h = absurd (malformed_no_value n h)
    go true true false true ea eb ec ed h = record { some = leb-true 1 (length s) ea; few = leb-true (length s) MAX_DIGITS eb; lead = ec; digits = ed; value = cc }

-- A byte is a digit where it is 48 to 57.
pub digit-is : (b : ℕ) → 48 ≤ b → b ≤ 57 → is_digit b ≡ true
digit-is b l h = rw (le-leb 48 b l, le-leb b 57 h) refl

-- The first of some bytes and the others are digits.
record First (b : ℕ) (bs : List ℕ) : Type 0 where
  low : 48 ≤ b
  high : b ≤ 57
  others : all_digits bs ≡ true

-- So it is where all are.
first : (b : ℕ) (bs : List ℕ) → all_digits (b ∷ bs) ≡ true → First b bs
first b bs h = go (leb 48 b) (leb b 57) refl refl h
  where
    go : (l u : Bool) → leb 48 b ≡ l → leb b 57 ≡ u → (l && u && all_digits bs) ≡ true → First b bs
    go false u el eu h = absurd (false≢true h)
    go true false el eu h = absurd (false≢true h)
    go true true el eu h = record { low = leb-true 48 b el; high = leb-true b 57 eu; others = h }

-- The value of digits after others goes on from theirs.
value_append : (n : ℕ) (s t : List ℕ) → value_from n (s ++ t) ≡ value_from (value_from n s) t
value_append n [] t = refl
value_append n (b ∷ bs) t = value_append (n * 10 + (b - 48)) bs t

-- Digits after digits are digits.
digits_append : (s t : List ℕ) → all_digits s ≡ true → all_digits t ≡ true → all_digits (s ++ t) ≡ true
digits_append [] t hs ht = ht
digits_append (b ∷ bs) t hs ht =
    let f = first b bs hs in
    rw (digit-is b f.low f.high) (digits_append bs t f.others ht)

-- A digit's byte is a digit.
one-digit : (d : ℕ) → d < 10 → all_digits ((48 + d) ∷ []) ≡ true
one-digit d h = rw (digit-is (48 + d) (omega arith) (omega arith)) refl

-- What is printed is digits only.
pub decimal-digits : (n : ℕ) → all_digits (decimal n) ≡ true
decimal-digits = decimal_induction (λ n s. all_digits s ≡ true) one-digit (λ n s d h. digits_append s ((48 + n % 10) ∷ []) h (one-digit (n % 10) (omega arith)))

-- What is printed stands for the number.
pub decimal-value : (n : ℕ) → value_from 0 (decimal n) ≡ n
decimal-value = decimal_induction (λ n s. value_from 0 s ≡ n) (λ n d. omega arith) (λ n s d h. value_append 0 s ((48 + n % 10) ∷ []) ∙ rw h (omega arith))

-- What is printed has no leading zero.
decimal_no_zero : (n : ℕ) → leading_zero (decimal n) ≡ false
decimal_no_zero n = go (ltb n 10) refl
  where
    go : (t : Bool) → ltb n 10 ≡ t → leading_zero (decimal n) ≡ false
    go true e = rw (decimal_digit n (ltb-true n 10 e)) refl
    go false e =
        let p : 48 < get_or (decimal n) 0 0 = (decimal-lead n).1 (omega (arith, ltb-false n 10 e)) in
        rw (ne_eqb (get_or (decimal n) 0 0) 48 (λ q. omega arith), and-false) refl

-- What was printed of a number of at most `MAX_DIGITS` digits is read as that number.
pub read_decimal : (n : ℕ) → n < 10 ^ MAX_DIGITS → numeral_of (decimal n) ≡ Some n
read_decimal n h =
    numeral_value
    (record { some = (decimal-lead n).0; few = decimal_length 5 n h; lead = decimal_no_zero n; digits = decimal-digits n; value = decimal-value n })

-- Digits after a number that is not zero are printed after it.
decimal-from : (m : ℕ) (s : List ℕ) → 0 < m → all_digits s ≡ true → decimal (value_from m s) ≡ decimal m ++ s
decimal-from m [] h d = sym (append-nil (decimal m))
decimal-from m (b ∷ bs) h d =
    let f = first b bs d in
    let v = m * 10 + (b - 48) in
    let t : v / 10 ≡ m = omega (arith, f.low, f.high) in
    let l : 48 + v % 10 ≡ b = omega (arith, f.low, f.high) in
    decimal-from v bs (omega arith) f.others ∙ rw (decimal-more v (omega arith), t, l, append_assoc) refl

-- The first of several digits without a leading zero is no zero.
first_not_zero : (b c : ℕ) (bs : List ℕ) → leading_zero (b ∷ (c ∷ bs)) ≡ false → b ≡ 48 → ⊥
first_not_zero b c bs h e = grind (arith, common_steps)

-- A numeral is the decimal digits of its value.
spelled : (s : List ℕ) (n : ℕ) → IsNumeral s n → s ≡ decimal n
spelled [] n r = absurd (omega (arith, r.some))
spelled (b ∷ []) n r =
    let f = first b [] r.digits in
    let d : n < 10 = omega (arith, r.value, f.high) in
    let l : 48 + n ≡ b = omega (arith, r.value, f.low) in
    rw (decimal_digit n d, l) refl
spelled (b ∷ (c ∷ bs)) n r =
    let f = first b (c ∷ bs) r.digits in
    let z = first_not_zero b c bs r.lead in
    let m = 0 * 10 + (b - 48) in
    let d : m < 10 = omega (arith, f.high) in
    let l : 48 + m ≡ b = omega (arith, f.low) in
    sym (ap decimal (sym r.value) ∙ decimal-from m (c ∷ bs) (omega (arith, z, f.low)) f.others ∙ rw (decimal_digit m d, l) refl)

-- Whatever is read as a number is its decimal digits, so that a number has one spelling.
pub value-decimal : (s : List ℕ) (n : ℕ) → numeral_of s ≡ Some n → (s ≡ decimal n) × (n < 10 ^ MAX_DIGITS)
value-decimal s n h =
    let r = value_numeral s n h in
    let e : s ≡ decimal n = spelled s n r in
    let l : length (decimal n) ≤ MAX_DIGITS = rw e at r.few in
    let m : 10 ^ length (decimal n) ≤ 10 ^ MAX_DIGITS = pow-le-pow_right (lit< tt) l in
    (e, omega (arith, decimal-below n))

-- A byte that is no digit is not among digits.
pub digits_lack : (k : ℕ) (s : List ℕ) → is_digit k ≡ false → all_digits s ≡ true → has k s ≡ false
digits_lack k [] h d = refl
digits_lack k (b ∷ bs) h d = go (eqb b k) refl (first b bs d) (digits_lack k bs h (first b bs d).others)
  where
    go : (t : Bool) → eqb b k ≡ t → First b bs → has k bs ≡ false → (t || has k bs) ≡ false
    go true e f g = let p : b ≡ k = eqb-true b k e in let q : is_digit b ≡ true = digit-is b f.low f.high in cc
    go false e f g = g

-- So no separator is in a printed number.
pub decimal-lacks : (k n : ℕ) → is_digit k ≡ false → has k (decimal n) ≡ false
decimal-lacks k n h = digits_lack k (decimal n) h (decimal-digits n)
