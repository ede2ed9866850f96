-- Laws of `decimal` and `written`.
use Prim.Native.Nat.{◌%◌, ◌+◌, ◌-◌, ◌/◌, ◌<◌, ◌^◌, ◌≤◌, suc, zero, ℕ}
use Rattle.text.specs.Decimal.{Stored, decimal, digits_within, written}
use borrow.Rule.Slice.PartMut.{put_mid}
use borrow.Author.Tests.{le-ltb, lt-ltb, ltb-false, ltb-true}
use lib.Dec.{ltb}
use lib.ListN.{get_or-append, drop, get_or, length, length-append, length-drop, set, take}
use lib.Seq.{drop-append-add, drop-drop, length-take-le, set_split, take_at}
use mathlib.Core.Bool.{Bool, cond, false, true}
use mathlib.Core.List.{List, [], ◌++◌, ◌∷◌, append_assoc}
use mathlib.Core.Path.{◌∙◌, ◌≡◌, ap, refl, sym}
use native.Mathlib.Nat.{pow-suc}
use native.Mathlib.Numerals.{add-one}
use native.Mathlib.Omega.{arith}

-- Every bound that is not below the number gives the same digits.
digits-enough : (j k n : ℕ) → n ≤ j → n ≤ k → digits_within j n ≡ digits_within k n
unfolding digits_within
digits-enough zero zero n hj hk = refl
digits-enough zero (suc k) n hj hk = rw (lt-ltb n 10 (omega arith)) refl
digits-enough (suc j) zero n hj hk = rw (lt-ltb n 10 (omega arith)) refl
digits-enough (suc j) (suc k) n hj hk =
    ap (λ (l : List ℕ). cond (ltb n 10) ((48 + n) ∷ []) (l ++ (48 + n % 10) ∷ [])) (digits-enough j k (n / 10) (omega arith) (omega arith))

-- A number below ten is its digit.
pub decimal_digit : (n : ℕ) → n < 10 → decimal n ≡ (48 + n) ∷ []
unfolding decimal digits_within
decimal_digit zero h = refl
decimal_digit (suc n) h = rw (lt-ltb (suc n) 10 h) refl

-- Any other is its tenth and then its last digit.
pub decimal-more : (n : ℕ) → 10 ≤ n → decimal n ≡ decimal (n / 10) ++ (48 + n % 10) ∷ []
unfolding decimal digits_within
decimal-more zero h = absurd (omega arith)
decimal-more (suc n) h =
    rw (le-ltb (suc n) 10 h)
    (ap (λ (l : List ℕ). l ++ (48 + suc n % 10) ∷ []) (digits-enough n (suc n / 10) (suc n / 10) (omega arith) (omega arith)))

-- What holds of each digit, and of a number where it holds of its tenth, holds of each number.
module _ (P : ℕ → List ℕ → Type 0) (digit : (n : ℕ) → n < 10 → P n ((48 + n) ∷ []))
    (more : (n : ℕ) (s : List ℕ) → 10 ≤ n → P (n / 10) s → P n (s ++ (48 + n % 10) ∷ [])) where
  test : (n : ℕ) (t : Bool) → ltb n 10 ≡ t → P (n / 10) (decimal (n / 10)) → P n (decimal n)
  test n true e h = rw (decimal_digit n (ltb-true n 10 e)) (digit n (ltb-true n 10 e))
  test n false e h = rw (decimal-more n (ltb-false n 10 e)) (more n (decimal (n / 10)) (ltb-false n 10 e) h)

  below : (k n : ℕ) → n ≤ k → P n (decimal n)
  below zero n h = rw (decimal_digit n (omega arith)) (digit n (omega arith))
  below (suc k) n h = test n (ltb n 10) refl (below k (n / 10) (omega arith))

  pub decimal_induction : (n : ℕ) → P n (decimal n)
  decimal_induction n = below n n (omega arith)

-- A number below a power of ten has no more digits than the power says.
pub decimal_length : (k n : ℕ) → n < 10 ^ suc k → length (decimal n) ≤ suc k
decimal_length k n h = decimal_induction (λ n s. (k : ℕ) → n < 10 ^ suc k → length s ≤ suc k) (λ n d k h. omega arith) more n k h
  where
    more : (n : ℕ) (s : List ℕ) → 10 ≤ n → ((k : ℕ) → n / 10 < 10 ^ suc k → length s ≤ suc k) → (k : ℕ) → n < 10 ^ suc k → length (s ++ (48 + n % 10) ∷ []) ≤ suc k
    more n s d f zero h = absurd (omega arith)
    more n s d f (suc k) h = rw length-append (omega (arith, f k (let g = rw (pow-suc 10 (suc k)) at h in omega arith)))

-- A number is below the power of ten that its number of digits gives.
pub decimal-below : (n : ℕ) → n < 10 ^ length (decimal n)
decimal-below = decimal_induction (λ n s. n < 10 ^ length s) (λ n d. omega arith) (λ n s d h. rw (length-append, add-one, pow-suc) (omega arith))

-- A number has a digit, and the first is no zero where the number is not zero.
pub decimal-lead : (n : ℕ) → (0 < length (decimal n)) × (0 < n → 48 < get_or (decimal n) 0 0)
decimal-lead =
    decimal_induction (λ n s. (0 < length s) × (0 < n → 48 < get_or s 0 0))
    (λ n d. (omega arith, λ p. omega arith))
    (λ n s d h. (rw length-append (omega arith), λ p. rw (get_or-append s ((48 + n % 10) ∷ []) 0 0 h.0) (h.1 (omega arith))))

-- What is dropped past the first of two lists is dropped from the second.
drop_past : (head tail : List ℕ) (n m : ℕ) → length head ≡ n → drop (n + m) (head ++ tail) ≡ drop m tail
drop_past head tail n m e = rw (← e) (drop-append-add head tail m)

-- Bytes written where there is room for them.
module _ (old : List ℕ) (at : ℕ) (bytes : List ℕ) (room : at + length bytes ≤ length old) where
  front : length (take at old) ≡ at
  front = length-take-le at old (omega arith)

  -- They leave the length.
  pub written_length : length (written old at bytes) ≡ length old
  unfolding written
  written_length = simp (length-append, length-drop) (omega (arith, front))

  -- Others written after them are written with them.
  pub written_append : (more : List ℕ) → written (written old at bytes) (at + length bytes) more ≡ written old at (bytes ++ more)
  unfolding written
  written_append more =
      let head = take at old ++ bytes in
      let tail = drop (at + length bytes) old in
      let e : length head ≡ at + length bytes = length-append (take at old) bytes ∙ rw front refl in
      let w : take at old ++ (bytes ++ tail) ≡ head ++ tail = sym (append_assoc (take at old) bytes tail) in
      let n : at + length (bytes ++ more) ≡ at + length bytes + length more = rw length-append (omega arith) in
      rw (w, take_at head tail (at + length bytes) e, drop_past head tail (at + length bytes) (length more) e, drop-drop, n) (simp append_assoc)

-- One byte set is one byte written.
pub written_one : (old : List ℕ) (at b : ℕ) → at < length old → set old at b ≡ written old at (b ∷ [])
unfolding written
written_one old at b h = rw (set_split old at b h, add-one at) refl

-- Bytes stored leave the length.
pub stored_length : {old bytes new : List ℕ} {at next : ℕ} → at + length bytes ≤ length old → Stored old at bytes new next → length new ≡ length old
stored_length {old} {bytes} {at = at} h p = rw p.list (written_length old at bytes h)

-- Bytes stored, and others after them.
pub stored-append :
    {old mid new a b : List ℕ} {at between next : ℕ} → at + length a ≤ length old → Stored old at a mid between → Stored mid between b new next → Stored old at (a ++ b) new next
stored-append {old} {a = a} {b = b} {at = at} h p q =
    record {
      place = rw length-append (omega (arith, p.place, q.place));
      list = q.list ∙ rw (p.list, p.place) (written_append old at a h b);
    }

-- Bytes copied into a part of their length are stored.
pub stored_part :
    (old : List ℕ) (at : ℕ) (bytes part : List ℕ) → part ≡ bytes → Stored old at bytes (put_mid at (at + length bytes - at) old part) (at + length bytes)
unfolding written
stored_part old at bytes part e =
    let n : at + length bytes - at ≡ length bytes = omega arith in
    record { place = refl; list = rw (e, n, drop-drop) refl }
