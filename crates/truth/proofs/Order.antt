-- Counting order, and the first setting on which two functions differ.
use Prim.Native.Nat.{◌+◌, ◌<◌, ◌^◌, suc, ℕ}
use Rattle.truth.proofs.Booleans.{clash, not_true}
use Rattle.truth.proofs.Equality.{equal-same, invert_differs, same-equal}
use Rattle.truth.specs.Settings.{FirstDifference, first_difference, number_of}
use Rattle.truth.specs.Truth.{Perfect, Setting, Truth, halves, invert, leaf, node, same?, value_at, whole}
use lib.ListN.{length, replicate}
use mathlib.Core.Bool.{Bool, cond, false, true}
use mathlib.Core.List.{[], ◌∷◌}
use mathlib.Core.Logic.{◌≢◌}
use mathlib.Core.Path.{◌≡◌, ap, ap₂, refl, sym}
use native.Mathlib.Decide.{dec_lt}
use native.Mathlib.Nat.{two-pow-succ, zero-add}
use native.Mathlib.Omega.{arith}

-- The number of a setting whose leading digit is 1, and of one whose leading digit is 0.
pub number-one : (s : Setting) → number_of (true ∷ s) ≡ 2 ^ length s + number_of s
unfolding number_of
number-one s = refl

pub number_zero : (s : Setting) → number_of (false ∷ s) ≡ number_of s
unfolding number_of
number_zero s = zero-add (number_of s)

-- A setting of m digits has a number below 2 ^ m.
pub number_bound : (s : Setting) → number_of s < 2 ^ length s
unfolding number_of
number_bound [] = omega arith
number_bound (true ∷ s) = omega (arith, number_bound s, two-pow-succ (length s))
number_bound (false ∷ s) = omega (arith, number_bound s, two-pow-succ (length s))

-- Settings of one length with one number are equal.
pub number_injective : (s t : Setting) → length s ≡ length t → number_of s ≡ number_of t → s ≡ t
number_injective [] [] h k = refl
number_injective [] (y ∷ t) h k = absurd (omega arith)
number_injective (x ∷ s) [] h k = absurd (omega arith)
number_injective (x ∷ s) (y ∷ t) h k = go x y k (number_injective s t n)
  where
    n : length s ≡ length t
    n = omega arith

    p : 2 ^ length s ≡ 2 ^ length t
    p = ap (λ m. 2 ^ m) n

    go : (x y : Bool) → number_of (x ∷ s) ≡ number_of (y ∷ t) → (number_of s ≡ number_of t → s ≡ t) → x ∷ s ≡ y ∷ t
    go true true k ih = ap (◌∷◌ true) (ih (omega (arith, number-one s, number-one t, p)))
    go true false k ih = absurd (omega (arith, number-one s, number_zero t, number_bound t, p))
    go false true k ih = absurd (omega (arith, number_zero s, number-one t, number_bound s, p))
    go false false k ih = ap (◌∷◌ false) (ih (omega (arith, number_zero s, number_zero t)))

-- For two different functions of m inputs it is the first setting on which they differ.
pub first_difference_lem : {m : ℕ} {f g : Truth} → Perfect m f → Perfect m g → f ≢ g → FirstDifference m f g (first_difference f g)
unfolding first_difference value_at
first_difference_lem (whole {b = a}) (whole {b = b}) h =
    record { digits = refl; differ = λ e. h (ap leaf e); first = λ t d k. absurd (none (number_of t) k) }
  where
    none : (n : ℕ) → n < number_of [] → ⊥
    none n k = omega (arith, number_bound [])
first_difference_lem (halves {m = m} {f = a} {g = b} p q) (halves {f = c} {g = d} u v) h = go (same? a c) refl (first_difference_lem p u) (first_difference_lem q v)
  where
    go : (x : Bool) → same? a c ≡ x
        → (a ≢ c → FirstDifference m a c (first_difference a c)) → (b ≢ d → FirstDifference m b d (first_difference b d))
        → FirstDifference (suc m) (node a b) (node c d) (cond x (true ∷ first_difference b d) (false ∷ first_difference a c))
    go true e zero-half one-half =
        let r = one-half (λ k. h (ap₂ node (same-equal a c e) k)) in
        record {
          digits = ap suc r.digits;
          differ = r.differ;
          first = one-first r;
        }
      where
        one-first : FirstDifference m b d (first_difference b d) → (t : Setting) → length t ≡ suc m
            → number_of t < number_of (true ∷ first_difference b d) → value_at (node a b) t ≡ value_at (node c d) t
        one-first r [] n k = absurd (omega arith)
        one-first r (true ∷ t) n k =
            let l : length t ≡ length (first_difference b d) = omega (arith, r.digits) in
            r.first t (omega arith) (omega (arith, number-one t, number-one (first_difference b d), ap (λ m. 2 ^ m) l))
        one-first r (false ∷ t) n k = ap (λ f. value_at f t) (same-equal a c e)
    go false e zero-half one-half =
        let r = zero-half (λ k. clash (equal-same k) e) in
        record {
          digits = ap suc r.digits;
          differ = r.differ;
          first = zero_first_lem r;
        }
      where
        zero_first_lem : FirstDifference m a c (first_difference a c) → (t : Setting) → length t ≡ suc m
            → number_of t < number_of (false ∷ first_difference a c) → value_at (node a b) t ≡ value_at (node c d) t
        zero_first_lem r [] n k = absurd (omega arith)
        zero_first_lem r (true ∷ t) n k =
            let l : length t ≡ length (first_difference a c) = omega (arith, r.digits) in
            absurd (omega (arith, number-one t, number_zero (first_difference a c), number_bound (first_difference a c), ap (λ m. 2 ^ m) l))
        zero_first_lem r (false ∷ t) n k = r.first t (omega arith) (omega (arith, number_zero t, number_zero (first_difference a c)))

-- It is the only one: no other setting is the first.
pub first_unique : {m : ℕ} {f g : Truth} {s t : Setting} → FirstDifference m f g s → FirstDifference m f g t → s ≡ t
first_unique {s = s} {t = t} p q = number_injective s t (omega (arith, p.digits, q.digits)) (go (dec_lt (number_of s) (number_of t)) (dec_lt (number_of t) (number_of s)))
  where
    go : Dec (number_of s < number_of t) → Dec (number_of t < number_of s) → number_of s ≡ number_of t
    go (yes h) d = absurd (p.differ (q.first s p.digits h))
    go (no h) (yes k) = absurd (q.differ (p.first t q.digits k))
    go (no h) (no k) = omega arith

-- Inverse functions differ first where all inputs are 0.
pub first-inverse : {m : ℕ} {f : Truth} → Perfect m f → first_difference f (invert f) ≡ replicate m false
unfolding first_difference invert
first-inverse whole = refl
first-inverse (halves {f = a} {g = b} p q) =
    rw (not_true (same? a (invert a)) (λ h. invert_differs a (sym (same-equal a (invert a) h)))) (ap (◌∷◌ false) (first-inverse p))
