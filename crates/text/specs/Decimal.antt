-- Decimal numbers printed.
use Rattle.std.specs.Prelude.{◌%◌, ◌+◌, ◌/◌, suc, zero, ℕ, ltb, drop, length, take, cond, List, [], ◌++◌, ◌∷◌, ◌≡◌}

-- The decimal digits of `n`, at most `k + 1` of them.
unfoldable pub digits_within : ℕ → ℕ → List ℕ
digits_within zero n = (48 + n) ∷ []
digits_within (suc k) n =
    let longer = digits_within k (n / 10) ++ (48 + n % 10) ∷ [] in
    cond (ltb n 10) ((48 + n) ∷ []) longer

-- A number in decimal, without leading zeros; `n` has at most `n + 1` digits.
unfoldable pub decimal : ℕ → List ℕ
decimal n = digits_within n n

-- A list with `bytes` in the place of as many of its elements, from `at` on.
unfoldable pub written : List ℕ → ℕ → List ℕ → List ℕ
written old at bytes = take at old ++ (bytes ++ drop (at + length bytes) old)

-- What a call that stores `bytes` from `at` on leaves, and the next place that it gives back.
pub record Stored (old : List ℕ) (at : ℕ) (bytes new : List ℕ) (next : ℕ) : Type 0 where
  pub place : next ≡ at + length bytes
  pub list : new ≡ written old at bytes
