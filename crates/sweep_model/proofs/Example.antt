-- A problem that fits: "The and/or pair above", a AND b against a OR b.
use Prim.Native.Nat.{◌*◌, ◌<◌, ◌≤◌, suc, zero, ℕ}
use Rattle.aig.specs.Lookup.{HoldsRow, first_word, second_word}
use Rattle.sweep_model.specs.Fit.{Fit}
use Rattle.sweep_model.specs.State.{Problem, function_of, literal_function}
use Rattle.truth.proofs.Values.{perfect-conj, perfect-constant, perfect-input, perfect-invert}
use Rattle.truth.specs.Truth.{Perfect, conj, constantly, input, invert}
use mathlib.Core.Bool.{false}
use mathlib.Core.List.{List, [], ◌∷◌}
use mathlib.Core.Path.{◌≡◌, refl}
use native.Mathlib.Omega.{arith}

-- Vertices 0 to 4: the constant, the inputs, a AND b, and the AND of their inversions.
abbrev pub and_against_or : Problem
and_against_or =
    record {
      inputs = 2;
      functions = constantly 2 false ∷ input 2 1 ∷ input 2 2 ∷ conj (input 2 1) (input 2 2) ∷ conj (invert (input 2 1)) (invert (input 2 2)) ∷ [];
      first = 3;
      left = 6;
      right = 9;
      limits = record { size = 4096; rows = 4096; steps = 4096 };
    }

-- Its rows: the first vertices hold their own literals.
abbrev pub and_against_or_rows : List ℕ
and_against_or_rows = 0 ∷ 0 ∷ 2 ∷ 2 ∷ 4 ∷ 4 ∷ 2 ∷ 4 ∷ 3 ∷ 5 ∷ []

five : (P : ℕ → Type 0) → P 0 → P 1 → P 2 → P 3 → P 4 → (v : ℕ) → v < 5 → P v
five P p₀ p₁ p₂ p₃ p₄ zero h = p₀
five P p₀ p₁ p₂ p₃ p₄ (suc zero) h = p₁
five P p₀ p₁ p₂ p₃ p₄ (suc (suc zero)) h = p₂
five P p₀ p₁ p₂ p₃ p₄ (suc (suc (suc zero))) h = p₃
five P p₀ p₁ p₂ p₃ p₄ (suc (suc (suc (suc zero)))) h = p₄
five P p₀ p₁ p₂ p₃ p₄ (suc (suc (suc (suc (suc v))))) h = absurd (omega arith)

-- It meets every premise.
pub example_fits : Fit and_against_or and_against_or_rows
example_fits =
    record {
      well_formed =
          record {
            perfect =
                five (λ v. Perfect 2 (function_of and_against_or v)) (perfect-constant 2 false) (perfect-input 2 1) (perfect-input 2 2)
                (perfect-conj (perfect-input 2 1) (perfect-input 2 2))
                (perfect-conj (perfect-invert (perfect-input 2 1)) (perfect-invert (perfect-input 2 2)));
            constant = refl;
            inputs = λ v l h.
                five (λ u. 1 ≤ u → u < 3 → function_of and_against_or u ≡ input 2 u) (λ l h. absurd (omega arith)) (λ l h. refl) (λ l h. refl)
                (λ l h. absurd (omega arith)) (λ l h. absurd (omega arith)) v (omega arith) l h;
            some_first = omega arith;
            first-few = omega arith;
            first-within = omega arith;
            left-within = omega arith;
            right-within = omega arith;
          };
      sound =
          record {
            downward =
                record {
                  long = omega arith;
                  own = λ v h.
                      five (λ u. u < 3 → HoldsRow and_against_or_rows u (2 * u) (2 * u)) (λ h. twice) (λ h. twice) (λ h. twice) (λ h. absurd (omega arith))
                      (λ h. absurd (omega arith)) v (omega arith) h;
                  first_below = λ v l h. made (λ u. first_word and_against_or_rows u < 2 * u) (omega arith) (omega arith) v l h;
                  second_below = λ v l h. made (λ u. second_word and_against_or_rows u < 2 * u) (omega arith) (omega arith) v l h;
                };
            means = λ v l h.
                made
                (λ u.
                function_of and_against_or u
                ≡ conj (literal_function and_against_or (first_word and_against_or_rows u)) (literal_function and_against_or (second_word and_against_or_rows u)))
                refl refl v l h;
          };
    }
  where
    twice : {rows : List ℕ} {v : ℕ} → HoldsRow rows v (first_word rows v) (second_word rows v)
    twice = record { first = refl; second = refl }

    made : (P : ℕ → Type 0) → P 3 → P 4 → (v : ℕ) → 3 ≤ v → v < 5 → P v
    made P p₃ p₄ v l h =
        five (λ u. 3 ≤ u → P u) (λ l. absurd (omega arith)) (λ l. absurd (omega arith)) (λ l. absurd (omega arith)) (λ l. p₃) (λ l. p₄) v h l
