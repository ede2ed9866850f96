-- Vertices in place, one after the other.
use Prim.Native.Nat.{◌*◌, ◌<◌, ◌≤◌, ℕ}
use Rattle.aig.specs.Lookup.{first_word, second_word}
use Rattle.run_sweep.specs.code.Asked.{InPlace}
use Rattle.sweep_model.specs.Fit.{Downward}
use lib.ListN.{length}
use mathlib.Core.List.{List}
use mathlib.Core.Path.{◌≡◌}
use native.Mathlib.Omega.{arith}

module _ (first : ℕ) (pairs : List ℕ) where
  -- A first vertex with its own literal twice is in place.
  pub own-in_place : (v : ℕ) → v < first → first_word pairs v ≡ 2 * v → second_word pairs v ≡ 2 * v → InPlace first v pairs
  own-in_place v h p q =
      record { own = λ l. record { first = p; second = q }; first_below = λ l. absurd (omega arith); second_below = λ l. absurd (omega arith) }

  -- So is another that refers below itself.
  pub below_in-place : (v : ℕ) → first ≤ v → first_word pairs v < 2 * v → second_word pairs v < 2 * v → InPlace first v pairs
  below_in-place v h p q = record { own = λ l. absurd (omega arith); first_below = λ l. p; second_below = λ l. q }

  -- All vertices below a number are in place.
  abbrev pub AllInPlace : ℕ → Type 0
  AllInPlace n = (v : ℕ) → v < n → InPlace first v pairs

  -- The words are those of a graph.
  pub all-downward : (count : ℕ) → 2 * count ≤ length pairs → first ≤ count → AllInPlace count → Downward first count pairs
  all-downward count long within all =
      record {
        long = long;
        own = λ v l. (all v (omega arith)).own l;
        first_below = λ v l m. (all v m).first_below l;
        second_below = λ v l m. (all v m).second_below l;
      }
