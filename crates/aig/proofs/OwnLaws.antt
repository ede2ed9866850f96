-- Words that stand for themselves.
use Prim.Native.Nat.{◌*◌, ◌+◌, ◌<◌, suc, zero, ℕ}
use Rattle.aig.specs.Lookup.{HoldsRow, own_words}
use lib.ListN.{get_or, length}
use mathlib.Core.List.{List, ◌∷◌}
use mathlib.Core.Path.{◌∙◌, ◌≡◌, ap, refl}
use native.Mathlib.Omega.{arith}

-- Each vertex holds its own literal twice.
pub own-holds : (v n i : ℕ) → i < n → HoldsRow (own_words v n) i (2 * (v + i)) (2 * (v + i))
unfolding own_words
own-holds v zero i h = absurd (omega arith)
own-holds v (suc n) zero h = record { first = omega arith; second = omega arith }
own-holds v (suc n) (suc i) h =
    let ih = own-holds (suc v) n i (omega arith) in
    let ws : List ℕ = 2 * v ∷ 2 * v ∷ own_words (suc v) n in
    let e : 2 * suc i ≡ suc (suc (2 * i)) = omega arith in
    let f : 2 * suc i + 1 ≡ suc (suc (2 * i + 1)) = omega arith in
    record {
      first = ap (λ (k : ℕ). get_or ws k 0) e ∙ ih.first ∙ omega arith;
      second = ap (λ (k : ℕ). get_or ws k 0) f ∙ ih.second ∙ omega arith;
    }

-- They have two words each.
pub length_own : (v n : ℕ) → length (own_words v n) ≡ 2 * n
unfolding own_words
length_own v zero = refl
length_own v (suc n) = omega (arith, length_own (suc v) n)
