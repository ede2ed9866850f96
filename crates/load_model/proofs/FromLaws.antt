-- Rows that come from ANDs: where each comes from, and what carries over from rows to ANDs.
use Prim.Native.Nat.{◌<◌, ◌≤◌, suc, zero, ℕ}
use Rattle.aig.proofs.PairsLaws.{same-pair-value}
use Rattle.aig.specs.Pairs.{SamePair}
use Rattle.load_model.specs.code.From.{From, made, none, other, total}
use lib.ListN.{get_or, length}
use mathlib.Core.List.{List, [], ◌++◌, ◌∷◌}
use mathlib.Core.Path.{◌≡◌}
use native.Mathlib.Omega.{arith}

module _ {A : Type 0} where
  -- No row comes from any ANDs.
  pub from-none : (ys : List (A × A)) → From [] ys
  from-none [] = none
  from-none (y ∷ ys) = other (from-none ys)

  -- Rows after rows come from ANDs after ANDs.
  pub from_append : {xs ys us vs : List (A × A)} → From xs ys → From us vs → From (xs ++ us) (ys ++ vs)
  from_append none g = g
  from_append (made s f) g = made s (from_append f g)
  from_append (other f) g = other (from_append f g)

  -- The place of the AND that a row comes from.
  pub place_in : {xs ys : List (A × A)} → From xs ys → ℕ → ℕ
  place_in none i = 0
  place_in (made s f) zero = 0
  place_in (made s f) (suc i) = suc (place_in f i)
  place_in (other f) i = suc (place_in f i)

  -- It is the place of an AND,
  pub place-within : {xs ys : List (A × A)} (f : From xs ys) (i : ℕ) → i < length xs → place_in f i < length ys
  unfolding place_in
  place-within none i h = absurd (omega arith)
  place-within (made s f) zero h = omega arith
  place-within (made s f) (suc i) h = omega (arith, place-within f i (omega arith))
  place-within (other f) i h = omega (arith, place-within f i h)

  -- which has the row's operands, in either order;
  pub place-pair : {xs ys : List (A × A)} (f : From xs ys) (z : A × A) (i : ℕ) → i < length xs
      → SamePair (get_or xs i z).0 (get_or xs i z).1 (get_or ys (place_in f i) z).0 (get_or ys (place_in f i) z).1
  unfolding place_in
  place-pair none z i h = absurd (omega arith)
  place-pair (made s f) z zero h = s
  place-pair (made s f) z (suc i) h = place-pair f z i (omega arith)
  place-pair (other f) z i h = place-pair f z i h

  -- and different rows come from different places.
  pub place-rises : {xs ys : List (A × A)} (f : From xs ys) (i j : ℕ) → i < j → j < length xs → place_in f i < place_in f j
  unfolding place_in
  place-rises none i j l h = absurd (omega arith)
  place-rises (made s f) zero zero l h = absurd (omega arith)
  place-rises (made s f) zero (suc j) l h = omega arith
  place-rises (made s f) (suc i) zero l h = absurd (omega arith)
  place-rises (made s f) (suc i) (suc j) l h = omega (arith, place-rises f i j (omega arith) (omega arith))
  place-rises (other f) i j l h = omega (arith, place-rises f i j l h)

  -- A sum over rows is at most the sum over the ANDs.
  pub total-from : (f : A → A → ℕ) → ((x y : A) → f x y ≡ f y x) → {xs ys : List (A × A)} → From xs ys → total f xs ≤ total f ys
  unfolding total
  total-from f comm none = omega arith
  total-from f comm (made s g) = omega (arith, total-from f comm g, same-pair-value f comm s)
  total-from f comm (other g) = omega (arith, total-from f comm g)
