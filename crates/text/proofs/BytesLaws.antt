-- Laws of `same_bytes`.
use Prim.Native.Nat.{suc, ℕ}
use Rattle.text.specs.Bytes.{same_bytes}
use borrow.Author.Tests.{eq-eqb, eqb-true}
use lib.Dec.{eqb}
use lib.ListN.{length}
use mathlib.Core.Bool.{Bool, ◌&&◌, and-false, false, true}
use mathlib.Core.List.{List, [], ◌∷◌}
use mathlib.Core.Logic.{◌↔◌}
use mathlib.Core.Path.{◌≡◌, ap, refl}

-- A byte string is the same as itself.
same_refl : (a : List ℕ) → same_bytes a a ≡ true
same_refl [] = refl
same_refl (x ∷ xs) = rw (eq-eqb x x refl) (same_refl xs)

-- Byte strings that are the same are equal.
same_eq : (a b : List ℕ) → same_bytes a b ≡ true → a ≡ b
same_eq [] [] h = refl
same_eq [] (y ∷ ys) h = cc
same_eq (x ∷ xs) [] h = cc
same_eq (x ∷ xs) (y ∷ ys) h = go (eqb x y) refl (same_eq xs ys) h
  where
    go : (t : Bool) → eqb x y ≡ t → (same_bytes xs ys ≡ true → xs ≡ ys) → (t && same_bytes xs ys) ≡ true → x ∷ xs ≡ y ∷ ys
    go true e f h = let p : x ≡ y = eqb-true x y e in let q : xs ≡ ys = f h in cc
    go false e f h = cc

-- `same_bytes` decides whether two byte strings are equal.
pub same_iff : (a b : List ℕ) → (same_bytes a b ≡ true) ↔ (a ≡ b)
same_iff a b = (same_eq a b, λ e. rw e (same_refl b))

-- Byte strings of different lengths are not the same.
pub same_lengths : (a b : List ℕ) → (length a ≡ length b → ⊥) → same_bytes a b ≡ false
same_lengths [] [] h = absurd (h refl)
same_lengths [] (y ∷ ys) h = refl
same_lengths (x ∷ xs) [] h = refl
same_lengths (x ∷ xs) (y ∷ ys) h = rw (same_lengths xs ys (λ e. h (ap suc e))) (and-false (eqb x y))
