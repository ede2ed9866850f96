-- What the first vertex with a pair is.
use Rattle.std.proofs.lemmas.Grind.{common_steps}
use Prim.Native.Nat.{◌*◌, ◌+◌, suc, zero, ℕ}
use Rattle.aig.specs.Lookup.{Agree, First, HoldsRow, Unused, first_vertex, first_word, has_pair, or_here, second_word}
use borrow.Author.Tests.{eqb-false, eqb-true}
use lib.Dec.{eqb}
use Rattle.std.specs.Prelude.{Option, Some, None}
use mathlib.Core.Bool.{Bool, ◌&&◌, false, true}
use mathlib.Core.List.{List}
use mathlib.Core.Path.{◌≡◌, ap, refl, subst}
use native.Mathlib.Omega.{arith}

-- What an answer below n says.
abbrev Says : List ℕ → ℕ → ℕ → ℕ → Option ℕ → Type 0
Says pairs p q n (Some v) = First pairs p q n v
Says pairs p q n None = Unused pairs p q n

module _ (pairs : List ℕ) (p q : ℕ) where
  -- The test of one vertex says that it holds the pair, or that it does not.
  pub has_pair_lem : (v : ℕ) → has_pair pairs v p q ≡ true → HoldsRow pairs v p q
  has_pair_lem v e = go (eqb (first_word pairs v) p) refl e
    where
      go : (b : Bool) → eqb (first_word pairs v) p ≡ b → (b && eqb (second_word pairs v) q) ≡ true → HoldsRow pairs v p q
      go true d e = record { first = eqb-true (first_word pairs v) p d; second = eqb-true (second_word pairs v) q e }
      go false d e = let z : ◌≡◌ {A = ℕ} 0 1 = cc in absurd (omega arith)

  pub lacks-pair : (v : ℕ) → has_pair pairs v p q ≡ false → HoldsRow pairs v p q → ⊥
  lacks-pair v e h = go (eqb (first_word pairs v) p) refl e
    where
      go : (b : Bool) → eqb (first_word pairs v) p ≡ b → (b && eqb (second_word pairs v) q) ≡ false → ⊥
      go true d e = eqb-false (second_word pairs v) q e h.second
      go false d e = eqb-false (first_word pairs v) p d h.first

  unused-more : (n : ℕ) → Unused pairs p q n → (HoldsRow pairs n p q → ⊥) → Unused pairs p q (suc n)
  unused-more n none here v below holds = grind (arith, common_steps)

  says-more : (n : ℕ) (f : Option ℕ) (b : Bool) → Says pairs p q n f → has_pair pairs n p q ≡ b → Says pairs p q (suc n) (or_here f b n)
  says-more n (Some v) b s e = record { within = omega (arith, s.within); holds = s.holds; unused-before = s.unused-before }
  says-more n None true s e = record { within = omega arith; holds = has_pair_lem n e; unused-before = s }
  says-more n None false s e = unused-more n s (lacks-pair n e)

  says : (n : ℕ) → Says pairs p q n (first_vertex pairs p q n)
  unfolding first_vertex
  says zero = λ v below holds. absurd (omega arith)
  says (suc n) = says-more n (first_vertex pairs p q n) (has_pair pairs n p q) (says n) refl

  -- Two vertices that are first are one.
  same_first : {n u v : ℕ} → First pairs p q n u → First pairs p q n v → u ≡ v
  same_first {n} {u} {v} f g = grind (arith, common_steps)

  agreed : (n : ℕ) (f g : Option ℕ) → Says pairs p q n f → Says pairs p q n g → f ≡ g
  agreed n (Some u) (Some v) s t = ap Some (same_first s t)
  agreed n (Some u) None s t = absurd (t u s.within s.holds)
  agreed n None (Some v) s t = absurd (s v t.within t.holds)
  agreed n None None s t = refl

  -- A vertex that is found lies below the count and has the pair, and no lower one has it.
  pub found_at : (n v : ℕ) → first_vertex pairs p q n ≡ Some v → First pairs p q n v
  found_at n v e = subst (Says pairs p q n) e (says n)

  -- Where none is found no vertex below the count has the pair.
  pub found_nothing : (n : ℕ) → first_vertex pairs p q n ≡ None → Unused pairs p q n
  found_nothing n e = subst (Says pairs p q n) e (says n)

  -- The first vertex with the pair is found.
  pub first-at : (n v : ℕ) → First pairs p q n v → first_vertex pairs p q n ≡ Some v
  first-at n v f = agreed n (first_vertex pairs p q n) (Some v) (says n) f

  -- Where no vertex has the pair none is found.
  pub first_nothing : (n : ℕ) → Unused pairs p q n → first_vertex pairs p q n ≡ None
  first_nothing n none = agreed n (first_vertex pairs p q n) None (says n) none

-- Words at or above the count do not matter.
pub first_vertex-frame : (pairs other : List ℕ) (p q n : ℕ) → Agree pairs other n → first_vertex other p q n ≡ first_vertex pairs p q n
unfolding first_vertex
first_vertex-frame pairs other p q zero agree = refl
first_vertex-frame pairs other p q (suc n) agree =
    rw (first_vertex-frame pairs other p q n (λ i h. agree i (omega arith)), agree (2 * n) (omega arith), agree (2 * n + 1) (omega arith))
