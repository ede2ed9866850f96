-- The laws of folding: each rule by itself, and what a folded AND and a pair that is left are.
use Prim.Native.Nat.{◌<◌, ◌≤◌, ℕ}
use Rattle.aig.proofs.LiteralLaws.{negate-swap}
use Rattle.aig.proofs.PairsLaws.{pair-each}
use Rattle.aig.specs.Fold.{Unfolded, fold_of}
use Rattle.aig.specs.Literal.{lit, negate}
use Rattle.aig.specs.Pairs.{SamePair, crossed, straight}
use Rattle.aig.specs.declared.fold.Folded.TheVariants.{Pair, To}
use Rattle.aig.specs.declared.fold.Folded.{Folded}
use Rattle.aig.specs.declared.literal.Literal.{Literal}
use Rattle.truth.proofs.Booleans.{cond_cases}
use borrow.Author.Tests.{eqb-false, eqb-true, ltb-false, ltb-true}
use lib.Dec.{eqb, ltb}
use mathlib.Core.Logic.{◌⊎◌, inl, inr, ⊎_elim}
use mathlib.Core.Path.{◌≡◌, refl, subst}
use Rattle.std.proofs.lemmas.Grind.{common_steps}
use native.Mathlib.Omega.{arith}

-- A pair in order that passes the tests does not fold.
pub unfolded : (p q : ℕ) → (p ≡ 0 → ⊥) → (p ≡ 1 → ⊥) → (negate p ≡ q → ⊥) → p < q → Unfolded p q
unfolded p q p≢0 p≢1 apart lt = record { ordered = lt; unfixed = omega arith; independent = apart }

-- A pair out of order that passes the tests does not fold.
pub unfolded-swapped : (p q : ℕ) → (p ≡ q → ⊥) → (q ≡ 0 → ⊥) → (q ≡ 1 → ⊥) → (negate p ≡ q → ⊥) → q ≤ p → Unfolded q p
unfolded-swapped p q p≢q q≢0 q≢1 apart le = unfolded q p q≢0 q≢1 (λ e. apart (negate-swap q p e)) (omega arith)

-- What holds of the answer of each rule, given that rule's test, holds of the fold. Of the rules before it nothing need be known.
pub fold-cases :
    (p q : ℕ) (P : Folded → Type 0) → (p ≡ q → P (To (lit p))) → (negate p ≡ q → P (To (lit 0))) → (p ≡ 0 → P (To (lit 0)))
    → (q ≡ 0 → P (To (lit 0))) → (p ≡ 1 → P (To (lit q))) → (q ≡ 1 → P (To (lit p)))
    → (Unfolded p q → P (Pair (lit p) (lit q))) → (Unfolded q p → P (Pair (lit q) (lit p))) → P (fold_of p q)
unfolding fold_of
fold-cases p q P same inverse false_left false_right true_left true_right ordered swapped =
    cond_cases P (eqb p q) (λ e. same (eqb-true p q e)) λ d₁.
    cond_cases P (eqb (negate p) q) (λ e. inverse (eqb-true (negate p) q e)) λ d₂.
    cond_cases P (eqb p 0) (λ e. false_left (eqb-true p 0 e)) λ d₃.
    cond_cases P (eqb q 0) (λ e. false_right (eqb-true q 0 e)) λ d₄.
    cond_cases P (eqb p 1) (λ e. true_left (eqb-true p 1 e)) λ d₅.
    cond_cases P (eqb q 1) (λ e. true_right (eqb-true q 1 e)) λ d₆.
    cond_cases P (ltb p q)
    (λ e. ordered (unfolded p q (eqb-false p 0 d₃) (eqb-false p 1 d₅) (eqb-false (negate p) q d₂) (ltb-true p q e)))
    (λ e. swapped (unfolded-swapped p q (eqb-false p q d₁) (eqb-false q 0 d₄) (eqb-false q 1 d₆) (eqb-false (negate p) q d₂) (ltb-false p q e)))

-- Equal operands give that operand.
pub fold_same : (p q : ℕ) → p ≡ q → fold_of p q ≡ To (lit p)
unfolding fold_of
fold_same p q e = grind (arith, common_steps)

-- An operand and its inversion give false.
pub fold-inverse : (p q : ℕ) → negate p ≡ q → fold_of p q ≡ To (lit 0)
unfolding fold_of
fold-inverse p q e = grind (arith, common_steps)

-- A first operand false gives false.
pub fold_false_left : (p q : ℕ) → p ≡ 0 → fold_of p q ≡ To (lit 0)
unfolding fold_of
fold_false_left p q e = grind (arith, common_steps)

-- A second operand false gives false.
pub fold_false_right : (p q : ℕ) → q ≡ 0 → fold_of p q ≡ To (lit 0)
unfolding fold_of
fold_false_right p q e = grind (arith, common_steps)

-- A first operand true gives the second.
pub fold_true_left : (p q : ℕ) → p ≡ 1 → fold_of p q ≡ To (lit q)
unfolding fold_of
fold_true_left p q e = grind (arith, common_steps)

-- A second operand true gives the first.
pub fold_true_right : (p q : ℕ) → q ≡ 1 → fold_of p q ≡ To (lit p)
unfolding fold_of
fold_true_right p q e = grind (arith, common_steps)

-- A pair that does not fold is left as it stands.
pub fold-ordered : (p q : ℕ) → Unfolded p q → fold_of p q ≡ Pair (lit p) (lit q)
unfolding fold_of
fold-ordered p q u = grind (arith, common_steps)

-- A pair that does not fold is put in order.
pub fold_swapped : (p q : ℕ) → Unfolded q p → fold_of p q ≡ Pair (lit q) (lit p)
unfolding fold_of
fold_swapped p q u = grind (arith, common_steps)

-- What the answer of a fold is, by cases.
Answer : ℕ → ℕ → Folded → Type 0
Answer p q (To r) = (r.0 ≡ 0) ⊎ ((r.0 ≡ p) ⊎ (r.0 ≡ q))
Answer p q (Pair x y) = Unfolded x.0 y.0 × SamePair x.0 y.0 p q

answers : (p q : ℕ) → Answer p q (fold_of p q)
unfolding Answer
answers p q =
    fold-cases p q (Answer p q) (λ h. inr (inl refl)) (λ h. inl refl) (λ h. inl refl) (λ h. inl refl) (λ h. inr (inr refl)) (λ h. inr (inl refl))
    (λ u. (u, straight refl refl)) (λ u. (u, crossed refl refl))

-- A folded AND is false or one of its operands.
pub to-among : (p q : ℕ) {r : Literal} → fold_of p q ≡ To r → (r.0 ≡ 0) ⊎ ((r.0 ≡ p) ⊎ (r.0 ≡ q))
unfolding Answer
to-among p q e = subst (Answer p q) e (answers p q)

-- A folded AND keeps the operands' bound.
pub to_below : (p q n : ℕ) {r : Literal} → fold_of p q ≡ To r → p < n → q < n → r.0 < n
to_below p q n e hp hq =
    ⊎_elim (λ h. omega arith) (λ w. ⊎_elim (λ h. omega arith) (λ h. omega arith) w) (to-among p q e)

-- A pair that is left does not fold: its lower literal stands first, none is constant, they are not inverse.
pub pair-unfolded : (p q : ℕ) {x y : Literal} → fold_of p q ≡ Pair x y → Unfolded x.0 y.0
unfolding Answer
pair-unfolded p q e = (subst (Answer p q) e (answers p q)).0

-- A pair that is left has the two operands.
pub pair_operands : (p q : ℕ) {x y : Literal} → fold_of p q ≡ Pair x y → SamePair x.0 y.0 p q
unfolding Answer
pair_operands p q e = (subst (Answer p q) e (answers p q)).1

-- A pair that is left keeps the operands' bound.
pub pair-below : (p q n : ℕ) {x y : Literal} → fold_of p q ≡ Pair x y → p < n → q < n → (x.0 < n) × (y.0 < n)
pair-below p q n e hp hq = pair-each (λ (r : ℕ). r < n) (pair_operands p q e) hp hq
