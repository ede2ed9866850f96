-- What literals, folded ANDs and pairs mean, over any domain that obeys the laws of `Algebra`.
use Prim.Native.Nat.{◌%◌, ◌<◌, ◌≤◌, ℕ}
use Rattle.aig.proofs.FoldLaws.{fold-cases}
use Rattle.aig.proofs.LiteralLaws.{inverted-literal, inverted-negate, onto_even, onto_odd, vertex-literal, vertex-negate}
use Rattle.aig.specs.Fold.{fold_of}
use Rattle.aig.specs.Literal.{inverted?, literal_of, negate, onto, vertex_of}
use Rattle.aig.specs.Values.{Algebra, AllGood, literal_value}
use Rattle.aig.specs.declared.fold.Folded.TheVariants.{Pair, To}
use Rattle.aig.specs.declared.fold.Folded.{Folded}
use Rattle.aig.specs.declared.literal.Literal.{Literal}
use borrow.Author.Tests.{eqb-false, eqb-true}
use lib.ListN.{get_or-eq_default, get_or, length}
use mathlib.Core.Bool.{Bool, ◌&&◌, cond, false, not, true}
use mathlib.Core.List.{List}
use mathlib.Core.Path.{◌∙◌, ◌≡◌, ap, refl, subst, sym}
use native.Mathlib.Decide.{dec_lt}
use native.Mathlib.Omega.{arith}

-- Bits obey the laws, all of them.
pub bits : Algebra (λ (x : Bool). Unit {0}) not ◌&&◌ false
bits =
    record {
      good_false = tt;
      good-invert = λ x g. tt;
      good-both = λ x y g h. tt;
      invert-invert = λ x g. not_not x;
      both_comm = λ x y g h. comm x y;
      both-self = λ x g. self x;
      both-inverse = λ x g. inverse x;
      both_false = λ x g. refl;
      both_true = λ x g. refl;
    }
  where
    comm : (x y : Bool) → (x && y) ≡ (y && x)
    comm true true = refl
    comm true false = refl
    comm false true = refl
    comm false false = refl

    not_not : (x : Bool) → not (not x) ≡ x
    not_not true = refl
    not_not false = refl

    self : (x : Bool) → (x && x) ≡ x
    self true = refl
    self false = refl

    inverse : (x : Bool) → (x && not x) ≡ false
    inverse true = refl
    inverse false = refl

-- All values are good where those of the list are.
pub all-good : {A : Type 0} (Good : A → Type 0) (falsum : A) → Good falsum → (vs : List A) → ((v : ℕ) → v < length vs → Good (get_or vs v falsum)) → AllGood Good falsum vs
all-good Good falsum base vs each v =
    elim (dec_lt v (length vs)) [
      | yes h ↦ each v h
      | no h ↦ (let le : length vs ≤ v = omega arith in rw (get_or-eq_default vs falsum le) base)
    ]

module _ {A : Type 0} (invert : A → A) (both : A → A → A) (falsum : A) where
  -- The value of a vertex's literal.
  pub value-literal : (vs : List A) (v : ℕ) (b : Bool) → literal_value invert both falsum vs (literal_of v b) ≡ cond b (invert (get_or vs v falsum)) (get_or vs v falsum)
  value-literal vs v b = rw (vertex-literal v b, inverted-literal v b)

module _ {A : Type 0} {Good : A → Type 0} {invert : A → A} {both : A → A → A} {falsum : A} (L : Algebra Good invert both falsum)
    (vs : List A) (good : AllGood Good falsum vs) where
  value : ℕ → A
  value r = literal_value invert both falsum vs r

  -- The value of a literal is good.
  pub value-good : (r : ℕ) → Good (literal_value invert both falsum vs r)
  value-good r = go (inverted? r) (good (vertex_of r))
    where
      go : (b : Bool) {x : A} → Good x → Good (cond b (invert x) x)
      go true g = L.good-invert _ g
      go false g = g

  -- The value of an inversion is the inverse value.
  pub value-negate : (r : ℕ) → literal_value invert both falsum vs (negate r) ≡ invert (literal_value invert both falsum vs r)
  value-negate r = rw (vertex-negate r, inverted-negate r) (go (inverted? r) (good (vertex_of r)))
    where
      go : (b : Bool) {x : A} → Good x → cond (not b) (invert x) x ≡ invert (cond b (invert x) x)
      go true g = sym (L.invert-invert _ g)
      go false g = refl

  module _ (constant : get_or vs 0 falsum ≡ falsum) where
    -- Literal 0 is false.
    pub value_false : literal_value invert both falsum vs 0 ≡ falsum
    value_false = constant

    -- Literal 1 is true.
    pub value_true : literal_value invert both falsum vs 1 ≡ invert falsum
    value_true = ap invert constant

    Means : ℕ → ℕ → Folded → Type 0
    Means p q (To r) = value r.0 ≡ both (value p) (value q)
    Means p q (Pair x y) = both (value x.0) (value y.0) ≡ both (value p) (value q)

    means : (p q : ℕ) → Means p q (fold_of p q)
    unfolding Means value
    means p q =
        fold-cases p q (Means p q)
        (λ h. rw (← h) (sym (L.both-self _ (value-good p))))
        (λ h. rw (← h, value-negate p) (value_false ∙ sym (L.both-inverse _ (value-good p))))
        (λ h. rw (h, value_false) (sym (L.both_false _ (value-good q))))
        (λ h. rw (h, value_false) (sym (L.both_comm _ _ (value-good p) L.good_false ∙ L.both_false _ (value-good p))))
        (λ h. rw (h, value_true) (sym (L.both_true _ (value-good q))))
        (λ h. rw (h, value_true) (sym (L.both_comm _ _ (value-good p) (L.good-invert _ L.good_false) ∙ L.both_true _ (value-good p))))
        (λ u. refl)
        (λ u. L.both_comm _ _ (value-good q) (value-good p))

    -- A folded AND has the value of the AND of its operands.
    pub to-means :
        (p q : ℕ) {r : Literal} → fold_of p q ≡ To r
        → literal_value invert both falsum vs r.0 ≡ both (literal_value invert both falsum vs p) (literal_value invert both falsum vs q)
    unfolding Means value
    to-means p q e = subst (Means p q) e (means p q)

    -- A pair that is left has the value of the AND of the operands.
    pub pair-means :
        (p q : ℕ) {x y : Literal} → fold_of p q ≡ Pair x y
        → both (literal_value invert both falsum vs x.0) (literal_value invert both falsum vs y.0)
        ≡ both (literal_value invert both falsum vs p) (literal_value invert both falsum vs q)
    unfolding Means value
    pair-means p q e = subst (Means p q) e (means p q)

-- The value of a literal that is inverted where another is.
module _ {A : Type 0} {Good : A → Type 0} {invert : A → A} {both : A → A → A} {falsum : A} (L : Algebra Good invert both falsum)
    (vs : List A) (good : AllGood Good falsum vs) where
  pub value-onto : (x r : ℕ) → literal_value invert both falsum vs (onto x r)
      ≡ cond (inverted? r) (invert (literal_value invert both falsum vs x)) (literal_value invert both falsum vs x)
  value-onto x r = go (inverted? r) refl
    where
      go : (b : Bool) → inverted? r ≡ b → literal_value invert both falsum vs (onto x r)
          ≡ cond b (invert (literal_value invert both falsum vs x)) (literal_value invert both falsum vs x)
      go true e = ap (literal_value invert both falsum vs) (onto_odd x r (eqb-true (r % 2) 1 e)) ∙ value-negate L vs good x
      go false e = let h : (r % 2 ≡ 1 → ⊥) = eqb-false (r % 2) 1 e in ap (literal_value invert both falsum vs) (onto_even x r (omega arith))
