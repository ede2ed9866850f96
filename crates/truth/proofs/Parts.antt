-- Laws of parts, sizes and parts of several functions together.
use Prim.Native.Nat.{◌<◌, suc, zero, ℕ}
use Rattle.truth.proofs.Booleans.{and_left, and_right, clash, iff_equal, not_true, or_cases, or_left, or_right}
use Rattle.truth.proofs.Distinct.{among_append, distinct-same, filter_append}
use Rattle.truth.proofs.Equality.{alike-cases, equal-alike, inverse-alike, invert_across, invert-twice, same-invert, same-reflexive}
use Rattle.truth.proofs.Values.{perfect-invert}
use Rattle.truth.specs.Distinct.{Sameness, among, distinct, filter}
use Rattle.truth.specs.Parts.{alike?, cofactors, depends?, parts, size}
use Rattle.truth.specs.Truth.{Perfect, Truth, constantly, halves, input, invert, leaf, node, same?, whole}
use lib.ListN.{length}
use mathlib.Core.Bool.{Bool, ◌&&◌, ◌||◌, cond, false, not, or_self, true}
use mathlib.Core.List.{[], ◌++◌, ◌∷◌}
use mathlib.Core.Logic.{⊎_elim}
use mathlib.Core.Path.{◌∙◌, ◌≡◌, ap, ap₂, refl, sym}
use native.Mathlib.Omega.{arith}

-- Being equal or inverse is a sameness.
pub alike-turn : (f g : Truth) → alike? f g ≡ true → alike? g f ≡ true
alike-turn f g h = ⊎_elim (λ e. equal-alike (sym e)) (λ e. inverse-alike g f (invert_across (sym e))) (alike-cases f g h)

pub alike-chain : (f g h : Truth) → alike? f g ≡ true → alike? g h ≡ true → alike? f h ≡ true
alike-chain f g h d e =
    ⊎_elim
    (λ p. rw p e)
    (λ p. ⊎_elim (λ q. inverse-alike f h (p ∙ ap invert q)) (λ q. equal-alike (p ∙ ap invert q ∙ invert-twice h)) (alike-cases g h e))
    (alike-cases f g d)

pub alike_sameness : Sameness alike?
alike_sameness =
    record {
      reflexive = λ f. equal-alike {f = f} refl;
      symmetric = λ f g. iff_equal (alike? f g) (alike? g f) (alike-turn f g) (alike-turn g f);
      congruent = λ f g h e. iff_equal (alike? f h) (alike? g h) (alike-chain g f h (alike-turn f g e)) (alike-chain f g h e);
    }

-- The parts of a function: itself where its halves differ, and the parts of its halves.
pub parts-leaf : (b : Bool) → parts (leaf b) ≡ []
unfolding parts filter cofactors depends?
parts-leaf b = refl

pub parts-node : (f g : Truth) → parts (node f g) ≡ cond (same? f g) (parts f ++ parts g) (node f g ∷ (parts f ++ parts g))
unfolding parts filter cofactors depends?
parts-node f g = rw (filter_append depends? (cofactors f) (cofactors g)) (turn (same? f g))
  where
    turn : (b : Bool) → cond (not b) (node f g ∷ (parts f ++ parts g)) (parts f ++ parts g) ≡ cond b (parts f ++ parts g) (node f g ∷ (parts f ++ parts g))
    turn true = refl
    turn false = refl

-- A function is the same as a part of node f g exactly where it is alike to it and its halves differ, or is a part of a half.
pub part_node : (t f g : Truth) → among alike? t (parts (node f g)) ≡ not (same? f g) && alike? t (node f g) || (among alike? t (parts f) || among alike? t (parts g))
unfolding among
part_node t f g = rw (parts-node f g) (go (same? f g))
  where
    go : (b : Bool) → among alike? t (cond b (parts f ++ parts g) (node f g ∷ (parts f ++ parts g)))
        ≡ not b && alike? t (node f g) || (among alike? t (parts f) || among alike? t (parts g))
    go true = among_append alike? t (parts f) (parts g)
    go false = ap (◌||◌ (alike? t (node f g))) (among_append alike? t (parts f) (parts g))

-- The same function up to inversion: what is alike to one is alike to the other.
pub alike-invert : (t f : Truth) → alike? t (invert f) ≡ alike? t f
alike-invert t f =
    S.symmetric t (invert f) ∙ S.congruent (invert f) f t (inverse-alike (invert f) f refl) ∙ S.symmetric f t
  where
    S : Sameness alike?
    S = alike_sameness

-- The parts of an inverse are the parts, up to inversion.
pub parts-invert : (t f : Truth) → among alike? t (parts (invert f)) ≡ among alike? t (parts f)
unfolding invert
parts-invert t (leaf b) = ap (among alike? t) (parts-leaf (not b) ∙ sym (parts-leaf b))
parts-invert t (node f g) =
    part_node t (invert f) (invert g)
    ∙ ap₂ ◌||◌ (ap₂ ◌&&◌ (ap not (same-invert f g)) (alike-invert t (node f g))) (ap₂ ◌||◌ (parts-invert t f) (parts-invert t g))
    ∙ sym (part_node t f g)

pub size-invert : (f : Truth) → size (invert f) ≡ size f
unfolding size
size-invert f = distinct-same alike? alike_sameness (parts (invert f)) (parts f) (λ t. parts-invert t f)

-- Functions that are alike have the same parts and the same size.
pub parts-alike : (t f g : Truth) → alike? f g ≡ true → among alike? t (parts f) ≡ among alike? t (parts g)
parts-alike t f g h = ⊎_elim (λ e. ap (λ u. among alike? t (parts u)) e) (λ e. ap (λ u. among alike? t (parts u)) e ∙ parts-invert t g) (alike-cases f g h)

pub size-alike : (f g : Truth) → alike? f g ≡ true → size f ≡ size g
unfolding size
size-alike f g h = distinct-same alike? alike_sameness (parts f) (parts g) (λ t. parts-alike t f g h)

-- A part of a half is a part.
pub part_low : (t f g : Truth) → among alike? t (parts f) ≡ true → among alike? t (parts (node f g)) ≡ true
part_low t f g h = part_node t f g ∙ or_right (not (same? f g) && alike? t (node f g)) _ (or_left (among alike? t (parts f)) (among alike? t (parts g)) h)

pub part_high : (t f g : Truth) → among alike? t (parts g) ≡ true → among alike? t (parts (node f g)) ≡ true
part_high t f g h = part_node t f g ∙ or_right (not (same? f g) && alike? t (node f g)) _ (or_right (among alike? t (parts f)) (among alike? t (parts g)) h)

-- A function that depends on its next input is a part of itself.
pub part_self : (f : Truth) → depends? f ≡ true → among alike? f (parts f) ≡ true
unfolding depends?
part_self (leaf b) h = clash h refl
part_self (node f g) h =
    part_node (node f g) f g ∙ or_left (not (same? f g) && alike? (node f g) (node f g)) _ (ap₂ ◌&&◌ h (equal-alike {f = node f g} refl))

-- The three ways to be a part of a node.
pub data PartOf (t f g : Truth) : Type 0 where
  itself : same? f g ≡ false → alike? t (node f g) ≡ true → PartOf t f g
  low : among alike? t (parts f) ≡ true → PartOf t f g
  high : among alike? t (parts g) ≡ true → PartOf t f g

pub part_cases : (t f g : Truth) → among alike? t (parts (node f g)) ≡ true → PartOf t f g
part_cases t f g h =
    ⊎_elim
    (λ e. itself
    (not_true (same? f g) (λ d. clash (and_left (not (same? f g)) (alike? t (node f g)) e) (ap not d)))
    (and_right (not (same? f g)) (alike? t (node f g)) e))
    (λ e. ⊎_elim low high (or_cases (among alike? t (parts f)) (among alike? t (parts g)) e))
    (or_cases (not (same? f g) && alike? t (node f g)) (among alike? t (parts f) || among alike? t (parts g)) (sym (part_node t f g) ∙ h))

-- Functions of different depths are never alike, so parts at different inputs are never the same.
pub perfect_depth : {m n : ℕ} {f : Truth} → Perfect m f → Perfect n f → m ≡ n
perfect_depth whole whole = refl
perfect_depth (halves p q) (halves u v) = ap suc (perfect_depth p u)

pub alike_depth : {m n : ℕ} {f g : Truth} → Perfect m f → Perfect n g → alike? f g ≡ true → m ≡ n
alike_depth {m} {n} {f} {g} p q h =
    ⊎_elim (λ e. perfect_depth p (rw e q)) (λ e. perfect_depth p (rw e (perfect-invert q))) (alike-cases f g h)

-- A constant has no parts.
pub parts-constant : (n : ℕ) (b : Bool) → parts (constantly n b) ≡ []
unfolding constantly
parts-constant zero b = parts-leaf b
parts-constant (suc n) b =
    parts-node (constantly n b) (constantly n b)
    ∙ rw (same-reflexive (constantly n b), parts-constant n b)

pub size-constant : (n : ℕ) (b : Bool) → size (constantly n b) ≡ 0
unfolding size distinct
size-constant n b = ap (λ l. length (distinct alike? l)) (parts-constant n b)

-- An input that a function does not depend on changes nothing in its parts.
pub parts_skip : (t f : Truth) → among alike? t (parts (node f f)) ≡ among alike? t (parts f)
parts_skip t f =
    ap (among alike? t) (parts-node f f ∙ rw (same-reflexive f)) ∙ among_append alike? t (parts f) (parts f) ∙ or_self (among alike? t (parts f))

-- An input that a function does not depend on changes nothing in its size.
pub size_skip : (f : Truth) → size (node f f) ≡ size f
unfolding size
size_skip f =
    distinct-same alike? alike_sameness (parts (node f f)) (parts f)
    (λ t. parts_skip t f)

-- The two constants differ.
pub constants_differ : (n : ℕ) → same? (constantly n false) (constantly n true) ≡ false
unfolding constantly same?
constants_differ zero = refl
constants_differ (suc n) = rw (constants_differ n)

-- An input has one part.
pub size-input : (n i : ℕ) → i < n → size (input n (suc i)) ≡ 1
unfolding input size distinct among
size-input zero i h = absurd (omega arith)
size-input (suc n) zero h = ap (λ l. length (distinct alike? l)) one
  where
    one : parts (node (constantly n false) (constantly n true)) ≡ node (constantly n false) (constantly n true) ∷ []
    one = parts-node (constantly n false) (constantly n true) ∙ rw (constants_differ n, parts-constant n false, parts-constant n true)
size-input (suc n) (suc i) h = size_skip (input n (suc i)) ∙ size-input n i (omega arith)
