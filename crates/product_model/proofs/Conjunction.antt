-- The parts of a conjunction, in each of the three ways in which a run goes on.
use Prim.Native.Nat.{ℕ}
use Rattle.product_model.proofs.Members.{within_none}
use Rattle.truth.proofs.Booleans.{neither, or_cases}
use Rattle.truth.proofs.Distinct.{Within, among_append}
use Rattle.truth.proofs.Equality.{agree-equal, alike-cases, constant-equal, same-equal}
use Rattle.truth.proofs.Parts.{parts-constant, parts-node, parts_skip}
use Rattle.truth.proofs.Values.{perfect-conj, perfect-constant, value-conj, value-constant, value-invert}
use Rattle.truth.specs.Distinct.{among}
use Rattle.truth.specs.Parts.{alike?, depends?, parts}
use Rattle.truth.specs.Steps.{terminal?}
use Rattle.truth.specs.Truth.{Perfect, Setting, Truth, conj, constant?, constantly, invert, leaf, node, same?, value_at}
use borrow.Author.Tests.{not-false}
use mathlib.Core.Bool.{Bool, ◌&&◌, ◌||◌, and_comm, and-false, and-not_self, and_self, and-true, cond, false, not, or_comm, or-false, true}
use mathlib.Core.List.{List, [], ◌++◌, ◌∷◌, append-nil}
use mathlib.Core.Logic.{⊎_elim}
use mathlib.Core.Path.{◌∙◌, ◌≡◌, ap, ap₂, refl, sym}

-- What the conjunction of a terminal pair is.
pub data Ends (m : ℕ) (f g : Truth) : Type 0 where
  first : conj f g ≡ f → Ends m f g
  second : conj f g ≡ g → Ends m f g
  never : conj f g ≡ constantly m false → Ends m f g

constant-value : (m : ℕ) {f : Truth} {b : Bool} → f ≡ constantly m b → (s : Setting) → value_at f s ≡ b
constant-value m {b = b} e s = ap (λ t. value_at t s) e ∙ value-constant m b s

module _ {m : ℕ} {f g : Truth} (p : Perfect m f) (q : Perfect m g) where
  -- The conjunction is any function with its values.
  conj-is : {h : Truth} → Perfect m h → ((s : Setting) → value_at f s && value_at g s ≡ value_at h s) → conj f g ≡ h
  conj-is r e = agree-equal (perfect-conj p q) r (λ s l. value-conj f g s ∙ e s)

  conj_never : ((s : Setting) → value_at f s && value_at g s ≡ false) → Ends m f g
  conj_never e = never (conj-is (perfect-constant m false) (λ s. e s ∙ sym (value-constant m false s)))

  constant-first : (b : Bool) → f ≡ constantly m b → Ends m f g
  constant-first true e = second (conj-is q (λ s. ap (λ x. x && value_at g s) (constant-value m e s)))
  constant-first false e = conj_never (λ s. ap (λ x. x && value_at g s) (constant-value m e s))

  constant-second : (b : Bool) → g ≡ constantly m b → Ends m f g
  constant-second true e = first (conj-is p (λ s. ap (◌&&◌ (value_at f s)) (constant-value m e s) ∙ and-true (value_at f s)))
  constant-second false e = conj_never (λ s. ap (◌&&◌ (value_at f s)) (constant-value m e s) ∙ and-false (value_at f s))

  equal-pair : f ≡ g → Ends m f g
  equal-pair e = first (conj-is p (λ s. ap (λ t. value_at f s && value_at t s) (sym e) ∙ and_self (value_at f s)))

  inverse-pair : f ≡ invert g → Ends m f g
  inverse-pair e =
      conj_never
      (λ s. ap (λ x. x && value_at g s) (ap (λ t. value_at t s) e ∙ value-invert g s) ∙ and_comm (not (value_at g s)) (value_at g s) ∙ and-not_self (value_at g s))

  pub terminal-ends : terminal? f g ≡ true → Ends m f g
  unfolding terminal?
  terminal-ends h =
      ⊎_elim
      (λ d. ⊎_elim
      (λ e. constant-first (value_at f []) (constant-equal p e))
      (λ e. constant-second (value_at g []) (constant-equal q e))
      (or_cases (constant? f) (constant? g) d))
      (λ d. ⊎_elim equal-pair inverse-pair (alike-cases f g d))
      (or_cases (constant? f || constant? g) (alike? f g) h)

-- A store with the parts of both functions of a terminal pair has those of their conjunction.
pub terminal-stored : {m : ℕ} {f g : Truth} → Perfect m f → Perfect m g → terminal? f g ≡ true
    → (store : List Truth) → Within alike? (parts f) store → Within alike? (parts g) store → Within alike? (parts (conj f g)) store
terminal-stored {m} {f} {g} p q h store v w = go (terminal-ends p q h)
  where
    go : Ends m f g → Within alike? (parts (conj f g)) store
    go (first e) = rw e v
    go (second e) = rw e w
    go (never e) = rw (e, parts-constant m false) (within_none alike? store)

pub terminal-leaves : (x y : Bool) → terminal? (leaf x) (leaf y) ≡ true
unfolding terminal? constant?
terminal-leaves x y = refl

independent : (f g : Truth) → depends? (node f g) ≡ false → f ≡ g
unfolding depends?
independent f g e = same-equal f g (not-false (same? f g) e)

-- An input that neither function depends on adds no part to their conjunction.
pub parts-passed : (f₀ f₁ g₀ g₁ : Truth) → depends? (node f₀ f₁) || depends? (node g₀ g₁) ≡ false
    → (t : Truth) → among alike? t (parts (conj f₀ g₀)) ≡ among alike? t (parts (node (conj f₀ g₀) (conj f₁ g₁)))
parts-passed f₀ f₁ g₀ g₁ e t =
    let n = neither (depends? (node f₀ f₁)) (depends? (node g₀ g₁)) e in
    sym (parts_skip t (conj f₀ g₀))
    ∙ ap (λ h. among alike? t (parts (node (conj f₀ g₀) h))) (ap₂ conj (independent f₀ f₁ n.0) (independent g₀ g₁ n.1))

-- The parts of a function in the order in which a run makes their rows: those of the halves, then the function itself.
pub parts-made : (t low high : Truth)
    → among alike? t ((parts low ++ parts high) ++ cond (same? low high) [] (node low high ∷ [])) ≡ among alike? t (parts (node low high))
unfolding among
parts-made t low high = rw (parts-node low high) (go (same? low high))
  where
    both : List Truth
    both = parts low ++ parts high

    go : (b : Bool) → among alike? t (both ++ cond b [] (node low high ∷ [])) ≡ among alike? t (cond b both (node low high ∷ both))
    go true = ap (among alike? t) (append-nil both)
    go false =
        among_append alike? t both (node low high ∷ [])
        ∙ or_comm (among alike? t both) (alike? t (node low high) || false)
        ∙ ap (λ x. x || among alike? t both) (or-false (alike? t (node low high)))
