-- Products that end at once, and products that go on.
use Prim.Native.Nat.{◌%◌, ◌-◌, ◌/◌, ◌≤◌, suc, zero, ℕ}
use Rattle.bdd.proofs.DiagramLaws.{canonical, cofactor-below, cofactor-reference, cofactors-differ, constant-reference, denote-constant, denote-inverse, denote-node, denote-perfect, denote-top, low-level, one-row-alike}
use Rattle.bdd.proofs.ReferenceLaws.{one-row}
use Rattle.bdd.proofs.StoreLaws.{alike-row}
use Rattle.bdd.specs.Diagram.{Canonical, Reference, cofactor, denote}
use Rattle.bdd.specs.code.Rows.{level_at}
use Rattle.bdd.specs.code.Split.{EndsAt, GoesOn, Halved}
use Rattle.bdd.specs.declared.references.Halves.{Halves}
use Rattle.truth.proofs.Booleans.{clash, not_true, or_cases, or_left, or_right}
use Rattle.truth.proofs.Equality.{agree-equal, constant-equal, constantly-constant, same-equal}
use Rattle.truth.proofs.Values.{conj-symmetric, perfect-conj, perfect-constant, perfect-invert, value-conj, value-constant, value-invert}
use Rattle.truth.specs.Parts.{alike?, depends?}
use Rattle.truth.specs.Steps.{terminal?}
use Rattle.truth.specs.Truth.{Perfect, Truth, conj, constant?, constantly, invert, node, same?, value_at}
use lib.Dec.{eqb}
use mathlib.Core.Bool.{Bool, ◌&&◌, ◌||◌, and_self, false, not, true}
use mathlib.Core.List.{List, []}
use mathlib.Core.Logic.{◌⊎◌, inl, inr, ⊎_elim}
use mathlib.Core.Path.{◌∙◌, ◌≡◌, ap, refl, sym}
use native.Mathlib.Decide.{ℕ_discrete}
use native.Mathlib.Omega.{arith}

-- Conjunctions that are known at once.
and_opposite : (x : Bool) → false ≡ not x && x
and_opposite true = refl
and_opposite false = refl

module _ {m : ℕ} {g : Truth} (q : Perfect m g) where
  conj_false : constantly m false ≡ conj (constantly m false) g
  conj_false =
      agree-equal (perfect-constant m false) (perfect-conj (perfect-constant m false) q)
      (λ s e. value-constant m false s ∙ sym (value-conj (constantly m false) g s ∙ ap (λ x. x && value_at g s) (value-constant m false s)))

  conj_true : g ≡ conj (constantly m true) g
  conj_true =
      agree-equal q (perfect-conj (perfect-constant m true) q)
      (λ s e. sym (value-conj (constantly m true) g s ∙ ap (λ x. x && value_at g s) (value-constant m true s)))

  conj-self : g ≡ conj g g
  conj-self = agree-equal q (perfect-conj q q) (λ s e. sym (value-conj g g s ∙ and_self (value_at g s)))

  conj_opposite : Perfect m (invert g) → constantly m false ≡ conj (invert g) g
  conj_opposite r =
      agree-equal (perfect-constant m false) (perfect-conj r q)
      (λ s e. value-constant m false s ∙ and_opposite (value_at g s) ∙ sym (value-conj (invert g) g s ∙ ap (λ x. x && value_at g s) (value-invert g s)))

-- The test of a product that ends.
module _ (f g : Truth) where
  ends-left : constant? f ≡ true → terminal? f g ≡ true
  unfolding terminal?
  ends-left h = or_left (constant? f || constant? g) (alike? f g) (or_left (constant? f) (constant? g) h)

  ends-right : constant? g ≡ true → terminal? f g ≡ true
  unfolding terminal?
  ends-right h = or_left (constant? f || constant? g) (alike? f g) (or_right (constant? f) (constant? g) h)

  ends-alike : alike? f g ≡ true → terminal? f g ≡ true
  unfolding terminal?
  ends-alike h = or_right (constant? f || constant? g) (alike? f g) h

  ends-cases : terminal? f g ≡ true → (constant? f ≡ true) ⊎ ((constant? g ≡ true) ⊎ (alike? f g ≡ true))
  unfolding terminal?
  ends-cases h =
      ⊎_elim
      (λ e. ⊎_elim inl (λ d. inr (inl d)) (or_cases (constant? f) (constant? g) e))
      (λ e. inr (inr e))
      (or_cases (constant? f || constant? g) (alike? f g) h)

module _ (rows : List ℕ) (m : ℕ) where
  denote_false : denote rows m 0 ≡ constantly m false
  denote_false = denote-constant rows m 0 refl

  denote_true : denote rows m 1 ≡ constantly m true
  denote_true = denote-constant rows m 1 refl

  zero_constant : constant? (denote rows m 0) ≡ true
  zero_constant = rw denote_false (constantly-constant m false)

  one-constant : constant? (denote rows m 1) ≡ true
  one-constant = rw denote_true (constantly-constant m true)

  zero_and : (g : ℕ) → denote rows m 0 ≡ conj (denote rows m 0) (denote rows m g)
  zero_and g = rw denote_false (conj_false (denote-perfect rows m g))

  one_and : (g : ℕ) → denote rows m g ≡ conj (denote rows m 1) (denote rows m g)
  one_and g = rw denote_true (conj_true (denote-perfect rows m g))

  swap : (f g : ℕ) → conj (denote rows m f) (denote rows m g) ≡ conj (denote rows m g) (denote rows m f)
  swap f g = conj-symmetric (denote rows m f) (denote rows m g)

module _ (f g : ℕ) where
  pub false_left : f ≡ 0 → EndsAt f g 0
  false_left e =
      rw e
      (record {
        terminal = λ rows n m C F G. ends-left (denote rows m 0) (denote rows m g) (zero_constant rows m);
        product = λ rows n m C F G. zero_and rows m g;
        reference = λ rows n m C F G. constant-reference rows n m 0 refl;
      })

  pub false_right : g ≡ 0 → EndsAt f g 0
  false_right e =
      rw e
      (record {
        terminal = λ rows n m C F G. ends-right (denote rows m f) (denote rows m 0) (zero_constant rows m);
        product = λ rows n m C F G. zero_and rows m f ∙ swap rows m 0 f;
        reference = λ rows n m C F G. constant-reference rows n m 0 refl;
      })

  pub true_left : f ≡ 1 → EndsAt f g g
  true_left e =
      rw e
      (record {
        terminal = λ rows n m C F G. ends-left (denote rows m 1) (denote rows m g) (one-constant rows m);
        product = λ rows n m C F G. one_and rows m g;
        reference = λ rows n m C F G. G;
      })

  pub true_right : g ≡ 1 → EndsAt f g f
  true_right e =
      rw e
      (record {
        terminal = λ rows n m C F G. ends-right (denote rows m f) (denote rows m 1) (one-constant rows m);
        product = λ rows n m C F G. one_and rows m f ∙ swap rows m 1 f;
        reference = λ rows n m C F G. F;
      })

  pub equals : f ≡ g → EndsAt f g f
  equals e =
      rw e
      (record {
        terminal = λ rows n m C F G. ends-alike (denote rows m g) (denote rows m g) (one-row-alike rows m g g refl);
        product = λ rows n m C F G. conj-self (denote-perfect rows m g);
        reference = λ rows n m C F G. F;
      })

  pub opposites : (f ≡ g → ⊥) → f / 2 ≡ g / 2 → EndsAt f g 0
  opposites d h =
      record {
        terminal = λ rows n m C F G. ends-alike (denote rows m f) (denote rows m g) (one-row-alike rows m f g h);
        product = λ rows n m C F G. denote_false rows m ∙ conj_opposite (denote-perfect rows m g) (perfect-invert (denote-perfect rows m g)) ∙ ap (λ x. conj x (denote rows m g)) (sym (inverted rows m));
        reference = λ rows n m C F G. constant-reference rows n m 0 refl;
      }
    where
      inverted : (rows : List ℕ) (m : ℕ) → denote rows m f ≡ invert (denote rows m g)
      inverted rows m = ⊎_elim (λ e. absurd (d e)) (λ e. ap (denote rows m) e ∙ denote-inverse rows m g) (one-row f g h)

-- A reference that denotes a constant is 0 or 1.
constant-row : (rows : List ℕ) (n m r : ℕ) → Canonical rows n → Reference rows n m r → constant? (denote rows m r) ≡ true → (r ≡ 0) ⊎ (r ≡ 1)
constant-row rows n m r C R h = go (value_at (denote rows m r) []) (constant-equal (denote-perfect rows m r) h)
  where
    go : (b : Bool) → denote rows m r ≡ constantly m b → (r ≡ 0) ⊎ (r ≡ 1)
    go false e = inl (canonical rows n C m r 0 R (constant-reference rows n m 0 refl) (e ∙ sym (denote_false rows m)))
    go true e = inr (canonical rows n C m r 1 R (constant-reference rows n m 1 refl) (e ∙ sym (denote_true rows m)))

pub goes_on : (f g : ℕ) → (f ≡ 0 → ⊥) → (g ≡ 0 → ⊥) → (f ≡ 1 → ⊥) → (g ≡ 1 → ⊥) → (f / 2 ≡ g / 2 → ⊥) → GoesOn f g
goes_on f g f0 g0 f1 g1 d =
    record {
      going = λ rows n m C F G. not_true (terminal? (denote rows m f) (denote rows m g))
          (λ h. ⊎_elim
          (λ e. ⊎_elim f0 f1 (constant-row rows n m f C F e))
          (λ e. ⊎_elim (λ c. ⊎_elim g0 g1 (constant-row rows n m g C G c)) (λ a. d (alike-row rows n C m f g F G a)) e)
          (ends-cases (denote rows m f) (denote rows m g) h));
    }

-- What a split gives where the product goes on: cofactors below the top level, on which one of the two depends.
pub record SplitAt (rows : List ℕ) (n m f g : ℕ) (h : Halves) : Type 0 where
  pub deep : 1 ≤ h.level
  pub within : h.level ≤ m
  pub f_top : Reference rows n h.level f
  pub g_top : Reference rows n h.level g
  pub f0-below : Reference rows n (h.level - 1) h.f0
  pub f1-below : Reference rows n (h.level - 1) h.f1
  pub g0-below : Reference rows n (h.level - 1) h.g0
  pub g1-below : Reference rows n (h.level - 1) h.g1
  pub f_node : denote rows h.level f ≡ node (denote rows (h.level - 1) h.f0) (denote rows (h.level - 1) h.f1)
  pub g_node : denote rows h.level g ≡ node (denote rows (h.level - 1) h.g0) (denote rows (h.level - 1) h.g1)
  pub depends : depends? (denote rows h.level f) || depends? (denote rows h.level g) ≡ true

-- A reference at its row's own level depends on the input there.
own-level : (rows : List ℕ) (n m r : ℕ) → Canonical rows n → Reference rows n m r → 1 ≤ m → level_at rows (r / 2) ≡ m → depends? (denote rows m r) ≡ true
unfolding depends?
own-level rows n zero r C R pos e = absurd (omega arith)
own-level rows n (suc m) r C R pos e =
    rw (denote-node rows m r)
    (ap not (not_true (same? (denote rows m (cofactor rows false (suc m) r)) (denote rows m (cofactor rows true (suc m) r)))
    (λ h. cofactors-differ rows n C m r R e
    (canonical rows n C m (cofactor rows false (suc m) r) (cofactor rows true (suc m) r) (cofactor-reference rows n C false m r R) (cofactor-reference rows n C true m r R)
    (same-equal (denote rows m (cofactor rows false (suc m) r)) (denote rows m (cofactor rows true (suc m) r)) h)))))

pub split_at_lem : (rows : List ℕ) (n m f g : ℕ) (h : Halves) → Canonical rows n → Reference rows n m f → Reference rows n m g → GoesOn f g → Halved rows f g h → SplitAt rows n m f g h
split_at_lem rows n m f g h C F G on H =
    record {
      deep = deep;
      within = omega (arith, H.level, F.fits, G.fits);
      f_top = f_top;
      g_top = g_top;
      f0-below = rw H.f0 (cofactor-below rows n C false h.level f deep f_top);
      f1-below = rw H.f1 (cofactor-below rows n C true h.level f deep f_top);
      g0-below = rw H.g0 (cofactor-below rows n C false h.level g deep g_top);
      g1-below = rw H.g1 (cofactor-below rows n C true h.level g deep g_top);
      f_node = rw (H.f0, H.f1) (denote-top rows h.level f deep);
      g_node = rw (H.g0, H.g1) (denote-top rows h.level g deep);
      depends = elim (ℕ_discrete (level_at rows (f / 2)) h.level) [
        | yes e ↦ or_left (depends? (denote rows h.level f)) (depends? (denote rows h.level g)) (own-level rows n h.level f C f_top deep e)
        | no d ↦ or_right (depends? (denote rows h.level f)) (depends? (denote rows h.level g)) (own-level rows n h.level g C g_top deep (omega (arith, H.level)))
      ];
    }
  where
    f_top : Reference rows n h.level f
    f_top = record { stored = F.stored; fits = omega (arith, H.level) }

    g_top : Reference rows n h.level g
    g_top = record { stored = G.stored; fits = omega (arith, H.level) }

    constant : f / 2 ≡ 0 → ⊥
    constant e =
        clash
        (ends-left (denote rows m f) (denote rows m g) (rw (denote-constant rows m f e) (constantly-constant m (eqb (f % 2) 1))))
        (on.going rows n m C F G)

    deep : 1 ≤ h.level
    deep =
        elim (ℕ_discrete h.level 0) [
          | yes e ↦ absurd (constant (low-level rows n C f (record { stored = F.stored; fits = omega (arith, H.level) })))
          | no d ↦ omega arith
        ]
