-- The function of a reference: inversion, skipped levels, canonicity, and rows added above.
use Prim.Native.Nat.{◌%◌, ◌+◌, ◌-◌, ◌/◌, ◌≤◌, suc, zero, ℕ}
use Rattle.bdd.proofs.ReferenceLaws.{edge-bit, edge_even, edge_injective, edge-inverse, edge_parity, edge_row, edge_same, one-row, parity, reference-equal}
use Rattle.bdd.proofs.RowsLaws.{level-constant, level-row, suc_pred}
use Rattle.bdd.specs.Diagram.{Canonical, Reference, Row, cofactor, denote, edge, inverse}
use Rattle.bdd.specs.code.Rows.{child, high_at, level_at, low_at}
use Rattle.bdd.specs.code.Store.{Agree}
use Rattle.truth.proofs.Equality.{equal-alike, inverse-alike}
use Rattle.truth.specs.Parts.{alike?}
use Rattle.truth.specs.Truth.{Perfect, Truth, constantly, halves, invert, leaf, node, value_at, whole}
use borrow.Author.Tests.{eq-eqb, eqb-false, eqb-true, ne_eqb}
use lib.Dec.{eqb}
use mathlib.Core.Bool.{Bool, cond, false, not, true}
use mathlib.Core.List.{List, []}
use mathlib.Core.Logic.{⊎_elim}
use mathlib.Core.Path.{◌∙◌, ◌≡◌, ap, ap₂, refl, sym}
use native.Mathlib.Decide.{ℕ_discrete}
use native.Mathlib.Omega.{arith}

-- The two cases of a cofactor.
pub cofactor-hit : (rows : List ℕ) (b : Bool) (m r : ℕ) → level_at rows (r / 2) ≡ m → cofactor rows b m r ≡ edge (child rows b (r / 2)) r
unfolding cofactor
cofactor-hit rows b m r h = rw (eq-eqb (level_at rows (r / 2)) m h)

pub cofactor_miss : (rows : List ℕ) (b : Bool) (m r : ℕ) → (level_at rows (r / 2) ≡ m → ⊥) → cofactor rows b m r ≡ r
unfolding cofactor
cofactor_miss rows b m r h = rw (ne_eqb (level_at rows (r / 2)) m h)

cofactor-inverse : (rows : List ℕ) (b : Bool) (m r : ℕ) → cofactor rows b m (inverse r) ≡ inverse (cofactor rows b m r)
unfolding cofactor
cofactor-inverse rows b m r = rw (edge_row r 1) (go (eqb (level_at rows (r / 2)) m))
  where
    go : (x : Bool) → cond x (edge (child rows b (r / 2)) (inverse r)) (inverse r) ≡ inverse (cond x (edge (child rows b (r / 2)) r) r)
    go true = edge-inverse (child rows b (r / 2)) r
    go false = refl

odd_inverse : (r e : ℕ) → e % 2 ≡ (r + 1) % 2 → eqb (e % 2) 1 ≡ not (eqb (r % 2) 1)
odd_inverse r e h =
    ⊎_elim
    (λ (k : r % 2 ≡ 0). rw (k, eq-eqb (e % 2) 1 (omega arith)))
    (λ (k : r % 2 ≡ 1). rw (k, ne_eqb (e % 2) 1 (omega arith)))
    (parity r)

same_parity : (r q : ℕ) → eqb (r % 2) 1 ≡ eqb (q % 2) 1 → r % 2 ≡ q % 2
same_parity r q e =
    elim (ℕ_discrete (r % 2) 1) [
      | yes a ↦ a ∙ sym (eqb-true (q % 2) 1 (sym e ∙ eq-eqb (r % 2) 1 a))
      | no a ↦ let h : q % 2 ≡ 1 → ⊥ = eqb-false (q % 2) 1 (sym e ∙ ne_eqb (r % 2) 1 a) in omega arith
    ]

pub node-low : {a b c d : Truth} → node a b ≡ node c d → a ≡ c
node-low e = cc

pub node-high : {a b c d : Truth} → node a b ≡ node c d → b ≡ d
node-high e = cc

module _ (rows : List ℕ) where
  pub denote-node : (m r : ℕ) → denote rows (suc m) r ≡ node (denote rows m (cofactor rows false (suc m) r)) (denote rows m (cofactor rows true (suc m) r))
  unfolding denote
  denote-node m r = refl

  pub denote-top : (m r : ℕ) → 1 ≤ m → denote rows m r ≡ node (denote rows (m - 1) (cofactor rows false m r)) (denote rows (m - 1) (cofactor rows true m r))
  denote-top zero r h = absurd (omega arith)
  denote-top (suc m) r h = rw (suc_pred m) (denote-node m r)

  -- A reference of m inputs denotes a function of m inputs.
  pub denote-perfect : (m r : ℕ) → Perfect m (denote rows m r)
  unfolding denote
  denote-perfect zero r = whole
  denote-perfect (suc m) r = halves (denote-perfect m (cofactor rows false (suc m) r)) (denote-perfect m (cofactor rows true (suc m) r))

  -- The inverted reference denotes the inverted function.
  pub denote-inverse : (m r : ℕ) → denote rows m (inverse r) ≡ invert (denote rows m r)
  unfolding denote invert
  denote-inverse zero r = ap leaf (odd_inverse r (inverse r) (edge-bit r 1))
  denote-inverse (suc m) r =
      ap₂ node
      (ap (denote rows m) (cofactor-inverse rows false (suc m) r) ∙ denote-inverse m (cofactor rows false (suc m) r))
      (ap (denote rows m) (cofactor-inverse rows true (suc m) r) ∙ denote-inverse m (cofactor rows true (suc m) r))

  -- A function does not depend on an input above its row's level.
  pub denote_skip : (m r : ℕ) → level_at rows (r / 2) ≤ m → denote rows (suc m) r ≡ node (denote rows m r) (denote rows m r)
  unfolding denote
  denote_skip m r h =
      ap₂ node
      (ap (denote rows m) (cofactor_miss rows false (suc m) r (omega arith)))
      (ap (denote rows m) (cofactor_miss rows true (suc m) r (omega arith)))

  -- "So 0 is false and 1 is true": the references of row 0 denote the constants.
  pub denote-constant : (m r : ℕ) → r / 2 ≡ 0 → denote rows m r ≡ constantly m (eqb (r % 2) 1)
  unfolding denote constantly
  denote-constant zero r e = refl
  denote-constant (suc m) r e =
      let l : level_at rows (r / 2) ≡ 0 = ap (level_at rows) e ∙ level-constant rows in
      ap₂ node
      (ap (denote rows m) (cofactor_miss rows false (suc m) r (omega arith)) ∙ denote-constant m r e)
      (ap (denote rows m) (cofactor_miss rows true (suc m) r (omega arith)) ∙ denote-constant m r e)

  -- References of one row denote equal or inverse functions.
  pub one-row-alike : (m r q : ℕ) → r / 2 ≡ q / 2 → alike? (denote rows m r) (denote rows m q) ≡ true
  one-row-alike m r q e =
      ⊎_elim
      (λ h. equal-alike (ap (denote rows m) h))
      (λ h. inverse-alike (denote rows m r) (denote rows m q) (ap (denote rows m) h ∙ denote-inverse m q))
      (one-row r q e)

pub inverse-reference : {rows : List ℕ} {n m r : ℕ} → Reference rows n m r → Reference rows n m (inverse r)
inverse-reference {r = r} R = record { stored = rw (edge_row r 1) R.stored; fits = rw (edge_row r 1) R.fits }

pub constant-reference : (rows : List ℕ) (n m r : ℕ) → r / 2 ≡ 0 → Reference rows n m r
constant-reference rows n m r e = record { stored = rw e (omega arith); fits = rw (e, level-constant rows) (omega arith) }

pub reference-more : {rows : List ℕ} {n m k r : ℕ} → Reference rows n m r → m ≤ k → Reference rows n k r
reference-more R le = record { stored = R.stored; fits = omega (arith, R.fits) }

module _ (rows : List ℕ) (n : ℕ) (C : Canonical rows n) where
  pub row_of : (r : ℕ) → 1 ≤ level_at rows (r / 2) → r / 2 ≤ n → Row rows (r / 2)
  row_of r h k = C.row (r / 2) (level-row rows (r / 2) h) k

  -- Cofactors go down and stay among the rows.
  pub cofactor-reference : (b : Bool) (m r : ℕ) → Reference rows n (suc m) r → Reference rows n m (cofactor rows b (suc m) r)
  cofactor-reference b m r R = elim (ℕ_discrete (level_at rows (r / 2)) (suc m)) [ yes e ↦ hit e | no d ↦ miss d ]
    where
      hit : level_at rows (r / 2) ≡ suc m → Reference rows n m (cofactor rows b (suc m) r)
      hit e =
          let w : Row rows (r / 2) = row_of r (omega arith) R.stored in
          let k : edge (child rows b (r / 2)) r / 2 ≡ child rows b (r / 2) / 2 = edge_row (child rows b (r / 2)) r in
          rw (cofactor-hit rows b (suc m) r e)
          (record { stored = rw k (omega (arith, R.stored, w.earlier b)); fits = rw k (omega (arith, w.lower b)) })

      miss : (level_at rows (r / 2) ≡ suc m → ⊥) → Reference rows n m (cofactor rows b (suc m) r)
      miss d = rw (cofactor_miss rows b (suc m) r d) (record { stored = R.stored; fits = omega (arith, R.fits) })

  pub cofactor-below : (b : Bool) (m r : ℕ) → 1 ≤ m → Reference rows n m r → Reference rows n (m - 1) (cofactor rows b m r)
  cofactor-below b zero r h R = absurd (omega arith)
  cofactor-below b (suc m) r h R = rw (suc_pred m) (cofactor-reference b m r R)

  -- A row's cofactors differ.
  pub cofactors-differ : (m r : ℕ) → Reference rows n (suc m) r → level_at rows (r / 2) ≡ suc m → cofactor rows false (suc m) r ≡ cofactor rows true (suc m) r → ⊥
  cofactors-differ m r R h e =
      (row_of r (omega arith) R.stored).differ
      (edge_injective (low_at rows (r / 2)) (high_at rows (r / 2)) r (sym (cofactor-hit rows false (suc m) r h) ∙ e ∙ cofactor-hit rows true (suc m) r h))

  pub low-level : (r : ℕ) → Reference rows n 0 r → r / 2 ≡ 0
  low-level r R = go (r / 2) R.stored R.fits
    where
      go : (i : ℕ) → i ≤ n → level_at rows i ≤ 0 → i ≡ 0
      go zero h l = refl
      go (suc i) h l = absurd (omega (arith, (C.row (suc i) (omega arith) h).deep))

  same-cofactors : (m r q : ℕ) → Reference rows n (suc m) r → Reference rows n (suc m) q
      → ((b : Bool) → cofactor rows b (suc m) r ≡ cofactor rows b (suc m) q) → r ≡ q
  same-cofactors m r q R Q e =
      elim (ℕ_discrete (level_at rows (r / 2)) (suc m)) [
        | yes h ↦
            elim (ℕ_discrete (level_at rows (q / 2)) (suc m)) [
              | yes k ↦ both h k
              | no k ↦ absurd (cofactors-differ m r R h (e false ∙ cofactor_miss rows false (suc m) q k ∙ sym (cofactor_miss rows true (suc m) q k) ∙ sym (e true)))
            ]
        | no h ↦
            elim (ℕ_discrete (level_at rows (q / 2)) (suc m)) [
              | yes k ↦ absurd (cofactors-differ m q Q k (sym (e false) ∙ cofactor_miss rows false (suc m) r h ∙ sym (cofactor_miss rows true (suc m) r h) ∙ e true))
              | no k ↦ sym (cofactor_miss rows false (suc m) r h) ∙ e false ∙ cofactor_miss rows false (suc m) q k
            ]
      ]
    where
      both : level_at rows (r / 2) ≡ suc m → level_at rows (q / 2) ≡ suc m → r ≡ q
      both h k =
          let w : Row rows (r / 2) = row_of r (omega arith) R.stored in
          let v : Row rows (q / 2) = row_of q (omega arith) Q.stored in
          reference-equal r q
          (C.once (r / 2) (q / 2) (omega (arith, w.earlier false)) R.stored (omega (arith, v.earlier false)) Q.stored (h ∙ sym k) (children (bit w v)))
          (bit w v)
        where
          met : (b : Bool) → edge (child rows b (r / 2)) r ≡ edge (child rows b (q / 2)) q
          met b = sym (cofactor-hit rows b (suc m) r h) ∙ e b ∙ cofactor-hit rows b (suc m) q k

          bit : Row rows (r / 2) → Row rows (q / 2) → r % 2 ≡ q % 2
          bit w v = edge_parity (low_at rows (r / 2)) (low_at rows (q / 2)) r q w.plain v.plain (met false)

          children : r % 2 ≡ q % 2 → (b : Bool) → child rows b (r / 2) ≡ child rows b (q / 2)
          children p b = edge_injective (child rows b (r / 2)) (child rows b (q / 2)) r (met b ∙ sym (edge_same (child rows b (q / 2)) r q p))

  -- References that denote the same function are the same reference.
  pub canonical : (m r q : ℕ) → Reference rows n m r → Reference rows n m q → denote rows m r ≡ denote rows m q → r ≡ q
  unfolding denote
  canonical zero r q R Q e = reference-equal r q (low-level r R ∙ sym (low-level q Q)) (same_parity r q (cc))
  canonical (suc m) r q R Q e = same-cofactors m r q R Q (half (canonical m) (node-low e) (node-high e))
    where
      half : ((r q : ℕ) → Reference rows n m r → Reference rows n m q → denote rows m r ≡ denote rows m q → r ≡ q)
          → denote rows m (cofactor rows false (suc m) r) ≡ denote rows m (cofactor rows false (suc m) q)
          → denote rows m (cofactor rows true (suc m) r) ≡ denote rows m (cofactor rows true (suc m) q)
          → (b : Bool) → cofactor rows b (suc m) r ≡ cofactor rows b (suc m) q
      half ih l h false = ih (cofactor rows false (suc m) r) (cofactor rows false (suc m) q) (cofactor-reference false m r R) (cofactor-reference false m q Q) l
      half ih l h true = ih (cofactor rows true (suc m) r) (cofactor rows true (suc m) q) (cofactor-reference true m r R) (cofactor-reference true m q Q) h

  -- References that denote inverse functions are inverse references.
  pub canonical-inverse : (m r q : ℕ) → Reference rows n m r → Reference rows n m q → denote rows m r ≡ invert (denote rows m q) → r ≡ inverse q
  canonical-inverse m r q R Q e = canonical m r (inverse q) R (inverse-reference Q) (e ∙ sym (denote-inverse rows m q))

  -- A reference that is not inverted denotes a function that is false where all inputs are 0.
  pub denote_zero : (m r : ℕ) → Reference rows n m r → r % 2 ≡ 0 → value_at (denote rows m r) [] ≡ false
  unfolding denote value_at
  denote_zero zero r R h = rw h
  denote_zero (suc m) r R h =
      denote_zero m (cofactor rows false (suc m) r) (cofactor-reference false m r R)
      (elim (ℕ_discrete (level_at rows (r / 2)) (suc m)) [
        | yes e ↦ ap (λ x. x % 2) (cofactor-hit rows false (suc m) r e ∙ edge_even (low_at rows (r / 2)) r h) ∙ (row_of r (omega arith) R.stored).plain
        | no d ↦ ap (λ x. x % 2) (cofactor_miss rows false (suc m) r d) ∙ h
      ])

  -- Rows whose levels and edges agree up to n denote the same functions, whatever is added above.
  module _ (t : List ℕ) (A : Agree rows t n) where
    cofactor-agree : (b : Bool) (m r : ℕ) → r / 2 ≤ n → cofactor t b m r ≡ cofactor rows b m r
    unfolding cofactor
    cofactor-agree b m r h = rw (A.levels (r / 2) h, A.children b (r / 2) h)

    cofactor-stored : (b : Bool) (m r : ℕ) → r / 2 ≤ n → cofactor rows b (suc m) r / 2 ≤ n
    cofactor-stored b m r h =
        elim (ℕ_discrete (level_at rows (r / 2)) (suc m)) [
          | yes e ↦ rw (cofactor-hit rows b (suc m) r e, edge_row (child rows b (r / 2)) r) (omega (arith, (row_of r (omega arith) h).earlier b))
          | no e ↦ rw (cofactor_miss rows b (suc m) r e) h
        ]

    pub frame : (m r : ℕ) → r / 2 ≤ n → denote t m r ≡ denote rows m r
    unfolding denote
    frame zero r h = refl
    frame (suc m) r h =
        ap₂ node
        (ap (denote t m) (cofactor-agree false (suc m) r h) ∙ frame m (cofactor rows false (suc m) r) (cofactor-stored false m r h))
        (ap (denote t m) (cofactor-agree true (suc m) r h) ∙ frame m (cofactor rows true (suc m) r) (cofactor-stored true m r h))

    pub frame-reference : {m r : ℕ} → Reference rows n m r → Reference t n m r
    frame-reference {r = r} R = record { stored = R.stored; fits = rw (A.levels (r / 2) R.stored) R.fits }
