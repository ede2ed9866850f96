-- The functions of the rows: each a part, no two alike, one for each row reached.
use Prim.Native.Nat.{◌*◌, ◌-◌, ◌/◌, ◌<◌, ◌≤◌, suc, zero, ℕ}
use Rattle.bdd.proofs.DiagramLaws.{canonical, canonical-inverse, cofactor-hit, denote-inverse, denote-node, denote-perfect, denote_skip, denote_zero, frame, inverse-reference, one-row-alike}
use Rattle.bdd.proofs.ReferenceLaws.{double_even, double_row, edge_even, edge_row}
use Rattle.bdd.proofs.RowsLaws.{child-constant, level-constant}
use Rattle.bdd.specs.Diagram.{Canonical, Reach, Reference, along, arrived, cofactor, denote, edge, inverse, row_function, store_of}
use Rattle.bdd.specs.code.Rows.{child, high_at, level_at, low_at}
use Rattle.bdd.specs.code.Store.{Agree}
use Rattle.truth.proofs.Booleans.{clash, not_true, or_cases, or_left, or_right}
use Rattle.truth.proofs.Distinct.{apart_distinct, distinct-same}
use Rattle.truth.proofs.Equality.{alike-cases, same-equal}
use Rattle.truth.proofs.Parts.{PartOf, alike_depth, alike_sameness, high, itself, low, part_cases, part_high, part_low, part_self, parts-alike, parts-leaf, parts_skip}
use Rattle.truth.specs.Distinct.{among, apart}
use Rattle.truth.specs.Parts.{alike?, all_parts, depends?, parts, together}
use Rattle.truth.specs.Truth.{Truth, node, same?, value_at}
use lib.ListN.{length}
use mathlib.Core.Bool.{Bool, false, not, true}
use mathlib.Core.List.{List, [], ◌∷◌}
use mathlib.Core.Logic.{◌⊎◌, inl, inr, ⊎_elim}
use mathlib.Core.Path.{◌∙◌, ◌≡◌, ap, ap₂, refl, subst, sym}
use native.Mathlib.Decide.{le_ind, ℕ_discrete}
use native.Mathlib.Omega.{arith}

-- The parts of a reference's function are those of its row's.
pub parts-reference : (rows : List ℕ) (t : Truth) (r m : ℕ) → level_at rows (r / 2) ≤ m
    → among alike? t (parts (denote rows m r)) ≡ among alike? t (parts (row_function rows (r / 2)))
unfolding row_function
parts-reference rows t r =
    le_ind (λ (m : ℕ). among alike? t (parts (denote rows m r)) ≡ among alike? t (parts (row_function rows (r / 2))))
    (parts-alike t (denote rows (level_at rows (r / 2)) r) (denote rows (level_at rows (r / 2)) (r / 2 * 2))
    (one-row-alike rows (level_at rows (r / 2)) r (r / 2 * 2) (sym (double_row (r / 2)))))
    (λ m le ih. ap (λ f. among alike? t (parts f)) (denote_skip rows m r le) ∙ parts_skip t (denote rows m r) ∙ ih)

-- The constant's function has no parts.
pub constant-parts : {A : Type 0} (rows : List ℕ) (t : Truth) → among alike? t (parts (row_function rows 0)) ≡ true → A
unfolding row_function denote among
constant-parts rows t h = clash (rw (level-constant rows) at h) (ap (among alike? t) (parts-leaf false))

-- Whether t is the function of one of the rows 1 to n, or its inverse.
pub record Stored (rows : List ℕ) (n : ℕ) (t : Truth) : Type 0 where
  pub row : ℕ
  pub pos : 1 ≤ row
  pub here : row ≤ n
  pub is : alike? t (row_function rows row) ≡ true

pub among-stored : (rows : List ℕ) (n : ℕ) (t : Truth) → among alike? t (store_of rows n) ≡ true → Stored rows n t
unfolding store_of among
among-stored rows zero t h = clash h refl
among-stored rows (suc n) t h =
    ⊎_elim
    (λ a. record { row = suc n; pos = omega arith; here = omega arith; is = a })
    (λ a. let S = among-stored rows n t a in record { row = S.row; pos = S.pos; here = omega (arith, S.here); is = S.is })
    (or_cases (alike? t (row_function rows (suc n))) (among alike? t (store_of rows n)) h)

pub stored-among : (rows : List ℕ) (n : ℕ) (t : Truth) (i : ℕ) → 1 ≤ i → i ≤ n → alike? t (row_function rows i) ≡ true → among alike? t (store_of rows n) ≡ true
unfolding store_of among
stored-among rows zero t i pos le h = absurd (omega arith)
stored-among rows (suc n) t i pos le h =
    elim (ℕ_discrete i (suc n)) [
      | yes e ↦ or_left (alike? t (row_function rows (suc n))) (among alike? t (store_of rows n)) (rw e at h)
      | no d ↦ or_right (alike? t (row_function rows (suc n))) (among alike? t (store_of rows n)) (stored-among rows n t i pos (omega arith) h)
    ]

-- A store of n rows has n functions.
pub store_length : (rows : List ℕ) (n : ℕ) → length (store_of rows n) ≡ n
unfolding store_of
store_length rows zero = refl
store_length rows (suc n) = ap suc (store_length rows n)

pub row-reference : (rows : List ℕ) (n i : ℕ) → i ≤ n → Reference rows n (level_at rows i) (i * 2)
row-reference rows n i le = record { stored = rw (double_row i) le; fits = rw (double_row i) (omega arith) }

-- Where the functions are alike, so are the rows one: two references have one row exactly where their functions are equal or inverse.
pub alike-row : (rows : List ℕ) (n : ℕ) → Canonical rows n → (m r q : ℕ) → Reference rows n m r → Reference rows n m q
    → alike? (denote rows m r) (denote rows m q) ≡ true → r / 2 ≡ q / 2
alike-row rows n C m r q R Q h =
    ⊎_elim
    (λ e. ap (λ x. x / 2) (canonical rows n C m r q R Q e))
    (λ e. ap (λ x. x / 2) (canonical-inverse rows n C m r q R Q e) ∙ edge_row q 1)
    (alike-cases (denote rows m r) (denote rows m q) h)

module _ (rows : List ℕ) (n : ℕ) (C : Canonical rows n) where
  -- No two rows have functions that are alike.
  pub rows_apart : (i j : ℕ) → i ≤ n → j ≤ n → alike? (row_function rows i) (row_function rows j) ≡ true → i ≡ j
  unfolding row_function
  rows_apart i j li lj h =
      let d : level_at rows i ≡ level_at rows j = alike_depth (denote-perfect rows (level_at rows i) (i * 2)) (denote-perfect rows (level_at rows j) (j * 2)) h in
      sym (double_row i)
      ∙ alike-row rows n C (level_at rows j) (i * 2) (j * 2)
      (subst (λ (x : ℕ). Reference rows n x (i * 2)) d (row-reference rows n i li))
      (row-reference rows n j lj)
      (subst (λ (x : ℕ). alike? (denote rows x (i * 2)) (denote rows (level_at rows j) (j * 2)) ≡ true) d h)
      ∙ double_row j

  pub store_apart : (k : ℕ) → k ≤ n → apart alike? (store_of rows k) ≡ true
  unfolding store_of apart
  store_apart zero le = refl
  store_apart (suc k) le = rw (fresh k le) (store_apart k (omega arith))
    where
      fresh : (k : ℕ) → suc k ≤ n → among alike? (row_function rows (suc k)) (store_of rows k) ≡ false
      fresh k le =
          not_true (among alike? (row_function rows (suc k)) (store_of rows k))
          (λ h. let S = among-stored rows k (row_function rows (suc k)) h in
          let e : suc k ≡ S.row = rows_apart (suc k) S.row le (omega (arith, S.here)) S.is in
          omega (arith, S.here))

  -- A row's function is false where all inputs are 0.
  pub row_zero : (i : ℕ) → i ≤ n → value_at (row_function rows i) [] ≡ false
  unfolding row_function
  row_zero i le = denote_zero rows n C (level_at rows i) (i * 2) (row-reference rows n i le) (double_even i)

  -- A row's function has its own children's functions as halves.
  module _ (i : ℕ) (pos : 1 ≤ i) (le : i ≤ n) where
    pub row-node : (m : ℕ) → level_at rows i ≡ suc m → row_function rows i ≡ node (denote rows m (low_at rows i)) (denote rows m (high_at rows i))
    unfolding row_function
    row-node m top =
        ap (λ x. denote rows x (i * 2)) top
        ∙ denote-node rows m (i * 2)
        ∙ ap₂ node (ap (denote rows m) (half false)) (ap (denote rows m) (half true))
      where
        half : (b : Bool) → cofactor rows b (suc m) (i * 2) ≡ child rows b i
        half b =
            cofactor-hit rows b (suc m) (i * 2) (ap (level_at rows) (double_row i) ∙ top)
            ∙ ap (λ x. edge (child rows b x) (i * 2)) (double_row i)
            ∙ edge_even (child rows b i) (i * 2) (double_even i)

    deep : level_at rows i ≡ suc (level_at rows i - 1)
    deep = omega (arith, (C.row i pos le).deep)

    below : (b : Bool) → level_at rows (child rows b i / 2) ≤ level_at rows i - 1
    below b = omega (arith, (C.row i pos le).lower b)

    pub row-depends : depends? (row_function rows i) ≡ true
    unfolding depends?
    row-depends =
        rw (row-node (level_at rows i - 1) deep)
        (ap not (not_true (same? (denote rows (level_at rows i - 1) (low_at rows i)) (denote rows (level_at rows i - 1) (high_at rows i)))
        (λ h. (C.row i pos le).differ
        (canonical rows n C (level_at rows i - 1) (low_at rows i) (high_at rows i) (half false) (half true)
        (same-equal (denote rows (level_at rows i - 1) (low_at rows i)) (denote rows (level_at rows i - 1) (high_at rows i)) h)))))
      where
        half : (b : Bool) → Reference rows n (level_at rows i - 1) (child rows b i)
        half b = record { stored = omega (arith, (C.row i pos le).earlier b); fits = below b }

    pub part_child : (t : Truth) (b : Bool) → among alike? t (parts (row_function rows (child rows b i / 2))) ≡ true → among alike? t (parts (row_function rows i)) ≡ true
    part_child t false h =
        rw (row-node (level_at rows i - 1) deep)
        (part_low t (denote rows (level_at rows i - 1) (low_at rows i)) (denote rows (level_at rows i - 1) (high_at rows i))
        (parts-reference rows t (low_at rows i) (level_at rows i - 1) (below false) ∙ h))
    part_child t true h =
        rw (row-node (level_at rows i - 1) deep)
        (part_high t (denote rows (level_at rows i - 1) (low_at rows i)) (denote rows (level_at rows i - 1) (high_at rows i))
        (parts-reference rows t (high_at rows i) (level_at rows i - 1) (below true) ∙ h))

    -- A part of a row's function is that function or a part of a child's.
    pub part_row : (t : Truth) → among alike? t (parts (row_function rows i)) ≡ true
        → (alike? t (row_function rows i) ≡ true) ⊎ ((b : Bool) × (among alike? t (parts (row_function rows (child rows b i / 2))) ≡ true))
    part_row t h =
        rw (row-node (level_at rows i - 1) deep) (go (part_cases t (denote rows (level_at rows i - 1) (low_at rows i)) (denote rows (level_at rows i - 1) (high_at rows i)) (rw (row-node (level_at rows i - 1) deep) at h)))
      where
        go : PartOf t (denote rows (level_at rows i - 1) (low_at rows i)) (denote rows (level_at rows i - 1) (high_at rows i))
            → (alike? t (node (denote rows (level_at rows i - 1) (low_at rows i)) (denote rows (level_at rows i - 1) (high_at rows i))) ≡ true)
            ⊎ ((b : Bool) × (among alike? t (parts (row_function rows (child rows b i / 2))) ≡ true))
        go (itself d e) = inl e
        go (low e) = inr (false, sym (parts-reference rows t (low_at rows i) (level_at rows i - 1) (below false)) ∙ e)
        go (high e) = inr (true, sym (parts-reference rows t (high_at rows i) (level_at rows i - 1) (below true)) ∙ e)

  -- A row that is reached is a part, and each part is a row that is reached.
  pub reach_earlier : {i j : ℕ} → Reach rows i j → i ≤ n → j ≤ i
  reach_earlier arrived le = omega arith
  reach_earlier (along {i = i} {j = j} b p) le =
      elim (ℕ_discrete i 0) [
        | yes e ↦ (let z : child rows b i / 2 ≡ 0 = ap (λ x. child rows b x / 2) e ∙ child-constant rows b in omega (arith, reach_earlier p (omega arith)))
        | no d ↦ (let w : child rows b i / 2 < i = (C.row i (omega arith) le).earlier b in omega (arith, reach_earlier p (omega arith)))
      ]

  pub reach_part : {i j : ℕ} → Reach rows i j → i ≤ n → 1 ≤ j → among alike? (row_function rows j) (parts (row_function rows i)) ≡ true
  reach_part (arrived {i = i}) le pos = part_self (row_function rows i) (row-depends i pos le)
  reach_part (along {i = i} {j = j} b p) le pos =
      elim (ℕ_discrete i 0) [
        | yes e ↦ (let z : child rows b i / 2 ≡ 0 = ap (λ x. child rows b x / 2) e ∙ child-constant rows b in absurd (omega (arith, reach_earlier p (omega arith))))
        | no d ↦ (let w : child rows b i / 2 < i = (C.row i (omega arith) le).earlier b in part_child i (omega arith) le (row_function rows j) b (reach_part p (omega arith) pos))
      ]

-- A row that is reached from row i and whose function is t or its inverse.
pub record Reached (rows : List ℕ) (i : ℕ) (t : Truth) : Type 0 where
  pub row : ℕ
  pub pos : 1 ≤ row
  pub reach : Reach rows i row
  pub is : alike? t (row_function rows row) ≡ true

pub part_reach : (rows : List ℕ) (n : ℕ) → Canonical rows n → (t : Truth) (i : ℕ) → i ≤ n → among alike? t (parts (row_function rows i)) ≡ true → Reached rows i t
part_reach rows n C t i le = go i i (omega arith) le
  where
    go : (k i : ℕ) → i ≤ k → i ≤ n → among alike? t (parts (row_function rows i)) ≡ true → Reached rows i t
    go zero i lk le h = constant-parts rows t (subst (λ (x : ℕ). among alike? t (parts (row_function rows x)) ≡ true) (none i lk) h)
      where
        none : (i : ℕ) → i ≤ 0 → i ≡ 0
        none i lk = omega arith
    go (suc k) i lk le h =
        elim (ℕ_discrete i 0) [
          | yes e ↦ constant-parts rows t (subst (λ (x : ℕ). among alike? t (parts (row_function rows x)) ≡ true) e h)
          | no d ↦
              ⊎_elim
              (λ e. record { row = i; pos = omega arith; reach = arrived; is = e })
              (λ p. let b = p.0 in
              let w : child rows b i / 2 < i = (C.row i (omega arith) le).earlier b in
              let R = go k (child rows b i / 2) (omega arith) (omega arith) p.1 in
              record { row = R.row; pos = R.pos; reach = along b R.reach; is = R.is })
              (part_row rows n C i (omega arith) le t h)
        ]

module _ (rows : List ℕ) (n : ℕ) (C : Canonical rows n) where
  -- Each part of a function that a reference denotes is the function of a row.
  pub part_stored : (m r : ℕ) → Reference rows n m r → (t : Truth) → among alike? t (parts (denote rows m r)) ≡ true → among alike? t (store_of rows n) ≡ true
  part_stored m r R t h =
      let P = part_reach rows n C t (r / 2) R.stored (sym (parts-reference rows t r m R.fits) ∙ h) in
      stored-among rows n t P.row P.pos (omega (arith, reach_earlier rows n C P.reach R.stored, R.stored)) P.is

-- A reference that denotes t, of the inputs that t has.
pub record Denoted (rows : List ℕ) (n : ℕ) (t : Truth) : Type 0 where
  pub inputs : ℕ
  pub reference : ℕ
  pub here : Reference rows n inputs reference
  pub is : denote rows inputs reference ≡ t

-- Whatever is among the functions of the rows has a reference that denotes it.
pub stored_denoted : (rows : List ℕ) (n : ℕ) (t : Truth) → among alike? t (store_of rows n) ≡ true → Denoted rows n t
unfolding row_function
stored_denoted rows n t h =
    let S = among-stored rows n t h in
    let R : Reference rows n (level_at rows S.row) (S.row * 2) = row-reference rows n S.row S.here in
    ⊎_elim
    (λ e. record { inputs = level_at rows S.row; reference = S.row * 2; here = R; is = sym e })
    (λ e. record { inputs = level_at rows S.row; reference = inverse (S.row * 2); here = inverse-reference R; is = denote-inverse rows (level_at rows S.row) (S.row * 2) ∙ sym e })
    (alike-cases t (denote rows (level_at rows S.row) (S.row * 2)) S.is)

-- Rows added above keep the functions of those below.
module _ (s t : List ℕ) (n : ℕ) (C : Canonical s n) (A : Agree s t n) where
  pub row-frame : (i : ℕ) → i ≤ n → row_function t i ≡ row_function s i
  unfolding row_function
  row-frame i le = ap (λ x. denote t x (i * 2)) (A.levels i le) ∙ frame s n C t A (level_at s i) (i * 2) (rw (double_row i) le)

  pub store-frame : (k : ℕ) → k ≤ n → store_of t k ≡ store_of s k
  unfolding store_of
  store-frame zero le = refl
  store-frame (suc k) le = ap₂ ◌∷◌ (row-frame (suc k) le) (store-frame k (omega arith))

  -- A new row's function is put in front.
  pub store-new : store_of t (suc n) ≡ row_function t (suc n) ∷ store_of s n
  unfolding store_of
  store-new = ap (◌∷◌ (row_function t (suc n))) (store-frame n (omega arith))

-- "each row is one distinct part": where the functions of the rows are the parts of some functions, there are as many rows as these have parts together.
pub rows-together : (rows : List ℕ) (n : ℕ) → Canonical rows n → (fs : List Truth)
    → ((t : Truth) → among alike? t (store_of rows n) ≡ among alike? t (all_parts fs)) → n ≡ together fs
unfolding together
rows-together rows n C fs h =
    sym (store_length rows n)
    ∙ sym (ap length (apart_distinct alike? alike_sameness (store_of rows n) (store_apart rows n C n (omega arith))))
    ∙ distinct-same alike? alike_sameness (store_of rows n) (all_parts fs) h
