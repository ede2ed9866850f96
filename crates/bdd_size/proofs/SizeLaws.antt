-- The rows that are marked have, one to one, the distinct parts of the function as theirs.
use Prim.Native.Nat.{◌/◌, ◌≤◌, suc, zero, ℕ}
use Rattle.bdd.proofs.RowsLaws.{mark-cases}
use Rattle.bdd.proofs.StoreLaws.{part_reach, parts-reference, reach_earlier, reach_part, rows_apart}
use Rattle.bdd.specs.Diagram.{Canonical, denote, row_function}
use Rattle.bdd.specs.code.Rows.{level_at, mark_at}
use Rattle.bdd.specs.code.Store.{Store}
use Rattle.bdd_size.proofs.MarkLaws.{all-marked, wiped-same}
use Rattle.bdd_size.specs.code.Marks.{Marks, Sized, Wipes, marks_of}
use Rattle.truth.proofs.Booleans.{clash, iff_equal, not_true, or_cases, or_left, or_right}
use Rattle.truth.proofs.Distinct.{among-congruent, apart_distinct, distinct-same}
use Rattle.truth.proofs.Parts.{alike_sameness}
use Rattle.truth.specs.Distinct.{among, apart}
use Rattle.truth.specs.Parts.{alike?, parts, size}
use Rattle.truth.specs.Truth.{Truth}
use lib.Dec.{eqb}
use lib.ListN.{length}
use mathlib.Core.Bool.{cond, false, true}
use mathlib.Core.List.{List, [], ◌∷◌}
use mathlib.Core.Logic.{⊎_elim}
use mathlib.Core.Path.{◌∙◌, ◌≡◌, ap, refl, subst, sym}
use native.Mathlib.Decide.{ℕ_discrete}
use native.Mathlib.Nat.{add-zero}
use native.Mathlib.Numerals.{add-one}
use native.Mathlib.Omega.{arith}

-- The functions of those of the rows n to 1 of s that are marked in u.
chosen : List ℕ → List ℕ → ℕ → List Truth
chosen s u zero = []
chosen s u (suc n) = cond (eqb (mark_at u (suc n)) 1) (row_function s (suc n) ∷ chosen s u n) (chosen s u n)

chosen-marked : (s u : List ℕ) (n : ℕ) → mark_at u (suc n) ≡ 1 → chosen s u (suc n) ≡ row_function s (suc n) ∷ chosen s u n
unfolding chosen
chosen-marked s u n h = rw h

chosen-free : (s u : List ℕ) (n : ℕ) → mark_at u (suc n) ≡ 0 → chosen s u (suc n) ≡ chosen s u n
unfolding chosen
chosen-free s u n h = rw h

chosen_length : (s u : List ℕ) (n : ℕ) → length (chosen s u n) ≡ marks_of u n
unfolding chosen marks_of
chosen_length s u zero = refl
chosen_length s u (suc n) =
    ⊎_elim
    (λ e. ap length (chosen-free s u n e) ∙ chosen_length s u n ∙ rw e (sym (add-zero (marks_of u n))))
    (λ e. ap length (chosen-marked s u n e) ∙ ap suc (chosen_length s u n) ∙ rw e (sym (add-one (marks_of u n))))
    (mark-cases u (suc n))

-- A row marked in u whose function is t or its inverse.
record Chosen (s u : List ℕ) (n : ℕ) (t : Truth) : Type 0 where
  row : ℕ
  pos : 1 ≤ row
  here : row ≤ n
  marked : mark_at u row ≡ 1
  is : alike? t (row_function s row) ≡ true

among-chosen : (s u : List ℕ) (n : ℕ) (t : Truth) → among alike? t (chosen s u n) ≡ true → Chosen s u n t
unfolding chosen among
among-chosen s u zero t h = clash h refl
among-chosen s u (suc n) t h =
    ⊎_elim
    (λ e. up (among-chosen s u n t (subst (λ (x : List Truth). among alike? t x ≡ true) (chosen-free s u n e) h)))
    (λ e. ⊎_elim
    (λ a. record { row = suc n; pos = omega arith; here = omega arith; marked = e; is = a })
    (λ a. up (among-chosen s u n t a))
    (or_cases (alike? t (row_function s (suc n))) (among alike? t (chosen s u n)) (subst (λ (x : List Truth). among alike? t x ≡ true) (chosen-marked s u n e) h)))
    (mark-cases u (suc n))
  where
    up : Chosen s u n t → Chosen s u (suc n) t
    up C = record { row = C.row; pos = C.pos; here = omega (arith, C.here); marked = C.marked; is = C.is }

chosen-among : (s u : List ℕ) (n : ℕ) (t : Truth) (i : ℕ) → 1 ≤ i → i ≤ n → mark_at u i ≡ 1 → alike? t (row_function s i) ≡ true → among alike? t (chosen s u n) ≡ true
unfolding among
chosen-among s u zero t i pos le o h = absurd (omega arith)
chosen-among s u (suc n) t i pos le o h =
    elim (ℕ_discrete i (suc n)) [
      | yes e ↦ rw (chosen-marked s u n (subst (λ (x : ℕ). mark_at u x ≡ 1) e o)) (or_left (alike? t (row_function s (suc n))) (among alike? t (chosen s u n)) (subst (λ (x : ℕ). alike? t (row_function s x) ≡ true) e h))
      | no d ↦
          (let rest : among alike? t (chosen s u n) ≡ true = chosen-among s u n t i pos (omega arith) o h in
          ⊎_elim
          (λ e. rw (chosen-free s u n e) rest)
          (λ e. rw (chosen-marked s u n e) (or_right (alike? t (row_function s (suc n))) (among alike? t (chosen s u n)) rest))
          (mark-cases u (suc n)))
    ]

chosen-apart : (s u : List ℕ) (n : ℕ) → Canonical s n → (k : ℕ) → k ≤ n → apart alike? (chosen s u k) ≡ true
unfolding apart chosen
chosen-apart s u n C zero le = refl
chosen-apart s u n C (suc k) le =
    ⊎_elim
    (λ e. rw (chosen-free s u k e) (chosen-apart s u n C k (omega arith)))
    (λ e. rw (chosen-marked s u k e, fresh) (chosen-apart s u n C k (omega arith)))
    (mark-cases u (suc k))
  where
    fresh : among alike? (row_function s (suc k)) (chosen s u k) ≡ false
    fresh =
        not_true (among alike? (row_function s (suc k)) (chosen s u k))
        (λ h. let D = among-chosen s u k (row_function s (suc k)) h in
        let e : suc k ≡ D.row = rows_apart s n C (suc k) D.row le (omega (arith, D.here)) D.is in
        omega (arith, D.here))

-- The size does not depend on inputs above the row's level, nor on inversion.
pub size-reference : (rows : List ℕ) (r m : ℕ) → level_at rows (r / 2) ≤ m → size (denote rows m r) ≡ size (row_function rows (r / 2))
unfolding size
size-reference rows r m le = distinct-same alike? alike_sameness (parts (denote rows m r)) (parts (row_function rows (r / 2))) (λ t. parts-reference rows t r m le)

no_marks : (s : List ℕ) (n : ℕ) → ((j : ℕ) → j ≤ n → mark_at s j ≡ 0) → marks_of s n ≡ 0
unfolding marks_of
no_marks s zero h = refl
no_marks s (suc n) h = omega (arith, no_marks s n (λ j le. h j (omega arith)), h (suc n) (omega arith))

-- As many rows are marked as the function has distinct parts.
pub marks-size : (s u : List ℕ) (n i c : ℕ) → Canonical s n → ((j : ℕ) → j ≤ n → mark_at s j ≡ 0) → i ≤ n → Marks s u i c → c ≡ size (row_function s i)
unfolding size
marks-size s u n i c C clear le M =
    omega (arith, M.count n le, no_marks s n clear, chosen_length s u n)
    ∙ sym (ap length (apart_distinct alike? alike_sameness (chosen s u n) (chosen-apart s u n C n (omega arith))))
    ∙ distinct-same alike? alike_sameness (chosen s u n) (parts (row_function s i)) (λ t. iff_equal (among alike? t (chosen s u n)) (among alike? t (parts (row_function s i))) (part t) (row t))
  where
    part : (t : Truth) → among alike? t (chosen s u n) ≡ true → among alike? t (parts (row_function s i)) ≡ true
    part t h =
        let D = among-chosen s u n t h in
        among-congruent alike? alike_sameness t (row_function s D.row) (parts (row_function s i)) D.is
        ∙ ⊎_elim
        (λ o. let z : ◌≡◌ {A = ℕ} 0 1 = sym (clear D.row D.here) ∙ o in absurd (omega arith))
        (λ p. reach_part s n C p le D.pos)
        (M.only D.row D.marked)

    row : (t : Truth) → among alike? t (parts (row_function s i)) ≡ true → among alike? t (chosen s u n) ≡ true
    row t h =
        let R = part_reach s n C t i le h in
        let b : R.row ≤ i = reach_earlier s n C R.reach le in
        chosen-among s u n t R.row R.pos (omega arith) (all-marked s u n i c C clear le M R.reach R.pos) R.is

pub sized : (s u v : List ℕ) (limit n r c : ℕ) → Store s limit n → r / 2 ≤ n → Marks s u (r / 2) c → Wipes u v (r / 2) → Sized s v r c
sized s u v limit n r c S le M W =
    record {
      sized = λ m l. marks-size s u n (r / 2) c S.canonical S.unmarked le M ∙ sym (size-reference s r m l);
      same = wiped-same s u v n (r / 2) c S.canonical le S.unmarked M W;
    }
