-- Tests 10 and 11 against what they say of the words.
use Rattle.std.proofs.lemmas.Grind.{common_steps}
use Prim.Native.Nat.{◌*◌, ◌+◌, ◌<◌, suc, zero, ℕ}
use Rattle.table.proofs.LayoutLaws.{length_output_words, length_rows, row_at_lem, side-output-word, side_start-bound}
use Rattle.table.proofs.RefusalLaws.{none-applies}
use Rattle.table.specs.Accepted.{Accepted, Downward, RowBelow, WellFormed}
use Rattle.table.specs.Refusals.{first_refusal}
use Rattle.table.specs.Table.{all_below?, beyond_limits?, constraint_of, downward?, inputs_of, made_of, malformed?, out_of_order?, output_words, outputs_of, row_at, row_below?, rows_of, side_outputs, side_start, table_tests, vertices_of}
use Rattle.table.specs.Values.{Pair}
use Rattle.truth.proofs.Booleans.{and_left, and_right}
use borrow.Author.Tests.{lt-ltb, ltb-true, not-false}
use lib.Dec.{ltb}
use lib.ListN.{get_or, length}
use mathlib.Core.Bool.{Bool, ◌&&◌, false, true}
use mathlib.Core.List.{List, [], ◌∷◌}
use mathlib.Core.Path.{◌≡◌, refl, subst}
use native.Mathlib.Omega.{arith}

-- The test of a row, from the test to what it says and back.
pub row_below : (n : ℕ) (r : Pair) → row_below? n r ≡ true → RowBelow n r
unfolding row_below?
row_below n r h = grind (arith, common_steps)

pub below_row : (n : ℕ) (r : Pair) → RowBelow n r → row_below? n r ≡ true
unfolding row_below?
below_row n r h = rw (lt-ltb r.0 n h.first, lt-ltb r.1 n h.second)

-- The test of all rows, likewise.
pub downward : (v : ℕ) (rs : List Pair) → downward? v rs ≡ true → Downward v rs
unfolding downward?
downward v [] h i l = absurd (omega arith)
downward v (r ∷ rs) h zero l =
    subst (λ (n : ℕ). RowBelow (2 * n) r) (omega arith) (row_below (2 * v) r (and_left (row_below? (2 * v) r) (downward? (suc v) rs) h))
downward v (r ∷ rs) h (suc i) l =
    subst (λ (n : ℕ). RowBelow (2 * n) (get_or rs i (0, 0))) (omega arith)
    (downward (suc v) rs (and_right (row_below? (2 * v) r) (downward? (suc v) rs) h) i (omega arith))

pub downward-tested : (v : ℕ) (rs : List Pair) → Downward v rs → downward? v rs ≡ true
unfolding downward?
downward-tested v [] h = refl
downward-tested v (r ∷ rs) h =
    rw (below_row (2 * v) r (subst (λ (n : ℕ). RowBelow (2 * n) r) (omega arith) (h 0 (omega arith))))
    (downward-tested (suc v) rs (λ i l. subst (λ (n : ℕ). RowBelow (2 * n) (get_or rs i (0, 0))) (omega arith) (h (suc i) (omega arith))))

-- The test of all output references, likewise.
pub all-below : (n : ℕ) (rs : List ℕ) → all_below? n rs ≡ true → (k : ℕ) → k < length rs → get_or rs k 0 < n
unfolding all_below?
all-below n [] h k l = absurd (omega arith)
all-below n (r ∷ rs) h zero l = ltb-true r n (and_left (ltb r n) (all_below? n rs) h)
all-below n (r ∷ rs) h (suc k) l = all-below n rs (and_right (ltb r n) (all_below? n rs) h) k (omega arith)

pub all-below-tested : (n : ℕ) (rs : List ℕ) → ((k : ℕ) → k < length rs → get_or rs k 0 < n) → all_below? n rs ≡ true
unfolding all_below?
all-below-tested n [] h = refl
all-below-tested n (r ∷ rs) h = rw (lt-ltb r n (h 0 (omega arith))) (all-below-tested n rs (λ k l. h (suc k) (omega arith)))

-- Test 10, from the test to what it says and back.
pub well_formed : (ws : List ℕ) → malformed? ws ≡ false → WellFormed ws
unfolding malformed? beyond_limits?
well_formed ws h = grind (arith, common_steps)

pub well_formed-tested : (ws : List ℕ) → WellFormed ws → malformed? ws ≡ false
unfolding malformed? beyond_limits?
well_formed-tested ws h = grind (arith, common_steps)

-- Words to which neither 10 nor 11 applies are a well-formed table whose references are in order, and such a table is not refused.
pub accepted : (ws : List ℕ) → first_refusal 0 (table_tests ws) ≡ 0 → Accepted ws
unfolding out_of_order?
accepted ws h =
    let p = none-applies 10 (malformed? ws) (record { answer = 11; applies = out_of_order? ws } ∷ []) (omega arith) h in
    let q = none-applies 11 (out_of_order? ws) [] (omega arith) p.1 in
    let t = not-false (ordered && below && constrained) q.0 in
    let u = and_left (ordered && below) constrained t in
    record {
      formed = well_formed ws p.0;
      rows = downward (1 + inputs_of ws) (rows_of ws) (and_left ordered below u);
      references = all-below (2 * vertices_of ws) (output_words ws) (and_right ordered below u);
      constraint = ltb-true (constraint_of ws) (2 * vertices_of ws) (and_right (ordered && below) constrained t);
    }
  where
    ordered : Bool
    ordered = downward? (1 + inputs_of ws) (rows_of ws)

    below : Bool
    below = all_below? (2 * vertices_of ws) (output_words ws)

    constrained : Bool
    constrained = ltb (constraint_of ws) (2 * vertices_of ws)

pub accepts : (ws : List ℕ) → Accepted ws → first_refusal 0 (table_tests ws) ≡ 0
unfolding first_refusal out_of_order?
accepts ws h =
    rw (well_formed-tested ws h.formed, downward-tested (1 + inputs_of ws) (rows_of ws) h.rows)
    (rw (all-below-tested (2 * vertices_of ws) (output_words ws) h.references, lt-ltb (constraint_of ws) (2 * vertices_of ws) h.constraint) refl)

module _ {ws : List ℕ} (h : Accepted ws) where
  -- The words of row i are below twice its vertex.
  pub row_words-below : (i : ℕ) → i < made_of ws → RowBelow (2 * (1 + inputs_of ws + i)) (row_at ws (3 + 2 * i))
  row_words-below i l =
      subst (RowBelow (2 * (1 + inputs_of ws + i))) (row_at_lem ws i (0, 0) l) (h.rows i (omega (arith, length_rows ws)))

  -- The output references of both sides are below twice the number of vertices.
  pub side-output-below : (side k : ℕ) → k < outputs_of ws → get_or (side_outputs ws side) k 0 < 2 * vertices_of ws
  side-output-below side k l =
      rw (side-output-word ws side k l)
      (h.references (side_start ws side + k) (omega (arith, side_start-bound ws side, length_output_words ws h.formed.whole)))
