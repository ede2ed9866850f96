-- Where a table's rows and output references stand among its words.
use Rattle.std.proofs.lemmas.Grind.{common_steps}
use Rattle.std.proofs.lemmas.List.{get_or-map}
use Prim.Native.Nat.{◌*◌, ◌+◌, ◌-◌, ◌<◌, ◌≤◌, suc, zero, ℕ}
use Rattle.table.specs.Table.{graph_of, made_of, output_words, outputs, outputs_of, pairs, promised, row_at, rows_of, side_outputs, side_start}
use Rattle.table.specs.Values.{Pair}
use borrow.Author.Tests.{eq-eqb, ne_eqb}
use lib.Dec.{eqb}
use lib.ListN.{drop, get_or, length, length-drop, length-take, take}
use mathlib.Core.Bool.{Bool, cond, false, true}
use mathlib.Core.List.{List, ◌∷◌, map}
use mathlib.Core.Path.{◌∙◌, ◌≡◌, ap, refl}
use native.Mathlib.Omega.{arith}

-- What stands at a place of a list that is mapped.
pub map_at : {A B : Type 0} (f : A → B) (xs : List A) (i : ℕ) (d : B) (e : A) → i < length xs → get_or (map f xs) i d ≡ f (get_or xs i e)
map_at f xs i d e h = get_or-map f xs i e d h

-- The first of some rows is read off, and the others stand two words further.
pub pairs_suc : (n at : ℕ) (ws : List ℕ) → pairs (suc n) (drop at ws) ≡ row_at ws at ∷ pairs n (drop (at + 2) ws)
unfolding pairs
pairs_suc n at ws = grind (arith, common_steps)

-- The same for the rows that are left after i of n.
pub pairs-left : (at n i : ℕ) (ws : List ℕ) → i < n
    → pairs (n - i) (drop (at + 2 * i) ws) ≡ row_at ws (at + 2 * i) ∷ pairs (n - (i + 1)) (drop (at + 2 * (i + 1)) ws)
pairs-left at n i ws h =
    let m : n - i ≡ suc (n - (i + 1)) = omega arith in
    let k : at + 2 * i + 2 ≡ at + 2 * (i + 1) = omega arith in
    rw m (pairs_suc (n - (i + 1)) (at + 2 * i) ws ∙ ap (λ (k : ℕ). row_at ws (at + 2 * i) ∷ pairs (n - (i + 1)) (drop k ws)) k)

-- There are n rows.
pub length_pairs : (n : ℕ) (ws : List ℕ) → length (pairs n ws) ≡ n
unfolding pairs
length_pairs zero ws = refl
length_pairs (suc n) ws = ap suc (length_pairs n (drop 2 ws))

-- Row i of some rows stands 2 i words further.
pub pairs-at : (n at i : ℕ) (ws : List ℕ) (d : Pair) → i < n → get_or (pairs n (drop at ws)) i d ≡ row_at ws (at + 2 * i)
pairs-at zero at i ws d h = absurd (omega arith)
pairs-at (suc n) at zero ws d h = ap (λ (l : List Pair). get_or l 0 d) (pairs_suc n at ws) ∙ ap (row_at ws) (omega arith)
pairs-at (suc n) at (suc i) ws d h =
    ap (λ (l : List Pair). get_or l (suc i) d) (pairs_suc n at ws) ∙ pairs-at n (at + 2) i ws d (omega arith) ∙ ap (row_at ws) (omega arith)

module _ (ws : List ℕ) where
  -- A table has as many rows as its header says.
  pub length_rows : length (rows_of ws) ≡ made_of ws
  unfolding rows_of
  length_rows = length_pairs (made_of ws) (drop 3 ws)

  -- Row i stands at word 3 + 2 i.
  pub row_at_lem : (i : ℕ) (d : Pair) → i < made_of ws → get_or (rows_of ws) i d ≡ row_at ws (3 + 2 * i)
  unfolding rows_of
  row_at_lem i d h = pairs-at (made_of ws) 3 i ws d h

  -- The output references stand after the rows.
  pub output-word_at : (k : ℕ) → k < 2 * outputs_of ws → get_or (output_words ws) k 0 ≡ get_or ws (3 + 2 * made_of ws + k) 0
  unfolding output_words
  output-word_at k h = grind (arith, common_steps)

  -- In a whole table they are twice as many as the header says.
  pub length_output_words : promised (made_of ws) (outputs_of ws) ≤ length ws → length (output_words ws) ≡ 2 * outputs_of ws
  unfolding output_words
  length_output_words h = rw (length-take, length-drop) (omega arith)

  -- Those of a side start among the first half.
  pub side_start-bound : (side : ℕ) → side_start ws side ≤ outputs_of ws
  side_start-bound side = go (eqb side 1)
    where
      go : (b : Bool) → cond b 0 (outputs_of ws) ≤ outputs_of ws
      go true = omega arith
      go false = omega arith

  -- Output k of a side stands k words after the side's first.
  pub side-output-word : (side k : ℕ) → k < outputs_of ws → get_or (side_outputs ws side) k 0 ≡ get_or (output_words ws) (side_start ws side + k) 0
  unfolding side_outputs
  side-output-word side k h = grind (arith, common_steps)

  pub side-output-at : (side k : ℕ) → k < outputs_of ws → get_or (side_outputs ws side) k 0 ≡ get_or ws (3 + 2 * made_of ws + side_start ws side + k) 0
  side-output-at side k h =
      let b = side_start-bound side in
      side-output-word side k h
      ∙ output-word_at (side_start ws side + k) (omega arith)
      ∙ ap (λ (n : ℕ). get_or ws n 0) (omega arith)

  -- Of side 1 right after the rows, of the other side as many words further as there are outputs.
  pub first-side-at : (side k : ℕ) → side ≡ 1 → k < outputs_of ws → get_or (side_outputs ws side) k 0 ≡ get_or ws (3 + 2 * made_of ws + k) 0
  first-side-at side k e h =
      let start : side_start ws side ≡ 0 = rw (eq-eqb side 1 e) refl in
      side-output-at side k h ∙ ap (λ (n : ℕ). get_or ws n 0) (omega arith)

  pub second-side-at : (side k : ℕ) → (side ≡ 1 → ⊥) → k < outputs_of ws
      → get_or (side_outputs ws side) k 0 ≡ get_or ws (3 + 2 * made_of ws + k + outputs_of ws) 0
  second-side-at side k e h =
      let start : side_start ws side ≡ outputs_of ws = rw (ne_eqb side 1 e) refl in
      side-output-at side k h ∙ ap (λ (n : ℕ). get_or ws n 0) (omega arith)

  -- The graph's outputs of a side are the table's.
  pub graph-outputs : (side : ℕ) → outputs (graph_of ws) side ≡ side_outputs ws side
  unfolding outputs graph_of side_outputs
  graph-outputs side = go (eqb side 1)
    where
      words : Bool → List ℕ
      words b = take (outputs_of ws) (drop (cond b 0 (outputs_of ws)) (output_words ws))

      go : (b : Bool) → cond b (words true) (words false) ≡ words b
      go true = refl
      go false = refl
