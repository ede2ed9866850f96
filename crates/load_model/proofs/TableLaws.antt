-- The table after a load: it passes tests 10 and 11, and its graph is the one that was built.
use Prim.Native.Nat.{◌*◌, ◌+◌, ◌-◌, ◌<◌, ◌≤◌, suc, zero, ℕ}
use Rattle.aig.proofs.OwnLaws.{length_own}
use Rattle.aig.specs.Fold.{Unfolded}
use Rattle.aig.specs.Lookup.{first_word, own_words, second_word}
use Rattle.load_model.proofs.GrownLaws.{length_row_words, pairs-row_words}
use Rattle.load_model.proofs.PairLaws.{constraint-below, left_below, length_left, length_right, pair-asked, pair-good, pair_step, right-below}
use Rattle.load_model.specs.Build.{Build, PairBuilt, build_pair, empty_build}
use Rattle.load_model.specs.code.Good.{Good, Row}
use Rattle.load_model.specs.code.Grown.{Grown, row_words, rows_after}
use Rattle.load_model.specs.Load.{loaded_graph, max_table, table_of, table_words}
use Rattle.load_model.specs.Loadable.{Loadable}
use Rattle.netlist_model.specs.Netlist.{Netlist}
use Rattle.table.proofs.LayoutLaws.{length_pairs, pairs-at}
use Rattle.table.specs.Accepted.{Accepted, Downward}
use Rattle.table.specs.Limits.{max_ands, max_inputs, max_outputs}
use Rattle.table.specs.Table.{constraint_of, graph_of, inputs_of, output_words, pairs, row_at, rows_of, side_outputs}
use Rattle.table.specs.Values.{Pair}
use lib.ListN.{drop, get_or, length, length-append, length-drop}
use lib.Seq.{drop-append_seam, drop_at, get_or-append-add, get_or-append_seam, take_all, take-append-add, take-append_seam}
use mathlib.Core.List.{List, [], ◌++◌, ◌∷◌, append_assoc, append-nil}
use mathlib.Core.Path.{◌∙◌, ◌≡◌, ap, refl, sym}
use native.Mathlib.Omega.{arith}

-- A table with its words in place.
abbrev laid : ℕ → List Pair → List ℕ → List ℕ → ℕ → List ℕ → List ℕ
laid n rs left right r rest = n ∷ length rs ∷ length left ∷ (row_words rs ++ (left ++ (right ++ (r ∷ rest))))

module _ (n : ℕ) (rs : List Pair) (left right : List ℕ) (r : ℕ) (rest : List ℕ) (same : length right ≡ length left) where
  laid_rows : rows_of (laid n rs left right r rest) ≡ rs
  unfolding rows_of
  laid_rows = pairs-row_words rs (left ++ (right ++ (r ∷ rest)))

  laid_outputs : output_words (laid n rs left right r rest) ≡ left ++ right
  unfolding output_words
  laid_outputs =
      let e : 3 + 2 * length rs ≡ suc (suc (suc (length (row_words rs)))) = omega (arith, length_row_words rs) in
      let f : 2 * length left ≡ length left + length right = omega arith in
      rw (e, drop-append_seam (row_words rs) (left ++ (right ++ (r ∷ rest))), f, take-append-add left (right ++ (r ∷ rest)) (length right))
      (ap (◌++◌ left) (take-append_seam right (r ∷ rest)))

  laid_constraint : constraint_of (laid n rs left right r rest) ≡ r
  laid_constraint =
      let e : 3 + 2 * length rs + 2 * length left ≡ suc (suc (suc (length (row_words rs) + (length left + length right)))) =
      omega (arith, length_row_words rs) in
      rw e
      (get_or-append-add (row_words rs) (left ++ (right ++ (r ∷ rest))) (length left + length right) 0
      ∙ get_or-append-add left (right ++ (r ∷ rest)) (length right) 0
      ∙ get_or-append_seam right r rest 0)

  laid_graph : graph_of (laid n rs left right r rest) ≡ record { inputs = n; rows = rs; left = left; right = right }
  unfolding graph_of side_outputs
  laid_graph =
      let le : length right ≤ length left = omega arith in
      rw (laid_rows, laid_outputs, take-append_seam left right, drop-append_seam left right, take_all (length left) right le)

  length_laid : length (laid n rs left right r rest) ≡ 3 + 2 * length rs + 2 * length left + 1 + length rest
  length_laid =
      omega (
        arith,
        length-append (row_words rs) (left ++ (right ++ (r ∷ rest))),
        length-append left (right ++ (r ∷ rest)),
        length-append right (r ∷ rest),
        length_row_words rs,
      )

  laid_accepted : n ≤ max_inputs → length rs ≤ max_ands → 1 ≤ length left → length left ≤ max_outputs → Downward (1 + n) rs
      → ((k : ℕ) → get_or left k 0 < 2 * (1 + n + length rs)) → ((k : ℕ) → get_or right k 0 < 2 * (1 + n + length rs)) → r < 2 * (1 + n + length rs)
      → Accepted (laid n rs left right r rest)
  laid_accepted inputs made some outputs down Below-left Below-right below-constraint =
      record {
        formed =
            record {
              header = omega arith;
              inputs = inputs;
              made = made;
              some-output = some;
              outputs = outputs;
              whole = omega (arith, length_laid);
            };
        rows = rw laid_rows down;
        references = rw laid_outputs (λ k h. get_or-both left right k Below-left Below-right);
        constraint = rw laid_constraint below-constraint;
      }
    where
      get_or-both : (xs ys : List ℕ) (k : ℕ) → ((k : ℕ) → get_or xs k 0 < 2 * (1 + n + length rs)) → ((k : ℕ) → get_or ys k 0 < 2 * (1 + n + length rs))
          → get_or (xs ++ ys) k 0 < 2 * (1 + n + length rs)
      get_or-both [] ys k h g = g k
      get_or-both (x ∷ xs) ys zero h g = h 0
      get_or-both (x ∷ xs) ys (suc k) h g = get_or-both xs ys k (λ j. h (suc j)) g

module _ (n : ℕ) {b : Build} {rs : List Pair} (g : Grown (empty_build n) rs b) where
  made-count : b.count - (1 + n) ≡ length rs
  unfolding empty_build
  made-count = omega (arith, g.count)

  made-words : drop (2 * (1 + n)) b.words ≡ row_words rs
  unfolding empty_build
  made-words = rw g.words (drop_at (own_words 0 (1 + n)) (row_words rs) (2 * (1 + n)) (length_own 0 (1 + n)))

  -- The rows by which a graph has grown from that of the first vertices are all its rows.
  pub grown-rows : rows_after n b ≡ rs
  unfolding rows_after
  grown-rows = rw (made-count, made-words) (ap (pairs (length rs)) (sym (append-nil (row_words rs))) ∙ pairs-row_words rs [])

-- The words of row i are those of its vertex.
pub row-after : (n : ℕ) (b : Build) (i : ℕ) → i < b.count - (1 + n)
    → get_or (rows_after n b) i (0, 0) ≡ (first_word b.words (1 + n + i), second_word b.words (1 + n + i))
unfolding rows_after
row-after n b i h =
    let e : 2 * (1 + n) + 2 * i ≡ 2 * (1 + n + i) = omega arith in
    pairs-at (b.count - (1 + n)) (2 * (1 + n)) i b.words (0, 0) h ∙ ap (row_at b.words) e

-- There are as many rows as made vertices.
pub length_rows_after : (n : ℕ) (b : Build) → length (rows_after n b) ≡ b.count - (1 + n)
unfolding rows_after
length_rows_after n b = length_pairs (b.count - (1 + n)) (drop (2 * (1 + n)) b.words)

module _ {n : ℕ} {b : Build} (g : Good n b) where
  row : (i : ℕ) → i < length (rows_after n b) → Row b.words (1 + n + i)
  row i h = g.rows (1 + n + i) (omega arith) (omega (arith, length_rows_after n b))

  row_words_lem : (i : ℕ) → i < length (rows_after n b) → get_or (rows_after n b) i (0, 0) ≡ (first_word b.words (1 + n + i), second_word b.words (1 + n + i))
  row_words_lem i h = row-after n b i (omega (arith, length_rows_after n b))

  -- The rows of a good graph refer downwards,
  pub rows-downward : Downward (1 + n) (rows_after n b)
  rows-downward i h =
      let r = row i h in
      rw (row_words_lem i h) (record { first = omega (arith, r.unfolded.ordered, r.downward); second = r.downward })

  -- none of them folds,
  pub rows-unfolded : (i : ℕ) → i < length (rows_after n b) → Unfolded (get_or (rows_after n b) i (0, 0)).0 (get_or (rows_after n b) i (0, 0)).1
  rows-unfolded i h = rw (row_words_lem i h) (row i h).unfolded

  -- and no two hold the same pair.
  pub rows_apart : (i j : ℕ) → i < j → j < length (rows_after n b) → get_or (rows_after n b) i (0, 0) ≡ get_or (rows_after n b) j (0, 0) → ⊥
  rows_apart i j l h e =
      let same = sym (row_words_lem i (omega arith)) ∙ e ∙ row_words_lem j h in
      (row j h).new (1 + n + i) (omega arith) (record { first = ap (λ (r : Pair). r.0) same; second = ap (λ (r : Pair). r.1) same })

-- A table that is written with the words of a graph.
words_laid : (n : ℕ) (p : PairBuilt) {rs : List Pair} → Grown (empty_build n) rs p.build → (rest : List ℕ)
    → table_words n p ++ rest ≡ laid n rs p.left p.right p.constraint rest
unfolding table_words
words_laid n p {rs} g rest =
    rw (made-count n g, made-words n g)
    (ap (λ (ws : List ℕ). n ∷ length rs ∷ length p.left ∷ ws)
    (append_assoc (row_words rs) (p.left ++ (p.right ++ (p.constraint ∷ []))) rest
    ∙ ap (◌++◌ (row_words rs))
    (append_assoc p.left (p.right ++ (p.constraint ∷ [])) rest ∙ ap (◌++◌ p.left) (append_assoc p.right (p.constraint ∷ []) rest))))

-- The inputs of a table after a load are those of the first file.
pub table-inputs : (d e : Netlist) (old : List ℕ) → inputs_of (table_of d e old) ≡ d.inputs
unfolding table_of table_words
table-inputs d e old = refl

module _ (d e : Netlist) (inputs : d.inputs ≡ e.inputs) (old : List ℕ) where
  -- "The lent table .. then holds": its words in place.
  table_laid : table_of d e old
      ≡ laid d.inputs (rows_after d.inputs (build_pair d e).build) (build_pair d e).left (build_pair d e).right
      (build_pair d e).constraint (drop (length (table_words d.inputs (build_pair d e))) old)
  unfolding table_of
  table_laid =
      let s = pair_step d e inputs in
      rw (grown-rows d.inputs s.grown)
      (words_laid d.inputs (build_pair d e) s.grown (drop (length (table_words d.inputs (build_pair d e))) old))

  module _ (outputs : length d.outputs ≡ length e.outputs) where
    same_length : length (build_pair d e).right ≡ length (build_pair d e).left
    same_length = length_right d e ∙ sym outputs ∙ sym (length_left d e)

    -- Its graph is the one that was built.
    pub table-graph : loaded_graph d e old
        ≡ record {
          inputs = d.inputs;
          rows = rows_after d.inputs (build_pair d e).build;
          left = (build_pair d e).left;
          right = (build_pair d e).right;
        }
    table-graph =
        rw table_laid
        (laid_graph d.inputs (rows_after d.inputs (build_pair d e).build) (build_pair d e).left (build_pair d e).right
        (build_pair d e).constraint (drop (length (table_words d.inputs (build_pair d e))) old) same_length)

    -- Its constraint is that of the first file.
    pub table-constraint : constraint_of (table_of d e old) ≡ (build_pair d e).constraint
    table-constraint =
        rw table_laid
        (laid_constraint d.inputs (rows_after d.inputs (build_pair d e).build) (build_pair d e).left (build_pair d e).right
        (build_pair d e).constraint (drop (length (table_words d.inputs (build_pair d e))) old) same_length)

    -- Its rows do not fold,
    pub table-unfolded : (i : ℕ) → i < length (loaded_graph d e old).rows
        → Unfolded (get_or (loaded_graph d e old).rows i (0, 0)).0 (get_or (loaded_graph d e old).rows i (0, 0)).1
    table-unfolded = rw table-graph (rows-unfolded (pair-good d e inputs))

    -- and no two hold the same pair.
    pub table-apart : (i j : ℕ) → i < j → j < length (loaded_graph d e old).rows
        → get_or (loaded_graph d e old).rows i (0, 0) ≡ get_or (loaded_graph d e old).rows j (0, 0) → ⊥
    table-apart = rw table-graph (rows_apart (pair-good d e inputs))

module _ (d e : Netlist) (h : Loadable d e) (old : List ℕ) where
  rs : List Pair
  rs = rows_after d.inputs (build_pair d e).build

  rows_bound : length rs ≤ max_ands
  unfolding rs
  rows_bound =
      let g = pair-good d e h.inputs in
      omega (arith, length_rows_after d.inputs (build_pair d e).build, pair-asked d e h.inputs, h.ands, g.tally, g.first)

  vertices : 1 + d.inputs + length rs ≡ (build_pair d e).build.count
  unfolding rs
  vertices = omega (arith, length_rows_after d.inputs (build_pair d e).build, (pair-good d e h.inputs).first)

  -- The table after a load passes tests 10 and 11.
  pub table-accepted : Accepted (table_of d e old)
  unfolding rs
  table-accepted =
      rw (table_laid d e h.inputs old)
      (laid_accepted d.inputs rs (build_pair d e).left (build_pair d e).right (build_pair d e).constraint
      (drop (length (table_words d.inputs (build_pair d e))) old) (same_length d e h.inputs old h.outputs)
      h.left.inputs rows_bound
      (omega (arith, length_left d e, h.left.some)) (omega (arith, length_left d e, h.left.outputs))
      (rows-downward (pair-good d e h.inputs))
      (rw vertices (left_below d e h.inputs)) (rw vertices (right-below d e h.inputs))
      (rw vertices (constraint-below d e h.inputs)))

  -- It is as long as it was.
  pub length_table : max_table ≤ length old → length (table_of d e old) ≡ length old
  unfolding table_of rs
  length_table fits =
      let ws : List ℕ = table_words d.inputs (build_pair d e) in
      let s = pair_step d e h.inputs in
      let l : length ws ≡ 3 + 2 * length rs + 2 * length (build_pair d e).left + 1 =
      omega (
        arith,
        ap length (append-nil ws),
        ap length (words_laid d.inputs (build_pair d e) s.grown []),
        length_laid d.inputs s.rows (build_pair d e).left (build_pair d e).right (build_pair d e).constraint [] (same_length d e h.inputs old h.outputs),
        ap length (grown-rows d.inputs s.grown),
      ) in
      rw (length-append ws (drop (length ws) old), length-drop (length ws) old)
      (omega (arith, rows_bound, length_left d e, h.left.outputs))
