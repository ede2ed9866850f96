-- The table that a comparison leaves: the same header, length and words after the graph, the sweep's rows, and every output as what it became.
use Prim.Native.Nat.{◌%◌, ◌*◌, ◌+◌, ◌/◌, ◌<◌, ◌≤◌, ℕ}
use Rattle.aig.proofs.OwnLaws.{length_own, own-holds}
use Rattle.aig.specs.Lookup.{HoldsRow, first_word, own_words, second_word}
use Rattle.compare_model.proofs.GraphLaws.{count-own, length_graph, made_row, own-fits, own_problem}
use Rattle.compare_model.specs.Compare.{graph_words, literal_in, outputs_left, table_left}
use Rattle.sweep_model.proofs.Rows.{resolve-first, resolve_function, resolve-within}
use Rattle.sweep_model.specs.Fit.{Sound}
use Rattle.sweep_model.specs.Normalise.{resolve}
use Rattle.sweep_model.specs.State.{Limits}
use Rattle.table.proofs.FunctionLaws.{function_first, functions_unique, length_functions}
use Rattle.table.proofs.LayoutLaws.{graph-outputs, length_output_words, length_rows, row_at_lem, side-output-word, side_start-bound}
use Rattle.table.specs.Accepted.{Accepted, RowBelow}
use Rattle.table.specs.Table.{constraint_of, functions_of, graph_of, inputs_of, made_of, output_function, output_words, outputs_of, promised, rows_of, side_start, vertices_of}
use lib.ListN.{get_or-append, get_or-map, drop, get_or, length, length-append, length-drop, length-map, take, take-append-drop}
use lib.Seq.{drop_at, drop-drop, ext_get_or, get_or-drop, get_or-take, length-take-le, take_at}
use mathlib.Core.List.{List, ◌++◌, append_assoc}
use mathlib.Core.Path.{◌∙◌, ◌≡◌, ap, ap₂, subst, sym}
use native.Mathlib.Decide.{ℕ_discrete}
use native.Mathlib.Omega.{arith}

-- Two lists of words that agree vertex by vertex agree word by word.
words-agree : (rows other : List ℕ) (n : ℕ) → ((v : ℕ) → v < n → HoldsRow other v (first_word rows v) (second_word rows v)) → (i : ℕ) → i < 2 * n
    → get_or other i 0 ≡ get_or rows i 0
words-agree rows other n same i h =
    let w = same (i / 2) (omega arith) in
    elim (ℕ_discrete (i % 2) 0) [
      | yes e ↦ subst (λ (j : ℕ). get_or other j 0 ≡ get_or rows j 0) (omega arith) w.first
      | no e ↦ subst (λ (j : ℕ). get_or other j 0 ≡ get_or rows j 0) (omega arith) w.second
    ]

-- Rows of a table's vertices in place of its own.
module _ (table : List ℕ) (whole : promised (made_of table) (outputs_of table) ≤ length table) (rows : List ℕ) (long : length rows ≡ 2 * vertices_of table) where
  abbrev made : List ℕ
  made = drop (2 * (1 + inputs_of table)) rows

  -- The word after the outputs, r's.
  abbrev end : ℕ
  end = 3 + 2 * made_of table + 2 * outputs_of table

  abbrev references : List ℕ
  references = outputs_left table rows

  pub length_made : length (drop (2 * (1 + inputs_of table)) rows) ≡ 2 * made_of table
  length_made = simp length-drop (omega arith)

  length_references : length (outputs_left table rows) ≡ 2 * outputs_of table
  unfolding outputs_left
  length_references = length-map (output_words table) _ ∙ length_output_words table whole

  pub length_header : length (take 3 table) ≡ 3
  length_header = length-take-le 3 table (omega arith)

  length_written : length (take 3 table ++ (made ++ references)) ≡ end
  length_written = simp length-append (omega (arith, length_header, length_made, length_references))

  -- The words, part by part.
  pub left-words : table_left table rows
      ≡ take 3 table ++ (drop (2 * (1 + inputs_of table)) rows ++ (outputs_left table rows ++ drop end table))
  unfolding table_left
  left-words = rw length_written (simp append_assoc)

  -- It is as long as it was.
  pub length_left : length (table_left table rows) ≡ length table
  length_left = rw left-words (simp (length-append, length-drop) (omega (arith, length_header, length_made, length_references)))

  -- The header stays.
  header-kept : (i : ℕ) → i < 3 → get_or (table_left table rows) i 0 ≡ get_or table i 0
  header-kept i h = rw left-words (get_or-append (take 3 table) _ 0 i (omega (arith, length_header)) ∙ get_or-take 3 table i 0 h)

  inputs-kept : inputs_of (table_left table rows) ≡ inputs_of table
  inputs-kept = header-kept 0 (omega arith)

  made_kept : made_of (table_left table rows) ≡ made_of table
  made_kept = header-kept 1 (omega arith)

  outputs-kept : outputs_of (table_left table rows) ≡ outputs_of table
  outputs-kept = header-kept 2 (omega arith)

  after_header_lem : drop 3 (table_left table rows) ≡ made ++ (references ++ drop end table)
  after_header_lem = rw left-words (drop_at (take 3 table) _ 3 length_header)

  after-rows : drop (3 + 2 * made_of table) (table_left table rows) ≡ references ++ drop end table
  after-rows = sym (drop-drop (2 * made_of table) 3 (table_left table rows)) ∙ rw after_header_lem (drop_at made _ (2 * made_of table) length_made)

  -- The words after the graph stay.
  pub rest-kept : drop end (table_left table rows) ≡ drop end table
  rest-kept =
      sym (drop-drop (2 * outputs_of table) (3 + 2 * made_of table) (table_left table rows))
      ∙ rw after-rows (drop_at references _ (2 * outputs_of table) length_references)

  -- So does r's, the first of them.
  constraint-kept : constraint_of (table_left table rows) ≡ constraint_of table
  constraint-kept =
      rw (made_kept, outputs-kept)
      (ap (λ (n : ℕ). get_or (table_left table rows) n 0) (omega arith)
      ∙ sym (get_or-drop end (table_left table rows) 0 0)
      ∙ ap (λ (ws : List ℕ). get_or ws 0 0) rest-kept
      ∙ get_or-drop end table 0 0
      ∙ ap (λ (n : ℕ). get_or table n 0) (omega arith))

  -- Its output words are those left.
  outputs_became : output_words (table_left table rows) ≡ outputs_left table rows
  unfolding output_words
  outputs_became = rw (made_kept, outputs-kept, after-rows) (take_at references _ (2 * outputs_of table) length_references)

  -- Its rows are the given ones, where these begin with the first vertices' own words.
  rows_left : ((v : ℕ) → v < 1 + inputs_of table → HoldsRow rows v (2 * v) (2 * v)) → graph_words (table_left table rows) ≡ rows
  unfolding graph_words
  rows_left own =
      rw (inputs-kept, made_kept, after_header_lem, take_at made _ (2 * made_of table) length_made)
      (rw front (take-append-drop (2 * (1 + inputs_of table)) rows))
    where
      front : own_words 0 (1 + inputs_of table) ≡ take (2 * (1 + inputs_of table)) rows
      front =
          ext_get_or 0 (own_words 0 (1 + inputs_of table)) (take (2 * (1 + inputs_of table)) rows)
          (length_own 0 (1 + inputs_of table) ∙ sym (length-take-le (2 * (1 + inputs_of table)) rows (omega arith)))
          (λ i h.
          let l : i < 2 * (1 + inputs_of table) = omega (arith, length_own 0 (1 + inputs_of table)) in
          words-agree rows (own_words 0 (1 + inputs_of table)) (1 + inputs_of table)
          (λ v m.
          let o = own-holds 0 (1 + inputs_of table) v m in
          record { first = o.first ∙ omega (arith, (own v m).first); second = o.second ∙ omega (arith, (own v m).second) })
          i l
          ∙ sym (get_or-take (2 * (1 + inputs_of table)) rows i 0 l))

-- The function of an output is that of its word.
output-literal : (table : List ℕ) (side k : ℕ) → k < outputs_of table
    → output_function (graph_of table) side k ≡ literal_in table (get_or (output_words table) (side_start table side + k) 0)
unfolding output_function graph_of
output-literal table side k h = rw (graph-outputs table side, side-output-word table side k h)

-- What a literal of a table became: it names a vertex, and has the same function.
record LiteralKept (table : List ℕ) (old new : ℕ) : Type 0 where
  within : new < 2 * vertices_of table
  function : literal_in table new ≡ literal_in table old

-- Rows that a sweep of an accepted table leaves: two words a vertex, and each vertex has its function.
pub record Swept (table : List ℕ) (limits : Limits) (rows : List ℕ) : Type 0 where
  pub accepted : Accepted table
  pub long : length rows ≡ length (graph_words table)
  pub sound : Sound (own_problem table limits) rows

module _ {table : List ℕ} {limits : Limits} {rows : List ℕ} (swept : Swept table limits rows) where
  abbrev left : List ℕ
  left = table_left table rows

  abbrev first : ℕ
  first = 1 + inputs_of table

  whole : promised (made_of table) (outputs_of table) ≤ length table
  whole = swept.accepted.formed.whole

  two_each : length rows ≡ 2 * vertices_of table
  two_each = swept.long ∙ length_graph table whole

  -- The table left has the same inputs,
  pub inputs-left : inputs_of (table_left table rows) ≡ inputs_of table
  inputs-left = inputs-kept table whole rows two_each

  -- as many made vertices
  pub made-left : made_of (table_left table rows) ≡ made_of table
  made-left = made_kept table whole rows two_each

  -- and as many outputs.
  pub outputs_left_lem : outputs_of (table_left table rows) ≡ outputs_of table
  outputs_left_lem = outputs-kept table whole rows two_each

  -- Its r is the same.
  pub constraint-left : constraint_of (table_left table rows) ≡ constraint_of table
  constraint-left = constraint-kept table whole rows two_each

  -- Its rows are those that the sweep left.
  pub graph-left : graph_words (table_left table rows) ≡ rows
  graph-left = rows_left table whole rows two_each swept.sound.downward.own

  row-left : (i : ℕ) → i < made_of table → get_or (rows_of left) i (0, 0) ≡ (first_word rows (first + i), second_word rows (first + i))
  row-left i h =
      let w = rw (graph-left, inputs-left) at (made_row left i (omega (arith, made-left))) in
      row_at_lem left i (0, 0) (omega (arith, made-left)) ∙ ap₂ (λ (x y : ℕ). (x, y)) (sym w.first) (sym w.second)

  below_left : (i : ℕ) → i < made_of table → RowBelow (2 * (first + i)) (get_or (rows_of left) i (0, 0))
  below_left i h =
      let c = count-own table limits in
      rw (row-left i h)
      (record {
        first = swept.sound.downward.first_below (first + i) (omega arith) (omega arith);
        second = swept.sound.downward.second_below (first + i) (omega arith) (omega arith);
      })

  reference-below : (j : ℕ) → j < 2 * outputs_of table → get_or (output_words table) j 0 < 2 * vertices_of table
  reference-below j h = swept.accepted.references j (omega (arith, length_output_words table whole))

  -- What a literal became keeps its function.
  resolve-kept : (r : ℕ) → r < 2 * vertices_of table → LiteralKept table r (resolve rows r)
  resolve-kept r l =
      let c = count-own table limits in
      record {
        within = resolve-within swept.sound.downward r (vertices_of table) (omega arith) l;
        function =
            resolve_function (own_problem table limits) (own-fits table limits swept.accepted).well_formed swept.sound r (rw c l);
      }

  -- Every output keeps its function.
  output-kept : (j : ℕ) → j < 2 * outputs_of table → LiteralKept table (get_or (output_words table) j 0) (get_or (outputs_left table rows) j 0)
  unfolding outputs_left
  output-kept j h =
      subst (LiteralKept table (get_or (output_words table) j 0))
      (sym (get_or-map (resolve rows) (output_words table) j 0)
      ∙ ap (get_or (outputs_left table rows) j) (resolve-first swept.sound.downward 0 (omega arith)))
      (resolve-kept (get_or (output_words table) j 0) (reference-below j h))

  -- The table left is accepted again.
  pub accepted-left : Accepted (table_left table rows)
  accepted-left =
      record {
        formed =
            record {
              header = omega (arith, length_left table whole rows two_each, swept.accepted.formed.header);
              inputs = rw inputs-left swept.accepted.formed.inputs;
              made = rw made-left swept.accepted.formed.made;
              some-output = rw outputs_left_lem swept.accepted.formed.some-output;
              outputs = rw outputs_left_lem swept.accepted.formed.outputs;
              whole = omega (arith, length_left table whole rows two_each, made-left, outputs_left_lem);
            };
        rows = λ i h. rw inputs-left (below_left i (omega (arith, length_rows left, made-left)));
        references = λ j h.
            let l : j < 2 * outputs_of table =
            omega (arith, ap length (outputs_became table whole rows two_each), length_references table whole rows two_each) in
            rw (outputs_became table whole rows two_each, inputs-left, made-left) (output-kept j l).within;
        constraint = rw (constraint-left, inputs-left, made-left) swept.accepted.constraint;
      }

  -- Every vertex has the function that it had.
  pub functions-left : functions_of (graph_of (table_left table rows)) ≡ functions_of (graph_of table)
  unfolding graph_of
  functions-left =
      functions_unique (graph_of left) (functions_of (graph_of table)) accepted-left.rows
      (omega (arith, length_functions (graph_of table), length_rows table, length_rows left, inputs-left, made-left))
      (λ v h. rw inputs-left (function_first (graph_of table) v (omega (arith, inputs-left))))
      (λ i h.
      let c = count-own table limits in
      let l : i < made_of table = omega (arith, length_rows left, made-left) in
      rw (inputs-left, row-left i l) (swept.sound.means (first + i) (omega arith) (omega arith)))

  -- So has every output of both sides.
  pub output-left : (side k : ℕ) → k < outputs_of table → output_function (graph_of (table_left table rows)) side k ≡ output_function (graph_of table) side k
  output-left side k h =
      let j : side_start table side + k < 2 * outputs_of table = omega (arith, side_start-bound table side) in
      output-literal left side k (omega (arith, outputs_left_lem))
      ∙ rw (functions-left, inputs-left, outputs_left_lem, outputs_became table whole rows two_each) (output-kept (side_start table side + k) j).function
      ∙ sym (output-literal table side k h)
