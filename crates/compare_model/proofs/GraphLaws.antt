-- The rows and the problem that a table gives the sweep.
use Prim.Native.Nat.{◌*◌, ◌+◌, ◌-◌, ◌<◌, ◌≤◌, suc, zero, ℕ}
use Rattle.aig.proofs.OwnLaws.{length_own, own-holds}
use Rattle.aig.proofs.TruthLaws.{functions}
use Rattle.aig.proofs.ValuesLaws.{value_true}
use Rattle.aig.specs.Lookup.{HoldsRow, first_word, own_words, second_word}
use Rattle.compare_model.proofs.NextLaws.{count_extended, extended_fits, front-sound, function_front, function_next, length_row_words, literal-front, row-front, row_next}
use Rattle.compare_model.specs.Claims.{allows?}
use Rattle.compare_model.specs.Compare.{entry_rows, graph_words, literal_in, looked_at, next_rows, output_of, own_rows, problem_of, row_function, row_words}
use Rattle.sweep_model.proofs.Functions.{own_function}
use Rattle.sweep_model.specs.Fit.{Fit, Sound, vertex_count}
use Rattle.sweep_model.specs.State.{Limits, Problem, function_of, literal_function}
use Rattle.table.proofs.AcceptedLaws.{row_words-below, side-output-below}
use Rattle.table.proofs.FunctionLaws.{function_false, function_first, function_row, functions-perfect, length_functions, value-output, value-reference}
use Rattle.table.proofs.LayoutLaws.{graph-outputs, length_rows, row_at_lem}
use Rattle.table.specs.Accepted.{Accepted, RowBelow}
use Rattle.table.specs.Table.{constraint_of, functions_of, graph_of, inputs_of, made_of, output_function, output_value, outputs_of, promised, vertices_of}
use Rattle.table.specs.Values.{Pair, row_value}
use Rattle.truth.proofs.Values.{value-conj, value-constant, value-invert}
use Rattle.truth.specs.Truth.{Setting, Truth, conj, constantly, invert, value_at}
use borrow.Author.Tests.{eq-eqb, ne_eqb}
use lib.ListN.{get_or-append, drop, get_or, length, length-append, length-drop, length-take, take}
use lib.Seq.{get_or-append-add, get_or-drop, get_or-take}
use mathlib.Core.Bool.{◌&&◌, false, not, true}
use mathlib.Core.List.{List, [], ◌++◌, ◌∷◌}
use mathlib.Core.Path.{◌∙◌, ◌≡◌, ap, ap₂, refl, subst, sym}
use native.Mathlib.Decide.{ℕ_discrete}
use native.Mathlib.Omega.{arith}

-- The row of the next vertex of a side.
abbrev next_row : List ℕ → ℕ → ℕ → Pair
next_row table side output = (constraint_of table, output_of table side output)

-- Where r is 1 there is no next vertex and the outputs are looked at; else there are two, and they are.
data Next (table : List ℕ) (output : ℕ) : Type 0 where
  none : constraint_of table ≡ 1 → next_rows table output ≡ [] → ((x n : ℕ) → looked_at table x n ≡ x) → Next table output
  both : next_rows table output ≡ next_row table 1 output ∷ next_row table 2 output ∷ [] → ((x n : ℕ) → looked_at table x n ≡ 2 * n) → Next table output

next-cases : (table : List ℕ) (output : ℕ) → Next table output
unfolding next_rows looked_at
next-cases table output =
    elim (ℕ_discrete (constraint_of table) 1) [
      | yes e ↦ none e (rw (eq-eqb (constraint_of table) 1 e)) (λ x n. rw (eq-eqb (constraint_of table) 1 e))
      | no e ↦ both (rw (ne_eqb (constraint_of table) 1 e)) (λ x n. rw (ne_eqb (constraint_of table) 1 e))
    ]

module _ (table : List ℕ) where
  -- The words of the table's rows.
  abbrev made_words : List ℕ
  made_words = take (2 * made_of table) (drop 3 table)

  abbrev first : ℕ
  first = 1 + inputs_of table

  -- There are two words a vertex.
  pub length_graph : promised (made_of table) (outputs_of table) ≤ length table → length (graph_words table) ≡ 2 * vertices_of table
  unfolding graph_words
  length_graph h =
      let l : length made_words ≡ 2 * made_of table = simp (length-take, length-drop) (omega arith) in
      omega (arith, length-append (own_words 0 first) made_words, length_own 0 first)

  -- A first vertex holds its own literal twice.
  pub own_row : (v : ℕ) → v < 1 + inputs_of table → HoldsRow (graph_words table) v (2 * v) (2 * v)
  unfolding graph_words
  own_row v h =
      let o = own-holds 0 first v h in
      let l = length_own 0 first in
      record {
        first = get_or-append (own_words 0 first) made_words 0 (2 * v) (omega arith) ∙ o.first ∙ omega arith;
        second = get_or-append (own_words 0 first) made_words 0 (2 * v + 1) (omega arith) ∙ o.second ∙ omega arith;
      }

  -- A made vertex has the words of its row.
  pub made_row : (i : ℕ) → i < made_of table
      → HoldsRow (graph_words table) (1 + inputs_of table + i) (get_or table (3 + 2 * i) 0) (get_or table (3 + 2 * i + 1) 0)
  unfolding graph_words
  made_row i h =
      record {
        first = word (2 * i) (2 * (first + i)) (omega arith) (omega arith);
        second = word (2 * i + 1) (2 * (first + i) + 1) (omega arith) (omega arith) ∙ ap (λ (n : ℕ). get_or table n 0) (omega arith);
      }
    where
      word : (j at : ℕ) → j < 2 * made_of table → at ≡ 2 * first + j → get_or (own_words 0 first ++ made_words) at 0 ≡ get_or table (3 + j) 0
      word j at k e =
          let f : at ≡ length (own_words 0 first) + j = omega (arith, length_own 0 first) in
          rw f (get_or-append-add (own_words 0 first) made_words j 0 ∙ get_or-take (2 * made_of table) (drop 3 table) j 0 k ∙ get_or-drop 3 table j 0)

  -- What holds of each row's vertex holds of each made vertex.
  pub each-made : (P : ℕ → Type 0) → ((i : ℕ) → i < made_of table → P (1 + inputs_of table + i))
      → (v : ℕ) → 1 + inputs_of table ≤ v → v < vertices_of table → P v
  each-made P rows v l h = let e : first + (v - first) ≡ v = omega arith in subst P e (rows (v - first) (omega arith))

  -- The table's vertices alone as a problem; no literal is looked at.
  abbrev pub own_problem : Limits → Problem
  own_problem limits =
      record { inputs = inputs_of table; functions = functions_of (graph_of table); first = 1 + inputs_of table; left = 0; right = 0; limits = limits }

  -- There are as many functions as vertices.
  pub count-own : (limits : Limits) → vertex_count (own_problem limits) ≡ vertices_of table
  unfolding graph_of
  count-own limits = length_functions (graph_of table) ∙ omega (arith, length_rows table)

  -- Where the table is accepted a sweep could be started on them.
  pub own-fits : (limits : Limits) → Accepted table → Fit (own_problem limits) (graph_words table)
  unfolding graph_of
  own-fits limits h =
      let c : vertex_count own ≡ vertices_of table = count-own limits in
      record {
        well_formed =
            record {
              perfect = λ v l. functions-perfect (graph_of table) v;
              constant = function_false (graph_of table);
              inputs = λ v l m. function_first (graph_of table) v (omega arith);
              some_first = omega arith;
              first-few = omega arith;
              first-within = omega arith;
              left-within = omega arith;
              right-within = omega arith;
            };
        sound =
            record {
              downward =
                  record {
                    long = omega (arith, length_graph h.formed.whole);
                    own = own_row;
                    first_below = λ v l m.
                        each-made (λ u. first_word (graph_words table) u < 2 * u) (λ i j. rw (made_row i j).first (row_words-below h i j).first) v l
                        (omega arith);
                    second_below = λ v l m.
                        each-made (λ u. second_word (graph_words table) u < 2 * u) (λ i j. rw (made_row i j).second (row_words-below h i j).second) v l
                        (omega arith);
                  };
              means = λ v l m. each-made Means means v l (omega arith);
            };
      }
    where
      own : Problem
      own = own_problem limits

      Means : ℕ → Type 0
      Means u = function_of own u ≡ conj (literal_function own (first_word (graph_words table) u)) (literal_function own (second_word (graph_words table) u))

      means : (i : ℕ) → i < made_of table → Means (first + i)
      means i j =
          function_row (graph_of table) h.rows i (omega (arith, length_rows table))
          ∙ ap (row_value invert conj (constantly (inputs_of table) false) (functions_of (graph_of table))) (row_at_lem table i (0, 0) j)
          ∙ ap₂ (λ (x y : ℕ). conj (literal_function own x) (literal_function own y)) (sym (made_row i j).first) (sym (made_row i j).second)

  -- On a setting r's function has the value that allows it or not,
  pub allows-value : (s : Setting) → length s ≡ inputs_of table → value_at (literal_in table (constraint_of table)) s ≡ allows? table s
  unfolding allows? graph_of
  allows-value s l = value-reference (graph_of table) s l (constraint_of table)

  -- which is true where r is 1,
  allows-one : (s : Setting) → length s ≡ inputs_of table → constraint_of table ≡ 1 → allows? table s ≡ true
  unfolding graph_of
  allows-one s l e =
      sym (allows-value s l)
      ∙ ap (λ (r : ℕ). value_at (literal_in table r) s) e
      ∙ ap (λ (f : Truth). value_at f s) (value_true (functions (inputs_of table)) (functions_of (graph_of table)) (functions-perfect (graph_of table)) (function_false (graph_of table)))
      ∙ value-invert (constantly (inputs_of table) false) s
      ∙ ap not (value-constant (inputs_of table) false s)

  -- and an output's function the output's value.
  pub output_function_lem : (side k : ℕ) → literal_in table (output_of table side k) ≡ output_function (graph_of table) side k
  unfolding output_function graph_of
  output_function_lem side k = rw (graph-outputs table side)

  output_value_lem : (side k : ℕ) (s : Setting) → length s ≡ inputs_of table → value_at (literal_in table (output_of table side k)) s ≡ output_value (graph_of table) side k s
  unfolding graph_of
  output_value_lem side k s l = ap (λ (f : Truth). value_at f s) (output_function_lem side k) ∙ value-output (graph_of table) s l side k

  module _ (output : ℕ) (limits : Limits) where
    abbrev problem : Problem
    problem = problem_of table output limits

    abbrev next : List Pair
    next = next_rows table output

    -- There are as many functions as vertices of the table and next ones.
    pub count-vertices : vertex_count (problem_of table output limits) ≡ vertices_of table + length (next_rows table output)
    unfolding problem_of
    count-vertices = count_extended (own_problem limits) next 0 0 ∙ ap (λ (n : ℕ). n + length next) (count-own limits)

    -- The first vertices are the table's.
    pub first-own : (problem_of table output limits).first ≡ 1 + inputs_of table
    unfolding problem_of
    first-own = refl

    -- There are two next ones or none.
    pub next-few : length (next_rows table output) ≤ 2
    next-few = few (next-cases table output)
      where
        few : Next table output → length (next_rows table output) ≤ 2
        few (none one e looked) = rw e (omega arith)
        few (both e looked) = rw e (omega arith)

    -- A vertex of the table has its own words among the entry rows.
    pub entry-own : (v : ℕ) → v < vertices_of table → promised (made_of table) (outputs_of table) ≤ length table
        → HoldsRow (entry_rows table output) v (first_word (graph_words table) v) (second_word (graph_words table) v)
    unfolding entry_rows
    entry-own v h whole = row-front (graph_words table) next (vertices_of table) (length_graph whole) v h

    -- A next one has its own.
    pub entry_next : (i : ℕ) → i < length (next_rows table output) → promised (made_of table) (outputs_of table) ≤ length table
        → HoldsRow (entry_rows table output) (vertices_of table + i) (get_or (next_rows table output) i (0, 0)).0 (get_or (next_rows table output) i (0, 0)).1
    unfolding entry_rows
    entry_next i h whole = row_next (graph_words table) next (vertices_of table) (length_graph whole) i h

    -- There are two words a vertex.
    pub length_entry : promised (made_of table) (outputs_of table) ≤ length table
        → length (entry_rows table output) ≡ 2 * (vertices_of table + length (next_rows table output))
    unfolding entry_rows
    length_entry whole = length-append (graph_words table) (row_words next) ∙ omega (arith, length_graph whole, length_row_words next)

    -- A literal of the table has its function among them.
    pub literal-own : (r : ℕ) → r < 2 * vertices_of table → literal_function (problem_of table output limits) r ≡ literal_in table r
    unfolding problem_of
    literal-own r h = literal-front (own_problem limits) next 0 0 r (rw (count-own limits) h)

    -- A vertex of the table has its function,
    pub function_own : (v : ℕ) → v < vertices_of table
        → function_of (problem_of table output limits) v ≡ get_or (functions_of (graph_of table)) v (constantly (inputs_of table) false)
    unfolding problem_of
    function_own v h = function_front (own_problem limits) next 0 0 v (rw (count-own limits) h)

    -- and a next one that of its row.
    pub next_function : (i : ℕ) → i < length (next_rows table output)
        → function_of (problem_of table output limits) (vertices_of table + i) ≡ row_function table (get_or (next_rows table output) i (0, 0))
    unfolding problem_of
    next_function i h = ap (λ (n : ℕ). function_of problem (n + i)) (sym (count-own limits)) ∙ function_next (own_problem limits) next 0 0 i h

    -- Of sound rows, those of the table's vertices are sound for them.
    pub own-sound : {rows : List ℕ} → Sound (problem_of table output limits) rows → Sound (own_problem limits) (own_rows table rows)
    unfolding problem_of
    own-sound {rows} h =
        subst (λ (n : ℕ). Sound (own_problem limits) (take (2 * n) rows)) (count-own limits)
        (front-sound (own_problem limits) next _ _ h (omega (arith, count-own limits)))

    module _ (h : Accepted table) (k : output < outputs_of table) where
      -- The next vertices refer to those of the table.
      below : Next table output → (i : ℕ) → i < length (next_rows table output)
          → RowBelow (2 * vertices_of table) (get_or (next_rows table output) i (0, 0))
      below (none one e looked) i l = let m : i < 0 = rw e at l in absurd (omega arith)
      below (both e looked) i l = rw e (go i (rw e at l))
        where
          row : (side : ℕ) → RowBelow (2 * vertices_of table) (next_row table side output)
          row side = record { first = h.constraint; second = side-output-below h side output k }

          go : (i : ℕ) → i < 2 → RowBelow (2 * vertices_of table) (get_or (next_row table 1 output ∷ next_row table 2 output ∷ []) i (0, 0))
          go zero l = row 1
          go (suc zero) l = row 2
          go (suc (suc i)) l = absurd (omega arith)

      pub next-below : (i : ℕ) → i < length (next_rows table output) → RowBelow (2 * vertices_of table) (get_or (next_rows table output) i (0, 0))
      next-below = below (next-cases table output)

      -- A literal looked at names a vertex.
      looked_within : Next table output → (side n : ℕ) → n < vertices_of table + 2
          → looked_at table (output_of table side output) n < 2 * (vertices_of table + length (next_rows table output))
      looked_within (none one e looked) side n l = rw (e, looked (output_of table side output) n) (omega (arith, side-output-below h side output k))
      looked_within (both e looked) side n l = rw (e, looked (output_of table side output) n) (omega arith)

      -- An accepted table gives the sweep what it is started on.
      pub fits : Fit (problem_of table output limits) (entry_rows table output)
      unfolding problem_of entry_rows
      fits =
          let c = count-own limits in
          let cases = next-cases table output in
          extended_fits (own_problem limits) next _ _ (own-fits limits h) (length_graph h.formed.whole ∙ rw c refl)
          (λ i l. rw c (next-below i l))
          (rw c (looked_within cases 1 (vertices_of table) (omega arith)))
          (rw c (looked_within cases 2 (vertices_of table + 1) (omega arith)))

      -- On a setting a literal looked at has the value of r AND the output of its side.
      looked_value : Next table output → (side i n : ℕ) → n ≡ vertices_of table + i → i < 2
          → get_or (next_row table 1 output ∷ next_row table 2 output ∷ []) i (0, 0) ≡ next_row table side output
          → (s : Setting) → length s ≡ inputs_of table
          → value_at (literal_function (problem_of table output limits) (looked_at table (output_of table side output) n)) s
          ≡ allows? table s && output_value (graph_of table) side output s
      looked_value (none one e looked) side i n at few row s l =
          rw (looked (output_of table side output) n, allows-one s l one)
          (ap (λ (f : Truth). value_at f s) (literal-own (output_of table side output) (side-output-below h side output k)) ∙ output_value_lem side output s l)
      looked_value (both e looked) side i n at few row s l =
          rw (looked (output_of table side output) n)
          (ap (λ (f : Truth). value_at f s)
          (own_function (problem_of table output limits) n ∙ ap (function_of (problem_of table output limits)) at ∙ further)
          ∙ value-conj (literal_in table (constraint_of table)) (literal_in table (output_of table side output)) s
          ∙ ap₂ ◌&&◌ (allows-value s l) (output_value_lem side output s l))
        where
          further : function_of (problem_of table output limits) (vertices_of table + i) ≡ row_function table (next_row table side output)
          further = next_function i (rw e few) ∙ ap (row_function table) (ap (λ (rs : List Pair). get_or rs i (0, 0)) e ∙ row)

      -- So it is on both sides.
      pub left-value : (s : Setting) → length s ≡ inputs_of table
          → value_at (literal_function (problem_of table output limits) (problem_of table output limits).left) s
          ≡ allows? table s && output_value (graph_of table) 1 output s
      unfolding problem_of
      left-value = looked_value (next-cases table output) 1 0 (vertices_of table) (omega arith) (omega arith) refl

      pub right-value : (s : Setting) → length s ≡ inputs_of table
          → value_at (literal_function (problem_of table output limits) (problem_of table output limits).right) s
          ≡ allows? table s && output_value (graph_of table) 2 output s
      unfolding problem_of
      right-value = looked_value (next-cases table output) 2 1 (vertices_of table + 1) refl (omega arith) refl
