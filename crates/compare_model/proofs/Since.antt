-- What holds of a table since it was loaded, whatever comparisons it went through: r's word stays, every vertex and every output has its function, and
-- a row that is not (x, x) has its operands' functions. It is kept because the sweep keeps them and a refusal changes nothing.
use Prim.Native.Nat.{◌*◌, ◌+◌, ◌<◌, ◌≤◌, suc, zero, ℕ}
use Rattle.aig.proofs.PairsLaws.{pair_then}
use Rattle.aig.specs.Lookup.{HoldsRow, first_word, second_word}
use Rattle.aig.specs.Pairs.{SamePair, straight}
use Rattle.compare_model.proofs.GraphLaws.{allows-value, count-vertices, entry-own, first-own, fits, length_entry, length_graph, literal-own, output_function_lem, own-sound}
use Rattle.compare_model.proofs.LeftLaws.{Swept, accepted-left, constraint-left, functions-left, graph-left, inputs-left, made-left, output-left, outputs_left_lem}
use Rattle.compare_model.proofs.RefusalLaws.{compared-answered, compared-refused, passed}
use Rattle.compare_model.specs.Claims.{allows?, problem_by, rows_by}
use Rattle.compare_model.specs.Compare.{Given, answer_to, answered, compared, graph_words, literal_in, next_rows, output_of, own_rows, problem_of, refusal_of, turned_back}
use Rattle.sweep_model.proofs.Kept.{operands-kept, sweep-steady}
use Rattle.sweep_model.specs.code.Steady.{Steady}
use Rattle.sweep_model.specs.Fit.{Downward, Fit, vertex_count}
use Rattle.sweep_model.specs.Normalise.{merged?}
use Rattle.sweep_model.specs.State.{Problem, literal_function}
use Rattle.table.proofs.FunctionLaws.{value-output}
use Rattle.table.specs.Accepted.{Accepted}
use Rattle.table.specs.Table.{constraint_of, functions_of, graph_of, inputs_of, made_of, output_function, output_value, outputs_of, promised, vertices_of}
use Rattle.table.specs.Values.{Pair}
use Rattle.truth.proofs.Booleans.{clash, not_true}
use Rattle.truth.specs.Truth.{Setting, Truth, value_at}
use lib.Dec.{eqb}
use lib.ListN.{get_or, length}
use lib.Seq.{get_or-take, length-take-le}
use mathlib.Core.Bool.{Bool, cond, false, true}
use mathlib.Core.List.{List, [], ◌∷◌}
use mathlib.Core.Path.{◌∙◌, ◌≡◌, ap, refl, sym}
use native.Mathlib.Decide.{ℕ_discrete}
use native.Mathlib.Omega.{arith}

-- Vertex v has in both lists of rows operands of the same functions, up to order.
abbrev pub SameOperands : List ℕ → List ℕ → List ℕ → ℕ → Type 0
SameOperands table rows other v =
    SamePair (literal_in table (first_word rows v)) (literal_in table (second_word rows v)) (literal_in table (first_word other v))
    (literal_in table (second_word other v))

pub record Since (loaded table : List ℕ) : Type 0 where
  pub before : Accepted loaded
  pub accepted : Accepted table
  pub inputs : inputs_of table ≡ inputs_of loaded
  pub made : made_of table ≡ made_of loaded
  pub outputs : outputs_of table ≡ outputs_of loaded
  pub constraint : constraint_of table ≡ constraint_of loaded
  pub functions : functions_of (graph_of table) ≡ functions_of (graph_of loaded)
  pub output : (side k : ℕ) → k < outputs_of loaded → output_function (graph_of table) side k ≡ output_function (graph_of loaded) side k
  pub operands : (v : ℕ) → 1 + inputs_of loaded ≤ v → v < vertices_of loaded → merged? (graph_words table) v ≡ false
      → SameOperands loaded (graph_words table) (graph_words loaded) v

-- It holds of the table as loaded.
pub since_loaded : {loaded : List ℕ} → Accepted loaded → Since loaded loaded
since_loaded h =
    record {
      before = h;
      accepted = h;
      inputs = refl;
      made = refl;
      outputs = refl;
      constraint = refl;
      functions = refl;
      output = λ side k l. refl;
      operands = λ v l m e. straight refl refl;
    }

-- So every output keeps its value on every setting,
pub since_value : {loaded table : List ℕ} → Since loaded table → (side k : ℕ) (t : Setting) → k < outputs_of loaded → length t ≡ inputs_of loaded
    → output_value (graph_of table) side k t ≡ output_value (graph_of loaded) side k t
unfolding graph_of
since_value {loaded} {table} s side k t l m =
    sym (value-output (graph_of table) t (omega (arith, s.inputs)) side k)
    ∙ ap (λ (f : Truth). value_at f t) (s.output side k l)
    ∙ value-output (graph_of loaded) t m side k

-- and the same settings are allowed.
pub since_allows : {loaded table : List ℕ} → Since loaded table → (t : Setting) → length t ≡ inputs_of loaded → allows? table t ≡ allows? loaded t
since_allows {loaded} {table} s t l =
    sym (allows-value table t (l ∙ sym s.inputs))
    ∙ rw (s.functions, s.inputs, s.constraint) (allows-value loaded t l)

-- Two rows have operands of the same functions.
pub record SameRow (table : List ℕ) (r q : Pair) : Type 0 where
  pub first : literal_in table r.0 ≡ literal_in table q.0
  pub second : literal_in table r.1 ≡ literal_in table q.1

-- As many rows, each with operands of the same functions.
pub record SameRows (table : List ℕ) (rs qs : List Pair) : Type 0 where
  pub count : length rs ≡ length qs
  pub rows : (i : ℕ) → i < length qs → SameRow table (get_or rs i (0, 0)) (get_or qs i (0, 0))

-- So are the next vertices of a comparison's output.
pub since_next : {loaded table : List ℕ} → Since loaded table → (k : ℕ) → k < outputs_of loaded → SameRows loaded (next_rows table k) (next_rows loaded k)
unfolding next_rows
since_next {loaded} {table} s k l = rw s.constraint (go (eqb (constraint_of loaded) 1))
  where
    same : (side : ℕ) → SameRow loaded (constraint_of loaded, output_of table side k) (constraint_of loaded, output_of loaded side k)
    same side =
        record {
          first = refl;
          second = (rw (s.functions, s.inputs) at (output_function_lem table side k)) ∙ s.output side k l ∙ sym (output_function_lem loaded side k);
        }

    both : List ℕ → List Pair
    both t = (constraint_of loaded, output_of t 1 k) ∷ (constraint_of loaded, output_of t 2 k) ∷ []

    rows : (i : ℕ) → i < 2 → SameRow loaded (get_or (both table) i (0, 0)) (get_or (both loaded) i (0, 0))
    rows zero h = same 1
    rows (suc zero) h = same 2
    rows (suc (suc i)) h = absurd (omega arith)

    go : (b : Bool) → SameRows loaded (cond b [] (both table)) (cond b [] (both loaded))
    go true = record { count = refl; rows = λ i h. absurd (omega arith) }
    go false = record { count = refl; rows = rows }

-- A comparison that is not refused.
module _ (g : Given) (h : refusal_of g ≡ 0) where
  -- Its problem and rows are what a sweep is started on.
  pub given-fits : Fit (problem_by g.table g) (rows_by g.table g)
  given-fits = fits g.table g.output g.limits (passed g h).table (passed g h).output

  -- The state that the sweep leaves.
  pub given-steady : Steady (problem_by g.table g) (rows_by g.table g) (answer_to g).left
  unfolding answer_to
  given-steady = sweep-steady given-fits

  whole : promised (made_of g.table) (outputs_of g.table) ≤ length g.table
  whole = (passed g h).table.formed.whole

  -- There are two words a vertex.
  pub rows_long : length (answer_to g).left.rows ≡ 2 * vertex_count (problem_by g.table g)
  rows_long =
      given-steady.moved.long
      ∙ length_entry g.table g.output g.limits whole
      ∙ ap (λ (n : ℕ). 2 * n) (sym (count-vertices g.table g.output g.limits))

  -- So those of the table's vertices are what a sweep leaves,
  pub given-swept : Swept g.table g.limits (own_rows g.table (answer_to g).left.rows)
  given-swept =
      record {
        accepted = (passed g h).table;
        long =
            length-take-le (2 * vertices_of g.table) (answer_to g).left.rows
            (omega (arith, rows_long, count-vertices g.table g.output g.limits))
            ∙ sym (length_graph g.table whole);
        sound = own-sound g.table g.output g.limits given-steady.sound;
      }

  -- and those of the table left.
  pub given-rows : graph_words (answered g (answer_to g)).table ≡ own_rows g.table (answer_to g).left.rows
  unfolding answered
  given-rows = graph-left given-swept

  -- A vertex of the table has its own words among those left.
  left-own : (v : ℕ) → v < vertices_of g.table
      → HoldsRow (own_rows g.table (answer_to g).left.rows) v (first_word (answer_to g).left.rows v) (second_word (answer_to g).left.rows v)
  left-own v m =
      record {
        first = get_or-take (2 * vertices_of g.table) (answer_to g).left.rows (2 * v) 0 (omega arith);
        second = get_or-take (2 * vertices_of g.table) (answer_to g).left.rows (2 * v + 1) 0 (omega arith);
      }

  -- It has, where it was not merged, the operand functions that it had, up to order.
  own_operands : (v : ℕ) → 1 + inputs_of g.table ≤ v → v < vertices_of g.table → merged? (answer_to g).left.rows v ≡ false
      → SameOperands g.table (answer_to g).left.rows (graph_words g.table) v
  own_operands v made m unmerged =
      pair_then
      (straight (sym (own (first_word rows v) (omega (arith, left.first_below v least within)))) (sym (own (second_word rows v) (omega (arith, left.second_below v least within)))))
      (pair_then (operands-kept given-fits given-steady v least within unmerged)
      (straight
      (ap (literal_function here) w.first ∙ own (first_word (graph_words g.table) v) (omega (arith, w.first, entry.first_below v least within)))
      (ap (literal_function here) w.second ∙ own (second_word (graph_words g.table) v) (omega (arith, w.second, entry.second_below v least within)))))
    where
      here : Problem
      here = problem_by g.table g

      rows : List ℕ
      rows = (answer_to g).left.rows

      own : (r : ℕ) → r < 2 * vertices_of g.table → literal_function here r ≡ literal_in g.table r
      own = literal-own g.table g.output g.limits

      w : HoldsRow (rows_by g.table g) v (first_word (graph_words g.table) v) (second_word (graph_words g.table) v)
      w = entry-own g.table g.output g.limits v m whole

      least : here.first ≤ v
      least = rw (first-own g.table g.output g.limits) made

      within : v < vertex_count here
      within = omega (arith, count-vertices g.table g.output g.limits)

      left : Downward here.first (vertex_count here) rows
      left = given-steady.sound.downward

      entry : Downward here.first (vertex_count here) (rows_by g.table g)
      entry = given-fits.sound.downward

  since_answered : {loaded : List ℕ} → Since loaded g.table → Since loaded (answered g (answer_to g)).table
  unfolding answered problem_of
  since_answered {loaded} s =
      record {
        before = s.before;
        accepted = accepted-left given-swept;
        inputs = inputs-left given-swept ∙ s.inputs;
        made = made-left given-swept ∙ s.made;
        outputs = outputs_left_lem given-swept ∙ s.outputs;
        constraint = constraint-left given-swept ∙ s.constraint;
        functions = functions-left given-swept ∙ s.functions;
        output = λ side k l. output-left given-swept side k (rw s.outputs l) ∙ s.output side k l;
        operands = λ v l m e.
            let made : 1 + inputs_of g.table ≤ v = omega (arith, s.inputs) in
            let inside : v < vertices_of g.table = omega (arith, s.inputs, s.made) in
            let within : v < vertex_count (problem_by g.table g) = omega (arith, count-vertices g.table g.output g.limits) in
            let o = left-own v inside in
            let w = entry-own g.table g.output g.limits v inside whole in
            let unmerged : merged? (answer_to g).left.rows v ≡ false = rw (given-rows, o.first, o.second) at e in
            rw (given-rows, o.first, o.second)
            (pair_then (rw (s.functions, s.inputs) at (own_operands v made inside unmerged))
            (s.operands v l m
            (not_true (merged? (graph_words g.table) v) (λ i. clash (given-steady.moved.still v made within (rw (w.first, w.second) i)) unmerged))));
      }

-- Every comparison keeps it, refused or not.
pub since_compared : (g : Given) {loaded : List ℕ} → Since loaded g.table → Since loaded (compared g).table
unfolding turned_back
since_compared g s =
    elim (ℕ_discrete (refusal_of g) 0) [
      | yes e ↦ rw (compared-answered g e) (since_answered g e s)
      | no e ↦ rw (compared-refused g e) s
    ]
