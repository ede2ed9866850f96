-- A task and a graph that pass the tests are what a sweep can be asked.
use Prim.Native.Nat.{◌*◌, ◌+◌, ◌-◌, ◌<◌, ◌≤◌, ℕ}
use Rattle.aig.specs.Lookup.{first_word, second_word}
use Rattle.bdd.specs.code.Rows.{LIMIT}
use Rattle.sweep.specs.code.Sweep.{SweepAnswers}
use Rattle.sweep_model.specs.Sweep.{sweep}
use Rattle.run_sweep.specs.code.Asked.{Asked, VERTICES}
use Rattle.sweep_model.specs.Fit.{Downward, Fit}
use Rattle.sweep_model.specs.State.{Problem, function_of, literal_function}
use Rattle.sweep_state.specs.code.Ending.{Closed}
use Rattle.sweep_state.specs.code.Meet.{Workspace, workspace}
use Rattle.sweep_state.specs.code.Arrays.{arrays}
use Rattle.sweep_state.specs.code.Words.{posed}
use Rattle.sweep_state.specs.declared.end.Ended.{Ended}
use Rattle.sweep_state.specs.declared.task.Task.{Task}
use Rattle.sweep_start.specs.code.Start.{HasFunctions, SweepAsked}
use Rattle.table.proofs.FunctionLaws.{function_false, function_first, function_row, functions-perfect, length_functions}
use Rattle.table.proofs.LayoutLaws.{length_pairs, pairs-at}
use Rattle.table.specs.Accepted as table
use Rattle.table.specs.Table as words
use Rattle.table.specs.Table.{Graph, functions_of, row_at}
use Rattle.table.specs.Values.{row_value}
use Rattle.truth.specs.Truth.{Truth, conj, constantly, invert}
use lib.ListN.{drop, get_or, length}
use mathlib.Core.Bool.{false}
use mathlib.Core.List.{List, []}
use mathlib.Core.Path.{◌∙◌, ◌≡◌, ap, subst, sym}
use native.Mathlib.Omega.{arith}

module _ (t : Task) (pairs : List ℕ) (h : Asked t pairs) where
  -- The made vertices.
  abbrev made : ℕ
  made = t.count - t.first

  -- The graph of the words; no outputs are asked of it.
  abbrev graph : Graph
  graph = record { inputs = t.inputs; rows = words.pairs made (drop (2 * t.first) pairs); left = []; right = [] }

  -- The functions of its vertices.
  abbrev functions : List Truth
  functions = functions_of graph

  -- Row i holds the words of its vertex.
  row : (i : ℕ) → i < made → get_or graph.rows i (0, 0) ≡ row_at pairs (2 * (1 + t.inputs + i))
  row i l = pairs-at made (2 * t.first) i pairs (0, 0) l ∙ ap (row_at pairs) (omega (arith, h.named.first))

  -- The rows refer downwards.
  down : table.Downward (1 + t.inputs) graph.rows
  down i l =
      let m : i < made = omega (arith, length_pairs made (drop (2 * t.first) pairs), l) in
      let v : ℕ = 1 + t.inputs + i in
      subst (table.RowBelow (2 * v)) (sym (row i m))
      (record {
        first = h.downward.first_below v (omega (arith, h.named.first)) (omega (arith, h.named.first));
        second = h.downward.second_below v (omega (arith, h.named.first)) (omega (arith, h.named.first));
      })

  -- There are as many functions as vertices.
  count : length functions ≡ t.count
  count = length_functions graph ∙ omega (arith, length_pairs made (drop (2 * t.first) pairs), h.named.first, h.named.first-within)

  abbrev problem : Problem
  problem = posed t functions

  -- A made vertex has the function that its row stands for.
  abbrev Means : ℕ → Type 0
  Means v = function_of problem v ≡ conj (literal_function problem (first_word pairs v)) (literal_function problem (second_word pairs v))

  means : (i : ℕ) → i < made → Means (1 + t.inputs + i)
  means i l =
      function_row graph down i (omega (arith, length_pairs made (drop (2 * t.first) pairs), l))
      ∙ ap (row_value invert conj (constantly t.inputs false) functions) (row i l)

  made-means : (v : ℕ) → t.first ≤ v → v < length functions → Means v
  made-means v l m =
      let e : 1 + t.inputs + (v - t.first) ≡ v = omega (arith, h.named.first) in
      subst Means e (means (v - t.first) (omega (arith, count)))

  -- The words are the rows of a graph whose vertices have these functions.
  fit : Fit (posed t functions) pairs
  fit =
      record {
        well_formed =
            record {
              perfect = λ v l. functions-perfect graph v;
              constant = function_false graph;
              inputs = λ v l m. function_first graph v (omega (arith, h.named.first));
              some_first = omega (arith, h.named.first);
              first-few = omega (arith, h.named.first);
              first-within = omega (arith, count, h.named.first-within);
              left-within = omega (arith, count, h.named.left);
              right-within = omega (arith, count, h.named.right);
            };
        sound = record { downward = subst (λ (n : ℕ). Downward t.first n pairs) (sym count) h.downward; means = made-means };
      }

  has-functions : HasFunctions t functions pairs
  has-functions = record { fit = fit; count = count }

  -- The other slices, long enough.
  module _ (look diagrams stages rows marks : List ℕ) where
    abbrev before : Workspace
    before = workspace pairs (arrays diagrams stages rows marks)

    -- The sweep can be asked.
    pub asked : 2 * VERTICES ≤ length look → 2 * VERTICES ≤ length diagrams → 2 * VERTICES ≤ length stages → 4 * LIMIT ≤ length rows → VERTICES ≤ length marks
        → SweepAsked t look before
    asked look-long diagrams-long stages-long rows_long marks-long =
        record {
          functions = functions;
          has-functions = has-functions;
          few = omega (arith, h.named.count);
          narrow = omega (arith, h.named.inputs);
          modest = omega (arith, h.limited.size.1);
          most = h.limited.rows.1;
          short = omega (arith, h.limited.steps.1);
          look-long = omega (arith, h.named.count);
          diagrams-long = omega (arith, h.named.count);
          stages-long = omega (arith, h.named.count);
          rows_long = omega (arith, h.limited.rows.1);
          marks-long = omega (arith, h.named.count);
        }

  -- What the words are where the sweep has ended.
  pub closed :
      {after : Workspace} {r : Ended} → ((f : List Truth) → HasFunctions t f pairs → SweepAnswers t f (sweep (posed t f) pairs) after r)
      → Closed t functions after r
  closed answers = (answers functions has-functions).closed
