-- Each output of the table has its file's value on every setting, and its file's function; so has the constraint.
use Prim.Native.Nat.{◌*◌, ◌+◌, ◌-◌, ◌<◌, ℕ}
use Rattle.aig.proofs.TruthLaws.{functions}
use Rattle.aig.proofs.ValuesLaws.{bits}
use Rattle.aig.specs.Lookup.{first_word, second_word}
use Rattle.aig.specs.Values.{literal_value}
use Rattle.load_model.proofs.PairLaws.{pair-good}
use Rattle.load_model.proofs.PairMeaningLaws.{pair-means}
use Rattle.load_model.proofs.TableLaws.{length_rows_after, row-after, rows-downward, table-constraint, table-graph, table-inputs}
use Rattle.load_model.specs.Build.{Build, build_pair}
use Rattle.load_model.specs.code.Good.{Good}
use Rattle.load_model.specs.code.Grown.{rows_after}
use Rattle.load_model.specs.Load.{loaded_graph, table_of}
use Rattle.load_model.specs.code.Valued.{Begins, PairMeans, StandsFor, Valuation, Valued}
use Rattle.netlist_model.proofs.ValueLaws.{function-from-ands, value-from-ands}
use Rattle.netlist_model.specs.Meaning.{allowed?, constraint_function, file_function, file_value, operation_function, vertex_results}
use Rattle.netlist_model.specs.Netlist.{Netlist}
use Rattle.netlist_model.specs.declared.Operation.{Operation}
use Rattle.table.proofs.FunctionLaws.{first_function_false, first_functions-perfect, length_first_functions}
use Rattle.table.proofs.MeaningLaws.{row_value_lem, value-kept, values-good}
use Rattle.table.specs.Accepted.{RowBelow}
use Rattle.table.specs.Table.{constraint_of, first_functions, functions_of, inputs_of, output_function, output_value, outputs, values_on}
use Rattle.table.specs.Values.{row_value, vertex_values}
use Rattle.truth.specs.Truth.{Perfect, Setting, Truth, conj, constantly, invert}
use lib.ListN.{get_or, length}
use mathlib.Core.Bool.{Bool, ◌&&◌, false, not}
use mathlib.Core.List.{List, ◌∷◌}
use mathlib.Core.Path.{◌∙◌, ◌≡◌, ap, refl, subst}
use native.Mathlib.Omega.{arith}

module _ {A : Type 0} {Sound : A → Type 0} {inverse : A → A} {both : A → A → A} {falsum : A} {us : List A}
    (first : Valuation Sound inverse both falsum us) (n : ℕ) (count : length us ≡ 1 + n) where
  -- The values of the vertices of a graph, given those of the constant and the inputs.
  abbrev graph_values : Build → List A
  graph_values b = vertex_values inverse both falsum us (rows_after n b)

  begins : (b : Build) → Begins falsum (graph_values b) n us
  begins b = record { count = count; each = λ i h. value-kept inverse both falsum us (rows_after n b) i falsum (omega arith) }

  valuation : (b : Build) → Valuation Sound inverse both falsum (graph_values b)
  valuation b =
      record {
        laws = first.laws;
        sound = values-good first.laws us (rows_after n b) first.sound;
        constant = (begins b).each 0 (omega arith) ∙ first.constant;
      }

  -- Each made vertex of a good graph has the value of its AND.
  valued : {b : Build} → Good n b → Valued inverse both falsum (graph_values b) n b
  valued {b} g v h k = subst Value (omega arith) (at (v - (1 + n)) (omega arith))
    where
      Value : ℕ → Type 0
      Value v = get_or (graph_values b) v falsum ≡ row_value inverse both falsum (graph_values b) (first_word b.words v, second_word b.words v)

      at : (i : ℕ) → i < b.count - (1 + n) → Value (1 + n + i)
      at i l =
          let within : i < length (rows_after n b) = omega (arith, length_rows_after n b) in
          let below : RowBelow (2 * (length us + i)) (get_or (rows_after n b) i (0, 0)) = rw count (rows-downward g i within) in
          rw (← count) (row_value_lem inverse both falsum us (rows_after n b) i within below)
          ∙ ap (row_value inverse both falsum (graph_values b)) (row-after n b i l)

-- Over any domain: the graph of two netlists means what the netlists do.
pub graph-means : {A : Type 0} {Sound : A → Type 0} {inverse : A → A} {both : A → A → A} {falsum : A} {us : List A}
    → Valuation Sound inverse both falsum us → {operation : Operation → A → A → A} → StandsFor inverse both falsum operation
    → (d e : Netlist) → length us ≡ 1 + d.inputs → d.inputs ≡ e.inputs
    → PairMeans inverse both falsum operation (vertex_values inverse both falsum us (rows_after d.inputs (build_pair d e).build)) us d e
graph-means first same d e count inputs =
    pair-means (valuation first d.inputs count (build_pair d e).build) same d e (begins first d.inputs count (build_pair d e).build) inputs
    (valued first d.inputs count (pair-good d e inputs))

-- Bits on a setting.
pub bit_valuation : (s : Setting) → Valuation (λ (x : Bool). Unit {0}) not ◌&&◌ false (false ∷ s)
bit_valuation s = record { laws = bits; sound = λ v. tt; constant = refl }

-- Functions of n inputs.
pub function_valuation : (n : ℕ) → Valuation (Perfect n) invert conj (constantly n false) (first_functions n)
function_valuation n = record { laws = functions n; sound = first_functions-perfect n; constant = first_function_false n }

module _ (d e : Netlist) (inputs : d.inputs ≡ e.inputs) where
  -- The functions of the graph of two netlists.
  pub functions-mean :
      PairMeans invert conj (constantly d.inputs false) operation_function
      (vertex_values invert conj (constantly d.inputs false) (first_functions d.inputs) (rows_after d.inputs (build_pair d e).build))
      (first_functions d.inputs) d e
  functions-mean =
      graph-means (function_valuation d.inputs) (function-from-ands d.inputs) d e (omega (arith, length_first_functions d.inputs)) inputs

  module _ (counts : length d.outputs ≡ length e.outputs) (old : List ℕ) where
    -- On every setting the outputs of side 1 have the first file's values,
    pub left-value : (k : ℕ) (s : Setting) → k < length d.outputs → length s ≡ d.inputs → output_value (loaded_graph d e old) 1 k s ≡ file_value d k s
    unfolding output_value outputs values_on file_value
    left-value k s l h =
        rw (table-graph d e inputs old counts) ((graph-means (bit_valuation s) value-from-ands d e (omega arith) inputs).left k l)

    -- and those of side 2 the second's.
    pub right-value : (k : ℕ) (s : Setting) → k < length e.outputs → length s ≡ e.inputs → output_value (loaded_graph d e old) 2 k s ≡ file_value e k s
    unfolding output_value outputs values_on file_value
    right-value k s l h =
        rw (table-graph d e inputs old counts) ((graph-means (bit_valuation s) value-from-ands d e (omega arith) inputs).right k l)

    -- The outputs have the files' functions too.
    pub left_function : (k : ℕ) → k < length d.outputs → output_function (loaded_graph d e old) 1 k ≡ file_function d k
    unfolding output_function outputs functions_of file_function
    left_function k l = rw (table-graph d e inputs old counts) (functions-mean.left k l)

    pub right_function : (k : ℕ) → k < length e.outputs → output_function (loaded_graph d e old) 2 k ≡ file_function e k
    unfolding output_function outputs functions_of file_function
    right_function k l =
        let same : output_function (loaded_graph d e old) 2 k ≡ function d.inputs = rw (table-graph d e inputs old counts) (functions-mean.right k l) in
        same ∙ ap function inputs
      where
        function : ℕ → Truth
        function n =
            literal_value invert conj (constantly n false) (vertex_results invert conj (constantly n false) operation_function (first_functions n) e.gates)
            (get_or e.outputs k 0)

    -- The constraint is true on the settings that the first file allows,
    pub constraint-allowed : (s : Setting) → length s ≡ d.inputs
        → literal_value not ◌&&◌ false (values_on (loaded_graph d e old) s) (constraint_of (table_of d e old)) ≡ allowed? d s
    unfolding values_on allowed?
    constraint-allowed s h =
        rw (table-constraint d e inputs old counts, table-graph d e inputs old counts)
        (graph-means (bit_valuation s) value-from-ands d e (omega arith) inputs).constraint

    -- and has the first file's function.
    pub constraint-function :
        literal_value invert conj (constantly (inputs_of (table_of d e old)) false) (functions_of (loaded_graph d e old)) (constraint_of (table_of d e old))
        ≡ constraint_function d
    unfolding functions_of constraint_function
    constraint-function =
        rw (table-inputs d e old, table-constraint d e inputs old counts, table-graph d e inputs old counts) functions-mean.constraint
