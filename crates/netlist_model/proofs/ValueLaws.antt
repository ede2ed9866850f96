-- The functions of a file's vertices, outputs and ANDs have the values that plain evaluation gives.
use Prim.Native.Nat.{ℕ}
use Rattle.netlist_model.proofs.MeaningLaws.{ands_length}
use Rattle.netlist_model.specs.Meaning.{allowed?, and_count, and_result, ands_from, constraint_function, file_and_values, file_ands, file_function, file_functions, file_value, file_values, from_ands, gate_ands, gate_result, operation_function, operation_value, reference_function, reference_value, vertex_results}
use Rattle.netlist_model.specs.Netlist.{Gate, Netlist, constraint_reference}
use Rattle.netlist_model.specs.declared.Operation.TheVariants.{And, Or, Xor}
use Rattle.netlist_model.specs.declared.Operation.{Operation}
use Rattle.table.proofs.FunctionLaws.{values-at, values-functions}
use Rattle.table.proofs.MeaningLaws.{literal-mapped}
use Rattle.table.specs.Table.{first_functions, functions_of, values_on}
use Rattle.table.specs.Values.{vertex_values}
use Rattle.truth.proofs.Values.{value-conj, value-disj, value-exclusive, value-invert}
use Rattle.truth.specs.Truth.{Setting, Truth, conj, constantly, disj, exclusive, invert, value_at}
use lib.ListN.{get_or, length}
use mathlib.Core.Bool.{Bool, ◌&&◌, false, not, true, xor}
use mathlib.Core.List.{List, [], ◌++◌, ◌∷◌, map, map-append}
use mathlib.Core.Path.{◌∙◌, ◌≡◌, ap, ap₂, refl}

-- A gate's function is the stated inversion of its ANDs.
pub function-from-ands :
    (n : ℕ) (op : Operation) (f g : Truth)
    → operation_function op f g
    ≡ from_ands invert (constantly n false) op (map (and_result conj) (gate_ands invert conj op f g))
unfolding operation_function from_ands gate_ands disj exclusive
function-from-ands n And f g = refl
function-from-ands n Or f g = refl
function-from-ands n Xor f g = refl

-- So is its value.
pub value-from-ands :
    (op : Operation) (x y : Bool) → operation_value op x y ≡ from_ands not false op (map (and_result ◌&&◌) (gate_ands not ◌&&◌ op x y))
unfolding operation_value from_ands gate_ands xor
value-from-ands And x y = refl
value-from-ands Or true y = refl
value-from-ands Or false true = refl
value-from-ands Or false false = refl
value-from-ands Xor true true = refl
value-from-ands Xor true false = refl
value-from-ands Xor false true = refl
value-from-ands Xor false false = refl

-- The values of some functions on a setting.
abbrev pub values_at : Setting → List Truth → List Bool
values_at s fs = map (λ f. value_at f s) fs

-- The values of an AND's operands.
abbrev pub pair_at : Setting → Truth × Truth → Bool × Bool
pair_at s a = (value_at a.0 s, value_at a.1 s)

module _ (n : ℕ) (s : Setting) where
  -- A reference's function has its value.
  pub reference_value_lem : (fs : List Truth) (r : ℕ) → value_at (reference_function n fs r) s ≡ reference_value (values_at s fs) r
  reference_value_lem fs r = literal-mapped (values-at n s) fs r

  operation_value_lem : (op : Operation) (f g : Truth) → value_at (operation_function op f g) s ≡ operation_value op (value_at f s) (value_at g s)
  unfolding operation_function operation_value
  operation_value_lem And f g = value-conj f g s
  operation_value_lem Or f g = value-disj f g s
  operation_value_lem Xor f g = value-exclusive f g s

  gate-and-values :
      (op : Operation) (f g : Truth)
      → map (pair_at s) (gate_ands invert conj op f g) ≡ gate_ands not ◌&&◌ op (value_at f s) (value_at g s)
  unfolding gate_ands
  gate-and-values And f g = refl
  gate-and-values Or f g = rw (value-invert f s, value-invert g s) refl
  gate-and-values Xor f g = simp (value-invert, value-conj)

  gate-value :
      (fs : List Truth) (g : Gate)
      → value_at (operation_function g.op (reference_function n fs g.p) (reference_function n fs g.q)) s
      ≡ operation_value g.op (reference_value (values_at s fs) g.p) (reference_value (values_at s fs) g.q)
  gate-value fs g =
      operation_value_lem g.op (reference_function n fs g.p) (reference_function n fs g.q)
      ∙ ap₂ (operation_value g.op) (reference_value_lem fs g.p) (reference_value_lem fs g.q)

  next-values :
      (fs : List Truth) (g : Gate)
      → values_at s (fs ++ operation_function g.op (reference_function n fs g.p) (reference_function n fs g.q) ∷ [])
      ≡ values_at s fs ++ operation_value g.op (reference_value (values_at s fs) g.p) (reference_value (values_at s fs) g.q) ∷ []
  next-values fs g =
      let x = operation_function g.op (reference_function n fs g.p) (reference_function n fs g.q) in
      map-append (λ f. value_at f s) fs (x ∷ []) ∙ ap (λ (b : Bool). values_at s fs ++ b ∷ []) (gate-value fs g)

  -- The gates' functions have their values.
  pub gate-values :
      (fs : List Truth) (gs : List Gate)
      → values_at s (vertex_results invert conj (constantly n false) operation_function fs gs) ≡ vertex_results not ◌&&◌ false operation_value (values_at s fs) gs
  unfolding vertex_results
  gate-values fs [] = refl
  gate-values fs (g ∷ gs) =
      gate-values (fs ++ gate_result invert conj (constantly n false) operation_function fs g ∷ []) gs
      ∙ ap (λ (vs : List Bool). vertex_results not ◌&&◌ false operation_value vs gs) (next-values fs g)

  -- The operands of the gates' ANDs have theirs.
  pub gates-and-values :
      (fs : List Truth) (gs : List Gate)
      → map (pair_at s) (ands_from invert conj (constantly n false) operation_function fs gs) ≡ ands_from not ◌&&◌ false operation_value (values_at s fs) gs
  unfolding ands_from
  gates-and-values fs [] = refl
  gates-and-values fs (g ∷ gs) =
      let x = reference_function n fs g.p in
      let y = reference_function n fs g.q in
      let fs' = fs ++ gate_result invert conj (constantly n false) operation_function fs g ∷ [] in
      map-append (pair_at s) (gate_ands invert conj g.op x y) (ands_from invert conj (constantly n false) operation_function fs' gs)
      ∙ ap₂ ◌++◌
      (gate-and-values g.op x y ∙ ap₂ (gate_ands not ◌&&◌ g.op) (reference_value_lem fs g.p) (reference_value_lem fs g.q))
      (gates-and-values fs' gs ∙ ap (λ (vs : List Bool). ands_from not ◌&&◌ false operation_value vs gs) (next-values fs g))

  -- The constant and the inputs have theirs.
  pub first-values : length s ≡ n → values_at s (first_functions n) ≡ false ∷ s
  unfolding functions_of values_on vertex_values
  first-values h = values-functions (record { inputs = n; rows = []; left = []; right = [] }) s h

module _ (d : Netlist) (s : Setting) (h : length s ≡ d.inputs) where
  -- The functions of all vertices have the values of plain evaluation.
  pub file_values_lem : values_at s (file_functions d) ≡ file_values d s
  file_values_lem =
      gate-values d.inputs s (first_functions d.inputs) d.gates
      ∙ ap (λ (vs : List Bool). vertex_results not ◌&&◌ false operation_value vs d.gates) (first-values d.inputs s h)

  -- So do the outputs.
  pub output_value_lem : (k : ℕ) → value_at (file_function d k) s ≡ file_value d k s
  unfolding file_function file_value
  output_value_lem k =
      reference_value_lem d.inputs s (file_functions d) (get_or d.outputs k 0)
      ∙ ap (λ (vs : List Bool). reference_value vs (get_or d.outputs k 0)) file_values_lem

  -- So does the constraint.
  pub constraint-value : value_at (constraint_function d) s ≡ allowed? d s
  unfolding constraint_function allowed?
  constraint-value =
      reference_value_lem d.inputs s (file_functions d) (constraint_reference d)
      ∙ ap (λ (vs : List Bool). reference_value vs (constraint_reference d)) file_values_lem

  -- And the operands of every AND that the gates stand for.
  pub file_and_values_lem : map (pair_at s) (file_ands d) ≡ file_and_values d s
  unfolding file_ands
  file_and_values_lem =
      gates-and-values d.inputs s (first_functions d.inputs) d.gates
      ∙ ap (λ (vs : List Bool). ands_from not ◌&&◌ false operation_value vs d.gates) (first-values d.inputs s h)

-- There are as many ANDs as are counted.
pub file_ands_length : (d : Netlist) → length (file_ands d) ≡ and_count d.gates
unfolding file_ands
file_ands_length d = ands_length invert conj (constantly d.inputs false) operation_function (first_functions d.inputs) d.gates
