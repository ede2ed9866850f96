-- What a file means: values by plain evaluation, and the ANDs that its gates stand for. (RULES 1.9, 1.10)
use Rattle.std.specs.Prelude.{◌+◌, ℕ, get_or, Bool, ◌&&◌, ◌||◌, false, not, List, [], ◌++◌, ◌∷◌}
use Rattle.aig.specs.Values.{literal_value}
use Rattle.netlist_model.specs.Check.{ands_of}
use Rattle.netlist_model.specs.Netlist.{Gate, Netlist, constraint_reference}
use Rattle.netlist_model.specs.declared.Operation.TheVariants.{And, Or, Xor}
use Rattle.netlist_model.specs.declared.Operation.{Operation}
use Rattle.table.specs.Table.{first_functions}
use Rattle.truth.specs.Truth.{Setting, Truth, conj, constantly, disj, exclusive, invert}
use Rattle.std.specs.Bool.{xor}

-- "`or` is the inversion of (not p) and (not q). `xor` stands for three ANDs in this order: p with not q, not p with q, then the
-- inversions of these two results": the operands of the ANDs that a gate stands for, over bits or over functions. (RULES 1.9)
unfoldable pub gate_ands : {A : Type 0} → (A → A) → (A → A → A) → Operation → A → A → List (A × A)
gate_ands inverse both And x y = (x, y) ∷ []
gate_ands inverse both Or x y = (inverse x, inverse y) ∷ []
gate_ands inverse both Xor x y =
    (x, inverse y) ∷ (inverse x, y) ∷ (inverse (both x (inverse y)), inverse (both (inverse x) y)) ∷ []

-- The result of an AND, given its operands.
abbrev pub and_result : {A : Type 0} → (A → A → A) → A × A → A
and_result both a = both a.0 a.1

-- "`or` is the inversion of ..", "the gate's value is the inversion of the third": a gate's result from the results of its ANDs. (RULES 1.9)
unfoldable pub from_ands : {A : Type 0} → (A → A) → A → Operation → List A → A
from_ands inverse falsum And xs = get_or xs 0 falsum
from_ands inverse falsum Or xs = inverse (get_or xs 0 falsum)
from_ands inverse falsum Xor xs = inverse (get_or xs 2 falsum)

-- Over any domain with inversion, AND, false and the three operations: bits on one setting, or Boolean functions.
module _ {A : Type 0} (inverse : A → A) (both : A → A → A) (falsum : A) (operation : Operation → A → A → A) where
  -- What a gate has, given the values of the vertices below it. (RULES 1.10)
  abbrev pub gate_result : List A → Gate → A
  gate_result vs g = operation g.op (literal_value inverse both falsum vs g.p) (literal_value inverse both falsum vs g.q)

  -- "gates follow in file order": the values of the vertices so far, and then of each gate. (RULES 1.6)
  unfoldable pub vertex_results : List A → List Gate → List A
  vertex_results vs [] = vs
  vertex_results vs (g ∷ gs) = vertex_results (vs ++ gate_result vs g ∷ []) gs

  -- The operands of the ANDs that the gates stand for, in file order, folded and found ones too. (RULES 1.9, 5.8)
  unfoldable pub ands_from : List A → List Gate → List (A × A)
  ands_from vs [] = []
  ands_from vs (g ∷ gs) =
      gate_ands inverse both g.op (literal_value inverse both falsum vs g.p) (literal_value inverse both falsum vs g.q)
      ++ ands_from (vs ++ gate_result vs g ∷ []) gs

-- "a gate the and, or or exclusive or of its references" (RULES 1.10)
unfoldable pub operation_value : Operation → Bool → Bool → Bool
operation_value And x y = x && y
operation_value Or x y = x || y
operation_value Xor x y = xor x y

-- The value of a reference, given the values of the vertices. (RULES 1.10)
abbrev pub reference_value : List Bool → ℕ → Bool
reference_value vs r = literal_value not ◌&&◌ false vs r

-- "On a setting an input has its digit, a gate the and, or or exclusive or of its references": the values of all vertices. (RULES 1.10)
abbrev pub file_values : Netlist → Setting → List Bool
file_values d s = vertex_results not ◌&&◌ false operation_value (false ∷ s) d.gates

-- "an output its reference: its file's value." (RULES 1.10)
unfoldable pub file_value : Netlist → ℕ → Setting → Bool
file_value d k s = reference_value (file_values d s) (get_or d.outputs k 0)

-- "only settings on which r is true are allowed" (RULES 1.13)
unfoldable pub allowed? : Netlist → Setting → Bool
allowed? d s = reference_value (file_values d s) (constraint_reference d)

-- The values of the operands of each AND that the gates stand for, by plain evaluation.
abbrev pub file_and_values : Netlist → Setting → List (Bool × Bool)
file_and_values d s = ands_from not ◌&&◌ false operation_value (false ∷ s) d.gates

-- The same over functions of the inputs.
unfoldable pub operation_function : Operation → Truth → Truth → Truth
operation_function And f g = conj f g
operation_function Or f g = disj f g
operation_function Xor f g = exclusive f g

-- The function of a reference, given the functions of the vertices, of n inputs.
abbrev pub reference_function : ℕ → List Truth → ℕ → Truth
reference_function n fs r = literal_value invert conj (constantly n false) fs r

-- The functions of all vertices.
abbrev pub file_functions : Netlist → List Truth
file_functions d = vertex_results invert conj (constantly d.inputs false) operation_function (first_functions d.inputs) d.gates

-- The function of output k.
unfoldable pub file_function : Netlist → ℕ → Truth
file_function d k = reference_function d.inputs (file_functions d) (get_or d.outputs k 0)

-- The function of r. (RULES 1.13)
unfoldable pub constraint_function : Netlist → Truth
constraint_function d = reference_function d.inputs (file_functions d) (constraint_reference d)

-- "Over the gates' ANDs they add up, folded and found ones too.": the functions of the operands of each AND. (RULES 5.8)
unfoldable pub file_ands : Netlist → List (Truth × Truth)
file_ands d = ands_from invert conj (constantly d.inputs false) operation_function (first_functions d.inputs) d.gates

-- "6,144 ANDs over both files, counted before any folding" (RULES 2.2)
unfoldable pub and_count : List Gate → ℕ
and_count [] = 0
and_count (g ∷ gs) = ands_of g.op + and_count gs
