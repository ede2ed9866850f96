-- Each row of the table is an AND that some gate stands for, and different rows come from different ANDs.
use Prim.Native.Nat.{◌*◌, ◌+◌, ◌<◌, ◌≤◌, suc, zero, ℕ}
use Rattle.aig.proofs.PairsLaws.{same-pair-value}
use Rattle.load_model.proofs.FromLaws.{place-pair, place-within, place_in, total-from}
use Rattle.load_model.proofs.PairLaws.{pair-good}
use Rattle.load_model.proofs.TableLaws.{grown-rows, rows-downward, table-graph}
use Rattle.load_model.proofs.ValueLaws.{functions-mean}
use Rattle.load_model.specs.Build.{build_pair}
use Rattle.load_model.specs.code.From.{From, total}
use Rattle.load_model.specs.code.Functions.{and_of, row_operands, vertex_function}
use Rattle.load_model.specs.code.Grown.{rows_after}
use Rattle.load_model.specs.Load.{loaded_graph}
use Rattle.load_model.specs.code.Valued.{operands_of}
use Rattle.netlist_model.specs.Meaning.{ands_from, file_ands, operation_function}
use Rattle.netlist_model.specs.Netlist.{Netlist}
use Rattle.table.proofs.FunctionLaws.{length_first_functions}
use Rattle.table.proofs.MeaningLaws.{row_value_lem}
use Rattle.table.specs.Accepted.{Downward, RowBelow}
use Rattle.table.specs.Table.{Graph, first_functions, functions_of}
use Rattle.table.specs.Values.{Pair, vertex_values}
use Rattle.truth.proofs.Booleans.{or_left, or_right}
use Rattle.truth.proofs.Parts.{alike_sameness}
use Rattle.truth.proofs.Together.{part_all}
use Rattle.truth.proofs.Values.{conj-symmetric}
use Rattle.truth.specs.Distinct.{among}
use Rattle.truth.specs.Parts.{alike?, all_parts, parts}
use Rattle.truth.specs.Truth.{Truth, conj, constantly, invert, leaf}
use Rattle.std.proofs.lemmas.List.{get_or-map}
use lib.ListN.{get_or, length, length-map}
use mathlib.Core.Bool.{false, true}
use mathlib.Core.List.{List, [], ◌++◌, ◌∷◌, map}
use mathlib.Core.Path.{◌∙◌, ◌≡◌, ap, subst₂, sym}
use native.Mathlib.Omega.{arith}

length_operands : (g : Graph) → length (row_operands g) ≡ length g.rows
unfolding row_operands
length_operands g = length-map g.rows (operands_of invert conj (constantly g.inputs false) (functions_of g))

-- The function of a row's vertex is that of its AND.
row_function_lem : (g : Graph) → Downward (1 + g.inputs) g.rows → (i : ℕ) (z : Truth × Truth) → i < length g.rows
    → vertex_function g (1 + g.inputs + i) ≡ and_of (get_or (row_operands g) i z)
unfolding functions_of row_operands
row_function_lem g down i z h =
    let n : length (first_functions g.inputs) ≡ 1 + g.inputs = omega (arith, length_first_functions g.inputs) in
    let falsum : Truth = constantly g.inputs false in
    let below : RowBelow (2 * (length (first_functions g.inputs) + i)) (get_or g.rows i (0, 0)) = rw n (down i h) in
    rw (← n) (row_value_lem invert conj falsum (first_functions g.inputs) g.rows i h below)
    ∙ ap and_of (sym (get_or-map (operands_of invert conj falsum (functions_of g)) g.rows i (0, 0) z h))

-- Each of some ANDs is among their functions.
pub and_among : (xs : List (Truth × Truth)) (k : ℕ) (z : Truth × Truth) → k < length xs → among alike? (and_of (get_or xs k z)) (map and_of xs) ≡ true
unfolding among
and_among [] k z h = absurd (omega arith)
and_among (x ∷ xs) zero z h = or_left (alike? (and_of x) (and_of x)) (among alike? (and_of x) (map and_of xs)) (alike_sameness.reflexive (and_of x))
and_among (x ∷ xs) (suc k) z h =
    or_right (alike? (and_of (get_or xs k z)) (and_of x)) (among alike? (and_of (get_or xs k z)) (map and_of xs)) (and_among xs k z (omega arith))

module _ (d e : Netlist) (inputs : d.inputs ≡ e.inputs) (counts : length d.outputs ≡ length e.outputs) (old : List ℕ) where
  -- The operand functions of the rows come, row by row, from those of the gates' ANDs, further and further on.
  pub rows-from : From (row_operands (loaded_graph d e old)) (file_ands d ++ file_ands e)
  unfolding row_operands functions_of file_ands
  rows-from =
      let o = (functions-mean d e inputs).origin in
      rw (table-graph d e inputs old counts)
      (subst₂ (λ (rs : List Pair) (n : ℕ). From (map (operands_of invert conj (constantly d.inputs false) values) rs) (ands d.inputs d ++ ands n e))
      (sym (grown-rows d.inputs o.grown)) inputs o.from)
    where
      values : List Truth
      values = vertex_values invert conj (constantly d.inputs false) (first_functions d.inputs) (rows_after d.inputs (build_pair d e).build)

      ands : ℕ → Netlist → List (Truth × Truth)
      ands n x = ands_from invert conj (constantly n false) operation_function (first_functions n) x.gates

  -- So a sum over rows is at most the sum over the gates' ANDs.
  pub rows-total : (f : Truth → Truth → ℕ) → ((x y : Truth) → f x y ≡ f y x)
      → total f (row_operands (loaded_graph d e old)) ≤ total f (file_ands d ++ file_ands e)
  rows-total f symmetric = total-from f symmetric rows-from

  downward : Downward (1 + (loaded_graph d e old).inputs) (loaded_graph d e old).rows
  downward = rw (table-graph d e inputs old counts) (rows-downward (pair-good d e inputs))

  module _ (i : ℕ) (h : i < length (loaded_graph d e old).rows) where
    operand : i < length (row_operands (loaded_graph d e old))
    operand = rw (length_operands (loaded_graph d e old)) h

    -- The function of a made vertex is that of the AND that its row comes from.
    pub made_function : (z : Truth × Truth) → vertex_function (loaded_graph d e old) (1 + (loaded_graph d e old).inputs + i)
        ≡ and_of (get_or (file_ands d ++ file_ands e) (place_in rows-from i) z)
    made_function z =
        row_function_lem (loaded_graph d e old) downward i z h ∙ same-pair-value conj conj-symmetric (place-pair rows-from z i operand)

    -- So it is among the functions of the gates' ANDs,
    pub made-among : among alike? (vertex_function (loaded_graph d e old) (1 + (loaded_graph d e old).inputs + i)) (map and_of (file_ands d ++ file_ands e))
        ≡ true
    made-among =
        let z : Truth × Truth = (leaf false, leaf false) in
        rw (made_function z) (and_among (file_ands d ++ file_ands e) (place_in rows-from i) z (place-within rows-from i operand))

    -- and its parts are among theirs.
    pub made-parts : (t : Truth)
        → among alike? t (parts (vertex_function (loaded_graph d e old) (1 + (loaded_graph d e old).inputs + i))) ≡ true
        → among alike? t (all_parts (map and_of (file_ands d ++ file_ands e))) ≡ true
    made-parts t k =
        part_all t (vertex_function (loaded_graph d e old) (1 + (loaded_graph d e old).inputs + i)) (map and_of (file_ands d ++ file_ands e)) made-among k
