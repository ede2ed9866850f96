-- The table of an accepted load against the files: its outputs' values, and its vertices against the gates' ANDs.
use Prim.Native.Nat.{◌*◌, ◌+◌, ◌-◌, ◌<◌, ◌≤◌, suc, zero, ℕ}
use Rattle.aig.specs.Lookup.{HoldsRow}
use Rattle.compare_model.proofs.GraphLaws.{count-own, count-vertices, entry_next, entry-own, first-own, function_own, literal-own, made_row, next-below, next_function, output_function_lem}
use Rattle.compare_model.proofs.ReplyLaws.{sum-fewer}
use Rattle.compare_model.specs.Claims.{allows?}
use Rattle.compare_model.specs.Compare.{entry_rows, literal_in, next_rows, output_of, problem_of}
use Rattle.demands.specs.Claims.{TooLarge, TooManyParts, TooManySteps, gates_ands, next_ands, side_value}
use Rattle.load_model.proofs.AndLaws.{and_among, made_function, made-parts, rows-from, rows-total}
use Rattle.load_model.proofs.FromLaws.{place-within, place_in}
use Rattle.load_model.proofs.PairLaws.{length_left}
use Rattle.load_model.proofs.PairedLaws.{loadable_matched, loadable-paired}
use Rattle.load_model.proofs.TableLaws.{table-accepted, table-inputs}
use Rattle.load_model.proofs.ValueLaws.{constraint-allowed, constraint-function, left_function, left-value, right_function, right-value}
use Rattle.load_model.specs.code.From.{total}
use Rattle.load_model.specs.code.Functions.{row_operands}
use Rattle.load_model.specs.Load.{table_of, table_words}
use Rattle.load_model.specs.Loadable.{Loadable}
use Rattle.load_model.specs.code.Valued.{operands_of}
use Rattle.netlist_model.proofs.PairingLaws.{paired-outputs, paired-value}
use Rattle.netlist_model.specs.Meaning.{allowed?, constraint_function, file_function}
use Rattle.netlist_model.specs.Netlist.{Netlist}
use Rattle.netlist_model.specs.Pairing.{paired}
use Rattle.sweep_model.proofs.Marked.{and_at, marked-part}
use Rattle.sweep_model.specs.Claims.{And, and_function, and_steps, ands_from, ands_of, marked, sum}
use Rattle.sweep_model.specs.Fit.{vertex_count}
use Rattle.sweep_model.specs.State.{Limits, Problem, function_of, literal_function}
use Rattle.table.proofs.AcceptedLaws.{row_words-below}
use Rattle.table.proofs.FunctionLaws.{function_false, function_first, length_functions}
use Rattle.table.proofs.LayoutLaws.{length_rows, row_at_lem}
use Rattle.table.specs.Accepted.{Accepted}
use Rattle.table.specs.Table.{constraint_of, functions_of, graph_of, inputs_from, inputs_of, made_of, output_value, outputs, outputs_of, rows_of, vertices_of}
use Rattle.table.specs.Values.{Pair}
use Rattle.truth.proofs.Booleans.{clash, or_left, or_right}
use Rattle.truth.proofs.Distinct.{among_append, distinct-within}
use Rattle.truth.proofs.Parts.{alike_sameness, parts-constant}
use Rattle.truth.proofs.Steps.{steps-symmetric}
use Rattle.truth.proofs.Together.{all_parts_append, part_all}
use Rattle.truth.specs.Distinct.{among}
use Rattle.truth.specs.Parts.{alike?, all_parts, parts, size, together}
use Rattle.truth.specs.Steps.{steps}
use Rattle.truth.specs.Truth.{Setting, Truth, conj, constantly, input, invert}
use Rattle.std.proofs.lemmas.List.{get_or-map}
use borrow.Author.Tests.{eq-eqb, ne_eqb}
use lib.Dec.{eqb}
use lib.ListN.{get_or-append, get_or, length, length-append, length-map}
use lib.Seq.{get_or-append-add}
use mathlib.Core.Bool.{Bool, cond, false, true}
use mathlib.Core.List.{List, [], ◌++◌, ◌∷◌, append_assoc, map, map-append}
use mathlib.Core.Path.{◌∙◌, ◌≡◌, ap, ap₂, refl, subst, sym}
use native.Mathlib.Decide.{dec_lt, ℕ_discrete}
use native.Mathlib.Omega.{arith}

-- The steps of some ANDs add up.
sum-total : (xs : List And) → sum (map and_steps xs) ≡ total steps xs
unfolding sum total
sum-total [] = refl
sum-total (x ∷ xs) = ap (◌+◌ (and_steps x)) (sum-total xs)

-- Each of some inputs is among them.
input-among : (n i k v : ℕ) → i ≤ v → v < i + k → among alike? (input n v) (inputs_from n i k) ≡ true
unfolding among inputs_from
input-among n i zero v l h = absurd (omega arith)
input-among n i (suc k) v l h =
    elim (ℕ_discrete v i) [
      | yes e ↦ or_left (alike? (input n v) (input n i)) (among alike? (input n v) (inputs_from n (suc i) k)) (rw e (alike_sameness.reflexive (input n i)))
      | no e ↦ or_right (alike? (input n v) (input n i)) (among alike? (input n v) (inputs_from n (suc i) k)) (input-among n (suc i) k v (omega arith) (omega arith))
    ]

-- The ANDs of as many vertices as there are things, where each is what a map makes of its thing.
ands_map : {A : Type 0} (p : Problem) (rows : List ℕ) (v : ℕ) (f : A → And) (xs : List A) (d : A)
    → ((i : ℕ) → i < length xs → and_at p rows (v + i) ≡ f (get_or xs i d)) → ands_from p rows v (length xs) ≡ map f xs
unfolding ands_from
ands_map p rows v f [] d h = refl
ands_map p rows v f (x ∷ xs) d h =
    ap₂ ◌∷◌ (ap (and_at p rows) (omega arith) ∙ h 0 (omega arith))
    (ands_map p rows (suc v) f xs d (λ i l. ap (and_at p rows) (omega arith) ∙ h (suc i) (omega arith)))

-- The steps of the ANDs of two lists add up.
steps_append : (xs ys : List And) → sum (map and_steps (xs ++ ys)) ≡ sum (map and_steps xs) + sum (map and_steps ys)
unfolding sum
steps_append [] ys = omega arith
steps_append (x ∷ xs) ys = omega (arith, steps_append xs ys)

-- The functions of the operands of a row of a table.
abbrev operands : List ℕ → Pair → And
operands table r = operands_of invert conj (constantly (inputs_of table) false) (functions_of (graph_of table)) r

-- The ANDs of a comparison's vertices are the operands of the table's rows and of the next ones.
module _ (table : List ℕ) (output : ℕ) (limits : Limits) (h : Accepted table) (k : output < outputs_of table) where
  abbrev problem : Problem
  problem = problem_of table output limits

  abbrev entry : List ℕ
  entry = entry_rows table output

  abbrev next : List Pair
  next = next_rows table output

  -- The operands of a vertex of the comparison, by the words of its row.
  and_operands : (v x y : ℕ) → HoldsRow entry v x y → x < 2 * vertices_of table → y < 2 * vertices_of table → and_at problem entry v ≡ operands table (x, y)
  and_operands v x y w l m =
      ap₂ (λ (f g : Truth). (f, g)) (ap (literal_function problem) w.first ∙ literal-own table output limits x l)
      (ap (literal_function problem) w.second ∙ literal-own table output limits y m)

  own_and : (i : ℕ) → i < made_of table → and_at problem entry (1 + inputs_of table + i) ≡ operands table (get_or (rows_of table) i (0, 0))
  own_and i l =
      let w = made_row table i l in
      let e = entry-own table output limits (1 + inputs_of table + i) (omega arith) h.formed.whole in
      let b = row_words-below h i l in
      and_operands (1 + inputs_of table + i) (get_or table (3 + 2 * i) 0) (get_or table (3 + 2 * i + 1) 0)
      (record { first = e.first ∙ w.first; second = e.second ∙ w.second }) (omega (arith, b.first)) (omega (arith, b.second))
      ∙ sym (ap (operands table) (row_at_lem table i (0, 0) l))

  next_and : (i : ℕ) → i < length next → and_at problem entry (vertices_of table + i) ≡ operands table (get_or next i (0, 0))
  next_and i l =
      let b = next-below table output limits h k i l in
      and_operands (vertices_of table + i) (get_or next i (0, 0)).0 (get_or next i (0, 0)).1 (entry_next table output limits i l h.formed.whole) b.first b.second

  rows-ands : ands_of (problem_of table output limits) (entry_rows table output) ≡ row_operands (graph_of table) ++ map (operands table) (next_rows table output)
  unfolding ands_of row_operands graph_of
  rows-ands =
      ap₂ (ands_from problem entry) (first-own table output limits) count
      ∙ ands_map problem entry (1 + inputs_of table) (operands table) (rows_of table ++ next) (0, 0) each
      ∙ map-append (operands table) (rows_of table) next
    where
      count : vertex_count problem - problem.first ≡ length (rows_of table ++ next)
      count = omega (arith, first-own table output limits, count-vertices table output limits, length-append (rows_of table) next, length_rows table)

      each : (i : ℕ) → i < length (rows_of table ++ next) → and_at problem entry (1 + inputs_of table + i) ≡ operands table (get_or (rows_of table ++ next) i (0, 0))
      each i l =
          elim (dec_lt i (made_of table)) [
            | yes m ↦ own_and i m ∙ ap (operands table) (sym (get_or-append (rows_of table) next (0, 0) i (omega (arith, length_rows table))))
            | no m ↦
                (let j : ℕ = i - made_of table in
                let n : j < length next = omega (arith, length-append (rows_of table) next, length_rows table) in
                let at : length (rows_of table) + j ≡ i = omega (arith, length_rows table) in
                ap (and_at problem entry) (omega (arith, length_rows table))
                ∙ next_and j n
                ∙ ap (operands table) (sym (get_or-append-add (rows_of table) next j (0, 0)) ∙ ap (λ (x : ℕ). get_or (rows_of table ++ next) x (0, 0)) at))
          ]

module _ (d e : Netlist) (h : Loadable d e) (old : List ℕ) where
  abbrev loaded : List ℕ
  loaded = table_of d (paired d e) old

  -- The second file has as many outputs in the first one's order.
  same-outputs : length d.outputs ≡ length (paired d e).outputs
  same-outputs = h.outputs ∙ sym (paired-outputs d e)

  -- The table has as many outputs a side.
  pub table-outputs : outputs_of (table_of d (paired d e) old) ≡ length d.outputs
  unfolding table_of table_words
  table-outputs = length_left d (paired d e)

  -- Every output has its file's value, the second file's by name.
  pub table-value : (side k : ℕ) (s : Setting) → k < length d.outputs → length s ≡ d.inputs
      → output_value (graph_of (table_of d (paired d e) old)) side k s ≡ side_value d e side k s
  unfolding output_value outputs side_value
  table-value side k s l m =
      elim (ℕ_discrete side 1) [
        | yes i ↦ rw (eq-eqb side 1 i) (left-value d (paired d e) (loadable-paired h).inputs same-outputs old k s l m)
        | no i ↦ rw (ne_eqb side 1 i)
            (right-value d (paired d e) (loadable-paired h).inputs same-outputs old k s (omega (arith, same-outputs)) (omega (arith, (loadable-paired h).inputs))
            ∙ paired-value (loadable_matched h) s m k)
      ]

  -- A setting is allowed by the table where it is by the first file.
  pub table-allows : (s : Setting) → length s ≡ d.inputs → allows? (table_of d (paired d e) old) s ≡ allowed? d s
  unfolding allows?
  table-allows s m = constraint-allowed d (paired d e) (loadable-paired h).inputs same-outputs old s m

  -- The table is one that neither 10 nor 11 turns back.
  whole : Accepted loaded
  whole = table-accepted d (paired d e) (loadable-paired h) old

  abbrev function : ℕ → Truth
  function v = get_or (functions_of (graph_of loaded)) v (constantly (inputs_of loaded) false)

  abbrev ins : List Truth
  ins = inputs_from d.inputs 1 d.inputs

  abbrev gates : List Truth
  gates = map and_function (gates_ands d e)

  -- A part of a vertex of the table is one of an input or of an AND of the gates.
  vertex_part : (t : Truth) (v : ℕ) → v < length (functions_of (graph_of loaded)) → among alike? t (parts (function v)) ≡ true
      → among alike? t (all_parts (ins ++ gates)) ≡ true
  unfolding graph_of gates_ands
  vertex_part t v l k =
      rw (all_parts_append ins gates, among_append alike? t (all_parts ins) (all_parts gates))
      (elim (dec_lt v (1 + inputs_of loaded)) [
        | yes m ↦ or_left (among alike? t (all_parts ins)) (among alike? t (all_parts gates)) (first m)
        | no m ↦ or_right (among alike? t (all_parts ins)) (among alike? t (all_parts gates)) (made (v - (1 + inputs_of loaded)) (omega arith))
      ])
    where
      first : v < 1 + inputs_of loaded → among alike? t (all_parts ins) ≡ true
      first m =
          elim (ℕ_discrete v 0) [
            | yes z ↦ clash k (unfold among in rw (z, function_false (graph_of loaded), parts-constant (inputs_of loaded) false))
            | no z ↦ part_all t (function v) ins
                (rw (function_first (graph_of loaded) v (omega arith), table-inputs d (paired d e) old) (input-among d.inputs 1 d.inputs v (omega arith) (omega (arith, table-inputs d (paired d e) old)))) k
          ]

      made : (i : ℕ) → 1 + inputs_of loaded + i ≡ v → among alike? t (all_parts gates) ≡ true
      made i z =
          made-parts d (paired d e) (loadable-paired h).inputs same-outputs old i (omega (arith, length_functions (graph_of loaded))) t
          (subst (λ (u : ℕ). among alike? t (parts (function u)) ≡ true) (sym z) k)

  -- A made vertex of the table is an AND of the gates.
  record GateOf (f : Truth) : Type 0 where
    place : ℕ
    there : place < length (gates_ands d e)
    same : f ≡ and_function (get_or (gates_ands d e) place (constantly 0 false, constantly 0 false))

  made-gate : (v : ℕ) → 1 + inputs_of loaded ≤ v → v < vertices_of loaded → GateOf (function v)
  unfolding gates_ands graph_of row_operands
  made-gate v made there =
      let rows = rows-from d (paired d e) (loadable-paired h).inputs same-outputs old in
      let i : ℕ = v - (1 + inputs_of loaded) in
      let z : 1 + inputs_of loaded + i ≡ v = omega arith in
      let l : i < length (rows_of loaded) = omega (arith, length_rows loaded) in
      record {
        place = place_in rows i;
        there = place-within rows i (simp length-map l);
        same = ap function (sym z) ∙ made_function d (paired d e) (loadable-paired h).inputs same-outputs old i l (constantly 0 false, constantly 0 false);
      }

  -- A comparison of an output.
  module _ (output : ℕ) (inside : output < length d.outputs) (limits : Limits) where
    abbrev asked : Problem
    asked = problem_of loaded output limits

    abbrev further : List And
    further = next_ands loaded d e output

    looked_at_lem : output < outputs_of loaded
    looked_at_lem = rw table-outputs inside

    -- Its next vertices' operands are r and the outputs of the files.
    next_ands_lem : map (operands loaded) (next_rows loaded output) ≡ next_ands loaded d e output
    unfolding next_rows next_ands
    next_ands_lem = go (eqb (constraint_of loaded) 1)
      where
        constrained : literal_in loaded (constraint_of loaded) ≡ constraint_function d
        constrained = constraint-function d (paired d e) (loadable-paired h).inputs same-outputs old

        left : literal_in loaded (output_of loaded 1 output) ≡ file_function d output
        left = output_function_lem loaded 1 output ∙ left_function d (paired d e) (loadable-paired h).inputs same-outputs old output inside

        right : literal_in loaded (output_of loaded 2 output) ≡ file_function (paired d e) output
        right = output_function_lem loaded 2 output ∙ right_function d (paired d e) (loadable-paired h).inputs same-outputs old output (omega (arith, same-outputs))

        go : (b : Bool)
            → map (operands loaded) (cond b [] ((constraint_of loaded, output_of loaded 1 output) ∷ (constraint_of loaded, output_of loaded 2 output) ∷ []))
            ≡ cond b [] ((constraint_function d, file_function d output) ∷ (constraint_function d, file_function (paired d e) output) ∷ [])
        go true = refl
        go false = rw (constrained, left, right) refl

    length_further : length further ≡ length (next_rows loaded output)
    length_further = ap length (sym next_ands_lem) ∙ length-map (next_rows loaded output) (operands loaded)

    -- A next vertex has the function of its AND.
    further_function : (i : ℕ) (z : And) → i < length (next_rows loaded output) → function_of asked (vertices_of loaded + i) ≡ and_function (get_or further i z)
    further_function i z l =
        next_function loaded output limits i l
        ∙ ap and_function (sym (get_or-map (operands loaded) (next_rows loaded output) i (0, 0) z l) ∙ ap (λ (xs : List And). get_or xs i z) next_ands_lem)

    -- A made vertex larger than a limit is such an AND of the comparison.
    pub too_large : (limit v : ℕ) → (problem_of (table_of d (paired d e) old) output limits).first ≤ v → v < vertex_count (problem_of (table_of d (paired d e) old) output limits)
        → limit < size (function_of (problem_of (table_of d (paired d e) old) output limits) v) → TooLarge (table_of d (paired d e) old) d e output limit
    too_large limit v made there m =
        elim (dec_lt v (vertices_of loaded)) [
          | yes l ↦
              (let g = made-gate v (rw (first-own loaded output limits) at made) l in
              record {
                place = g.place;
                there = omega (arith, g.there, length-append (gates_ands d e) further);
                large =
                    rw (get_or-append (gates_ands d e) further none g.place g.there)
                    (subst (λ (f : Truth). limit < size f) (function_own loaded output limits v l ∙ g.same) m);
              })
          | no l ↦
              (let i : ℕ = v - vertices_of loaded in
              let z : vertices_of loaded + i ≡ v = omega arith in
              let n : i < length (next_rows loaded output) = omega (arith, count-vertices loaded output limits) in
              record {
                place = length (gates_ands d e) + i;
                there = omega (arith, length-append (gates_ands d e) further, length_further);
                large =
                    rw (get_or-append-add (gates_ands d e) further i none)
                    (subst (λ (f : Truth). limit < size f) (ap (function_of asked) (sym z) ∙ further_function i none n) m);
              })
        ]
      where
        none : And
        none = (constantly 0 false, constantly 0 false)

    abbrev ands : List Truth
    ands = map and_function (gates_ands d e ++ further)

    -- A part of a vertex is one of an input or of an AND of the comparison.
    compared_part : (t : Truth) (v : ℕ) → v < vertex_count asked → among alike? t (parts (function_of asked v)) ≡ true
        → among alike? t (all_parts (ins ++ ands)) ≡ true
    compared_part t v l k =
        rw (
          map-append and_function (gates_ands d e) further,
          ← append_assoc ins gates (map and_function further),
          all_parts_append (ins ++ gates) (map and_function further),
          among_append alike? t (all_parts (ins ++ gates)) (all_parts (map and_function further)),
        )
        (elim (dec_lt v (vertices_of loaded)) [
          | yes m ↦ or_left (among alike? t (all_parts (ins ++ gates))) (among alike? t (all_parts (map and_function further))) (own m)
          | no m ↦ or_right (among alike? t (all_parts (ins ++ gates))) (among alike? t (all_parts (map and_function further))) (next (v - vertices_of loaded) (omega arith))
        ])
      where
        own : v < vertices_of loaded → among alike? t (all_parts (ins ++ gates)) ≡ true
        own m = vertex_part t v (omega (arith, count-own loaded limits)) (rw (function_own loaded output limits v m) at k)

        next : (i : ℕ) → vertices_of loaded + i ≡ v → among alike? t (all_parts (map and_function further)) ≡ true
        next i z =
            let n : i < length (next_rows loaded output) = omega (arith, count-vertices loaded output limits) in
            let none : And = (constantly 0 false, constantly 0 false) in
            part_all t (function_of asked v) (map and_function further)
            (subst (λ (f : Truth). among alike? f (map and_function further) ≡ true) (sym (further_function i none n) ∙ ap (function_of asked) z)
            (and_among further i none (omega (arith, length_further)))) k

    -- Marked functions with more parts than a limit: all inputs and the comparison's ANDs together have more.
    pub too_many_parts : (limit : ℕ) (test : ℕ → Bool) (marks : List ℕ)
        → limit < together (marked test marks (problem_of (table_of d (paired d e) old) output limits).functions) → TooManyParts (table_of d (paired d e) old) d e output limit
    unfolding together
    too_many_parts limit test marks l =
        omega (
          arith,
          distinct-within alike? alike_sameness (all_parts (marked test marks asked.functions)) (all_parts (ins ++ ands))
              (λ t m.
              let x = marked-part test marks asked.functions (constantly asked.inputs false) t m in
              compared_part t x.0 x.1 x.3),
        )

    -- Marked ANDs that take more steps than a limit: all the comparison's ANDs take more.
    pub too_many_steps : (limit : ℕ) (test : ℕ → Bool) (marks : List ℕ)
        → limit < sum (map and_steps (marked test marks (ands_of (problem_of (table_of d (paired d e) old) output limits) (entry_rows (table_of d (paired d e) old) output))))
        → TooManySteps (table_of d (paired d e) old) d e output limit
    unfolding gates_ands
    too_many_steps limit test marks l =
        omega (
          arith,
          sum-fewer test and_steps marks (ands_of asked (entry_rows loaded output)),
          ap (λ (xs : List And). sum (map and_steps xs)) (rows-ands loaded output limits whole looked_at_lem ∙ ap (◌++◌ (row_operands (graph_of loaded))) next_ands_lem),
          steps_append (row_operands (graph_of loaded)) further,
          steps_append (gates_ands d e) further,
          sum-total (row_operands (graph_of loaded)),
          rows-total d (paired d e) (loadable-paired h).inputs same-outputs old steps steps-symmetric,
          sum-total (gates_ands d e),
        )
