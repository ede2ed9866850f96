-- What no refusal leaves of the arguments, and the value that is then found.
use Prim.Native.Nat.{◌+◌, ◌<◌, ◌≤◌, ℕ}
use Rattle.aig.specs.Literal.{vertex_of}
use Rattle.aig.specs.Values.{literal_value}
use Rattle.evaluate_model.proofs.NumberLaws.{bit_numbers, bits_mapped, literal-taken, vertex-bit}
use Rattle.evaluate_model.specs.Evaluate.{Ready, bit, call_tests, digits_of, evaluate_tests, evaluated_value, evaluation, refused, side?, unknown?, valued}
use Rattle.evaluate_model.specs.code.Values.{Bits, number_literal, number_values}
use Rattle.table.proofs.AcceptedLaws.{accepted, side-output-below}
use Rattle.table.proofs.LayoutLaws.{graph-outputs}
use Rattle.table.proofs.MeaningLaws.{literal-mapped, values-mapped}
use Rattle.table.proofs.RefusalLaws.{first-passed, none-applies, table-passed}
use Rattle.table.specs.Refusals.{first_refusal}
use Rattle.table.specs.Table.{graph_of, inputs_of, output_value, outputs_of, rows_of, side_outputs, table_tests, values_on, vertices_of}
use Rattle.truth.proofs.Booleans.{neither}
use borrow.Author.Tests.{eqb-true, leb-false, ltb-false, ne_eqb, not-false}
use lib.Dec.{leb}
use lib.ListN.{get_or, length, take}
use mathlib.Core.Bool.{◌&&◌, false, not}
use mathlib.Core.List.{List, ◌∷◌, map}
use mathlib.Core.Path.{◌∙◌, ◌≡◌, ap, refl, subst, sym}
use native.Mathlib.Omega.{arith}

-- Where no refusal applies, the arguments are ready.
pub ready : (words : List ℕ) (side output : ℕ) (setting : List ℕ) (room : ℕ)
    → first_refusal 0 (evaluate_tests words side output setting room) ≡ 0 → Ready words side output setting room
unfolding unknown?
ready words side output setting room h =
    let t = first-passed (table_tests words) (call_tests words side output setting room) h in
    let p = sym (table-passed words (call_tests words side output setting room) t) ∙ h in
    let known = none-applies 12 _ _ (omega arith) p in
    let parts = neither (not (side? side)) (leb (outputs_of words) output) known.0 in
    let space = none-applies 14 _ _ (omega arith) known.1 in
    let size = none-applies 16 _ _ (omega arith) space.1 in
    let digits = none-applies 17 _ _ (omega arith) size.1 in
    record {
      table = accepted words t;
      side-known = not-false (side? side) parts.0;
      output-known = leb-false (outputs_of words) output parts.1;
      room-enough = ltb-false room (vertices_of words) space.0;
      setting-fits = eqb-true (length setting) (inputs_of words) (not-false _ size.0);
      setting-digits = not-false _ digits.0;
    }

module _ (words : List ℕ) (side output : ℕ) (setting : List ℕ) (room : ℕ) where
  -- A refusal is the answer, and so is the value where there is none.
  pub refusal_answers : (n : ℕ) → n ≡ first_refusal 0 (evaluate_tests words side output setting room) → (n ≡ 0 → ⊥)
      → refused n ≡ evaluation words side output setting room
  unfolding evaluation
  refusal_answers n e h = rw (← e, ne_eqb n 0 h) refl

  pub value-answers : (v : ℕ) → first_refusal 0 (evaluate_tests words side output setting room) ≡ 0 → v ≡ evaluated_value words side output setting
      → valued v ≡ evaluation words side output setting room
  unfolding evaluation
  value-answers v e h = rw (e, h) refl

module _ {words : List ℕ} {side output : ℕ} {setting : List ℕ} {room : ℕ} (h : Ready words side output setting room) where
  -- The values of the constant and of the inputs are 0 or 1.
  pub inputs_bits : (values : List ℕ) → take (1 + length setting) values ≡ map bit (false ∷ digits_of setting) → Bits (take (1 + inputs_of words) values)
  inputs_bits values e = subst Bits (sym e ∙ ap (λ (n : ℕ). take (1 + n) values) h.setting-fits) (bits_mapped (false ∷ digits_of setting))

  -- From them the values of all vertices are those of the truth values.
  pub all-values : (before values : List ℕ) → take (1 + length setting) before ≡ map bit (false ∷ digits_of setting)
      → take (vertices_of words) values ≡ number_values (take (1 + inputs_of words) before) (rows_of words)
      → take (vertices_of words) values ≡ map bit (values_on (graph_of words) (digits_of setting))
  unfolding values_on graph_of
  all-values before values e f =
      f
      ∙ ap (λ (vs : List ℕ). number_values vs (rows_of words)) (ap (λ (n : ℕ). take (1 + n) before) (sym h.setting-fits) ∙ e)
      ∙ sym (values-mapped bit_numbers (false ∷ digits_of setting) (rows_of words))

  module _ (values : List ℕ) (found : take (vertices_of words) values ≡ map bit (values_on (graph_of words) (digits_of setting))) where
    -- So the vertex of the output's literal is there, and its value is 0 or 1.
    pub output-vertex : vertices_of words ≤ length values → vertex_of (get_or (side_outputs words side) output 0) < length values
    output-vertex enough = omega (arith, side-output-below h.table side output h.output-known)

    pub output-bit : get_or values (vertex_of (get_or (side_outputs words side) output 0)) 0 ≤ 1
    output-bit =
        vertex-bit (vertices_of words) values (get_or (side_outputs words side) output 0) (side-output-below h.table side output h.output-known)
        (subst Bits (sym found) (bits_mapped (values_on (graph_of words) (digits_of setting))))

    -- And the literal's value is the output's.
    pub output-found : number_literal values (get_or (side_outputs words side) output 0) ≡ evaluated_value words side output setting
    unfolding evaluated_value output_value
    output-found =
        let r : ℕ = get_or (side_outputs words side) output 0 in
        sym (literal-taken (vertices_of words) values r (side-output-below h.table side output h.output-known))
        ∙ ap (λ (vs : List ℕ). number_literal vs r) found
        ∙ sym (literal-mapped bit_numbers (values_on (graph_of words) (digits_of setting)) r)
        ∙ ap (λ (rs : List ℕ). bit (literal_value not ◌&&◌ false (values_on (graph_of words) (digits_of setting)) (get_or rs output 0)))
        (sym (graph-outputs words side))
