-- The second file of a pair with its inputs in the first one's order: it keeps the limits, and its values are those of the file by name.
use Prim.Native.Nat.{◌*◌, ◌+◌, ◌<◌, ◌≤◌, suc, zero, ℕ}
use Rattle.aig.proofs.LiteralLaws.{inverted-literal, literal-below, vertex-literal}
use Rattle.aig.specs.Literal.{inverted?, vertex_of}
use Rattle.aig.specs.Values.{literal_value}
use Rattle.netlist_model.proofs.CheckLaws.{names-at_most, names-due}
use Rattle.netlist_model.proofs.NameLaws.{among-place}
use Rattle.netlist_model.specs.Check.{ands_of}
use Rattle.netlist_model.specs.Meaning.{and_count, file_value, gate_result, operation_value, vertex_results}
use Rattle.netlist_model.specs.Names.{Among, here, name_count, place_of, there}
use Rattle.netlist_model.specs.Netlist as netlist
use Rattle.netlist_model.specs.Netlist.{AllBelow, Downward, Gate, Netlist, Within}
use Rattle.netlist_model.specs.Pairing.{gate_for, input_for, paired, reference_for, setting_by_name, vertex_for}
use Rattle.netlist_model.specs.declared.Operation.{Operation}
use Rattle.truth.specs.Truth.{Setting}
use lib.ListN.{get_or-append, get_or-eq_default, get_or, length, length-append, length-map}
use lib.Seq.{get_or_at}
use mathlib.Core.Bool.{◌&&◌, false, not}
use mathlib.Core.List.{List, [], ◌++◌, ◌∷◌, map}
use mathlib.Core.Logic.{⊎_elim}
use mathlib.Core.Path.{◌∙◌, ◌≡◌, ap, ap₂, refl, subst, sym}
use native.Mathlib.Decide.{dec_lt}
use native.Mathlib.Omega.{arith}

-- Two files whose inputs can be paired. (RULES 1.11)
pub record Matched (d e : Netlist) : Type 0 where
  pub left : Within d
  pub right : Within e
  pub edition : d.edition ≡ e.edition
  pub inputs : d.inputs ≡ e.inputs
  pub names : (name : List ℕ) → Among name e.names → Among name d.names

-- A name at a place is among the names.
among-at : (names : List (List ℕ)) (i : ℕ) → i < length names → Among (get_or names i []) names
among-at [] i h = absurd (omega arith)
among-at (x ∷ names) zero h = here
among-at (x ∷ names) (suc i) h = there (among-at names i (omega arith))

-- An element of a mapped list, whatever stands for those that are not there.
mapped_at : {A B : Type 0} (f : A → B) (xs : List A) (i : ℕ) (x : A) (y : B) → i < length xs → get_or (map f xs) i y ≡ f (get_or xs i x)
mapped_at f [] i x y h = absurd (omega arith)
mapped_at f (z ∷ xs) zero x y h = refl
mapped_at f (z ∷ xs) (suc i) x y h = mapped_at f xs i x y (omega arith)

module _ {d e : Netlist} (m : Matched d e) where
  first-names : (i : ℕ) → i < length e.names → length d.names ≡ d.inputs
  first-names i l =
      ⊎_elim (λ h. absurd (omega (arith, ap length (m.right.by_place h)))) (λ h. m.left.by_name (m.edition ∙ h)) m.right.edition

  -- There are equally many.
  pub names-equal : length d.names ≡ length e.names
  names-equal = names-due m.left ∙ ap₂ name_count m.edition m.inputs ∙ sym (names-due m.right)

  -- An input is paired with one of the first file, and what is no input with itself.
  pub input-named : (i : ℕ) → i < length e.names → input_for d e i ≡ place_of (get_or e.names i []) d.names
  unfolding input_for
  input-named i l = mapped_at (λ (name : List ℕ). place_of name d.names) e.names i [] i l

  pub input-placed : (i : ℕ) → length e.names ≤ i → input_for d e i ≡ i
  unfolding input_for
  input-placed i l =
      let k : length (map (λ (name : List ℕ). place_of name d.names) e.names) ≤ i = omega (arith, length-map e.names (λ (name : List ℕ). place_of name d.names)) in
      get_or-eq_default (map (λ (name : List ℕ). place_of name d.names) e.names) i k

  input-within : (i : ℕ) → i < e.inputs → input_for d e i < e.inputs
  input-within i h =
      elim (dec_lt i (length e.names)) [
        | yes l ↦ omega (arith, input-named i l, among-place (m.names (get_or e.names i []) (among-at e.names i l)), first-names i l, m.inputs)
        | no l ↦ omega (arith, input-placed i (omega arith))
      ]

  pub vertex-within : (v : ℕ) → v ≤ e.inputs → vertex_for d e v ≤ e.inputs
  vertex-within zero h = omega arith
  vertex-within (suc i) h = omega (arith, input-within i (omega arith))

  pub vertex-beyond : (v : ℕ) → e.inputs < v → vertex_for d e v ≡ v
  vertex-beyond zero h = absurd (omega arith)
  vertex-beyond (suc i) h = ap suc (input-placed i (omega (arith, names-at_most m.right)))

  -- Two lists, of what the vertices of the second file have in its order and in the first file's.
  pub record Alike {A : Type 0} (x : A) (us vs : List A) : Type 0 where
    pub count : length us ≡ length vs
    pub first : 1 + e.inputs ≤ length us
    pub each : (v : ℕ) → get_or us v x ≡ get_or vs (vertex_for d e v) x

  -- One more, after the inputs, is the same in both.
  pub alike_next : {A : Type 0} {x : A} {us vs : List A} → Alike x us vs → (y : A) → Alike x (us ++ y ∷ []) (vs ++ y ∷ [])
  alike_next {x = x} {us = us} {vs = vs} a y =
      record {
        count = omega (arith, a.count, length-append us (y ∷ []), length-append vs (y ∷ []));
        first = omega (arith, a.first, length-append us (y ∷ []));
        each = λ v. elim (dec_lt v (length us)) [ yes h ↦ before v h | no h ↦ after v (omega arith) ];
      }
    where
      below : (v : ℕ) → v < length us → vertex_for d e v < length vs
      below v h =
          elim (dec_lt e.inputs v) [
            | yes l ↦ omega (arith, vertex-beyond v l, a.count)
            | no l ↦ omega (arith, vertex-within v (omega arith), a.count, a.first)
          ]

      before : (v : ℕ) → v < length us → get_or (us ++ y ∷ []) v x ≡ get_or (vs ++ y ∷ []) (vertex_for d e v) x
      before v h = get_or-append us (y ∷ []) x v h ∙ a.each v ∙ sym (get_or-append vs (y ∷ []) x (vertex_for d e v) (below v h))

      after : (v : ℕ) → length us ≤ v → get_or (us ++ y ∷ []) v x ≡ get_or (vs ++ y ∷ []) (vertex_for d e v) x
      after v h = rw (vertex-beyond v (omega (arith, a.first))) (go (dec_lt (length us) v))
        where
          go : Dec (length us < v) → get_or (us ++ y ∷ []) v x ≡ get_or (vs ++ y ∷ []) v x
          go (yes l) =
              let k : length (us ++ y ∷ []) ≤ v = omega (arith, length-append us (y ∷ [])) in
              let n : length (vs ++ y ∷ []) ≤ v = omega (arith, length-append vs (y ∷ []), a.count) in
              get_or-eq_default (us ++ y ∷ []) x k ∙ sym (get_or-eq_default (vs ++ y ∷ []) x n)
          go (no l) = get_or_at us y [] x v (omega arith) ∙ sym (get_or_at vs y [] x v (omega (arith, a.count)))

  module _ {A : Type 0} (inverse : A → A) (both : A → A → A) (falsum : A) where
    -- A reference has in the file's order what its renumbered one has in the first file's.
    pub alike-reference : {us vs : List A} → Alike falsum us vs → (r : ℕ) → literal_value inverse both falsum us r ≡ literal_value inverse both falsum vs (reference_for d e r)
    unfolding reference_for
    alike-reference {us = us} {vs = vs} a r =
        rw (vertex-literal (vertex_for d e (vertex_of r)) (inverted? r), inverted-literal (vertex_for d e (vertex_of r)) (inverted? r), a.each (vertex_of r)) refl

    -- So have the gates.
    pub alike_results : (operation : Operation → A → A → A) {us vs : List A} → Alike falsum us vs → (gs : List Gate)
        → Alike falsum (vertex_results inverse both falsum operation us gs) (vertex_results inverse both falsum operation vs (map (gate_for d e) gs))
    unfolding vertex_results
    alike_results operation {us = us} {vs = vs} a gs = go us vs a gs
      where
        go : (us vs : List A) → Alike falsum us vs → (gs : List Gate)
            → Alike falsum (vertex_results inverse both falsum operation us gs) (vertex_results inverse both falsum operation vs (map (gate_for d e) gs))
        go us vs a [] = a
        go us vs a (g ∷ gs) =
            go (us ++ gate_result inverse both falsum operation us g ∷ []) (vs ++ gate_result inverse both falsum operation vs (gate_for d e g) ∷ [])
            (subst (λ (y : A). Alike falsum (us ++ gate_result inverse both falsum operation us g ∷ []) (vs ++ y ∷ []))
            (ap₂ (operation g.op) (alike-reference a g.p) (alike-reference a g.q))
            (alike_next a (gate_result inverse both falsum operation us g))) gs

  -- The digits of a setting.
  setting-named : (s : Setting) → e.edition ≡ 2 → setting_by_name d e s ≡ map (λ (name : List ℕ). get_or s (place_of name d.names) false) e.names
  unfolding setting_by_name
  setting-named s h = rw (m.edition ∙ h) refl

  setting-placed : (s : Setting) → e.edition ≡ 1 → setting_by_name d e s ≡ s
  unfolding setting_by_name
  setting-placed s h = rw (m.edition ∙ h) refl

  module _ (s : Setting) (digits : length s ≡ d.inputs) where
    length_setting : length (setting_by_name d e s) ≡ length s
    length_setting =
        ⊎_elim (λ h. ap length (setting-placed s h))
        (λ h. ap length (setting-named s h) ∙ length-map e.names _ ∙ omega (arith, m.right.by_name h, m.inputs)) m.right.edition

    digit_at : (i : ℕ) → get_or (setting_by_name d e s) i false ≡ get_or s (input_for d e i) false
    digit_at i =
        ⊎_elim
        (λ h. rw (setting-placed s h, input-placed i (omega (arith, ap length (m.right.by_place h)))) refl)
        (λ h. elim (dec_lt i (length e.names)) [ yes l ↦ named h l | no l ↦ beyond (omega (arith, m.right.by_name h)) ]) m.right.edition
      where
        named : e.edition ≡ 2 → i < length e.names → get_or (setting_by_name d e s) i false ≡ get_or s (input_for d e i) false
        named h l =
            rw (setting-named s h, input-named i l) (mapped_at (λ (name : List ℕ). get_or s (place_of name d.names) false) e.names i [] false l)

        beyond : e.inputs ≤ i → get_or (setting_by_name d e s) i false ≡ get_or s (input_for d e i) false
        beyond l =
            let k : length (setting_by_name d e s) ≤ i = omega (arith, length_setting, m.inputs) in
            let n : length s ≤ i = omega (arith, m.inputs) in
            rw (input-placed i (omega (arith, names-at_most m.right))) (get_or-eq_default (setting_by_name d e s) false k ∙ sym (get_or-eq_default s false n))

    setting-alike : Alike false (false ∷ setting_by_name d e s) (false ∷ s)
    setting-alike = record { count = ap suc length_setting; first = omega (arith, length_setting, m.inputs); each = digits-at }
      where
        digits-at : (v : ℕ) → get_or (false ∷ setting_by_name d e s) v false ≡ get_or (false ∷ s) (vertex_for d e v) false
        digits-at zero = refl
        digits-at (suc i) = digit_at i

    -- The value of an output after the pairing is the file's value on the digits by name.
    pub paired-value : (k : ℕ) → file_value (paired d e) k s ≡ file_value e k (setting_by_name d e s)
    unfolding file_value paired reference_for
    paired-value k =
        let a = alike_results not ◌&&◌ false operation_value setting-alike e.gates in
        ap (literal_value not ◌&&◌ false (vertex_results not ◌&&◌ false operation_value (false ∷ s) (map (gate_for d e) e.gates))) (reference-at e.outputs k)
        ∙ sym (alike-reference not ◌&&◌ false a (get_or e.outputs k 0))
      where
        reference-at : (rs : List ℕ) (k : ℕ) → get_or (map (reference_for d e) rs) k 0 ≡ reference_for d e (get_or rs k 0)
        reference-at [] k = refl
        reference-at (r ∷ rs) zero = refl
        reference-at (r ∷ rs) (suc k) = reference-at rs k

  -- A renumbered reference keeps its bound.
  pub reference-below : (r v : ℕ) → 1 + e.inputs ≤ v → r < 2 * v → reference_for d e r < 2 * v
  unfolding reference_for
  reference-below r v h l =
      literal-below (vertex_for d e (vertex_of r)) v (inverted? r)
      (elim (dec_lt e.inputs (vertex_of r)) [
        | yes k ↦ omega (arith, vertex-beyond (vertex_of r) k)
        | no k ↦ omega (arith, vertex-within (vertex_of r) (omega arith))
      ])

  gates-downward : {v : ℕ} {gs : List Gate} → Downward v gs → 1 + e.inputs ≤ v → Downward v (map (gate_for d e) gs)
  gates-downward netlist.Downward.none h = netlist.Downward.none
  gates-downward (netlist.Downward.gate {v = v} {g = g} p q w) h =
      netlist.Downward.gate (reference-below g.p v h p) (reference-below g.q v h q) (gates-downward w (omega arith))

  references-below : (v : ℕ) {rs : List ℕ} → 1 + e.inputs ≤ v → AllBelow (2 * v) rs → AllBelow (2 * v) (map (reference_for d e) rs)
  references-below v {rs = rs} h b = go (2 * v) rs refl b
    where
      go : (n : ℕ) (rs : List ℕ) → n ≡ 2 * v → AllBelow n rs → AllBelow (2 * v) (map (reference_for d e) rs)
      go n [] q netlist.AllBelow.none = netlist.AllBelow.none
      go n (r ∷ rs) q (netlist.AllBelow.next l b) = netlist.AllBelow.next (reference-below r v h (omega (arith, l, q))) (go n rs q b)

  -- The file with its inputs in the first file's order keeps the limits.
  pub paired-within : Within (paired d e)
  unfolding paired
  paired-within =
      record {
        edition = m.right.edition;
        by_place = λ h. m.left.by_place (m.edition ∙ h);
        by_name = λ h. m.left.by_name (m.edition ∙ h) ∙ m.inputs;
        names = m.left.names;
        inputs = m.right.inputs;
        gates = omega (arith, m.right.gates, length-map e.gates (gate_for d e));
        some = omega (arith, m.right.some, length-map e.outputs (reference_for d e));
        outputs = omega (arith, m.right.outputs, length-map e.outputs (reference_for d e));
        downward = gates-downward m.right.downward (omega arith);
        below =
            rw (length-map e.gates (gate_for d e))
            (references-below (1 + e.inputs + length e.gates) (omega arith) m.right.below);
        constraints = omega (arith, m.right.constraints, length-map e.constraints (reference_for d e));
        constraint-below =
            rw (length-map e.gates (gate_for d e))
            (references-below (1 + e.inputs + length e.gates) (omega arith) m.right.constraint-below);
      }

-- It has as many outputs and ANDs.
pub paired-outputs : (d e : Netlist) → length (paired d e).outputs ≡ length e.outputs
unfolding paired
paired-outputs d e = length-map e.outputs (reference_for d e)

pub paired-ands : (d e : Netlist) → and_count (paired d e).gates ≡ and_count e.gates
unfolding paired and_count
paired-ands d e = go e.gates
  where
    go : (gs : List Gate) → and_count (map (gate_for d e) gs) ≡ and_count gs
    go [] = refl
    go (g ∷ gs) = ap (◌+◌ (ands_of g.op)) (go gs)

pub paired-inputs : (d e : Netlist) → (paired d e).inputs ≡ e.inputs
unfolding paired
paired-inputs d e = refl
