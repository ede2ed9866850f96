-- What the outputs of a file and of both files mean, over any domain, and which ANDs the rows come from.
use Prim.Native.Nat.{◌*◌, ◌+◌, ◌<◌, ◌≤◌, suc, zero, ℕ}
use Rattle.aig.specs.Values.{literal_value}
use Rattle.load_model.proofs.MeaningLaws.{gates_mean, literal_for-means, origin_then, value-vertex, valued-before}
use Rattle.load_model.proofs.PairLaws.{empty-good, file_start, left_step, right_step, start-ready}
use Rattle.load_model.specs.Build.{Build, Traced, ask_gates, build_file, build_pair, literal_for, literals_from}
use Rattle.load_model.specs.code.Good.{Good}
use Rattle.load_model.specs.code.Valued.{Begins, Follows, Origin, PairMeans, StandsFor, Valuation, Valued}
use Rattle.netlist_model.specs.Meaning.{ands_from, vertex_results}
use Rattle.netlist_model.specs.Netlist.{Netlist, constraint_reference}
use Rattle.netlist_model.specs.declared.Operation.{Operation}
use lib.ListN.{get_or-eq_default, get_or, length}
use mathlib.Core.List.{List, [], ◌∷◌, map}
use mathlib.Core.Path.{◌∙◌, ◌≡◌, ap, refl, subst, sym}
use native.Mathlib.Decide.{dec_lt}
use native.Mathlib.Omega.{arith}

-- The literals of the vertices from v on.
pub literals_length : (v n : ℕ) → length (literals_from v n) ≡ n
unfolding literals_from
literals_length v zero = refl
literals_length v (suc n) = ap suc (literals_length (suc v) n)

pub first-literal : (v n i : ℕ) → i < n → get_or (literals_from v n) i 0 ≡ 2 * (v + i)
unfolding literals_from
first-literal v zero i h = absurd (omega arith)
first-literal v (suc n) zero h = omega arith
first-literal v (suc n) (suc i) h = first-literal (suc v) n i (omega arith) ∙ omega arith

module _ {A : Type 0} {Sound : A → Type 0} {invert : A → A} {both : A → A → A} {falsum : A} {vs : List A}
    (val : Valuation Sound invert both falsum vs) {operation : Operation → A → A → A} (same : StandsFor invert both falsum operation)
    {n : ℕ} {us : List A} (begins : Begins falsum vs n us) where
  -- The literals of a file's first vertices have these values.
  start_follows : (b : Build) → Follows invert both falsum vs (file_start b n) us
  start_follows b =
      record {
        count = literals_length 0 (1 + n) ∙ sym begins.count;
        each = λ i. elim (dec_lt i (1 + n)) [ yes h ↦ within i h | no h ↦ beyond i (omega arith) ];
      }
    where
      within : (i : ℕ) → i < 1 + n → literal_value invert both falsum vs (get_or (literals_from 0 (1 + n)) i 0) ≡ get_or us i falsum
      within i h =
          let e : 2 * (0 + i) ≡ 2 * i = omega arith in
          ap (literal_value invert both falsum vs) (first-literal 0 (1 + n) i h ∙ e) ∙ value-vertex val i ∙ begins.each i h

      beyond : (i : ℕ) → 1 + n ≤ i → literal_value invert both falsum vs (get_or (literals_from 0 (1 + n)) i 0) ≡ get_or us i falsum
      beyond i h =
          let l : length (literals_from 0 (1 + n)) ≤ i = omega (arith, literals_length 0 (1 + n)) in
          let m : length us ≤ i = omega (arith, begins.count) in
          ap (literal_value invert both falsum vs) (get_or-eq_default (literals_from 0 (1 + n)) 0 l) ∙ val.constant ∙ sym (get_or-eq_default us falsum m)

  -- The outputs and the constraint of a file have its values, and its rows come from its ANDs.
  record FileMeans (b : Build) (d : Netlist) : Type 0 where
    outputs : (k : ℕ) → k < length d.outputs
        → literal_value invert both falsum vs (get_or (build_file b d).outputs k 0)
        ≡ literal_value invert both falsum (vertex_results invert both falsum operation us d.gates) (get_or d.outputs k 0)
    constraint : literal_value invert both falsum vs (build_file b d).constraint
        ≡ literal_value invert both falsum (vertex_results invert both falsum operation us d.gates) (constraint_reference d)
    origin : Origin invert both falsum vs b (build_file b d).build (ands_from invert both falsum operation us d.gates)

  file-means : {b : Build} → Good n b → (d : Netlist) → n ≡ d.inputs → Valued invert both falsum vs n (build_file b d).build → FileMeans b d
  unfolding build_file
  file-means {b} g d e w =
      let f : Follows invert both falsum vs (file_start b d.inputs) us = subst (λ (m : ℕ). Follows invert both falsum vs (file_start b m) us) e (start_follows b) in
      let m = gates_mean val operation same (start-ready g d (sym e)) f d.gates w in
      record {
        outputs = outputs_mean (ask_gates (file_start b d.inputs) d.gates) m.0 d.outputs;
        constraint = literal_for-means val m.0 (constraint_reference d);
        origin = m.1;
      }
    where
      outputs_mean : (t : Traced) {xs : List A} → Follows invert both falsum vs t xs → (rs : List ℕ) (k : ℕ) → k < length rs
          → literal_value invert both falsum vs (get_or (map (literal_for t.literals) rs) k 0) ≡ literal_value invert both falsum xs (get_or rs k 0)
      outputs_mean t f [] k h = absurd (omega arith)
      outputs_mean t f (r ∷ rs) zero h = literal_for-means val f r
      outputs_mean t f (r ∷ rs) (suc k) h = outputs_mean t f rs k (omega arith)

module _ {A : Type 0} {Sound : A → Type 0} {invert : A → A} {both : A → A → A} {falsum : A} {vs : List A}
    (val : Valuation Sound invert both falsum vs) {operation : Operation → A → A → A} (same : StandsFor invert both falsum operation)
    (d e : Netlist) {us : List A} (begins : Begins falsum vs d.inputs us) where
  -- So with both files.
  pub pair-means : d.inputs ≡ e.inputs → Valued invert both falsum vs d.inputs (build_pair d e).build → PairMeans invert both falsum operation vs us d e
  unfolding build_pair
  pair-means inputs w =
      let s = left_step d e inputs in
      let m = file-means val same begins (empty-good d.inputs) d refl (valued-before val s.good (right_step d e inputs) w) in
      let k = file-means val same begins s.good e inputs w in
      record { left = m.outputs; right = k.outputs; constraint = m.constraint; origin = origin_then val m.origin k.origin }
