-- The second file loaded in the first one's order: its gates with the literals by name are its renumbered gates with the literals by place.
use Prim.Native.Nat.{◌%◌, ◌*◌, ◌+◌, ◌<◌, ◌≤◌, suc, zero, ℕ}
use Rattle.aig.proofs.LiteralLaws.{vertex-literal}
use Rattle.aig.specs.Literal.{inverted?, literal_of, onto, vertex_of}
use Rattle.load_model.proofs.PairMeaningLaws.{first-literal, literals_length}
use Rattle.load_model.specs.Build.{Build, Built, Traced, ask_gate, ask_gates, build_file, literal_for, literals_from, with_gate}
use Rattle.load_model.specs.Loadable.{Loadable}
use Rattle.load_model.specs.code.Paired.{build_from, named_literals, second_literals}
use Rattle.netlist_model.proofs.PairingLaws.{Alike, Matched, alike_next, input-named, input-placed, paired-ands, paired-outputs, paired-within, vertex-beyond, vertex-within}
use Rattle.netlist_model.specs.Names.{place_of}
use Rattle.netlist_model.specs.Netlist.{Gate, Netlist}
use Rattle.netlist_model.specs.Pairing.{gate_for, paired, reference_for, vertex_for}
use borrow.Author.Tests.{eqb-false, eqb-true}
use lib.ListN.{get_or-eq_default, get_or, length, length-map}
use mathlib.Core.Bool.{Bool, false, true}
use mathlib.Core.List.{List, [], ◌++◌, ◌∷◌, map}
use mathlib.Core.Logic.{⊎_elim}
use mathlib.Core.Path.{◌∙◌, ◌≡◌, ap, ap₂, refl, subst, subst⁻¹, sym}
use native.Mathlib.Decide.{dec_lt}
use native.Mathlib.Omega.{arith}

-- Two netlists that are loaded can be paired, and the second in the first one's order is loaded after it.
pub loadable_matched : {d e : Netlist} → Loadable d e → Matched d e
loadable_matched h =
    record { left = h.left; right = h.right; edition = h.edition; inputs = h.inputs; names = h.names }

pub loadable-paired : {d e : Netlist} → Loadable d e → Loadable d (paired d e)
unfolding paired
loadable-paired {d} {e} h =
    record {
      left = h.left;
      right = unfold paired in paired-within (loadable_matched h);
      edition = h.edition;
      inputs = h.inputs;
      outputs = h.outputs ∙ sym (paired-outputs d e);
      names = λ name a. a;
      unconstrained = ap (map (reference_for d e)) h.unconstrained;
      ands = omega (arith, h.ands, paired-ands d e);
    }

-- A literal is inverted where another one of the same parity inverts it.
onto_parity : (x v r : ℕ) → onto x r ≡ onto x (literal_of v (inverted? r))
onto_parity x v r = go (inverted? r) refl
  where
    go : (b : Bool) → inverted? r ≡ b → onto x r ≡ onto x (literal_of v b)
    go true e = let h : r % 2 ≡ 1 = eqb-true (r % 2) 1 e in omega arith
    go false e = let h : (r % 2 ≡ 1 → ⊥) = eqb-false (r % 2) 1 e in omega arith

module _ {d e : Netlist} (m : Matched d e) where
  literal-alike : {us vs : List ℕ} → Alike m 0 us vs → (r : ℕ) → literal_for us r ≡ literal_for vs (reference_for d e r)
  unfolding reference_for
  literal-alike {us} {vs} a r =
      let v = vertex_for d e (vertex_of r) in
      rw (vertex-literal v (inverted? r)) (ap (λ (x : ℕ). onto x r) (a.each (vertex_of r)) ∙ onto_parity (get_or vs v 0) v r)

  -- Gates asked for with literals in both orders.
  record Both (t u : Traced) : Type 0 where
    alike : Alike m 0 t.literals u.literals
    build : t.build ≡ u.build

  gates-alike : {us vs : List ℕ} → Alike m 0 us vs → (b : Build) (gs : List Gate)
      → Both (ask_gates (record { literals = us; build = b }) gs) (ask_gates (record { literals = vs; build = b }) (map (gate_for d e) gs))
  unfolding ask_gates
  gates-alike {us = us} {vs = vs} a b [] = record { alike = a; build = refl }
  gates-alike {us = us} {vs = vs} a b (g ∷ gs) =
      let x = ask_gate b g.op (literal_for us g.p) (literal_for us g.q) in
      subst (λ (y : Built). Both (ask_gates (with_gate us x) gs) (ask_gates (with_gate vs y) (map (gate_for d e) gs)))
      (ap₂ (ask_gate b g.op) (literal-alike a g.p) (literal-alike a g.q))
      (gates-alike {us = us ++ x.literal ∷ []} {vs = vs ++ x.literal ∷ []} (alike_next m a x.literal) x.build gs)

  constraint-alike : {us vs : List ℕ} → Alike m 0 us vs → (rs : List ℕ)
      → literal_for us (get_or rs 0 1) ≡ literal_for vs (get_or (map (reference_for d e) rs) 0 1)
  unfolding reference_for
  constraint-alike a [] = literal-alike a 1
  constraint-alike a (r ∷ rs) = literal-alike a r

  -- The file loaded with literals in its own order is the paired file loaded by place.
  pub built_paired : {us : List ℕ} → Alike m 0 us (literals_from 0 (1 + e.inputs)) → (b : Build) → build_from us b e ≡ build_file b (paired d e)
  unfolding build_from build_file paired
  built_paired {us} a b =
      let both = gates-alike a b e.gates in
      rw (outputs-alike both.alike e.outputs, constraint-alike both.alike e.constraints, both.build) refl
    where
      outputs-alike : {us vs : List ℕ} → Alike m 0 us vs → (rs : List ℕ) → map (literal_for us) rs ≡ map (literal_for vs) (map (reference_for d e) rs)
      outputs-alike a [] = refl
      outputs-alike a (r ∷ rs) = ap₂ ◌∷◌ (literal-alike a r) (outputs-alike a rs)

  -- The literals by place of the vertex that an input is paired with.
  place-literal : (v : ℕ) → v ≤ e.inputs → get_or (literals_from 0 (1 + e.inputs)) (vertex_for d e v) 0 ≡ 2 * vertex_for d e v
  place-literal v h = first-literal 0 (1 + e.inputs) (vertex_for d e v) (omega (arith, vertex-within m v h)) ∙ omega arith

  -- The literals of the second file's first vertices, by name or by place.
  literals-each : {us : List ℕ} → length us ≡ 1 + e.inputs → ((v : ℕ) → v ≤ e.inputs → get_or us v 0 ≡ 2 * vertex_for d e v)
      → Alike m 0 us (literals_from 0 (1 + e.inputs))
  literals-each {us} n each =
      record {
        count = n ∙ sym (literals_length 0 (1 + e.inputs));
        first = omega arith;
        each = λ v. elim (dec_lt e.inputs v) [ yes h ↦ beyond v h | no h ↦ each v (omega arith) ∙ sym (place-literal v (omega arith)) ];
      }
    where
      beyond : (v : ℕ) → e.inputs < v → get_or us v 0 ≡ get_or (literals_from 0 (1 + e.inputs)) (vertex_for d e v) 0
      beyond v h =
          let k : length us ≤ v = omega arith in
          let l : length (literals_from 0 (1 + e.inputs)) ≤ v = omega (arith, literals_length 0 (1 + e.inputs)) in
          rw (vertex-beyond m v h) (get_or-eq_default us 0 k ∙ sym (get_or-eq_default (literals_from 0 (1 + e.inputs)) 0 l))

  named-alike : e.edition ≡ 2 → Alike m 0 (named_literals d.names e.names) (literals_from 0 (1 + e.inputs))
  unfolding named_literals
  named-alike h = literals-each (omega (arith, length-map e.names (λ (name : List ℕ). 2 * (1 + place_of name d.names)), m.right.by_name h)) at-vertex
    where
      at_name : (names : List (List ℕ)) (i : ℕ) → i < length names
          → get_or (map (λ (name : List ℕ). 2 * (1 + place_of name d.names)) names) i 0 ≡ 2 * (1 + place_of (get_or names i []) d.names)
      at_name [] i l = absurd (omega arith)
      at_name (x ∷ names) zero l = refl
      at_name (x ∷ names) (suc i) l = at_name names i (omega arith)

      at-vertex : (v : ℕ) → v ≤ e.inputs → get_or (named_literals d.names e.names) v 0 ≡ 2 * vertex_for d e v
      at-vertex zero l = refl
      at-vertex (suc i) l =
          let k : i < length e.names = omega (arith, m.right.by_name h) in
          at_name e.names i k ∙ omega (arith, input-named m i k)

  placed_alike : e.edition ≡ 1 → Alike m 0 (literals_from 0 (1 + e.inputs)) (literals_from 0 (1 + e.inputs))
  placed_alike h = literals-each (literals_length 0 (1 + e.inputs)) (λ v l. first-literal 0 (1 + e.inputs) v (omega arith) ∙ omega (arith, same v))
    where
      same : (v : ℕ) → vertex_for d e v ≡ v
      same zero = refl
      same (suc i) = ap suc (input-placed m i (omega (arith, ap length (m.right.by_place h))))

  pub second_alike : Alike m 0 (second_literals e.edition e.inputs d.names e.names) (literals_from 0 (1 + e.inputs))
  unfolding second_literals
  second_alike = ⊎_elim (λ h. by h (placed_alike h)) (λ h. by h (named-alike h)) m.right.edition
    where
      by : {x : ℕ} → e.edition ≡ x → Alike m 0 (second_literals x e.inputs d.names e.names) (literals_from 0 (1 + e.inputs))
          → Alike m 0 (second_literals e.edition e.inputs d.names e.names) (literals_from 0 (1 + e.inputs))
      by h a =
          subst⁻¹ (λ (y : ℕ). Alike m 0 (second_literals y e.inputs d.names e.names) (literals_from 0 (1 + e.inputs))) h a

  pub length_second : length (second_literals e.edition e.inputs d.names e.names) ≡ 1 + e.inputs
  length_second = second_alike.count ∙ literals_length 0 (1 + e.inputs)
