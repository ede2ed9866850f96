-- One file loaded: its gates and then its outputs, as the file holds them.
use Prim.Native.Nat.{◌*◌, ◌+◌, ◌<◌, ◌≤◌, ℕ}
use Rattle.load_model.specs.Build.{Build, Traced, ask_gates, literal_for}
use Rattle.load_model.specs.code.Paired.{build_from}
use Rattle.aig.specs.Literal.{lit}
use Rattle.aig.specs.declared.literal.Literal.{Literal}
use Rattle.load_file.proofs.Passing.{literal-front}
use Rattle.load_file.specs.code.File.{GatesAhead, GatesPassed, OutputsAhead, with_constraint}
use Rattle.netlist_model.proofs.CheckLaws.{constraint_reference-below}
use Rattle.netlist_model.proofs.ReadLaws.{constraints_in_lem, gates_in_lem, outputs_in_lem}
use Rattle.netlist_model.specs.code.Accepted.{HoldsNetlist}
use Rattle.netlist_model.specs.Check.{constraints_in, gates_in, outputs_in}
use Rattle.netlist_model.specs.Netlist as netlist
use Rattle.netlist_model.specs.Netlist.{AllBelow, Netlist, body_records, constraint_reference}
use Rattle.netlist_model.specs.code.Passing.{file_records}
use Rattle.netlist_model.specs.declared.Summary.{Summary}
use Rattle.table.specs.Limits.{max_ands, max_inputs, max_outputs}
use Rattle.text.proofs.DecimalLaws.{written_append, written_length, written_one}
use Rattle.text.specs.Decimal.{written}
use lib.ListN.{drop, length, length-map, set, take}
use mathlib.Core.List.{List, [], ◌∷◌, map}
use mathlib.Core.Path.{◌∙◌, ◌≡◌, ap, ap₂, refl, sym}
use native.Mathlib.Omega.{arith}

below_more : {n m : ℕ} {rs : List ℕ} → n ≤ m → AllBelow n rs → AllBelow m rs
below_more h netlist.AllBelow.none = netlist.AllBelow.none
below_more {m = m} h (netlist.AllBelow.next {r = r} l b) = let k : r < m = omega arith in netlist.AllBelow.next k (below_more h b)

-- References to the first n vertices need only their literals.
map_front : (literals : List ℕ) (n : ℕ) {rs : List ℕ} → AllBelow (2 * n) rs → map (literal_for literals) rs ≡ map (literal_for (take n literals)) rs
map_front literals n {rs = rs} b = go (2 * n) rs refl b
  where
    go : (m : ℕ) (rs : List ℕ) → m ≡ 2 * n → AllBelow m rs → map (literal_for literals) rs ≡ map (literal_for (take n literals)) rs
    go m [] e netlist.AllBelow.none = refl
    go m (r ∷ rs) e (netlist.AllBelow.next l b) = ap₂ ◌∷◌ (sym (literal-front literals n r (omega (arith, l, e)))) (go m rs e b)

module _ {file : List ℕ} {s : Summary} {d : Netlist} (h : HoldsNetlist file s d) where
  -- The counts of a file and their limits.
  pub inputs-few : s.inputs ≤ max_inputs
  inputs-few = rw h.counts h.within.inputs

  pub gates-few : s.gates ≤ 4096
  gates-few = rw h.counts h.within.gates

  pub outputs-few : s.outputs ≤ max_outputs
  outputs-few = rw h.counts h.within.outputs

  -- The gates of the file are ahead of its first line.
  pub gates-there : {asked : ℕ} → asked + s.ands ≤ max_ands → GatesAhead file s.start s.gates (1 + s.inputs) asked
  unfolding body_records
  gates-there room =
      record {
        gates = d.gates;
        outputs = d.outputs;
        constraints = d.constraints;
        inside = h.inside;
        records = h.body;
        counted = rw h.counts refl;
        downward = rw h.counts h.within.downward;
        room = rw h.counts at room;
      }

  gates-are : gates_in (file_records (drop s.start file)) ≡ d.gates
  unfolding body_records
  gates-are = rw h.body (gates_in_lem d.gates d.outputs d.constraints)

  outputs-are : outputs_in (file_records (drop s.start file)) ≡ d.outputs
  unfolding body_records
  outputs-are = rw h.body (outputs_in_lem d.gates d.outputs d.constraints)

  constraints-are : constraints_in (file_records (drop s.start file)) ≡ d.constraints
  unfolding body_records
  constraints-are = rw h.body (constraints_in_lem d.gates d.outputs d.constraints)

  outputs-below : AllBelow (2 * (1 + s.inputs + s.gates)) d.outputs
  outputs-below = rw h.counts h.within.below

  -- The reference of its constraint, which names a vertex.
  reference-is : s.reference ≡ constraint_reference d
  reference-is = ap (λ (x : Summary). x.reference) h.counts

  pub reference-below : s.reference < 2 * (1 + s.inputs + s.gates)
  reference-below = rw h.counts (constraint_reference-below h.within)

  module _ {before after : Traced} {at : ℕ} (p : GatesPassed file s.start before after at) where
    -- Its outputs are ahead of the line after the gates.
    pub outputs-there : {n : ℕ} → 1 + s.inputs + s.gates ≤ n → OutputsAhead file at s.outputs n
    outputs-there few =
        record {
          references = d.outputs;
          constraints = d.constraints;
          inside = p.inside;
          records = rw (outputs-are, constraints-are) at p.records;
          counted = rw h.counts refl;
          below = below_more (omega arith) outputs-below;
        }

    references-are : outputs_in (file_records (drop at file)) ≡ d.outputs
    references-are = rw (p.records, outputs-are, constraints-are) (outputs_in_lem [] d.outputs d.constraints)

  -- The graph after the file, and the literals for its references.
  module _
      (literals later : List ℕ) {b c : Build} {at : ℕ}
      (p : GatesPassed file s.start (record { literals = literals; build = b })
      (record { literals = take (1 + s.inputs + s.gates) later; build = c }) at) where
    traced :
        ◌≡◌ {A = Traced} (record { literals = take (1 + s.inputs + s.gates) later; build = c })
        (ask_gates (record { literals = literals; build = b }) d.gates)
    traced = rw gates-are at p.asked

    pub file_built : c ≡ (build_from literals b d).build
    unfolding build_from
    file_built = ap (λ (t : Traced). t.build) traced

    file-outputs : map (literal_for later) (outputs_in (file_records (drop at file))) ≡ (build_from literals b d).outputs
    unfolding build_from
    file-outputs =
        rw (references-are p)
        (map_front later (1 + s.inputs + s.gates) outputs-below ∙ ap (λ (t : Traced). map (literal_for t.literals) d.outputs) traced)

    file-constraint : literal_for later s.reference ≡ (build_from literals b d).constraint
    unfolding build_from
    file-constraint =
        sym (literal-front later (1 + s.inputs + s.gates) s.reference reference-below)
        ∙ ap₂ (λ (t : Traced) (r : ℕ). literal_for t.literals r) traced reference-is

    length_built : length (build_from literals b d).outputs ≡ length d.outputs
    unfolding build_from
    length_built = length-map d.outputs _

    -- The outputs' literals and then the constraint's, as they are written.
    pub file-written : (old : List ℕ) (from : ℕ) {list : List ℕ} {x : Literal} → from + s.outputs < length old
        → list ≡ written old from (map (literal_for later) (outputs_in (file_records (drop at file)))) → x ≡ lit (literal_for later s.reference)
        → set list (from + s.outputs) x.0 ≡ written old from (with_constraint (build_from literals b d))
    file-written old from {list} room e c =
        let os : List ℕ = (build_from literals b d).outputs in
        let n : length os ≡ s.outputs = length_built ∙ sym (ap (λ (x : Summary). x.outputs) h.counts) in
        let fits : from + length os ≤ length old = omega arith in
        let there : list ≡ written old from os = e ∙ ap (written old from) file-outputs in
        rw (there, c, file-constraint, ← n)
        (written_one (written old from os) (from + length os) (build_from literals b d).constraint (rw (written_length old from os fits) (omega arith))
        ∙ written_append old from os fits ((build_from literals b d).constraint ∷ []))
