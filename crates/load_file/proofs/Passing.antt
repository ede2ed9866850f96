-- A file's lines passed one after the other: what is ahead of a line decides the graph and the outputs.
use Prim.Native.Nat.{◌*◌, ◌+◌, ◌<◌, ◌≤◌, ℕ}
use Rattle.aig.specs.Literal.{lit, vertex_of}
use Rattle.aig.specs.declared.literal.Literal.{Literal}
use Rattle.load_model.specs.Build.{Build, Built, Traced, ask_gate, ask_gates, literal_for, with_gate}
use Rattle.load_graph.proofs.Asking.{gate-asked}
use Rattle.load_graph.specs.declared.Builder.{Builder}
use Rattle.load_file.specs.code.File.{GateLine, GatesAhead, GatesPassed, OutputLine, OutputsAhead, trace}
use Rattle.netlist_model.proofs.LineLaws.{RecordAt, record-ahead}
use Rattle.netlist_model.proofs.ReadLaws.{constraints_in_lem, gates_in_lem, outputs_in_lem}
use Rattle.netlist_model.specs.Check.{ands_of, constraints_in, gates_in, outputs_in}
use Rattle.netlist_model.specs.Meaning.{and_count}
use Rattle.netlist_model.specs.Netlist as netlist
use Rattle.netlist_model.specs.Netlist.{AllBelow, Downward, constraint_record, gate_record, output_record}
use Rattle.netlist_model.specs.Records.{record_of}
use Rattle.netlist_model.specs.code.Passing.{file_records}
use Rattle.netlist_model.specs.declared.Operation.{Operation}
use Rattle.netlist_model.specs.declared.Record.TheVariants.{Gate, Output}
use Rattle.netlist_model.specs.declared.Record.{Record}
use Rattle.table.specs.Limits.{max_ands}
use Rattle.text.specs.Decimal.{written}
use Rattle.text.specs.Split.{up_to}
use Rattle.words.proofs.Writing.{Writing, writing_begins, writing-ends, writing-turn}
use Rattle.std.specs.Prelude.{None, Option, Some}
use lib.ListN.{drop, length, set, take}
use lib.Seq.{get_or-take, take-suc-set}
use mathlib.Core.List.{List, [], ◌++◌, ◌∷◌, map}
use mathlib.Core.Logic.{◌⊎◌, ⊎_elim}
use mathlib.Core.Path.{◌∙◌, ◌≡◌, ap, refl}
use native.Mathlib.Numerals.{add-one}
use native.Mathlib.Omega.{arith}

-- A reference to one of the first n vertices needs only their literals.
pub literal-front : (literals : List ℕ) (n r : ℕ) → r < 2 * n → literal_for (take n literals) r ≡ literal_for literals r
literal-front literals n r h = rw (get_or-take n literals (vertex_of r) 0 (omega arith)) refl

-- A kind of record is none of five others.
pub none_of : {kind a b c d e : ℕ} → (kind ≡ a) ⊎ ((kind ≡ b) ⊎ ((kind ≡ c) ⊎ ((kind ≡ d) ⊎ (kind ≡ e))))
    → (kind ≡ a → ⊥) → (kind ≡ b → ⊥) → (kind ≡ c → ⊥) → (kind ≡ d → ⊥) → (kind ≡ e → ⊥) → ⊥
none_of k f g h i j = ⊎_elim f (λ l. ⊎_elim g (λ m. ⊎_elim h (λ n. ⊎_elim i j n) m) l) k

-- What the gate of a line keeps.
pub record Due (v asked : ℕ) (op : Operation) (p q : ℕ) : Type 0 where
  pub first_below : p < 2 * v
  pub second_below : q < 2 * v
  pub room : asked + ands_of op ≤ max_ands

pub gate-due :
    {file : List ℕ} {at v asked : ℕ} → GateLine file at v asked
    → {op : Operation} {p q : ℕ} → record_of (up_to 10 (drop at file)) ≡ Some (Gate op p q) → Due v asked op p q
gate-due l {op} {p} {q} e =
    let eo : l.gate.op ≡ op = cc l.this in
    let ep : l.gate.p ≡ p = cc l.this in
    let eq : l.gate.q ≡ q = cc l.this in
    record { first_below = rw ep at l.first_below; second_below = rw eq at l.second_below; room = rw eo at l.room }

-- The gate of a line is asked for, and its literal is stored.
pub gate-stored :
    (literals : List ℕ) (v : ℕ) (b : Build) (op : Operation) (p q : ℕ) {x : Built} {lp lq : Literal} {r : Option Record} → v < length literals
    → p < 2 * v → q < 2 * v → lp ≡ lit (literal_for literals p) → lq ≡ lit (literal_for literals q) → x ≡ ask_gate b op lp.0 lq.0
    → r ≡ Some (Gate op p q)
    → record { literals = take (v + 1) (set literals v x.literal); build = x.build } ≡ ask_gates (record { literals = take v literals; build = b }) (gates_in (r ∷ []))
unfolding ask_gates gates_in
gate-stored literals v b op p q {x} fits hp hq ep eq e er =
    rw (er, literal-front literals v p hp, literal-front literals v q hq, add-one v, take-suc-set literals v x.literal fits)
    (ap (with_gate (take v literals)) (rw (ep, eq) at e))

-- The literal of an output line.
pub output-stored :
    (literals : List ℕ) (r : ℕ) {x : Literal} {y : Option Record} → x ≡ lit (literal_for literals r) → y ≡ Some (Output r)
    → map (literal_for literals) (outputs_in (y ∷ [])) ≡ x.0 ∷ []
unfolding outputs_in
output-stored literals r e er = rw (er, e) refl

gate-formed : (g : netlist.Gate) → gate_record g ≡ None → ⊥
gate-formed g e = let z : ◌≡◌ {A = ℕ} 0 1 = cc in omega arith

-- Before a gate line: the gates ahead, asked for from here, come to what all of them come to. The last vertex is the one before `end`.
module _ (file : List ℕ) (all : List netlist.Gate) (os cs : List ℕ) (end : ℕ) (before : Traced) where
  pub record AskingGates (at v : ℕ) (t : Traced) : Type 0 where
    pub rest : List netlist.Gate
    pub counted : v + length rest ≡ end
    pub inside : at ≤ length file
    pub records : file_records (drop at file) ≡ map gate_record rest ++ (map output_record os ++ map constraint_record cs)
    pub ahead : ask_gates t rest ≡ ask_gates before all
    pub downward : Downward v rest
    pub room : t.build.asked + and_count rest ≤ max_ands

  -- The next gate, its line, and the gates after it.
  record NextGate (at v : ℕ) (t : Traced) : Type 0 where
    gate : netlist.Gate
    others : List netlist.Gate
    line : RecordAt file at (gate_record gate) (map gate_record others ++ (map output_record os ++ map constraint_record cs))
    counted : v + 1 + length others ≡ end
    ahead : ask_gates t (gate ∷ others) ≡ ask_gates before all
    first_below : gate.p < 2 * v
    second_below : gate.q < 2 * v
    downward : Downward (v + 1) others
    room : t.build.asked + ands_of gate.op + and_count others ≤ max_ands

-- The gates of the file from a place on, its outputs and its constraints.
abbrev pub GatesFrom : List ℕ → ℕ → ℕ → Traced → ℕ → ℕ → Traced → Type 0
GatesFrom file start end before at v t =
    AskingGates file (gates_in (file_records (drop start file))) (outputs_in (file_records (drop start file))) (constraints_in (file_records (drop start file))) end before at v t

pub gates-begin :
    {file : List ℕ} {start count v : ℕ} (before : Traced) → GatesAhead file start count v before.build.asked
    → GatesFrom file start (v + count) before start v before
gates-begin before g =
    rw (
      g.records,
      gates_in_lem g.gates g.outputs g.constraints,
      outputs_in_lem g.gates g.outputs g.constraints,
      constraints_in_lem g.gates g.outputs g.constraints,
    )
    (record {
      rest = g.gates;
      counted = omega (arith, g.counted);
      inside = g.inside;
      records = g.records;
      ahead = refl;
      downward = g.downward;
      room = g.room;
    })

module _ {file : List ℕ} {all : List netlist.Gate} {os cs : List ℕ} {end : ℕ} {before t : Traced} {at v : ℕ} (a : AskingGates file all os cs end before at v t) where
  -- The last gate is passed.
  module _ (last : end ≤ v) where
    none : a.rest ≡ []
    none = go a.rest refl
      where
        go : (gs : List netlist.Gate) → a.rest ≡ gs → gs ≡ []
        go [] e = refl
        go (g ∷ gs) e = absurd (omega (arith, a.counted, ap length e))

    pub gates_end : t ≡ ask_gates before all
    unfolding ask_gates
    gates_end = rw none at a.ahead

    pub gates-outputs : file_records (drop at file) ≡ map output_record os ++ map constraint_record cs
    gates-outputs = rw none at a.records

  module _ (more : v < end) where
    next-gate : NextGate file all os cs end before at v t
    unfolding and_count
    next-gate = go a.rest a.counted a.records a.ahead a.downward a.room
      where
        go :
            (gs : List netlist.Gate) → v + length gs ≡ end → file_records (drop at file) ≡ map gate_record gs ++ (map output_record os ++ map constraint_record cs)
            → ask_gates t gs ≡ ask_gates before all → Downward v gs → t.build.asked + and_count gs ≤ max_ands → NextGate file all os cs end before at v t
        go [] n r h w m = absurd (omega arith)
        go (g ∷ gs) n r h (netlist.Downward.gate hp hq w) m =
            record {
              gate = g;
              others = gs;
              line = record-ahead file at r (gate-formed g);
              counted = omega arith;
              ahead = h;
              first_below = hp;
              second_below = hq;
              downward = rw (add-one v) w;
              room = omega arith;
            }

    -- The line that is due is the next gate's.
    pub gates-due : GateLine file at v t.build.asked
    gates-due =
        let n = next-gate in
        record {
          gate = n.gate;
          inside = a.inside;
          this = n.line.this;
          first_below = n.first_below;
          second_below = n.second_below;
          room = omega (arith, n.room);
        }

    -- Its gate is asked for.
    pub gates-next :
        {u : Traced} → u ≡ ask_gates t (gates_in (record_of (up_to 10 (drop at file)) ∷ []))
        → AskingGates file all os cs end before (at + length (up_to 10 (drop at file)) + 1) (v + 1) u
    unfolding ask_gates gates_in
    gates-next {u} e =
        let n = next-gate in
        let one : u ≡ ask_gates t (n.gate ∷ []) = rw n.line.this at e in
        let asked : u.build.asked ≡ t.build.asked + ands_of n.gate.op =
        ap (λ (x : Traced). x.build.asked) one
        ∙ gate-asked t.build n.gate.op (literal_for t.literals n.gate.p) (literal_for t.literals n.gate.q) in
        record {
          rest = n.others;
          counted = n.counted;
          inside = omega (arith, n.line.ended);
          records = n.line.rest;
          ahead = rw one n.ahead;
          downward = n.downward;
          room = omega (arith, n.room);
        }

-- All gates are passed.
pub gates-passed :
    {file : List ℕ} {start end at v : ℕ} {before : Traced} (literals : List ℕ) (graph : Builder)
    → GatesFrom file start end before at v (trace literals v graph) → end ≤ v → GatesPassed file start before (trace literals end graph) at
gates-passed {end = end} {v = v} literals graph a last =
    let e : end ≡ v = omega (arith, a.counted) in
    record { asked = rw e (gates_end a last); inside = a.inside; records = gates-outputs a last }

-- Before an output line: the references ahead, and their literals still to be written. The last place is the one before `end`.
module _ (file : List ℕ) (n : ℕ) (f : ℕ → ℕ) (old : List ℕ) (from : ℕ) (all cs : List ℕ) (end : ℕ) where
  pub record WritingOutputs (at k : ℕ) (list : List ℕ) : Type 0 where
    pub rest : List ℕ
    pub counted : k + length rest ≡ end
    pub inside : at ≤ length file
    pub records : file_records (drop at file) ≡ map output_record rest ++ map constraint_record cs
    pub below : AllBelow (2 * n) rest
    pub writing : Writing old from (map f all) list k (map f rest)

  -- The next reference, its line, and the references after it.
  record NextOutput (at k : ℕ) (list : List ℕ) : Type 0 where
    reference : ℕ
    others : List ℕ
    line : RecordAt file at (output_record reference) (map output_record others ++ map constraint_record cs)
    counted : k + 1 + length others ≡ end
    bound : reference < 2 * n
    below : AllBelow (2 * n) others
    writing : Writing old from (map f all) list k (f reference ∷ map f others)

output-formed : (r : ℕ) → output_record r ≡ None → ⊥
output-formed r e = let z : ◌≡◌ {A = ℕ} 0 1 = cc in omega arith

-- The outputs of the file from a place on, and its constraints.
abbrev pub OutputsFrom : List ℕ → ℕ → List ℕ → List ℕ → ℕ → ℕ → ℕ → ℕ → List ℕ → Type 0
OutputsFrom file start literals old from end at k list =
    WritingOutputs file (length literals) (literal_for literals) old from (outputs_in (file_records (drop start file))) (constraints_in (file_records (drop start file))) end at k list

pub outputs-begin :
    {file : List ℕ} {start count : ℕ} (literals old : List ℕ) (from : ℕ) → OutputsAhead file start count (length literals)
    → OutputsFrom file start literals old from (from + count) start from old
outputs-begin literals old from o =
    rw (o.records, outputs_in_lem [] o.references o.constraints, constraints_in_lem [] o.references o.constraints)
    (record {
      rest = o.references;
      counted = omega (arith, o.counted);
      inside = o.inside;
      records = o.records;
      below = o.below;
      writing = writing_begins old from (map (literal_for literals) o.references);
    })

module _ {file : List ℕ} {n : ℕ} {f : ℕ → ℕ} {old : List ℕ} {from : ℕ} {all cs : List ℕ} {end at k : ℕ} {list : List ℕ} (w : WritingOutputs file n f old from all cs end at k list) where
  -- The last reference is passed.
  pub outputs_end_lem : end ≤ k → list ≡ written old from (map f all)
  outputs_end_lem last = writing-ends (rw none at w.writing)
    where
      none : w.rest ≡ []
      none = go w.rest refl
        where
          go : (rs : List ℕ) → w.rest ≡ rs → rs ≡ []
          go [] e = refl
          go (r ∷ rs) e = absurd (omega (arith, w.counted, ap length e))

  -- At the end of the file it is passed.
  pub outputs-over : length file ≤ at → end ≤ k
  outputs-over h = go w.rest w.counted w.records
    where
      go : (rs : List ℕ) → k + length rs ≡ end → file_records (drop at file) ≡ map output_record rs ++ map constraint_record cs → end ≤ k
      go [] c r = omega arith
      go (x ∷ rs) c r = absurd (omega (arith, (record-ahead file at r (output-formed x)).ended, h))

  module _ (more : k < end) where
    next-output : NextOutput file n f old from all cs end at k list
    next-output = go w.rest w.counted w.records w.below w.writing
      where
        go :
            (rs : List ℕ) → k + length rs ≡ end → file_records (drop at file) ≡ map output_record rs ++ map constraint_record cs → AllBelow (2 * n) rs
            → Writing old from (map f all) list k (map f rs) → NextOutput file n f old from all cs end at k list
        go [] c r b h = absurd (omega arith)
        go (x ∷ rs) c r (netlist.AllBelow.next l b) h =
            record {
              reference = x;
              others = rs;
              line = record-ahead file at r (output-formed x);
              counted = omega arith;
              bound = l;
              below = b;
              writing = h;
            }

    -- The line that is due is the next output's.
    pub outputs-due : OutputLine file at n
    outputs-due =
        let o = next-output in
        record { reference = o.reference; inside = w.inside; this = o.line.this; below = omega (arith, o.bound) }

    -- Its literal is written.
    pub outputs-next :
        (x : ℕ) → map f (outputs_in (record_of (up_to 10 (drop at file)) ∷ [])) ≡ x ∷ [] → k < length list
        → WritingOutputs file n f old from all cs end (at + length (up_to 10 (drop at file)) + 1) (k + 1) (set list k x)
    unfolding outputs_in
    outputs-next x e fits =
        let o = next-output in
        let one : f o.reference ∷ [] ≡ x ∷ [] = rw o.line.this at e in
        let is : f o.reference ≡ x = cc in
        record {
          rest = o.others;
          counted = o.counted;
          inside = omega (arith, o.line.ended);
          records = o.line.rest;
          below = o.below;
          writing = rw (← is) (writing-turn o.writing fits);
        }
