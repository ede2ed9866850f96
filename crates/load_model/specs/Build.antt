-- Gates into the graph: each AND asked for is folded, found or made. (RULES 3.2)
use Rattle.std.specs.Prelude.{◌*◌, ◌+◌, suc, zero, ℕ, get_or, List, [], ◌++◌, ◌∷◌, map, Option, None, Some}
use Rattle.aig.specs.Fold.{fold_of}
use Rattle.aig.specs.Literal.{negate, onto, vertex_of}
use Rattle.aig.specs.Lookup.{first_vertex, own_words}
use Rattle.aig.specs.declared.fold.Folded.TheVariants.{Pair, To}
use Rattle.aig.specs.declared.fold.Folded.{Folded}
use Rattle.netlist_model.specs.Netlist.{Gate, Netlist, constraint_reference}
use Rattle.netlist_model.specs.declared.Operation.TheVariants.{And, Or, Xor}
use Rattle.netlist_model.specs.declared.Operation.{Operation}

-- The graph so far, two words a vertex and the number of vertices; and "asked, folded, found". (RULES 3.8)
pub record Build : Type 0 where
  pub words : List ℕ
  pub count : ℕ
  pub asked : ℕ
  pub folded : ℕ
  pub found : ℕ

-- A literal of the graph, and the graph that has it.
pub record Built : Type 0 where
  pub literal : ℕ
  pub build : Build

-- "Folded: .." (RULES 3.3)
abbrev pub when_folded : Build → ℕ → Built
when_folded b r =
    record { literal = r; build = record { words = b.words; count = b.count; asked = b.asked + 1; folded = b.folded + 1; found = b.found } }

-- "Found: the pair already has a vertex." (RULES 3.5)
abbrev pub when_found : Build → ℕ → Built
when_found b v =
    record { literal = 2 * v; build = record { words = b.words; count = b.count; asked = b.asked + 1; folded = b.folded; found = b.found + 1 } }

-- "Made: it gets the next vertex." (RULES 3.6)
abbrev pub when_made : Build → ℕ → ℕ → Built
when_made b p q =
    record {
      literal = 2 * b.count;
      build = record { words = b.words ++ (p ∷ q ∷ []); count = b.count + 1; asked = b.asked + 1; folded = b.folded; found = b.found };
    }

unfoldable pub found_or_made : Build → ℕ → ℕ → Option ℕ → Built
found_or_made b p q (Some v) = when_found b v
found_or_made b p q None = when_made b p q

unfoldable pub folded_or_not : Build → Folded → Built
folded_or_not b (To r) = when_folded b r.0
folded_or_not b (Pair p q) = found_or_made b p.0 q.0 (first_vertex b.words p.0 q.0 b.count)

-- "Each AND asked for is folded, found or made." (RULES 3.2)
unfoldable pub ask_and : Build → ℕ → ℕ → Built
ask_and b p q = folded_or_not b (fold_of p q)

-- The inversion of what was built.
abbrev pub inverted : Built → Built
inverted x = record { literal = negate x.literal; build = x.build }

-- "`xor` stands for three ANDs in this order: p with not q, not p with q, then the inversions of these two results; the gate's value
-- is the inversion of the third." (RULES 1.9)
unfoldable pub ask_xor : Build → ℕ → ℕ → Built
ask_xor b p q =
    let one = ask_and b p (negate q) in
    let two = ask_and one.build (negate p) q in
    inverted (ask_and two.build (negate one.literal) (negate two.literal))

-- "`or` is the inversion of (not p) and (not q)." (RULES 1.9)
unfoldable pub ask_gate : Build → Operation → ℕ → ℕ → Built
ask_gate b And p q = ask_and b p q
ask_gate b Or p q = inverted (ask_and b (negate p) (negate q))
ask_gate b Xor p q = ask_xor b p q

-- The graph's literal for a file's reference; literals has that of each of the file's vertices. (RULES 3.1)
abbrev pub literal_for : List ℕ → ℕ → ℕ
literal_for literals r = onto (get_or literals (vertex_of r) 0) r

-- A file's vertices so far, and the graph.
pub record Traced : Type 0 where
  pub literals : List ℕ
  pub build : Build

abbrev pub with_gate : List ℕ → Built → Traced
with_gate literals x = record { literals = literals ++ (x.literal ∷ []); build = x.build }

-- "gates follow in file order" (RULES 1.6, 3.1)
unfoldable pub ask_gates : Traced → List Gate → Traced
ask_gates t [] = t
ask_gates t (g ∷ gs) =
    ask_gates (with_gate t.literals (ask_gate t.build g.op (literal_for t.literals g.p) (literal_for t.literals g.q))) gs

-- The literals 2v of n vertices from v on: "Vertex 0 is constant false, vertices 1 to inputs are the inputs". (RULES 1.6)
unfoldable pub literals_from : ℕ → ℕ → List ℕ
literals_from v zero = []
literals_from v (suc n) = 2 * v ∷ literals_from (suc v) n

-- A file's output literals, that of its constraint, "1 where no line gives it", and the graph after it. (RULES 1.13)
pub record FileBuilt : Type 0 where
  pub outputs : List ℕ
  pub constraint : ℕ
  pub build : Build

unfoldable pub build_file : Build → Netlist → FileBuilt
build_file b d =
    let t = ask_gates (record { literals = literals_from 0 (1 + d.inputs); build = b }) d.gates in
    record {
      outputs = map (literal_for t.literals) d.outputs;
      constraint = literal_for t.literals (constraint_reference d);
      build = t.build;
    }

-- The graph of the constant and n inputs.
unfoldable pub empty_build : ℕ → Build
empty_build n = record { words = own_words 0 (1 + n); count = 1 + n; asked = 0; folded = 0; found = 0 }

-- "The first file is loaded whole, then the second."; the constraint is the first file's: "A first file may end with one line `C⇥r`"
-- (RULES 1.13, 3.1)
pub record PairBuilt : Type 0 where
  pub left : List ℕ
  pub right : List ℕ
  pub constraint : ℕ
  pub build : Build

unfoldable pub build_pair : Netlist → Netlist → PairBuilt
build_pair d e =
    let one = build_file (empty_build d.inputs) d in
    let two = build_file one.build e in
    record { left = one.outputs; right = two.outputs; constraint = one.constraint; build = two.build }
