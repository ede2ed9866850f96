-- Two files of a pair: the second one's inputs in the first one's order.
use Rattle.std.specs.Prelude.{suc, zero, ℕ, eqb, get_or, cond, false, map}
use Rattle.aig.specs.Literal.{inverted?, literal_of, vertex_of}
use Rattle.netlist_model.specs.Limits.{by_name_edition}
use Rattle.netlist_model.specs.Names.{place_of}
use Rattle.netlist_model.specs.Netlist.{Gate, Netlist}
use Rattle.truth.specs.Truth.{Setting}

-- "The second file's inputs are taken in the first file's order by name. Edition 1 is still read, by place": the place, from 0, among the first
-- file's inputs of input i of the second. A file of edition 1 has no names. (RULES 1.11)
unfoldable pub input_for : Netlist → Netlist → ℕ → ℕ
input_for d e i = get_or (map (λ name. place_of name d.names) e.names) i i

-- The same of its vertices: "Vertex 0 is constant false, vertices 1 to inputs are the inputs, gates follow". (RULES 1.6)
abbrev pub vertex_for : Netlist → Netlist → ℕ → ℕ
vertex_for d e zero = 0
vertex_for d e (suc i) = suc (input_for d e i)

-- And of its references: "twice a vertex number, plus 1 if inverted". (RULES 1.7)
unfoldable pub reference_for : Netlist → Netlist → ℕ → ℕ
reference_for d e r = literal_of (vertex_for d e (vertex_of r)) (inverted? r)

abbrev pub gate_for : Netlist → Netlist → Gate → Gate
gate_for d e g = record { op = g.op; p = reference_for d e g.p; q = reference_for d e g.q }

-- The second file with its inputs in the first file's order. (RULES 1.11)
unfoldable pub paired : Netlist → Netlist → Netlist
paired d e =
    record {
      edition = e.edition;
      inputs = e.inputs;
      names = d.names;
      gates = map (gate_for d e) e.gates;
      outputs = map (reference_for d e) e.outputs;
      constraints = map (reference_for d e) e.constraints;
    }

-- "Settings follow the first file's order": the digits of a setting in the second file's order, in edition 2 each by its name. (RULES 1.11)
unfoldable pub setting_by_name : Netlist → Netlist → Setting → Setting
setting_by_name d e s = cond (eqb d.edition by_name_edition) (map (λ name. get_or s (place_of name d.names) false) e.names) s
