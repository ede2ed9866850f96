-- Both files in the lent slices, and the table.
use Rattle.std.specs.Prelude.{◌*◌, ◌+◌, ◌-◌, ◌≤◌, ℕ, drop, get_or, length, take, List, [], ◌++◌, ◌∷◌, ◌≡◌}
use Rattle.load_model.specs.Build.{PairBuilt, build_pair}
use Rattle.load_model.specs.Lent.{Working}
use Rattle.load_model.specs.Load.{max_vertices}
use Rattle.load_model.specs.declared.Accepted.{Accepted}
use Rattle.netlist_model.specs.Names.{Among}
use Rattle.netlist_model.specs.Netlist.{Netlist}
use Rattle.netlist_model.specs.Pairing.{paired}
use Rattle.netlist_model.specs.code.Accepted.{HoldsNetlist, netlist_of}
use Rattle.netlist_model.specs.declared.Summary.{Summary}
use Rattle.table.specs.Limits.{max_ands, max_outputs}

-- The words of the table: `first` is the first vertex that has a row. In their slice the first file's outputs have its constraint after them, and
-- the second file's stand after the most that the first can have.
abbrev pub words_of : List ℕ → List ℕ → ℕ → ℕ → ℕ → List ℕ
words_of pairs outputs first vertices count =
    (first - 1) ∷ (vertices - first) ∷ count
    ∷ (take (2 * vertices - 2 * first) (drop (2 * first) pairs)
    ++ (take count outputs ++ (take count (drop (max_outputs + 1) outputs) ++ (get_or outputs count 0 ∷ []))))

-- The table has room for them, and they are there.
pub record TableRoom (table pairs outputs first vertices count : ℕ) : Type 0 where
  pub some : 1 ≤ first
  pub from_first : first ≤ vertices
  pub rows : 2 * vertices ≤ pairs
  pub side : count ≤ max_outputs
  pub sides : 2 * max_outputs + 1 ≤ outputs
  pub room : 3 + (2 * vertices - 2 * first) + 2 * count + 1 ≤ table

-- Two files with some counts are loaded: they hold netlists of one edition, with equally many inputs and outputs, the second one's names among
-- the first one's, and few enough ANDs. (RULES 1.11, 2.2)
pub record Agreed (one two : List ℕ) (s t : Summary) : Type 0 where
  pub left : HoldsNetlist one s (netlist_of one s)
  pub right : HoldsNetlist two t (netlist_of two t)
  pub edition : s.edition ≡ t.edition
  pub inputs : s.inputs ≡ t.inputs
  pub names : (name : List ℕ) → Among name (netlist_of two t).names → Among name (netlist_of one s).names
  pub outputs : s.outputs ≡ t.outputs
  pub ands : s.ands + t.ands ≤ max_ands

-- The working slices are long enough. (RULES 8.2)
pub record Enough (w : Working) : Type 0 where
  pub for_pairs : 2 * max_vertices ≤ length w.pairs
  pub for_look : 2 * max_vertices ≤ length w.look
  pub for_literals : 2 * max_vertices ≤ length w.literals
  pub for_outputs : 2 * max_vertices ≤ length w.outputs

-- The second file's netlist with its inputs in the first file's order.
abbrev pub second_of : List ℕ → List ℕ → Summary → Summary → Netlist
second_of one two s t = paired (netlist_of one s) (netlist_of two t)

-- The same, and what else is said of two files' lists and summaries, of two accepted files.
abbrev pub second_held : Accepted → Accepted → Netlist
second_held f g = second_of f.file.now g.file.now f.summary g.summary

abbrev pub AgreedFiles : Accepted → Accepted → Type 0
AgreedFiles f g = Agreed f.file.now g.file.now f.summary g.summary

-- The graph of both files.
abbrev pub pair_of : List ℕ → List ℕ → Summary → Summary → PairBuilt
pair_of one two s t = build_pair (netlist_of one s) (second_of one two s t)

abbrev pub pair_held : Accepted → Accepted → PairBuilt
pair_held f g = pair_of f.file.now g.file.now f.summary g.summary

-- The literals of both files' outputs and of the constraint are in their slice.
pub record OutputsHeld (outputs : List ℕ) (b : PairBuilt) : Type 0 where
  pub left : take (length b.left) outputs ≡ b.left
  pub constraint : get_or outputs (length b.left) 0 ≡ b.constraint
  pub right : take (length b.right) (drop (max_outputs + 1) outputs) ≡ b.right
