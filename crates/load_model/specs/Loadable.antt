-- The pairs of netlists that are loaded, and the room that is asked of the lent slices, in the rules' own numbers. (RULES 12.1)
use Rattle.std.specs.Prelude.{◌+◌, ◌≤◌, ℕ, length, List, [], ◌≡◌}
use Rattle.load_model.specs.Load.{LoadRoom, tally_of}
use Rattle.load_model.specs.declared.Tally.{Tally}
use Rattle.netlist_model.specs.Check.{read, read_netlist}
use Rattle.netlist_model.specs.Meaning.{and_count}
use Rattle.netlist_model.specs.Names.{Among}
use Rattle.netlist_model.specs.Netlist.{Netlist, Within}
use Rattle.netlist_model.specs.Pairing.{paired}
use Rattle.netlist_model.specs.declared.Role.TheVariants.{First, Second}

-- Two netlists within the limits, of one edition, with equally many inputs and outputs, the second one's names all among the first one's, the
-- second with no constraint, and at most 6,144 ANDs. (RULES 1.11, 1.13, 2.1, 2.2)
pub record Loadable (d e : Netlist) : Type 0 where
  pub left : Within d
  pub right : Within e
  pub edition : d.edition ≡ e.edition
  pub inputs : d.inputs ≡ e.inputs
  pub outputs : length d.outputs ≡ length e.outputs
  pub names : (name : List ℕ) → Among name e.names → Among name d.names
  pub unconstrained : e.constraints ≡ []
  pub ands : and_count d.gates + and_count e.gates ≤ 6144

-- The table and the working slices are long enough: "12,420 words", "2 words a vertex (load: for 6,209 vertices)". (RULES 8.1, 8.2)
pub record Enough (room : LoadRoom) : Type 0 where
  pub table : 12420 ≤ room.table
  pub pairs : 12418 ≤ room.pairs
  pub look : 12418 ≤ room.look
  pub literals : 12418 ≤ room.literals
  pub outputs : 12418 ≤ room.outputs

-- What an accepted load was given: the files of two such netlists, and enough room. (RULES 12.1)
pub record Loads (left right : List ℕ) (room : LoadRoom) (edition : ℕ) (tally : Tally) : Type 0 where
  pub first : Netlist
  pub second : Netlist
  pub first_read : read_netlist First left ≡ read first
  pub second-read : read_netlist (Second first.edition) right ≡ read second
  pub first_length : length left ≤ 65536
  pub second_length : length right ≤ 65536
  pub loadable : Loadable first second
  pub enough : Enough room
  pub dated : edition ≡ first.edition
  pub counted : tally ≡ tally_of first (paired first second)
