-- Premises of demand 3 and of completeness that are met: "The and/or pair above", and three comparisons of it, the first with limits that
-- suffice, the second refused. (RULES 11.7, 13.3)
use Rattle.std.specs.Prelude.{ℕ, replicate, List, [], ◌∷◌, ◌≡◌}
use Rattle.compare_model.specs.Compare.{Given, compared, refusal_of}
use Rattle.compare_model.specs.Said.{Said}
use Rattle.demands.specs.Cards.{comparison_of, usual}
use Rattle.demands.specs.Complete.{Suffice}
use Rattle.demands.specs.Demand3.{Call, Ran}
use Rattle.load_model.specs.Cards.{and_file, room, with_one_gate}
use Rattle.load_model.specs.Load.{accepted, load_result, max_table, table_of}
use Rattle.netlist_model.specs.Check.{read, read_netlist}
use Rattle.netlist_model.specs.Netlist.{Netlist}
use Rattle.netlist_model.specs.Pairing.{paired}
use Rattle.netlist_model.specs.declared.Operation.TheVariants.{And, Or}
use Rattle.netlist_model.specs.declared.Operation.{Operation}
use Rattle.netlist_model.specs.declared.Role.TheVariants.{First, Second}
use Rattle.sweep_model.specs.State.{Limits}

-- "right the same but `or`": `G⇥or⇥2⇥4`, `O⇥6`. (RULES 11.7)
abbrev pub other_file : List ℕ
other_file = with_one_gate (71 ∷ 9 ∷ 111 ∷ 114 ∷ 9 ∷ 50 ∷ 9 ∷ 52 ∷ 10 ∷ 79 ∷ 9 ∷ 54 ∷ 10 ∷ [])

-- The netlist of each: one gate of inputs 1 and 2, and its output.
abbrev pub one_gate : Operation → Netlist
one_gate op = record { edition = 1; inputs = 2; names = []; gates = record { op = op; p = 2; q = 4 } ∷ []; outputs = 6 ∷ []; constraints = [] }

-- The table before the load, and after it.
abbrev pub before : List ℕ
before = replicate max_table 0

abbrev pub after : List ℕ
after = table_of (one_gate And) (paired (one_gate And) (one_gate Or)) before

-- A call, from what it is given.
abbrev pub call_of : Given → Call
call_of g = record { given = g; left = compared g }

-- The least limits that suffice: "row limit 3 gives Rows", "step limit 5 gives Steps .. and 6 gives Different; size limit 1
-- gives Size". (RULES 13.3)
abbrev pub least_limits : Limits
least_limits = record { size = 2; rows = 4; steps = 6 }

-- "size limit 1 gives Size, rows 2, steps 6" (RULES 13.3)
abbrev pub size_one : Limits
size_one = record { size = 1; rows = 4096; steps = 4096 }

-- The three calls. The second names an output that there is not.
abbrev pub first_call : Call
first_call = call_of (comparison_of 0 least_limits after)

abbrev pub second_call : Call
second_call = call_of (comparison_of 1 usual first_call.left.table)

abbrev pub third_call : Call
third_call = call_of (comparison_of 0 size_one second_call.left.table)

pub record Example : Type 0 where
  pub loaded : load_result and_file other_file room ≡ accepted 1 (record { asked = 2; folded = 0; found = 0; made = 2 })
  pub left : read_netlist First and_file ≡ read (one_gate And)
  pub right : read_netlist (Second 1) other_file ≡ read (one_gate Or)
  pub ran : Ran after (first_call ∷ second_call ∷ third_call ∷ []) third_call.left.table
  pub suffice : Suffice after (one_gate And) (one_gate Or) 0 least_limits
  pub first-accepted : refusal_of first_call.given ≡ 0
  pub first-reply : first_call.left.reply ≡ Said.different 4 6 0
  pub first-setting : first_call.left.setting ≡ 48 ∷ 49 ∷ []
  pub second-reply : second_call.left.reply ≡ Said.refused 12
  pub third_reply : third_call.left.reply ≡ Said.size 2 6 0
