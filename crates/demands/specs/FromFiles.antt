-- From the bytes of two files to the last comparison, by what load and compare promise and no more.
use Rattle.std.specs.Prelude.{ℕ, List, Ok, Result, ◌≡◌}
use Rattle.compare_model.specs.Compare.{refusal_of}
use Rattle.demands.specs.Complete.{Decided, Suffice}
use Rattle.demands.specs.Demand3.{Call, Each, Holds, Ran}
use Rattle.load_model.specs.Load.{LoadRoom, answer_of, load_result, table_loaded}
use Rattle.load_model.specs.declared.Loaded.{Loaded}
use Rattle.load_model.specs.declared.Refused.{Refused}
use Rattle.netlist_model.specs.Check.{read, read_netlist}
use Rattle.netlist_model.specs.Netlist.{Netlist}
use Rattle.netlist_model.specs.declared.Role.TheVariants.{First, Second}

-- The netlists of the two files, with demand 3, and with a reply that decides wherever the limits suffice. (RULES 12.3)
pub record Demanded (left right loaded : List ℕ) (calls : List Call) (last : List ℕ) : Type 0 where
  pub first : Netlist
  pub second : Netlist
  pub first_read : read_netlist First left ≡ read first
  pub second-read : read_netlist (Second first.edition) right ≡ read second
  pub holds : Holds first second loaded calls last
  pub decides : Each
      (λ c. refusal_of c.given ≡ 0 → Suffice loaded first second c.given.output c.given.limits → Decided first second c.given.output c.left.reply)
      calls

-- The premises are the contract of load, that its result was no refusal, and that each call of the list keeps the contract of compare.
abbrev pub FromFiles : Type 0
FromFiles =
    (left right old loaded last : List ℕ) (room : LoadRoom) (result : Result Loaded Refused) (accepted : Loaded) (calls : List Call)
    → answer_of result ≡ load_result left right room → loaded ≡ table_loaded (answer_of result) left right old
    → result ≡ Ok accepted → Ran loaded calls last
    → Demanded left right loaded calls last
