-- What demand 3 comes to where the limits suffice: every comparison that is not refused decides. (RULES 12.3, 12.7)
use Rattle.std.specs.Prelude.{ℕ, List, ◌≡◌}
use Rattle.compare_model.specs.Compare.{refusal_of}
use Rattle.compare_model.specs.Said.{Said}
use Rattle.demands.specs.Claims.{Agree, TooLarge, TooManyParts, TooManySteps}
use Rattle.demands.specs.Demand3.{Call, Each, Ran}
use Rattle.load_model.specs.Load.{LoadRoom, accepted, load_result, table_of}
use Rattle.load_model.specs.declared.Tally.{Tally}
use Rattle.netlist_model.specs.Check.{read, read_netlist}
use Rattle.netlist_model.specs.Netlist.{Netlist}
use Rattle.netlist_model.specs.Pairing.{paired}
use Rattle.netlist_model.specs.declared.Role.TheVariants.{First, Second}
use Rattle.sweep_model.specs.State.{Limits}

-- "demand 3's bound, on pairs whose limits suffice": for output k none of the three bounds that an Undecided needs is passed. (RULES 12.3, 12.7)
pub record Suffice (loaded : List ℕ) (d e : Netlist) (k : ℕ) (limits : Limits) : Type 0 where
  pub small : TooLarge loaded d e k limits.size → ⊥
  pub few-parts : TooManyParts loaded d e k limits.rows → ⊥
  pub few-steps : TooManySteps loaded d e k limits.steps → ⊥

-- The reply is Equal where output k of the two files agrees on every allowed setting, and Different where it does not. (RULES 12.2)
pub data Decided (d e : Netlist) (k : ℕ) : Said → Type 0 where
  is-equal : {rows steps added : ℕ} → Agree d e k → Decided d e k (Said.equal rows steps added)
  is-different : {rows steps added : ℕ} → (Agree d e k → ⊥) → Decided d e k (Said.different rows steps added)

abbrev pub Complete : Type 0
Complete =
    (left right : List ℕ) (room : LoadRoom) (edition : ℕ) (tally : Tally) (d e : Netlist) (old last : List ℕ) (calls : List Call)
    → load_result left right room ≡ accepted edition tally → read_netlist First left ≡ read d → read_netlist (Second d.edition) right ≡ read e
    → Ran (table_of d (paired d e) old) calls last
    → Each
    (λ c. refusal_of c.given ≡ 0 → Suffice (table_of d (paired d e) old) d e c.given.output c.given.limits → Decided d e c.given.output c.left.reply)
    calls
