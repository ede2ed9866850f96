-- Demand 3. Every list of comparisons, refused ones included, on the table of an accepted load of two files. (RULES 12.3)
use Rattle.std.specs.Prelude.{◌<◌, ℕ, length, List, [], ◌∷◌, ◌≡◌}
use Rattle.compare_model.specs.Claims.{MarksKept, ReplySays, problem_by}
use Rattle.compare_model.specs.Compare.{Given, Left, compared, refusal_of}
use Rattle.demands.specs.Claims.{ReplyKept, side_value}
use Rattle.load_model.specs.Load.{LoadRoom, accepted, load_result, table_of}
use Rattle.load_model.specs.declared.Tally.{Tally}
use Rattle.netlist_model.specs.Check.{read, read_netlist}
use Rattle.netlist_model.specs.Netlist.{Netlist}
use Rattle.netlist_model.specs.Pairing.{paired}
use Rattle.netlist_model.specs.declared.Role.TheVariants.{First, Second}
use Rattle.table.specs.Table.{constraint_of, functions_of, graph_of, output_value}
use Rattle.truth.specs.Truth.{Setting}

-- A comparison: what it was given, and what it gave back and left.
pub record Call : Type 0 where
  pub given : Given
  pub left : Left

-- "The first gets the table as an accepted load of two files left it, each later one as the one before left it, and nobody else writes
-- it.": the calls of a list, from a table to a table. Each is what the contract of compare says. (RULES 12.3)
pub data Ran : List ℕ → List Call → List ℕ → Type 0 where
  none : {table : List ℕ} → Ran table [] table
  next : {table : List ℕ} {c : Call} {cs : List Call} {last : List ℕ}
      → c.given.table ≡ table → c.left ≡ compared c.given → Ran c.left.table cs last → Ran table (c ∷ cs) last

-- Each call of a list.
pub data Each (P : Call → Type 0) : List Call → Type 0 where
  none : Each P []
  next : {c : Call} {cs : List Call} → P c → Each P cs → Each P (c ∷ cs)

-- "After the list every output of both files still has its file's value on every setting, and each reply kept demand 2 for the files'
-- outputs", and what demand 3 says of its rows, its steps and its cause. Of each that was not refused: what its marks mean, and what the rules
-- say of its reply by them. "Merges of vertices still hold on all settings": every vertex has the function that it had as loaded. The table's word
-- for r: "comparisons leave it". (RULES 4.5, 6.9, 7.4, 12.3)
pub record Holds (d e : Netlist) (loaded : List ℕ) (calls : List Call) (last : List ℕ) : Type 0 where
  pub values : (side k : ℕ) (s : Setting) → k < length d.outputs → length s ≡ d.inputs
      → output_value (graph_of last) side k s ≡ side_value d e side k s
  pub vertices : functions_of (graph_of last) ≡ functions_of (graph_of loaded)
  pub constraint : constraint_of last ≡ constraint_of loaded
  pub replies : Each (λ c. ReplyKept d e loaded c.given c.left c.left.reply) calls
  pub marks : Each (λ c. refusal_of c.given ≡ 0 → MarksKept (problem_by loaded c.given) c.left.marks c.left.reply) calls
  pub conditions : Each (λ c. refusal_of c.given ≡ 0 → ReplySays loaded c.given c.left c.left.reply) calls

abbrev pub Demand3 : Type 0
Demand3 =
    (left right : List ℕ) (room : LoadRoom) (edition : ℕ) (tally : Tally) (d e : Netlist) (old last : List ℕ) (calls : List Call)
    → load_result left right room ≡ accepted edition tally → read_netlist First left ≡ read d → read_netlist (Second d.edition) right ≡ read e
    → Ran (table_of d (paired d e) old) calls last
    → Holds d e (table_of d (paired d e) old) calls last
