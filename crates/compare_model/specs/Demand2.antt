-- Demand 2, of every table that neither 10 nor 11 turns back, whether a load made it or not. (RULES 8.1, 12.2)
use Rattle.std.specs.Prelude.{◌<◌, ℕ, length, ◌≡◌}
use Rattle.compare_model.specs.Claims.{Agrees, Differs}
use Rattle.compare_model.specs.Compare.{Given, Left, compared, refusal_of}
use Rattle.compare_model.specs.Said.{Said}
use Rattle.table.specs.Table.{graph_of, inputs_of, output_value, outputs_of}
use Rattle.truth.specs.Truth.{Setting}

-- "Equal is said only where two outputs agree on every setting, Different only with the first setting, in counting order, on which they
-- disagree.", and every output keeps its value on every setting. (RULES 12.2, 12.3)
pub record Right (g : Given) (left : Left) : Type 0 where
  pub equal : (rows steps added : ℕ) → left.reply ≡ Said.equal rows steps added → Agrees g.table g.output
  pub different : (rows steps added : ℕ) → left.reply ≡ Said.different rows steps added → Differs g.table g.output g.setting left.setting
  pub values : (side k : ℕ) (s : Setting) → k < outputs_of g.table → length s ≡ inputs_of g.table
      → output_value (graph_of left.table) side k s ≡ output_value (graph_of g.table) side k s

abbrev pub Demand2 : Type 0
Demand2 = (g : Given) → refusal_of g ≡ 0 → Right g (compared g)
