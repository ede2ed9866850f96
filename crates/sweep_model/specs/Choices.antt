-- What the rules say of the sweep's choices: the vertex that opens, and the state in which Different is said. (RULES 6.2, 6.4, 6.5)
use Rattle.std.specs.Prelude.{◌≤◌, ℕ, true, List, ◌≢◌, ◌≡◌}
use Rattle.aig.specs.Literal.{negate, vertex_of}
use Rattle.sweep_model.specs.Normalise.{resolve}
use Rattle.sweep_model.specs.State.{Problem, Stage, State, function_of, has?, stage_of, waits?}
use Rattle.truth.specs.Parts.{size}

-- "The waiting vertex of least size opens, lowest number on a tie." (RULES 6.4)
pub record Opens (p : Problem) (stages : List Stage) (v : ℕ) : Type 0 where
  pub waits : waits? (stage_of stages v) ≡ true
  pub least : (w : ℕ) → waits? (stage_of stages w) ≡ true → size (function_of p v) ≤ size (function_of p w)
  pub lowest : (w : ℕ) → waits? (stage_of stages w) ≡ true → size (function_of p v) ≡ size (function_of p w) → v ≤ w

-- What the outputs looked at became: literals l and r. "If they are inverse, Different"; "if both have diagrams and are not one
-- reference, Different." (RULES 6.2, 6.5)
pub data Apart (s : State) (l r : ℕ) : Type 0 where
  inverse : l ≡ negate r → Apart s l r
  with_diagrams : l ≢ r → has? (stage_of s.stages (vertex_of l)) ≡ true → has? (stage_of s.stages (vertex_of r)) ≡ true → Apart s l r

abbrev pub OutputsApart : Problem → State → Type 0
OutputsApart p s = Apart s (resolve s.rows p.left) (resolve s.rows p.right)
