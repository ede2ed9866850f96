-- The answer of a comparison in the rules' terms. (RULES 7.3, 8.1)
use Rattle.std.specs.Prelude.{ℕ, Result, Ok, Err}
use Rattle.refusal.specs.Number.{number_of}
use Rattle.refusal.specs.declared.Refusal.{Refusal}
use Rattle.sweep_model.specs.declared.Cause.TheVariants.{Rows, Size, Steps}
use Rattle.sweep_model.specs.declared.Cause.{Cause}
use Rattle.sweep_model.specs.declared.Reply.TheVariants.{Different, Equal, Undecided}
use Rattle.sweep_model.specs.declared.Reply.{Reply}

-- The number of a refusal, or the reply by its word, with "the vertex at which the row limit was passed" or "at which one more step than the
-- limit was needed". "All carry rows and steps.", "Each reply .. also carries the rows added". (RULES 7.3)
pub data Said : Type 0 where
  refused : (number : ℕ) → Said
  equal : (rows steps added : ℕ) → Said
  different : (rows steps added : ℕ) → Said
  size : (rows steps added : ℕ) → Said
  rows : (vertex rows steps added : ℕ) → Said
  steps : (vertex rows steps added : ℕ) → Said

-- "Undecided by Size ..; by Rows with the vertex ..; by Steps with the vertex .." (RULES 7.3)
abbrev pub undecided_by : Cause → ℕ → ℕ → ℕ → Said
undecided_by Size r s a = Said.size r s a
undecided_by (Rows v) r s a = Said.rows v r s a
undecided_by (Steps v) r s a = Said.steps v r s a

-- The rules' values for each case of the reply. (RULES 7.3)
abbrev pub replied : Reply → Said
replied (Equal c) = Said.equal c.rows c.steps c.added
replied (Different c) = Said.different c.rows c.steps c.added
replied (Undecided x c) = undecided_by x c.rows c.steps c.added

-- The reply, or the rules' number of the refusal. (RULES 7.3, 8.1)
abbrev pub said_of : Result Reply Refusal → Said
said_of (Ok reply) = replied reply
said_of (Err refusal) = Said.refused (number_of refusal)

-- "the vertex named by Rows or Steps" (RULES 7.3, 7.4)
pub data Named : Said → ℕ → Type 0 where
  by_rows : {v rows steps added : ℕ} → Named (Said.rows v rows steps added) v
  by-steps : {v rows steps added : ℕ} → Named (Said.steps v rows steps added) v
