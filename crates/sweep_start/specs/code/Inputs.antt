-- An input's row, by words.
use Rattle.std.specs.Prelude.{◌*◌, ◌+◌, ◌-◌, ◌<◌, ◌≤◌, ℕ, Err, length, set, List, Ok, Result, ◌≡◌}
use Rattle.bdd.specs.code.Rows.{MARK, RADIX}
use Rattle.bdd.specs.code.Store.{Store}
use Rattle.bdd_unique.specs.code.Unique.{MadeAt, MadeFull}
use Rattle.sweep_state.specs.code.Arrays.{Arrays, arrays, drawn_at, on_rows}
use Rattle.sweep_state.specs.declared.task.Task.{Task}

-- What giving vertex v its row needs.
pub record RowAsked (t : Task) (v used : ℕ) (a : Arrays) : Type 0 where
  pub store : Store a.rows t.rows used
  pub narrow : t.inputs < MARK
  pub from : 1 ≤ v
  pub to : v ≤ t.inputs
  pub few : v < RADIX
  pub diagram_within : 2 * v + 1 < length a.diagrams
  pub stage-within : 2 * v < length a.stages
  pub mark-within : v < length a.marks

-- The level of the row of input v: the inputs not yet passed, its own counted.
abbrev pub level_of : Task → ℕ → ℕ
level_of t v = t.inputs + 1 - v

-- The row was made, or found, and is drawn.
pub record RowGiven (t : Task) (v used : ℕ) (a b : Arrays) (more : ℕ) : Type 0 where
  pub rows : List ℕ
  pub reference : ℕ
  pub long : length rows ≡ length a.rows
  pub made : MadeAt a.rows rows t.rows used (level_of t v) 0 1 reference more
  pub drawn : b ≡ drawn_at v reference 1 (on_rows rows a)

-- No row was left.
pub record RowLacked (t : Task) (v used : ℕ) (a b : Arrays) : Type 0 where
  pub full : MadeFull a.rows b.rows t.rows used (level_of t v) 0 1
  pub marked : b ≡ arrays a.diagrams a.stages a.rows (set a.marks v 3)

-- The row of input v was given, or none was left.
abbrev pub Gives : Task → ℕ → ℕ → Arrays → Arrays → ℕ → Result (Unit {0}) ℕ → Type 0
Gives t v used a b more (Ok _) = RowGiven t v used a b more
Gives t v used a b more (Err w) = RowLacked t v used a b × (more ≡ used) × (w ≡ v)
