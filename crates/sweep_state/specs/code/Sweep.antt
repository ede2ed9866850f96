-- What the lent slices of a sweep hold, and a sweep with other words in them.
use Rattle.std.specs.Prelude.{ℕ, length, List, ◌≡◌}
use Rattle.sweep_graph.specs.code.Takes.{Held, held}
use Rattle.sweep_state.specs.code.Arrays.{Arrays, arrays}
use Rattle.sweep_state.specs.code.Meet.{Workspace, workspace}
use Rattle.sweep_state.specs.declared.sweep.Sweep.{Sweep}

-- What the slices hold, but for the look-up.
abbrev pub lent : Sweep → Workspace
lent s = workspace s.pairs.now (arrays s.diagrams.now s.stages.now s.rows.now s.marks.now)

-- What handing over sees of them.
abbrev pub handed : Sweep → Held
handed s = held s.stages.now s.diagrams.now s.rows.now

-- The sweep with other words in one slice.
abbrev pub put_pairs : List ℕ → Sweep → Sweep
put_pairs l s = record s { pairs = record s.pairs { now = l } }

abbrev pub put_look : List ℕ → Sweep → Sweep
put_look l s = record s { look = record s.look { now = l } }

abbrev pub put_diagrams : List ℕ → Sweep → Sweep
put_diagrams l s = record s { diagrams = record s.diagrams { now = l } }

abbrev pub put_stages : List ℕ → Sweep → Sweep
put_stages l s = record s { stages = record s.stages { now = l } }

abbrev pub put_rows : List ℕ → Sweep → Sweep
put_rows l s = record s { rows = record s.rows { now = l } }

abbrev pub put_marks : List ℕ → Sweep → Sweep
put_marks l s = record s { marks = record s.marks { now = l } }

-- With what handing over left.
abbrev pub put_held : Held → Sweep → Sweep
put_held h s = put_rows h.rows (put_diagrams h.diagrams (put_stages h.stages s))

-- With other words in all but the pairs and the look-up.
abbrev pub put_arrays : Arrays → Sweep → Sweep
put_arrays a s = put_marks a.marks (put_rows a.rows (put_stages a.stages (put_diagrams a.diagrams s)))

-- With other words in all but the look-up.
abbrev pub put_lent : Workspace → Sweep → Sweep
put_lent b s = put_arrays b.arrays (put_pairs b.pairs s)

-- With other numbers of rows used and of steps taken.
abbrev pub put_counts : ℕ → ℕ → Sweep → Sweep
put_counts used steps s = record s { used = used; steps = steps }

-- Each slice but the look-up is as long as before.
pub record SameLengths (b after : Workspace) : Type 0 where
  pub pairs : length after.pairs ≡ length b.pairs
  pub diagrams : length after.arrays.diagrams ≡ length b.arrays.diagrams
  pub stages : length after.arrays.stages ≡ length b.arrays.stages
  pub rows : length after.arrays.rows ≡ length b.arrays.rows
  pub marks : length after.arrays.marks ≡ length b.arrays.marks

-- What stays of a sweep under way: its slices are the same ones and as long, and it is asked the same.
pub record Kept (s after : Sweep) : Type 0 where
  pub pairs : after.pairs.ghost_name ≡ s.pairs.ghost_name
  pub look : after.look.ghost_name ≡ s.look.ghost_name
  pub diagrams : after.diagrams.ghost_name ≡ s.diagrams.ghost_name
  pub stages : after.stages.ghost_name ≡ s.stages.ghost_name
  pub rows : after.rows.ghost_name ≡ s.rows.ghost_name
  pub marks : after.marks.ghost_name ≡ s.marks.ghost_name
  pub look_long : length after.look.now ≡ length s.look.now
  pub lengths : SameLengths (lent s) (lent after)
  pub task : after.task ≡ s.task
