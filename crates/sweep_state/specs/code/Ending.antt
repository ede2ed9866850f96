-- How a sweep ends, by words.
use Rattle.std.specs.Prelude.{◌+◌, ◌<◌, ◌≤◌, ℕ, replicate, false, true, List, ◌≡◌}
use Rattle.aig.specs.Lookup.{first_word, second_word}
use Rattle.bdd.specs.Diagram.{Reference, denote}
use Rattle.bdd.specs.code.Store.{Store}
use Rattle.sweep_graph.specs.code.Takes.{has_word}
use Rattle.sweep_model.specs.Sweep.{Progress, Verdict, different, ends, equal, undecided}
use Rattle.sweep_state.specs.code.Meet.{Workspace}
use Rattle.sweep_state.specs.code.Represents.{Drawing}
use Rattle.sweep_state.specs.code.Settle.{state_on}
use Rattle.sweep_state.specs.declared.end.End.TheVariants.{Differ, Equal, Inverse, Undecided}
use Rattle.sweep_state.specs.declared.end.End.{End}
use Rattle.sweep_state.specs.declared.end.Ended.{Ended}
use Rattle.sweep_state.specs.declared.task.Task.{Task}
use Rattle.truth.specs.Settings.{first_difference}
use Rattle.truth.specs.Truth.{Truth}

-- The verdict that an end stands for, with these rows, of some inputs.
unfoldable pub verdict_of : List ℕ → ℕ → End → Verdict
verdict_of rows inputs Equal = equal
verdict_of rows inputs Inverse = different (replicate inputs false)
verdict_of rows inputs (Differ f g) = different (first_difference (denote rows inputs f) (denote rows inputs g))
verdict_of rows inputs (Undecided c) = undecided c

-- The references of an end are those of rows in use.
abbrev pub Refers : List ℕ → ℕ → ℕ → End → Type 0
Refers rows used inputs Equal = Unit {0}
Refers rows used inputs Inverse = Unit {0}
Refers rows used inputs (Differ f g) = Reference rows used inputs f × Reference rows used inputs g
Refers rows used inputs (Undecided c) = Unit {0}

-- An end with the rows used, the steps taken and the rows added.
abbrev pub ended_with : End → ℕ → ℕ → ℕ → Ended
ended_with e used steps added = record { end = e; used = used; steps = steps; added = added }

-- What the words are where a sweep has ended: a store of the rows in use, the diagrams of the vertices that have one, the references of the
-- end, and steps within the limit, as are the rows with those added.
pub record Closed (t : Task) (functions : List Truth) (b : Workspace) (r : Ended) : Type 0 where
  pub store : Store b.arrays.rows t.rows r.used
  pub drawn : (v : ℕ) → v < t.count → has_word b.arrays.stages v ≡ true
      → Drawing t functions b.arrays.rows r.used v (first_word b.arrays.diagrams v) (second_word b.arrays.diagrams v)
  pub refers : Refers b.arrays.rows r.used t.inputs r.end
  pub counted : r.steps ≤ t.steps
  pub fitted : r.used + r.added ≤ t.rows

-- The model's progress has ended, and the words stand for its verdict and its state.
pub record Ends (t : Task) (functions : List Truth) (o : Progress) (b : Workspace) (r : Ended) : Type 0 where
  pub reached : o ≡ ends (verdict_of b.arrays.rows t.inputs r.end) r.added (state_on t b r.used r.steps)
  pub closed : Closed t functions b r
