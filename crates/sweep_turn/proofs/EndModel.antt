-- The ends of a sweep: what the words are, and what was seen decides.
use Prim.Native.Nat.{ℕ}
use Rattle.std.specs.Prelude.{Err, None, Ok, Option, Result, Some}
use Rattle.sweep_model.specs.State.{State}
use Rattle.sweep_model.specs.Sweep.{Progress, ends}
use Rattle.sweep_state.specs.code.Ending.{Closed, Ends, Refers, ended_with, verdict_of}
use Rattle.sweep_state.specs.code.Look.{SeenRefers, progress_of}
use Rattle.sweep_state.specs.code.Meet.{Workspace, workspace}
use Rattle.sweep_state.specs.code.Represents.{Represents}
use Rattle.sweep_state.specs.code.Settle.{on_workspace, state_on}
use Rattle.sweep_state.specs.code.Arrays.{arrays}
use Rattle.sweep_state.specs.declared.end.End.{End}
use Rattle.sweep_state.specs.declared.end.Ended.{Ended}
use Rattle.sweep_state.specs.declared.task.Task.{Task}
use Rattle.sweep_turn.specs.code.Visit.{going_by}
use Rattle.truth.specs.Truth.{Truth}
use mathlib.Core.List.{List}
use mathlib.Core.Path.{◌∙◌, ◌≡◌, ap, subst}
use native.Mathlib.Omega.{arith}

-- Words that stand for a state are those of an end whose references are in use.
pub represents-closed :
    {t : Task} {functions : List Truth} {entry : List ℕ} {b : Workspace} {used steps : ℕ} {e : End} → Represents t functions entry (on_workspace b used steps)
    → Refers b.arrays.rows used t.inputs e → Closed t functions b (ended_with e used steps 0)
represents-closed rep refers =
    record {
      store = rep.store;
      drawn = rep.drawn;
      refers = refers;
      counted = rep.reachable.accounted.proper.taken;
      fitted = omega (arith, rep.store.room.used);
    }

-- Whatever the marks are.
pub marked-closed :
    {t : Task} {functions : List Truth} {b : Workspace} {r : Ended} (marks : List ℕ) → Closed t functions b r
    → Closed t functions (workspace b.pairs (arrays b.arrays.diagrams b.arrays.stages b.arrays.rows marks)) r
marked-closed marks c = record { store = c.store; drawn = c.drawn; refers = c.refers; counted = c.counted; fitted = c.fitted }

-- The end of what ended, and another where it goes on.
abbrev end_or : End → Result (Unit {0}) Ended → End
end_or d (Err r) = r.end
end_or d (Ok _) = d

-- Whether the sweep goes on.
abbrev pub Continues : Result (Unit {0}) Ended → Type 0
Continues (Err r) = ⊥
Continues (Ok _) = Unit {0}

-- An end after a look is the model's.
pub seen-ends :
    (rows : List ℕ) (inputs : ℕ) (s : State) (used steps : ℕ) (seen : Option End) {e : End} → going_by seen used steps ≡ Err (ended_with e used steps 0)
    → progress_of rows inputs s seen ≡ ends (verdict_of rows inputs e) 0 s
unfolding progress_of
seen-ends rows inputs s used steps (Some d) i = ap (λ (g : Result (Unit {0}) Ended). ends (verdict_of rows inputs (end_or d g)) 0 s) i
seen-ends rows inputs s used steps None i = absurd (subst Continues i tt)

-- Its references are those seen.
pub seen-refers :
    (rows : List ℕ) (inputs used steps : ℕ) (seen : Option End) {e : End} → going_by seen used steps ≡ Err (ended_with e used steps 0) → SeenRefers rows used inputs seen
    → Refers rows used inputs e
seen-refers rows inputs used steps (Some d) i h = subst (λ (g : Result (Unit {0}) Ended). Refers rows used inputs (end_or d g)) i h
seen-refers rows inputs used steps None i h = absurd (subst Continues i tt)

-- The sweep ends after a look.
pub looked-ends :
    {t : Task} {functions : List Truth} {entry : List ℕ} {b : Workspace} {used steps : ℕ} {o : Progress} {e : End} (seen : Option End)
    → Represents t functions entry (on_workspace b used steps) → o ≡ progress_of b.arrays.rows t.inputs (state_on t b used steps) seen
    → SeenRefers b.arrays.rows used t.inputs seen → going_by seen used steps ≡ Err (ended_with e used steps 0) → Ends t functions o b (ended_with e used steps 0)
looked-ends {t} {b = b} {used = used} {steps = steps} seen rep reached refers i =
    record {
      reached = reached ∙ seen-ends b.arrays.rows t.inputs (state_on t b used steps) used steps seen i;
      closed = represents-closed rep (seen-refers b.arrays.rows t.inputs used steps seen i refers);
    }
