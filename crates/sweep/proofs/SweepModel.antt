-- The whole sweep: its end is the model's answer.
use Rattle.std.specs.Prelude.{Err, Ok}
use Rattle.sweep_model.specs.Sweep.{Progress, and_then, go, result_of, sweep}
use Rattle.sweep_model.specs.declared.Cause.TheVariants.{Size}
use Rattle.sweep_state.specs.code.Ending.{ended_with, verdict_of}
use Rattle.sweep_state.specs.code.Meet.{Workspace}
use Rattle.sweep_state.specs.code.Words.{posed}
use Rattle.sweep_state.specs.declared.end.End.TheVariants.{Undecided}
use Rattle.sweep_state.specs.code.Sweep.{lent}
use Rattle.sweep_state.specs.declared.end.Ended.{Ended}
use Rattle.sweep_state.specs.declared.sweep.Sweep.{Sweep}
use Rattle.sweep_state.specs.declared.task.Task.{Task}
use Rattle.sweep_start.specs.code.Start.{Starts}
use Rattle.sweep_turn.proofs.EndModel.{represents-closed}
use Rattle.sweep_turn.specs.code.Turn.{Goes, RestOn, first_context, gone}
use Rattle.sweep.specs.code.Sweep.{Rests, SweepAnswers, Sweeps}
use mathlib.Core.Path.{◌∙◌, ◌≡◌, ap, subst}

module _ (s after : Sweep) where
  -- None waits: undecided, by Size.
  pub rest-answers : Goes s after (Ok tt) → Rests s after (ended_with (Undecided Size) after.used after.steps 0)
  unfolding result_of verdict_of
  rest-answers goes = λ x o.
      let r = goes x o in
      record { answer = ap result_of r.reached; closed = represents-closed r.represents tt }

  -- A turn ended the sweep.
  pub turn-answers : (n : Ended) → Goes s after (Err n) → Rests s after n
  unfolding result_of
  turn-answers n goes = λ x o.
      let r = goes x o in
      record { answer = ap result_of r.reached; closed = r.closed }

module _ (t : Task) (b : Workspace) (middle : Sweep) (same : middle.task ≡ t) where
  module _ (starts : Starts t b (lent middle) middle.used middle.steps (Ok tt)) where
    -- The turns answer.
    pub sweep_goes_on : (after : Sweep) {r : Ended} → Rests middle after r → Sweeps t b (lent after) r
    unfolding and_then go sweep
    sweep_goes_on after {r} rests = λ functions poses.
        let s = starts functions poses in
        let x = first_context t functions b.pairs (lent middle) middle.used middle.steps in
        let n = subst (λ (k : Task). RestOn k x middle.used middle.steps (lent middle)
        → SweepAnswers k x.functions (result_of (gone k x middle.used middle.steps (lent middle))) (lent after) r) same (rests x) s.rests in
        record {
          answer = ap (λ (o : Progress). result_of (and_then o (go (posed t functions)))) s.reached ∙ n.answer;
          closed = n.closed;
        }

  -- The start ended the sweep.
  pub start-answers : (n : Ended) → Starts t b (lent middle) middle.used middle.steps (Err n) → Sweeps t b (lent middle) n
  unfolding and_then result_of sweep
  start-answers n starts = λ functions poses.
      let s = starts functions poses in
      record {
        answer = ap (λ (o : Progress). result_of (and_then o (go (posed t functions)))) s.reached;
        closed = s.closed;
      }
