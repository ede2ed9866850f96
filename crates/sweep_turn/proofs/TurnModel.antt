-- A turn: a vertex opens, and the scan that follows is the model's.
use Prim.Native.Nat.{◌+◌, ◌-◌, suc, ℕ}
use Rattle.std.specs.Prelude.{Err, Ok, Result}
use Rattle.sweep_graph.proofs.StageLaws.{stages_length}
use Rattle.sweep_graph.specs.code.Stages.{with_stage}
use Rattle.sweep_model.proofs.Steady.{opened_at, scanning-opened}
use Rattle.sweep_model.specs.State.{State}
use Rattle.sweep_model.specs.code.Steady.{Scanning}
use Rattle.sweep_model.specs.Sweep.{open_at, scan_from}
use Rattle.sweep_state.specs.code.Meet.{Workspace, workspace}
use Rattle.sweep_state.specs.code.Settle.{state_on}
use Rattle.sweep_state.specs.code.Arrays.{arrays}
use Rattle.sweep_state.specs.code.Words.{posed}
use Rattle.sweep_state.specs.code.Sweep.{put_stages}
use Rattle.sweep_state.specs.declared.end.Ended.{Ended}
use Rattle.sweep_state.specs.declared.sweep.Sweep.{Sweep}
use Rattle.sweep_state.specs.declared.task.Task.{Task}
use Rattle.sweep_step.specs.code.Multiply.{Context}
use Rattle.sweep_turn.proofs.OpenModel.{opened-represents, opened-state}
use Rattle.sweep_turn.specs.code.Scan.{Scans, scanned_from}
use Rattle.sweep_turn.specs.code.Turn.{OpenIn, OpenOn, Opens, opened_by}
use Rattle.sweep_turn.specs.code.Visit.{ScanIn, ScanOn}
use mathlib.Core.List.{List}
use mathlib.Core.Path.{◌∙◌, ◌≡◌, ap₂, subst, sym}
use native.Mathlib.Numerals.{add-one}

-- The workspace with other stages.
abbrev pub on_stages : List ℕ → Workspace → Workspace
on_stages stages b = workspace b.pairs (arrays b.arrays.diagrams stages b.arrays.rows b.arrays.marks)

-- The workspace on which v has opened.
abbrev opened_workspace : ℕ → Workspace → Workspace
opened_workspace v b = on_stages (with_stage b.arrays.stages v 2) b

module _ {t : Task} {x : Context} {v used steps : ℕ} {b : Workspace} (o : OpenOn t x v used steps b) where
  -- It stands for the model's state in which v has opened.
  same-state : state_on t (opened_workspace v b) used steps ≡ opened_at v (state_on t b used steps)
  same-state = opened-state o.rests.represents v o.inside o.waits

  -- The scan begins at the next vertex.
  open_scans : ScanOn t x (suc v) used steps (opened_workspace v b)
  open_scans =
      record {
        represents = opened-represents o.rests.represents v o.inside o.waits;
        scanning =
            subst (Scanning (posed t x.functions) x.turns (suc v)) (sym same-state)
            (scanning-opened x.turns v (state_on t b used steps) o.rests.represents.reachable.steady o.waits
            (subst (λ (n : ℕ). Scanning (posed t x.functions) (suc x.turns) n (state_on t b used steps)) (sym o.rests.represents.count)
            o.rests.scanning));
      }

  -- The model's turn is that scan.
  open_follows : opened_by t x v used steps b ≡ scanned_from t x (suc v) used steps (opened_workspace v b)
  unfolding open_at
  open_follows =
      ap₂ (λ (n : ℕ) (s : State). scan_from (posed t x.functions) (suc v) (n - suc v) s) (stages_length b.arrays.stages t.count) (sym same-state)

-- The sweep in which v has opened.
abbrev pub opened : ℕ → Sweep → Sweep
opened v s = put_stages (with_stage s.stages.now v 2) s

-- A vertex that waits is opened: the scan that follows can begin.
pub open-asks : (v : ℕ) (s : Sweep) → OpenIn v s → ScanIn (v + 1) (opened v s)
open-asks v s i = rw (add-one v) (record { context = i.context; here = open_scans i.on })

-- The scan, on the stages in which v has opened and from the next vertex.
pub scans_opened : (v : ℕ) (s after : Sweep) {stages : List ℕ} → stages ≡ with_stage s.stages.now v 2 → (g : Result (Unit {0}) Ended)
    → Scans (v + 1) (put_stages stages s) after g → Scans (suc v) (opened v s) after g
scans_opened v s after e g scanned =
    subst (λ (n : ℕ). Scans n (opened v s) after g) (add-one v) (subst (λ (l : List ℕ). Scans (v + 1) (put_stages l s) after g) e scanned)

-- What the scan reached is what the turn reached.
pub open-ends : (v : ℕ) (s after : Sweep) (g : Result (Unit {0}) Ended) → Scans (v + 1) (opened v s) after g → Opens v s after g
open-ends v s after (Ok _) scanned = λ x o.
    let r = subst (λ (n : ℕ). Scans n (opened v s) after (Ok tt)) (add-one v) scanned x (open_scans o) in
    record { reached = open_follows o ∙ r.reached; rests = r.here }
open-ends v s after (Err f) scanned = λ x o.
    let r = subst (λ (n : ℕ). Scans n (opened v s) after (Err f)) (add-one v) scanned x (open_scans o) in
    record { reached = open_follows o ∙ r.reached; closed = r.closed }
