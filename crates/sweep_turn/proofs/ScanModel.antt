-- The loop of a scan: what follows is what followed from its first vertex.
use Prim.Native.Nat.{◌+◌, ◌-◌, ◌<◌, ◌≤◌, suc, ℕ}
use Rattle.std.specs.Prelude.{Err, Ok, Result}
use Rattle.sweep_model.specs.Sweep.{Progress, and_then, scan_from}
use Rattle.sweep_state.specs.code.Meet.{Workspace}
use Rattle.sweep_state.specs.code.Words.{posed}
use Rattle.sweep_state.proofs.LongLaws.{kept-same, kept-then, lengths-then}
use Rattle.sweep_state.specs.code.Sweep.{Kept, SameLengths, lent}
use Rattle.sweep_state.specs.declared.end.Ended.{Ended}
use Rattle.sweep_state.specs.declared.sweep.Sweep.{Sweep}
use Rattle.sweep_state.specs.declared.task.Task.{Task}
use Rattle.sweep_step.specs.code.Multiply.{Context}
use Rattle.sweep_turn.specs.code.Scan.{Scans, scanned_from}
use Rattle.sweep_turn.specs.code.Visit.{ScanOn, Visits, visited}
use mathlib.Core.Path.{◌∙◌, ◌≡◌, ap, refl, subst, sym}
use native.Mathlib.Numerals.{add-one}
use native.Mathlib.Omega.{arith}

-- What follows the visit of vertex v.
scan-turn :
    (t : Task) (x : Context) (v used steps : ℕ) (b : Workspace) → v < t.count
    → scanned_from t x v used steps b ≡ and_then (visited t x v used steps b) (scan_from (posed t x.functions) (suc v) (t.count - suc v))
unfolding scan_from
scan-turn t x v used steps b h = let e : t.count - v ≡ suc (t.count - suc v) = omega arith in rw e refl

-- Lengths that stay, stay over two steps.
pub lengths_then : {b c d : Workspace} → SameLengths b c → SameLengths c d → SameLengths b d
lengths_then s t = lengths-then s t

-- A sweep with the task that it had at first.
abbrev pub asked-as : Sweep → Sweep → Sweep
asked-as a s = record s { task = a.task }

pub asked-same : {a s : Sweep} → Kept a s → asked-as a s ≡ s
asked-same {s = s} k = ap (λ (t : Task). record s { task = t }) (sym k.task)

-- What the loop keeps: the scan has come to vertex v, and the model goes on from there as from the first.
pub record Scanned (from : ℕ) (a : Sweep) (v : ℕ) (s : Sweep) : Type 0 where
  pub to : v ≤ a.task.count
  pub kept : Kept a s
  pub here : (x : Context) → ScanOn a.task x from a.used a.steps (lent a) → ScanOn a.task x v s.used s.steps (lent s)
  pub ahead : (x : Context) → ScanOn a.task x from a.used a.steps (lent a)
      → scanned_from a.task x v s.used s.steps (lent s) ≡ scanned_from a.task x from a.used a.steps (lent a)

pub scan_begins : {from : ℕ} {a : Sweep} → from ≤ a.task.count → Scanned from a from a
scan_begins h = record { to = h; kept = kept-same; here = λ x o. o; ahead = λ x o. refl }

module _ {from : ℕ} {a : Sweep} {v : ℕ} {s : Sweep} (k : Scanned from a v s) where
  -- A visit, as of the task at first.
  visits-first : (after : Sweep) (g : Result (Unit {0}) Ended) → Visits v s after g → Visits v (asked-as a s) after g
  visits-first after g visits = subst (λ (z : Sweep). Visits v z after g) (sym (asked-same k.kept)) visits

  pub scan-goes-on : (after : Sweep) → v < a.task.count → Visits v s after (Ok tt) → Kept s after → Scanned from a (v + 1) after
  unfolding and_then
  scan-goes-on after h visits kept =
      let went = visits-first after (Ok tt) visits in
      let all = kept-then k.kept kept in
      rw (add-one v)
      (record {
        to = h;
        kept = all;
        here = λ x o. (went x (k.here x o)).here;
        ahead = λ x o.
            ap (λ (p : Progress). and_then p (scan_from (posed a.task x.functions) (suc v) (a.task.count - suc v))) (sym (went x (k.here x o)).reached)
            ∙ sym (scan-turn a.task x v s.used s.steps (lent s) h) ∙ k.ahead x o;
      })

  pub scan-stops : (after : Sweep) (r : Ended) → v < a.task.count → Visits v s after (Err r) → Scans from a after (Err r)
  unfolding and_then
  scan-stops after r h visits = λ x o.
      let ended = visits-first after (Err r) visits x (k.here x o) in
      record {
        reached =
            sym (k.ahead x o) ∙ scan-turn a.task x v s.used s.steps (lent s) h
            ∙ ap (λ (p : Progress). and_then p (scan_from (posed a.task x.functions) (suc v) (a.task.count - suc v))) ended.reached;
        closed = ended.closed;
      }

  pub scan-ends : a.task.count ≤ v → Scans from a s (Ok tt)
  unfolding scan_from
  scan-ends h = λ x o.
      let e : v ≡ a.task.count = omega (arith, k.to) in
      let none : a.task.count - v ≡ 0 = omega arith in
      record {
        reached = sym (k.ahead x o) ∙ rw none refl;
        here = subst (λ (n : ℕ). ScanOn a.task x n s.used s.steps (lent s)) e (k.here x o);
      }
