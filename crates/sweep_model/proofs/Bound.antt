-- The bound on the turns is never reached.
use Prim.Native.Nat.{◌+◌, ◌≤◌, suc, zero, ℕ}
use Rattle.sweep_model.proofs.Choices.{no_turns_no_pick, pick_waits}
use Rattle.sweep_model.proofs.Induction.{Claim, Keeps, Reached, goes_on, stops, turn-claim, unasked, unclaimed}
use Rattle.sweep_model.proofs.Stages.{has_not_gone, stage-within, waits-has}
use Rattle.sweep_model.proofs.Steady.{opened_at}
use Rattle.sweep_model.proofs.Turns.{turns_set, waiting-turns}
use Rattle.sweep_model.specs.Fit.{Fit, vertex_count}
use Rattle.sweep_model.specs.State.{Problem, State, opened, stage_of, waits?}
use Rattle.sweep_model.specs.code.Steady.{Scanning, Steady}
use Rattle.sweep_model.specs.Sweep.{Candidate, Progress, Verdict, and_then, at, go, go_for, none, on, open_at, pick_from, turns_left, turns_of}
use mathlib.Core.Bool.{true}
use mathlib.Core.List.{List}
use mathlib.Core.Path.{◌∙◌, ◌≡◌, refl, sym}
use native.Mathlib.Omega.{arith}

-- A pick takes exactly one turn.
pub open-turns : (s : State) (v : ℕ) → waits? (stage_of s.stages v) ≡ true → turns_left (opened_at v s).stages + 1 ≡ turns_left s.stages
unfolding turns_of
open-turns s v w =
    omega (
      arith,
      turns_set s.stages v opened (stage-within s.stages v (has_not_gone (stage_of s.stages v) (waits-has (stage_of s.stages v) w))),
      waiting-turns (stage_of s.stages v) w,
    )

-- What is known of a state where the sweep goes on.
pub claim_on : {P : State → Type 0} {W : Verdict → ℕ → State → Type 0} {o : Progress} {s : State} → Claim P W o → o ≡ on s → P s
claim_on {P} {W} {o} {s} c e = at_on (rw e at c)
  where
    at_on : Claim P W (on s) → P s
    at_on (goes_on h) = h

-- Nothing is asked of the states or claimed of the end.
pub nothing : (p : Problem) (entry : List ℕ) → Keeps p entry (λ place s. Unit {0}) (λ x k s. Unit {0})
nothing p entry = unclaimed unasked

-- Where none waits the turns end.
pub go_stops : (p : Problem) (n : ℕ) (s : State) → pick_from p 0 s.stages ≡ none → go_for p n s ≡ on s
unfolding go_for
go_stops p zero s e = refl
go_stops p (suc n) s e = rw (e, go_for)

-- A vertex that is picked opens, and its scan comes before the other turns.
pub go-turns : (p : Problem) (n : ℕ) (s : State) (v : ℕ) → pick_from p 0 s.stages ≡ at v → go_for p (suc n) s ≡ and_then (open_at p v s) (go_for p n)
unfolding go_for
go-turns p n s v e = rw (e, go_for)

-- What follows where the sweep goes on.
then_same :
    {P : State → Type 0} {W : Verdict → ℕ → State → Type 0} {o : Progress} {next other : State → Progress} → Claim P W o
    → ((s : State) → P s → next s ≡ other s) → and_then o next ≡ and_then o other
unfolding and_then
then_same (goes_on {s = s} h) k = k s h
then_same (stops h) k = refl

-- The budget of a scan may be any number that the turns left do not pass.
pub scanning-budget : {p : Problem} {n k : ℕ} {s : State} (m : ℕ) → Scanning p n k s → turns_left s.stages ≤ m → Scanning p m k s
scanning-budget m c h = record { budget = h; within = c.within; first_have = c.first_have; unsettled = c.unsettled }

module _ {p : Problem} {entry : List ℕ} (fit : Fit p entry) where
  -- The states between two turns.
  abbrev Between : ℕ → State → Type 0
  Between n s = Reached fit (nothing p entry) n (vertex_count p) s

  between : {n : ℕ} {s : State} (m : ℕ) → Between n s → turns_left s.stages ≤ m → Between m s
  between m c h = record { steady = c.steady; scanned = scanning-budget m c.scanned h; kept = tt }

  -- Two bounds that the turns left do not pass give one end.
  same_end : (n m : ℕ) (s : State) → Between n s → turns_left s.stages ≤ m → go_for p n s ≡ go_for p m s
  same_end zero m s c h =
      let e = no_turns_no_pick p s.stages (omega (arith, c.scanned.budget)) in
      go_stops p zero s e ∙ sym (go_stops p m s e)
  same_end (suc n) zero s c h =
      let e = no_turns_no_pick p s.stages (omega arith) in
      go_stops p (suc n) s e ∙ sym (go_stops p zero s e)
  same_end (suc n) (suc m) s c h = case (pick_from p 0 s.stages) refl (λ t d k. same_end n m t d k)
    where
      case : (o : Candidate) → pick_from p 0 s.stages ≡ o → ((t : State) → Between n t → turns_left t.stages ≤ m → go_for p n t ≡ go_for p m t)
          → go_for p (suc n) s ≡ go_for p (suc m) s
      case none e next = go_stops p (suc n) s e ∙ sym (go_stops p (suc m) s e)
      case (at v) e next =
          let f = open-turns s v (pick_waits p s.stages v e) in
          let k = turns_left (opened_at v s).stages in
          go-turns p n s v e
          ∙ then_same (turn-claim fit (nothing p entry) k v s e (between (suc k) c (omega arith)))
          (λ t d. next t (between n d (omega (arith, d.scanned.budget, c.scanned.budget))) (omega (arith, d.scanned.budget)))
          ∙ sym (go-turns p m s v e)

  -- Any bound that is not below the turns left serves.
  pub go-enough : (n : ℕ) (s : State) → Steady p entry s → Scanning p n (vertex_count p) s → go_for p n s ≡ go p s
  unfolding go
  go-enough n s h c = same_end n (turns_left s.stages) s (record { steady = h; scanned = c; kept = tt }) (omega arith)
