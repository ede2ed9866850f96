-- The turns left: taking over adds none, and while a vertex waits there are some.
use Prim.Native.Nat.{◌+◌, ◌<◌, ◌≤◌, suc, zero, ℕ}
use Rattle.sweep_model.proofs.Stages.{stage-within, woken_other}
use Rattle.sweep_model.proofs.Takes.{Alive, either?, taken, taken_alive, target}
use Rattle.sweep_model.specs.Fit.{Downward}
use Rattle.sweep_model.specs.Normalise.{merged?, take_at, takes_from, wake, wake_at}
use Rattle.sweep_model.specs.State.{Stage, again, bare, dropped, gone, gone?, opened, stage_of, waiting, waits?}
use Rattle.sweep_model.specs.code.Steady.{Tidy}
use Rattle.sweep_model.specs.Sweep.{turns_left, turns_of}
use Rattle.truth.proofs.Booleans.{clash}
use lib.ListN.{length, set}
use mathlib.Core.Bool.{Bool, ◌&&◌, cond, false, not, true}
use mathlib.Core.List.{List, [], ◌∷◌}
use mathlib.Core.Path.{◌∙◌, ◌≡◌, ap, refl}
use native.Mathlib.Omega.{arith}

-- A stage stored puts its own turns in place of those that were there.
pub turns_set : (stages : List Stage) (i : ℕ) (x : Stage) → i < length stages → turns_left (set stages i x) + turns_of (stage_of stages i) ≡ turns_left stages + turns_of x
unfolding turns_left
turns_set [] i x h = absurd (omega arith)
turns_set (y ∷ stages) zero x h = omega arith
turns_set (y ∷ stages) (suc i) x h = let e = turns_set stages i x (omega arith) in omega arith

-- A vertex that was not merged has a turn left.
pub alive_turns : (x : Stage) → gone? x ≡ false → 1 ≤ turns_of x
unfolding gone? turns_of
alive_turns bare e = omega arith
alive_turns waiting e = omega arith
alive_turns opened e = omega arith
alive_turns again e = omega arith
alive_turns dropped e = omega arith
alive_turns gone e = clash refl e

-- A vertex that waits has two, one more than when it is open.
pub waiting-turns : (x : Stage) → waits? x ≡ true → turns_of x ≡ 2
unfolding waits? turns_of
waiting-turns bare e = clash e refl
waiting-turns waiting e = refl
waiting-turns opened e = clash e refl
waiting-turns again e = refl
waiting-turns dropped e = clash e refl
waiting-turns gone e = clash e refl

-- Waking adds at most one.
wake-turns : (x : Stage) → gone? x ≡ false → turns_of (wake x) ≤ turns_of x + 1
unfolding gone? turns_of wake
wake-turns bare e = omega arith
wake-turns waiting e = omega arith
wake-turns opened e = omega arith
wake-turns again e = omega arith
wake-turns dropped e = omega arith
wake-turns gone e = clash refl e

woken_turns : (w : ℕ) (stages : List Stage) → gone? (stage_of stages w) ≡ false → turns_left (wake_at w stages) ≤ turns_left stages + 1
unfolding wake_at
woken_turns zero stages e = omega arith
woken_turns (suc w) stages e =
    omega (arith, turns_set stages (suc w) (wake (stage_of stages (suc w))) (stage-within stages (suc w) e), wake-turns (stage_of stages (suc w)) e)

-- Where no turns are left no vertex has one.
pub no_turns : (stages : List Stage) → turns_left stages ≡ 0 → (v : ℕ) → turns_of (stage_of stages v) ≡ 0
unfolding turns_left turns_of
no_turns [] e v = refl
no_turns (x ∷ stages) e zero = omega arith
no_turns (x ∷ stages) e (suc v) = no_turns stages (omega arith) v

module _ {first count : ℕ} {rows : List ℕ} (d : Downward first count rows) (t : Tidy first count rows) where
  take_turns : (v : ℕ) (stages : List Stage) → length stages ≡ count → first ≤ v → Alive first rows stages → turns_left (take_at rows v stages) ≤ turns_left stages
  unfolding take_at turns_of
  take_turns v stages long made alive = go (merged? rows v) (gone? (stage_of stages v)) refl (either? stages v w)
    where
      w : ℕ
      w = target rows v

      go : (a b : Bool) → gone? (stage_of stages v) ≡ b → (c : Bool) → turns_left (cond (a && not b) (set (cond c (wake_at w stages) stages) v gone) stages) ≤ turns_left stages
      go false b j c = omega arith
      go true true j c = omega arith
      go true false j false = omega (arith, turns_set stages v gone (stage-within stages v j))
      go true false j true =
          let h : v < length stages = stage-within stages v j in
          let sinks : w < v = omega (arith, d.first_below v made (omega arith)) in
          let same : turns_of (stage_of (wake_at w stages) v) ≡ turns_of (stage_of stages v) = ap turns_of (woken_other w v stages (λ e. omega arith)) in
          let lives : gone? (stage_of stages w) ≡ false = alive w (omega arith) (t.first_stays v made (omega arith)) in
          let inside : v < length (wake_at w stages) = stage-within (wake_at w stages) v (ap gone? (woken_other w v stages (λ e. omega arith)) ∙ j) in
          omega (arith, turns_set (wake_at w stages) v gone inside, alive_turns (stage_of stages v) j, woken_turns w stages lives)

  -- Taking over adds no turns: waking adds at most one, and the merged vertex loses at least one.
  pub takes-turns :
      (n k : ℕ) (stages : List Stage) → length stages ≡ count → first ≤ k → Alive first rows stages → turns_left (takes_from rows k n stages) ≤ turns_left stages
  unfolding takes_from
  takes-turns zero k stages long made alive = omega arith
  takes-turns (suc n) k stages long made alive =
      let one = taken d t 1 k stages long made in
      let rest = takes-turns n (suc k) (take_at rows k stages) (one.long ∙ long) (omega arith)
      (λ u h m. taken_alive one u m (alive u (omega (arith, one.long)) m)) in
      omega (arith, take_turns k stages long made alive)
