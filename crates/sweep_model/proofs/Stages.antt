-- Stages of vertices, and a stage stored in a list of them.
use Prim.Native.Nat.{◌<◌, ◌≤◌, suc, zero, ℕ}
use Rattle.sweep_model.specs.Normalise.{wake, wake_at}
use Rattle.sweep_model.specs.State.{Stage, again, bare, bare?, dropped, dropped?, gone, gone?, has?, open?, opened, stage_of, waiting, waits?}
use Rattle.truth.proofs.Booleans.{clash, not_true}
use lib.ListN.{get_or-eq_default, length, length-set}
use lib.Seq.{get_or-set_other, get_or-set_same}
use mathlib.Core.Bool.{false, true}
use mathlib.Core.List.{List}
use mathlib.Core.Logic.{◌≢◌, ◌⊎◌, inl, inr}
use mathlib.Core.Path.{◌∙◌, ◌≡◌, ap, refl, sym}
use native.Mathlib.Decide.{dec_lt}
use native.Mathlib.Omega.{arith}

-- Only a merged vertex passes the test of one.
pub gone-is : (x : Stage) → gone? x ≡ true → x ≡ gone
unfolding gone?
gone-is bare e = clash e refl
gone-is waiting e = clash e refl
gone-is opened e = clash e refl
gone-is again e = clash e refl
gone-is dropped e = clash e refl
gone-is gone e = refl

-- Only a bare vertex passes the test of one.
pub bare-is : (x : Stage) → bare? x ≡ true → x ≡ bare
unfolding bare?
bare-is bare e = refl
bare-is waiting e = clash e refl
bare-is opened e = clash e refl
bare-is again e = clash e refl
bare-is dropped e = clash e refl
bare-is gone e = clash e refl

-- A vertex with a diagram was not merged.
pub has_not_gone : (x : Stage) → has? x ≡ true → gone? x ≡ false
unfolding has? gone?
has_not_gone bare e = refl
has_not_gone waiting e = refl
has_not_gone opened e = refl
has_not_gone again e = refl
has_not_gone dropped e = refl
has_not_gone gone e = sym e

-- A bare vertex has no diagram.
pub bare-lacks : (x : Stage) → bare? x ≡ true → has? x ≡ false
unfolding has?
bare-lacks x e = ap has? (bare-is x e)

-- A dropped vertex has no diagram.
pub dropped-lacks : (x : Stage) → dropped? x ≡ true → has? x ≡ false
unfolding dropped? has?
dropped-lacks bare e = refl
dropped-lacks waiting e = sym e
dropped-lacks opened e = sym e
dropped-lacks again e = sym e
dropped-lacks dropped e = refl
dropped-lacks gone e = refl

-- A vertex that was not merged is bare or dropped, or has a diagram.
pub stage_cases : (x : Stage) → gone? x ≡ false → (bare? x ≡ true) ⊎ ((dropped? x ≡ true) ⊎ (has? x ≡ true))
unfolding gone? bare? dropped? has?
stage_cases bare e = inl refl
stage_cases waiting e = inr (inr refl)
stage_cases opened e = inr (inr refl)
stage_cases again e = inr (inr refl)
stage_cases dropped e = inr (inl refl)
stage_cases gone e = clash refl e

-- A vertex with a diagram that does not wait is at rest.
pub rests-is : (x : Stage) → has? x ≡ true → waits? x ≡ false → x ≡ opened
unfolding has? waits?
rests-is bare e f = clash e refl
rests-is waiting e f = clash refl f
rests-is opened e f = refl
rests-is again e f = clash refl f
rests-is dropped e f = clash e refl
rests-is gone e f = clash e refl

-- A bare vertex was not merged.
pub bare_not_gone : (x : Stage) → bare? x ≡ true → gone? x ≡ false
unfolding gone?
bare_not_gone x e = ap gone? (bare-is x e)

-- A waiting vertex has a diagram.
pub waits-has : (x : Stage) → waits? x ≡ true → has? x ≡ true
unfolding waits? has?
waits-has bare e = e
waits-has waiting e = refl
waits-has opened e = refl
waits-has again e = refl
waits-has dropped e = e
waits-has gone e = e

-- An open vertex has a diagram.
pub open-has : (x : Stage) → open? x ≡ true → has? x ≡ true
unfolding open? has?
open-has bare e = e
open-has waiting e = refl
open-has opened e = refl
open-has again e = refl
open-has dropped e = e
open-has gone e = e

-- A woken vertex has a diagram.
pub has-wake : (x : Stage) → has? (wake x) ≡ true
unfolding wake has?
has-wake bare = refl
has-wake waiting = refl
has-wake opened = refl
has-wake again = refl
has-wake dropped = refl
has-wake gone = refl

-- A woken vertex waits.
pub waits-wake : (x : Stage) → waits? (wake x) ≡ true
unfolding wake waits?
waits-wake bare = refl
waits-wake waiting = refl
waits-wake opened = refl
waits-wake again = refl
waits-wake dropped = refl
waits-wake gone = refl

-- A woken vertex is not bare.
pub bare-wake : (x : Stage) → bare? (wake x) ≡ false
bare-wake x = not_true (bare? (wake x)) (λ e. clash (has-wake x) (bare-lacks (wake x) e))

-- A woken vertex was not merged.
pub gone-wake : (x : Stage) → gone? (wake x) ≡ false
gone-wake x = has_not_gone (wake x) (has-wake x)

-- Waking twice is waking once.
pub wake-wake : (x : Stage) → wake (wake x) ≡ wake x
unfolding wake
wake-wake bare = refl
wake-wake waiting = refl
wake-wake opened = refl
wake-wake again = refl
wake-wake dropped = refl
wake-wake gone = refl

-- A vertex that was not merged is one of the list.
pub stage-within : (stages : List Stage) (v : ℕ) → gone? (stage_of stages v) ≡ false → v < length stages
unfolding gone?
stage-within stages v e =
    elim (dec_lt v (length stages)) [
      | yes h ↦ h
      | no h ↦ (let l : length stages ≤ v = omega arith in clash refl (sym (ap gone? (get_or-eq_default stages gone l)) ∙ e))
    ]

-- Waking keeps the number of stages.
pub woken_length : (w : ℕ) (stages : List Stage) → length (wake_at w stages) ≡ length stages
unfolding wake_at
woken_length zero stages = refl
woken_length (suc w) stages = length-set stages (suc w) (wake (stage_of stages (suc w)))

-- The constant is never woken.
pub woken_constant : (w : ℕ) (stages : List Stage) → w ≡ 0 → wake_at w stages ≡ stages
unfolding wake_at
woken_constant zero stages e = refl
woken_constant (suc w) stages e = absurd (omega arith)

-- A woken vertex has its new stage.
pub woken_same : (w : ℕ) (stages : List Stage) → w ≢ 0 → w < length stages → stage_of (wake_at w stages) w ≡ wake (stage_of stages w)
unfolding wake_at
woken_same zero stages d h = absurd (d refl)
woken_same (suc w) stages d h = get_or-set_same stages (suc w) (wake (stage_of stages (suc w))) gone h

-- Other vertices keep theirs.
pub woken_other : (w u : ℕ) (stages : List Stage) → u ≢ w → stage_of (wake_at w stages) u ≡ stage_of stages u
unfolding wake_at
woken_other zero u stages d = refl
woken_other (suc w) u stages d = get_or-set_other stages (suc w) u (wake (stage_of stages (suc w))) gone d
