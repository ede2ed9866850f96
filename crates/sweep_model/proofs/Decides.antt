-- Limits that suffice decide: the reply is Equal or Different, and Equal exactly where the two functions are equal.
use Prim.Native.Nat.{◌<◌, ◌≤◌, ℕ}
use Rattle.sweep_model.proofs.AfterRest.{size-suffices}
use Rattle.sweep_model.proofs.ReplyLaws.{ands_unmerged, functions_unmerged, rows_short, steps-short}
use Rattle.sweep_model.proofs.Right.{different-right, equal-right}
use Rattle.sweep_model.specs.Claims.{and_steps, sum}
use Rattle.sweep_model.specs.Fit.{Fit, vertex_count}
use Rattle.sweep_model.specs.Normalise.{merged?}
use Rattle.sweep_model.specs.State.{Problem, function_of, literal_function}
use Rattle.sweep_model.specs.Sweep.{Verdict, different, equal, sweep, undecided}
use Rattle.sweep_model.specs.declared.Cause.TheVariants.{Rows, Size, Steps}
use Rattle.truth.specs.Parts.{size, together}
use Rattle.truth.specs.Truth.{Setting, Truth, value_at}
use mathlib.Core.Bool.{false}
use mathlib.Core.List.{List, map}
use mathlib.Core.Logic.{◌↔◌}
use mathlib.Core.Path.{◌≡◌, ap, refl}
use native.Mathlib.Omega.{arith}

-- The limits suffice for the vertices that were not merged at entry: none is too large, and together they stay within rows and steps.
pub record Suffices (p : Problem) (entry : List ℕ) : Type 0 where
  pub small : (v : ℕ) → p.first ≤ v → v < vertex_count p → merged? entry v ≡ false → size (function_of p v) ≤ p.limits.size
  pub few-rows : together (functions_unmerged p entry) ≤ p.limits.rows
  pub few-steps : sum (map and_steps (ands_unmerged p entry)) ≤ p.limits.steps

-- Equal or Different.
pub data Decided : Verdict → Type 0 where
  is-equal : Decided equal
  is-different : {s : Setting} → Decided (different s)

module _ {p : Problem} {entry : List ℕ} (fit : Fit p entry) (enough : Suffices p entry) where
  -- The reply is Equal or Different.
  pub decides : Decided (sweep p entry).verdict
  decides = go (sweep p entry).verdict refl
    where
      go : (x : Verdict) → (sweep p entry).verdict ≡ x → Decided x
      go equal e = is-equal
      go (different s) e = is-different
      go (undecided Size) e = absurd (size-suffices fit enough.small e)
      go (undecided (Rows v)) e = absurd (omega (arith, rows_short fit v e, enough.few-rows))
      go (undecided (Steps v)) e = absurd (omega (arith, steps-short fit v e, enough.few-steps))

  -- It is Equal exactly where the two functions are equal.
  pub decides-equal : ((sweep p entry).verdict ≡ equal) ↔ (literal_function p p.left ≡ literal_function p p.right)
  decides-equal = (equal-right fit, λ e. go (sweep p entry).verdict refl decides e)
    where
      go : (x : Verdict) → (sweep p entry).verdict ≡ x → Decided x → literal_function p p.left ≡ literal_function p p.right → x ≡ equal
      go x k is-equal e = refl
      go x k (is-different {s = s}) e = absurd ((different-right fit s k).differ (ap (λ (f : Truth). value_at f s) e))
