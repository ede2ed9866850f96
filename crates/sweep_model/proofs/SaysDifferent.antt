-- Different is said only where the outputs looked at are inverse, or both have diagrams.
use Prim.Native.Nat.{ℕ}
use Rattle.aig.specs.Literal.{vertex_of}
use Rattle.product_model.proofs.Cases.{impossible}
use Rattle.sweep_model.proofs.Induction.{Keeps, sweep-keeps, unasked}
use Rattle.sweep_model.specs.code.Steady.{left_now, right_now}
use Rattle.sweep_model.specs.Choices.{OutputsApart, inverse, with_diagrams}
use Rattle.sweep_model.specs.Fit.{Fit}
use Rattle.sweep_model.specs.State.{Problem, State, has?, stage_of}
use Rattle.sweep_model.specs.Sweep.{Verdict, different, sweep}
use Rattle.truth.proofs.Booleans.{and_left, and_right}
use Rattle.truth.specs.Truth.{Setting}
use mathlib.Core.Bool.{Bool}
use mathlib.Core.List.{List}
use mathlib.Core.Path.{◌≡◌}

module _ {p : Problem} {entry : List ℕ} (fit : Fit p entry) where
  -- If the verdict is Different, the outputs are apart.
  abbrev Seen : Verdict → ℕ → State → Type 0
  Seen x k s = (t : Setting) → x ≡ different t → OutputsApart p s

  -- Whether the vertex of a literal has a diagram.
  abbrev has : State → ℕ → Bool
  has s l = has? (stage_of s.stages (vertex_of l))

  seen-keeps : Keeps p entry (λ place s. Unit {0}) Seen
  seen-keeps =
      record {
        invariant = unasked;
        same-literal = λ place s h r e t i. impossible (cc);
        inverse-literal = λ place s h r e t i. inverse e;
        same_function = λ place s h r a b c e t i. impossible (cc);
        other_function =
            λ place s h r a b c e t i.
            with_diagrams a (and_left (has s (left_now p s)) (has s (right_now p s)) c) (and_right (has s (left_now p s)) (has s (right_now p s)) c);
        lacks-input-row = λ v b s h g l m e r t i. impossible (cc);
        lacks-row = λ n v b s d e r t i. impossible (cc);
        lacks_step = λ n v b s d e r t i. impossible (cc);
        rests = λ n s h c e r t i. impossible (cc);
      }

  -- After Different the outputs, as the sweep left them, are inverse, or both have diagrams and are not one reference.
  pub different-apart : (t : Setting) → (sweep p entry).verdict ≡ different t → OutputsApart p (sweep p entry).left
  different-apart t e = sweep-keeps fit seen-keeps t e
