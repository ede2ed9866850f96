-- Where none waits: what the steps of the sweep keep holds of the state that is left after Size.
use Prim.Native.Nat.{ℕ}
use Rattle.product_model.proofs.Cases.{impossible}
use Rattle.sweep_model.proofs.Induction.{Keeps, Place, Quiet, sweep-keeps}
use Rattle.sweep_model.specs.Fit.{Fit}
use Rattle.sweep_model.specs.State.{Problem, State}
use Rattle.sweep_model.specs.Sweep.{Verdict, sweep, undecided}
use Rattle.sweep_model.specs.declared.Cause.TheVariants.{Size}
use mathlib.Core.List.{List}
use mathlib.Core.Path.{◌≡◌}

module _ {p : Problem} {entry : List ℕ} (fit : Fit p entry) {R : Place → State → Type 0} {W : Verdict → ℕ → State → Type 0} (K : Keeps p entry R W) where
  quiet_keeps : Keeps p entry R (λ x k s. x ≡ undecided Size → Quiet fit K s)
  quiet_keeps =
      record {
        invariant = K.invariant;
        same-literal = λ place s h r e i. impossible (cc);
        inverse-literal = λ place s h r e i. impossible (cc);
        same_function = λ place s h r a b c e i. impossible (cc);
        other_function = λ place s h r a b c e i. impossible (cc);
        lacks-input-row = λ v b s h g l m e r i. impossible (cc);
        lacks-row = λ n v b s d e r i. impossible (cc);
        lacks_step = λ n v b s d e r i. impossible (cc);
        rests = λ n s h c e r i. record { turns = n; reached = record { steady = h; scanned = c; kept = r }; none-waits = e };
      }

  -- After Size the turns have ended and none waits.
  pub sweep_quiet : (sweep p entry).verdict ≡ undecided Size → Quiet fit K (sweep p entry).left
  sweep_quiet = sweep-keeps fit quiet_keeps
