-- What is said after Rows and after Steps leaves nothing open: the marks and the rows reported determine the steps and the rows added.
use Prim.Native.Nat.{ℕ}
use Rattle.aig.specs.Lookup.{first_word, second_word}
use Rattle.product_model.proofs.SameRows.{SameOutcome, SameRows, both-rows, both-steps, run-same}
use Rattle.product_model.specs.Run.{Book, Outcome}
use Rattle.sweep_model.specs.Claims.{AfterRows, AfterSteps, BrokeAt, BrokeOff, at_and, at-input}
use Rattle.sweep_model.specs.State.{Problem, literal_function}
use mathlib.Core.List.{List}
use mathlib.Core.Path.{◌∙◌, ◌≡◌, subst₂, sym}
use native.Mathlib.Omega.{arith}

module _ {p : Problem} {operands marks : List ℕ} {v rows steps added steps' added' : ℕ} where
  -- Two accounts of one product that broke off agree.
  broke-agree :
      {short : Book → Outcome} → ((b c : Book) → SameOutcome (short b) (short c) → SameRows b c) → BrokeOff p operands marks short v rows steps added
      → BrokeOff p operands marks short v rows steps' added' → (steps ≡ steps') × (added ≡ added')
  broke-agree kind x y =
      let before : SameRows x.before y.before =
      record {
        steps = x.steps-before ∙ sym y.steps-before;
        count = x.rows_before ∙ sym y.rows_before;
        members = λ t. x.parts-before t ∙ sym (y.parts-before t);
      } in
      let after : SameRows x.after y.after =
      kind x.after y.after
      (subst₂ SameOutcome x.ran y.ran
      (run-same p.limits.rows p.limits.steps (literal_function p (first_word operands v)) (literal_function p (second_word operands v)) before)) in
      (sym x.steps-after ∙ after.steps ∙ y.steps-after, omega (arith, x.rows_after, y.rows_after, after.count))

  -- So do two accounts of a row limit that was passed.
  broke-at-agree : BrokeAt p operands marks v rows steps added → BrokeAt p operands marks v rows steps' added' → (steps ≡ steps') × (added ≡ added')
  broke-at-agree (at_and x) (at_and y) = broke-agree (λ b c. both-rows) x y
  broke-at-agree (at_and x) (at-input l e z) = absurd (omega (arith, x.made))
  broke-at-agree (at-input l e z) (at_and y) = absurd (omega (arith, y.made))
  broke-at-agree (at-input l e z) (at-input m f w) = (e ∙ sym f, z ∙ sym w)

  -- They are determined after Rows,
  pub rows-determined :
      AfterRows p operands marks v rows steps added → AfterRows p operands marks v rows steps' added' → (steps ≡ steps') × (added ≡ added')
  rows-determined x y = broke-at-agree x.broke y.broke

  -- and after Steps.
  pub steps-determined :
      AfterSteps p operands marks v rows steps added → AfterSteps p operands marks v rows steps' added' → (steps ≡ steps') × (added ≡ added')
  steps-determined x y = broke-agree (λ b c. both-steps) x.broke y.broke
