-- The bench cards on parts and steps hold.
use Rattle.truth.specs.Cards.{PartsAndSteps}
use Rattle.truth.specs.Distinct.{among, distinct, filter}
use Rattle.truth.specs.Parts.{alike?, all_parts, cofactors, depends?, parts, size, together}
use Rattle.truth.specs.Steps.{calls, steps, terminal?}
use Rattle.truth.specs.Truth.{conj, constant?, constantly, exclusive, input, invert, same?}
use mathlib.Core.Bool.{Bool, false, true}
use mathlib.Core.Path.{◌≡◌, refl}

pub parts-and_steps : PartsAndSteps
unfolding among distinct filter alike? all_parts cofactors depends? parts size together calls steps terminal? conj constant? constantly exclusive input invert same?
parts-and_steps =
    record {
      parts-constant = constant;
      parts-a = refl;
      parts_and = refl;
      parts_xor = refl;
      parts-together = refl;
      steps-a-b = refl;
      steps-inverse = refl;
      steps_false = refl;
    }
  where
    constant : (v : Bool) → size (constantly 2 v) ≡ 0
    constant true = refl
    constant false = refl
