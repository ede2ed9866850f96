-- The sweep keeps every function: rows and outputs at the end stand for what they stood for at entry.
use Prim.Native.Nat.{◌*◌, ◌<◌, ◌≤◌, ℕ}
use Rattle.aig.proofs.PairsLaws.{pair_map, pair_then, same-pair-value}
use Rattle.aig.specs.Lookup.{first_word, second_word}
use Rattle.aig.specs.Pairs.{SamePair, straight}
use Rattle.product_model.proofs.Symmetric.{run-symmetric}
use Rattle.product_model.specs.Run.{Book, run}
use Rattle.sweep_model.proofs.Induction.{Endings, endings_keep, sweep-keeps}
use Rattle.sweep_model.proofs.Rows.{resolve_function}
use Rattle.sweep_model.proofs.Steady.{mark-steady}
use Rattle.sweep_model.specs.Fit.{Fit, Sound, vertex_count}
use Rattle.sweep_model.specs.Normalise.{merged?, resolve}
use Rattle.sweep_model.specs.State.{Problem, State, literal_function}
use Rattle.sweep_model.specs.code.Steady.{Steady}
use Rattle.sweep_model.specs.Sweep.{given_back, sweep}
use Rattle.truth.proofs.Steps.{steps-symmetric}
use Rattle.truth.specs.Steps.{steps}
use Rattle.truth.specs.Truth.{Truth}
use mathlib.Core.Bool.{false}
use mathlib.Core.List.{List}
use mathlib.Core.Path.{◌≡◌}
use native.Mathlib.Omega.{arith}

-- Operands of the same functions, in either order, take the same steps.
pub pair-steps : {f g f' g' : Truth} → SamePair f g f' g' → steps f g ≡ steps f' g'
pair-steps s = same-pair-value steps steps-symmetric s

-- Their products are one run.
pub pair_runs : (row_limit step_limit : ℕ) (b : Book) {f g f' g' : Truth} → SamePair f g f' g'
    → run row_limit step_limit f g b ≡ run row_limit step_limit f' g' b
pair_runs row_limit step_limit b s =
    same-pair-value (λ (f g : Truth). run row_limit step_limit f g b) (λ (f g : Truth). run-symmetric row_limit step_limit f g b) s

module _ {p : Problem} {entry : List ℕ} (fit : Fit p entry) where
  module _ {s : State} (h : Steady p entry s) (v : ℕ) (made : p.first ≤ v) (within : v < vertex_count p) (unmerged : merged? s.rows v ≡ false) where
    -- The row of a vertex that was not merged has the operand functions that it had at entry, up to order.
    pub operands-kept :
        SamePair (literal_function p (first_word s.rows v)) (literal_function p (second_word s.rows v)) (literal_function p (first_word entry v))
        (literal_function p (second_word entry v))
    operands-kept = pair_then (pair_map (literal_function p) (h.moved.pairs v made within unmerged)) (straight first second)
      where
        first : literal_function p (resolve s.rows (first_word entry v)) ≡ literal_function p (first_word entry v)
        first = resolve_function p fit.well_formed h.sound (first_word entry v) (omega (arith, fit.sound.downward.first_below v made within))

        second : literal_function p (resolve s.rows (second_word entry v)) ≡ literal_function p (second_word entry v)
        second = resolve_function p fit.well_formed h.sound (second_word entry v) (omega (arith, fit.sound.downward.second_below v made within))

    -- So its product takes the steps of the operands at entry.
    pub steps-kept :
        steps (literal_function p (first_word s.rows v)) (literal_function p (second_word s.rows v))
        ≡ steps (literal_function p (first_word entry v)) (literal_function p (second_word entry v))
    steps-kept = pair-steps operands-kept

  steady-ends : Endings p entry (λ x k s. Steady p entry s)
  steady-ends =
      record {
        same-literal = λ s h e. h;
        inverse-literal = λ s h e. h;
        same_function = λ s h e. h;
        other_function = λ s h e. h;
        lacks-input-row = λ v s h. mark-steady s s.book v 3 h;
        lacks-row = λ v b s h. mark-steady s (given_back s.book b) v 3 h;
        lacks_step = λ v b s h. mark-steady s (given_back s.book b) v 3 h;
        rests = λ s h. h;
      }

  -- The rows at the end are tidy and have moved on from the entry rows; exactly the merged vertices are gone.
  pub sweep-steady : Steady p entry (sweep p entry).left
  sweep-steady = sweep-keeps fit (endings_keep steady-ends)

  -- Every vertex's function is kept: the rows at the end refer downwards and stand for the same functions.
  pub sweep_sound : Sound p (sweep p entry).left.rows
  sweep_sound = sweep-steady.sound

  -- Every literal's function is kept: what it became at the end has it.
  pub literals-kept : (r : ℕ) → r < 2 * vertex_count p → literal_function p (resolve (sweep p entry).left.rows r) ≡ literal_function p r
  literals-kept r h = resolve_function p fit.well_formed sweep_sound r h
