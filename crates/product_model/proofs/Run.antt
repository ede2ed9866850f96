-- The laws of a run of two functions that have their rows, from a book within its limits.
use Prim.Native.Nat.{ℕ}
use Rattle.product_model.proofs.Ran.{Done, ShortOfRows, ShortOfSteps, is-done, is-short_of_rows, is-short_of_steps, run_ran}
use Rattle.product_model.specs.code.Books.{Proper, Stored}
use Rattle.product_model.specs.Run.{Book, done, run, short_of_rows, short_of_steps}
use Rattle.truth.specs.Parts.{parts}
use Rattle.truth.specs.Steps.{steps}
use Rattle.truth.specs.Truth.{Perfect, Truth, conj}
use mathlib.Core.Path.{◌≡◌}

module _ {row_limit step_limit : ℕ} {m : ℕ} {f g : Truth} {b : Book} (p : Perfect m f) (q : Perfect m g)
    (P : Proper row_limit step_limit b) (v : Stored f b.store) (w : Stored g b.store) where
  -- Done: exactly the product steps, and the rows of the conjunction.
  pub run-done : {c : Book} → run row_limit step_limit f g b ≡ done c → Done row_limit step_limit (parts (conj f g)) (steps f g) b c
  run-done e = is-done (run_ran row_limit step_limit p q P v w) e

  -- Short of rows: the store and the conjunction have together more parts than the row limit.
  pub run-rows : {c : Book} → run row_limit step_limit f g b ≡ short_of_rows c → ShortOfRows row_limit step_limit (parts (conj f g)) 1 (steps f g) b c
  run-rows e = is-short_of_rows (run_ran row_limit step_limit p q P v w) e

  -- Short of steps: the count is the step limit, and the product steps pass it.
  pub run-steps : {c : Book} → run row_limit step_limit f g b ≡ short_of_steps c → ShortOfSteps row_limit step_limit (parts (conj f g)) (steps f g) b c
  run-steps e = is-short_of_steps (run_ran row_limit step_limit p q P v w) e
