-- The row of an input.
use Prim.Native.Nat.{◌-◌, ◌<◌, suc, zero, ℕ}
use Rattle.product_model.proofs.Ran.{Ran, add_ran, ran_as}
use Rattle.product_model.specs.code.Books.{Proper}
use Rattle.product_model.specs.Run.{Book, add_part}
use Rattle.truth.proofs.Parts.{constants_differ, parts-constant, parts-node, parts_skip}
use Rattle.truth.specs.Distinct.{among}
use Rattle.truth.specs.Parts.{alike?, parts}
use Rattle.truth.specs.Truth.{Truth, constantly, input}
use mathlib.Core.Bool.{false, true}
use mathlib.Core.List.{[], ◌∷◌}
use mathlib.Core.Path.{◌∙◌, ◌≡◌, ap, refl, sym}
use native.Mathlib.Nat.{sub-zero}
use native.Mathlib.Omega.{arith}

-- "Each input gets its row": input i + 1 of n has one part, the first of the n - i inputs that are left from it on.
pub parts-input : (n i : ℕ) → i < n → (t : Truth) → among alike? t (input (n - i) 1 ∷ []) ≡ among alike? t (parts (input n (suc i)))
unfolding input
parts-input zero i h t = absurd (omega arith)
parts-input (suc n) zero h t =
    rw (sub-zero (suc n))
    (sym
    (ap (among alike? t)
    (parts-node (constantly n false) (constantly n true) ∙ rw (constants_differ n, parts-constant n false, parts-constant n true))))
parts-input (suc n) (suc i) h t =
    let e : suc n - suc i ≡ n - i = omega arith in
    rw e (parts-input n i (omega arith) t ∙ sym (parts_skip t (input n (suc i))))

-- Adding that part gives the input its row.
pub input-ran : (row_limit step_limit : ℕ) {b : Book} → Proper row_limit step_limit b → (n i : ℕ) → i < n
    → Ran row_limit step_limit (parts (input n (suc i))) 0 0 b (add_part row_limit (input (n - i) 1) b)
input-ran row_limit step_limit P n i h = ran_as row_limit step_limit refl (parts-input n i h) (add_ran row_limit step_limit P (input (n - i) 1))
