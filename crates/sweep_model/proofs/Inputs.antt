-- The functions of the first vertices: no two are alike; and the row of an input.
use Prim.Native.Nat.{◌-◌, ◌<◌, ◌≤◌, suc, zero, ℕ}
use Rattle.product_model.proofs.Inputs.{input-ran, parts-input}
use Rattle.product_model.proofs.Ran.{Ran}
use Rattle.product_model.specs.code.Books.{Proper}
use Rattle.sweep_model.proofs.Steady.{input_row}
use Rattle.sweep_model.specs.Fit.{WellFormed}
use Rattle.sweep_model.specs.State.{Problem, State, function_of}
use Rattle.sweep_model.specs.Sweep.{top_part}
use Rattle.truth.proofs.Booleans.{clash}
use Rattle.truth.proofs.Equality.{same-reflexive}
use Rattle.truth.proofs.Parts.{alike_depth, alike_sameness, constants_differ, parts-alike, parts-constant}
use Rattle.truth.proofs.Values.{perfect-input}
use Rattle.truth.specs.Distinct.{among}
use Rattle.truth.specs.Parts.{alike?, parts}
use Rattle.truth.specs.Truth.{constantly, input}
use mathlib.Core.Bool.{false, or-false, true}
use mathlib.Core.Path.{◌∙◌, ◌≡◌, ap, ap₂, refl, sym}
use native.Mathlib.Nat.{sub-zero}
use native.Mathlib.Omega.{arith}

-- The row of input i + 1 of n is that of the first of the inputs that are left from it on.
pub top-input : (n i : ℕ) → i < n → top_part (input n (suc i)) ≡ input (n - i) 1
unfolding top_part input
top-input zero i h = absurd (omega arith)
top-input (suc n) zero h = rw (sub-zero (suc n), constants_differ n)
top-input (suc n) (suc i) h =
    let e : suc n - suc i ≡ n - i = omega arith in
    rw (same-reflexive (input n (suc i)), e) (top-input n i (omega arith))

-- It is a part of the input.
pub own_part : (n i : ℕ) → i < n → among alike? (input (n - i) 1) (parts (input n (suc i))) ≡ true
unfolding among
own_part n i h =
    sym (parts-input n i h (input (n - i) 1)) ∙ or-false (alike? (input (n - i) 1) (input (n - i) 1)) ∙ alike_sameness.reflexive (input (n - i) 1)

-- It is a part of no other input.
pub part_own : (n i j : ℕ) → i < n → j < n → among alike? (input (n - i) 1) (parts (input n (suc j))) ≡ true → i ≡ j
unfolding among
part_own n i j h k e =
    omega (
      arith,
      alike_depth (perfect-input (n - i) 1) (perfect-input (n - j) 1)
          (sym (or-false (alike? (input (n - i) 1) (input (n - j) 1))) ∙ parts-input n j k (input (n - i) 1) ∙ e),
    )

-- No two inputs are alike.
pub inputs_apart : (n i j : ℕ) → i < n → j < n → alike? (input n (suc i)) (input n (suc j)) ≡ true → i ≡ j
inputs_apart n i j h k e = part_own n i j h k (sym (parts-alike (input (n - i) 1) (input n (suc i)) (input n (suc j)) e) ∙ own_part n i h)

-- No input is alike to the constant.
pub input_varies : (n i : ℕ) → i < n → alike? (input n (suc i)) (constantly n false) ≡ true → ⊥
unfolding among
input_varies n i h e =
    clash (sym (parts-alike (input (n - i) 1) (input n (suc i)) (constantly n false) e) ∙ own_part n i h)
    (ap (among alike? (input (n - i) 1)) (parts-constant n false))

module _ {p : Problem} (w : WellFormed p) where
  -- No two of the first vertices are alike.
  pub first-apart : (u v : ℕ) → u < p.first → v < p.first → alike? (function_of p u) (function_of p v) ≡ true → u ≡ v
  first-apart zero zero h k e = refl
  first-apart zero (suc j) h k e =
      absurd
      (input_varies p.inputs j (omega (arith, w.first-few))
      (alike_sameness.symmetric (input p.inputs (suc j)) (constantly p.inputs false)
      ∙ sym (ap₂ alike? w.constant (w.inputs (suc j) (omega arith) k)) ∙ e))
  first-apart (suc i) zero h k e =
      absurd (input_varies p.inputs i (omega (arith, w.first-few)) (sym (ap₂ alike? (w.inputs (suc i) (omega arith) h) w.constant) ∙ e))
  first-apart (suc i) (suc j) h k e =
      ap suc
      (inputs_apart p.inputs i j (omega (arith, w.first-few)) (omega (arith, w.first-few))
      (sym (ap₂ alike? (w.inputs (suc i) (omega arith) h) (w.inputs (suc j) (omega arith) k)) ∙ e))

  -- The row of an input holds its parts and takes no steps.
  pub input-row-ran : (s : State) → Proper p.limits.rows p.limits.steps s.book → (v : ℕ) → 1 ≤ v → v < p.first
      → Ran p.limits.rows p.limits.steps (parts (function_of p v)) 0 0 s.book (input_row p v s)
  input-row-ran s P zero l h = absurd (omega arith)
  input-row-ran s P (suc i) l h =
      rw (w.inputs (suc i) l h, top-input p.inputs i inside) (input-ran p.limits.rows p.limits.steps P p.inputs i inside)
    where
      inside : i < p.inputs
      inside = omega (arith, w.first-few)
