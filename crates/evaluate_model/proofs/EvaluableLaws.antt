-- Demand 1 for evaluate: a call that keeps the rules is not refused, and no other is answered.
use Rattle.std.proofs.lemmas.Grind.{common_steps}
use Prim.Native.Nat.{◌<◌, suc, zero, ℕ}
use Rattle.evaluate_model.proofs.ReadyLaws.{ready, value-answers}
use Rattle.evaluate_model.specs.Evaluable.{Evaluable}
use Rattle.evaluate_model.specs.Evaluate.{all_digits?, call_tests, digit?, evaluate_tests, evaluated_value, evaluation, refused, side?, unknown?, valued}
use Rattle.table.proofs.FitsLaws.{fits-passes, passed-fits}
use Rattle.table.proofs.RefusalLaws.{first-passed, table-passed}
use Rattle.table.specs.Refusals.{first_refusal}
use Rattle.table.specs.Table.{inputs_of, outputs_of, table_tests, vertices_of}
use Rattle.truth.proofs.Booleans.{and_left, and_right}
use borrow.Author.Tests.{eq-eqb, eqb-true, le-ltb}
use lib.Dec.{eqb}
use lib.ListN.{get_or, length}
use mathlib.Core.Bool.{Bool, ◌||◌, cond, false, true}
use mathlib.Core.List.{List, [], ◌∷◌}
use mathlib.Core.Logic.{◌⊎◌}
use mathlib.Core.Path.{◌∙◌, ◌≡◌, refl, sym}
use native.Mathlib.Omega.{arith}

-- One of two numbers, tested.
either : (n a b : ℕ) → (n ≡ a) ⊎ (n ≡ b) → eqb n a || eqb n b ≡ true
either n a b h = grind (arith, common_steps)

-- Bytes 48 and 49 are digits.
digits-tested : (bs : List ℕ) → ((i : ℕ) → i < length bs → (get_or bs i 0 ≡ 48) ⊎ (get_or bs i 0 ≡ 49)) → all_digits? bs ≡ true
unfolding all_digits? digit?
digits-tested [] h = refl
digits-tested (b ∷ bs) h = rw (either b 48 49 (h 0 (omega arith))) (digits-tested bs (λ i l. h (suc i) (omega arith)))

module _ {words : List ℕ} {side output : ℕ} {setting : List ℕ} {room : ℕ} (h : Evaluable words side output setting room) where
  -- Its side and output are known.
  known : unknown? side output (outputs_of words) ≡ false
  unfolding unknown? side?
  known = grind (arith, common_steps)

  -- No refusal applies.
  passes : first_refusal 0 (evaluate_tests words side output setting room) ≡ 0
  unfolding first_refusal
  passes =
      table-passed words (call_tests words side output setting room) (fits-passes words h.table)
      ∙ rw (
        known,
        le-ltb room (vertices_of words) h.room-enough,
        eq-eqb (length setting) (inputs_of words) h.setting-fits,
        digits-tested setting h.setting-digits,
      ) refl

  -- So it gives the output's value.
  pub evaluates : evaluation words side output setting room ≡ valued (evaluated_value words side output setting)
  evaluates = sym (value-answers words side output setting room (evaluated_value words side output setting) passes refl)

-- A test for one of two numbers, passed.
one_of : (n a b : ℕ) → eqb n a || eqb n b ≡ true → (n ≡ a) ⊎ (n ≡ b)
one_of n a b h = grind (arith, common_steps)

digits-passed : (bs : List ℕ) → all_digits? bs ≡ true → (i : ℕ) → i < length bs → (get_or bs i 0 ≡ 48) ⊎ (get_or bs i 0 ≡ 49)
unfolding all_digits? digit?
digits-passed [] h i l = absurd (omega arith)
digits-passed (b ∷ bs) h zero l = one_of b 48 49 (and_left (digit? b) (all_digits? bs) h)
digits-passed (b ∷ bs) h (suc i) l = digits-passed bs (and_right (digit? b) (all_digits? bs) h) i (omega arith)

module _ (words : List ℕ) (side output : ℕ) (setting : List ℕ) (room v : ℕ) where
  answered : evaluation words side output setting room ≡ valued v → first_refusal 0 (evaluate_tests words side output setting room) ≡ 0
  unfolding evaluation
  answered h = go (eqb n 0) refl h
    where
      n : ℕ
      n = first_refusal 0 (evaluate_tests words side output setting room)

      go : (b : Bool) → eqb n 0 ≡ b → cond b (valued (evaluated_value words side output setting)) (refused n) ≡ valued v → n ≡ 0
      go true e h = eqb-true n 0 e
      go false e h = let z : ◌≡◌ {A = ℕ} 0 1 = cc in absurd (omega arith)

  -- A call that is given a value keeps the rules.
  pub evaluates_only : evaluation words side output setting room ≡ valued v → Evaluable words side output setting room
  unfolding side?
  evaluates_only h =
      let e = answered h in
      let r = ready words side output setting room e in
      record {
        table = passed-fits words (first-passed (table_tests words) (call_tests words side output setting room) e);
        side-known = one_of side 1 2 r.side-known;
        output-known = r.output-known;
        room-enough = r.room-enough;
        setting-fits = r.setting-fits;
        setting-digits = digits-passed setting r.setting-digits;
      }
