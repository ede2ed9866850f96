-- The setting that a Different wrote, given to evaluate on the table as left, has different values on the two sides.
use Prim.Native.Nat.{◌<◌, ◌≤◌, suc, zero, ℕ}
use Rattle.compare_model.proofs.Demand2.{demand2}
use Rattle.compare_model.proofs.RefusalLaws.{compared-refused, passed}
use Rattle.compare_model.proofs.Since.{Since, since_compared, since_loaded}
use Rattle.compare_model.specs.Claims.{Differs}
use Rattle.compare_model.specs.Compare.{Given, Left, compared, refusal_of, setting_bytes, turned_back}
use Rattle.compare_model.specs.Said.{Said}
use Rattle.demands.specs.Evaluated.{Confirmed, written}
use Rattle.evaluate_model.proofs.EvaluableLaws.{evaluates}
use Rattle.evaluate_model.specs.Evaluate.{bit, digits_of, evaluated_value, evaluation, valued}
use Rattle.product_model.proofs.Cases.{impossible}
use Rattle.table.proofs.FitsLaws.{accepted-fits}
use Rattle.table.specs.Table.{graph_of, inputs_of, output_value, vertices_of}
use Rattle.truth.specs.Truth.{Setting}
use lib.ListN.{drop, get_or, length, length-map, take}
use lib.Seq.{take_at}
use mathlib.Core.Bool.{Bool, false, true}
use mathlib.Core.List.{[], ◌∷◌}
use mathlib.Core.Logic.{◌≢◌, ◌⊎◌, inl, inr}
use mathlib.Core.Path.{◌∙◌, ◌≡◌, ap, refl, sym}
use native.Mathlib.Decide.{ℕ_discrete}
use native.Mathlib.Omega.{arith}

-- The bytes of a setting are 48 and 49, and stand for it.
bytes-either : (t : Setting) (i : ℕ) → i < length (setting_bytes t) → (get_or (setting_bytes t) i 0 ≡ 48) ⊎ (get_or (setting_bytes t) i 0 ≡ 49)
unfolding setting_bytes
bytes-either [] i l = absurd (omega arith)
bytes-either (true ∷ t) zero l = inr refl
bytes-either (false ∷ t) zero l = inl refl
bytes-either (x ∷ t) (suc i) l = bytes-either t i (omega arith)

bytes_stand : (t : Setting) → digits_of (setting_bytes t) ≡ t
unfolding setting_bytes
bytes_stand [] = refl
bytes_stand (true ∷ t) = ap (λ (u : Setting). true ∷ u) (bytes_stand t)
bytes_stand (false ∷ t) = ap (λ (u : Setting). false ∷ u) (bytes_stand t)

-- Two truth values that are not one, as numbers.
bits_apart : (x y : Bool) → x ≢ y → bit x ≢ bit y
bits_apart true true h e = h refl
bits_apart true false h e = omega arith
bits_apart false true h e = omega arith
bits_apart false false h e = h refl

module _ (g : Given) (h : refusal_of g ≡ 0) (room : ℕ) (enough : vertices_of g.table ≤ room)
    (d : Differs g.table g.output g.setting (compared g).setting) where
  -- The table left has kept what was given.
  kept : Since g.table (compared g).table
  kept = since_compared g (since_loaded (passed g h).table)

  length_bytes : length (setting_bytes d.setting) ≡ inputs_of (compared g).table
  unfolding setting_bytes
  length_bytes = length-map d.setting _ ∙ d.digits ∙ sym kept.inputs

  -- The bytes of the setting are those written.
  setting-written : written (compared g) ≡ setting_bytes d.setting
  setting-written =
      ap (take (inputs_of (compared g).table)) d.written
      ∙ take_at (setting_bytes d.setting) (drop (length (setting_bytes d.setting)) g.setting) (inputs_of (compared g).table) length_bytes

  -- Evaluate gives the value that the side's output had in what was given.
  side-valued : (side : ℕ) → (side ≡ 1) ⊎ (side ≡ 2)
      → evaluation (compared g).table side g.output (written (compared g)) room
      ≡ valued (bit (output_value (graph_of g.table) side g.output d.setting))
  unfolding evaluated_value
  side-valued side known =
      rw setting-written
      (evaluates {setting = setting_bytes d.setting}
      (record {
        table = accepted-fits kept.accepted;
        side-known = known;
        output-known = omega (arith, (passed g h).output, kept.outputs);
        room-enough = omega (arith, enough, kept.inputs, kept.made);
        setting-fits = length_bytes;
        setting-digits = bytes-either d.setting;
      })
      ∙ ap (λ (x : Bool). valued (bit x))
      (ap (output_value (graph_of (compared g).table) side g.output) (bytes_stand d.setting)
      ∙ (demand2 g h).values side g.output d.setting (passed g h).output d.digits))

  confirmed : Confirmed g (compared g) room
  confirmed =
      record {
        first = bit (output_value (graph_of g.table) 1 g.output d.setting);
        second = bit (output_value (graph_of g.table) 2 g.output d.setting);
        first-side = side-valued 1 (inl refl);
        second-side = side-valued 2 (inr refl);
        differ = bits_apart _ _ d.differ;
      }

-- After Different, evaluate finds the two sides different on the setting that was written, where its working slice is long enough.
pub different_confirmed : (g : Given) (rows steps added room : ℕ) → (compared g).reply ≡ Said.different rows steps added → vertices_of g.table ≤ room
    → Confirmed g (compared g) room
unfolding turned_back
different_confirmed g rows steps added room e enough =
    elim (ℕ_discrete (refusal_of g) 0) [
      | yes h ↦ confirmed g h room enough ((demand2 g h).different rows steps added e)
      | no h ↦ other (ap (λ (l : Left). l.reply) (sym (compared-refused g h)) ∙ e)
    ]
  where
    other : Said.refused (refusal_of g) ≡ Said.different rows steps added → Confirmed g (compared g) room
    other k = impossible (cc)
