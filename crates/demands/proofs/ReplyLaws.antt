-- Each reply kept what demand 3 says of it: what is said of the table as loaded is said of the files.
use Prim.Native.Nat.{◌<◌, ℕ}
use Rattle.compare_model.proofs.ClaimLaws.{marks-kept, reply-says}
use Rattle.compare_model.proofs.RefusalLaws.{compared-refused, passed}
use Rattle.compare_model.proofs.Since.{Since}
use Rattle.compare_model.specs.Claims.{Agrees, Differs, MarksKept, ReplySays, problem_by}
use Rattle.compare_model.specs.Compare.{Given, compared, problem_of, refusal_of, setting_bytes, turned_back}
use Rattle.compare_model.specs.Said.{Said}
use Rattle.demands.proofs.FileLaws.{table-allows, table-outputs, table-value, too_large, too_many_parts, too_many_steps}
use Rattle.demands.specs.Claims.{Agree, ReplyKept, Separated, side_value}
use Rattle.load_model.proofs.TableLaws.{table-inputs}
use Rattle.load_model.specs.Load.{table_of}
use Rattle.load_model.specs.Loadable.{Loadable}
use Rattle.netlist_model.specs.Netlist.{Netlist}
use Rattle.netlist_model.specs.Pairing.{paired}
use Rattle.sweep_model.specs.Claims.{is, is_either}
use Rattle.table.specs.Table.{graph_of, output_value}
use Rattle.truth.specs.Truth.{Setting}
use lib.ListN.{drop, length, length-map}
use mathlib.Core.Bool.{◌||◌}
use mathlib.Core.List.{List, ◌++◌}
use mathlib.Core.Path.{◌∙◌, ◌≡◌, ap, refl, sym}
use native.Mathlib.Decide.{ℕ_discrete}
use native.Mathlib.Omega.{arith}

module _ {d e : Netlist} (h : Loadable d e) (old : List ℕ) (g : Given) (s : Since (table_of d (paired d e) old) g.table) where
  abbrev loaded : List ℕ
  loaded = table_of d (paired d e) old

  -- A comparison that is not refused.
  module _ (r : refusal_of g ≡ 0) where
    inside : g.output < length d.outputs
    inside = omega (arith, (passed g r).output, s.outputs, table-outputs d e h old)

    value : (side : ℕ) (t : Setting) → length t ≡ d.inputs → output_value (graph_of loaded) side g.output t ≡ side_value d e side g.output t
    value side t l = table-value d e h old side g.output t inside l

    agree : Agrees loaded g.output → Agree d e g.output
    unfolding side_value
    agree x t l a = sym (value 1 t l) ∙ x t (l ∙ sym (table-inputs d (paired d e) old)) (table-allows d e h old t l ∙ a) ∙ value 2 t l

    separated : {after : List ℕ} → Differs loaded g.output g.setting after → Separated d e g.output g.setting after
    unfolding side_value setting_bytes
    separated x =
        let t = x.setting in
        let l : length t ≡ d.inputs = x.digits ∙ table-inputs d (paired d e) old in
        record {
          setting = t;
          digits = l;
          written = x.written ∙ ap (λ (n : ℕ). setting_bytes t ++ drop n g.setting) (length-map t _ ∙ l);
          allowed = sym (table-allows d e h old t l) ∙ x.allowed;
          differ = λ k. x.differ (value 1 t l ∙ k ∙ sym (value 2 t l));
          first = λ u m a n. sym (value 1 u m) ∙ x.first u (m ∙ sym (table-inputs d (paired d e) old)) (table-allows d e h old u m ∙ a) n ∙ value 2 u m;
        }

    -- What is said of a reply and its marks by the table as loaded, by the files.
    said_kept : (x : Said) → MarksKept (problem_by (table_of d (paired d e) old) g) (compared g).marks x → ReplySays (table_of d (paired d e) old) g (compared g) x
        → ReplyKept d e (table_of d (paired d e) old) g (compared g) x
    unfolding problem_of
    said_kept (Said.refused n) m k = absurd k
    said_kept (Said.equal rows steps added) m k = (r, agree k.0, k.1)
    said_kept (Said.different rows steps added) m k = (r, separated k.0, k.1)
    said_kept (Said.size rows steps added) m k =
        let z = k.0 in
        (r, too_large d e h old g.output inside g.limits g.limits.size z.vertex z.made z.there (m.large z.vertex z.there z.mark), k.1)
    said_kept (Said.rows v rows steps added) m k =
        (r, too_many_parts d e h old g.output inside g.limits g.limits.rows (is_either 1 3) (compared g).marks k.0.over, k.1, k.0.full)
    said_kept (Said.steps v rows steps added) m k =
        (r, too_many_steps d e h old g.output inside g.limits g.limits.steps (λ m. is_either 1 2 m || is 3 m) _ k.0.over, k.1, k.0.full)

  -- Refused or not.
  pub reply-kept : ReplyKept d e (table_of d (paired d e) old) g (compared g) (compared g).reply
  reply-kept =
      elim (ℕ_discrete (refusal_of g) 0) [
        | yes r ↦ said_kept r (compared g).reply (marks-kept g r s) (reply-says g r s)
        | no r ↦ rw (compared-refused g r) (unfold turned_back in (refl, r, refl, refl, refl))
      ]
