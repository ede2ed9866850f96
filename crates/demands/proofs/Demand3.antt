-- Demand 3, proved. What holds since the table was loaded is kept by every call, and each reply follows from it.
use Prim.Native.Nat.{ℕ}
use Rattle.compare_model.proofs.ClaimLaws.{marks-kept, reply-says}
use Rattle.compare_model.proofs.Since.{Since, since_compared, since_loaded, since_value}
use Rattle.compare_model.specs.Claims.{MarksKept, ReplySays, problem_by}
use Rattle.compare_model.specs.Compare.{compared, refusal_of}
use Rattle.demands.proofs.FileLaws.{table-outputs, table-value}
use Rattle.demands.proofs.ReplyLaws.{reply-kept}
use Rattle.demands.specs.Claims.{ReplyKept}
use Rattle.demands.specs.Demand3.{Call, Demand3, Each, Holds, Ran}
use Rattle.load_model.proofs.LoadLaws.{load-only}
use Rattle.load_model.proofs.PairedLaws.{loadable-paired}
use Rattle.load_model.proofs.TableLaws.{table-accepted, table-inputs}
use Rattle.load_model.specs.Load.{LoadRoom, accepted, load_result, table_of}
use Rattle.load_model.specs.Loadable.{Loadable}
use Rattle.load_model.specs.declared.Tally.{Tally}
use Rattle.netlist_model.specs.Check.{read, read_netlist}
use Rattle.netlist_model.specs.Netlist.{Netlist}
use Rattle.netlist_model.specs.Pairing.{paired}
use Rattle.netlist_model.specs.declared.Role.TheVariants.{First, Second}
use mathlib.Core.List.{List}
use mathlib.Core.Path.{◌∙◌, ◌≡◌, subst, subst₂}
use native.Mathlib.Omega.{arith}

-- The files of an accepted load.
pub loaded_files : (left right : List ℕ) (room : LoadRoom) (edition : ℕ) (tally : Tally) (d e : Netlist) → load_result left right room ≡ accepted edition tally
    → read_netlist First left ≡ read d → read_netlist (Second d.edition) right ≡ read e → Loadable d e
loaded_files left right room edition tally d e a l r =
    let h = load-only left right room edition tally a in
    let f : h.first ≡ d = cc h.first_read in
    let s : read_netlist (Second d.edition) right ≡ read h.second = subst (λ (x : Netlist). read_netlist (Second x.edition) right ≡ read h.second) f h.second-read in
    let g : h.second ≡ e = cc in
    subst₂ Loadable f g h.loadable

module _ {d e : Netlist} (h : Loadable d e) (old : List ℕ) where
  -- What follows, for each call, from what holds since the table was loaded follows for every list of calls,
  pub each-call : (P : Call → Type 0) → ((c : Call) → c.left ≡ compared c.given → Since (table_of d (paired d e) old) c.given.table → P c)
      → {table last : List ℕ} {calls : List Call} → Since (table_of d (paired d e) old) table → Ran table calls last → Each P calls
  each-call P one s Ran.none = Each.none
  each-call P one s (Ran.next {c = c} t l r) =
      let here : Since (table_of d (paired d e) old) c.given.table = rw t s in
      Each.next {c = c} (one c l here) (each-call P one (rw l (since_compared c.given here)) r)

  -- and it holds after every list.
  since_ran : {table last : List ℕ} {calls : List Call} → Since (table_of d (paired d e) old) table → Ran table calls last → Since (table_of d (paired d e) old) last
  since_ran s Ran.none = s
  since_ran s (Ran.next {c = c} t l r) = since_ran (rw l (since_compared c.given (rw t s))) r

  -- It holds before the list.
  pub since_first : Since (table_of d (paired d e) old) (table_of d (paired d e) old)
  since_first = since_loaded (table-accepted d (paired d e) (loadable-paired h) old)

  holds : {last : List ℕ} {calls : List Call} → Ran (table_of d (paired d e) old) calls last → Holds d e (table_of d (paired d e) old) calls last
  holds ran =
      let s = since_ran since_first ran in
      record {
        values = λ side k t l m.
            since_value s side k t (omega (arith, table-outputs d e h old)) (omega (arith, table-inputs d (paired d e) old)) ∙ table-value d e h old side k t l m;
        vertices = s.functions;
        constraint = s.constraint;
        replies =
            each-call (λ c. ReplyKept d e (table_of d (paired d e) old) c.given c.left c.left.reply) (λ c l here. rw l (reply-kept h old c.given here)) since_first ran;
        marks =
            each-call (λ c. refusal_of c.given ≡ 0 → MarksKept (problem_by (table_of d (paired d e) old) c.given) c.left.marks c.left.reply)
            (λ c l here r. rw l (marks-kept c.given r here)) since_first ran;
        conditions =
            each-call (λ c. refusal_of c.given ≡ 0 → ReplySays (table_of d (paired d e) old) c.given c.left c.left.reply)
            (λ c l here r. rw l (reply-says c.given r here)) since_first ran;
      }

-- Demand 3.
pub demand3 : Demand3
demand3 left right room edition tally d e old last calls a l r ran = holds (loaded_files left right room edition tally d e a l r) old ran
