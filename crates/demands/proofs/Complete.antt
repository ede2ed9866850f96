-- Limits that suffice decide.
use Prim.Native.Nat.{ℕ}
use Rattle.compare_model.proofs.ClaimLaws.{reply-says}
use Rattle.compare_model.proofs.Since.{Since}
use Rattle.compare_model.specs.Claims.{ReplySays}
use Rattle.compare_model.specs.Compare.{Given, compared, refusal_of}
use Rattle.compare_model.specs.Said.{Said}
use Rattle.demands.proofs.Demand3.{each-call, loaded_files, since_first}
use Rattle.demands.proofs.ReplyLaws.{reply-kept}
use Rattle.demands.specs.Claims.{ReplyKept}
use Rattle.demands.specs.Complete.{Complete, Decided, Suffice, is-different, is-equal}
use Rattle.load_model.specs.Load.{table_of}
use Rattle.load_model.specs.Loadable.{Loadable}
use Rattle.netlist_model.specs.Netlist.{Netlist}
use Rattle.netlist_model.specs.Pairing.{paired}
use mathlib.Core.List.{List}
use mathlib.Core.Path.{◌≡◌}

module _ {d e : Netlist} (h : Loadable d e) (old : List ℕ) (g : Given) (s : Since (table_of d (paired d e) old) g.table) (r : refusal_of g ≡ 0)
    (enough : Suffice (table_of d (paired d e) old) d e g.output g.limits) where
  -- The limits rule out each cause.
  reply-decides : (x : Said) → ReplySays (table_of d (paired d e) old) g (compared g) x → ReplyKept d e (table_of d (paired d e) old) g (compared g) x → Decided d e g.output x
  reply-decides (Said.refused n) says k = absurd says
  reply-decides (Said.equal rows steps added) says k = is-equal k.1
  reply-decides (Said.different rows steps added) says k = is-different (λ agree. k.1.differ (agree k.1.setting k.1.digits k.1.allowed))
  reply-decides (Said.size rows steps added) says k = absurd (enough.small k.1)
  reply-decides (Said.rows v rows steps added) says k = absurd (enough.few-parts k.1)
  reply-decides (Said.steps v rows steps added) says k = absurd (enough.few-steps k.1)

  -- A comparison that is not refused decides.
  decides : Decided d e g.output (compared g).reply
  decides = reply-decides (compared g).reply (reply-says g r s) (reply-kept h old g s)

-- Every comparison of the list that is not refused, with limits that suffice, decides.
pub complete : Complete
complete left right room edition tally d e old last calls a l r ran =
    let h = loaded_files left right room edition tally d e a l r in
    each-call h old
    (λ c. refusal_of c.given ≡ 0 → Suffice (table_of d (paired d e) old) d e c.given.output c.given.limits → Decided d e c.given.output c.left.reply)
    (λ c m s q enough. rw m (decides h old c.given s q enough)) (since_first h old) ran
