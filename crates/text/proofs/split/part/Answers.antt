use Rattle.std.proofs.Common.{◌≡◌, List, Option, None, Some, refl, rules, tests, ℕ}
use Rattle.std.proofs.lemmas.Iterator.Consumers.{nth_from_yields_List}
use Rattle.std.proofs.lemmas.Iterator.Splits.{YieldsList-from_slice_split}
use Rattle.std.proofs.lemmas.Option.{unwrap_or-slice_get}
use Rattle.std.specs.Option.{option_map, unwrap_or}
use denote.Ref.{Bor}
use lib.Dec.{eqb}
use Rattle.text.proofs.split.part.Goals as goal

-- A slice read or an empty one, as its bytes.
read_now : (o : Option (Bor (List ℕ))) (d : Bor (List ℕ)) → (unwrap_or o d).now ≡ unwrap_or (option_map (λ x. x.now) o) d.now
read_now None d = refl
read_now (Some x) d = refl

pub returns : goal.returns
returns c =
    let parts = nth_from_yields_List c.nth.result _ c.args.k c.nth.ensures.ran
    (YieldsList-from_slice_split _ (λ b. eqb b c.args.stop) c.args.s.now c.split.ensures.rest c.split.ensures.done c.split.ensures.closure (λ x b q. search (rules, tests))) in
    rw (c.unwrap_or.ensures, read_now, parts, unwrap_or-slice_get) refl
