-- The library's test of all items is the definition's.
use Rattle.std.proofs.Common.{◌≡◌, ℕ, ltb, List, [], ◌∷◌, refl, ◌∙◌, rules, tests}
use Rattle.std.specs.List.{list_all}
use Rattle.std.proofs.lemmas.Iterator.{YieldsList-from_slice}
use Rattle.std.proofs.lemmas.Iterator.Search.{all_from_yields_List}
use Rattle.table.specs.Table.{all_below?}
use Rattle.table_refusal.proofs.all_below.Goals as goal

all-below : (n : ℕ) (ws : List ℕ) → list_all (λ w. ltb w n) ws ≡ all_below? n ws
unfolding all_below?
all-below n [] = refl
all-below n (w ∷ ws) = rw (all-below n ws) refl

pub returns : goal.returns
returns c =
    let n = c.args.bound in
    let ws = c.args.words.now in
    all_from_yields_List (λ w. ltb w n) _ _ c.all.result c.all.ensures.ran (YieldsList-from_slice ws cc) (λ x b q k. search (rules, tests)) ∙ all-below n ws
