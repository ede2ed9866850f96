-- The library's test of all items is the definition's.
use Rattle.std.proofs.Common.{◌≡◌, ℕ, List, [], ◌∷◌, refl, ◌∙◌, rules, tests}
use Rattle.std.specs.List.{list_all}
use Rattle.std.proofs.lemmas.Iterator.{YieldsList-from_slice}
use Rattle.std.proofs.lemmas.Iterator.Search.{all_from_yields_List}
use Rattle.evaluate_model.specs.Evaluate.{all_digits?, digit?}
use Rattle.evaluate_refusal.proofs.all_digits.Goals as goal

all-digits : (bs : List ℕ) → list_all digit? bs ≡ all_digits? bs
unfolding all_digits?
all-digits [] = refl
all-digits (b ∷ bs) = rw (all-digits bs) refl

pub returns : goal.returns
returns c =
    let bs = c.args.setting.now in
    all_from_yields_List digit? _ _ c.all.result c.all.ensures.ran (YieldsList-from_slice bs cc) (λ x b q k. search (rules, tests)) ∙ all-digits bs
