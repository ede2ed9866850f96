-- The library's test of all rows is the definition's.
use Rattle.std.proofs.Common.{◌*◌, ◌+◌, ◌∙◌, refl, rules, tests, arith}
use Rattle.std.proofs.lemmas.Iterator.{YieldsList-from_range}
use Rattle.std.proofs.lemmas.Iterator.Search.{all_from_yields_List}
use Rattle.table.specs.Table.{made_of, inputs_of, row_at, row_below?, rows_of}
use Rattle.table_refusal.proofs.TestLaws.{rows-below}
use Rattle.table_refusal.proofs.is_downward.Goals as goal

pub returns : goal.returns
unfolding rows_of
returns c =
    let ws = c.args.table.now.words.now in
    all_from_yields_List (λ i. row_below? (2 * (1 + inputs_of ws + i)) (row_at ws (3 + 2 * i))) _ _ c.all.result c.all.ensures.ran
    (YieldsList-from_range 0 (made_of ws) (made_of ws) (rw c.made.ensures refl) (omega arith)) (λ x b q k. search (rules, tests))
    ∙ rows-below (1 + inputs_of ws) 3 (made_of ws) ws
