-- The table's rows, then those of the next vertices where there are any; no loop.
-- One law for either case.
use Prim.Native.Nat.{ℕ}
use Rattle.aig.specs.declared.literal.Literal.{Literal}
use Rattle.compare_copy.proofs.CopyLaws.{entry-own_rows, entry-written}
use Rattle.compare_model.specs.Compare.{over_front}
use borrow.Author.Rules.{rules}
use mathlib.Core.Logic.{◌≢◌}
use mathlib.Core.List.{List}
use mathlib.Core.Path.{◌∙◌, ◌≡◌, ap, sym}
use Rattle.compare_copy.proofs.copy_in.Goals as goal

pub returns-then-ne : goal.returns-then-ne
returns-then-ne c =
    let vertices = c.vertices-at in
    let constraint = ap (λ (r : Literal). r.0) c.constraint.ensures in
    let a = c.args in
    let table = a.table.now in
    let other : c.constraint.result.0 ≢ 1 = search rules in
    entry-written table.words.now a.output (λ e. other (constraint ∙ e)) table.formed.whole a.pairs.now c.copy_rows.new.pairs
    c.write_next.new.pairs c.write_next-then-ne.new.pairs c.requires.table_in_bounds c.copy_rows.ensures
    (rw vertices.ensures at c.write_next.ensures) (rw vertices.ensures at c.write_next-then-ne.ensures)

pub returns-else-ne : goal.returns-else-ne
returns-else-ne c =
    let constraint = ap (λ (r : Literal). r.0) c.constraint.ensures in
    let a = c.args in
    let same : c.constraint.result.0 ≡ 1 = search rules in
    c.copy_rows.ensures
    ∙ ap (λ (ws : List ℕ). over_front ws a.pairs.now) (sym (entry-own_rows a.table.now.words.now a.output (sym constraint ∙ same)))
