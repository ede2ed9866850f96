-- The first of the names that the others lack.
use Rattle.netlist_model.specs.Names.{found}
use Rattle.netlist_names.proofs.Finding.{lacked_found, names_count, place_small}
use Rattle.netlist_names.specs.code.Left.{names_left}
use Rattle.std.proofs.Common.{◌∙◌, arith, inl, is_none, refl, sym}
use Rattle.std.proofs.lemmas.Grind.{common_steps}
use Rattle.std.proofs.lemmas.Iterator.Consumers.{YieldsList-from_first}
use Rattle.std.proofs.lemmas.Iterator.Search.{position_from_yields_List}
use Rattle.netlist_names.proofs.first_lacked.Goals as goal

pub position-requires-clause-fits : goal.position-requires-clause-fits
position-requires-clause-fits c =
    inl (omega (arith, names_count c.args.right, c.ranges.right.1))

pub returns-in_err-place : goal.returns-in_err-place
returns-in_err-place c =
    c.from_residual.ensures ∙ sym c.in_err-place.was
    ∙ position_from_yields_List {s = c.args.right} (λ x. is_none (found x (names_left c.args.left))) c.position.new.self _ _ c.position.ensures.ran
    (YieldsList-from_first (λ name. name.now) names_left {s = c.args.right} (names_left c.args.right) refl)
    (λ x b q k. grind (arith, common_steps))
    ∙ sym (lacked_found _ _)

pub overflow_cast-result : goal.overflow_cast-result
overflow_cast-result c =
    let r = sym c.in_ok-place.was
    ∙ position_from_yields_List {s = c.args.right} (λ x. is_none (found x (names_left c.args.left))) c.position.new.self _ _ c.position.ensures.ran
    (YieldsList-from_first (λ name. name.now) names_left {s = c.args.right} (names_left c.args.right) refl)
    (λ x b q k. grind (arith, common_steps)) in
    omega (arith, place_small _ _ r, names_count c.args.right, c.ranges.right.1)

pub returns : goal.returns
returns c =
    sym c.in_ok-place.was
    ∙ position_from_yields_List {s = c.args.right} (λ x. is_none (found x (names_left c.args.left))) c.position.new.self _ _ c.position.ensures.ran
    (YieldsList-from_first (λ name. name.now) names_left {s = c.args.right} (names_left c.args.right) refl)
    (λ x b q k. grind (arith, common_steps))
    ∙ sym (lacked_found _ _)
