-- The first of the names that is the one sought.
use Rattle.netlist_names.proofs.Finding.{found_position, names_count, place_small}
use Rattle.netlist_names.specs.code.Left.{names_left}
use Rattle.std.proofs.Common.{◌∙◌, arith, inl, refl, rules, sym}
use Rattle.std.proofs.lemmas.Iterator.Consumers.{YieldsList-from_first}
use Rattle.std.proofs.lemmas.Iterator.Search.{position_from_yields_List}
use Rattle.text.specs.Bytes.{same_bytes}
use Rattle.netlist_names.proofs.find_name.Goals as goal

pub position-requires-clause-fits : goal.position-requires-clause-fits
position-requires-clause-fits c =
    inl (omega (arith, names_count c.args.names, c.ranges.names.1))

pub returns-in_err-place : goal.returns-in_err-place
returns-in_err-place c =
    c.from_residual.ensures ∙ sym c.in_err-place.was
    ∙ position_from_yields_List {s = c.args.names} (same_bytes c.args.name.now) c.position.new.self _ _ c.position.ensures.ran
    (YieldsList-from_first (λ name. name.now) names_left {s = c.args.names} (names_left c.args.names) refl)
    (λ x b q k. search rules)
    ∙ sym (found_position _ _)

pub overflow_cast-result : goal.overflow_cast-result
overflow_cast-result c =
    let r = sym c.in_ok-place.was
    ∙ position_from_yields_List {s = c.args.names} (same_bytes c.args.name.now) c.position.new.self _ _ c.position.ensures.ran
    (YieldsList-from_first (λ name. name.now) names_left {s = c.args.names} (names_left c.args.names) refl)
    (λ x b q k. search rules) in
    omega (arith, place_small _ _ r, names_count c.args.names, c.ranges.names.1)

pub returns : goal.returns
returns c =
    sym c.in_ok-place.was
    ∙ position_from_yields_List {s = c.args.names} (same_bytes c.args.name.now) c.position.new.self _ _ c.position.ensures.ran
    (YieldsList-from_first (λ name. name.now) names_left {s = c.args.names} (names_left c.args.names) refl)
    (λ x b q k. search rules)
    ∙ sym (found_position _ _)
