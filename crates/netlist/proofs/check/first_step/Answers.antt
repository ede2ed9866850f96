-- The tests in their order.
use Rattle.netlist_model.proofs.StepLaws.{first_other, header_step, known_told, unknown_told}
use Rattle.std.proofs.Common.{◌∙◌, refl, sym}
use Rattle.netlist.proofs.check.first_step.Goals as goal

pub returns-in_default : goal.returns-in_default
returns-in_default c = sym (first_other _ _ c.in_default.not-Header)

pub returns-in_default-known_edition : goal.returns-in_default-known_edition
returns-in_default-known_edition c =
    rw (c.in-Header.is, header_step, unknown_told c.args.role c.in-Header.edition (sym c.known_edition.ensures ∙ c.in_default-known_edition.is)) refl

pub returns-then-not-are_limited : goal.returns-then-not-are_limited
returns-then-not-are_limited c =
    let known = known_told c.args.role c.in-Header.edition (sym c.known_edition.ensures ∙ c.in-Some.is) in
    rw (c.in-Header.is, header_step, known.0, sym c.are_limited.ensures ∙ c.if-not-are_limited.true) refl

pub returns : goal.returns
returns c =
    let known = known_told c.args.role c.in-Header.edition (sym c.known_edition.ensures ∙ c.in-Some.is) in
    rw (c.in-Header.is, header_step, known.0, sym c.are_limited.ensures ∙ c.if-not-are_limited.false)
    (rw (c.name_count.ensures, c.constraints_due.ensures, known.2, ← known.1) refl)
