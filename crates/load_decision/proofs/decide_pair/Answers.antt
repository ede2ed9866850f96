-- Each return is one test of the list; no loop.
-- At the last none applies. Where the inputs are equally many, so are the names.
use Rattle.load_model.specs.Load.{counts_differ?}
use Rattle.load_decision.proofs.Checking.{lacked-some, names-both, names-few, none-lacking}
use Rattle.load_decision.specs.code.Decision.{pair_decision}
use Rattle.table.specs.Refusals.{first_refusal}
use borrow.Author.Tests.{eq-eqb, le-ltb, lt-ltb, ltb-true, ne_eqb}
use mathlib.Core.Path.{◌∙◌, refl, sym}
use native.Mathlib.Omega.{arith}
use Rattle.load_decision.proofs.decide_pair.Goals.{then-one-two-via-then-one-two, then-one-two-via-else-one-two+then-one-two-2}
use Rattle.load_decision.proofs.decide_pair.Goals as goal

pub returns-then-one-two-clause-decision : goal.returns-then-one-two-clause-decision
unfolding counts_differ? first_refusal pair_decision
returns-then-one-two-clause-decision c =
    elim c.then-one-two.branch [
      | then-one-two-via-then-one-two w ↦ rw (c.refused.ensures, ne_eqb _ _ w.if-one-two.true) refl
      | then-one-two-via-else-one-two+then-one-two-2 w ↦ rw (c.refused.ensures, eq-eqb _ _ w.if-one-two.false, ne_eqb _ _ w.if-one-two-2.true) refl
    ]

pub front_names-left_names-requires : goal.front_names-left_names-requires
front_names-left_names-requires c = (names-both c.requires c.if-one-two.false).0

pub front_names-right_names-requires : goal.front_names-right_names-requires
front_names-right_names-requires c = (names-both c.requires c.if-one-two.false).1

pub overflow_add-lacked : goal.overflow_add-lacked
overflow_add-lacked c =
    let l = lacked-some c.requires c.if-one-two.false (rw (c.front_names-left_names.ensures.names, c.front_names-right_names.ensures.names) at c.first_lacked.ensures) c.in-Some.is in
    omega (arith, names-few c.requires, l.0, ltb-true _ _ l.1)

pub returns-in-Some-clause-decision : goal.returns-in-Some-clause-decision
unfolding counts_differ? first_refusal pair_decision
returns-in-Some-clause-decision c =
    let l = lacked-some c.requires c.if-one-two.false (rw (c.front_names-left_names.ensures.names, c.front_names-right_names.ensures.names) at c.first_lacked.ensures) c.in-Some.is in
    rw (c.refused-in-Some.ensures, eq-eqb _ _ c.if-one-two.false, eq-eqb _ _ c.if-one-two-2.false, l.1, l.0) refl

pub returns-then-one-two-3-clause-decision : goal.returns-then-one-two-3-clause-decision
unfolding counts_differ? first_refusal pair_decision
returns-then-one-two-3-clause-decision c =
    rw (
      c.refused-then-one-two-3.ensures,
      eq-eqb _ _ c.if-one-two.false,
      eq-eqb _ _ c.if-one-two-2.false,
      none-lacking c.requires c.if-one-two.false (rw (c.front_names-left_names.ensures.names, c.front_names-right_names.ensures.names) at c.first_lacked.ensures) c.in_default.is,
      lt-ltb _ _ c.if-one-two-3.true,
    ) refl

pub returns-then-lengths-lt-MAX_TABLE-clause-decision : goal.returns-then-lengths-lt-MAX_TABLE-clause-decision
unfolding counts_differ? first_refusal pair_decision
returns-then-lengths-lt-MAX_TABLE-clause-decision c =
    rw (
      c.refused-then-lengths-lt-MAX_TABLE.ensures,
      eq-eqb _ _ c.if-one-two.false,
      eq-eqb _ _ c.if-one-two-2.false,
      none-lacking c.requires c.if-one-two.false (rw (c.front_names-left_names.ensures.names, c.front_names-right_names.ensures.names) at c.first_lacked.ensures) c.in_default.is,
      le-ltb _ _ c.if-one-two-3.false,
      lt-ltb _ _ c.if-lengths-lt-MAX_TABLE.true,
    ) refl

pub returns-then-is_short-clause-decision : goal.returns-then-is_short-clause-decision
unfolding counts_differ? first_refusal pair_decision
returns-then-is_short-clause-decision c =
    rw (
      c.refused-then-is_short.ensures,
      eq-eqb _ _ c.if-one-two.false,
      eq-eqb _ _ c.if-one-two-2.false,
      none-lacking c.requires c.if-one-two.false (rw (c.front_names-left_names.ensures.names, c.front_names-right_names.ensures.names) at c.first_lacked.ensures) c.in_default.is,
      le-ltb _ _ c.if-one-two-3.false,
      le-ltb _ _ c.if-lengths-lt-MAX_TABLE.false,
      sym c.is_short.ensures ∙ c.if-is_short.true,
    ) refl

pub returns-clause-decision : goal.returns-clause-decision
unfolding counts_differ? first_refusal pair_decision
returns-clause-decision c =
    rw (
      eq-eqb _ _ c.if-one-two.false,
      eq-eqb _ _ c.if-one-two-2.false,
      none-lacking c.requires c.if-one-two.false (rw (c.front_names-left_names.ensures.names, c.front_names-right_names.ensures.names) at c.first_lacked.ensures) c.in_default.is,
      le-ltb _ _ c.if-one-two-3.false,
      le-ltb _ _ c.if-lengths-lt-MAX_TABLE.false,
      sym c.is_short.ensures ∙ c.if-is_short.false,
    ) refl
