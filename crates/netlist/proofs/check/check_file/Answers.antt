-- Each line that is passed keeps what is known, and the first that is refused gives the answer.
use Rattle.netlist_model.proofs.PassingLaws.{Ahead, ahead_begins, ahead-ends, ahead-next, ahead_refuses, ahead-start}
use Rattle.netlist_model.specs.Check.{Answer, refused}
use Rattle.netlist_model.specs.code.Passing.{line_due, numbered}
use Rattle.netlist_model.specs.declared.Due.{Due}
use Rattle.netlist_model.specs.declared.Rejected.{Rejected}
use Rattle.refusal.specs.Number.{number_of}
use Rattle.refusal.specs.declared.Refusal.{Refusal}
use Rattle.std.proofs.Common.{◌∙◌, ◌≡◌, Err, MatchResult, Ok, Result, refl, rules, sym, ℕ}
use Rattle.std.proofs.lemmas.Result.{err_from_is_err_and}
use Rattle.netlist.proofs.check.check_file.Goals as goal

pub loop-at-init : goal.loop-at-init
unfolding line_due
loop-at-init c = (
  rw (c.into_iter-at-iterator.ensures.into_iter_gives, c.line_starts-at-items.ensures.at) (ahead_begins _ _),
  rw c.into_iter-at-iterator.ensures.into_iter_gives c.line_starts-at-items.ensures.file,
)

-- What went through `map_err`: the same `Ok`, or the refusal at the line that is due.
ok-told :
    (s : Result Due Refusal) {due : Due} (Q : Refusal → Type 0) → MatchResult s (λ x. ◌≡◌ {A = Result Due Rejected} (Ok due) (Ok x)) Q
    → ((e : Refusal) → Q e → ⊥) → numbered s ≡ Ok due
ok-told (Ok x) Q e never = cc e
ok-told (Err e) Q h never = absurd (never e h)

err-told :
    (s : Result Due Refusal) {r : Rejected} {n : ℕ} {answer : Answer} (Q : Refusal → Type 0)
    → MatchResult s (λ x. ◌≡◌ {A = Result Due Rejected} (Err r) (Ok x)) Q → ((e : Refusal) → Q e → r ≡ record { refusal = e; line = n })
    → ((k : ℕ) → numbered s ≡ Err k → refused k n ≡ answer) → refused (number_of r.refusal) r.line ≡ answer
err-told (Ok x) Q e told next = cc e
err-told (Err e) Q h told next = rw (told e h) (next (number_of e) refl)

pub returns-in_err-due-clause-answer : goal.returns-in_err-due-clause-answer
returns-in_err-due-clause-answer c =
    let s = c.in-Some.ensures.steps in
    let a : Ahead c.args.role c.args.file.now c.in-Some.at (line_due c.loop-at.due) c.loop-at.due = rw s.1.0 c.loop-at.invariant.0 in
    let p = err_from_is_err_and c.from_residual.result c.from_residual.ensures.1 in
    rw (p.1, p.2)
    (err-told c.step.result _ c.in_err-due.ensures.cases (λ e h. search rules)
    (λ k e. ahead_refuses a (rw c.loop-at.invariant.1 at s.1.1) k (sym c.step.ensures ∙ e)))

pub loop-at-preserved : goal.loop-at-preserved
loop-at-preserved c =
    let s = c.in-Some.ensures.steps in
    let a : Ahead c.args.role c.args.file.now c.in-Some.at (line_due c.loop-at.due) c.loop-at.due = rw s.1.0 c.loop-at.invariant.0 in
    let n = ahead-next a (rw c.loop-at.invariant.1 at s.1.1) _ (sym c.step.ensures ∙ ok-told c.step.result _ c.in_ok-due.ensures.cases (λ e h. h)) in
    (rw (rw c.loop-at.invariant.1 at s.1.2, ← n.number) n, s.0 ∙ c.loop-at.invariant.1)

pub ended-requires-clause-start_inside : goal.ended-requires-clause-start_inside
ended-requires-clause-start_inside c = ahead-start c.loop-at.invariant.0

pub returns-clause-answer : goal.returns-clause-answer
returns-clause-answer c = c.ended.ensures.answer ∙ ahead-ends c.loop-at.invariant.0 (rw c.loop-at.invariant.1 at c.in-None.ensures.steps.1)
