-- Each reply of a comparison that is not refused keeps what the rules say of it: a law for each verdict of the sweep, and one for the marks.
use Prim.Native.Nat.{ℕ}
use Rattle.compare_model.proofs.RefusalLaws.{compared-answered}
use Rattle.compare_model.proofs.ReplyLaws.{different_replied, equal_replied, marks_replied, rows_replied, size_replied, spent_replied}
use Rattle.compare_model.proofs.Since.{Since}
use Rattle.compare_model.specs.Claims.{Differs, MarksKept, ReplySays, problem_by}
use Rattle.compare_model.specs.Compare.{Given, Left, answer_to, answered, compared, refusal_of, said_by, setting_left}
use Rattle.compare_model.specs.Said.{Named, Said}
use Rattle.sweep_model.specs.Claims.{Names}
use Rattle.sweep_model.specs.Sweep.{Verdict, different, equal, undecided}
use Rattle.sweep_model.specs.declared.Cause.TheVariants.{Rows, Size, Steps}
use Rattle.truth.specs.Truth.{Setting}
use mathlib.Core.List.{List}
use mathlib.Core.Path.{◌≡◌, refl, subst, sym}

module _ (g : Given) (h : refusal_of g ≡ 0) {loaded : List ℕ} (s : Since loaded g.table) where
  -- What the comparison leaves.
  abbrev left : Left
  left = answered g (answer_to g)

  -- What is said at a verdict.
  abbrev said_at : Verdict → Said
  said_at x = (answered g (record { verdict = x; added = (answer_to g).added; left = (answer_to g).left })).reply

  -- Equal is said only where the two sides agree on every setting.
  equal-says : (answer_to g).verdict ≡ equal → ReplySays loaded g left (said_at equal)
  unfolding answered said_by
  equal-says k = (equal_replied g h s k, record { rows-kept = rows_replied g h s; settled = spent_replied g h s equal k })

  -- Different is said only with the first setting on which the two sides disagree, written to the front of the setting slice.
  different-says : (t : Setting) → (answer_to g).verdict ≡ different t → ReplySays loaded g left (said_at (different t))
  unfolding answered said_by setting_left
  different-says t k = (
    subst (λ (x : Verdict). Differs loaded g.output g.setting (setting_left x g.setting)) (sym k) (different_replied g h s t k),
    record { rows-kept = rows_replied g h s; settled = spent_replied g h s (different t) k },
  )

  -- Size is said only where some AND is marked 2 and the sweep is at rest.
  size-says : (answer_to g).verdict ≡ undecided Size → ReplySays loaded g left (said_at (undecided Size))
  unfolding answered said_by
  size-says k = (size_replied g h s k, record { rows-kept = rows_replied g h s; settled = spent_replied g h s (undecided Size) k })

  -- A mark 3 stands at the vertex that is named, and the other marks mean what they say.
  marks_say : (x : Verdict) → (answer_to g).verdict ≡ x → MarksKept (problem_by loaded g) left.marks (said_at x)
  unfolding answered said_by
  marks_say x k = marks_replied g h s (said_at x) (λ v. rw k (named-verdict x v, verdict-named))
    where
      verdict-named : {x : Verdict} {v : ℕ} → Names x v → Named (said_at x) v
      verdict-named Names.by_rows = Named.by_rows
      verdict-named Names.by-steps = Named.by-steps

      named-verdict : (x : Verdict) (v : ℕ) → Named (said_at x) v → Names x v
      named-verdict equal v n = elim n [ ]
      named-verdict (different t) v n = elim n [ ]
      named-verdict (undecided Size) v n = elim n [ ]
      named-verdict (undecided (Rows u)) v Named.by_rows = Names.by_rows
      named-verdict (undecided (Steps u)) v Named.by-steps = Names.by-steps

  -- Rows is said only where the functions marked 1 or 3 have more parts than the row limit, and with what the product that broke off used.
  rows-says : (v : ℕ) → (answer_to g).verdict ≡ undecided (Rows v) → ReplySays loaded g left (said_at (undecided (Rows v)))
  unfolding answered said_by
  rows-says v k = (spent_replied g h s (undecided (Rows v)) k, rows_replied g h s)

  -- Steps is said only where the steps are the limit and with the vertex marked 3 there are more, and with what its product used.
  steps-says : (v : ℕ) → (answer_to g).verdict ≡ undecided (Steps v) → ReplySays loaded g left (said_at (undecided (Steps v)))
  unfolding answered said_by
  steps-says v k = (spent_replied g h s (undecided (Steps v)) k, rows_replied g h s)

  -- Whatever the verdict, what is said of it holds.
  verdict-says : (x : Verdict) → (answer_to g).verdict ≡ x → ReplySays loaded g left (said_at x)
  verdict-says equal k = equal-says k
  verdict-says (different t) k = different-says t k
  verdict-says (undecided Size) k = size-says k
  verdict-says (undecided (Rows v)) k = rows-says v k
  verdict-says (undecided (Steps v)) k = steps-says v k

  -- Each reply keeps what the rules say of it,
  pub reply-says : ReplySays loaded g (compared g) (compared g).reply
  reply-says = rw (compared-answered g h) (verdict-says (answer_to g).verdict refl)

  -- and so do its marks.
  pub marks-kept : MarksKept (problem_by loaded g) (compared g).marks (compared g).reply
  marks-kept = rw (compared-answered g h) (marks_say (answer_to g).verdict refl)
