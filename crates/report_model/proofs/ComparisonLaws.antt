-- Comparisons one after the other: the lines of one more, and what holds of the table since the first.
use Prim.Native.Nat.{suc, zero, ℕ}
use Rattle.compare_model.proofs.Since.{Since, since_compared, since_loaded}
use Rattle.compare_model.specs.Compare.{Given}
use Rattle.report_model.specs.Report.{after, comparison_line, comparisons, lines_of, next}
use Rattle.table.specs.Accepted.{Accepted}
use mathlib.Core.List.{◌++◌, append_assoc, append-nil}
use mathlib.Core.Path.{◌∙◌, ◌≡◌, ap, refl, sym}

-- The comparison after the n-th is the n-th after the next.
pub after_next : (n : ℕ) (g : Given) → after n (next g) ≡ next (after n g)
unfolding after
after_next zero g = refl
after_next (suc n) g = ap next (after_next n g)

-- The lines of one comparison more are those before and its own.
pub lines_more : (edition n : ℕ) (g : Given)
    → lines_of edition (comparisons (suc n) g) ≡ lines_of edition (comparisons n g) ++ comparison_line edition (after n g)
unfolding lines_of comparisons after
lines_more edition zero g = append-nil (comparison_line edition g)
lines_more edition (suc n) g =
    ap (◌++◌ (comparison_line edition g))
    (lines_more edition n (next g) ∙ ap (λ (h : Given). lines_of edition (comparisons n (next g)) ++ comparison_line edition h) (after_next n g))
    ∙ sym (append_assoc (comparison_line edition g) (lines_of edition (comparisons n (next g))) (comparison_line edition (next (after n g))))

-- What holds of a table since it was loaded holds after every comparison.
pub since_after : (n : ℕ) (g : Given) → Accepted g.table → Since g.table (after n g).table
unfolding after next
since_after zero g h = since_loaded h
since_after (suc n) g h = since_compared (after n g) (since_after n g h)
