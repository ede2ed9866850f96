-- The lines of the comparisons made so far, from turn to turn.
use Prim.Native.Nat.{◌*◌, ◌+◌, ◌<◌, ◌≤◌, suc, ℕ}
use Rattle.compare_model.specs.Compare.{Given}
use Rattle.compare_model.specs.Lent.{SameSlices}
use Rattle.compare_model.specs.declared.Lent.{Lent}
use Rattle.report_format.proofs.StoredLaws.{room_next, stored_next, stored-none}
use Rattle.report_format.specs.Report.{StoredWithin}
use Rattle.report_model.proofs.ComparisonLaws.{lines_more, since_after}
use Rattle.report_model.specs.Report.{after, comparison_line, comparisons, lines_of, next, reply_room}
use Rattle.report_output.specs.code.Slices.{Ready}
use Rattle.table.specs.Accepted.{Accepted}
use Rattle.text.proofs.DecimalLaws.{stored_length}
use lib.ListN.{length}
use mathlib.Core.List.{List, ◌++◌}
use mathlib.Core.Path.{◌∙◌, ◌≡◌, ap, refl, subst, sym}
use native.Mathlib.Numerals.{add-one}
use native.Mathlib.Omega.{arith}

-- The slices of two comparisons are as long.
pub record SameLengths (first here : Given) : Type 0 where
  pub room : here.room ≡ first.room
  pub table : length here.table ≡ length first.table
  pub marks : length here.marks ≡ length first.marks
  pub setting : length here.setting ≡ length first.setting

-- Before the comparison `here`: it is that many after the first, and the lines of those before it are stored.
pub record Printing (edition : ℕ) (first here : Given) (old : List ℕ) (start : ℕ) (out : List ℕ) (at : ℕ) : Type 0 where
  pub place : here ≡ after here.output first
  pub same : SameLengths first here
  pub lines : StoredWithin old start (here.output * reply_room) (lines_of edition (comparisons here.output first)) out at

-- No line is stored before the first.
pub printing_none : (edition : ℕ) (first : Given) (out : List ℕ) (start : ℕ) → first.output ≡ 0 → Printing edition first first out start out start
unfolding after lines_of comparisons
printing_none edition first out start z =
    record {
      place = rw z refl;
      same = record { room = refl; table = refl; marks = refl; setting = refl };
      lines = rw z (subst (StoredWithin out start 0 _ out) (omega arith) (record { stored = stored-none out start; short = omega arith }));
    }

-- The slice keeps its length.
pub printing_length : {edition : ℕ} {first here : Given} {old : List ℕ} {start : ℕ} {out : List ℕ} {at : ℕ} → Printing edition first here old start out at → (outputs : ℕ)
    → here.output ≤ outputs → start + outputs * reply_room ≤ length old → length out ≡ length old
printing_length p outputs within room = stored_length (omega (arith, p.lines.short)) p.lines.stored

module _ {edition : ℕ} {first here : Given} {old : List ℕ} {start : ℕ} {out : List ℕ} {at : ℕ} (p : Printing edition first here old start out at) (outputs : ℕ) (more : here.output < outputs)
    (room : start + outputs * reply_room ≤ length old) where
  enough : start + (here.output * reply_room + reply_room) ≤ length old
  enough = omega arith

  -- There is room for one line more,
  pub line_room : at + reply_room ≤ length out
  line_room = room_next reply_room enough p.lines

  -- and what the comparison needs is there.
  pub here-ready : Ready first.table (length first.setting) → Ready here.table (length here.setting)
  here-ready r =
      record {
        accepted = subst (λ (g : Given). Accepted g.table) (sym p.place) (since_after here.output first r.accepted).accepted;
        room = rw p.same.setting r.room;
      }

  -- Its line is stored with those before it.
  pub printing_more : {then : Given} {new : List ℕ} {end : ℕ} → then ≡ next here → SameLengths first then → StoredWithin out at reply_room (comparison_line edition here) new end
      → Printing edition first then old start new end
  unfolding next after
  printing_more {then} {new} {end} e same h =
      let count : then.output ≡ here.output + 1 = ap (λ (g : Given). g.output) e in
      let lines : lines_of edition (comparisons (suc here.output) first) ≡ lines_of edition (comparisons here.output first) ++ comparison_line edition here =
      lines_more edition here.output first ∙ ap (λ (g : Given). lines_of edition (comparisons here.output first) ++ comparison_line edition g) (sym p.place) in
      let wide : here.output * reply_room + reply_room ≡ (here.output + 1) * reply_room = omega arith in
      record {
        place = e ∙ ap next p.place ∙ rw (count, add-one here.output) refl;
        same = same;
        lines = rw (count, ← wide, add-one here.output, lines) (stored_next reply_room enough p.lines (λ k. h));
      }

-- After the last one all lines are stored, and the slices hold what it left.
pub printing_end : {edition : ℕ} {first here : Given} {old : List ℕ} {start : ℕ} {out : List ℕ} {at : ℕ} → Printing edition first here old start out at → (outputs : ℕ)
    → here.output ≡ outputs
    → StoredWithin old start (outputs * reply_room) (lines_of edition (comparisons outputs first)) out at
    × ◌≡◌ {A = Given} (record { table = here.table; output = outputs; limits = here.limits; room = here.room; marks = here.marks; setting = here.setting })
    (after outputs first)
printing_end {edition} {first} {here} {old} {start} {out} {at} p outputs e = (
  subst (λ (n : ℕ). StoredWithin old start (n * reply_room) (lines_of edition (comparisons n first)) out at) e p.lines,
  subst
      (λ (n : ℕ).
      ◌≡◌ {A = Given} (record { table = here.table; output = n; limits = here.limits; room = here.room; marks = here.marks; setting = here.setting })
      (after n first))
      e p.place,
)

-- Slices that are the same ones twice are the same ones.
pub same_then : {a b c : Lent} → SameSlices a b → SameSlices b c → SameSlices a c
same_then p q =
    record {
      pairs = q.pairs ∙ p.pairs;
      look = q.look ∙ p.look;
      diagrams = q.diagrams ∙ p.diagrams;
      stages = q.stages ∙ p.stages;
      rows = q.rows ∙ p.rows;
      marks = q.marks ∙ p.marks;
      setting = q.setting ∙ p.setting;
      lengths = q.lengths ∙ p.lengths;
    }
