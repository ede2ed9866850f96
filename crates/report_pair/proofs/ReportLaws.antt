-- What the call gives back and leaves is the report.
use Prim.Native.Nat.{◌+◌, ◌≤◌, ℕ}
use Rattle.compare_model.specs.Compare.{CompareRoom, Given, over_front}
use Rattle.comparer.specs.Lent.{Slices, Unchanged}
use Rattle.load_model.specs.Lent.{Kept, Working, working}
use Rattle.load_model.specs.Load.{Answer, LoadRoom, accepted, load_result, refused, table_loaded}
use Rattle.load_model.specs.declared.Tally.{Tally}
use Rattle.report_format.specs.Report.{LINE_ROOM, Printed, StoredWithin, head_line, line_length, line_put, refused_line}
use Rattle.report_model.proofs.ReportLaws.{loaded-accepted, report_loaded}
use Rattle.report_model.specs.Report.{Lent, after, comparisons, first_of, lines_of, load_room, report_of, report_room, reported, short?}
use Rattle.report_pair.specs.Lent.{Front, report_left}
use Rattle.report_output.specs.code.Slices.{Ready}
use Rattle.table.specs.Limits.{max_inputs}
use Rattle.table.specs.Table.{outputs_of}
use Rattle.text.specs.Decimal.{Stored, written}
use borrow.Author.Tests.{le-ltb}
use lib.ListN.{length}
use lib.Seq.{length-take-le}
use mathlib.Core.Bool.{false}
use mathlib.Core.List.{List, ◌++◌}
use mathlib.Core.Path.{◌∙◌, ◌≡◌, ap, ap₂, refl, sym}
use native.Mathlib.Omega.{arith}

-- Working slices of the same lengths.
pub same-room : {p p' l l' d d' s s' r r' : ℕ} → p' ≡ p → l' ≡ l → d' ≡ d → s' ≡ s → r' ≡ r
    → ◌≡◌ {A = CompareRoom} (record { pairs = p'; look = l'; diagrams = d'; stages = s'; rows = r' }) (record { pairs = p; look = l; diagrams = d; stages = s; rows = r })
same-room a b c d e = rw (a, b, c, d, e) refl

-- What is stored at the front of a slice is within it.
pub front-stored : {old bytes new : List ℕ} {count : ℕ} → report_room ≤ length old → length new ≡ length old → StoredWithin old 0 report_room bytes new count → Front count new
front-stored {new = new} {count = count} room same p =
    let within : count ≤ length new = omega (arith, p.stored.place, p.short) in
    record { within = within; front = sym (length-take-le count new within) }

-- The table of an accepted load, and a setting slice that is long enough.
pub table-ready : (left right : List ℕ) (room : LoadRoom) (loaded : Answer) (edition : ℕ) (tally : Tally) → loaded ≡ load_result left right room → loaded ≡ accepted edition tally
    → (table old : List ℕ) → table ≡ table_loaded loaded left right old → {setting : ℕ} → max_inputs ≤ setting → Ready table setting
table-ready left right room loaded edition tally e f table old t long =
    record { accepted = rw (t, e) (loaded-accepted left right room edition tally old (sym e ∙ f)); room = long }

module _ (left right : List ℕ) (lent : Lent) (long : short? lent ≡ false) (loaded : Answer) (e : loaded ≡ load_result left right (load_room lent)) (table : List ℕ)
    (t : table ≡ table_loaded loaded left right lent.table) where
  -- The line of a refused load.
  pub refused_report : (number file line : ℕ) → loaded ≡ refused number file line → LINE_ROOM ≤ length lent.out → (out : List ℕ) (count : ℕ)
      → Printed LINE_ROOM (refused_line number file line) lent.out out count
      → report_left count out table lent.marks lent.setting ≡ report_of left right lent
  unfolding reported after line_put line_length
  refused_report number file line f room out count p =
      let test = le-ltb (length lent.out) LINE_ROOM room in
      let list : out ≡ over_front (refused_line number file line) lent.out = rw test at p.list in
      let size : count ≡ length (refused_line number file line) = rw test at p.count in
      ap₂ (λ (n : ℕ) (bytes : List ℕ). report_left n bytes table lent.marks lent.setting) size list
      ∙ sym (report_loaded left right lent long (refused number file line) (sym e ∙ f) table (rw f at t))

  -- The head line and the lines of an accepted load.
  pub accepted_report : (edition : ℕ) (tally : Tally) → loaded ≡ accepted edition tally → (first last : Given) (out : List ℕ) (count : ℕ) → first ≡ first_of lent table
      → Stored lent.out 0 (head_line ++ lines_of edition (comparisons (outputs_of table) first)) out count → last ≡ after (outputs_of table) first
      → report_left count out last.table last.marks last.setting ≡ report_of left right lent
  unfolding reported written
  accepted_report edition tally f first last out count g p l =
      let bytes : List ℕ = head_line ++ lines_of edition (comparisons (outputs_of table) (first_of lent table)) in
      let same : head_line ++ lines_of edition (comparisons (outputs_of table) first) ≡ bytes = rw g refl in
      let z : 0 + length bytes ≡ length bytes = omega arith in
      let size : count ≡ length bytes = p.place ∙ rw same z in
      let list : out ≡ over_front bytes lent.out = rw (same, z) at p.list in
      ap₂ (λ (n : ℕ) (new : List ℕ). report_left n new last.table last.marks last.setting) size list
      ∙ ap (λ (g : Given). report_left (length bytes) (over_front bytes lent.out) g.table g.marks g.setting) (l ∙ ap (after (outputs_of table)) g)
      ∙ sym (report_loaded left right lent long (accepted edition tally) (sym e ∙ f) table (rw f at t))

-- The four slices that load works in.
abbrev load_working : Slices → Working
load_working s = record { pairs = s.pairs; look = s.look; literals = s.diagrams; outputs = s.stages }

-- Lists that equal the lists left are left so too.
pub kept-as : (loaded : Answer) (w : Working) {p p' l l' d d' s s' : List ℕ} → p' ≡ p → l' ≡ l → d' ≡ d → s' ≡ s → Kept loaded w (working p l d s)
    → Kept loaded w (working p' l' d' s')
kept-as loaded w e f g h k = rw (e, f, g, h) k

-- A refused load leaves the slices to work in.
pub refused_unchanged : (loaded : Answer) {number file line : ℕ} → loaded ≡ refused number file line → {before after : Slices}
    → Kept loaded (load_working before) (load_working after) → after.rows ≡ before.rows → Unchanged before after
refused_unchanged loaded e {before} {after} k rows =
    let same : load_working after ≡ load_working before = rw e at k in
    record {
      pairs = ap (λ (w : Working). w.pairs) same;
      look = ap (λ (w : Working). w.look) same;
      diagrams = ap (λ (w : Working). w.literals) same;
      stages = ap (λ (w : Working). w.outputs) same;
      rows = rows;
    }
