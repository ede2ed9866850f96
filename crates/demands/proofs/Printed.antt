-- The report is true of the files. Its lines are those of a list of comparisons, demand 3 holds of the list, and none of them is refused.
use Prim.Native.Nat.{◌+◌, ◌<◌, ◌≤◌, suc, zero, ℕ}
use Rattle.compare_model.proofs.Since.{Since, since_compared}
use Rattle.compare_model.specs.Compare.{Given, compared, refusal_of, setting_bytes}
use Rattle.compare_model.specs.Said.{Said}
use Rattle.demands.proofs.Demand3.{demand3, loaded_files, since_first}
use Rattle.demands.proofs.FileLaws.{table-outputs}
use Rattle.demands.proofs.ReplyLaws.{reply-kept}
use Rattle.demands.specs.Claims.{ReplyKept}
use Rattle.demands.specs.Demand3.{Call, Each, Ran}
use Rattle.demands.specs.Example.{call_of}
use Rattle.demands.specs.Printed.{Numbered, PrintedRefused, PrintedTrue, TrueLine, call_line, call_lines, says-different, says-equal, says-undecided}
use Rattle.load_model.proofs.LoadLaws.{load-only}
use Rattle.load_model.proofs.PairedLaws.{loadable-paired}
use Rattle.load_model.proofs.TableLaws.{table-accepted, table-inputs}
use Rattle.load_model.specs.Load.{accepted, load_result, read_second, refused, table_after, table_loaded, table_of}
use Rattle.load_model.specs.Loadable.{Loadable}
use Rattle.netlist_model.specs.Netlist.{Netlist}
use Rattle.netlist_model.specs.Pairing.{paired}
use Rattle.reply_line.specs.Line.{line_for}
use Rattle.report_format.specs.Report.{head_line, refused_line, reply_line}
use Rattle.report_format.specs.declared.Word.TheVariants as word
use Rattle.report_model.proofs.ComparisonLaws.{after_next}
use Rattle.report_model.proofs.ReportLaws.{long-enough, report_loaded}
use Rattle.report_model.proofs.RoomLaws.{Roomy, never_refused, outputs-next, roomy_next}
use Rattle.report_model.specs.Report.{after, comparison_line, comparisons, first_of, lines_of, load_room, next, program_limits, reported}
use Rattle.sweep_model.specs.declared.Cause.TheVariants.{Rows, Size, Steps}
use Rattle.std.specs.Prelude.{None}
use Rattle.table.specs.Table.{inputs_of, outputs_of}
use lib.ListN.{length, length-map, take}
use lib.Seq.{take-append_seam, take_at}
use mathlib.Core.List.{List, [], ◌++◌, ◌∷◌}
use mathlib.Core.Path.{◌∙◌, ◌≡◌, ap, refl, subst, sym}
use native.Mathlib.Numerals.{add-one}
use native.Mathlib.Omega.{arith}

-- The comparisons of a report as calls.
abbrev calls_of : ℕ → Given → List Call
calls_of zero g = []
calls_of (suc n) g = call_of g ∷ calls_of n (next g)

length_calls : (n : ℕ) (g : Given) → length (calls_of n g) ≡ n
length_calls zero g = refl
length_calls (suc n) g = ap suc (length_calls n (next g))

-- Their lines are the report's.
lines-calls : (edition n : ℕ) (g : Given) → lines_of edition (comparisons n g) ≡ call_lines edition (calls_of n g)
unfolding lines_of comparisons call_lines comparison_line
lines-calls edition zero g = refl
lines-calls edition (suc n) g = ap (◌++◌ (call_line edition (call_of g))) (lines-calls edition n (next g))

-- Each is made on the table as the one before left it.
ran-calls : (n : ℕ) (g : Given) → Ran g.table (calls_of n g) (after n g).table
unfolding after next
ran-calls zero g = Ran.none
ran-calls (suc n) g =
    Ran.next {c = call_of g} refl refl (subst (λ (h : Given). Ran (compared g).table (calls_of n (next g)) h.table) (after_next n g) (ran-calls n (next g)))

-- They are on the outputs in rising number, with the same limits.
numbered-calls : (n : ℕ) (g : Given) (k : ℕ) → g.output ≡ k → g.limits ≡ program_limits → Numbered k (calls_of n g)
unfolding next
numbered-calls zero g k e l = Numbered.none
numbered-calls (suc n) g k e l = Numbered.next {c = call_of g} e l (numbered-calls n (next g) (suc k) (add-one g.output ∙ ap suc e) l)

module _ {d e : Netlist} (h : Loadable d e) (old : List ℕ) where
  -- The line of a comparison that is not refused is true of the files.
  line_true : (g : Given) → Since (table_of d (paired d e) old) g.table → refusal_of g ≡ 0 → TrueLine d e g.output (call_line d.edition (call_of g))
  unfolding setting_bytes
  line_true g s r = go (compared g).reply (reply-kept h old g s)
    where
      go : (x : Said) → ReplyKept d e (table_of d (paired d e) old) g (compared g) x
          → TrueLine d e g.output (line_for d.edition g.output x (take (inputs_of g.table) (compared g).setting))
      go (Said.refused n) k = absurd (k.1 (sym k.0 ∙ r))
      go (Said.equal rows steps added) k = says-equal rows steps k.1
      go (Said.different rows steps added) k =
          let x = k.1 in
          let digits : length (setting_bytes x.setting) ≡ inputs_of g.table =
          length-map x.setting _ ∙ x.digits ∙ sym (table-inputs d (paired d e) old) ∙ sym s.inputs in
          let front : setting_bytes x.setting ≡ take (inputs_of g.table) (compared g).setting =
          sym (rw x.written (take_at (setting_bytes x.setting) _ (inputs_of g.table) digits)) in
          subst (λ (bytes : List ℕ). TrueLine d e g.output (reply_line d.edition g.output word.Different bytes None rows steps)) front (says-different rows steps x)
      go (Said.size rows steps added) k = says-undecided Size rows steps added
      go (Said.rows v rows steps added) k = says-undecided (Rows v) rows steps added
      go (Said.steps v rows steps added) k = says-undecided (Steps v) rows steps added

  -- So is that of each of the program's.
  lines_true : (n : ℕ) (g : Given) → Roomy g → g.output + n ≤ outputs_of g.table → Since (table_of d (paired d e) old) g.table
      → Each (λ c. TrueLine d e c.given.output (call_line d.edition c)) (calls_of n g)
  unfolding next
  lines_true zero g r l s = Each.none
  lines_true (suc n) g r l s =
      let inside : g.output < outputs_of g.table = omega arith in
      Each.next {c = call_of g} (line_true g s (never_refused r inside))
      (lines_true n (next g) (roomy_next r inside) (omega (arith, outputs-next r inside)) (since_compared g s))

-- The report is true of the files.
pub printed_true : PrintedTrue
unfolding reported read_second table_after
printed_true left right lent edition tally d e long a l r =
    rw (report_loaded left right lent long (accepted d.edition tally) dated (table_of d (paired d e) lent.table) (rw l (rw r refl)))
    (record {
      calls = calls;
      bytes = take-append_seam bytes _ ∙ ap (◌++◌ head_line) (lines-calls d.edition n first);
      count = length_calls n first ∙ table-outputs d e h lent.table;
      numbered = numbered-calls n first 0 refl refl;
      ran = ran-calls n first;
      holds = demand3 left right (load_room lent) edition tally d e lent.table (after n first).table calls a l r (ran-calls n first);
      true_lines = lines_true h lent.table n first roomy (omega arith) (since_first h lent.table);
    })
  where
    h : Loadable d e
    h = loaded_files left right (load_room lent) edition tally d e a l r

    -- The edition of the load is that of the files.
    dated : load_result left right (load_room lent) ≡ accepted d.edition tally
    dated =
        let h = load-only left right (load_room lent) edition tally a in
        let f : h.first ≡ d = cc h.first_read in
        a ∙ ap (λ (x : ℕ). accepted x tally) (h.dated ∙ ap (λ (x : Netlist). x.edition) f)

    first : Given
    first = first_of lent (table_of d (paired d e) lent.table)

    n : ℕ
    n = outputs_of (table_of d (paired d e) lent.table)

    calls : List Call
    calls = calls_of n first

    bytes : List ℕ
    bytes = head_line ++ lines_of d.edition (comparisons n first)

    roomy : Roomy first
    roomy =
        let lengths = long-enough (length lent.out) lent.room (length lent.marks) (length lent.setting) long in
        record { table = table-accepted d (paired d e) (loadable-paired h) lent.table; limits = refl; room = lengths.room; setting = lengths.setting }

-- That of a refused load is its line.
pub printed-refused : PrintedRefused
unfolding reported
printed-refused left right lent number file line long a =
    rw (report_loaded left right lent long (refused number file line) a (table_loaded (refused number file line) left right lent.table) refl)
    (take-append_seam (refused_line number file line) _)
