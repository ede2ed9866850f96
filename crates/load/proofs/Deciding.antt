-- What the decision says of load's result: the same refusal, or that all the tests are passed.
use Prim.Native.Nat.{◌*◌, ◌+◌, ◌≤◌, ℕ}
use Rattle.load_decision.proofs.Checking.{checked-reads, checked-unread, editions_same, left-reads, right-reads}
use Rattle.load_decision.specs.code.Decision.{Checked, Checks, Decision, checked_file, decision, go, pair_decision, read_decision, rejected, second_decision, stopped, summed}
use Rattle.load_model.specs.Load.{LoadRoom, accepted, counts_differ?, load_result, max_table, max_vertices, pair_tests, read_first, read_result, read_second, refused, short_slice?, table_after, table_loaded, table_of, tally_of}
use Rattle.load_model.specs.declared.Tally.{Tally}
use Rattle.load_model.specs.Loadable.{Enough}
use Rattle.load_pair.specs.code.Pair.{Agreed, second_of}
use Rattle.netlist_model.proofs.NameLaws.{none-lacked}
use Rattle.netlist_model.proofs.ReadLaws.{holds-edition, holds-front}
use Rattle.netlist_model.proofs.StepLaws.{edition-kept}
use Rattle.netlist_model.specs.Netlist.{Netlist}
use Rattle.netlist_model.specs.Check.{Counts, Read, read_netlist, summary_counts}
use Rattle.netlist_model.specs.Limits.{max_bytes, number_of_edition}
use Rattle.netlist_model.specs.Names.{first_lacked}
use Rattle.netlist_model.specs.code.Accepted.{HoldsNetlist, counts_in, netlist_of}
use Rattle.netlist_model.specs.code.Passing.{front_names}
use Rattle.netlist_model.specs.declared.Role.TheVariants.{First, Second}
use Rattle.netlist_model.specs.declared.Summary.{Summary}
use Rattle.table.specs.Limits.{max_ands}
use Rattle.table.specs.Refusals.{first_refusal}
use Rattle.truth.proofs.Booleans.{cond_cases, neither}
use borrow.Author.Tests.{eqb-true, ltb-false, not-false}
use lib.Dec.{eqb, ltb}
use lib.ListN.{length}
use mathlib.Core.Bool.{◌||◌, false, not}
use mathlib.Core.List.{List}
use mathlib.Core.Path.{◌∙◌, ◌≡◌, ap, ap₂, refl, subst, sym}
use native.Mathlib.Omega.{arith}

-- The counts of a summary are those of the netlist that the file holds.
counts-held : {bytes : List ℕ} {s : Summary} {d : Netlist} → HoldsNetlist bytes s d → summary_counts s ≡ counts_in d
counts-held {d = d} h = ap summary_counts h.counts ∙ ap (λ (k : ℕ). record (counts_in d) { edition = k }) (edition-kept h.within.edition)

same : (m n : ℕ) → not (eqb m n) ≡ false → m ≡ n
same m n h = eqb-true m n (not-false (eqb m n) h)

module _ (left right : List ℕ) (room : LoadRoom) where
  -- Two files are loaded: their checks gave the summaries, they agree, the lent slices are long enough, and the result is the tally of their
  -- graph.
  pub record Goes (s t : Summary) : Type 0 where
    pub checks : Checks left right s t
    pub agreed : Agreed left right s t
    pub enough : Enough room
    pub result : load_result left right room ≡ accepted (number_of_edition s.edition) (tally_of (netlist_of left s) (second_of left right s t))

  abbrev pub Says : Decision → Type 0
  Says (stopped k f n) = load_result left right room ≡ refused k f n
  Says (go s t) = Goes s t

  not_short : max_table ≤ room.table → short_slice? room ≡ false → Enough room
  unfolding short_slice?
  not_short long h =
      let outputs = neither _ (ltb room.outputs (2 * max_vertices)) h in
      let literals = neither _ (ltb room.literals (2 * max_vertices)) outputs.0 in
      let look = neither (ltb room.pairs (2 * max_vertices)) (ltb room.look (2 * max_vertices)) literals.0 in
      record {
        table = long;
        pairs = ltb-false _ _ look.0;
        look = ltb-false _ _ look.1;
        literals = ltb-false _ _ literals.1;
        outputs = ltb-false _ _ outputs.1;
      }

  -- The second file is read by the edition of the first.
  second-read : (s : Summary) → checked_file First left ≡ summed s → {x : Read} → read_netlist (Second (number_of_edition s.edition)) right ≡ x
      → read_second (read_first left) right ≡ x
  unfolding read_second
  second-read s l e =
      let r = checked-reads First left s l in
      rw r.reads (ap (λ (n : ℕ). read_netlist (Second n) right) (sym (holds-edition r.holds)) ∙ e)

  -- Neither file is too long.
  module _ (short-left : ltb max_bytes (length left) ≡ false) (short-right : ltb max_bytes (length right) ≡ false) where
    result-read : load_result left right room ≡ read_result room (read_first left) (read_second (read_first left) right)
    unfolding load_result first_refusal
    result-read = rw (short-left, short-right) refl

    -- Both files are accepted.
    module _ (s t : Summary) (c : Checks left right s t) where
      result-pair :
          load_result left right room
          ≡ first_refusal (accepted (number_of_edition s.edition) (tally_of (netlist_of left s) (second_of left right s t)))
          (pair_tests refused (summary_counts s) (summary_counts t) (first_lacked (front_names s.names left) (front_names t.names right)) room)
      unfolding read_result
      result-pair =
          let l = left-reads c in
          let r = right-reads c in
          let tally = tally_of (netlist_of left s) (second_of left right s t) in
          let lacked : first_lacked (netlist_of left s).names (netlist_of right t).names ≡ first_lacked (front_names s.names left) (front_names t.names right) =
          sym (ap₂ first_lacked (holds-front l.holds) (holds-front r.holds)) in
          result-read
          ∙ ap₂ (read_result room) l.reads (second-read s c.left-checked r.reads)
          ∙ ap₂
          (λ (x y : Counts).
          first_refusal (accepted x.edition tally)
          (pair_tests refused x y (first_lacked (netlist_of left s).names (netlist_of right t).names) room))
          (sym (counts-held l.holds)) (sym (counts-held r.holds))
          ∙ ap (λ (n : ℕ). first_refusal (accepted (number_of_edition s.edition) tally) (pair_tests refused (summary_counts s) (summary_counts t) n room)) lacked

      pair-says : Says (pair_decision left right s t room)
      unfolding pair_decision first_refusal counts_differ?
      pair-says =
          cond_cases Says (not (eqb s.inputs t.inputs) || not (eqb s.outputs t.outputs)) (λ h. result-pair ∙ rw h refl) λ one.
          cond_cases Says (ltb (first_lacked (front_names s.names left) (front_names t.names right)) t.names) (λ h. result-pair ∙ rw (one, h) refl) λ two.
          cond_cases Says (ltb max_ands (s.ands + t.ands)) (λ h. result-pair ∙ rw (one, two, h) refl) λ three.
          cond_cases Says (ltb room.table max_table) (λ h. result-pair ∙ rw (one, two, three, h) refl) λ four.
          cond_cases Says (short_slice? room) (λ h. result-pair ∙ rw (one, two, three, four, h) refl) λ five.
          record {
            checks = c;
            agreed =
                record {
                  left = (left-reads c).holds;
                  right = (right-reads c).holds;
                  edition = sym (editions_same c);
                  inputs = same s.inputs t.inputs (neither _ (not (eqb s.outputs t.outputs)) one).0;
                  names =
                      none-lacked (netlist_of left s).names (netlist_of right t).names
                      (omega (
                        arith,
                        ltb-false (first_lacked (front_names s.names left) (front_names t.names right)) t.names two,
                        ap₂ first_lacked (holds-front (left-reads c).holds) (holds-front (right-reads c).holds),
                        ap (λ (x : Summary). x.names) (right-reads c).holds.counts,
                      ));
                  outputs = same s.outputs t.outputs (neither (not (eqb s.inputs t.inputs)) _ one).1;
                  ands = ltb-false _ _ three;
                };
            enough = not_short (ltb-false _ _ four) five;
            result = result-pair ∙ rw (one, two, three, four, five) refl;
          }

    -- The first file is accepted.
    second-says : (s : Summary) → checked_file First left ≡ summed s → (x : Checked) → checked_file (Second (number_of_edition s.edition)) right ≡ x
        → Says (second_decision left right s x room)
    unfolding second_decision read_result
    second-says s l (summed t) r = pair-says s t (record { left-checked = l; right-checked = r })
    second-says s l (rejected k n) r =
        result-read
        ∙ ap₂ (read_result room) (checked-reads First left s l).reads (second-read s l (checked-unread (Second (number_of_edition s.edition)) right k n r))

    -- By what its check gave.
    first_says : (x : Checked) → checked_file First left ≡ x → Says (read_decision left right x room)
    unfolding read_decision read_result
    first_says (summed s) l = second-says s l (checked_file (Second (number_of_edition s.edition)) right) refl
    first_says (rejected k n) l =
        result-read ∙ ap (λ (x : Read). read_result room x (read_second (read_first left) right)) (checked-unread First left k n l)

  pub decision-says : Says (decision left right room)
  unfolding decision first_refusal load_result
  decision-says =
      cond_cases Says (ltb max_bytes (length left)) (λ h. rw h refl) λ one.
      cond_cases Says (ltb max_bytes (length right)) (λ h. rw (one, h) refl) λ two.
      first_says one two (checked_file First left) refl

  module _ {x : Decision} (e : x ≡ decision left right room) where
    -- A refusal that is decided is the result.
    pub refusal_result : {k f n : ℕ} → x ≡ stopped k f n → load_result left right room ≡ refused k f n
    refusal_result h = subst Says (sym e ∙ h) decision-says

    -- Files that are loaded pass all tests.
    pub goes_on : {s t : Summary} → x ≡ go s t → Goes s t
    goes_on h = subst Says (sym e ∙ h) decision-says

  -- The table after it.
  pub goes-table :
      {s t : Summary} → Goes s t → (x : ℕ) (tally : Tally) (old : List ℕ)
      → table_loaded (accepted x tally) left right old ≡ table_of (netlist_of left s) (second_of left right s t) old
  unfolding table_after
  goes-table {s} {t} g x tally old =
      ap₂ (λ (d e : Read). table_after (accepted x tally) d e old) (left-reads g.checks).reads
      (second-read s g.checks.left-checked (right-reads g.checks).reads)
