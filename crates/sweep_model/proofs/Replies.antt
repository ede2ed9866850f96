-- Rows, steps and marks after every reply.
use Prim.Native.Nat.{◌+◌, ◌<◌, ◌≤◌, ℕ}
use Rattle.product_model.proofs.Cases.{add_short, impossible}
use Rattle.product_model.proofs.Ran.{Grown, ShortOfRows, ShortOfSteps, is-short_of_rows, is-short_of_steps}
use Rattle.product_model.proofs.Store.{grown_length, rows-together}
use Rattle.product_model.specs.code.Books.{HoldsParts, Proper, Stored}
use Rattle.product_model.specs.Run.{Book, Outcome, short_of_rows, short_of_steps}
use Rattle.sweep_model.proofs.Accounts.{fits_now, holds_now}
use Rattle.sweep_model.proofs.Choices.{pick_waits}
use Rattle.sweep_model.proofs.Induction.{Keeps}
use Rattle.sweep_model.proofs.Inputs.{input-row-ran}
use Rattle.sweep_model.proofs.Kept.{operands-kept, pair_runs}
use Rattle.sweep_model.proofs.Marked.{and_at, ands-put, ands-stay, marked-among, marked-none, marked-put, marked-same, sum_inserted, together_inserted}
use Rattle.sweep_model.proofs.Products.{due-unmerged, product-ran}
use Rattle.sweep_model.proofs.Reachable.{begin-reachable, dropped-reachable, due-entry, due-inputs, due_nonzero, due-unmarked, input-reachable, merged-reachable, opened-reachable, product-reachable}
use Rattle.sweep_model.proofs.Stages.{bare-lacks}
use Rattle.sweep_model.proofs.Steady.{due-within, input_row}
use Rattle.sweep_model.proofs.Tidy.{first-unmerged}
use Rattle.sweep_model.specs.Claims.{AfterRows, AfterSteps, And, BrokeOff, Names, Settled, and_steps, ands_of, at_and, at-input, by_rows, by-steps, is, is_either, marked, rows_marked_with_last, steps_marked, steps_marked_with_last, sum}
use Rattle.sweep_model.specs.Fit.{Fit, vertex_count}
use Rattle.sweep_model.specs.Normalise.{was_merged?}
use Rattle.sweep_model.specs.code.Reachable.{Accounted, AllStored, Apart, InputsMarked, MarkFits, Reachable, StageFits}
use Rattle.sweep_model.specs.State.{Problem, Stage, State, bare?, function_of, has?, stage_of, with_book, with_mark}
use Rattle.sweep_model.specs.code.Steady.{Due, Giving, Scanning, product_of}
use Rattle.sweep_model.specs.Sweep.{Verdict, added_to, different, equal, given_back, top_part, undecided}
use Rattle.sweep_model.specs.declared.Cause.TheVariants.{Rows, Size, Steps}
use Rattle.sweep_model.specs.declared.Cause.{Cause}
use Rattle.truth.proofs.Booleans.{clash}
use Rattle.truth.proofs.Parts.{alike_sameness}
use Rattle.truth.proofs.Together.{part_all}
use Rattle.truth.specs.Parts.{alike?, parts, together}
use Rattle.truth.specs.Truth.{Truth, constantly}
use borrow.Author.Tests.{ne_eqb}
use lib.Dec.{eqb}
use lib.ListN.{get_or-eq_default, drop, get_or, length, set}
use lib.Seq.{get_or-drop, get_or-set_other, get_or-set_same}
use mathlib.Core.Bool.{Bool, ◌||◌, cond, false, or-false, true}
use mathlib.Core.List.{List, ◌∷◌, map}
use mathlib.Core.Logic.{◌↔◌, ◌≢◌}
use mathlib.Core.Path.{◌∙◌, ◌≡◌, ap, refl, sym}
use native.Mathlib.Decide.{dec_lt, ℕ_discrete}
use native.Mathlib.Omega.{arith}

-- What a verdict says of rows, steps and rows added.
abbrev pub Spent : Problem → List ℕ → List ℕ → Verdict → ℕ → ℕ → ℕ → Type 0
Spent p operands marks equal rows steps added = Settled p operands marks steps added
Spent p operands marks (different s) rows steps added = Settled p operands marks steps added
Spent p operands marks (undecided Size) rows steps added = Settled p operands marks steps added
Spent p operands marks (undecided (Rows v)) rows steps added = AfterRows p operands marks v rows steps added
Spent p operands marks (undecided (Steps v)) rows steps added = AfterSteps p operands marks v rows steps added

-- What holds of a verdict, of the rows added and of the state that is left.
pub record Ended (p : Problem) (entry : List ℕ) (x : Verdict) (added : ℕ) (s : State) : Type 0 where
  pub proper : Proper p.limits.rows p.limits.steps s.book
  pub holds : HoldsParts s.book (marked (is 1) s.marks p.functions)
  pub spent : Spent p entry s.marks x (length s.book.store) s.book.steps added
  pub stored : AllStored p s.stages s.book.store
  pub apart : Apart p s.stages
  pub fits : (v : ℕ) → MarkFits p entry v (get_or s.marks v 0)
  pub three : (v : ℕ) → Names x v ↔ (get_or s.marks v 0 ≡ 3)
  pub inputs : (v : ℕ) → 1 ≤ v → v < p.first → (get_or s.marks v 0 ≡ 1) ↔ (has? (stage_of s.stages v) ≡ true)
  pub inputs-first : (v : ℕ) → p.first ≤ v → get_or s.marks v 0 ≢ 0 → InputsMarked p s.marks
  pub all-inputs : (c : Cause) → x ≡ undecided c → ((v : ℕ) → c ≡ Rows v → p.first ≤ v) → InputsMarked p s.marks

-- A verdict names one vertex at most.
pub names-one : {x : Verdict} {u v : ℕ} → Names x u → Names x v → u ≡ v
names-one by_rows by_rows = refl
names-one by-steps by-steps = refl

-- An input is marked 1 exactly where it has a diagram.
input-marked : {p : Problem} {v : ℕ} {x : Stage} {m : ℕ} → StageFits p v x m → 1 ≤ v → v < p.first → (m ≡ 1) ↔ (has? x ≡ true)
input-marked {x = x} {m = m} f l h = go (has? x) (f.input l h)
  where
    go : (b : Bool) → m ≡ cond b 1 0 → (m ≡ 1) ↔ (b ≡ true)
    go true e = (λ i. refl, λ i. e)
    go false e = (λ i. absurd (omega arith), λ i. clash i refl)

-- A vertex marked 1 has its rows.
pub marked-stored :
    (p : Problem) (marks : List ℕ) (book : Book) → length marks ≡ vertex_count p → HoldsParts book (marked (is 1) marks p.functions) → (v : ℕ)
    → get_or marks v 0 ≡ 1 → Stored (function_of p v) book.store
marked-stored p marks book long H v e t k =
    H.members t
    ∙ part_all t (function_of p v) (marked (is 1) marks p.functions)
    (marked-among (is 1) alike? alike_sameness marks p.functions v (constantly p.inputs false) (ap (is 1) e) inside (omega (arith, inside))) k
  where
    inside : v < length marks
    inside =
        elim (dec_lt v (length marks)) [
          | yes h ↦ h
          | no h ↦ (let l : length marks ≤ v = omega arith in absurd (omega (arith, get_or-eq_default marks 0 l)))
        ]

module _ {p : Problem} {entry marks : List ℕ} {book : Book} (a : Accounted p entry marks book) (long : length marks ≡ vertex_count p) (v : ℕ)
    (within : v < vertex_count p) (unmarked : get_or marks v 0 ≡ 0) where
  -- The rows with the vertex marked 3.
  last-rows : together (function_of p v ∷ marked (is 1) marks p.functions) ≡ rows_marked_with_last p (set marks v 3)
  last-rows =
      ap (λ (fs : List Truth). together (function_of p v ∷ fs))
      (sym (marked-same (is_either 1 3) (is 1) marks p.functions (λ u. rw (ne_eqb (get_or marks u 0) 3 (a.unnamed u)) (or-false (eqb (get_or marks u 0) 1)))))
      ∙ sym (together_inserted (marked-put (is_either 1 3) 3 refl marks p.functions v (constantly p.inputs false) (ap (is_either 1 3) unmarked) (omega arith) within))

  -- The steps with the vertex marked 3.
  last-steps : p.first ≤ v → steps_marked_with_last p entry (set marks v 3) ≡ book.steps + and_steps (and_at p entry v)
  last-steps made =
      omega (
        arith,
        a.steps,
        ap (λ (xs : List And). sum (map and_steps xs))
            (marked-same (λ m. is_either 1 2 m || is 3 m) (is_either 1 2) (drop p.first marks) (ands_of p entry)
            (λ i. rw (get_or-drop p.first marks i 0, ne_eqb (get_or marks (p.first + i) 0) 3 (a.unnamed (p.first + i)))
            (or-false (is_either 1 2 (get_or marks (p.first + i) 0))))),
        sum_inserted and_steps
            (ands-put p entry (λ m. is_either 1 2 m || is 3 m) marks long v 3 made (ap (λ m. is_either 1 2 m || is 3 m) unmarked) within refl),
      )

-- What is said where no product broke, of every verdict that names no vertex.
settled_spent : {p : Problem} {entry marks : List ℕ} {steps added : ℕ} (rows : ℕ) (x : Verdict) → ((v : ℕ) → Names x v → ⊥) → Settled p entry marks steps added
    → Spent p entry marks x rows steps added
settled_spent rows equal n k = k
settled_spent rows (different t) n k = k
settled_spent rows (undecided Size) n k = k
settled_spent rows (undecided (Rows v)) n k = absurd (n v by_rows)
settled_spent rows (undecided (Steps v)) n k = absurd (n v by-steps)

module _ {p : Problem} {entry : List ℕ} where
  -- A verdict that names no vertex.
  settled :
      (x : Verdict) (s : State) → Reachable p entry s → ((v : ℕ) → Names x v → ⊥)
      → ((c : Cause) → x ≡ undecided c → ((v : ℕ) → c ≡ Rows v → p.first ≤ v) → InputsMarked p s.marks)
      → Ended p entry x 0 s
  settled x s r nameless all =
      record {
        proper = r.accounted.proper;
        holds = r.accounted.holds;
        spent = settled_spent (length s.book.store) x nameless (record { summed = r.accounted.steps; none-added = refl });
        stored = r.stored;
        apart = r.apart;
        fits = r.accounted.fits;
        three = λ v. (λ n. absurd (nameless v n), λ e. absurd (r.accounted.unnamed v e));
        inputs = λ v l h. input-marked (r.fits v) l h;
        inputs-first = r.inputs-first;
        all-inputs = all;
      }

  -- Equal and Different.
  pub decided-ends : (x : Verdict) (s : State) → Reachable p entry s → ((c : Cause) → x ≡ undecided c → ⊥) → Ended p entry x 0 s
  decided-ends x s r decided =
      settled x s r (λ v n. unnamed n decided) (λ c e h. absurd (decided c e))
    where
      unnamed : {x : Verdict} {v : ℕ} → Names x v → ((c : Cause) → x ≡ undecided c → ⊥) → ⊥
      unnamed {v = v} by_rows d = d (Rows v) refl
      unnamed {v = v} by-steps d = d (Steps v) refl

  -- A verdict that names a vertex without a mark, which is marked 3.
  module _ (s : State) (r : Reachable p entry s) (v : ℕ) (within : v < vertex_count p) (nonzero : v ≢ 0) (is-bare : bare? (stage_of s.stages v) ≡ true)
      (unmerged : was_merged? p.first entry v ≡ false) where
    unmarked : get_or s.marks v 0 ≡ 0
    unmarked = (r.fits v).bare-unmarked is-bare

    named :
        (x : Verdict) (steps added : ℕ) → Names x v → (p.first ≤ v → InputsMarked p (set s.marks v 3)) → steps ≤ p.limits.steps
        → Spent p entry (set s.marks v 3) x (length s.book.store) steps added
        → ((c : Cause) → x ≡ undecided c → ((v : ℕ) → c ≡ Rows v → p.first ≤ v) → InputsMarked p (set s.marks v 3))
        → Ended p entry x added (with_mark v 3 (with_book (record { store = s.book.store; steps = steps }) s))
    named x steps added n made few spent all =
        record {
          proper = record { no_repeats = r.accounted.proper.no_repeats; rows = r.accounted.proper.rows; taken = few };
          holds = record { members = (holds_now r.accounted r.steady.marked v within unmarked 3 refl).members };
          spent = spent;
          stored = r.stored;
          apart = r.apart;
          fits =
              fits_now r.accounted r.steady.marked v within unmarked 3
              (record {
                known = omega arith;
                constant = λ e. absurd (nonzero e);
                made = λ e. absurd (omega arith);
                large = λ e. absurd (omega arith);
                small = λ e. absurd (omega arith);
                unmerged = λ e. unmerged;
              });
          three = λ u. (
            λ m. ap (λ (y : ℕ). get_or (set s.marks v 3) y 0) (names-one m n) ∙ get_or-set_same s.marks v 3 0 inside,
            λ e. elim (ℕ_discrete u v) [ yes i ↦ rw i n | no i ↦ absurd (r.accounted.unnamed u (sym (get_or-set_other s.marks v u 3 0 i) ∙ e)) ],
          );
          inputs = λ u l h.
              elim (ℕ_discrete u v) [
                | yes i ↦ rw (i, get_or-set_same s.marks v 3 0 inside)
                    (λ e. absurd (omega arith), λ e. clash e (bare-lacks (stage_of s.stages v) is-bare))
                | no i ↦ rw (get_or-set_other s.marks v u 3 0 i) (input-marked (r.fits u) l h)
              ];
          inputs-first = λ u l d.
              elim (dec_lt v p.first) [
                | yes h ↦ absurd
                    (omega
                    (arith, r.inputs-first u l (λ e. d (get_or-set_other s.marks v u 3 0 (λ i. omega arith) ∙ e)) v (omega (arith, nonzero)) h, unmarked))
                | no h ↦ made (omega arith)
              ];
          all-inputs = all;
        }
      where
        inside : v < length s.marks
        inside = omega (arith, r.steady.marked)

module _ {p : Problem} {entry : List ℕ} (fit : Fit p entry) where
  module _ {n k : ℕ} {s : State} (c : Scanning p n k s) (r : Reachable p entry s) where
    -- During a scan all inputs are marked 1.
    scanning-inputs : InputsMarked p s.marks
    scanning-inputs v l h = (input-marked (r.fits v) l h).1 (c.first_have v h)

  module _ {n v : ℕ} {s : State} (due : Due p entry n v s) (r : Reachable p entry s) where
    -- A product that broke off, its operands by the entry rows.
    broke-off :
        (short : Book → Outcome) {ps : List Truth} (b : Book) → product_of p v s ≡ short b → Grown p.limits.rows p.limits.steps ps s.book b
        → BrokeOff p entry (set s.marks v 3) short v (length s.book.store) b.steps (added_to s.book b)
    broke-off short b e G =
        record {
          made = due.made;
          before = s.book;
          after = b;
          parts-before = (holds_now r.accounted r.steady.marked v (due-within due) (due-unmarked fit due r) 3 refl).members;
          rows_before = refl;
          steps-before =
              r.accounted.steps
              ∙ ap (λ (xs : List And). sum (map and_steps xs))
              (sym (ands-stay p entry (is_either 1 2) s.marks r.steady.marked v 3 due.made (ap (is_either 1 2) (due-unmarked fit due r)) refl));
          ran = sym (pair_runs p.limits.rows p.limits.steps s.book (operands-kept fit due.steady v due.made (due-within due) (due-unmerged fit due))) ∙ e;
          rows_after = omega (arith, grown_length G);
          steps-after = refl;
        }

    -- A product short of rows.
    row_ends :
        (b : Book) → product_of p v s ≡ short_of_rows b
        → Ended p entry (undecided (Rows v)) (added_to s.book b) (with_mark v 3 (with_book (given_back s.book b) s))
    row_ends b e =
        named s r v (due-within due) (due_nonzero fit due r) due.is-bare (due-entry fit due r) (undecided (Rows v)) b.steps (added_to s.book b)
        by_rows (λ l. due-inputs fit due r 3) R.grown.proper.taken
        (record {
          over = rw (← (last-rows r.accounted r.steady.marked v (due-within due) (due-unmarked fit due r))) (rows-together (function_of p v) r.accounted.holds R);
          full = omega (arith, grown_length R.grown, R.full);
          broke = at_and (broke-off short_of_rows b e R.grown);
        })
        (λ c i h. due-inputs fit due r 3)
      where
        R : ShortOfRows p.limits.rows p.limits.steps (parts (function_of p v)) 1 (and_steps (and_at p entry v)) s.book b
        R = is-short_of_rows (product-ran fit due r.stored r.accounted.proper) e

    -- A product short of steps.
    step-ends :
        (b : Book) → product_of p v s ≡ short_of_steps b
        → Ended p entry (undecided (Steps v)) (added_to s.book b) (with_mark v 3 (with_book (given_back s.book b) s))
    step-ends b e =
        named s r v (due-within due) (due_nonzero fit due r) due.is-bare (due-entry fit due r) (undecided (Steps v)) b.steps (added_to s.book b)
        by-steps (λ l. due-inputs fit due r 3) S.grown.proper.taken
        (record {
          over = rw (last-steps r.accounted r.steady.marked v (due-within due) (due-unmarked fit due r) due.made) S.over;
          full = S.full;
          broke = broke-off short_of_steps b e S.grown;
        })
        (λ c i h. due-inputs fit due r 3)
      where
        S : ShortOfSteps p.limits.rows p.limits.steps (parts (function_of p v)) (and_steps (and_at p entry v)) s.book b
        S = is-short_of_steps (product-ran fit due r.stored r.accounted.proper) e

  -- An input short of its row.
  input-ends :
      (v : ℕ) (b : Book) (s : State) → Giving p v s → 1 ≤ v → v < p.first → input_row p v s ≡ short_of_rows b → Reachable p entry s
      → Ended p entry (undecided (Rows v)) 0 (with_mark v 3 s)
  unfolding bare?
  input-ends v b s g l h e r =
      named s r v within (λ i. omega arith) is-bare (first-unmerged p.first entry v h) (undecided (Rows v)) s.book.steps 0 by_rows
      (λ l. absurd (omega arith)) r.accounted.proper.taken
      (record {
        over = rw (← (last-rows r.accounted r.steady.marked v within unmarked)) (rows-together (function_of p v) r.accounted.holds R);
        full = omega (arith, r.accounted.proper.rows, add_short p.limits.rows (top_part (function_of p v)) s.book e);
        broke = at-input h (r.accounted.steps ∙ no_steps) refl;
      })
      (λ c i k. let j : c ≡ Rows v = cc in absurd (omega (arith, k v j)))
    where
      within : v < vertex_count p
      within = omega (arith, fit.well_formed.first-within)

      is-bare : bare? (stage_of s.stages v) ≡ true
      is-bare = ap bare? (g.later v l (omega arith) h)

      unmarked : get_or s.marks v 0 ≡ 0
      unmarked = (r.fits v).bare-unmarked is-bare

      -- No AND is marked before every input is.
      no_steps : steps_marked p entry s.marks ≡ 0
      no_steps = unfold sum in
          ap (λ (xs : List And). sum (map and_steps xs))
          (marked-none (is_either 1 2) (drop p.first s.marks) (ands_of p entry)
          (λ i. ap (is_either 1 2) (get_or-drop p.first s.marks i 0 ∙ none (p.first + i) (omega arith))))
        where
          none : (u : ℕ) → p.first ≤ u → get_or s.marks u 0 ≡ 0
          none u m =
              elim (ℕ_discrete (get_or s.marks u 0) 0) [
                | yes i ↦ i
                | no i ↦ absurd (omega (arith, r.inputs-first u m i v l h, unmarked))
              ]

      R : ShortOfRows p.limits.rows p.limits.steps (parts (function_of p v)) 0 0 s.book b
      R = is-short_of_rows (input-row-ran fit.well_formed s r.accounted.proper v l h) e

  -- None waits.
  rest-ends : {n : ℕ} (s : State) → Scanning p n (vertex_count p) s → Reachable p entry s → Ended p entry (undecided Size) 0 s
  rest-ends s c r = settled (undecided Size) s r (λ v m. elim m [ ]) (λ x i k. scanning-inputs c r)

  -- Each step of the sweep keeps it.
  pub reachable-keeps : Keeps p entry (λ place s. Reachable p entry s) (Ended p entry)
  reachable-keeps =
      record {
        invariant =
            record {
              begins = begin-reachable fit;
              gives_row = λ v b s h g l m e r. input-reachable fit v b s g l m e r;
              starts = λ s h g u r. r;
              opens = λ n v s h c e r. opened-reachable r v (pick_waits p s.stages v e);
              passes = λ n v s h c l e r. r;
              drops = λ n v b s d e f r. dropped-reachable fit d r b e f;
              sweeps = λ n v b s d e f t r. product-reachable fit d r b e f t;
              merges = λ n v w b s d e f t r. merged-reachable fit d r b e f w t;
            };
        same-literal = λ place s h r e. decided-ends equal s r (λ c i. impossible (cc));
        inverse-literal = λ place s h r e. decided-ends (different _) s r (λ c i. impossible (cc));
        same_function = λ place s h r a b c e. decided-ends equal s r (λ c i. impossible (cc));
        other_function = λ place s h r a b c e. decided-ends (different _) s r (λ c i. impossible (cc));
        lacks-input-row = λ v b s h g l m e r. input-ends v b s g l m e r;
        lacks-row = λ n v b s d e r. row_ends d r b e;
        lacks_step = λ n v b s d e r. step-ends d r b e;
        rests = λ n s h c e r. rest-ends s c r;
      }
