-- The first normalising leaves a state of which `Reachable` holds, and every step of the sweep keeps it.
use Prim.Native.Nat.{◌-◌, ◌<◌, ◌≤◌, ℕ}
use Rattle.product_model.proofs.Members.{within_none}
use Rattle.product_model.proofs.Ran.{Done, is-done, kept}
use Rattle.product_model.specs.Run.{Book, done}
use Rattle.sweep_model.proofs.Accounts.{dropped-accounted, each_set, input-accounted, none-accounted, product-accounted, zeros}
use Rattle.sweep_model.proofs.Apart.{merger_apart, merger-stored}
use Rattle.sweep_model.proofs.Choices.{LowestTwin, twin_at_lem, twin-none}
use Rattle.sweep_model.proofs.Inputs.{first-apart, input-row-ran}
use Rattle.sweep_model.proofs.Marked.{and_at}
use Rattle.sweep_model.proofs.Merger.{merger_book, merger_marks, merger_steady, merger-taken}
use Rattle.sweep_model.proofs.Products.{product-ran}
use Rattle.sweep_model.proofs.Stages.{bare_not_gone, bare-wake, dropped-lacks, gone-is, has_not_gone, has-wake, stage-within, waits-has}
use Rattle.sweep_model.proofs.Steady.{alive_unmerged, alive_within, begin-giving, begin-steady, dropped-steady, due_alive, due-within, input_row, opened-steady, opened_at, swept-steady}
use Rattle.sweep_model.proofs.Takes.{Fate, left_alone, woken}
use Rattle.sweep_model.proofs.Tidy.{first-unmerged, still-merged}
use Rattle.sweep_model.specs.Claims.{and_steps}
use Rattle.sweep_model.specs.Fit.{Fit, vertex_count}
use Rattle.sweep_model.specs.Normalise.{normalise, wake, was_merged?}
use Rattle.sweep_model.specs.code.Reachable.{Accounted, Apart, InputsMarked, Reachable, StageFits}
use Rattle.sweep_model.specs.State.{Problem, Stage, State, bare, bare?, dropped, dropped?, function_of, gone, gone?, has?, opened, stage_of, waiting, waits?, with_book}
use Rattle.sweep_model.specs.code.Steady.{Due, Giving, Steady, product_of}
use Rattle.sweep_model.specs.Sweep.{at, begin, drop_vertex, meet, none, swept, twin_from}
use Rattle.truth.proofs.Booleans.{clash, not_true}
use Rattle.truth.proofs.Parts.{alike_sameness, parts-constant}
use Rattle.truth.specs.Parts.{alike?, parts, size}
use borrow.Author.Tests.{ltb-false, ltb-true}
use lib.Dec.{ltb}
use lib.ListN.{get_or, length, set}
use lib.Seq.{get_or-set_other, get_or-set_same}
use mathlib.Core.Bool.{Bool, cond, false, true}
use mathlib.Core.List.{List}
use mathlib.Core.Logic.{◌≢◌, ◌⊎◌, inl, inr, ⊎_elim}
use mathlib.Core.Path.{◌∙◌, ◌≡◌, ap, refl, sym}
use native.Mathlib.Decide.{dec_lt, ℕ_discrete}
use native.Mathlib.Omega.{arith}

-- A vertex's stage and mark both replaced.
stages-set :
    {p : Problem} {entry : List ℕ} {s : State} → Reachable p entry s → (v k : ℕ) (x : Stage) → v < vertex_count p → StageFits p v x k
    → (u : ℕ) → StageFits p u (stage_of (set s.stages v x) u) (get_or (set s.marks v k) u 0)
stages-set {p} {entry} {s} r v k x h own u =
    elim (ℕ_discrete u v) [
      | yes e ↦ rw (e, get_or-set_same s.stages v x gone (omega (arith, r.steady.staged.long)), get_or-set_same s.marks v k 0 (omega (arith, r.steady.marked)))
          own
      | no e ↦ rw (get_or-set_other s.stages v u x gone e, get_or-set_other s.marks v u k 0 e) (r.fits u)
    ]

-- A vertex that waits may be marked 1.
waiting-fits : (p : Problem) (v : ℕ) → StageFits p v waiting 1
unfolding bare? dropped? has?
waiting-fits p v = record { bare-unmarked = λ e. clash e refl; dropped_two = λ e. clash e refl; input = λ l h. refl }

-- A dropped vertex may be marked 2.
dropped-fits : (p : Problem) (v : ℕ) → p.first ≤ v → StageFits p v dropped 2
unfolding bare? dropped?
dropped-fits p v made = record { bare-unmarked = λ e. clash e refl; dropped_two = λ e. refl; input = λ l h. absurd (omega arith) }

-- A merged vertex may have any mark.
gone-fits : (p : Problem) (v m : ℕ) → p.first ≤ v → StageFits p v gone m
unfolding bare? dropped?
gone-fits p v m made = record { bare-unmarked = λ e. clash e refl; dropped_two = λ e. clash e refl; input = λ l h. absurd (omega arith) }

-- A vertex opened keeps its mark.
opened-fits : (p : Problem) (v : ℕ) (x : Stage) (m : ℕ) → has? x ≡ true → StageFits p v x m → StageFits p v opened m
unfolding bare? dropped? has?
opened-fits p v x m e f =
    record { bare-unmarked = λ i. clash i refl; dropped_two = λ i. clash i refl; input = λ l h. f.input l h ∙ ap (λ (b : Bool). cond b 1 0) e }

-- A vertex woken keeps its mark.
wake-fits : (p : Problem) (v : ℕ) (x : Stage) (m : ℕ) → (v < p.first → has? x ≡ true) → StageFits p v x m → StageFits p v (wake x) m
wake-fits p v x m e f =
    record {
      bare-unmarked = λ i. clash i (bare-wake x);
      dropped_two = λ i. clash i (not_dropped x);
      input = λ l h. f.input l h ∙ ap (λ (b : Bool). cond b 1 0) (e h ∙ sym (has-wake x));
    }
  where
    not_dropped : (x : Stage) → dropped? (wake x) ≡ false
    not_dropped x = not_true (dropped? (wake x)) (λ i. clash (has-wake x) (dropped-lacks (wake x) i))

-- One diagram more, of a function unlike the others.
apart-set :
    (p : Problem) (stages : List Stage) (v : ℕ) (x : Stage) → v < length stages
    → ((u : ℕ) → u ≢ v → has? (stage_of stages u) ≡ true → alike? (function_of p v) (function_of p u) ≡ true → ⊥) → Apart p stages → Apart p (set stages v x)
apart-set p stages v x h unlike a u w e f g =
    elim (ℕ_discrete u v) [
      | yes i ↦ elim (ℕ_discrete w v) [
        | yes j ↦ i ∙ sym j
        | no j ↦ absurd (unlike w j (old w j f) (sym (ap (λ (y : ℕ). alike? (function_of p y) (function_of p w)) i) ∙ g))
      ]
      | no i ↦ elim (ℕ_discrete w v) [
        | yes j ↦ absurd
            (unlike u i (old u i e)
            (alike_sameness.symmetric (function_of p v) (function_of p u) ∙ sym (ap (λ (y : ℕ). alike? (function_of p u) (function_of p y)) j) ∙ g))
        | no j ↦ a u w (old u i e) (old w j f) g
      ]
    ]
  where
    old : (y : ℕ) → y ≢ v → has? (stage_of (set stages v x) y) ≡ true → has? (stage_of stages y) ≡ true
    old y d k = sym (ap has? (get_or-set_other stages v y x gone d)) ∙ k

module _ {p : Problem} {entry : List ℕ} {s : State} (r : Reachable p entry s) where
  -- A diagram given to a vertex without one.
  swept-reachable :
      (v : ℕ) {n : ℕ} (b : Book) → v ≢ 0 → bare? (stage_of s.stages v) ≡ true
      → Done p.limits.rows p.limits.steps (parts (function_of p v)) n s.book b → Accounted p entry (set s.marks v 1) b
      → ((u : ℕ) → u ≢ v → has? (stage_of s.stages u) ≡ true → alike? (function_of p v) (function_of p u) ≡ true → ⊥)
      → ((u : ℕ) → p.first ≤ u → get_or (set s.marks v 1) u 0 ≢ 0 → InputsMarked p (set s.marks v 1)) → Reachable p entry (swept v (with_book b s))
  unfolding swept
  swept-reachable v b nonzero is-bare D acc unlike inputs =
      record {
        steady = unfold swept in swept-steady s b v nonzero alive r.steady;
        accounted = acc;
        stored = λ u e.
            elim (ℕ_discrete u v) [
              | yes i ↦ rw i D.stored
              | no i ↦ λ t k.
                  kept p.limits.rows p.limits.steps D.grown t
                  (r.stored u (sym (ap has? (get_or-set_other s.stages v u waiting gone i)) ∙ e) t k)
            ];
        apart = apart-set p s.stages v waiting (stage-within s.stages v alive) unlike r.apart;
        fits = stages-set r v 1 waiting (alive_within r.steady v alive) (waiting-fits p v);
        inputs-first = inputs;
      }
    where
      alive : gone? (stage_of s.stages v) ≡ false
      alive = bare_not_gone (stage_of s.stages v) is-bare

  -- A vertex opened.
  pub opened-reachable : (v : ℕ) → waits? (stage_of s.stages v) ≡ true → Reachable p entry (opened_at v s)
  opened-reachable v w =
      record {
        steady = opened-steady s v w r.steady;
        accounted = r.accounted;
        stored = λ u e. r.stored u (had u e);
        apart = λ u t e f. r.apart u t (had u e) (had t f);
        fits =
            each_set (λ (u : ℕ) (x : Stage). StageFits p u x (get_or s.marks u 0)) s.stages v opened gone inside
            (opened-fits p v (stage_of s.stages v) (get_or s.marks v 0) has_one (r.fits v)) (λ u d. r.fits u);
        inputs-first = r.inputs-first;
      }
    where
      has_one : has? (stage_of s.stages v) ≡ true
      has_one = waits-has (stage_of s.stages v) w

      inside : v < length s.stages
      inside = stage-within s.stages v (has_not_gone (stage_of s.stages v) has_one)

      had : (u : ℕ) → has? (stage_of (set s.stages v opened) u) ≡ true → has? (stage_of s.stages u) ≡ true
      had u e =
          elim (ℕ_discrete u v) [
            | yes i ↦ ap (λ (y : ℕ). has? (stage_of s.stages y)) i ∙ has_one
            | no i ↦ sym (ap has? (get_or-set_other s.stages v u opened gone i)) ∙ e
          ]

module _ {p : Problem} {entry : List ℕ} {k : ℕ} {s : State} (steady : Steady p entry s) (g : Giving p k s) where
  -- While inputs are given their rows, a vertex from the next input on is bare or merged.
  giving-later : (u : ℕ) → 1 ≤ u → k ≤ u → (stage_of s.stages u ≡ bare) ⊎ (stage_of s.stages u ≡ gone)
  giving-later u l h = go (gone? (stage_of s.stages u)) refl
    where
      go : (b : Bool) → gone? (stage_of s.stages u) ≡ b → (stage_of s.stages u ≡ bare) ⊎ (stage_of s.stages u ≡ gone)
      go true e = inr (gone-is (stage_of s.stages u) e)
      go false e =
          inl
          (elim (dec_lt u p.first) [
            | yes i ↦ g.later u l h i
            | no i ↦ g.made u (omega arith) (alive_within steady u e) (alive_unmerged steady u e)
          ])

  -- The vertices with diagrams come before it.
  pub giving-has : 1 ≤ k → (u : ℕ) → has? (stage_of s.stages u) ≡ true → u < k
  unfolding has?
  giving-has l u e =
      elim (dec_lt u k) [
        | yes h ↦ h
        | no h ↦ ⊎_elim (λ i. clash e (ap has? i)) (λ i. clash e (ap has? i)) (giving-later u (omega arith) (omega arith))
      ]

module _ {p : Problem} {entry : List ℕ} (fit : Fit p entry) where
  -- The state after the first normalising.
  pub begin-reachable : Reachable p entry (normalise p.first (begin p entry))
  begin-reachable =
      record {
        steady = steady;
        accounted = unfold normalise begin in none-accounted p entry;
        stored = λ v e. let i = only v e in rw (i, fit.well_formed.constant, parts-constant p.inputs false) (within_none alike? s.book.store);
        apart = λ u v e f k. only u e ∙ sym (only v f);
        fits = stages;
        inputs-first = λ v l d. absurd (d (unmarked v));
      }
    where
      s : State
      s = normalise p.first (begin p entry)

      steady : Steady p entry s
      steady = begin-steady fit

      only : (u : ℕ) → has? (stage_of s.stages u) ≡ true → u ≡ 0
      only u e = let h = giving-has steady (begin-giving fit) (omega arith) u e in omega arith

      unmarked : (u : ℕ) → get_or s.marks u 0 ≡ 0
      unmarked u = unfold normalise begin in zeros (vertex_count p) u

      stages : (u : ℕ) → StageFits p u (stage_of s.stages u) (get_or s.marks u 0)
      stages u =
          record {
            bare-unmarked = λ e. unmarked u;
            dropped_two = λ e. clash e undropped;
            input = λ l h. unmarked u ∙ ap (λ (b : Bool). cond b 1 0) (sym (not_true (has? (stage_of s.stages u)) (λ e. omega (arith, only u e))));
          }
        where
          undropped : dropped? (stage_of s.stages u) ≡ false
          undropped =
              unfold dropped? in
              (elim (ℕ_discrete u 0) [
                | yes e ↦ ap (λ (x : ℕ). dropped? (stage_of s.stages x)) e ∙ ap dropped? steady.staged.constant
                | no e ↦ ⊎_elim (ap dropped?) (ap dropped?) (giving-later steady (begin-giving fit) u (omega arith) (omega arith))
              ])

  -- An input given its row.
  pub input-reachable :
      (v : ℕ) (b : Book) (s : State) → Giving p v s → 1 ≤ v → v < p.first → input_row p v s ≡ done b → Reachable p entry s
      → Reachable p entry (swept v (with_book b s))
  unfolding bare?
  input-reachable v b s g l h e r =
      swept-reachable r v b (λ i. omega arith) is-bare D
      (input-accounted r.accounted r.steady.marked v (omega (arith, fit.well_formed.first-within)) ((r.fits v).bare-unmarked is-bare) D l h refl)
      (λ u d i k. let j = giving-has r.steady g l u i in d (sym (first-apart fit.well_formed v u h (omega arith) k)))
      (λ u m d.
      let other = get_or-set_other s.marks v u 1 0 (λ i. omega arith) in
      absurd (omega (arith, r.inputs-first u m (λ i. d (other ∙ i)) v l h, (r.fits v).bare-unmarked is-bare)))
    where
      is-bare : bare? (stage_of s.stages v) ≡ true
      is-bare = ap bare? (g.later v l (omega arith) h)

      D : Done p.limits.rows p.limits.steps (parts (function_of p v)) 0 s.book b
      D = is-done (input-row-ran fit.well_formed s r.accounted.proper v l h) e

  module _ {n v : ℕ} {s : State} (due : Due p entry n v s) (r : Reachable p entry s) where
    -- A vertex whose product is taken has no mark.
    pub due-unmarked : get_or s.marks v 0 ≡ 0
    due-unmarked = (r.fits v).bare-unmarked due.is-bare

    -- Every input is marked, whatever its mark will be.
    pub due-inputs : (k : ℕ) → InputsMarked p (set s.marks v k)
    due-inputs k u l h =
        get_or-set_other s.marks v u k 0 (λ e. omega (arith, due.made)) ∙ (r.fits u).input l h
        ∙ ap (λ (b : Bool). cond b 1 0) (due.scanning.first_have u h)

    -- It is not the constant.
    pub due_nonzero : v ≢ 0
    due_nonzero e = omega (arith, due.made, fit.well_formed.some_first)

    -- It was not merged at entry.
    pub due-entry : was_merged? p.first entry v ≡ false
    due-entry =
        not_true (was_merged? p.first entry v)
        (λ e. clash (still-merged fit.sound.downward r.steady.moved v (due-within due) e) (alive_unmerged r.steady v (due_alive due)))

    module _ (b : Book) (e : product_of p v s ≡ done b) where
      -- What its product leaves.
      pub product-done : Done p.limits.rows p.limits.steps (parts (function_of p v)) (and_steps (and_at p entry v)) s.book b
      product-done = is-done (product-ran fit due r.stored r.accounted.proper) e

      -- A vertex dropped.
      pub dropped-reachable : ltb p.limits.size (size (function_of p v)) ≡ true → Reachable p entry (drop_vertex v b s)
      unfolding drop_vertex has?
      dropped-reachable f =
          record {
            steady = unfold drop_vertex in dropped-steady s b v due_nonzero (due_alive due) r.steady;
            accounted =
                dropped-accounted r.accounted r.steady.marked v (due-within due) due-unmarked product-done due.made refl
                (ltb-true p.limits.size (size (function_of p v)) f) due-entry due_nonzero;
            stored = λ u i. r.stored u (had u i);
            apart = λ u t i j. r.apart u t (had u i) (had t j);
            fits = stages-set r v 2 dropped (due-within due) (dropped-fits p v due.made);
            inputs-first = λ u l d. due-inputs 2;
          }
        where
          had : (u : ℕ) → has? (stage_of (set s.stages v dropped) u) ≡ true → has? (stage_of s.stages u) ≡ true
          had u i =
              elim (ℕ_discrete u v) [
                | yes j ↦ clash i
                    (ap (λ (y : ℕ). has? (stage_of (set s.stages v dropped) y)) j
                    ∙ ap has? (get_or-set_same s.stages v dropped gone (stage-within s.stages v (due_alive due))))
                | no j ↦ sym (ap has? (get_or-set_other s.stages v u dropped gone j)) ∙ i
              ]

      module _ (f : ltb p.limits.size (size (function_of p v)) ≡ false) where
        product-swept : Accounted p entry (set s.marks v 1) b
        product-swept =
            product-accounted r.accounted r.steady.marked v (due-within due) due-unmarked product-done due.made refl
            (ltb-false p.limits.size (size (function_of p v)) f) due-entry due_nonzero

        -- A vertex swept.
        pub product-reachable : twin_from p s.stages v 0 (length s.stages) ≡ none → Reachable p entry (swept v (with_book b s))
        product-reachable t =
            swept-reachable r v b due_nonzero due.is-bare product-done product-swept
            (λ u d i k.
            twin-none p s.stages v 0 (length s.stages) t u (omega arith)
            (omega (arith, stage-within s.stages u (has_not_gone (stage_of s.stages u) i))) (record { has_one = i; alike = k }))
            (λ u l d. due-inputs 1)

        -- A vertex swept and merged with its twin.
        pub merged-reachable : (w : ℕ) → twin_from p s.stages v 0 (length s.stages) ≡ at w → Reachable p entry (meet p v (with_book b s) (at w))
        merged-reachable w t =
            record {
              steady = steady;
              accounted = rw (merger_marks fit due w twin b, merger_book fit due w twin b) product-swept;
              stored =
                  rw (merger_book fit due w twin b)
                  (merger-stored fit due w twin b b.store (λ u i t k. kept p.limits.rows p.limits.steps product-done.grown t (r.stored u i t k))
                  product-done.stored);
              apart = merger_apart fit due w twin b r.apart;
              fits = λ u. rw (merger_marks fit due w twin b) (go u (gone? (stage_of after.stages u)) refl);
              inputs-first = λ u l d. rw (merger_marks fit due w twin b) (due-inputs 1);
            }
          where
            twin : LowestTwin p s.stages v 0 (length s.stages) w
            twin = twin_at_lem p s.stages v 0 (length s.stages) w t

            after : State
            after = meet p v (with_book b s) (at w)

            steady : Steady p entry after
            steady = merger_steady fit due w twin b

            swept-fits : (u : ℕ) → StageFits p u (stage_of (set s.stages v waiting) u) (get_or (set s.marks v 1) u 0)
            swept-fits = stages-set r v 1 waiting (due-within due) (waiting-fits p v)

            first-has : (u : ℕ) → u < p.first → has? (stage_of (set s.stages v waiting) u) ≡ true
            first-has u h =
                ap has? (get_or-set_other s.stages v u waiting gone (λ i. omega (arith, due.made))) ∙ due.scanning.first_have u h

            fate_fits : (u : ℕ) → Fate p.first after.rows p.first (vertex_count p - p.first) (set s.stages v waiting) after.stages u
                → StageFits p u (stage_of after.stages u) (get_or (set s.marks v 1) u 0)
            fate_fits u (left_alone i k) = rw i (swept-fits u)
            fate_fits u (woken i z o l h k j g) =
                rw i (wake-fits p u (stage_of (set s.stages v waiting) u) (get_or (set s.marks v 1) u 0) (first-has u) (swept-fits u))

            go : (u : ℕ) (c : Bool) → gone? (stage_of after.stages u) ≡ c → StageFits p u (stage_of after.stages u) (get_or (set s.marks v 1) u 0)
            go u true i =
                rw (gone-is (stage_of after.stages u) i)
                (gone-fits p u (get_or (set s.marks v 1) u 0)
                (elim (dec_lt u p.first) [
                  | yes h ↦ absurd
                      (let l : u < vertex_count p = omega (arith, fit.well_formed.first-within) in
                      clash (sym (steady.staged.gone-merged u l) ∙ i) (first-unmerged p.first after.rows u h))
                  | no h ↦ omega arith
                ]))
            go u false i = fate_fits u ((merger-taken fit due w twin b).fate u (alive_unmerged steady u i))
