-- Where diagrams come from: a vertex other than the constant has one exactly where it, or one merged into it, is marked 1.
use Prim.Native.Nat.{◌*◌, ◌-◌, ◌<◌, ◌≤◌, ℕ}
use Rattle.aig.specs.Literal.{vertex_of}
use Rattle.product_model.specs.Run.{Book}
use Rattle.sweep_model.proofs.Accounts.{zeros}
use Rattle.sweep_model.proofs.Choices.{pick_waits, twin_at_lem}
use Rattle.sweep_model.proofs.Induction.{Keeps, unclaimed}
use Rattle.sweep_model.proofs.Merger.{merger_marks, merger_moves, merger_steady, merger-taken}
use Rattle.sweep_model.proofs.Reachable.{giving-has}
use Rattle.sweep_model.proofs.Rows.{resolve-vertex, resolve-within}
use Rattle.sweep_model.proofs.Stages.{bare-lacks, has_not_gone, has-wake, stage-within, waits-has}
use Rattle.sweep_model.proofs.Steady.{alive_unmerged, begin-giving, begin-steady, due_alive, opened_at, swept-steady}
use Rattle.sweep_model.proofs.Takes.{Fate, Taken, left_alone, taken-constant, taken-has, target, target-fate, woken}
use Rattle.sweep_model.proofs.Tidy.{merged-equal, resolve-kept, resolve-twice}
use Rattle.sweep_model.specs.Fit.{Fit, vertex_count}
use Rattle.sweep_model.specs.Normalise.{normalise, resolve, was_merged?}
use Rattle.sweep_model.specs.State.{Problem, Stage, State, dropped, gone, gone?, has?, opened, stage_of, waiting, waits?, with_book}
use Rattle.sweep_model.specs.code.Steady.{Moves, Steady}
use Rattle.sweep_model.specs.Sweep.{begin, drop_vertex, given_back, swept}
use Rattle.truth.proofs.Booleans.{bool_cases, clash, or_cases, or_left}
use lib.ListN.{get_or, length, set}
use lib.Seq.{get_or-set_other, get_or-set_same}
use mathlib.Core.Bool.{false, true}
use mathlib.Core.List.{List}
use mathlib.Core.Logic.{◌≢◌, ◌⊎◌, inl, inr, ⊎_elim}
use mathlib.Core.Path.{◌∙◌, ◌≡◌, ap, refl, sym}
use native.Mathlib.Decide.{ℕ_discrete}
use native.Mathlib.Omega.{arith}

-- The mark of a vertex.
abbrev pub mark_at : List ℕ → ℕ → ℕ
mark_at marks v = get_or marks v 0

-- A literal whose vertex is marked 1 became vertex v.
pub record Source (count : ℕ) (rows marks : List ℕ) (v : ℕ) : Type 0 where
  pub literal : ℕ
  pub within : literal < 2 * count
  pub mark : mark_at marks (vertex_of literal) ≡ 1
  pub became : vertex_of (resolve rows literal) ≡ v

-- Every diagram but the constant's has a source, and what a vertex marked 1 became has a diagram.
pub record Recorded (p : Problem) (s : State) : Type 0 where
  pub sources : (v : ℕ) → v ≢ 0 → has? (stage_of s.stages v) ≡ true → Source (vertex_count p) s.rows s.marks v
  pub swept_have : (r : ℕ) → r < 2 * vertex_count p → mark_at s.marks (vertex_of r) ≡ 1 → has? (stage_of s.stages (vertex_of (resolve s.rows r))) ≡ true

-- A vertex gets another stage and mark.
record Changes (old : Stage) (mark : ℕ) (new : Stage) (new-mark : ℕ) : Type 0 where
  source : has? new ≡ true → (new-mark ≡ 1) ⊎ ((has? old ≡ true) × (new-mark ≡ mark))
  swept-has : new-mark ≡ 1 → has? new ≡ true
  still-has : has? old ≡ true → has? new ≡ true

module _ {p : Problem} {entry : List ℕ} {s : State} (h : Steady p entry s) (v : ℕ) (alive : gone? (stage_of s.stages v) ≡ false) where
  inside : v < length s.stages
  inside = stage-within s.stages v alive

  within-marks : v < length s.marks
  within-marks = omega (arith, inside, h.marked, h.staged.long)

  -- A literal of an unmerged vertex still names it.
  own : (r : ℕ) → vertex_of r ≡ v → vertex_of (resolve s.rows r) ≡ v
  own r e = ap vertex_of (resolve-kept h.sound.downward r (rw e (alive_unmerged h v alive))) ∙ e

  -- A fact about each vertex, where it holds of v and of the others.
  each : (P : ℕ → Type 0) (u : ℕ) → P v → (u ≢ v → P u) → P u
  each P u a b =
      elim (ℕ_discrete u v) [
        | yes e ↦ rw e a
        | no e ↦ b e
      ]

  module _ (c : Recorded p s) (x : Stage) (m : ℕ) (change : Changes (stage_of s.stages v) (mark_at s.marks v) x m) (marks : List ℕ)
      (mark-here : mark_at marks v ≡ m) (mark-other : (u : ℕ) → u ≢ v → mark_at marks u ≡ mark_at s.marks u) where
    stages : List Stage
    stages = set s.stages v x

    here : stage_of stages v ≡ x
    unfolding stages
    here = get_or-set_same s.stages v x gone inside

    other : (u : ℕ) → u ≢ v → stage_of stages u ≡ stage_of s.stages u
    unfolding stages
    other u d = get_or-set_other s.stages v u x gone d

    -- A source of another vertex is not v.
    kept : (u : ℕ) → u ≢ v → Source (vertex_count p) s.rows s.marks u → Source (vertex_count p) s.rows marks u
    kept u d f =
        record {
          literal = f.literal;
          within = f.within;
          mark = mark-other (vertex_of f.literal) (λ e. d (sym f.became ∙ own f.literal e)) ∙ f.mark;
          became = f.became;
        }

    -- A source of v: v itself, or what it was before.
    source_here : v ≢ 0 → (m ≡ 1) ⊎ ((has? (stage_of s.stages v) ≡ true) × (m ≡ mark_at s.marks v)) → Source (vertex_count p) s.rows marks v
    source_here z (inl e) =
        record {
          literal = 2 * v;
          within = omega (arith, inside, h.staged.long);
          mark = let i : vertex_of (2 * v) ≡ v = omega arith in rw i (mark-here ∙ e);
          became = own (2 * v) (omega arith);
        }
    source_here z (inr e) =
        let f = c.sources v z e.0 in
        record {
          literal = f.literal;
          within = f.within;
          mark =
              each (λ u. mark_at s.marks u ≡ 1 → mark_at marks u ≡ 1) (vertex_of f.literal) (λ i. mark-here ∙ e.1 ∙ i)
              (λ d i. mark-other (vertex_of f.literal) d ∙ i) f.mark;
          became = f.became;
        }

    -- What the marks say after the change.
    recorded_change : (b : Book) → Recorded p (record { rows = s.rows; stages = set s.stages v x; marks = marks; book = b })
    unfolding stages
    recorded_change b =
        record {
          sources = λ u.
              each (λ y. y ≢ 0 → has? (stage_of stages y) ≡ true → Source (vertex_count p) s.rows marks y) u
              (λ z e. source_here z (change.source (sym (ap has? here) ∙ e)))
              (λ d z e. kept u d (c.sources u z (sym (ap has? (other u d)) ∙ e)));
          swept_have = λ r l e.
              elim (ℕ_discrete (vertex_of r) v) [
                | yes i ↦ ap (λ (u : ℕ). has? (stage_of stages u)) (own r i) ∙ ap has? here ∙ change.swept-has (sym mark-here ∙ (rw i at e))
                | no d ↦ each (λ y. has? (stage_of s.stages y) ≡ true → has? (stage_of stages y) ≡ true) (vertex_of (resolve s.rows r))
                    (λ i. ap has? here ∙ change.still-has i) (λ f i. ap has? (other (vertex_of (resolve s.rows r)) f) ∙ i)
                    (c.swept_have r l (sym (mark-other (vertex_of r) d) ∙ e))
              ];
        }

  module _ (c : Recorded p s) where
    -- An input given its row, and a vertex swept.
    pub recorded_swept : (b : Book) → Recorded p (swept v (with_book b s))
    unfolding swept has?
    recorded_swept b =
        recorded_change c waiting 1 (record { source = λ e. inl refl; swept-has = λ e. refl; still-has = λ e. refl }) (set s.marks v 1)
        (get_or-set_same s.marks v 1 0 within-marks) (λ u d. get_or-set_other s.marks v u 1 0 d) b

    -- A vertex without a diagram dropped.
    pub recorded_dropped : (b : Book) → has? (stage_of s.stages v) ≡ false → Recorded p (drop_vertex v b s)
    unfolding drop_vertex has?
    recorded_dropped b lacks =
        recorded_change c dropped 2 (record { source = λ e. clash e refl; swept-has = λ e. absurd (omega arith); still-has = λ e. clash e lacks })
        (set s.marks v 2) (get_or-set_same s.marks v 2 0 within-marks) (λ u d. get_or-set_other s.marks v u 2 0 d) (given_back s.book b)

    -- A waiting vertex opened.
    pub recorded_opened : waits? (stage_of s.stages v) ≡ true → Recorded p (opened_at v s)
    unfolding has?
    recorded_opened w =
        recorded_change c opened (mark_at s.marks v)
        (record { source = λ e. inr (waits-has (stage_of s.stages v) w, refl); swept-has = λ e. refl; still-has = λ e. refl }) s.marks refl
        (λ u d. refl) s.book

-- Newly merged vertices hand over: a diagram goes where its vertex goes.
module _ {p : Problem} {entry : List ℕ} (old : State) {new : State} (some : 1 ≤ p.first) (before : Steady p entry old) (h : Steady p entry new)
    (moved : Moves p.first (vertex_count p) old.rows new.rows)
    (handed : Taken p.first new.rows p.first (vertex_count p - p.first) old.stages new.stages) (marks : new.marks ≡ old.marks) where
  -- What a literal became, by way of what it was before.
  along : (r : ℕ) → r < 2 * vertex_count p → vertex_of (resolve new.rows (resolve old.rows r)) ≡ vertex_of (resolve new.rows r)
  along r l = ap vertex_of (resolve-twice before.sound.downward moved r l)

  -- A literal of an unmerged vertex names it, one of a merged vertex names its target.
  stays_own : (r : ℕ) → was_merged? p.first new.rows (vertex_of r) ≡ false → vertex_of (resolve new.rows r) ≡ vertex_of r
  stays_own r m = ap vertex_of (resolve-kept h.sound.downward r m)

  goes_over : (r : ℕ) → was_merged? p.first new.rows (vertex_of r) ≡ true → vertex_of (resolve new.rows r) ≡ target new.rows (vertex_of r)
  goes_over r m = resolve-vertex new.rows r (merged-equal p.first new.rows (vertex_of r) m)

  -- The diagram of a newly merged vertex is its target's.
  target-has :
      (v : ℕ) → v < vertex_count p → was_merged? p.first new.rows v ≡ true → has? (stage_of old.stages v) ≡ true
      → has? (stage_of new.stages (target new.rows v)) ≡ true
  unfolding has?
  target-has v l m e =
      elim (ℕ_discrete (target new.rows v) 0) [
        | yes z ↦ rw z (ap has? (taken-constant some handed ∙ before.staged.constant))
        | no z ↦ ⊎_elim (λ a. ap has? a ∙ has-wake (stage_of old.stages (target new.rows v)))
            (λ a. clash (or_left (has? (stage_of old.stages v)) (has? (stage_of old.stages (target new.rows v))) e) a.1)
            (target-fate h.tidy handed v l (record { is-merged = m; not_gone = has_not_gone (stage_of old.stages v) e }) z)
      ]

  module _ (c : Recorded p old) where
    -- A source of a vertex is one of what it became.
    carried : (u v : ℕ) → Source (vertex_count p) old.rows old.marks u → ((r : ℕ) → vertex_of r ≡ u → vertex_of (resolve new.rows r) ≡ v)
        → Source (vertex_count p) new.rows new.marks v
    carried u v f on =
        record {
          literal = f.literal;
          within = f.within;
          mark = rw marks f.mark;
          became = sym (along f.literal f.within) ∙ on (resolve old.rows f.literal) f.became;
        }

    -- Handing over keeps it.
    pub recorded_handed : Recorded p new
    recorded_handed =
        record {
          sources = λ v z e. let m = alive_unmerged h v (has_not_gone (stage_of new.stages v) e) in source v z e m (handed.fate v m);
          swept_have = λ r l e. has r l (c.swept_have r l (rw marks at e));
        }
      where
        still : (v : ℕ) → was_merged? p.first new.rows v ≡ false → (r : ℕ) → vertex_of r ≡ v → vertex_of (resolve new.rows r) ≡ v
        still v m r e = stays_own r (rw e m) ∙ e

        source : (v : ℕ) → v ≢ 0 → has? (stage_of new.stages v) ≡ true → was_merged? p.first new.rows v ≡ false
            → Fate p.first new.rows p.first (vertex_count p - p.first) old.stages new.stages v → Source (vertex_count p) new.rows new.marks v
        source v z e m (left_alone a f) = carried v v (c.sources v z (sym (ap has? a) ∙ e)) (still v m)
        source v z e m (woken a y u i j w t f) =
            ⊎_elim
            (λ g.
            carried u v (c.sources u (λ q. omega (arith, i, some)) g)
            (λ r q. goes_over r (rw q w.is-merged) ∙ ap (target new.rows) q ∙ t))
            (λ g. carried v v (c.sources v z g) (still v m)) (or_cases (has? (stage_of old.stages u)) (has? (stage_of old.stages v)) f)

        has : (r : ℕ) → r < 2 * vertex_count p → has? (stage_of old.stages (vertex_of (resolve old.rows r))) ≡ true
            → has? (stage_of new.stages (vertex_of (resolve new.rows r))) ≡ true
        has r l e =
            let q = resolve old.rows r in
            ap (λ (x : ℕ). has? (stage_of new.stages x)) (sym (along r l))
            ∙ elim (bool_cases (was_merged? p.first new.rows (vertex_of q))) [
              | inl m ↦ ap (λ (x : ℕ). has? (stage_of new.stages x)) (goes_over q m)
                  ∙ target-has (vertex_of q) (omega (arith, resolve-within before.sound.downward r (vertex_count p) (omega arith) l)) m e
              | inr m ↦ ap (λ (x : ℕ). has? (stage_of new.stages x)) (stays_own q m) ∙ taken-has handed (vertex_of q) m e
            ]

module _ {p : Problem} {entry : List ℕ} (fit : Fit p entry) where
  -- After the first normalising only the constant has a diagram, and no mark is written.
  begin_recorded : Recorded p (normalise p.first (begin p entry))
  unfolding normalise begin
  begin_recorded =
      record {
        sources = λ v z e. absurd (omega (arith, z, giving-has (begin-steady fit) (begin-giving fit) (omega arith) v e));
        swept_have = λ r l e. absurd (omega (arith, zeros (vertex_count p) (vertex_of r)));
      }

  -- Each step of the sweep keeps it.
  pub sources_keep : Keeps p entry (λ place s. Recorded p s) (λ x k s. Unit {0})
  unfolding gone? swept
  sources_keep =
      unclaimed
      (record {
        begins = begin_recorded;
        gives_row = λ v b s h g l m e r. recorded_swept h v (ap gone? (g.later v l (omega arith) m)) r b;
        starts = λ s h g u r. r;
        opens = λ n v s h c e r.
            let w = pick_waits p s.stages v e in
            recorded_opened h v (has_not_gone (stage_of s.stages v) (waits-has (stage_of s.stages v) w)) r w;
        passes = λ n v s h c l e r. r;
        drops = λ n v b s d e f r. recorded_dropped d.steady v (due_alive d) r b (bare-lacks (stage_of s.stages v) d.is-bare);
        sweeps = λ n v b s d e f t r. recorded_swept d.steady v (due_alive d) r b;
        merges = λ n v w b s d e f t r.
            let twin = twin_at_lem p s.stages v 0 (length s.stages) w t in
            recorded_handed (swept v (with_book b s)) fit.well_formed.some_first
            (swept-steady s b v (λ i. omega (arith, d.made, fit.well_formed.some_first)) (due_alive d) d.steady) (merger_steady fit d w twin b)
            (merger_moves fit d w twin b) (merger-taken fit d w twin b) (merger_marks fit d w twin b)
            (recorded_swept d.steady v (due_alive d) r b);
      })
