-- The first normalising leaves a steady state, and the steps that merge nothing keep it steady.
use Prim.Native.Nat.{◌-◌, ◌<◌, ◌≤◌, suc, ℕ}
use Rattle.aig.specs.Literal.{vertex_of}
use Rattle.product_model.specs.Run.{Book, Outcome, add_part}
use Rattle.sweep_model.proofs.Normal.{normal-sound}
use Rattle.sweep_model.proofs.Settle.{Renewed, renewed}
use Rattle.sweep_model.proofs.Stages.{bare-is, bare_not_gone, has_not_gone, stage-within, waits-has}
use Rattle.sweep_model.proofs.Takes.{Alive, Fate, Taken, left_alone, taken, taken-staged, woken}
use Rattle.sweep_model.proofs.Tidy.{first-unmerged}
use Rattle.sweep_model.proofs.Turns.{takes-turns, turns_set, waiting-turns}
use Rattle.sweep_model.specs.Fit.{Fit, Sound, WellFormed, vertex_count}
use Rattle.sweep_model.specs.Normalise.{normalise, normalise_from, was_merged?}
use Rattle.sweep_model.specs.State.{Problem, Stage, State, bare, dropped, function_of, gone, gone?, has?, opened, stage_of, waiting, waits?, with_book, with_mark, with_stages}
use Rattle.sweep_model.specs.code.Steady.{Due, Giving, Moves, Scanning, Staged, Steady, Unsettled, left_now, right_now}
use Rattle.sweep_model.specs.Sweep.{begin, drop_vertex, swept, top_part, turns_left, turns_of}
use Rattle.truth.proofs.Booleans.{clash}
use lib.ListN.{get_or-replicate, length, length-replicate, length-set, replicate, set}
use lib.Seq.{get_or-set_other, get_or-set_same}
use mathlib.Core.Bool.{◌||◌, false, true}
use mathlib.Core.List.{List}
use mathlib.Core.Logic.{◌≢◌}
use mathlib.Core.Path.{◌∙◌, ◌≡◌, ap, ap₂, refl, sym}
use native.Mathlib.Decide.{ℕ_discrete}
use native.Mathlib.Omega.{arith}

-- The row of an input, with what is left of the limits.
abbrev pub input_row : Problem → ℕ → State → Outcome
input_row p v s = add_part p.limits.rows (top_part (function_of p v)) s.book

module _ {p : Problem} {entry : List ℕ} {s : State} (steady : Steady p entry s) (v : ℕ) (alive : gone? (stage_of s.stages v) ≡ false) where
  -- A vertex that is not gone is one of the vertices.
  pub alive_within : v < vertex_count p
  alive_within = omega (arith, stage-within s.stages v alive, steady.staged.long)

  -- A vertex that is not gone was not merged.
  pub alive_unmerged : was_merged? p.first s.rows v ≡ false
  alive_unmerged = sym (steady.staged.gone-merged v alive_within) ∙ alive

  -- Another stage for it, other than gone, keeps the stages.
  pub staged_set : (x : Stage) → v ≢ 0 → gone? x ≡ false → Staged p.first (vertex_count p) s.rows (set s.stages v x)
  staged_set x nonzero e =
      record {
        long = length-set s.stages v x ∙ steady.staged.long;
        gone-merged = λ u h.
            elim (ℕ_discrete u v) [
              | yes i ↦ rw i (ap gone? (get_or-set_same s.stages v x gone (stage-within s.stages v alive)) ∙ e ∙ sym alive_unmerged)
              | no i ↦ ap gone? (get_or-set_other s.stages v u x gone i) ∙ steady.staged.gone-merged u h
            ];
        constant = get_or-set_other s.stages v 0 x gone (λ i. nonzero (sym i)) ∙ steady.staged.constant;
      }

-- A mark written keeps the state steady.
pub mark-steady : {p : Problem} {entry : List ℕ} (s : State) (b : Book) (v k : ℕ) → Steady p entry s → Steady p entry (with_mark v k (with_book b s))
mark-steady s b v k h =
    record { sound = h.sound; tidy = h.tidy; moved = h.moved; staged = h.staged; marked = length-set s.marks v k ∙ h.marked }

-- An input given its row, and a vertex swept.
pub swept-steady :
    {p : Problem} {entry : List ℕ} (s : State) (b : Book) (v : ℕ) → v ≢ 0 → gone? (stage_of s.stages v) ≡ false → Steady p entry s
    → Steady p entry (swept v (with_book b s))
unfolding swept gone?
swept-steady s b v nonzero alive h =
    record {
      sound = h.sound;
      tidy = h.tidy;
      moved = h.moved;
      staged = staged_set h v alive waiting nonzero refl;
      marked = simp length-set h.marked;
    }

-- A vertex dropped.
pub dropped-steady :
    {p : Problem} {entry : List ℕ} (s : State) (b : Book) (v : ℕ) → v ≢ 0 → gone? (stage_of s.stages v) ≡ false → Steady p entry s
    → Steady p entry (drop_vertex v b s)
unfolding drop_vertex gone?
dropped-steady s b v nonzero alive h =
    record {
      sound = h.sound;
      tidy = h.tidy;
      moved = h.moved;
      staged = staged_set h v alive dropped nonzero refl;
      marked = simp length-set h.marked;
    }

-- The constant does not wait.
pub waits_nonzero : {p : Problem} {entry : List ℕ} (s : State) (v : ℕ) → Steady p entry s → waits? (stage_of s.stages v) ≡ true → v ≢ 0
unfolding waits?
waits_nonzero s v h w e = clash w (ap (λ (u : ℕ). waits? (stage_of s.stages u)) e ∙ ap waits? h.staged.constant)

-- The state in which vertex v has opened.
abbrev pub opened_at : ℕ → State → State
opened_at v s = with_stages (set s.stages v opened) s

-- A vertex opened.
pub opened-steady :
    {p : Problem} {entry : List ℕ} (s : State) (v : ℕ) → waits? (stage_of s.stages v) ≡ true → Steady p entry s → Steady p entry (opened_at v s)
unfolding gone?
opened-steady s v w h =
    record {
      sound = h.sound;
      tidy = h.tidy;
      moved = h.moved;
      staged = staged_set h v (has_not_gone (stage_of s.stages v) (waits-has (stage_of s.stages v) w)) opened (waits_nonzero s v h w) refl;
      marked = h.marked;
    }

-- Normalising a state with a stage a vertex.
module _ {p : Problem} (w : WellFormed p) (s : State) (sound : Sound p s.rows) (long : length s.stages ≡ vertex_count p) where
  -- The rows that it leaves.
  pub normal-rows : (normalise p.first s).rows ≡ normalise_from s.rows p.first (vertex_count p - p.first)
  unfolding normalise
  normal-rows = rw long

  here : Renewed p.first (vertex_count p) s.rows (normalise_from s.rows p.first (vertex_count p - p.first))
  here = renewed w.some_first w.first-within s.rows sound.downward

  -- The stages that it leaves.
  pub normal-taken : Taken p.first (normalise p.first s).rows p.first (vertex_count p - p.first) s.stages (normalise p.first s).stages
  unfolding normalise
  normal-taken = rw long (taken here.downward here.tidy (vertex_count p - p.first) p.first s.stages long (omega arith))

  module _ (alive : Alive p.first (normalise p.first s).rows s.stages) where
    -- It adds no turns.
    pub normal-turns : turns_left (normalise p.first s).stages ≤ turns_left s.stages
    unfolding normalise
    normal-turns =
        rw long
        (takes-turns here.downward here.tidy (vertex_count p - p.first) p.first s.stages long (omega arith)
        (λ u h m. alive u h (rw normal-rows m)))

    -- It leaves a steady state where the rows have moved on from the entry rows.
    pub normal-steady :
        {entry : List ℕ} → Moves p.first (vertex_count p) entry (normalise p.first s).rows → stage_of s.stages 0 ≡ opened
        → length s.marks ≡ vertex_count p → Steady p entry (normalise p.first s)
    normal-steady moved constant marked =
        record {
          sound = rw normal-rows (normal-sound p w (vertex_count p - p.first) p.first s.rows sound (omega arith) (omega (arith, w.first-within)));
          tidy = rw normal-rows here.tidy;
          moved = moved;
          staged = taken-staged w.some_first w.first-within normal-taken long alive constant;
          marked = same-marks ∙ marked;
        }
      where
        same-marks : length (normalise p.first s).marks ≡ length s.marks
        same-marks = unfold normalise in refl

-- The stages before anything is done.
abbrev fresh : Problem → List Stage
fresh p = set (replicate (vertex_count p) bare) 0 opened

fresh-long : (p : Problem) → length (fresh p) ≡ vertex_count p
fresh-long p = length-set (replicate (vertex_count p) bare) 0 opened ∙ length-replicate (vertex_count p) bare

fresh-bare : (p : Problem) (v : ℕ) → v ≢ 0 → v < vertex_count p → stage_of (fresh p) v ≡ bare
fresh-bare p v d h = get_or-set_other (replicate (vertex_count p) bare) 0 v opened gone d ∙ get_or-replicate (vertex_count p) v bare gone h

fresh-constant : (p : Problem) → WellFormed p → stage_of (fresh p) 0 ≡ opened
fresh-constant p w =
    get_or-set_same (replicate (vertex_count p) bare) 0 opened gone (rw (length-replicate (vertex_count p) bare) (omega (arith, w.some_first, w.first-within)))

fresh_alive : (p : Problem) → WellFormed p → (v : ℕ) → v < vertex_count p → gone? (stage_of (fresh p) v) ≡ false
unfolding gone?
fresh_alive p w v h =
    elim (ℕ_discrete v 0) [
      | yes e ↦ rw e (ap gone? (fresh-constant p w))
      | no e ↦ ap gone? (fresh-bare p v e h)
    ]

module _ {p : Problem} {entry : List ℕ} (fit : Fit p entry) where
  -- The first normalising leaves a steady state.
  pub begin-steady : Steady p entry (normalise p.first (begin p entry))
  unfolding begin
  begin-steady =
      normal-steady fit.well_formed (begin p entry) fit.sound (fresh-long p)
      (λ u h m. fresh_alive p fit.well_formed u (omega (arith, fresh-long p)))
      (rw (normal-rows fit.well_formed (begin p entry) fit.sound (fresh-long p))
      (renewed fit.well_formed.some_first fit.well_formed.first-within entry fit.sound.downward).moves)
      (fresh-constant p fit.well_formed) (length-replicate (vertex_count p) 0)

  -- No vertex but the constant has a diagram in it.
  pub begin-giving : Giving p 1 (normalise p.first (begin p entry))
  unfolding begin has?
  begin-giving =
      record {
        given = λ v l h. absurd (omega arith);
        later = λ v l k h. untouched v (λ e. omega arith) (omega (arith, fit.well_formed.first-within)) (first-unmerged p.first rows v h);
        made = λ v l h m. untouched v (λ e. omega (arith, fit.well_formed.some_first)) h m;
      }
    where
      rows : List ℕ
      rows = (normalise p.first (begin p entry)).rows

      untouched : (v : ℕ) → v ≢ 0 → v < vertex_count p → was_merged? p.first rows v ≡ false → stage_of (normalise p.first (begin p entry)).stages v ≡ bare
      untouched v d h m = go ((normal-taken fit.well_formed (begin p entry) fit.sound (fresh-long p)).fate v m)
        where
          go : Fate p.first rows p.first (vertex_count p - p.first) (fresh p) (normalise p.first (begin p entry)).stages v
              → stage_of (normalise p.first (begin p entry)).stages v ≡ bare
          go (left_alone e f) = e ∙ fresh-bare p v d h
          go (woken e z u l i n t f) =
              clash f
              (ap₂ (λ (x y : Stage). has? x || has? y) (fresh-bare p u (λ k. omega (arith, fit.well_formed.some_first)) (omega (arith, fit.well_formed.first-within)))
              (fresh-bare p v d h))

-- An input given its row.
pub giving-swept :
    {p : Problem} {entry : List ℕ} (s : State) (b : Book) (k : ℕ) → Steady p entry s → k < p.first → p.first ≤ vertex_count p → Giving p k s
    → Giving p (suc k) (swept k (with_book b s))
unfolding swept
giving-swept s b k h l few g =
    record {
      given = λ v i j.
          elim (ℕ_discrete v k) [
            | yes e ↦ rw e (get_or-set_same s.stages k waiting gone (omega (arith, h.staged.long)))
            | no e ↦ get_or-set_other s.stages k v waiting gone e ∙ g.given v i (omega arith)
          ];
      later = λ v i j m. get_or-set_other s.stages k v waiting gone (λ e. omega arith) ∙ g.later v i (omega arith) m;
      made = λ v i j m. get_or-set_other s.stages k v waiting gone (λ e. omega arith) ∙ g.made v i j m;
    }

-- All inputs have their rows.
pub giving-scanning :
    {p : Problem} {entry : List ℕ} (s : State) → Steady p entry s → Giving p p.first s → Unsettled p s → Scanning p (turns_left s.stages) (vertex_count p) s
unfolding has?
giving-scanning s h g u =
    record {
      budget = omega arith;
      within = omega arith;
      first_have = λ v l.
          elim (ℕ_discrete v 0) [
            | yes e ↦ ap (λ (i : ℕ). has? (stage_of s.stages i)) e ∙ ap has? h.staged.constant
            | no e ↦ ap has? (g.given v (omega arith) l)
          ];
      unsettled = u;
    }

-- A vertex opened: one turn fewer is left.
pub scanning-opened :
    {p : Problem} {entry : List ℕ} (n v : ℕ) (s : State) → Steady p entry s → waits? (stage_of s.stages v) ≡ true → Scanning p (suc n) (vertex_count p) s
    → Scanning p n (suc v) (opened_at v s)
unfolding has? turns_of
scanning-opened {p} n v s h w c =
    record {
      budget = omega (arith, turns_set s.stages v opened inside, waiting-turns (stage_of s.stages v) w, c.budget);
      within = omega (arith, inside, h.staged.long);
      first_have = λ u l. same u ∙ c.first_have u l;
      unsettled =
          record {
            unequal = c.unsettled.unequal;
            not_inverse = c.unsettled.not_inverse;
            lacking = rw (same (vertex_of (left_now p s)), same (vertex_of (right_now p s))) c.unsettled.lacking;
          };
    }
  where
    inside : v < length s.stages
    inside = stage-within s.stages v (has_not_gone (stage_of s.stages v) (waits-has (stage_of s.stages v) w))

    same : (u : ℕ) → has? (stage_of (set s.stages v opened) u) ≡ has? (stage_of s.stages u)
    same u =
        elim (ℕ_discrete u v) [
          | yes e ↦ rw e (ap has? (get_or-set_same s.stages v opened gone inside) ∙ sym (waits-has (stage_of s.stages v) w))
          | no e ↦ ap has? (get_or-set_other s.stages v u opened gone e)
        ]

-- A vertex passed over: the scan goes on at the next.
pub scanning-passed :
    {p : Problem} (n v : ℕ) (s : State) → v < vertex_count p → Scanning p n v s → Scanning p n (suc v) s
scanning-passed n v s h c = record { budget = c.budget; within = h; first_have = c.first_have; unsettled = c.unsettled }

module _ {p : Problem} {entry : List ℕ} {n v : ℕ} {s : State} (due : Due p entry n v s) where
  -- A vertex whose product is taken was not merged.
  pub due_alive : gone? (stage_of s.stages v) ≡ false
  due_alive = bare_not_gone (stage_of s.stages v) due.is-bare

  -- A vertex whose product is taken is one of the vertices.
  pub due-within : v < vertex_count p
  due-within = alive_within due.steady v due_alive

  -- A stage with as many turns as a bare vertex adds none.
  pub due-turns : (x : Stage) → turns_of x ≡ 2 → turns_left (set s.stages v x) ≤ n
  unfolding turns_of
  due-turns x e =
      omega
      (arith, turns_set s.stages v x (stage-within s.stages v due_alive), ap turns_of (bare-is (stage_of s.stages v) due.is-bare), due.scanning.budget)

  first-kept : (x : Stage) (u : ℕ) → u < p.first → has? (stage_of (set s.stages v x) u) ≡ true
  first-kept x u l = ap has? (get_or-set_other s.stages v u x gone (λ e. omega (arith, due.made))) ∙ due.scanning.first_have u l

  -- A vertex swept: the scan goes on at the next.
  pub scanning-swept : (b : Book) → Unsettled p (swept v (with_book b s)) → Scanning p n (suc v) (swept v (with_book b s))
  unfolding swept turns_of
  scanning-swept b u = record { budget = due-turns waiting refl; within = due-within; first_have = first-kept waiting; unsettled = u }

  -- A vertex dropped: the scan goes on at the next.
  pub scanning-dropped : (b : Book) → Unsettled p (drop_vertex v b s) → Scanning p n (suc v) (drop_vertex v b s)
  unfolding drop_vertex turns_of
  scanning-dropped b u = record { budget = due-turns dropped refl; within = due-within; first_have = first-kept dropped; unsettled = u }
