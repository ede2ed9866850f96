-- Where none waits and none is dropped every unmerged vertex has a diagram, and then the sweep has replied: after Size some vertex is dropped.
use Prim.Native.Nat.{◌*◌, ◌<◌, ◌≤◌, suc, zero, ℕ}
use Rattle.aig.specs.Literal.{vertex_of}
use Rattle.aig.specs.Lookup.{first_word, second_word}
use Rattle.sweep_model.proofs.Bound.{claim_on}
use Rattle.sweep_model.proofs.Choices.{none_dropped, pick_none, pick_waits, twin_at_lem}
use Rattle.sweep_model.proofs.Halt.{sweep_quiet}
use Rattle.sweep_model.proofs.Induction.{Keeps, Place, Quiet, giving, go_claim, scanning, start_claim, unclaimed}
use Rattle.sweep_model.proofs.Rows.{resolve-within}
use Rattle.sweep_model.proofs.Stages.{bare-lacks, has_not_gone, rests-is, stage_cases, stage-within, waits-has}
use Rattle.sweep_model.proofs.Starving.{Delayed, NoneStarves, by_first, by-second, due-starves, first_alive, first-lower, giving-starves, merger_starves, passed-starves, second_alive, second-lower, starving-set}
use Rattle.sweep_model.proofs.Tidy.{resolve-unmerged}
use Rattle.sweep_model.specs.Fit.{Fit, vertex_count}
use Rattle.sweep_model.specs.Normalise.{resolve, was_merged?}
use Rattle.sweep_model.specs.State.{Problem, Stage, State, bare?, dropped, dropped?, gone?, has?, opened, stage_of, waiting, waits?}
use Rattle.sweep_model.specs.code.Steady.{Steady, Unsettled, have_now?}
use Rattle.sweep_model.specs.Sweep.{any_dropped?, drop_vertex, go, on, start, sweep, swept, turns_left, undecided}
use Rattle.sweep_model.specs.declared.Cause.TheVariants.{Size}
use Rattle.truth.proofs.Booleans.{bool_cases, clash}
use lib.ListN.{length}
use mathlib.Core.Bool.{◌&&◌, false, true}
use mathlib.Core.List.{List}
use mathlib.Core.Logic.{◌≢◌, ◌⊎◌, inl, inr, ⊎_elim}
use mathlib.Core.Path.{◌∙◌, ◌≡◌, ap₂, refl}
use native.Mathlib.Decide.{dec_lt}
use native.Mathlib.Omega.{arith}

-- A state of the sweep in which none waits and no vertex starves.
pub record Rest (p : Problem) (entry : List ℕ) (s : State) : Type 0 where
  pub steady : Steady p entry s
  pub first_have : (v : ℕ) → v < p.first → has? (stage_of s.stages v) ≡ true
  pub unsettled : Unsettled p s
  pub none-waits : (v : ℕ) → waits? (stage_of s.stages v) ≡ false
  pub none_starves : NoneStarves p.first s.rows s.stages (vertex_count p)

-- A vertex without a diagram that is not merged.
pub data Lacking (stages : List Stage) (v : ℕ) : Type 0 where
  is-bare : bare? (stage_of stages v) ≡ true → Lacking stages v
  is-dropped : dropped? (stage_of stages v) ≡ true → Lacking stages v

-- Where none waits, a vertex that is neither merged nor at rest lacks a diagram.
stirs_lacks : (stages : List Stage) (v : ℕ) → gone? (stage_of stages v) ≡ false → waits? (stage_of stages v) ≡ false → stage_of stages v ≢ opened → Lacking stages v
stirs_lacks stages v alive calm h =
    ⊎_elim is-bare (λ k. ⊎_elim is-dropped (λ e. absurd (h (rests-is (stage_of stages v) e calm))) k) (stage_cases (stage_of stages v) alive)

module _ {p : Problem} {entry : List ℕ} (fit : Fit p entry) where
  -- From the first turn on no vertex starves below the scan's place.
  unfoldable pub NotStarving : Place → State → Type 0
  NotStarving (giving k) s = Unit {0}
  NotStarving (scanning n k) s = NoneStarves p.first s.rows s.stages k

  -- Each step of the sweep keeps it.
  pub no_starving : Keeps p entry NotStarving (λ x k s. Unit {0})
  unfolding NotStarving swept drop_vertex bare?
  no_starving =
      unclaimed
      (record {
        begins = tt;
        gives_row = λ v b s h g l m e r. tt;
        starts = λ s h g u r. giving-starves s h g;
        opens = λ n v s h c e r.
            let w = pick_waits p s.stages v e in
            let inside = stage-within s.stages v (has_not_gone (stage_of s.stages v) (waits-has (stage_of s.stages v) w)) in
            let l : v < vertex_count p = omega (arith, h.staged.long) in
            starving-set h.sound.downward s.stages v opened inside (omega arith) refl (λ u made k. r u made (omega arith));
        passes = λ n v s h c l e r. passed-starves s v h e r;
        drops = λ n v b s d e f r. due-starves d dropped refl r;
        sweeps = λ n v b s d e f t r. due-starves d waiting refl r;
        merges = λ n v w b s d e f t r. merger_starves d fit w (twin_at_lem p s.stages v 0 (length s.stages) w t) b r;
      })

  -- So no vertex starves where the turns have ended.
  quiet_rest : {s : State} → Quiet fit no_starving s → Rest p entry s
  unfolding NotStarving
  quiet_rest {s} q =
      record {
        steady = q.reached.steady;
        first_have = q.reached.scanned.first_have;
        unsettled = q.reached.scanned.unsettled;
        none-waits = pick_none p s.stages q.none-waits;
        none_starves = q.reached.kept;
      }

  -- Where the start goes on and the turns end without a verdict, none waits and no vertex starves.
  pub turns-rest : (s t : State) → start p entry ≡ on s → go p s ≡ on t → Rest p entry t
  unfolding go
  turns-rest s t e f = quiet_rest (claim_on (go_claim fit no_starving (turns_left s.stages) s (claim_on (start_claim fit no_starving) e)) f)

  -- So it is after Size.
  pub sweep-rests : (sweep p entry).verdict ≡ undecided Size → Rest p entry (sweep p entry).left
  sweep-rests e = quiet_rest (sweep_quiet fit no_starving e)

module _ {p : Problem} {entry : List ℕ} {s : State} (rest : Rest p entry s) where
  lacks-here : (v : ℕ) → gone? (stage_of s.stages v) ≡ false → stage_of s.stages v ≢ opened → Lacking s.stages v
  lacks-here v alive d = stirs_lacks s.stages v alive (rest.none-waits v) d

  -- When none waits, every bare AND has an operand that is bare or dropped.
  pub operand-lacks :
      (v : ℕ) → p.first ≤ v → v < vertex_count p → bare? (stage_of s.stages v) ≡ true
      → Lacking s.stages (vertex_of (first_word s.rows v)) ⊎ Lacking s.stages (vertex_of (second_word s.rows v))
  operand-lacks v made l e = go (rest.none_starves v made l e)
    where
      go : Delayed s.rows s.stages v → Lacking s.stages (vertex_of (first_word s.rows v)) ⊎ Lacking s.stages (vertex_of (second_word s.rows v))
      go (by_first d) = inl (lacks-here (vertex_of (first_word s.rows v)) (first_alive rest.steady v made l) d)
      go (by-second d) = inr (lacks-here (vertex_of (second_word s.rows v)) (second_alive rest.steady v made l) d)

  module _ (calm : any_dropped? s.stages ≡ false) where
    lacks-bare : (v : ℕ) → Lacking s.stages v → bare? (stage_of s.stages v) ≡ true
    lacks-bare v (is-bare e) = e
    lacks-bare v (is-dropped e) = clash e (none_dropped s.stages calm v)

    -- No vertex below n is bare: the lowest would have a lower one.
    none_bare : (n v : ℕ) → v < n → v < vertex_count p → bare? (stage_of s.stages v) ≡ true → ⊥
    none_bare zero v l m e = omega arith
    none_bare (suc n) v l m e =
        elim (dec_lt v p.first) [
          | yes i ↦ clash (rest.first_have v i) (bare-lacks (stage_of s.stages v) e)
          | no i ↦ (let made : p.first ≤ v = omega arith in
              let a = first-lower rest.steady v made m in
              let b = second-lower rest.steady v made m in
              ⊎_elim (λ k. none_bare n (vertex_of (first_word s.rows v)) (omega arith) (omega arith) (lacks-bare (vertex_of (first_word s.rows v)) k))
              (λ k. none_bare n (vertex_of (second_word s.rows v)) (omega arith) (omega arith) (lacks-bare (vertex_of (second_word s.rows v)) k))
              (operand-lacks v made m e))
        ]

    -- Where none waits and none is dropped every vertex that was not merged has a diagram.
    pub all_have : (v : ℕ) → v < vertex_count p → was_merged? p.first s.rows v ≡ false → has? (stage_of s.stages v) ≡ true
    all_have v l m =
        ⊎_elim (λ e. absurd (none_bare (suc v) v (omega arith) l e))
        (λ k. ⊎_elim (λ e. clash e (none_dropped s.stages calm v)) (λ e. e) k)
        (stage_cases (stage_of s.stages v) (rest.steady.staged.gone-merged v l ∙ m))

    -- So both literals looked at have diagrams.
    pub both_have : Fit p entry → have_now? p s ≡ true
    both_have fit = ap₂ ◌&&◌ (one p.left fit.well_formed.left-within) (one p.right fit.well_formed.right-within)
      where
        one : (r : ℕ) → r < 2 * vertex_count p → has? (stage_of s.stages (vertex_of (resolve s.rows r))) ≡ true
        one r h =
            all_have (vertex_of (resolve s.rows r)) (omega (arith, resolve-within rest.steady.sound.downward r (vertex_count p) (omega arith) h))
            (resolve-unmerged rest.steady.sound.downward rest.steady.tidy r (omega arith))

  -- So some vertex is dropped: else both would have diagrams, and the look after the last product would have ended the sweep.
  pub rest-dropped : Fit p entry → any_dropped? s.stages ≡ true
  rest-dropped fit =
      elim (bool_cases (any_dropped? s.stages)) [
        | inl e ↦ e
        | inr calm ↦ clash (both_have calm fit) rest.unsettled.lacking
      ]

-- Where the start goes on and the turns end without a verdict, none waits and some vertex is dropped.
pub turns-dropped :
    {p : Problem} {entry : List ℕ} → Fit p entry → (s t : State) → start p entry ≡ on s → go p s ≡ on t → any_dropped? t.stages ≡ true
turns-dropped fit s t e f = rest-dropped (turns-rest fit s t e f) fit
