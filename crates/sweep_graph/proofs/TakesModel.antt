-- Handing over by words is the model's handing over of stages.
use Prim.Native.Nat.{◌*◌, ◌+◌, ◌-◌, ◌<◌, ◌≤◌, suc, zero, ℕ}
use Rattle.aig.specs.Literal.{vertex_of}
use Rattle.aig.specs.Lookup.{first_word}
use Rattle.sweep_graph.proofs.GraphLaws.{graph-kept}
use Rattle.sweep_graph.proofs.StageLaws.{stage_at, stage_word_lem, stages_length, stages-set}
use Rattle.sweep_graph.proofs.TakeLaws.{handed_room, take-room}
use Rattle.sweep_graph.specs.code.Graph.{Graph}
use Rattle.sweep_graph.specs.code.Stages.{stage_word, stages_of, word_stage}
use Rattle.sweep_graph.specs.code.Takes.{Held, TakesRoom, handed_over, has_word, leave, take_words, takes_words, wake_words}
use Rattle.sweep_model.specs.Normalise.{merged?, normalise, normalise_from, take_at, takes_from, wake, wake_at}
use Rattle.sweep_model.specs.State.{Stage, State, gone, gone?, has?, stage_of}
use borrow.Author.Tests.{ne_eqb}
use lib.ListN.{length, set}
use mathlib.Core.Bool.{Bool, ◌&&◌, ◌||◌, cond, false, not, true}
use mathlib.Core.List.{List}
use mathlib.Core.Path.{◌∙◌, ◌≡◌, ap, ap₂, refl, sym}
use native.Mathlib.Omega.{arith}

-- A vertex waits again.
wake_models : (count w : ℕ) (stages : List ℕ) → w < count → 2 * count ≤ length stages → stages_of (wake_words w stages) count ≡ wake_at w (stages_of stages count)
unfolding wake_words wake_at
wake_models count zero stages l room = refl
wake_models count (suc w) stages l room =
    rw (ne_eqb (suc w) 0 (λ e. omega arith))
    (stages-set stages count (suc w) (stage_word (wake (word_stage (first_word stages (suc w))))) l room
    ∙ ap (set (stages_of stages count) (suc w)) (stage_word_lem (wake (word_stage (first_word stages (suc w)))) ∙ ap wake (sym (stage_at stages count (suc w) l))))

module _ (count : ℕ) (pairs : List ℕ) (v : ℕ) (h : Held) (within : v < count) (target : vertex_of (first_word pairs v) < count) (r : TakesRoom count h) where
  abbrev w : ℕ
  w = vertex_of (first_word pairs v)

  abbrev before : List Stage
  before = stages_of h.stages count

  has-at : (u : ℕ) → u < count → has_word h.stages u ≡ has? (stage_of before u)
  has-at u l = ap has? (sym (stage_at h.stages count u l))

  woken : stages_of (wake_words w h.stages) count ≡ wake_at w before
  woken = wake_models count w h.stages target r.stages-long

  -- The stages after handing over.
  abbrev handed : List Stage
  handed = cond (has? (stage_of before v) || has? (stage_of before w)) (wake_at w before) before

  either :
      (a b : Bool) (x y : Held) → stages_of x.stages count ≡ wake_at w before → stages_of y.stages count ≡ wake_at w before
      → stages_of (cond a x (cond b y h)).stages count ≡ cond (a || b) (wake_at w before) before
  either true b x y ex ey = ex
  either false true x y ex ey = ey
  either false false x y ex ey = refl

  handed_models : stages_of (handed_over v (first_word pairs v) h).stages count ≡ handed
  unfolding handed_over
  handed_models =
      either (has_word h.stages v) (has_word h.stages w) _ _ woken woken
      ∙ ap₂ (λ (a b : Bool). cond (a || b) (wake_at w before) before) (has-at v within) (has-at w target)

  left_models : stages_of (leave v (handed_over v (first_word pairs v) h)).stages count ≡ set handed v gone
  left_models =
      stages-set (handed_over v (first_word pairs v) h).stages count v (stage_word gone) within
      (handed_room v (first_word pairs v) h within target r).stages-long
      ∙ ap₂ (λ (l : List Stage) (s : Stage). set l v s) handed_models (stage_word_lem gone)

  newly :
      (a b : Bool) (x : Held) {after : List Stage} → stages_of x.stages count ≡ after
      → stages_of (cond a (cond b h x) h).stages count ≡ cond (a && not b) after before
  newly true true x e = refl
  newly true false x e = e
  newly false b x e = refl

  -- One vertex's turn.
  pub take_models : stages_of (take_words pairs v h).stages count ≡ take_at pairs v (stages_of h.stages count)
  unfolding take_words take_at
  take_models =
      newly (merged? pairs v) (gone? (word_stage (first_word h.stages v))) (leave v (handed_over v (first_word pairs v) h)) left_models
      ∙ ap (λ (b : Bool). cond (merged? pairs v && not b) (set handed v gone) before) (ap gone? (sym (stage_at h.stages count v within)))

-- n vertices' turns.
pub takes-models :
    {pairs : List ℕ} {first count : ℕ} → Graph first count pairs → (n v : ℕ) (h : Held) → first ≤ v → v + n ≤ count → TakesRoom count h
    → stages_of (takes_words pairs v n h).stages count ≡ takes_from pairs v n (stages_of h.stages count)
unfolding takes_words takes_from
takes-models g zero v h from to r = refl
takes-models {pairs} {first} {count} g (suc n) v h from to r =
    let within : v < count = omega arith in
    let target : vertex_of (first_word pairs v) < count = omega (arith, g.downward.first_below v from within) in
    takes-models g n (suc v) (take_words pairs v h) (omega arith) (omega arith) (take-room pairs v h within target r)
    ∙ ap (takes_from pairs (suc v) n) (take_models count pairs v h within target r)

-- Normalising and then handing over is the model's normalising.
module _ {first count : ℕ} (s : State) (h : Held) (g : Graph first count s.rows) (r : TakesRoom count h) (same : s.stages ≡ stages_of h.stages count) where
  made : length s.stages - first ≡ count - first
  made = ap (λ (l : List Stage). length l - first) same ∙ ap (λ (n : ℕ). n - first) (stages_length h.stages count)

  -- The rows.
  pub normalise-rows : (normalise first s).rows ≡ normalise_from s.rows first (count - first)
  unfolding normalise
  normalise-rows = ap (normalise_from s.rows first) made

  -- The stages.
  pub normalise-stages :
      (normalise first s).stages ≡ stages_of (takes_words (normalise_from s.rows first (count - first)) first (count - first) h).stages count
  unfolding normalise
  normalise-stages =
      rw (made, same)
      (sym (takes-models (graph-kept g) (count - first) first h (omega arith) (omega (arith, g.first-within)) r))
