-- No vertex starves: below the scan's place every bare AND has an operand that is not at rest.
use Prim.Native.Nat.{◌-◌, ◌<◌, ◌≤◌, suc, ℕ}
use Rattle.aig.specs.Fold.{Unfolded}
use Rattle.aig.specs.Literal.{vertex_of}
use Rattle.aig.specs.Lookup.{first_word, second_word}
use Rattle.aig.specs.Pairs.{SamePair, crossed, straight}
use Rattle.product_model.specs.Run.{Book}
use Rattle.sweep_model.proofs.Choices.{LowestTwin}
use Rattle.sweep_model.proofs.Merger.{merger_moves, merger_steady, merger-taken}
use Rattle.sweep_model.proofs.Rows.{resolve-vertex}
use Rattle.sweep_model.proofs.Stages.{bare_not_gone, stage-within, waits-wake}
use Rattle.sweep_model.proofs.Steady.{alive_unmerged, due_alive, due-within}
use Rattle.sweep_model.proofs.Takes.{Fate, Newly, Taken, either?, left_alone, taken-bare, target, target-fate, woken}
use Rattle.sweep_model.proofs.Tidy.{made-merged, merged-equal, resolve-kept}
use Rattle.sweep_model.specs.Fit.{Downward, Fit, vertex_count}
use Rattle.sweep_model.specs.Normalise.{merged?, resolve, wake, was_merged?}
use Rattle.sweep_model.specs.State.{Problem, Stage, State, bare?, gone, gone?, has?, open?, opened, stage_of, waiting, waits?, with_book}
use Rattle.sweep_model.specs.code.Steady.{Due, Giving, Steady, Tidy}
use Rattle.sweep_model.specs.Sweep.{at, meet, ready?}
use Rattle.truth.proofs.Booleans.{bool_cases, clash, not_true, or_right}
use borrow.Author.Tests.{le-leb}
use lib.ListN.{length, set}
use lib.Seq.{get_or-set_other, get_or-set_same}
use mathlib.Core.Bool.{Bool, ◌&&◌, false, true}
use mathlib.Core.List.{List}
use mathlib.Core.Logic.{◌≢◌, inl, inr, ⊎_elim}
use mathlib.Core.Path.{◌∙◌, ◌≡◌, ap, ap₂, refl, sym}
use native.Mathlib.Decide.{dec_lt, ℕ_discrete}
use native.Mathlib.Omega.{arith}

-- Vertex v has an operand that is not at rest: open and not waiting.
pub data Delayed (rows : List ℕ) (stages : List Stage) (v : ℕ) : Type 0 where
  by_first : stage_of stages (vertex_of (first_word rows v)) ≢ opened → Delayed rows stages v
  by-second : stage_of stages (vertex_of (second_word rows v)) ≢ opened → Delayed rows stages v

-- Every bare AND below vertex k has such an operand.
abbrev pub NoneStarves : ℕ → List ℕ → List Stage → ℕ → Type 0
NoneStarves first rows stages k = (v : ℕ) → first ≤ v → v < k → bare? (stage_of stages v) ≡ true → Delayed rows stages v

-- A vertex whose operands keep their stages is delayed still.
delayed-still :
    {rows : List ℕ} (old new : List Stage) (v : ℕ) → stage_of new (vertex_of (first_word rows v)) ≡ stage_of old (vertex_of (first_word rows v))
    → stage_of new (vertex_of (second_word rows v)) ≡ stage_of old (vertex_of (second_word rows v)) → Delayed rows old v → Delayed rows new v
delayed-still old new v a b (by_first h) = by_first (λ e. h (sym a ∙ e))
delayed-still old new v a b (by-second h) = by-second (λ e. h (sym b ∙ e))

-- A stage other than bare, stored for the vertex to which the scan has come: operands are lower.
pub starving-set :
    {first count : ℕ} {rows : List ℕ} → Downward first count rows → (stages : List Stage) (v : ℕ) (x : Stage) → v < length stages → v ≤ count
    → bare? x ≡ false → NoneStarves first rows stages v → NoneStarves first rows (set stages v x) (suc v)
starving-set d stages v x inside few lacks h u made l e =
    elim (ℕ_discrete u v) [
      | yes i ↦ clash (rw i at e) (ap bare? (get_or-set_same stages v x gone inside) ∙ lacks)
      | no i ↦ (let k : u < v = omega arith in
          delayed-still stages (set stages v x) u
          (get_or-set_other stages v _ x gone (λ j. omega (arith, d.first_below u made (omega arith))))
          (get_or-set_other stages v _ x gone (λ j. omega (arith, d.second_below u made (omega arith))))
          (h u made k (sym (ap bare? (get_or-set_other stages v u x gone i)) ∙ e)))
    ]

-- A woken vertex is not at rest.
wake_stirs : (x : Stage) → wake x ≢ opened
unfolding waits?
wake_stirs x e = clash (waits-wake x) (ap waits? e)

-- A vertex without a diagram is not at rest.
lacks_stirs : (x : Stage) → has? x ≡ false → x ≢ opened
unfolding has?
lacks_stirs x h e = clash (ap has? e) h

module _ {first count : ℕ} {rows : List ℕ} {old new : List Stage} (d : Downward first count rows) (t : Tidy first count rows)
    (h : Taken first rows first (count - first) old new) where
  -- A vertex that was not merged and was not at rest is not at rest after handing over.
  stirs_still : (v : ℕ) → was_merged? first rows v ≡ false → stage_of old v ≢ opened → stage_of new v ≢ opened
  stirs_still v m k = go (h.fate v m)
    where
      go : Fate first rows first (count - first) old new v → stage_of new v ≢ opened
      go (left_alone a f) = λ e. k (sym a ∙ e)
      go (woken a z u l i w j f) = λ e. wake_stirs (stage_of old v) (sym a ∙ e)

  -- A target is never left at rest.
  target_stirs : (v : ℕ) → v < count → Newly first rows old v → target rows v ≢ 0 → stage_of new (target rows v) ≢ opened
  target_stirs v l w nonzero =
      ⊎_elim (λ a e. wake_stirs (stage_of old (target rows v)) (sym a ∙ e)) (λ a e. lacks_stirs (stage_of old (target rows v)) (lacks a.1) (sym a.0 ∙ e))
      (target-fate t h v l w nonzero)
    where
      lacks : either? old v (target rows v) ≡ false → has? (stage_of old (target rows v)) ≡ false
      lacks e = not_true (has? (stage_of old (target rows v))) (λ f. clash (or_right (has? (stage_of old v)) (has? (stage_of old (target rows v))) f) e)

  -- So what became of a literal that was not at rest is not at rest.
  pub became-stirs :
      (r : ℕ) → vertex_of r < count → gone? (stage_of old (vertex_of r)) ≡ false → stage_of old (vertex_of r) ≢ opened → vertex_of (resolve rows r) ≢ 0
      → stage_of new (vertex_of (resolve rows r)) ≢ opened
  became-stirs r l alive k nonzero =
      elim (bool_cases (was_merged? first rows (vertex_of r))) [
        | inl m ↦ (let e = resolve-vertex rows r (merged-equal first rows (vertex_of r) m) in
            rw e (target_stirs (vertex_of r) l (record { is-merged = m; not_gone = alive }) (rw e at nonzero)))
        | inr m ↦ rw (resolve-kept d r m) (stirs_still (vertex_of r) m k)
      ]

-- A vertex that is not open is not at rest.
shut_stirs : (x : Stage) → open? x ≡ false → x ≢ opened
unfolding open?
shut_stirs x h e = clash (ap open? e) h

module _ {p : Problem} {entry : List ℕ} {s : State} (steady : Steady p entry s) (v : ℕ) (made : p.first ≤ v) (within : v < vertex_count p) where
  -- The first operand of an AND is lower.
  pub first-lower : vertex_of (first_word s.rows v) < v
  first-lower = omega (arith, steady.sound.downward.first_below v made within)

  -- The second is lower.
  pub second-lower : vertex_of (second_word s.rows v) < v
  second-lower = omega (arith, steady.sound.downward.second_below v made within)

  -- The first is not merged.
  pub first_alive : gone? (stage_of s.stages (vertex_of (first_word s.rows v))) ≡ false
  first_alive = steady.staged.gone-merged (vertex_of (first_word s.rows v)) (omega (arith, first-lower)) ∙ steady.tidy.first_stays v made within

  -- The second is not merged.
  pub second_alive : gone? (stage_of s.stages (vertex_of (second_word s.rows v))) ≡ false
  second_alive = steady.staged.gone-merged (vertex_of (second_word s.rows v)) (omega (arith, second-lower)) ∙ steady.tidy.second_stays v made within

  module _ (alive : gone? (stage_of s.stages v) ≡ false) where
    plain_row : Unfolded (first_word s.rows v) (second_word s.rows v)
    plain_row =
        steady.tidy.unfolded v made within (sym (made-merged p.first s.rows v made) ∙ sym (steady.staged.gone-merged v within) ∙ alive)

    -- The first operand of an unmerged AND is not the constant.
    pub first-proper : vertex_of (first_word s.rows v) ≢ 0
    first-proper e = omega (arith, plain_row.unfixed)

    -- Nor is the second.
    pub second-proper : vertex_of (second_word s.rows v) ≢ 0
    second-proper e = omega (arith, plain_row.unfixed, plain_row.ordered)

-- Before the turns begin no vertex but the constant is at rest.
pub giving-starves :
    {p : Problem} {entry : List ℕ} (s : State) → Steady p entry s → Giving p p.first s → NoneStarves p.first s.rows s.stages (vertex_count p)
unfolding open?
giving-starves {p} s h g v made l e =
    by_first
    (shut_stirs (stage_of s.stages w)
    (elim (dec_lt w p.first) [
      | yes i ↦ ap open? (g.given w nonzero i)
      | no i ↦ ap open? (g.made w (omega arith) (omega (arith, first-lower h v made l)) (h.tidy.first_stays v made l))
    ]))
  where
    w : ℕ
    w = vertex_of (first_word s.rows v)

    nonzero : 1 ≤ w
    nonzero = let d = first-proper h v made l (bare_not_gone (stage_of s.stages v) e) in omega arith

-- An AND that is bare and not ready has an operand that is not open.
pub passed-starves :
    {p : Problem} {entry : List ℕ} (s : State) (v : ℕ) → Steady p entry s → ready? p v s ≡ false → NoneStarves p.first s.rows s.stages v
    → NoneStarves p.first s.rows s.stages (suc v)
unfolding ready?
passed-starves {p} s v h e f u made l k =
    elim (ℕ_discrete u v) [
      | yes i ↦ rw i (here (open? one) refl (open? two) refl
          (sym (ap (λ (b : Bool). b && open? one && open? two) (ap₂ ◌&&◌ (le-leb p.first v (omega arith)) (rw i at k))) ∙ e))
      | no i ↦ f u made (omega arith) k
    ]
  where
    one : Stage
    one = stage_of s.stages (vertex_of (first_word s.rows v))

    two : Stage
    two = stage_of s.stages (vertex_of (second_word s.rows v))

    here : (a : Bool) → open? one ≡ a → (b : Bool) → open? two ≡ b → a && b ≡ false → Delayed s.rows s.stages v
    here true i true j c = clash refl c
    here true i false j c = by-second (shut_stirs two j)
    here false i b j c = by_first (shut_stirs one i)

module _ {p : Problem} {entry : List ℕ} {n v : ℕ} {s : State} (due : Due p entry n v s) where
  -- The vertex whose product is taken gets another stage.
  pub due-starves :
      (x : Stage) → bare? x ≡ false → NoneStarves p.first s.rows s.stages v → NoneStarves p.first s.rows (set s.stages v x) (suc v)
  due-starves x e f =
      let inside = stage-within s.stages v (due_alive due) in
      starving-set due.steady.sound.downward s.stages v x inside (omega (arith, inside, due.steady.staged.long)) e f

  module _ (fit : Fit p entry) (w : ℕ) (twin : LowestTwin p s.stages v 0 (length s.stages) w) (b : Book)
      (f : NoneStarves p.first s.rows s.stages v) where
    abbrev after : State
    after = meet p v (with_book b s) (at w)

    -- The operands of a bare AND below are what they became, and none of them is left at rest.
    pub merger_starves : NoneStarves p.first after.rows after.stages (suc v)
    unfolding bare?
    merger_starves u made l e = go (f u made below (sym (ap bare? (kept u apart)) ∙ old)) ((merger_moves fit due w twin b).pairs u made within unmerged)
      where
        steady : Steady p entry after
        steady = merger_steady fit due w twin b

        alive : gone? (stage_of after.stages u) ≡ false
        alive = bare_not_gone (stage_of after.stages u) e

        within : u < vertex_count p
        within = omega (arith, due-within due)

        stays : was_merged? p.first after.rows u ≡ false
        stays = alive_unmerged steady u alive

        unmerged : merged? after.rows u ≡ false
        unmerged = sym (made-merged p.first after.rows u made) ∙ stays

        kept : (x : ℕ) → x ≢ v → stage_of (set s.stages v waiting) x ≡ stage_of s.stages x
        kept x d = get_or-set_other s.stages v x waiting gone d

        old : bare? (stage_of (set s.stages v waiting) u) ≡ true
        old = taken-bare (merger-taken fit due w twin b) u stays e

        apart : u ≢ v
        apart i = clash (rw i at old) (ap bare? (get_or-set_same s.stages v waiting gone (stage-within s.stages v (due_alive due))))

        below : u < v
        below = omega (arith, apart)

        became : (r : ℕ) → vertex_of r < u → gone? (stage_of s.stages (vertex_of r)) ≡ false → vertex_of (resolve after.rows r) ≢ 0
            → stage_of s.stages (vertex_of r) ≢ opened → stage_of after.stages (vertex_of (resolve after.rows r)) ≢ opened
        became r lower g nonzero d =
            let same = kept (vertex_of r) (λ i. omega (arith, below)) in
            became-stirs steady.sound.downward steady.tidy (merger-taken fit due w twin b) r (omega (arith, within)) (ap gone? same ∙ g)
            (λ i. d (sym same ∙ i)) nonzero

        from_first : vertex_of (resolve after.rows (first_word s.rows u)) ≢ 0 → stage_of s.stages (vertex_of (first_word s.rows u)) ≢ opened
            → stage_of after.stages (vertex_of (resolve after.rows (first_word s.rows u))) ≢ opened
        from_first = became (first_word s.rows u) (first-lower due.steady u made within) (first_alive due.steady u made within)

        from_second : vertex_of (resolve after.rows (second_word s.rows u)) ≢ 0 → stage_of s.stages (vertex_of (second_word s.rows u)) ≢ opened
            → stage_of after.stages (vertex_of (resolve after.rows (second_word s.rows u))) ≢ opened
        from_second = became (second_word s.rows u) (second-lower due.steady u made within) (second_alive due.steady u made within)

        proper-first : vertex_of (first_word after.rows u) ≢ 0
        proper-first = first-proper steady u made within alive

        proper-second : vertex_of (second_word after.rows u) ≢ 0
        proper-second = second-proper steady u made within alive

        go : Delayed s.rows s.stages u
            → SamePair (first_word after.rows u) (second_word after.rows u) (resolve after.rows (first_word s.rows u)) (resolve after.rows (second_word s.rows u))
            → Delayed after.rows after.stages u
        go (by_first d) (straight i j) = by_first (rw i (from_first (rw i at proper-first) d))
        go (by_first d) (crossed i j) = by-second (rw j (from_first (rw j at proper-second) d))
        go (by-second d) (straight i j) = by-second (rw j (from_second (rw j at proper-second) d))
        go (by-second d) (crossed i j) = by_first (rw i (from_second (rw i at proper-first) d))
