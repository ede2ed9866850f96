-- What newly merged vertices hand over, vertex by vertex.
use Prim.Native.Nat.{◌+◌, ◌-◌, ◌<◌, ◌≤◌, suc, zero, ℕ}
use Rattle.aig.specs.Literal.{vertex_of}
use Rattle.aig.specs.Lookup.{first_word}
use Rattle.sweep_model.proofs.Stages.{bare-wake, gone-is, gone-wake, has-wake, stage-within, wake-wake, woken_constant, woken_length, woken_other, woken_same}
use Rattle.sweep_model.proofs.Tidy.{first-unmerged, made-merged, merged-made}
use Rattle.sweep_model.specs.Fit.{Downward}
use Rattle.sweep_model.specs.Normalise.{merged?, take_at, takes_from, wake, wake_at, was_merged?}
use Rattle.sweep_model.specs.State.{Stage, bare?, gone, gone?, has?, opened, stage_of}
use Rattle.sweep_model.specs.code.Steady.{Staged, Tidy}
use Rattle.truth.proofs.Booleans.{clash}
use lib.ListN.{length, length-set, set}
use lib.Seq.{get_or-set_other, get_or-set_same}
use mathlib.Core.Bool.{Bool, ◌&&◌, ◌||◌, cond, false, not, true}
use mathlib.Core.List.{List}
use mathlib.Core.Logic.{◌≢◌, ◌⊎◌, inl, inr}
use mathlib.Core.Path.{◌∙◌, ◌≡◌, ap, ap₂, refl, subst, sym}
use native.Mathlib.Decide.{ℕ_discrete}
use native.Mathlib.Omega.{arith}

-- The vertex of the first word of a row: what a merged vertex was merged into.
abbrev pub target : List ℕ → ℕ → ℕ
target rows v = vertex_of (first_word rows v)

-- A vertex that was merged and whose stage does not say so yet.
pub record Newly (first : ℕ) (rows : List ℕ) (stages : List Stage) (v : ℕ) : Type 0 where
  pub is-merged : was_merged? first rows v ≡ true
  pub not_gone : gone? (stage_of stages v) ≡ false

-- Whether vertex v or vertex u has a diagram.
abbrev pub either? : List Stage → ℕ → ℕ → Bool
either? stages v u = has? (stage_of stages v) || has? (stage_of stages u)

-- What n vertices from k on do to vertex u, which was not merged: it keeps its stage, and none that was newly merged into it had a diagram, nor had it;
-- or it is woken.
pub data Fate (first : ℕ) (rows : List ℕ) (k n : ℕ) (old new : List Stage) (u : ℕ) : Type 0 where
  left_alone : stage_of new u ≡ stage_of old u
      → ((v : ℕ) → k ≤ v → v < k + n → Newly first rows old v → target rows v ≡ u → u ≢ 0 → either? old v u ≡ false) → Fate first rows k n old new u
  woken : stage_of new u ≡ wake (stage_of old u) → u ≢ 0 → (v : ℕ) → k ≤ v → v < k + n → Newly first rows old v → target rows v ≡ u → either? old v u ≡ true
      → Fate first rows k n old new u

-- What n vertices from k on do to all: those that were merged are gone.
pub record Taken (first : ℕ) (rows : List ℕ) (k n : ℕ) (old new : List Stage) : Type 0 where
  pub long : length new ≡ length old
  pub goes : (v : ℕ) → k ≤ v → v < k + n → was_merged? first rows v ≡ true → stage_of new v ≡ gone
  pub below : (v : ℕ) → v < k → was_merged? first rows v ≡ true → stage_of new v ≡ stage_of old v
  pub above : (v : ℕ) → k + n ≤ v → was_merged? first rows v ≡ true → stage_of new v ≡ stage_of old v
  pub fate : (u : ℕ) → was_merged? first rows u ≡ false → Fate first rows k n old new u

module _ {first count : ℕ} {rows : List ℕ} (d : Downward first count rows) (t : Tidy first count rows) where
  module _ (v : ℕ) (stages : List Stage) (long : length stages ≡ count) (made : first ≤ v) where
    apart : (u : ℕ) → was_merged? first rows v ≡ true → was_merged? first rows u ≡ false → u ≢ v
    apart u m e k = clash m (sym (ap (was_merged? first rows) k) ∙ e)

    -- Not newly merged.
    unmoved : (Newly first rows stages v → ⊥) → (was_merged? first rows v ≡ true → gone? (stage_of stages v) ≡ true) → Taken first rows v 1 stages stages
    unmoved not-newly is-gone =
        record {
          long = refl;
          goes = λ u l h m.
              let e : u ≡ v = omega arith in
              ap (stage_of stages) e ∙ gone-is (stage_of stages v) (is-gone (rw e at m));
          below = λ u h m. refl;
          above = λ u h m. refl;
          fate = λ u m. left_alone refl (λ x l h w. let e : x ≡ v = omega arith in absurd (not-newly (subst (Newly first rows stages) e w)));
        }

    module _ (new : Newly first rows stages v) where
      inside : v < length stages
      inside = stage-within stages v new.not_gone

      sinks : target rows v < v
      sinks = omega (arith, d.first_below v made (omega (arith, inside)))

      stays : was_merged? first rows (target rows v) ≡ false
      stays = t.first_stays v made (omega (arith, inside))

      -- Merged with no diagram to hand over.
      leaves : either? stages v (target rows v) ≡ false → Taken first rows v 1 stages (set stages v gone)
      leaves none =
          record {
            long = length-set stages v gone;
            goes = λ u l h m. let e : u ≡ v = omega arith in ap (stage_of (set stages v gone)) e ∙ get_or-set_same stages v gone gone inside;
            below = λ u h m. get_or-set_other stages v u gone gone (λ e. omega arith);
            above = λ u h m. get_or-set_other stages v u gone gone (λ e. omega arith);
            fate = λ u m.
                left_alone (get_or-set_other stages v u gone gone (apart u new.is-merged m))
                (λ x l h w k z. let e : x ≡ v = omega arith in sym (ap₂ (either? stages) (sym e) (sym (ap (target rows) e) ∙ k)) ∙ none);
          }

      -- Merged, with a diagram to hand over.
      hands : either? stages v (target rows v) ≡ true → Taken first rows v 1 stages (set (wake_at (target rows v) stages) v gone)
      hands one =
          record {
            long = length-set (wake_at w stages) v gone ∙ woken_length w stages;
            goes = λ u l h m.
                let e : u ≡ v = omega arith in
                ap (stage_of (set (wake_at w stages) v gone)) e ∙ get_or-set_same (wake_at w stages) v gone gone (rw (woken_length w stages) inside);
            below = λ u h m. untouched u (λ e. omega arith) m;
            above = λ u h m. untouched u (λ e. omega arith) m;
            fate = λ u m.
                elim (ℕ_discrete u w) [
                  | yes e ↦ elim (ℕ_discrete w 0) [
                    | yes z ↦ left_alone (here u (apart u new.is-merged m) ∙ ap (λ (x : List Stage). stage_of x u) (woken_constant w stages z))
                        (λ x l h y k nz. absurd (nz (e ∙ z)))
                    | no z ↦ woken
                        (here u (apart u new.is-merged m) ∙ ap (stage_of (wake_at w stages)) e ∙ woken_same w stages z (omega (arith, inside, sinks))
                        ∙ ap (λ (x : ℕ). wake (stage_of stages x)) (sym e))
                        (λ k. z (sym e ∙ k)) v (omega arith) (omega arith) new (sym e) (ap (either? stages v) e ∙ one)
                  ]
                  | no e ↦ left_alone (here u (apart u new.is-merged m) ∙ woken_other w u stages e)
                      (λ x l h y k nz. let i : x ≡ v = omega arith in absurd (e (sym k ∙ ap (target rows) i)))
                ];
          }
        where
          w : ℕ
          w = target rows v

          here : (u : ℕ) → u ≢ v → stage_of (set (wake_at w stages) v gone) u ≡ stage_of (wake_at w stages) u
          here u e = get_or-set_other (wake_at w stages) v u gone gone e

          untouched : (u : ℕ) → u ≢ v → was_merged? first rows u ≡ true → stage_of (set (wake_at w stages) v gone) u ≡ stage_of stages u
          untouched u e m = here u e ∙ woken_other w u stages (λ k. clash m (ap (was_merged? first rows) k ∙ stays))

    take_one : Taken first rows v 1 stages (take_at rows v stages)
    unfolding take_at
    take_one = go (merged? rows v) refl (gone? (stage_of stages v)) refl (either? stages v (target rows v)) refl
      where
        go : (a : Bool) → merged? rows v ≡ a → (b : Bool) → gone? (stage_of stages v) ≡ b → (c : Bool) → either? stages v (target rows v) ≡ c
            → Taken first rows v 1 stages (cond (a && not b) (set (cond c (wake_at (target rows v) stages) stages) v gone) stages)
        go true i true j c k = unmoved (λ w. clash j w.not_gone) (λ m. j)
        go true i false j true k = hands (record { is-merged = made-merged first rows v made ∙ i; not_gone = j }) k
        go true i false j false k = leaves (record { is-merged = made-merged first rows v made ∙ i; not_gone = j }) k
        go false i b j c k =
            unmoved (λ w. clash w.is-merged (made-merged first rows v made ∙ i)) (λ m. clash m (made-merged first rows v made ∙ i))

  -- One vertex and then n more.
  take_more :
      (k n : ℕ) {old mid new : List Stage} → Taken first rows k 1 old mid → Taken first rows (suc k) n mid new → Taken first rows k (suc n) old new
  take_more k n {old} {mid} {new} a b =
      record {
        long = b.long ∙ a.long;
        goes = λ v l h m.
            elim (ℕ_discrete v k) [
              | yes e ↦ b.below v (omega arith) m ∙ a.goes v l (omega arith) m
              | no e ↦ b.goes v (omega arith) (omega arith) m
            ];
        below = λ v h m. b.below v (omega arith) m ∙ a.below v h m;
        above = λ v h m. b.above v (omega arith) m ∙ a.above v (omega arith) m;
        fate = λ u m. both u (a.fate u m) (b.fate u m);
      }
    where
      later : (v : ℕ) → suc k ≤ v → was_merged? first rows v ≡ true → stage_of mid v ≡ stage_of old v
      later v l m = a.above v (omega arith) m

      newly : (v : ℕ) → suc k ≤ v → Newly first rows old v → Newly first rows mid v
      newly v l w = record { is-merged = w.is-merged; not_gone = ap gone? (later v l w.is-merged) ∙ w.not_gone }

      was_newly : (v : ℕ) → suc k ≤ v → Newly first rows mid v → Newly first rows old v
      was_newly v l w = record { is-merged = w.is-merged; not_gone = sym (ap gone? (later v l w.is-merged)) ∙ w.not_gone }

      either_same : (v u : ℕ) → suc k ≤ v → was_merged? first rows v ≡ true → stage_of mid u ≡ stage_of old u → either? mid v u ≡ either? old v u
      either_same v u l m e = ap₂ (λ (x y : Stage). has? x || has? y) (later v l m) e

      both : (u : ℕ) → Fate first rows k 1 old mid u → Fate first rows (suc k) n mid new u → Fate first rows k (suc n) old new u
      both u (left_alone e f) (left_alone g h) =
          left_alone (g ∙ e)
          (λ v l i w j z.
          elim (ℕ_discrete v k) [
            | yes s ↦ f v l (omega arith) w j z
            | no s ↦ (let s : suc k ≤ v = omega arith in sym (either_same v u s w.is-merged e) ∙ h v s (omega arith) (newly v s w) j z)
          ])
      both u (left_alone e f) (woken g z v l i w j h) =
          woken (g ∙ ap wake e) z v (omega arith) (omega arith) (was_newly v l w) j (sym (either_same v u l w.is-merged e) ∙ h)
      both u (woken e z v l i w j f) (left_alone g h) = woken (g ∙ e) z v l (omega arith) w j f
      both u (woken e z v l i w j f) (woken g y x a b c s h) = woken (g ∙ ap wake e ∙ wake-wake (stage_of old u)) z v l (omega arith) w j f

  -- Taking over, for n vertices from k on.
  pub taken : (n k : ℕ) (stages : List Stage) → length stages ≡ count → first ≤ k → Taken first rows k n stages (takes_from rows k n stages)
  unfolding takes_from
  taken zero k stages long made =
      record {
        long = refl;
        goes = λ v l h m. absurd (omega arith);
        below = λ v h m. refl;
        above = λ v h m. refl;
        fate = λ u m. left_alone refl (λ v l h w j z. absurd (omega arith));
      }
  taken (suc n) k stages long made =
      let one = take_one k stages long made in
      take_more k n one (taken n (suc k) (take_at rows k stages) (one.long ∙ long) (omega arith))

-- No vertex that was not merged is gone.
abbrev pub Alive : ℕ → List ℕ → List Stage → Type 0
Alive first rows stages = (u : ℕ) → u < length stages → was_merged? first rows u ≡ false → gone? (stage_of stages u) ≡ false

module _ {first : ℕ} {rows : List ℕ} {k n : ℕ} {old new : List Stage} (h : Taken first rows k n old new) (u : ℕ) (unmerged : was_merged? first rows u ≡ false) where
  -- A vertex that was not merged keeps its diagram.
  pub taken-has : has? (stage_of old u) ≡ true → has? (stage_of new u) ≡ true
  taken-has e = go (h.fate u unmerged)
    where
      go : Fate first rows k n old new u → has? (stage_of new u) ≡ true
      go (left_alone a f) = ap has? a ∙ e
      go (woken a z v l i w j f) = ap has? a ∙ has-wake (stage_of old u)

  -- A vertex that is bare was so before.
  pub taken-bare : bare? (stage_of new u) ≡ true → bare? (stage_of old u) ≡ true
  taken-bare e = go (h.fate u unmerged)
    where
      go : Fate first rows k n old new u → bare? (stage_of old u) ≡ true
      go (left_alone a f) = sym (ap bare? a) ∙ e
      go (woken a z v l i w j f) = clash (sym (ap bare? a) ∙ e) (bare-wake (stage_of old u))

  -- It is not gone.
  pub taken_alive : gone? (stage_of old u) ≡ false → gone? (stage_of new u) ≡ false
  taken_alive e = go (h.fate u unmerged)
    where
      go : Fate first rows k n old new u → gone? (stage_of new u) ≡ false
      go (left_alone a f) = ap gone? a ∙ e
      go (woken a z v l i w j f) = ap gone? a ∙ gone-wake (stage_of old u)

-- The target of a newly merged vertex is woken, or neither had a diagram and it keeps its stage.
pub target-fate :
    {first count : ℕ} {rows : List ℕ} {old new : List Stage} → Tidy first count rows → Taken first rows first (count - first) old new → (v : ℕ) → v < count
    → Newly first rows old v → target rows v ≢ 0
    → (stage_of new (target rows v) ≡ wake (stage_of old (target rows v)))
    ⊎ ((stage_of new (target rows v) ≡ stage_of old (target rows v)) × (either? old v (target rows v) ≡ false))
target-fate {first} {count} {rows} {old} {new} t h v l w nonzero = go (h.fate (target rows v) (t.first_stays v made l))
  where
    made : first ≤ v
    made = merged-made first rows v w.is-merged

    go : Fate first rows first (count - first) old new (target rows v)
        → (stage_of new (target rows v) ≡ wake (stage_of old (target rows v)))
        ⊎ ((stage_of new (target rows v) ≡ stage_of old (target rows v)) × (either? old v (target rows v) ≡ false))
    go (left_alone a f) = inr (a, f v made (omega arith) w refl nonzero)
    go (woken a z u m i x j f) = inl a

-- The constant keeps its stage.
pub taken-constant :
    {first : ℕ} {rows : List ℕ} {k n : ℕ} {old new : List Stage} → 1 ≤ first → Taken first rows k n old new → stage_of new 0 ≡ stage_of old 0
taken-constant {first} {rows} {k} {n} {old} {new} some h = go (h.fate 0 (first-unmerged first rows 0 some))
  where
    go : Fate first rows k n old new 0 → stage_of new 0 ≡ stage_of old 0
    go (left_alone a f) = a
    go (woken a z v l i w j f) = absurd (z refl)

-- Where only merged vertices were gone, all merged vertices are gone after taking over.
pub taken-staged :
    {first count : ℕ} {rows : List ℕ} {old new : List Stage} → 1 ≤ first → first ≤ count → Taken first rows first (count - first) old new
    → length old ≡ count → Alive first rows old → stage_of old 0 ≡ opened → Staged first count rows new
unfolding gone?
taken-staged {first} {count} {rows} {old} {new} some few h long alive constant =
    record {
      long = h.long ∙ long;
      gone-merged = λ v l. go v l (was_merged? first rows v) refl;
      constant = taken-constant some h ∙ constant;
    }
  where
    go : (v : ℕ) → v < count → (b : Bool) → was_merged? first rows v ≡ b → gone? (stage_of new v) ≡ b
    go v l true e = ap gone? (h.goes v (merged-made first rows v e) (omega (arith, merged-made first rows v e)) e)
    go v l false e = taken_alive h v e (alive v (omega arith) e)
