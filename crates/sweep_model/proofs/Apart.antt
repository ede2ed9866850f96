-- Vertices with diagrams are pairwise neither equal nor inverse, and their rows are stored: what a merger keeps of that.
use Prim.Native.Nat.{◌*◌, ◌-◌, ◌<◌, max, min, suc, zero, ℕ}
use Rattle.aig.proofs.LiteralLaws.{vertex-literal}
use Rattle.aig.specs.Literal.{vertex_of}
use Rattle.aig.specs.Lookup.{first_word}
use Rattle.product_model.specs.code.Books.{Stored}
use Rattle.product_model.specs.Run.{Book}
use Rattle.sweep_model.proofs.Choices.{IsTwin, LowestTwin}
use Rattle.sweep_model.proofs.Functions.{own_function}
use Rattle.sweep_model.proofs.Merger.{lower-unmerged, merger_below, merger_merged, merger_steady, merger-taken, merger_target, twin-other}
use Rattle.sweep_model.proofs.Products.{literal-alike, stored-alike}
use Rattle.sweep_model.proofs.Rows.{onto-vertex, resolve_function, resolve-merged}
use Rattle.sweep_model.proofs.Stages.{has_not_gone}
use Rattle.sweep_model.proofs.Steady.{alive_unmerged, alive_within}
use Rattle.sweep_model.proofs.Takes.{Fate, left_alone, target, woken}
use Rattle.sweep_model.proofs.Tidy.{merged-agree, merged-equal, resolve-kept}
use Rattle.sweep_model.specs.Fit.{Fit, Sound, WellFormed, vertex_count}
use Rattle.sweep_model.specs.Normalise.{merged?, resolve, was_merged?}
use Rattle.sweep_model.specs.code.Reachable.{AllStored, Apart}
use Rattle.sweep_model.specs.State.{Problem, Stage, State, function_of, gone, has?, opened, stage_of, waiting, with_book}
use Rattle.sweep_model.specs.code.Steady.{Due, Steady}
use Rattle.sweep_model.specs.Sweep.{at, meet}
use Rattle.truth.proofs.Booleans.{not_true, or_cases}
use Rattle.truth.proofs.Equality.{constant-equal, inverse-alike}
use Rattle.truth.proofs.Parts.{alike-chain, alike_sameness, alike-turn}
use Rattle.truth.specs.Parts.{alike?}
use Rattle.truth.specs.Truth.{Truth, constant?, constantly, invert, node, same?, value_at}
use lib.Dec.{leb}
use lib.ListN.{length, set}
use lib.Seq.{get_or-set_other}
use mathlib.Core.Bool.{Bool, ◌&&◌, false, not, true}
use mathlib.Core.List.{List, []}
use mathlib.Core.Logic.{◌≢◌, ⊎_elim}
use mathlib.Core.Path.{◌∙◌, ◌≡◌, ap, ap₂, refl, sym}
use native.Mathlib.Decide.{dec_le, ℕ_discrete}
use native.Mathlib.Omega.{arith}

constant-invert : (m : ℕ) → constantly m true ≡ invert (constantly m false)
unfolding constantly invert
constant-invert zero = refl
constant-invert (suc m) = ap₂ node (constant-invert m) (constant-invert m)

module _ (p : Problem) (stages : List Stage) (a : Apart p stages) where
  -- Two different vertices with diagrams are not alike.
  pub apart_unlike : (u v : ℕ) → u ≢ v → has? (stage_of stages u) ≡ true → has? (stage_of stages v) ≡ true → alike? (function_of p u) (function_of p v) ≡ false
  apart_unlike u v d e f = not_true (alike? (function_of p u) (function_of p v)) (λ g. d (a u v e f g))

  -- A vertex has one twin at most.
  pub twin-one : (v u w : ℕ) → IsTwin p stages v u → IsTwin p stages v w → u ≡ w
  twin-one v u w x y =
      a u w x.has_one y.has_one
      (alike-chain (function_of p u) (function_of p v) (function_of p w) (alike-turn (function_of p v) (function_of p u) x.alike) y.alike)

  -- A vertex with a diagram, other than the constant, is not constant.
  pub apart_varies : WellFormed p → stage_of stages 0 ≡ opened → (v : ℕ) → v ≢ 0 → v < vertex_count p → has? (stage_of stages v) ≡ true
      → constant? (function_of p v) ≡ false
  unfolding has?
  apart_varies w o v d h e =
      not_true (constant? (function_of p v))
      (λ c. d (a v 0 e (ap has? o) (rw (w.constant, constant-equal (w.perfect v h) c) (constants_alike (value_at (function_of p v) [])))))
    where
      constants_alike : (x : Bool) → alike? (constantly p.inputs x) (constantly p.inputs false) ≡ true
      constants_alike true = inverse-alike (constantly p.inputs true) (constantly p.inputs false) (constant-invert p.inputs)
      constants_alike false = alike_sameness.reflexive (constantly p.inputs false)

-- The vertex that a vertex became.
abbrev pub became : List ℕ → ℕ → ℕ
became rows v = vertex_of (resolve rows (2 * v))

-- A vertex has the function of what it became, or the inverse.
pub became_alike : (p : Problem) → WellFormed p → {rows : List ℕ} → Sound p rows → (v : ℕ) → v < vertex_count p
    → alike? (function_of p v) (function_of p (became rows v)) ≡ true
became_alike p w {rows} sound v h =
    ap (λ (f : Truth). alike? f (function_of p (became rows v))) (sym (own_function p v) ∙ sym (resolve_function p w sound (2 * v) (omega arith)))
    ∙ literal-alike p (resolve rows (2 * v))

module _ {p : Problem} {entry : List ℕ} (fit : Fit p entry) {n v : ℕ} {s : State} (due : Due p entry n v s) (w : ℕ)
    (twin : LowestTwin p s.stages v 0 (length s.stages) w) (b : Book) where
  -- The state after the merger, and the stages before what was merged handed over.
  abbrev after : State
  after = meet p v (with_book b s) (at w)

  abbrev swept-stages : List Stage
  swept-stages = set s.stages v waiting

  steady : Steady p entry after
  steady = merger_steady fit due w twin b

  stays : (u : ℕ) → was_merged? p.first after.rows u ≡ false → became after.rows u ≡ u
  stays u e =
      let i : vertex_of (2 * u) ≡ u = omega arith in
      ap vertex_of (resolve-kept steady.sound.downward (2 * u) (ap (was_merged? p.first after.rows) i ∙ e)) ∙ i

  sinks : (u : ℕ) → merged? after.rows u ≡ true → became after.rows u ≡ target after.rows u
  sinks u e =
      let i : vertex_of (2 * u) ≡ u = omega arith in
      ap vertex_of (resolve-merged after.rows (2 * u) (ap (merged? after.rows) i ∙ e)) ∙ onto-vertex (first_word after.rows (vertex_of (2 * u))) (2 * u)
      ∙ ap (target after.rows) i

  -- The two that merge become the lower.
  higher_sinks : became after.rows (max v w) ≡ min v w
  higher_sinks =
      sinks (max v w) (merger_merged fit due w twin b) ∙ ap vertex_of (merger_target fit due w twin b)
      ∙ vertex-literal (min v w) (not (same? (function_of p v) (function_of p w)))

  lower_stays : became after.rows (min v w) ≡ min v w
  lower_stays =
      let d = twin-other fit due w twin in
      stays (min v w)
      (ap (◌&&◌ (leb p.first (min v w))) (merged-agree s.rows after.rows (min v w) (merger_below fit due w twin b (min v w) (omega arith)))
      ∙ lower-unmerged fit due w twin)

  meets : became after.rows v ≡ became after.rows w
  meets =
      elim (dec_le v w) [
        | yes h ↦ (let i : max v w ≡ w = omega arith in let j : min v w ≡ v = omega arith in
            sym (ap (became after.rows) j) ∙ lower_stays ∙ sym higher_sinks ∙ ap (became after.rows) i)
        | no h ↦ (let i : max v w ≡ v = omega arith in let j : min v w ≡ w = omega arith in
            sym (ap (became after.rows) i) ∙ higher_sinks ∙ sym lower_stays ∙ ap (became after.rows) j)
      ]

  -- Each diagram is that of a vertex that had one, or of the vertex swept.
  record Source (u : ℕ) : Type 0 where
    origin : ℕ
    had_one : has? (stage_of swept-stages origin) ≡ true
    becomes : became after.rows origin ≡ u
    alike : alike? (function_of p origin) (function_of p u) ≡ true

  source : (u : ℕ) → has? (stage_of after.stages u) ≡ true → Source u
  source u e = go ((merger-taken fit due w twin b).fate u unmerged)
    where
      unmerged : was_merged? p.first after.rows u ≡ false
      unmerged = alive_unmerged steady u (has_not_gone (stage_of after.stages u) e)

      inside : u < vertex_count p
      inside = alive_within steady u (has_not_gone (stage_of after.stages u) e)

      from : (o : ℕ) → o < vertex_count p → has? (stage_of swept-stages o) ≡ true → became after.rows o ≡ u → Source u
      from o h f i =
          record {
            origin = o;
            had_one = f;
            becomes = i;
            alike = ap (λ (x : ℕ). alike? (function_of p o) (function_of p x)) (sym i) ∙ became_alike p fit.well_formed steady.sound o h;
          }

      go : Fate p.first after.rows p.first (vertex_count p - p.first) swept-stages after.stages u → Source u
      go (left_alone i f) = from u inside (sym (ap has? i) ∙ e) (stays u unmerged)
      go (woken i z o l h k t f) =
          ⊎_elim
          (λ j. from o (omega (arith, inside, l, h)) j (sinks o (merged-equal p.first after.rows o k.is-merged) ∙ t))
          (λ j. from u inside j (stays u unmerged))
          (or_cases (has? (stage_of swept-stages o)) (has? (stage_of swept-stages u)) f)

  -- A vertex with a diagram, other than the vertex swept, had it before.
  had_before : (o : ℕ) → o ≢ v → has? (stage_of swept-stages o) ≡ true → has? (stage_of s.stages o) ≡ true
  had_before o d e = sym (ap has? (get_or-set_other s.stages v o waiting gone d)) ∙ e

  -- Vertices with diagrams stay apart.
  pub merger_apart : Apart p s.stages → Apart p after.stages
  merger_apart apart u t e f g =
      let x = source u e in
      let y = source t f in
      sym x.becomes
      ∙ joined x.origin y.origin x.had_one y.had_one
      (alike-chain (function_of p x.origin) (function_of p u) (function_of p y.origin) x.alike
      (alike-chain (function_of p u) (function_of p t) (function_of p y.origin) g (alike-turn (function_of p y.origin) (function_of p t) y.alike)))
      ∙ y.becomes
    where
      -- What is like the vertex swept is its twin.
      is-twin : (o : ℕ) → o ≢ v → has? (stage_of swept-stages o) ≡ true → alike? (function_of p v) (function_of p o) ≡ true → o ≡ w
      is-twin o d i j =
          apart o w (had_before o d i) twin.is-twin.has_one
          (alike-chain (function_of p o) (function_of p v) (function_of p w) (alike-turn (function_of p v) (function_of p o) j) twin.is-twin.alike)

      with_twin : (o : ℕ) → o ≢ v → has? (stage_of swept-stages o) ≡ true → alike? (function_of p v) (function_of p o) ≡ true
          → became after.rows v ≡ became after.rows o
      with_twin o d i j = meets ∙ ap (became after.rows) (sym (is-twin o d i j))

      joined : (x y : ℕ) → has? (stage_of swept-stages x) ≡ true → has? (stage_of swept-stages y) ≡ true → alike? (function_of p x) (function_of p y) ≡ true
          → became after.rows x ≡ became after.rows y
      joined x y i j k =
          elim (ℕ_discrete x v) [
            | yes a ↦ elim (ℕ_discrete y v) [
              | yes c ↦ ap (became after.rows) (a ∙ sym c)
              | no c ↦ ap (became after.rows) a ∙ with_twin y c j (sym (ap (λ (z : ℕ). alike? (function_of p z) (function_of p y)) a) ∙ k)
            ]
            | no a ↦ elim (ℕ_discrete y v) [
              | yes c ↦ sym
                  (ap (became after.rows) c
                  ∙ with_twin x a i (alike-turn (function_of p x) (function_of p v) (sym (ap (λ (z : ℕ). alike? (function_of p x) (function_of p z)) c) ∙ k)))
              | no c ↦ ap (became after.rows) (apart x y (had_before x a i) (had_before y c j) k)
            ]
          ]

  -- The rows of vertices with diagrams stay stored.
  pub merger-stored :
      (store : List Truth) → AllStored p s.stages store → Stored (function_of p v) store → AllStored p after.stages store
  merger-stored store all own u e =
      let x = source u e in
      stored-alike store (function_of p x.origin) (function_of p u) x.alike
      (elim (ℕ_discrete x.origin v) [
        | yes i ↦ rw i own
        | no i ↦ all x.origin (had_before x.origin i x.had_one)
      ])
