-- Two vertices of equal or inverse functions merge: the higher into the lower, and normalising follows.
use Prim.Native.Nat.{◌*◌, ◌-◌, ◌<◌, ◌≤◌, max, min, suc, ℕ}
use Rattle.aig.proofs.LiteralLaws.{literal-below, vertex-literal}
use Rattle.aig.specs.Literal.{literal_of}
use Rattle.aig.specs.Lookup.{HoldsRow, first_word, second_word}
use Rattle.product_model.specs.Run.{Book}
use Rattle.sweep_model.proofs.Choices.{LowestTwin}
use Rattle.sweep_model.proofs.Functions.{literal_function_lem}
use Rattle.sweep_model.proofs.Rows.{merge-sound}
use Rattle.sweep_model.proofs.Settle.{Renewed, merge-below, merge_renewed, merge-still, merge_target, merged_rows}
use Rattle.sweep_model.proofs.Stages.{bare-lacks, has_not_gone, stage-within}
use Rattle.sweep_model.proofs.Steady.{alive_unmerged, alive_within, due_alive, due-turns, due-within, normal-rows, normal-steady, normal-taken, normal-turns}
use Rattle.sweep_model.proofs.Takes.{Alive, Taken, taken-has}
use Rattle.sweep_model.proofs.Tidy.{first-unmerged, made-merged, moves-on, still-merged}
use Rattle.sweep_model.specs.Fit.{Downward, Fit, Sound, vertex_count}
use Rattle.sweep_model.specs.Normalise.{merged?, merged_into, normalise, was_merged?}
use Rattle.sweep_model.specs.State.{Problem, State, function_of, gone, gone?, has?, literal_function, stage_of, waiting, with_book, with_rows}
use Rattle.sweep_model.specs.code.Steady.{Due, Moves, Scanning, Steady, Unsettled}
use Rattle.sweep_model.specs.Sweep.{at, meet, swept, turns_left, turns_of}
use Rattle.truth.proofs.Booleans.{clash}
use Rattle.truth.proofs.Equality.{alike-cases, equal-same, invert-twice, same-equal}
use Rattle.truth.specs.Parts.{alike?}
use Rattle.truth.specs.Truth.{Truth, invert, same?}
use lib.ListN.{length, length-set, set}
use lib.Seq.{get_or-set_other, get_or-set_same}
use mathlib.Core.Bool.{Bool, cond, false, not, true}
use mathlib.Core.List.{List}
use mathlib.Core.Logic.{◌≢◌, ⊎_elim}
use mathlib.Core.Path.{◌∙◌, ◌≡◌, ap, refl, sym}
use native.Mathlib.Decide.{dec_le, ℕ_discrete}
use native.Mathlib.Omega.{arith}

-- The literal of the lower of two vertices, inverted where their functions are inverse.
abbrev pub lower_literal : Problem → ℕ → ℕ → ℕ
lower_literal p v w = literal_of (min v w) (not (same? (function_of p v) (function_of p w)))

-- It has the function of the higher.
pub lower-means : (p : Problem) (v w : ℕ) → alike? (function_of p v) (function_of p w) ≡ true → literal_function p (lower_literal p v w) ≡ function_of p (max v w)
lower-means p v w alike = literal_function_lem p (min v w) (not (same? f g)) ∙ ordered
  where
    f : Truth
    f = function_of p v

    g : Truth
    g = function_of p w

    up : (b : Bool) → same? f g ≡ b → cond (not b) (invert f) f ≡ g
    up true e = same-equal f g e
    up false e = ⊎_elim (λ k. clash (equal-same k) e) (λ k. ap invert k ∙ invert-twice g) (alike-cases f g alike)

    down : (b : Bool) → same? f g ≡ b → cond (not b) (invert g) g ≡ f
    down true e = sym (same-equal f g e)
    down false e = ⊎_elim (λ k. clash (equal-same k) e) (λ k. sym k) (alike-cases f g alike)

    ordered : cond (not (same? f g)) (invert (function_of p (min v w))) (function_of p (min v w)) ≡ function_of p (max v w)
    ordered =
        elim (dec_le v w) [
          | yes h ↦ (let a : min v w ≡ v = omega arith in let b : max v w ≡ w = omega arith in rw (a, b) (up (same? f g) refl))
          | no h ↦ (let a : min v w ≡ w = omega arith in let b : max v w ≡ v = omega arith in rw (a, b) (down (same? f g) refl))
        ]

module _ {p : Problem} {entry : List ℕ} (fit : Fit p entry) {n v : ℕ} {s : State} (due : Due p entry n v s) (w : ℕ)
    (twin : LowestTwin p s.stages v 0 (length s.stages) w) where
  twin_alive : gone? (stage_of s.stages w) ≡ false
  twin_alive = has_not_gone (stage_of s.stages w) twin.is-twin.has_one

  -- A twin is another vertex.
  pub twin-other : w ≢ v
  twin-other e =
      clash twin.is-twin.has_one (ap (λ (u : ℕ). has? (stage_of s.stages u)) e ∙ bare-lacks (stage_of s.stages v) due.is-bare)

  -- The higher of the two is a made vertex.
  pub higher_made : p.first ≤ max v w
  higher_made = omega (arith, due.made)

  -- It is one of the vertices.
  pub higher_within : max v w < vertex_count p
  higher_within = omega (arith, due-within due, alive_within due.steady w twin_alive)

  -- The lower's literal is below it.
  pub lower-below : lower_literal p v w < 2 * max v w
  lower-below = let d = twin-other in literal-below (min v w) (max v w) (not (same? (function_of p v) (function_of p w))) (omega arith)

  -- The higher was not merged before.
  pub higher_unmerged : was_merged? p.first s.rows (max v w) ≡ false
  higher_unmerged =
      elim (dec_le v w) [
        | yes h ↦ (let e : max v w ≡ w = omega arith in rw e (alive_unmerged due.steady w twin_alive))
        | no h ↦ (let e : max v w ≡ v = omega arith in rw e (alive_unmerged due.steady v (due_alive due)))
      ]

  -- Nor was the lower.
  pub lower-unmerged : was_merged? p.first s.rows (min v w) ≡ false
  lower-unmerged =
      elim (dec_le v w) [
        | yes h ↦ (let e : min v w ≡ v = omega arith in rw e (alive_unmerged due.steady v (due_alive due)))
        | no h ↦ (let e : min v w ≡ w = omega arith in rw e (alive_unmerged due.steady w twin_alive))
      ]

  some : 1 ≤ p.first
  some = fit.well_formed.some_first

  down : Downward p.first (vertex_count p) s.rows
  down = due.steady.sound.downward

  renewal : Renewed p.first (vertex_count p) s.rows (merged_rows p.first (vertex_count p) s.rows (max v w) (lower_literal p v w))
  renewal =
      merge_renewed some down (max v w) (lower_literal p v w) higher_made higher_within lower-below
      (sym (made-merged p.first s.rows (max v w) higher_made) ∙ higher_unmerged)

  module _ (b : Book) where
    -- The state before normalising.
    abbrev before : State
    before = swept v (with_rows (merged_into s.rows (max v w) (lower_literal p v w)) (with_book b s))

    before-sound : Sound p before.rows
    unfolding swept
    before-sound =
        merge-sound p fit.well_formed due.steady.sound (max v w) (lower_literal p v w) higher_made higher_within lower-below
        (lower-means p v w twin.is-twin.alike)

    before-long : length before.stages ≡ vertex_count p
    unfolding swept
    before-long = length-set s.stages v waiting ∙ due.steady.staged.long

    -- The rows after it.
    pub merger_rows : (meet p v (with_book b s) (at w)).rows ≡ merged_rows p.first (vertex_count p) s.rows (max v w) (lower_literal p v w)
    unfolding meet swept
    merger_rows = normal-rows fit.well_formed before before-sound before-long

    -- All rows have moved on.
    pub merger_moves : Moves p.first (vertex_count p) s.rows (meet p v (with_book b s) (at w)).rows
    merger_moves = rw merger_rows renewal.moves

    -- The stages after it.
    pub merger-taken :
        Taken p.first (meet p v (with_book b s) (at w)).rows p.first (vertex_count p - p.first) (set s.stages v waiting)
        (meet p v (with_book b s) (at w)).stages
    unfolding meet swept
    merger-taken = normal-taken fit.well_formed before before-sound before-long

    -- The marks after it: the vertex is swept.
    pub merger_marks : (meet p v (with_book b s) (at w)).marks ≡ set s.marks v 1
    unfolding meet swept normalise
    merger_marks = refl

    -- The book after it is that of the product.
    pub merger_book : (meet p v (with_book b s) (at w)).book ≡ b
    unfolding meet swept normalise
    merger_book = refl

    -- The higher was merged.
    pub merger_merged : merged? (meet p v (with_book b s) (at w)).rows (max v w) ≡ true
    merger_merged = rw merger_rows (merge-still some down (max v w) (lower_literal p v w) higher_made higher_within lower-below)

    -- The higher was merged into the lower's literal.
    pub merger_target : first_word (meet p v (with_book b s) (at w)).rows (max v w) ≡ lower_literal p v w
    merger_target =
        rw merger_rows
        (merge_target some down (max v w) (lower_literal p v w) higher_made higher_within lower-below due.steady.tidy
        (ap (was_merged? p.first s.rows) (vertex-literal (min v w) (not (same? (function_of p v) (function_of p w)))) ∙ lower-unmerged))

    -- Rows below the higher stay.
    pub merger_below : (u : ℕ) → u < max v w → HoldsRow (meet p v (with_book b s) (at w)).rows u (first_word s.rows u) (second_word s.rows u)
    merger_below u h =
        rw merger_rows (merge-below some down (max v w) (lower_literal p v w) higher_made higher_within lower-below due.steady.tidy u h)

    alive : Alive p.first (meet p v (with_book b s) (at w)).rows (set s.stages v waiting)
    unfolding gone?
    alive u h m =
        elim (ℕ_discrete u v) [
          | yes e ↦ rw e (ap gone? (get_or-set_same s.stages v waiting gone (stage-within s.stages v (due_alive due))))
          | no e ↦ ap gone? (get_or-set_other s.stages v u waiting gone e) ∙ old (gone? (stage_of s.stages u)) refl
        ]
      where
        inside : u < vertex_count p
        inside = omega (arith, length-set s.stages v waiting, due.steady.staged.long)

        old : (c : Bool) → gone? (stage_of s.stages u) ≡ c → c ≡ false
        old true e = clash (still-merged down merger_moves u inside (sym (due.steady.staged.gone-merged u inside) ∙ e)) m
        old false e = refl

    -- The state after it is steady.
    pub merger_steady : Steady p entry (meet p v (with_book b s) (at w))
    unfolding meet swept
    merger_steady =
        normal-steady fit.well_formed before before-sound before-long alive
        (moves-on fit.sound.downward down due.steady.moved merger_moves)
        (get_or-set_other s.stages v 0 waiting gone (λ e. omega (arith, due.made, fit.well_formed.some_first)) ∙ due.steady.staged.constant)
        (length-set s.marks v 1 ∙ due.steady.marked)

    -- No turns are added.
    pub merger_turns : turns_left (meet p v (with_book b s) (at w)).stages ≤ n
    unfolding meet swept turns_of
    merger_turns = omega (arith, normal-turns fit.well_formed before before-sound before-long alive, due-turns due waiting refl)

    -- The scan goes on at the next vertex.
    pub merger_scanning : Unsettled p (meet p v (with_book b s) (at w)) → Scanning p n (suc v) (meet p v (with_book b s) (at w))
    merger_scanning u =
        record {
          budget = merger_turns;
          within = due-within due;
          first_have = λ x l.
              taken-has merger-taken x (first-unmerged p.first (meet p v (with_book b s) (at w)).rows x l)
              (ap has? (get_or-set_other s.stages v x waiting gone (λ e. omega (arith, due.made))) ∙ due.scanning.first_have x l);
          unsettled = u;
        }
