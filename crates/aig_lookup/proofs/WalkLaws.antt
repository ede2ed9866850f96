-- What a walk along a chain of the look-up has shown.
use Rattle.std.proofs.lemmas.Grind.{common_steps}
use Rattle.std.specs.Prelude.{Some, None}
use Rattle.std.proofs.Common.{◌≡◌, ℕ, ◌<◌, ◌≤◌, true, false, List, sym, ◌∙◌, subst, arith}
use Rattle.aig.proofs.FirstVertexLaws.{first-at, first_nothing, has_pair_lem, lacks-pair}
use Rattle.aig.proofs.IndexLaws.{first_place-below, holds-entered, holds-place}
use Rattle.aig.specs.Lookup.{Entered, Highest, HoldsRow, Indexed, Unused, first_place, first_vertex, has_pair, head_of, next_of, place_of}
use native.Mathlib.Decide.{dec_lt, ℕ_discrete}

-- The walk along the pair's chain has come to entry e: no vertex above it has the pair.
pub record Walk (pairs : List ℕ) (count places p q e : ℕ) : Type 0 where
  pub within : 1 ≤ e → e < count
  pub is-entered : 1 ≤ e → Entered pairs e
  pub placed : 1 ≤ e → place_of pairs places e ≡ first_place places p q
  pub passed : (v : ℕ) → e < v → v < count → HoldsRow pairs v p q → ⊥

module _ {pairs : List ℕ} {count : ℕ} {look : List ℕ} {places p q : ℕ} (h : Indexed pairs count look places) (apart : p ≡ q → ⊥) where
  -- It starts at the head of the pair's place.
  pub walk_starts : Walk pairs count places p q (head_of look (first_place places p q))
  walk_starts =
      record {
        within = top.within;
        is-entered = top.is-entered;
        placed = top.placed;
        passed = λ v above below same.
            top.none_above v above below (holds-entered pairs v p q apart same) (holds-place pairs places v p q same);
      }
    where
      top : Highest pairs places (first_place places p q) count (head_of look (first_place places p q))
      top = h.heads (first_place places p q) (first_place-below places p q h.some-place)

  -- It goes on at the next word of a vertex that lacks the pair.
  pub walk-goes-on :
      (e : ℕ) → 1 ≤ e → Walk pairs count places p q e → has_pair pairs e p q ≡ false → Walk pairs count places p q (next_of look places e)
  walk-goes-on e one w lacks =
      record {
        within = λ some. omega (arith, next.within some, w.within one);
        is-entered = next.is-entered;
        placed = λ some. next.placed some ∙ w.placed one;
        passed = passed;
      }
    where
      next : Highest pairs places (place_of pairs places e) e (next_of look places e)
      next = h.nexts e (w.within one) (w.is-entered one)

      passed : (v : ℕ) → next_of look places e < v → v < count → HoldsRow pairs v p q → ⊥
      passed v above below same =
          elim (dec_lt e v) [
            | yes l ↦ w.passed v l below same
            | no l ↦ elim (ℕ_discrete v e) [
              | yes d ↦ lacks-pair pairs p q e lacks (subst (λ (u : ℕ). HoldsRow pairs u p q) d same)
              | no d ↦
                  next.none_above v above (omega arith) (holds-entered pairs v p q apart same)
                  (holds-place pairs places v p q same ∙ sym (w.placed one))
            ]
          ]

  -- The next word is a lower vertex, or none.
  pub walk_falls : (e : ℕ) → 1 ≤ e → Walk pairs count places p q e → next_of look places e < e
  walk_falls e one w = grind (arith, common_steps)

  -- A vertex on the way that has the pair is the first with it.
  pub walk_finds : (e : ℕ) → 1 ≤ e → Walk pairs count places p q e → has_pair pairs e p q ≡ true → Some e ≡ first_vertex pairs p q count
  walk_finds e one w has =
      sym (first-at pairs p q count e (record { within = w.within one; holds = here; unused-before = earlier }))
    where
      here : HoldsRow pairs e p q
      here = has_pair_lem pairs p q e has

      earlier : Unused pairs p q e
      earlier u lt same = grind (arith, common_steps)

  -- Some the end no vertex has the pair.
  pub walk_ends : (e : ℕ) → e ≡ 0 → Walk pairs count places p q e → None ≡ first_vertex pairs p q count
  walk_ends e zero w = sym (first_nothing pairs p q count unused)
    where
      unused : Unused pairs p q count
      unused v lt same = grind (arith, common_steps)
