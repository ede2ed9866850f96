-- Rows of vertices: one row replaced, what a literal became, and that the functions are kept.
use Prim.Native.Nat.{◌%◌, ◌*◌, ◌+◌, ◌<◌, ◌≤◌, ℕ}
use Rattle.aig.proofs.IndexLaws.{row-holds, row_length}
use Rattle.aig.proofs.LiteralLaws.{inverted-negate, negate-negate}
use Rattle.aig.specs.Literal.{inverted?, negate, onto, vertex_of}
use Rattle.aig.specs.Lookup.{HoldsRow, first_word, second_word, with_row}
use Rattle.sweep_model.proofs.Functions.{function_negate, function_self}
use Rattle.sweep_model.specs.Fit.{Downward, Sound, WellFormed, vertex_count}
use Rattle.sweep_model.specs.Normalise.{merged?, merged_into, resolve}
use Rattle.sweep_model.specs.State.{Problem, function_of, literal_function}
use Rattle.truth.specs.Truth.{Truth, conj, invert}
use borrow.Author.Tests.{eqb-false, eqb-true}
use lib.ListN.{set}
use lib.Seq.{get_or-set_other}
use mathlib.Core.Bool.{Bool, cond, false, not, true}
use mathlib.Core.List.{List}
use mathlib.Core.Logic.{◌≢◌}
use mathlib.Core.Path.{◌∙◌, ◌≡◌, ap, refl, sym}
use native.Mathlib.Decide.{dec_lt, ℕ_discrete}
use native.Mathlib.Omega.{arith}

-- A row that is replaced leaves the rows of other vertices.
pub row_other : (rows : List ℕ) (v x y u : ℕ) → u ≢ v → HoldsRow (with_row rows v x y) u (first_word rows u) (second_word rows u)
row_other rows v x y u d =
    record {
      first = get_or-set_other (set rows (2 * v) x) (2 * v + 1) (2 * u) y 0 (λ e. omega arith) ∙ get_or-set_other rows (2 * v) (2 * u) x 0 (λ e. d (omega arith));
      second = get_or-set_other (set rows (2 * v) x) (2 * v + 1) (2 * u + 1) y 0 (λ e. d (omega arith)) ∙ get_or-set_other rows (2 * v) (2 * u + 1) x 0 (λ e. omega arith);
    }

-- Onto a literal that is not inverted x stays.
pub onto-plain : (x r : ℕ) → inverted? r ≡ false → onto x r ≡ x
onto-plain x r e = let h : (r % 2 ≡ 1 → ⊥) = eqb-false (r % 2) 1 e in omega arith

-- Onto an inverted literal it is inverted.
pub onto-inverted : (x r : ℕ) → inverted? r ≡ true → onto x r ≡ negate x
onto-inverted x r e = let h : r % 2 ≡ 1 = eqb-true (r % 2) 1 e in omega arith

-- It names the vertex of x.
pub onto-vertex : (x r : ℕ) → vertex_of (onto x r) ≡ vertex_of x
onto-vertex x r = omega arith

-- A literal onto its own vertex.
pub onto-own : (v r : ℕ) → vertex_of r ≡ v → onto (2 * v) r ≡ r
onto-own v r e = omega arith

onto-negate : (x y : ℕ) → onto x (negate y) ≡ negate (onto x y)
onto-negate x y = go (inverted? y) refl
  where
    go : (b : Bool) → inverted? y ≡ b → onto x (negate y) ≡ negate (onto x y)
    go true e = onto-plain x (negate y) (inverted-negate y ∙ ap not e) ∙ sym (ap negate (onto-inverted x y e) ∙ negate-negate x)
    go false e = onto-inverted x (negate y) (inverted-negate y ∙ ap not e) ∙ sym (ap negate (onto-plain x y e))

-- Inversions add up.
pub onto-onto : (x y r : ℕ) → onto x (onto y r) ≡ onto (onto x y) r
onto-onto x y r = go (inverted? r) refl
  where
    go : (b : Bool) → inverted? r ≡ b → onto x (onto y r) ≡ onto (onto x y) r
    go true e = ap (onto x) (onto-inverted y r e) ∙ onto-negate x y ∙ sym (onto-inverted (onto x y) r e)
    go false e = ap (onto x) (onto-plain y r e) ∙ sym (onto-plain (onto x y) r e)

-- A vertex that was not merged stands for itself.
pub resolve_stays : (rows : List ℕ) (r : ℕ) → merged? rows (vertex_of r) ≡ false → resolve rows r ≡ r
unfolding resolve
resolve_stays rows r e = rw e

-- A merged vertex became what its row says.
pub resolve-merged : (rows : List ℕ) (r : ℕ) → merged? rows (vertex_of r) ≡ true → resolve rows r ≡ onto (first_word rows (vertex_of r)) r
unfolding resolve
resolve-merged rows r e = rw e

-- So it names the vertex of that row's literal.
pub resolve-vertex : (rows : List ℕ) (r : ℕ) → merged? rows (vertex_of r) ≡ true → vertex_of (resolve rows r) ≡ vertex_of (first_word rows (vertex_of r))
resolve-vertex rows r e = ap vertex_of (resolve-merged rows r e) ∙ onto-vertex (first_word rows (vertex_of r)) r

-- What holds of both answers holds of what a literal became.
pub resolve-cases :
    (rows : List ℕ) (r : ℕ) (P : ℕ → Type 0) → (merged? rows (vertex_of r) ≡ true → P (onto (first_word rows (vertex_of r)) r))
    → (merged? rows (vertex_of r) ≡ false → P r) → P (resolve rows r)
unfolding resolve
resolve-cases rows r P yes_way no_way = go (merged? rows (vertex_of r)) refl
  where
    go : (b : Bool) → merged? rows (vertex_of r) ≡ b → P (cond b (onto (first_word rows (vertex_of r)) r) r)
    go true e = yes_way e
    go false e = no_way e

-- An inversion stays.
pub resolve-onto : (rows : List ℕ) (x r : ℕ) → resolve rows (onto x r) ≡ onto (resolve rows x) r
resolve-onto rows x r =
    resolve-cases rows x (λ y. resolve rows (onto x r) ≡ onto y r)
    (λ e. resolve-merged rows (onto x r) (rw (onto-vertex x r) e) ∙ rw (onto-vertex x r) (onto-onto (first_word rows (vertex_of x)) x r))
    (λ e. resolve_stays rows (onto x r) (rw (onto-vertex x r) e))

-- What a literal became depends on the row of its vertex alone.
pub resolve-agree :
    (rows other : List ℕ) (r : ℕ) → HoldsRow other (vertex_of r) (first_word rows (vertex_of r)) (second_word rows (vertex_of r))
    → resolve other r ≡ resolve rows r
unfolding resolve
resolve-agree rows other r h = rw (h.first, h.second)

module _ {first count : ℕ} {rows : List ℕ} (d : Downward first count rows) where
  -- The literal of a first vertex stands for itself.
  pub resolve-first : (r : ℕ) → vertex_of r < first → resolve rows r ≡ r
  resolve-first r h =
      resolve-cases rows r (λ y. y ≡ r) (λ e. rw (d.own (vertex_of r) h).first (onto-own (vertex_of r) r refl)) (λ e. refl)

  -- What a literal became names no higher vertex.
  pub resolve-low : (r : ℕ) → vertex_of r < count → vertex_of (resolve rows r) ≤ vertex_of r
  resolve-low r h =
      resolve-cases rows r (λ y. vertex_of y ≤ vertex_of r)
      (λ e. rw (onto-vertex (first_word rows (vertex_of r)) r)
      (elim (dec_lt (vertex_of r) first) [
        | yes l ↦ omega (arith, (d.own (vertex_of r) l).first)
        | no l ↦ omega (arith, d.first_below (vertex_of r) (omega arith) h)
      ]))
      (λ e. omega arith)

  -- So it keeps an even bound.
  pub resolve-within : (r n : ℕ) → n ≤ count → r < 2 * n → resolve rows r < 2 * n
  resolve-within r n l h = omega (arith, resolve-low r (omega arith))

  module _ (v x y : ℕ) (made : first ≤ v) (within : v < count) where
    -- The row that was replaced.
    pub row_here : HoldsRow (with_row rows v x y) v x y
    row_here = row-holds rows v x y (omega (arith, d.long))

    -- A made row of lower literals keeps the rows downward.
    pub row-downward : x < 2 * v → y < 2 * v → Downward first count (with_row rows v x y)
    row-downward lx ly =
        record {
          long = omega (arith, d.long, row_length rows v x y (omega (arith, d.long)));
          own = λ u h.
              let o = row_other rows v x y u (λ e. omega arith) in
              record { first = o.first ∙ (d.own u h).first; second = o.second ∙ (d.own u h).second };
          first_below = λ u m h.
              elim (ℕ_discrete u v) [
                | yes e ↦ rw (e, row_here.first) lx
                | no e ↦ rw (row_other rows v x y u e).first (d.first_below u m h)
              ];
          second_below = λ u m h.
              elim (ℕ_discrete u v) [
                | yes e ↦ rw (e, row_here.second) ly
                | no e ↦ rw (row_other rows v x y u e).second (d.second_below u m h)
              ];
        }

module _ (p : Problem) (w : WellFormed p) where
  -- The literal x, inverted where r is, has the function of x, inverted where r is.
  pub onto_function : (x r : ℕ) → literal_function p (onto x r) ≡ cond (inverted? r) (invert (literal_function p x)) (literal_function p x)
  onto_function x r = go (inverted? r) refl
    where
      go : (b : Bool) → inverted? r ≡ b → literal_function p (onto x r) ≡ cond b (invert (literal_function p x)) (literal_function p x)
      go true e = ap (literal_function p) (onto-inverted x r e) ∙ function_negate p w x
      go false e = ap (literal_function p) (onto-plain x r e)

  module _ {rows : List ℕ} (s : Sound p rows) where
    -- A merged vertex has the function of the literal that it was merged into.
    pub merged_function : (v : ℕ) → p.first ≤ v → v < vertex_count p → merged? rows v ≡ true → literal_function p (first_word rows v) ≡ function_of p v
    merged_function v made within e =
        sym
        (s.means v made within
        ∙ ap (λ (x : ℕ). conj (literal_function p (first_word rows v)) (literal_function p x)) (sym (eqb-true (first_word rows v) (second_word rows v) e))
        ∙ function_self p w (first_word rows v))

    -- What a literal became has the literal's function.
    pub resolve_function : (r : ℕ) → r < 2 * vertex_count p → literal_function p (resolve rows r) ≡ literal_function p r
    resolve_function r h =
        elim (dec_lt (vertex_of r) p.first) [
          | yes l ↦ ap (literal_function p) (resolve-first s.downward r l)
          | no l ↦ resolve-cases rows r (λ y. literal_function p y ≡ literal_function p r)
              (λ e. onto_function (first_word rows (vertex_of r)) r
              ∙ ap (λ (f : Truth). cond (inverted? r) (invert f) f) (merged_function (vertex_of r) (omega arith) (omega arith) e))
              (λ e. refl)
        ]

    -- A made row of lower literals that stands for its vertex's function keeps the rows sound.
    pub row-sound :
        (v x y : ℕ) → p.first ≤ v → v < vertex_count p → x < 2 * v → y < 2 * v
        → function_of p v ≡ conj (literal_function p x) (literal_function p y) → Sound p (with_row rows v x y)
    row-sound v x y made within lx ly e =
        record {
          downward = row-downward s.downward v x y made within lx ly;
          means = λ u m h.
              elim (ℕ_discrete u v) [
                | yes k ↦ rw (k, (row_here s.downward v x y made within).first, (row_here s.downward v x y made within).second) e
                | no k ↦ rw ((row_other rows v x y u k).first, (row_other rows v x y u k).second) (s.means u m h)
              ];
        }

    -- Merging a vertex into a lower literal of its function keeps the rows sound.
    pub merge-sound :
        (v r : ℕ) → p.first ≤ v → v < vertex_count p → r < 2 * v → literal_function p r ≡ function_of p v → Sound p (merged_into rows v r)
    merge-sound v r made within low e = row-sound v r r made within low low (sym e ∙ sym (function_self p w r))
