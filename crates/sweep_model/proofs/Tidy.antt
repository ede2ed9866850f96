-- Tidy rows, and rows that moved on.
use Prim.Native.Nat.{◌*◌, ◌<◌, ◌≤◌, ℕ}
use Rattle.aig.proofs.PairsLaws.{pair_map, pair_then}
use Rattle.aig.specs.Literal.{onto, vertex_of}
use Rattle.aig.specs.Lookup.{HoldsRow, first_word, second_word}
use Rattle.aig.specs.Pairs.{straight}
use Rattle.sweep_model.proofs.Rows.{onto-vertex, resolve-cases, resolve-first, resolve-merged, resolve-onto, resolve_stays}
use Rattle.sweep_model.specs.Fit.{Downward}
use Rattle.sweep_model.specs.Normalise.{merged?, resolve, was_merged?}
use Rattle.sweep_model.specs.code.Steady.{Moves, Tidy}
use Rattle.truth.proofs.Booleans.{and_left, and_right, clash, not_true}
use borrow.Author.Tests.{eq-eqb, le-leb, leb-true, lt-leb, ne_eqb}
use lib.Dec.{eqb, leb}
use mathlib.Core.Bool.{Bool, ◌&&◌, and-false, false, true}
use mathlib.Core.List.{List}
use mathlib.Core.Logic.{◌≢◌}
use mathlib.Core.Path.{◌∙◌, ◌≡◌, ap, ap₂, refl, sym}
use native.Mathlib.Decide.{dec_lt}
use native.Mathlib.Omega.{arith}

-- A vertex with equal words passes for merged.
pub equal-merged : (rows : List ℕ) (v : ℕ) → first_word rows v ≡ second_word rows v → merged? rows v ≡ true
equal-merged rows v e = eq-eqb (first_word rows v) (second_word rows v) e

-- A vertex with unequal words passes for unmerged.
pub unequal-unmerged : (rows : List ℕ) (v : ℕ) → first_word rows v ≢ second_word rows v → merged? rows v ≡ false
unequal-unmerged rows v d = ne_eqb (first_word rows v) (second_word rows v) d

-- Of a made vertex both tests say the same.
pub made-merged : (first : ℕ) (rows : List ℕ) (v : ℕ) → first ≤ v → was_merged? first rows v ≡ merged? rows v
made-merged first rows v made = ap (λ (b : Bool). b && merged? rows v) (le-leb first v made)

-- A first vertex was not merged.
pub first-unmerged : (first : ℕ) (rows : List ℕ) (v : ℕ) → v < first → was_merged? first rows v ≡ false
first-unmerged first rows v h = ap (λ (b : Bool). b && merged? rows v) (lt-leb first v h)

-- What was merged is made.
pub merged-made : (first : ℕ) (rows : List ℕ) (v : ℕ) → was_merged? first rows v ≡ true → first ≤ v
merged-made first rows v e = leb-true first v (and_left (leb first v) (merged? rows v) e)

-- What was merged has equal words.
pub merged-equal : (first : ℕ) (rows : List ℕ) (v : ℕ) → was_merged? first rows v ≡ true → merged? rows v ≡ true
merged-equal first rows v e = and_right (leb first v) (merged? rows v) e

-- A vertex with unequal words was not merged.
pub unequal_stays : (first : ℕ) (rows : List ℕ) (v : ℕ) → merged? rows v ≡ false → was_merged? first rows v ≡ false
unequal_stays first rows v e = ap (◌&&◌ (leb first v)) e ∙ and-false (leb first v)

-- The tests see only the vertex's own row.
pub merged-agree : (rows other : List ℕ) (v : ℕ) → HoldsRow other v (first_word rows v) (second_word rows v) → merged? other v ≡ merged? rows v
merged-agree rows other v h = ap₂ eqb h.first h.second

module _ {first count : ℕ} {rows : List ℕ} (d : Downward first count rows) where
  -- What a literal of tidy rows became was not merged.
  pub resolve-unmerged : {k : ℕ} → Tidy first k rows → (r : ℕ) → vertex_of r < k → was_merged? first rows (vertex_of (resolve rows r)) ≡ false
  resolve-unmerged {k} t r h =
      elim (dec_lt (vertex_of r) first) [
        | yes l ↦ rw (resolve-first d r l) (first-unmerged first rows (vertex_of r) l)
        | no l ↦ resolve-cases rows r (λ y. was_merged? first rows (vertex_of y) ≡ false)
            (λ e. rw (onto-vertex (first_word rows (vertex_of r)) r) (t.first_stays (vertex_of r) (omega arith) h))
            (λ e. unequal_stays first rows (vertex_of r) e)
      ]

  -- A literal of a vertex that was not merged stands for itself.
  pub resolve-kept : (r : ℕ) → was_merged? first rows (vertex_of r) ≡ false → resolve rows r ≡ r
  resolve-kept r e =
      elim (dec_lt (vertex_of r) first) [
        | yes l ↦ resolve-first d r l
        | no l ↦ resolve_stays rows r (sym (made-merged first rows (vertex_of r) (omega arith)) ∙ e)
      ]

module _ {first count : ℕ} {rows other : List ℕ} (d : Downward first count rows) (m : Moves first count rows other) where
  -- What a literal became becomes what the literal itself becomes.
  pub resolve-twice : (r : ℕ) → r < 2 * count → resolve other (resolve rows r) ≡ resolve other r
  resolve-twice r h =
      elim (dec_lt (vertex_of r) first) [
        | yes l ↦ ap (resolve other) (resolve-first d r l)
        | no l ↦ resolve-cases rows r (λ y. resolve other y ≡ resolve other r)
            (λ k.
            resolve-onto other (first_word rows (vertex_of r)) r ∙ ap (λ (x : ℕ). onto x r) (sym (m.into (vertex_of r) (omega arith) (omega arith) k))
            ∙ sym (resolve-merged other r (m.still (vertex_of r) (omega arith) (omega arith) k)))
            (λ k. refl)
      ]

  -- Merged stays merged.
  pub still-merged : (v : ℕ) → v < count → was_merged? first rows v ≡ true → was_merged? first other v ≡ true
  still-merged v h k =
      let made = merged-made first rows v k in
      made-merged first other v made ∙ m.still v made h (merged-equal first rows v k)

-- Rows that moved on twice moved on.
pub moves-on :
    {first count : ℕ} {rows mid other : List ℕ} → Downward first count rows → Downward first count mid → Moves first count rows mid → Moves first count mid other
    → Moves first count rows other
moves-on {first} {count} {rows} {mid} {other} d e m n =
    record {
      long = n.long ∙ m.long;
      still = λ v l h k. n.still v l h (m.still v l h k);
      into = λ v l h k. n.into v l h (m.still v l h k) ∙ ap (resolve other) (m.into v l h k) ∙ firsts v l h;
      pairs = λ v l h k.
          pair_then (n.pairs v l h k)
          (pair_then (pair_map (resolve other) (m.pairs v l h (not_true (merged? mid v) (λ i. clash (n.still v l h i) k))))
          (straight (firsts v l h) (seconds v l h)));
    }
  where
    firsts : (v : ℕ) → first ≤ v → v < count → resolve other (resolve mid (first_word rows v)) ≡ resolve other (first_word rows v)
    firsts v l h = resolve-twice e n (first_word rows v) (omega (arith, d.first_below v l h))

    seconds : (v : ℕ) → first ≤ v → v < count → resolve other (resolve mid (second_word rows v)) ≡ resolve other (second_word rows v)
    seconds v l h = resolve-twice e n (second_word rows v) (omega (arith, d.second_below v l h))

-- Rows that are tidy below vertex k are so wherever the rows below it are the same.
pub tidy-agree :
    {first count k : ℕ} {rows other : List ℕ} → Downward first count rows → k ≤ count → Tidy first k rows
    → ((u : ℕ) → u < k → HoldsRow other u (first_word rows u) (second_word rows u)) → Tidy first k other
tidy-agree {first} {count} {k} {rows} {other} d few t same =
    record {
      first_stays = λ v l h.
          rw (same v h).first (stays (first_word rows v) (omega (arith, d.first_below v l (omega arith))) (t.first_stays v l h));
      second_stays = λ v l h.
          rw (same v h).second (stays (second_word rows v) (omega (arith, d.second_below v l (omega arith))) (t.second_stays v l h));
      unfolded = λ v l h m. rw ((same v h).first, (same v h).second) (t.unfolded v l h (sym (merged-agree rows other v (same v h)) ∙ m));
      once = λ u v l i h m e.
          let a = same u (omega arith) in
          let b = same v h in
          t.once u v l i h (sym (merged-agree rows other u a) ∙ m)
          (record { first = sym b.first ∙ e.first ∙ a.first; second = sym b.second ∙ e.second ∙ a.second });
    }
  where
    stays : (r : ℕ) → r < 2 * k → was_merged? first rows (vertex_of r) ≡ false → was_merged? first other (vertex_of r) ≡ false
    stays r h e = ap (◌&&◌ (leb first (vertex_of r))) (merged-agree rows other (vertex_of r) (same (vertex_of r) (omega arith))) ∙ e

-- And below any lower vertex.
pub tidy-less : {first : ℕ} {rows : List ℕ} (k n : ℕ) → k ≤ n → Tidy first n rows → Tidy first k rows
tidy-less k n l t =
    record {
      first_stays = λ v m h. t.first_stays v m (omega arith);
      second_stays = λ v m h. t.second_stays v m (omega arith);
      unfolded = λ v m h. t.unfolded v m (omega arith);
      once = λ u v m i h. t.once u v m i (omega arith);
    }
