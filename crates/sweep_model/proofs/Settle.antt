-- Normalising, row by row: it leaves tidy rows, each moved on.
use Prim.Native.Nat.{◌*◌, ◌+◌, ◌-◌, ◌<◌, ◌≤◌, suc, zero, ℕ}
use Rattle.aig.proofs.FirstVertexLaws.{first_nothing, found_at, found_nothing}
use Rattle.aig.proofs.FoldLaws.{fold-ordered, fold_same, pair-below, pair_operands, pair-unfolded, to-among, to_below}
use Rattle.aig.proofs.IndexLaws.{row_length}
use Rattle.aig.proofs.PairsLaws.{pair-each, pair_then}
use Rattle.aig.specs.Fold.{Unfolded, fold_of}
use Rattle.aig.specs.Literal.{lit, vertex_of}
use Rattle.aig.specs.Lookup.{First, HoldsRow, Unused, first_vertex, first_word, second_word, with_row}
use Rattle.aig.specs.Pairs.{SamePair, crossed, straight}
use Rattle.aig.specs.declared.fold.Folded.TheVariants.{Pair, To}
use Rattle.aig.specs.declared.fold.Folded.{Folded}
use Rattle.aig.specs.declared.literal.Literal.{Literal}
use Rattle.std.specs.Prelude.{None, Option, Some}
use Rattle.sweep_model.proofs.Rows.{resolve-agree, resolve-within, row-downward, row_here, row_other}
use Rattle.sweep_model.proofs.Tidy.{equal-merged, first-unmerged, merged-agree, resolve-kept, resolve-unmerged, tidy-agree, tidy-less, unequal_stays, unequal-unmerged}
use Rattle.sweep_model.specs.Fit.{Downward}
use Rattle.sweep_model.specs.Normalise.{folded_row, found_row, merged?, merged_into, normalise_from, normalise_row, resolve, was_merged?}
use Rattle.sweep_model.specs.code.Steady.{Moves, Tidy}
use Rattle.truth.proofs.Booleans.{clash}
use borrow.Author.Tests.{eqb-true}
use lib.Dec.{leb}
use lib.ListN.{length, set}
use lib.Seq.{set-get_or}
use mathlib.Core.Bool.{Bool, ◌&&◌, false, true}
use mathlib.Core.List.{List}
use mathlib.Core.Logic.{◌≢◌, ◌⊎◌, ⊎_elim}
use mathlib.Core.Path.{◌∙◌, ◌≡◌, ap, refl, subst, sym}
use native.Mathlib.Decide.{dec_lt, ℕ_discrete}
use native.Mathlib.Omega.{arith}

-- The words x and y that normalising gives vertex v: it was merged, or keeps what its operands became.
data Settled (rows : List ℕ) (v x y : ℕ) : Type 0 where
  joined : x ≡ y → (merged? rows v ≡ true → x ≡ resolve rows (first_word rows v)) → Settled rows v x y
  kept : Unfolded x y → SamePair x y (resolve rows (first_word rows v)) (resolve rows (second_word rows v)) → Unused rows x y v → Settled rows v x y

-- The row of vertex v normalised.
record Settles (first : ℕ) (rows other : List ℕ) (v : ℕ) : Type 0 where
  x : ℕ
  y : ℕ
  written : other ≡ with_row rows v x y
  first-low : x < 2 * v
  second-low : y < 2 * v
  first_stays : was_merged? first rows (vertex_of x) ≡ false
  second_stays : was_merged? first rows (vertex_of y) ≡ false
  settled : Settled rows v x y

module _ {first count : ℕ} (some : 1 ≤ first) {rows : List ℕ} (d : Downward first count rows) (v : ℕ) (t : Tidy first v rows) (made : first ≤ v) (within : v < count) where
  settle_row : Settles first rows (normalise_row rows v) v
  unfolding normalise_row folded_row found_row
  settle_row = go (fold_of a b) refl
    where
      a : ℕ
      a = resolve rows (first_word rows v)

      b : ℕ
      b = resolve rows (second_word rows v)

      low_first : a < 2 * v
      low_first = resolve-within d (first_word rows v) v (omega arith) (d.first_below v made within)

      low_second : b < 2 * v
      low_second = resolve-within d (second_word rows v) v (omega arith) (d.second_below v made within)

      stays_first : was_merged? first rows (vertex_of a) ≡ false
      stays_first = resolve-unmerged d t (first_word rows v) (omega (arith, d.first_below v made within))

      stays_second : was_merged? first rows (vertex_of b) ≡ false
      stays_second = resolve-unmerged d t (second_word rows v) (omega (arith, d.second_below v made within))

      stays : (x : ℕ) → (x ≡ 0) ⊎ ((x ≡ a) ⊎ (x ≡ b)) → was_merged? first rows (vertex_of x) ≡ false
      stays x h =
          ⊎_elim (λ e. rw e (first-unmerged first rows 0 some)) (λ k. ⊎_elim (λ e. rw e stays_first) (λ e. rw e stays_second) k) h

      same : merged? rows v ≡ true → a ≡ b
      same e = ap (resolve rows) (eqb-true (first_word rows v) (second_word rows v) e)

      apart : {x y : Literal} → fold_of a b ≡ Pair x y → a ≢ b
      apart e s = let z : ◌≡◌ {A = ℕ} 0 1 = cc (fold_same a b s) in omega arith

      found : {x y : Literal} → fold_of a b ≡ Pair x y → (f : Option ℕ) → first_vertex rows x.0 y.0 v ≡ f → Settles first rows (found_row rows v x.0 y.0 f) v
      found {x} {y} e (Some u) h =
          record {
            x = 2 * u;
            y = 2 * u;
            written = refl;
            first-low = omega (arith, here.within);
            second-low = omega (arith, here.within);
            first_stays = lives;
            second_stays = lives;
            settled = joined refl (λ m. absurd (apart e (same m)));
          }
        where
          here : First rows x.0 y.0 v u
          here = found_at rows x.0 y.0 v u h

          lives : was_merged? first rows (vertex_of (2 * u)) ≡ false
          lives =
              let k : vertex_of (2 * u) ≡ u = omega arith in
              rw k
              (unequal_stays first rows u
              (unequal-unmerged rows u (λ s. omega (arith, (pair-unfolded a b e).ordered, here.holds.first, here.holds.second))))
      found {x} {y} e None h =
          let low = pair-below a b (2 * v) e low_first low_second in
          let stay = pair-each (λ (r : ℕ). was_merged? first rows (vertex_of r) ≡ false) (pair_operands a b e) stays_first stays_second in
          record {
            x = x.0;
            y = y.0;
            written = refl;
            first-low = low.0;
            second-low = low.1;
            first_stays = stay.0;
            second_stays = stay.1;
            settled = kept (pair-unfolded a b e) (pair_operands a b e) (found_nothing rows x.0 y.0 v h);
          }

      go : (f : Folded) → fold_of a b ≡ f → Settles first rows (folded_row rows v f) v
      go (To r) e =
          record {
            x = r.0;
            y = r.0;
            written = refl;
            first-low = to_below a b (2 * v) e low_first low_second;
            second-low = to_below a b (2 * v) e low_first low_second;
            first_stays = stays r.0 (to-among a b e);
            second_stays = stays r.0 (to-among a b e);
            settled = joined refl (λ m. let z : r ≡ lit a = cc (fold_same a b (same m)) in ap (λ (l : Literal). l.0) z);
          }
      go (Pair x y) e = found e (first_vertex rows x.0 y.0 v) refl

  module _ {other : List ℕ} (s : Settles first rows other v) where
    row_before : (u : ℕ) → u ≢ v → HoldsRow other u (first_word rows u) (second_word rows u)
    row_before u e = rw s.written (row_other rows v s.x s.y u e)

    row_now : HoldsRow other v s.x s.y
    row_now = rw s.written (row_here d v s.x s.y made within)

    row_down : Downward first count other
    row_down = rw s.written (row-downward d v s.x s.y made within s.first-low s.second-low)

    unchanged : (u : ℕ) → u ≢ v → merged? other u ≡ merged? rows u
    unchanged u e = merged-agree rows other u (row_before u e)

    still_stays : (x : ℕ) → x < 2 * v → was_merged? first rows (vertex_of x) ≡ false → was_merged? first other (vertex_of x) ≡ false
    still_stays x h e = ap (◌&&◌ (leb first (vertex_of x))) (unchanged (vertex_of x) (λ k. omega arith)) ∙ e

    row-tidy : Tidy first (suc v) other
    row-tidy =
        record {
          first_stays = λ u m h.
              elim (ℕ_discrete u v) [
                | yes e ↦ rw (e, row_now.first) (still_stays s.x s.first-low s.first_stays)
                | no e ↦ rw (row_before u e).first
                    (still_stays (first_word rows u) (omega (arith, d.first_below u m (omega arith))) (t.first_stays u m (omega arith)))
              ];
          second_stays = λ u m h.
              elim (ℕ_discrete u v) [
                | yes e ↦ rw (e, row_now.second) (still_stays s.y s.second-low s.second_stays)
                | no e ↦ rw (row_before u e).second
                    (still_stays (second_word rows u) (omega (arith, d.second_below u m (omega arith))) (t.second_stays u m (omega arith)))
              ];
          unfolded = λ u m h k.
              elim (ℕ_discrete u v) [
                | yes e ↦ rw (e, row_now.first, row_now.second) (here s.settled (rw e at k))
                | no e ↦ rw ((row_before u e).first, (row_before u e).second) (t.unfolded u m (omega arith) (sym (unchanged u e) ∙ k))
              ];
          once = λ u w m h l k same.
              let du : u ≢ v = λ e. omega arith in
              let ku : merged? rows u ≡ false = sym (unchanged u du) ∙ k in
              elim (ℕ_discrete w v) [
                | yes e ↦ new u ku (omega arith) s.settled
                    (sym row_now.first ∙ ap (first_word other) (sym e) ∙ same.first ∙ (row_before u du).first)
                    (sym row_now.second ∙ ap (second_word other) (sym e) ∙ same.second ∙ (row_before u du).second)
                | no e ↦ t.once u w m h (omega arith) ku
                    (record {
                      first = sym (row_before w e).first ∙ same.first ∙ (row_before u du).first;
                      second = sym (row_before w e).second ∙ same.second ∙ (row_before u du).second;
                    })
              ];
        }
      where
        here : Settled rows v s.x s.y → merged? other v ≡ false → Unfolded s.x s.y
        here (joined e k) m = clash (equal-merged other v (row_now.first ∙ e ∙ sym row_now.second)) m
        here (kept f k n) m = f

        new : (u : ℕ) → merged? rows u ≡ false → u < v → Settled rows v s.x s.y → s.x ≡ first_word rows u → s.y ≡ second_word rows u → ⊥
        new u m l (joined e k) i j = clash (equal-merged rows u (sym i ∙ e ∙ j)) m
        new u m l (kept f k n) i j = n u l (record { first = sym i; second = sym j })

-- What normalising n rows from vertex k on leaves.
pub record Normalised (first count k n : ℕ) (rows other : List ℕ) : Type 0 where
  pub downward : Downward first count other
  pub tidy : Tidy first (k + n) other
  pub moves : Moves k (k + n) rows other
  pub before : (u : ℕ) → u < k → HoldsRow other u (first_word rows u) (second_word rows u)

-- Rows tidy below vertex k are tidy as far as they are normalised from there.
pub normalised :
    {first count : ℕ} → 1 ≤ first → (n k : ℕ) (rows : List ℕ) → Downward first count rows → Tidy first k rows → first ≤ k → k + n ≤ count
    → Normalised first count k n rows (normalise_from rows k n)
unfolding normalise_from
normalised {first} {count} some zero k rows d t made within =
    record {
      downward = d;
      tidy = subst (λ (i : ℕ). Tidy first i rows) (omega arith) t;
      moves =
          record {
            long = refl;
            still = λ v l h e. absurd (omega arith);
            into = λ v l h e. absurd (omega arith);
            pairs = λ v l h e. absurd (omega arith);
          };
      before = λ u h. record { first = refl; second = refl };
    }
normalised {first} {count} some (suc n) k rows d t made within =
    more (normalised some n (suc k) mid (row_down some d k t made (omega arith) s) (row-tidy some d k t made (omega arith) s) (omega arith) (omega arith))
  where
    mid : List ℕ
    mid = normalise_row rows k

    s : Settles first rows mid k
    s = settle_row some d k t made (omega arith)

    more : {other : List ℕ} → Normalised first count (suc k) n mid other → Normalised first count k (suc n) rows other
    more {other} r =
        record {
          downward = r.downward;
          tidy = subst (λ (i : ℕ). Tidy first i other) (omega arith) r.tidy;
          moves =
              record {
                long = r.moves.long ∙ ap length s.written ∙ row_length rows k s.x s.y (omega (arith, d.long));
                still = λ v l h e.
                    elim (ℕ_discrete v k) [
                      | yes i ↦ rw i (here-still s.settled (rw i at e))
                      | no i ↦ r.moves.still v (omega arith) (omega arith) (unchanged some d k t made (omega arith) s v i ∙ e)
                    ];
                into = λ v l h e.
                    elim (ℕ_discrete v k) [
                      | yes i ↦ rw i (here-into s.settled (rw i at e))
                      | no i ↦ r.moves.into v (omega arith) (omega arith) (unchanged some d k t made (omega arith) s v i ∙ e)
                          ∙ ap (resolve other) (row_before some d k t made (omega arith) s v i).first
                    ];
                pairs = λ v l h e.
                    elim (ℕ_discrete v k) [
                      | yes i ↦ rw i (here-pairs s.settled (rw i at e))
                      | no i ↦ (let b = row_before some d k t made (omega arith) s v i in
                          pair_then (r.moves.pairs v (omega arith) (omega arith) e)
                          (straight (ap (resolve other) b.first) (ap (resolve other) b.second)))
                    ];
              };
          before = λ u h.
              let a = r.before u (omega arith) in
              let b = row_before some d k t made (omega arith) s u (λ e. omega arith) in
              record { first = a.first ∙ b.first; second = a.second ∙ b.second };
        }
      where
        now : HoldsRow other k s.x s.y
        now =
            let a = r.before k (omega arith) in
            let b = row_now some d k t made (omega arith) s in
            record { first = a.first ∙ b.first; second = a.second ∙ b.second }

        -- What a literal below vertex k became is settled.
        settled-below : (x : ℕ) → x < 2 * k → resolve rows x ≡ resolve other x
        settled-below x h =
            let a = r.before (vertex_of x) (omega arith) in
            let b = row_before some d k t made (omega arith) s (vertex_of x) (λ e. omega arith) in
            sym (resolve-agree rows other x (record { first = a.first ∙ b.first; second = a.second ∙ b.second }))

        first-settled : resolve rows (first_word rows k) ≡ resolve other (first_word rows k)
        first-settled = settled-below (first_word rows k) (d.first_below k made (omega arith))

        second-settled : resolve rows (second_word rows k) ≡ resolve other (second_word rows k)
        second-settled = settled-below (second_word rows k) (d.second_below k made (omega arith))

        same_operands : merged? rows k ≡ true → resolve rows (first_word rows k) ≡ resolve rows (second_word rows k)
        same_operands e = ap (resolve rows) (eqb-true (first_word rows k) (second_word rows k) e)

        unequal : {x y p q : ℕ} {A : Type 0} → Unfolded x y → SamePair x y p q → p ≡ q → A
        unequal f (straight a b) e = absurd (omega (arith, f.ordered))
        unequal f (crossed a b) e = absurd (omega (arith, f.ordered))

        here-still : Settled rows k s.x s.y → merged? rows k ≡ true → merged? other k ≡ true
        here-still (joined e i) m = equal-merged other k (now.first ∙ e ∙ sym now.second)
        here-still (kept f p u) m = unequal f p (same_operands m)

        here-into : Settled rows k s.x s.y → merged? rows k ≡ true → first_word other k ≡ resolve other (first_word rows k)
        here-into (joined e i) m = now.first ∙ i m ∙ first-settled
        here-into (kept f p u) m = unequal f p (same_operands m)

        here-pairs :
            Settled rows k s.x s.y → merged? other k ≡ false
            → SamePair (first_word other k) (second_word other k) (resolve other (first_word rows k)) (resolve other (second_word rows k))
        here-pairs (joined e i) m = clash (equal-merged other k (now.first ∙ e ∙ sym now.second)) m
        here-pairs (kept f p u) m = pair_then (straight now.first now.second) (pair_then p (straight first-settled second-settled))

-- Nothing is asked of rows below the first made vertex.
pub tidy-first : (first : ℕ) (rows : List ℕ) → Tidy first first rows
tidy-first first rows =
    record {
      first_stays = λ v m h. absurd (omega arith);
      second_stays = λ v m h. absurd (omega arith);
      unfolded = λ v m h. absurd (omega arith);
      once = λ u v m l h. absurd (omega arith);
    }

-- All made rows normalised: downward and tidy, each moved on.
pub record Renewed (first count : ℕ) (rows other : List ℕ) : Type 0 where
  pub downward : Downward first count other
  pub tidy : Tidy first count other
  pub moves : Moves first count rows other

-- Normalising all made rows does that.
pub renewed :
    {first count : ℕ} → 1 ≤ first → first ≤ count → (rows : List ℕ) → Downward first count rows
    → Renewed first count rows (normalise_from rows first (count - first))
renewed {first} {count} some few rows d =
    let r = normalised some (count - first) first rows d (tidy-first first rows) (omega arith) (omega arith) in
    let e : first + (count - first) ≡ count = omega arith in
    let other = normalise_from rows first (count - first) in
    record {
      downward = r.downward;
      tidy = subst (λ (n : ℕ). Tidy first n other) e r.tidy;
      moves = subst (λ (n : ℕ). Moves first n rows other) e r.moves;
    }

-- A row of tidy rows normalised stays.
pub row_stays :
    {first count : ℕ} {rows : List ℕ} → Downward first count rows → (v : ℕ) → Tidy first (suc v) rows → first ≤ v → v < count → normalise_row rows v ≡ rows
unfolding normalise_row folded_row found_row
row_stays {first} {count} {rows} d v t made within =
    rw (resolve-kept d (first_word rows v) (t.first_stays v made (omega arith)), resolve-kept d (second_word rows v) (t.second_stays v made (omega arith)))
    (go (merged? rows v) refl)
  where
    same_row : with_row rows v (first_word rows v) (second_word rows v) ≡ rows
    same_row = ap (λ (l : List ℕ). set l (2 * v + 1) (second_word rows v)) (set-get_or rows (2 * v) 0) ∙ set-get_or rows (2 * v + 1) 0

    unused : Unfolded (first_word rows v) (second_word rows v) → Unused rows (first_word rows v) (second_word rows v) v
    unused f u l h =
        elim (dec_lt u first) [
          | yes i ↦ omega (arith, f.ordered, h.first, h.second, (d.own u i).first, (d.own u i).second)
          | no i ↦ t.once u v (omega arith) l (omega arith) (unequal-unmerged rows u (λ k. omega (arith, f.ordered, h.first, h.second)))
              (record { first = sym h.first; second = sym h.second })
        ]

    go : (b : Bool) → merged? rows v ≡ b → folded_row rows v (fold_of (first_word rows v) (second_word rows v)) ≡ rows
    go true e =
        let k = eqb-true (first_word rows v) (second_word rows v) e in
        ap (folded_row rows v) (fold_same (first_word rows v) (second_word rows v) k)
        ∙ ap (λ (x : ℕ). with_row rows v (first_word rows v) x) k ∙ same_row
    go false e =
        let f = t.unfolded v made (omega arith) e in
        ap (folded_row rows v) (fold-ordered (first_word rows v) (second_word rows v) f)
        ∙ ap (found_row rows v (first_word rows v) (second_word rows v)) (first_nothing rows (first_word rows v) (second_word rows v) v (unused f)) ∙ same_row

-- So normalising may begin above the tidy rows.
pub tidy-passed :
    {first count : ℕ} {rows : List ℕ} → Downward first count rows → (m k n : ℕ) → Tidy first (k + m) rows → first ≤ k → k + m ≤ count
    → normalise_from rows k (m + n) ≡ normalise_from rows (k + m) n
unfolding normalise_from
tidy-passed {first} {count} {rows} d zero k n t made within =
    let a : zero + n ≡ n = omega arith in
    let b : k + zero ≡ k = omega arith in
    rw (a, b)
tidy-passed {first} {count} {rows} d (suc m) k n t made within =
    let a : suc m + n ≡ suc (m + n) = omega arith in
    let b : k + suc m ≡ suc k + m = omega arith in
    rw (a, b)
    (ap (λ (l : List ℕ). normalise_from l (suc k) (m + n)) (row_stays d k (tidy-less (suc k) (k + suc m) (omega arith) t) made (omega arith))
    ∙ tidy-passed d m (suc k) n (subst (λ (i : ℕ). Tidy first i rows) b t) (omega arith) (omega arith))

-- The rows with vertex v merged into the literal r, and all made rows normalised.
abbrev pub merged_rows : ℕ → ℕ → List ℕ → ℕ → ℕ → List ℕ
merged_rows first count rows v r = normalise_from (merged_into rows v r) first (count - first)

-- A vertex v is merged into the lower literal r.
module _ {first count : ℕ} (some : 1 ≤ first) {rows : List ℕ} (d : Downward first count rows) (v r : ℕ) (made : first ≤ v) (within : v < count)
    (low : r < 2 * v) where
  mid_renewed : Renewed first count (merged_into rows v r) (merged_rows first count rows v r)
  mid_renewed = renewed some (omega arith) (merged_into rows v r) (row-downward d v r r made within low low)

  mid_merged : merged? (merged_into rows v r) v ≡ true
  mid_merged = let h = row_here d v r r made within in equal-merged (merged_into rows v r) v (h.first ∙ sym h.second)

  -- It stays merged.
  pub merge-still : merged? (merged_rows first count rows v r) v ≡ true
  merge-still = mid_renewed.moves.still v made within mid_merged

  -- It was merged into what that literal became.
  pub merge_into : first_word (merged_rows first count rows v r) v ≡ resolve (merged_rows first count rows v r) r
  merge_into = mid_renewed.moves.into v made within mid_merged ∙ ap (resolve (merged_rows first count rows v r)) (row_here d v r r made within).first

  -- Where the rows were tidy those below it stay.
  pub merge-below : Tidy first count rows → (u : ℕ) → u < v → HoldsRow (merged_rows first count rows v r) u (first_word rows u) (second_word rows u)
  merge-below t u h =
      let a : count - first ≡ v - first + (count - v) = omega arith in
      let b : first + (v - first) ≡ v = omega arith in
      let c = tidy-agree d (omega arith) (tidy-less v count (omega arith) t) (λ x l. row_other rows v r r x (λ e. omega arith)) in
      let o = row_other rows v r r u (λ e. omega arith) in
      let n =
      (normalised some (count - v) v (merged_into rows v r) (row-downward d v r r made within low low) c made (omega arith)).before u h in
      let p =
      tidy-passed (row-downward d v r r made within low low) (v - first) first (count - v) (subst (λ (i : ℕ). Tidy first i (merged_into rows v r)) (sym b) c)
      (omega arith) (omega arith)
      ∙ ap (λ (i : ℕ). normalise_from (merged_into rows v r) i (count - v)) b in
      rw (a, p) (record { first = n.first ∙ o.first; second = n.second ∙ o.second })

  -- So it was merged into the literal itself, where the literal's vertex was not merged.
  pub merge_target : Tidy first count rows → was_merged? first rows (vertex_of r) ≡ false → first_word (merged_rows first count rows v r) v ≡ r
  merge_target t e =
      merge_into ∙ resolve-agree rows (merged_rows first count rows v r) r (merge-below t (vertex_of r) (omega arith)) ∙ resolve-kept d r e

  -- The rows are tidy, and all have moved on.
  pub merge_renewed : merged? rows v ≡ false → Renewed first count rows (merged_rows first count rows v r)
  merge_renewed unmerged =
      record {
        downward = mid_renewed.downward;
        tidy = mid_renewed.tidy;
        moves =
            record {
              long = mid_renewed.moves.long ∙ row_length rows v r r (omega (arith, d.long));
              still = λ u l h k. mid_renewed.moves.still u l h (same u (before u k) ∙ k);
              into = λ u l h k.
                  mid_renewed.moves.into u l h (same u (before u k) ∙ k) ∙ ap (resolve (merged_rows first count rows v r)) (row_other rows v r r u (before u k)).first;
              pairs = λ u l h k.
                  let o = row_other rows v r r u (after u k) in
                  pair_then (mid_renewed.moves.pairs u l h k)
                  (straight (ap (resolve (merged_rows first count rows v r)) o.first) (ap (resolve (merged_rows first count rows v r)) o.second));
            };
      }
    where
      before : (u : ℕ) → merged? rows u ≡ true → u ≢ v
      before u k e = clash k (ap (merged? rows) e ∙ unmerged)

      after : (u : ℕ) → merged? (merged_rows first count rows v r) u ≡ false → u ≢ v
      after u k e = clash merge-still (sym (ap (merged? (merged_rows first count rows v r)) e) ∙ k)

      same : (u : ℕ) → u ≢ v → merged? (merged_into rows v r) u ≡ merged? rows u
      same u e = merged-agree rows (merged_into rows v r) u (row_other rows v r r u e)
