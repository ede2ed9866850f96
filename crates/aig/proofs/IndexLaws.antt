-- The look-up's invariant: how it starts and what keeps it.
use Rattle.std.proofs.lemmas.Grind.{common_steps}
use Rattle.std.specs.Prelude.{None}
use Prim.Native.Nat.{◌*◌, ◌+◌, ◌<◌, ◌≤◌, ℕ}
use Rattle.aig.proofs.FirstVertexLaws.{found_nothing}
use Rattle.aig.specs.Lookup.{Agree, Entered, Highest, HoldsRow, Indexed, Unused, cleared, entered, first_place, first_vertex, first_word, head_of, next_of, place_of, second_word, with_row}
use lib.ListN.{get_or, length, length-append, length-drop, length-replicate, length-set, set}
use lib.Seq.{get_or-set_other, get_or-set_same}
use mathlib.Core.List.{List}
use mathlib.Core.Logic.{◌⊎◌, inl, inr, ⊎_elim}
use mathlib.Core.Path.{◌∙◌, ◌≡◌, ap, ap₂, subst, sym}
use native.Mathlib.Decide.{ℕ_discrete}
use native.Mathlib.Nat.{mod-lt}
use native.Mathlib.Omega.{arith}

-- A list after two stores: the words stored, the other words, the length.
module _ (l : List ℕ) (i j x y : ℕ) where
  stored-first : (i ≡ j → ⊥) → i < length l → get_or (set (set l i x) j y) i 0 ≡ x
  stored-first d lt = get_or-set_other (set l i x) j i y 0 d ∙ get_or-set_same l i x 0 lt

  stored-second : j < length l → get_or (set (set l i x) j y) j 0 ≡ y
  stored-second lt = get_or-set_same (set l i x) j y 0 (rw (length-set l i x) lt)

  stored-neither : (k : ℕ) → (k ≡ i → ⊥) → (k ≡ j → ⊥) → get_or (set (set l i x) j y) k 0 ≡ get_or l k 0
  stored-neither k d e = get_or-set_other (set l i x) j k y 0 e ∙ get_or-set_other l i k x 0 d

  stored_length : length (set (set l i x) j y) ≡ length l
  stored_length = length-set (set l i x) j y ∙ length-set l i x

-- A pair's first place is one of the places.
pub first_place-below : (places p q : ℕ) → 1 ≤ places → first_place places p q < places
unfolding first_place
first_place-below places p q h = mod-lt _ h

-- A vertex with a pair stands at the pair's place.
pub holds-place : (pairs : List ℕ) (places v p q : ℕ) → HoldsRow pairs v p q → place_of pairs places v ≡ first_place places p q
holds-place pairs places v p q h = ap₂ (first_place places) h.first h.second

-- A vertex with a pair of two different words is entered.
pub holds-entered : (pairs : List ℕ) (v p q : ℕ) → (p ≡ q → ⊥) → HoldsRow pairs v p q → Entered pairs v
holds-entered pairs v p q apart h e = apart (sym h.first ∙ e ∙ h.second)

-- Where two lists of words agree below n, what is said of the vertices below n is said of both.
module _ (pairs other : List ℕ) (n : ℕ) (agree : Agree pairs other n) where
  same_first : (v : ℕ) → v < n → first_word other v ≡ first_word pairs v
  same_first v lt = agree (2 * v) (omega arith)

  same_second : (v : ℕ) → v < n → second_word other v ≡ second_word pairs v
  same_second v lt = agree (2 * v + 1) (omega arith)

  same_place : (places v : ℕ) → v < n → place_of other places v ≡ place_of pairs places v
  same_place places v lt = ap₂ (first_place places) (same_first v lt) (same_second v lt)

  holds-before : (v p q : ℕ) → v < n → HoldsRow other v p q → HoldsRow pairs v p q
  holds-before v p q lt h = grind (arith, common_steps)

  entered-before : (v : ℕ) → v < n → Entered other v → Entered pairs v
  entered-before v lt h e = h (same_first v lt ∙ e ∙ sym (same_second v lt))

  entered-after : (v : ℕ) → v < n → Entered pairs v → Entered other v
  entered-after v lt h e = h (sym (same_first v lt) ∙ e ∙ same_second v lt)

  highest-frame : (places place k e : ℕ) → k ≤ n → Highest pairs places place k e → Highest other places place k e
  highest-frame places place k e le h = grind (arith, common_steps)

-- Words of vertices that are not counted do not matter.
pub indexed-frame :
    {pairs look : List ℕ} {count places : ℕ} (other : List ℕ) → Indexed pairs count look places → Agree pairs other count → 2 * count ≤ length other
    → Indexed other count look places
indexed-frame {pairs} {look} {count} {places} other h agree fits =
    record {
      some-place = h.some-place;
      count_fits = h.count_fits;
      look-fits = h.look-fits;
      pairs-fit = fits;
      constant = λ one. same_first pairs other count agree 0 one ∙ h.constant one ∙ sym (same_second pairs other count agree 0 one);
      once = λ u v lu lv w same.
          h.once u v lu lv (entered-before pairs other count agree u lu w)
          (rw (same_first pairs other count agree u lu, same_second pairs other count agree u lu) at
          (holds-before pairs other count agree v (first_word other u) (second_word other u) lv same));
      heads = λ place lt. highest-frame pairs other count agree places place count (head_of look place) (omega arith) (h.heads place lt);
      nexts = λ v lt w.
          rw (same_place pairs other count agree places v lt)
          (highest-frame pairs other count agree places (place_of pairs places v) v (next_of look places v) (omega arith)
          (h.nexts v lt (entered-before pairs other count agree v lt w)));
    }

-- A vertex below the next count is below the count or is the new one.
old_or_new : (u v : ℕ) → u < v + 1 → (u < v) ⊎ (u ≡ v)
old_or_new u v lt = elim (ℕ_discrete u v) [ yes e ↦ inr e | no d ↦ inl (omega arith) ]

-- One more vertex that is not entered at a place.
highest-more :
    (pairs : List ℕ) (places place n e : ℕ) → (Entered pairs n → place_of pairs places n ≡ place → ⊥) → Highest pairs places place n e
    → Highest pairs places place (n + 1) e
highest-more pairs places place n e other h =
    record {
      within = λ one. omega (arith, h.within one);
      is-entered = h.is-entered;
      placed = h.placed;
      none_above = λ v above below w at.
          ⊎_elim
          (λ (o : v < n). h.none_above v above o w at)
          (λ (d : v ≡ n). other (subst (Entered pairs) d w) (sym (ap (place_of pairs places) d) ∙ at))
          (old_or_new v n below);
    }

-- A vertex with equal words is counted without an entry.
pub equal-counts :
    {pairs look : List ℕ} {v places : ℕ} → Indexed pairs v look places → first_word pairs v ≡ second_word pairs v → v < places
    → 2 * v + 1 < length pairs → Indexed pairs (v + 1) look places
equal-counts {pairs} {look} {v} {places} h equal lt fits =
    record {
      some-place = h.some-place;
      count_fits = omega arith;
      look-fits = h.look-fits;
      pairs-fit = omega arith;
      constant = λ one. ⊎_elim (λ (o : 0 < v). h.constant o) (λ (e : 0 ≡ v). subst (λ (u : ℕ). first_word pairs u ≡ second_word pairs u) (sym e) equal) (old_or_new 0 v one);
      once = λ a b la lb w same. h.once a b (old a w la) (old b (others a b w same) lb) w same;
      heads = λ place l. highest-more pairs places place v (head_of look place) (λ w at. w equal) (h.heads place l);
      nexts = λ u l w. h.nexts u (old u w l) w;
    }
  where
    old : (u : ℕ) → Entered pairs u → u < v + 1 → u < v
    old u w l = grind (arith, common_steps)

    others : (a b : ℕ) → Entered pairs a → HoldsRow pairs b (first_word pairs a) (second_word pairs a) → Entered pairs b
    others a b w same = grind (arith, common_steps)

module _
    {pairs look : List ℕ} {v places p q : ℕ} (h : Indexed pairs v look places) (holds : HoldsRow pairs v p q) (apart : p ≡ q → ⊥)
    (unused : Unused pairs p q v) (positive : 1 ≤ v) (below : v < places) (fits : 2 * v + 1 < length pairs) where
  abbrev own-place : ℕ
  own-place = first_place places p q

  abbrev older : ℕ
  older = head_of look own-place

  abbrev after : List ℕ
  after = entered look places v p q

  own_below : own-place < places
  own_below = first_place-below places p q h.some-place

  next-new : next_of after places v ≡ older
  next-new = stored-first look (places + v) own-place older v (omega (arith, own_below)) (omega (arith, h.look-fits))

  next_old : (u : ℕ) → u < v → next_of after places u ≡ next_of look places u
  next_old u lt = stored-neither look (places + v) own-place older v (places + u) (omega arith) (omega (arith, own_below))

  head-new : head_of after own-place ≡ v
  head-new = stored-second look (places + v) own-place older v (omega (arith, own_below, h.look-fits))

  head_old : (k : ℕ) → k < places → (k ≡ own-place → ⊥) → head_of after k ≡ head_of look k
  head_old k lt d = stored-neither look (places + v) own-place older v k (omega arith) d

  new-placed : place_of pairs places v ≡ own-place
  new-placed = holds-place pairs places v p q holds

  new-head : Highest pairs places own-place (v + 1) v
  new-head = grind (arith, common_steps)

  -- No lower vertex has the new vertex's pair.
  never : (u : ℕ) → u < v → first_word pairs u ≡ first_word pairs v → second_word pairs u ≡ second_word pairs v → ⊥
  never u lt e d = grind (arith, common_steps)

  still-once :
      (a b : ℕ) → a < v + 1 → b < v + 1 → Entered pairs a → HoldsRow pairs b (first_word pairs a) (second_word pairs a) → a ≡ b
  still-once a b la lb w same =
      ⊎_elim
      (λ (oa : a < v). ⊎_elim
      (λ (ob : b < v). h.once a b oa ob w same)
      (λ (e : b ≡ v). absurd (never a oa (sym same.first ∙ ap (first_word pairs) e) (sym same.second ∙ ap (second_word pairs) e)))
      (old_or_new b v lb))
      (λ (e : a ≡ v). ⊎_elim
      (λ (ob : b < v). absurd (never b ob (same.first ∙ ap (first_word pairs) e) (same.second ∙ ap (second_word pairs) e)))
      (λ (d : b ≡ v). e ∙ sym d)
      (old_or_new b v lb))
      (old_or_new a v la)

  -- A vertex whose pair no lower vertex has is entered and counted.
  pub enter_counts : Indexed pairs (v + 1) (entered look places v p q) places
  enter_counts =
      record {
        some-place = h.some-place;
        count_fits = omega arith;
        look-fits = rw (stored_length look (places + v) own-place older v) h.look-fits;
        pairs-fit = omega arith;
        constant = λ one. h.constant positive;
        once = still-once;
        heads = λ k lt. elim (ℕ_discrete k own-place) [
          | yes e ↦ rw (e, head-new) new-head
          | no d ↦ rw (head_old k lt d) (highest-more pairs places k v (head_of look k) (λ w at. d (sym at ∙ new-placed)) (h.heads k lt))
        ];
        nexts = λ u lt w.
            ⊎_elim
            (λ (o : u < v). rw (next_old u o) (h.nexts u o w))
            (λ (e : u ≡ v). rw (e, next-new, new-placed) (h.heads own-place own_below))
            (old_or_new u v lt);
      }

-- The words of one vertex are written.
module _ (pairs : List ℕ) (v p q : ℕ) (fits : 2 * v + 1 < length pairs) where
  -- It holds them.
  pub row-holds : HoldsRow (with_row pairs v p q) v p q
  row-holds = grind (arith, common_steps)

  -- The vertices below it hold what they held.
  pub row_agrees : Agree pairs (with_row pairs v p q) v
  row_agrees i lt = grind (arith, common_steps)

  -- The length is kept.
  pub row_length : length (with_row pairs v p q) ≡ length pairs
  row_length = stored_length pairs (2 * v) (2 * v + 1) p q

  row-indexed : {look : List ℕ} {places : ℕ} → Indexed pairs v look places → Indexed (with_row pairs v p q) v look places
  row-indexed h = indexed-frame (with_row pairs v p q) h row_agrees (rw row_length (omega arith))

-- A vertex written with equal words keeps the look-up as it is.
pub equal-keeps :
    {pairs look : List ℕ} {v places : ℕ} (x : ℕ) → Indexed pairs v look places → v < places → 2 * v + 1 < length pairs
    → Indexed (with_row pairs v x x) (v + 1) look places
equal-keeps {pairs} {look} {v} {places} x h lt fits =
    equal-counts (row-indexed pairs v x x fits h) ((row-holds pairs v x x fits).first ∙ sym (row-holds pairs v x x fits).second) lt
    (rw (row_length pairs v x x fits) fits)

-- A vertex written with a pair that none has, and entered, keeps the invariant.
pub enter-keeps :
    {pairs look : List ℕ} {v places : ℕ} (p q : ℕ) → Indexed pairs v look places → (p ≡ q → ⊥) → first_vertex pairs p q v ≡ None → 1 ≤ v
    → v < places → 2 * v + 1 < length pairs → Indexed (with_row pairs v p q) (v + 1) (entered look places v p q) places
enter-keeps {pairs} {look} {v} {places} p q h apart none positive below fits =
    enter_counts (row-indexed pairs v p q fits h) (row-holds pairs v p q fits) apart unused positive below (rw (row_length pairs v p q fits) fits)
  where
    unused : Unused (with_row pairs v p q) p q v
    unused u lt same =
        found_nothing pairs p q v none u lt (holds-before pairs (with_row pairs v p q) v (row_agrees pairs v p q fits) u p q lt same)

-- An empty look-up serves any vertices that all have equal words, none among them.
pub clear-starts :
    (pairs : List ℕ) (count : ℕ) (look : List ℕ) (places : ℕ) → 1 ≤ places → count ≤ places → 2 * places ≤ length look → 2 * count ≤ length pairs
    → ((v : ℕ) → v < count → first_word pairs v ≡ second_word pairs v) → Indexed pairs count (cleared look places) places
clear-starts pairs count look places one few long fits equal =
    record {
      some-place = one;
      count_fits = few;
      look-fits = simp (length-append, length-replicate, length-drop) (omega arith);
      pairs-fit = fits;
      constant = λ some. equal 0 some;
      once = λ u v lu lv w same. absurd (w (equal u lu));
      heads = λ place lt.
          rw (empty place lt)
          (record {
            within = λ some. absurd (omega arith);
            is-entered = λ some. absurd (omega arith);
            placed = λ some. absurd (omega arith);
            none_above = λ v above below w at. w (equal v below);
          });
      nexts = λ v lt w. absurd (w (equal v lt));
    }
  where
    empty : (place : ℕ) → place < places → head_of (cleared look places) place ≡ 0
    empty place lt = grind (arith, common_steps)
