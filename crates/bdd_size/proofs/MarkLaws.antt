-- Marks: further marks on a list of rows, the rows reached and marked, and the marks wiped again.
use Prim.Native.Nat.{◌%◌, ◌*◌, ◌+◌, ◌-◌, ◌/◌, ◌<◌, ◌^◌, ◌≤◌, suc, zero, ℕ}
use Rattle.bdd.proofs.AgreeLaws.{canonical-agree, canonical-fewer}
use Rattle.bdd.proofs.RowsLaws.{child-constant, high_sees, length_put, level_sees, low_sees, mark-cases, mark-constant, mark_sees, put-row, put_same, put_word, words-equal}
use Rattle.bdd.proofs.StoreLaws.{reach_earlier}
use Rattle.bdd.specs.Diagram.{Canonical, Reach, along, arrived}
use Rattle.bdd.specs.code.Rows.{MARK, RADIX, child, high_at, level_at, low_at, mark_at, word_at}
use Rattle.bdd.specs.code.Store.{Agree}
use Rattle.bdd_size.specs.code.Marks.{Closed, Marks, More, WipeReady, Wipes, Word, gained, marked, marks_of, same, wiped}
use lib.ListN.{length}
use mathlib.Core.Bool.{Bool, false, true}
use mathlib.Core.List.{List}
use mathlib.Core.Logic.{◌⊎◌, inl, inr, ⊎_elim}
use mathlib.Core.Path.{◌∙◌, ◌≡◌, ap, ap₂, refl, subst, sym}
use native.Mathlib.Decide.{ℕ_discrete}
use native.Mathlib.Omega.{arith}

-- No mark is both 0 and 1.
mark_clash : {A : Type 0} {x : ℕ} → x ≡ 0 → x ≡ 1 → A
mark_clash e f = let z : ◌≡◌ {A = ℕ} 0 1 = sym e ∙ f in absurd (omega arith)

-- A word with a further mark.
plus-mark : (x y : ℕ) → x / MARK % 2 ≡ 0 → y ≡ x + MARK → y / MARK % 2 ≡ 1
plus-mark x y h e = omega arith

plus-low : (x y : ℕ) → x / MARK % 2 ≡ 0 → y ≡ x + MARK → y / RADIX ≡ x / RADIX
plus-low x y h e = omega arith

plus-level : (x y : ℕ) → y ≡ x + MARK → y % MARK ≡ x % MARK
plus-level x y e = omega arith

-- A word without a mark has room for one, and a word with a mark can lose it.
module _ (s : List ℕ) (i w : ℕ) where
  pub mark-room : mark_at s i ≡ 0 → w ≡ word_at s 0 i → w < 2 ^ 32 → w + MARK < 2 ^ 32
  unfolding mark_at
  mark-room h e lt = go w (rw (← e) at h) lt
    where
      go : (w : ℕ) → w / MARK % 2 ≡ 0 → w < 2 ^ 32 → w + MARK < 2 ^ 32
      go w h lt = omega arith

  pub mark-large : mark_at s i ≡ 1 → w ≡ word_at s 0 i → MARK ≤ w
  unfolding mark_at
  mark-large h e = go w (rw (← e) at h)
    where
      go : (w : ℕ) → w / MARK % 2 ≡ 1 → MARK ≤ w
      go w h = omega arith

module _ (s t : List ℕ) (i : ℕ) (h : mark_at s i ≡ 0) (e : word_at t 0 i ≡ word_at s 0 i + MARK) where
  pub marks-mark : mark_at t i ≡ 1
  unfolding mark_at
  marks-mark = plus-mark (word_at s 0 i) (word_at t 0 i) h e

  marks-low : low_at t i ≡ low_at s i
  unfolding mark_at low_at
  marks-low = plus-low (word_at s 0 i) (word_at t 0 i) h e

  marks-level : level_at t i ≡ level_at s i
  unfolding level_at
  marks-level = plus-level (word_at s 0 i) (word_at t 0 i) e

pub more-self : (s : List ℕ) → More s s
more-self s = record { words = λ k i lt. same refl; long = refl }

pub more-then : {s t v : List ℕ} → More s t → More t v → More s v
more-then {s} {t} {v} M L = record { words = λ k i lt. go k i (M.words k i lt) (L.words k i lt); long = L.long ∙ M.long }
  where
    go : (k i : ℕ) → Word s t k i → Word t v k i → Word s v k i
    go k i (same e) (same f) = same (f ∙ e)
    go k i (same e) (gained z h f) = let d : word_at t 0 i ≡ word_at s 0 i = rw z at e in gained z (sym (mark_sees s t i i d) ∙ h) (f ∙ ap (λ x. x + MARK) d)
    go k i (gained z h e) (same f) = gained z h ((rw z at f) ∙ e)
    go k i (gained z h e) (gained y g f) = mark_clash g (marks-mark s t i h e)

module _ {s t : List ℕ} (M : More s t) where
  pub more-level : (i : ℕ) → level_at t i ≡ level_at s i
  more-level i = go (M.words 0 i (omega arith))
    where
      go : Word s t 0 i → level_at t i ≡ level_at s i
      go (same e) = level_sees s t i i e
      go (gained z h e) = marks-level s t i h e

  pub more-child : (b : Bool) (i : ℕ) → child t b i ≡ child s b i
  more-child true i = go (M.words 1 i (omega arith))
    where
      go : Word s t 1 i → high_at t i ≡ high_at s i
      go (same e) = high_sees s t i i e
      go (gained z h e) = absurd (omega arith)
  more-child false i = go (M.words 0 i (omega arith))
    where
      go : Word s t 0 i → low_at t i ≡ low_at s i
      go (same e) = low_sees s t i i e
      go (gained z h e) = marks-low s t i h e

  pub more-agree : (n : ℕ) → Agree s t n
  more-agree n = record { levels = λ i h. more-level i; children = λ b i h. more-child b i }

  pub more-mark : (i : ℕ) → mark_at s i ≡ 1 → mark_at t i ≡ 1
  more-mark i o = go (M.words 0 i (omega arith))
    where
      go : Word s t 0 i → mark_at t i ≡ 1
      go (same e) = mark_sees s t i i e ∙ o
      go (gained z h e) = marks-mark s t i h e

  pub more_reach : {i j : ℕ} → Reach s i j → Reach t i j
  more_reach arrived = arrived
  more_reach (along {i = i} {j = j} b p) = along b (subst (λ (x : ℕ). Reach t (x / 2) j) (sym (more-child b i)) (more_reach p))

  pub reach_more : {i j : ℕ} → Reach t i j → Reach s i j
  reach_more arrived = arrived
  reach_more (along {i = i} {j = j} b p) = along b (subst (λ (x : ℕ). Reach s (x / 2) j) (more-child b i) (reach_more p))

-- A mark that was wiped.
pub fewer-mark : {s t : List ℕ} → More t s → (i : ℕ) → mark_at s i ≡ 0 → mark_at t i ≡ 0
fewer-mark {s} {t} M i z = ⊎_elim (λ e. e) (λ o. mark_clash z (more-mark M i o)) (mark-cases t i)

-- Row i marked.
module _ (s : List ℕ) (i : ℕ) (pos : 1 ≤ i) (fits : i * 4 ≤ length s) where
  module _ (free : mark_at s i ≡ 0) where
    marked-word : word_at (marked s i) 0 i ≡ word_at s 0 i + MARK
    unfolding marked
    marked-word = put_same s 0 i (word_at s 0 i + MARK) (omega arith) pos fits

    marked_other : (k j : ℕ) → k < 4 → (j ≡ i → ⊥) → word_at (marked s i) k j ≡ word_at s k j
    unfolding marked
    marked_other k j lt d = put-row s 0 i (word_at s 0 i + MARK) k j (omega arith) lt d

    pub marked_more : More s (marked s i)
    unfolding marked
    marked_more = record { words = words; long = length_put s 0 i (word_at s 0 i + MARK) }
      where
        words : (k j : ℕ) → k < 4 → Word s (marked s i) k j
        words k j lt =
            elim (ℕ_discrete k 0) [
              | yes e ↦
                  elim (ℕ_discrete j i) [
                    | yes d ↦ rw d (gained e free marked-word)
                    | no d ↦ same (marked_other k j lt d)
                  ]
              | no d ↦ same (put_word s 0 i (word_at s 0 i + MARK) k j (omega arith) lt d)
            ]

    pub marked-self : mark_at (marked s i) i ≡ 1
    marked-self = marks-mark s (marked s i) i free marked-word

    pub marked-mark : (j : ℕ) → (j ≡ i → ⊥) → mark_at (marked s i) j ≡ mark_at s j
    marked-mark j d = mark_sees s (marked s i) j j (marked_other 0 j (omega arith) d)

  -- Row i without its mark.
  module _ (one : mark_at s i ≡ 1) where
    minus-mark : (x y : ℕ) → x / MARK % 2 ≡ 1 → y ≡ x - MARK → (y / MARK % 2 ≡ 0) × (x ≡ y + MARK)
    minus-mark x y h e = (omega arith, omega arith)

    wiped-word : word_at (wiped s i) 0 i ≡ word_at s 0 i - MARK
    unfolding wiped
    wiped-word = put_same s 0 i (word_at s 0 i - MARK) (omega arith) pos fits

    wiped-other : (k j : ℕ) → k < 4 → (j ≡ i → ⊥) → word_at (wiped s i) k j ≡ word_at s k j
    unfolding wiped
    wiped-other k j lt d = put-row s 0 i (word_at s 0 i - MARK) k j (omega arith) lt d

    pub wiped-self : mark_at (wiped s i) i ≡ 0
    unfolding mark_at
    wiped-self = (minus-mark (word_at s 0 i) (word_at (wiped s i) 0 i) one wiped-word).0

    wiped-plus : word_at s 0 i ≡ word_at (wiped s i) 0 i + MARK
    unfolding mark_at
    wiped-plus = (minus-mark (word_at s 0 i) (word_at (wiped s i) 0 i) one wiped-word).1

    pub wiped-fewer : More (wiped s i) s
    unfolding wiped
    wiped-fewer = record { words = words; long = sym (length_put s 0 i (word_at s 0 i - MARK)) }
      where
        words : (k j : ℕ) → k < 4 → Word (wiped s i) s k j
        words k j lt =
            elim (ℕ_discrete k 0) [
              | yes e ↦
                  elim (ℕ_discrete j i) [
                    | yes d ↦ rw d (gained e wiped-self wiped-plus)
                    | no d ↦ same (sym (wiped-other k j lt d))
                  ]
              | no d ↦ same (sym (put_word s 0 i (word_at s 0 i - MARK) k j (omega arith) lt d))
            ]

    pub wiped-mark : (j : ℕ) → (j ≡ i → ⊥) → mark_at (wiped s i) j ≡ mark_at s j
    wiped-mark j d = mark_sees s (wiped s i) j j (wiped-other 0 j (omega arith) d)

-- How many rows are marked.
pub marks-bound : (s : List ℕ) (n : ℕ) → marks_of s n ≤ n
unfolding marks_of
marks-bound s zero = omega arith
marks-bound s (suc n) = ⊎_elim (λ e. omega (arith, marks-bound s n)) (λ e. omega (arith, marks-bound s n)) (mark-cases s (suc n))

marks-same : (s t : List ℕ) (n : ℕ) → ((j : ℕ) → j ≤ n → mark_at t j ≡ mark_at s j) → marks_of t n ≡ marks_of s n
unfolding marks_of
marks-same s t zero h = refl
marks-same s t (suc n) h = ap₂ ◌+◌ (marks-same s t n (λ j le. h j (omega arith))) (h (suc n) (omega arith))

marked-count : (s : List ℕ) (i : ℕ) → 1 ≤ i → i * 4 ≤ length s → mark_at s i ≡ 0 → (n : ℕ) → i ≤ n → marks_of (marked s i) n ≡ marks_of s n + 1
unfolding marks_of
marked-count s i pos fits free zero le = absurd (omega arith)
marked-count s i pos fits free (suc n) le =
    elim (ℕ_discrete i (suc n)) [
      | yes e ↦
          (let a : marks_of (marked s i) n ≡ marks_of s n = marks-same s (marked s i) n (λ j h. marked-mark s i pos fits free j (omega arith)) in
          let b : mark_at (marked s i) (suc n) ≡ 1 = subst (λ (x : ℕ). mark_at (marked s i) x ≡ 1) e (marked-self s i pos fits free) in
          let c : mark_at s (suc n) ≡ 0 = subst (λ (x : ℕ). mark_at s x ≡ 0) e free in
          omega arith)
      | no d ↦
          (let a : marks_of (marked s i) n ≡ marks_of s n + 1 = marked-count s i pos fits free n (omega arith) in
          let b : mark_at (marked s i) (suc n) ≡ mark_at s (suc n) = marked-mark s i pos fits free (suc n) (λ e. d (sym e)) in
          omega arith)
    ]

-- Row i is to be marked, after the rows l and h of its edges.
pub record ToMark (s : List ℕ) (i l h : ℕ) : Type 0 where
  pub pos : 1 ≤ i
  pub canonical : Canonical s i
  pub long : i * 4 ≤ length s
  pub free : mark_at s i ≡ 1 → ⊥
  pub low : l ≡ low_at s i / 2
  pub high : h ≡ high_at s i / 2

module _ {s : List ℕ} {i l h : ℕ} (Q : ToMark s i l h) where
  pub low-earlier : l < i
  low-earlier = omega (arith, (Q.canonical.row i Q.pos (omega arith)).earlier false)

  pub high-earlier : h < i
  high-earlier = omega (arith, (Q.canonical.row i Q.pos (omega arith)).earlier true)

  pub mark-low : Canonical s l × (l * 4 ≤ length s)
  mark-low = (canonical-fewer Q.canonical (omega (arith, low-earlier)), omega (arith, low-earlier))

  module _ {s1 : List ℕ} {a : ℕ} (M : Marks s s1 l a) where
    pub mark-high : Canonical s1 h × (h * 4 ≤ length s1)
    mark-high = (canonical-agree s s1 h (more-agree M.more h) (canonical-fewer Q.canonical (omega (arith, high-earlier))), omega (arith, high-earlier, M.more.long))

    module _ {s2 : List ℕ} {b : ℕ} (L : Marks s1 s2 h b) where
      still-free : mark_at s2 i ≡ 0
      still-free = ⊎_elim (λ e. e) (λ o. absurd (was (L.only i o))) (mark-cases s2 i)
        where
          was : (mark_at s1 i ≡ 1) ⊎ Reach s1 h i → ⊥
          was =
              ⊎_elim
              (λ o. ⊎_elim Q.free (λ p. let z : i ≤ l = reach_earlier s i Q.canonical p (omega (arith, low-earlier)) in omega (arith, low-earlier)) (M.only i o))
              (λ p. let z : i ≤ h = reach_earlier s i Q.canonical (reach_more M.more p) (omega (arith, high-earlier)) in omega (arith, high-earlier))

      long2 : i * 4 ≤ length s2
      long2 = omega (arith, M.more.long, L.more.long)

      pub set_mark-asks : (i * 4 ≤ length s2) × (mark_at s2 i ≡ 0)
      set_mark-asks = (long2, still-free)

      pub count-bound : a + b ≤ i
      count-bound =
          let x : marks_of s1 i ≡ marks_of s i + a = M.count i (omega (arith, low-earlier)) in
          let y : marks_of s2 i ≡ marks_of s1 i + b = L.count i (omega (arith, high-earlier)) in
          omega (arith, marks-bound s2 i)

      abbrev s3 : List ℕ
      s3 = marked s2 i

      more3 : More s2 s3
      more3 = marked_more s2 i Q.pos long2 still-free

      all_more : More s s3
      all_more = more-then (more-then M.more L.more) more3

      only3 : (j : ℕ) → mark_at s3 j ≡ 1 → (mark_at s j ≡ 1) ⊎ Reach s i j
      only3 j o =
          elim (ℕ_discrete j i) [
            | yes e ↦ inr (rw e arrived)
            | no d ↦
                ⊎_elim
                (λ o1. ⊎_elim inl (λ p. inr (along false (subst (λ (x : ℕ). Reach s x j) Q.low p))) (M.only j o1))
                (λ p. inr (along true (subst (λ (x : ℕ). Reach s x j) Q.high (reach_more M.more p))))
                (L.only j (sym (marked-mark s2 i Q.pos long2 still-free j d) ∙ o))
          ]

      count3 : (n : ℕ) → i ≤ n → marks_of s3 n ≡ marks_of s n + (a + b + 1)
      count3 n le =
          let x : marks_of s1 n ≡ marks_of s n + a = M.count n (omega (arith, low-earlier)) in
          let y : marks_of s2 n ≡ marks_of s1 n + b = L.count n (omega (arith, high-earlier)) in
          let z : marks_of s3 n ≡ marks_of s2 n + 1 = marked-count s2 i Q.pos long2 still-free n le in
          omega arith

      child3 : (b : Bool) (j : ℕ) → child s3 b j ≡ child s b j
      child3 b j = more-child all_more b j

      closed3 : (n : ℕ) → i ≤ n → Closed s n → Closed s3 n
      closed3 n le D = record { children = λ j lj o b one. elim (ℕ_discrete j i) [ yes e ↦ own j e b one | no d ↦ old j lj (sym (marked-mark s2 i Q.pos long2 still-free j d) ∙ o) b one ] }
        where
          own : (j : ℕ) → j ≡ i → (b : Bool) → 1 ≤ child s3 b j / 2 → mark_at s3 (child s3 b j / 2) ≡ 1
          own j e false one =
              let q : child s3 false j / 2 ≡ l = ap (λ x. x / 2) (child3 false j) ∙ ap (λ x. low_at s x / 2) e ∙ sym Q.low in
              subst (λ (x : ℕ). mark_at s3 x ≡ 1) (sym q) (more-mark more3 l (more-mark L.more l (M.self (omega arith))))
          own j e true one =
              let q : child s3 true j / 2 ≡ h = ap (λ x. x / 2) (child3 true j) ∙ ap (λ x. high_at s x / 2) e ∙ sym Q.high in
              subst (λ (x : ℕ). mark_at s3 x ≡ 1) (sym q) (more-mark more3 h (L.self (omega arith)))

          D2 : Closed s2 n
          D2 = L.closed n (omega (arith, high-earlier)) (M.closed n (omega (arith, low-earlier)) D)

          old : (j : ℕ) → j ≤ n → mark_at s2 j ≡ 1 → (b : Bool) → 1 ≤ child s3 b j / 2 → mark_at s3 (child s3 b j / 2) ≡ 1
          old j lj o b one =
              let q : child s3 b j / 2 ≡ child s2 b j / 2 = ap (λ x. x / 2) (more-child more3 b j) in
              subst (λ (x : ℕ). mark_at s3 x ≡ 1) (sym q) (more-mark more3 (child s2 b j / 2) (D2.children j lj o b (omega arith)))

      pub mark-row : {v : List ℕ} → v ≡ marked s2 i → Marks s v i (a + b + 1)
      mark-row e = rw e (record { more = all_more; self = λ _. marked-self s2 i Q.pos long2 still-free; only = only3; count = count3; closed = closed3 })

-- Nothing to wipe.
pub wipe_none : (s : List ℕ) (i : ℕ) → WipeReady s i → mark_at s i ≡ 0 → Wipes s s i
wipe_none s i W z =
    record {
      fewer = more-self s;
      clear = λ j p. go p W.ready z;
      only = λ j o z. mark_clash z o;
    }
  where
    go : {i j : ℕ} → Reach s i j → ((k : ℕ) → Reach s i k → mark_at s k ≡ 0 → (b : Bool) → mark_at s (child s b k / 2) ≡ 0) → mark_at s i ≡ 0 → mark_at s j ≡ 0
    go arrived r z = z
    go (along {i = i} b p) r z = go p (λ k q. r k (along b q)) (r i arrived z b)

-- Row i is to be wiped, after the rows l and h of its edges.
pub record ToWipe (s : List ℕ) (i l h : ℕ) : Type 0 where
  pub ready : WipeReady s i
  pub one : mark_at s i ≡ 1
  pub low : l ≡ low_at s i / 2
  pub high : h ≡ high_at s i / 2

module _ {s : List ℕ} {i l h : ℕ} (Q : ToWipe s i l h) where
  pub wipe_pos : 1 ≤ i
  wipe_pos = elim (ℕ_discrete i 0) [ yes e ↦ mark_clash (ap (mark_at s) e ∙ mark-constant s) Q.one | no d ↦ omega arith ]

  pub wipe_low-earlier : l < i
  wipe_low-earlier = omega (arith, (Q.ready.canonical.row i wipe_pos (omega arith)).earlier false)

  pub wipe_high-earlier : h < i
  wipe_high-earlier = omega (arith, (Q.ready.canonical.row i wipe_pos (omega arith)).earlier true)

  reach_low : {j : ℕ} → Reach s l j → Reach s i j
  reach_low {j} p = along false (subst (λ (x : ℕ). Reach s x j) Q.low p)

  reach_high : {j : ℕ} → Reach s h j → Reach s i j
  reach_high {j} p = along true (subst (λ (x : ℕ). Reach s x j) Q.high p)

  pub wipe_low : WipeReady s l
  wipe_low =
      record {
        canonical = canonical-fewer Q.ready.canonical (omega (arith, wipe_low-earlier));
        long = omega (arith, Q.ready.long, wipe_low-earlier);
        ready = λ j p. Q.ready.ready j (reach_low p);
      }

  module _ {s1 : List ℕ} (Y : Wipes s s1 l) where
    child1 : (b : Bool) (j : ℕ) → child s1 b j ≡ child s b j
    child1 b j = sym (more-child Y.fewer b j)

    pub wipe_high : WipeReady s1 h
    wipe_high =
        record {
          canonical = canonical-agree s s1 h (record { levels = λ j le. sym (more-level Y.fewer j); children = λ b j le. child1 b j }) (canonical-fewer Q.ready.canonical (omega (arith, wipe_high-earlier)));
          long = omega (arith, Q.ready.long, wipe_high-earlier, Y.fewer.long);
          ready = ready;
        }
      where
        ready : (j : ℕ) → Reach s1 h j → mark_at s1 j ≡ 0 → (b : Bool) → mark_at s1 (child s1 b j / 2) ≡ 0
        ready j p z b =
            subst (λ (x : ℕ). mark_at s1 (x / 2) ≡ 0) (sym (child1 b j))
            (⊎_elim
            (λ e. fewer-mark Y.fewer (child s b j / 2) (Q.ready.ready j (reach_high (more_reach Y.fewer p)) e b))
            (λ o. Y.clear (child s b j / 2) (beyond (Y.only j o z) b))
            (mark-cases s j))
          where
            beyond : {i j : ℕ} → Reach s i j → (b : Bool) → Reach s i (child s b j / 2)
            beyond arrived b = along b arrived
            beyond (along c q) b = along c (beyond q b)

    module _ {s2 : List ℕ} (U : Wipes s1 s2 h) where
      long2w : i * 4 ≤ length s2
      long2w = omega (arith, Q.ready.long, Y.fewer.long, U.fewer.long)

      still_marked : mark_at s2 i ≡ 1
      still_marked = ⊎_elim (λ z. absurd (gone z)) (λ o. o) (mark-cases s2 i)
        where
          gone : mark_at s2 i ≡ 0 → ⊥
          gone z =
              ⊎_elim
              (λ e. let p : i ≤ l = reach_earlier s i Q.ready.canonical (Y.only i Q.one e) (omega (arith, wipe_low-earlier)) in omega (arith, wipe_low-earlier))
              (λ o. let p : i ≤ h = reach_earlier s i Q.ready.canonical (more_reach Y.fewer (U.only i o z)) (omega (arith, wipe_high-earlier)) in omega (arith, wipe_high-earlier))
              (mark-cases s1 i)

      pub clear-mark-asks : (i * 4 ≤ length s2) × (mark_at s2 i ≡ 1)
      clear-mark-asks = (long2w, still_marked)

      abbrev s4 : List ℕ
      s4 = wiped s2 i

      fewer4 : More s4 s2
      fewer4 = wiped-fewer s2 i wipe_pos long2w still_marked

      clear4 : {j : ℕ} → Reach s i j → mark_at s4 j ≡ 0
      clear4 arrived = wiped-self s2 i wipe_pos long2w still_marked
      clear4 (along {j = j} false p) = fewer-mark fewer4 j (fewer-mark U.fewer j (Y.clear j (subst (λ (x : ℕ). Reach s x j) (sym Q.low) p)))
      clear4 (along {j = j} true p) = fewer-mark fewer4 j (U.clear j (reach_more Y.fewer (subst (λ (x : ℕ). Reach s x j) (sym Q.high) p)))

      only4 : (j : ℕ) → mark_at s j ≡ 1 → mark_at s4 j ≡ 0 → Reach s i j
      only4 j o z =
          elim (ℕ_discrete j i) [
            | yes e ↦ rw e arrived
            | no d ↦
                ⊎_elim
                (λ e. reach_low (Y.only j o e))
                (λ o1. reach_high (more_reach Y.fewer (U.only j o1 (sym (wiped-mark s2 i wipe_pos long2w still_marked j d) ∙ z))))
                (mark-cases s1 j)
          ]

      pub wipe_row : {v : List ℕ} → v ≡ wiped s2 i → Wipes s v i
      wipe_row e = rw e (record { fewer = more-then fewer4 (more-then U.fewer Y.fewer); clear = λ j p. clear4 p; only = only4 })

-- The rows that were marked are wiped: every word is as it was.
pub wiped-same : (s u v : List ℕ) (n i : ℕ) (c : ℕ) → Canonical s n → i ≤ n → ((j : ℕ) → j ≤ n → mark_at s j ≡ 0) → Marks s u i c → Wipes u v i → v ≡ s
wiped-same s u v n i c C le clear M W =
    words-equal s v (sym W.fewer.long ∙ M.more.long) (λ k j lt. go k j (M.more.words k j lt) (W.fewer.words k j lt))
  where
    go : (k j : ℕ) → Word s u k j → Word v u k j → word_at v k j ≡ word_at s k j
    go k j (same e) (same f) = sym f ∙ e
    go k j (same e) (gained z h f) =
        let d : word_at u 0 j ≡ word_at s 0 j = rw z at e in
        let o : mark_at u j ≡ 1 = marks-mark v u j h f in
        let p : j ≤ i = reach_earlier s n C (reach_more M.more (W.only j o h)) le in
        mark_clash (clear j (omega arith)) (sym (mark_sees s u j j d) ∙ o)
    go k j (gained z h e) (same f) =
        let o : mark_at u j ≡ 1 = marks-mark s u j h e in
        let g : word_at v 0 j ≡ word_at u 0 j = sym (rw z at f) in
        ⊎_elim
        (λ a. mark_clash h a)
        (λ p. mark_clash (W.clear j (more_reach M.more p)) (mark_sees u v j j g ∙ o))
        (M.only j o)
    go k j (gained z h e) (gained y g f) = rw z (plus-equal (word_at v 0 j) (word_at s 0 j) (sym f ∙ e))
      where
        plus-equal : (x y : ℕ) → x + MARK ≡ y + MARK → x ≡ y
        plus-equal x y e = omega arith

-- Every row that is reached is marked.
pub all-marked : (s u : List ℕ) (n i c : ℕ) → Canonical s n → ((j : ℕ) → j ≤ n → mark_at s j ≡ 0) → i ≤ n → Marks s u i c
    → {j : ℕ} → Reach s i j → 1 ≤ j → mark_at u j ≡ 1
all-marked s u n i c C clear le M p pos = go p pos le M.self (M.closed n le (record { children = λ j lj o. mark_clash (clear j lj) o }))
  where
    go : {i j : ℕ} → Reach s i j → 1 ≤ j → i ≤ n → (1 ≤ i → mark_at u i ≡ 1) → Closed u n → mark_at u j ≡ 1
    go arrived pos le self D = self pos
    go (along {i = i} b p) pos le self D =
        elim (ℕ_discrete i 0) [
          | yes e ↦
              (let q : child s b i / 2 ≡ 0 = ap (λ x. child s b x / 2) e ∙ child-constant s b in
              go p pos (omega arith) (λ one. absurd (omega arith)) D)
          | no d ↦
              (let w : child s b i / 2 < i = (C.row i (omega arith) le).earlier b in
              go p pos (omega arith)
              (λ one. subst (λ (x : ℕ). mark_at u (x / 2) ≡ 1) (more-child M.more b i)
              (D.children i le (self (omega arith)) b (subst (λ (x : ℕ). 1 ≤ x / 2) (sym (more-child M.more b i)) one)))
              D)
        ]

pub wipe_asks : (s u : List ℕ) (n i c : ℕ) → Canonical s n → i ≤ n → n * 4 ≤ length s → ((j : ℕ) → j ≤ n → mark_at s j ≡ 0) → Marks s u i c → WipeReady u i
wipe_asks s u n i c C le fits clear M =
    record {
      canonical = canonical-agree s u i (more-agree M.more i) (canonical-fewer C le);
      long = omega (arith, M.more.long);
      ready = λ j p z b. elim (ℕ_discrete j 0) [
        | yes e ↦ subst (λ (x : ℕ). mark_at u (child u b x / 2) ≡ 0) (sym e) (ap (mark_at u) (child-constant u b) ∙ mark-constant u)
        | no d ↦ mark_clash z (all-marked s u n i c C clear le M (reach_more M.more p) (omega arith))
      ];
    }
