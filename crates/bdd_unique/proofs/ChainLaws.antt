-- The unique table: buckets, the walk along a chain, a row added, rows given back, and an empty store.
use Prim.Native.Nat.{◌*◌, ◌+◌, ◌-◌, ◌/◌, ◌<◌, ◌≤◌, suc, zero, ℕ}
use Rattle.bdd.proofs.AgreeLaws.{bucket-agree, canonical-agree, canonical-fewer, kept_self, kept_then, row-agree, words-kept}
use Rattle.bdd.proofs.RowsLaws.{head_sees, high_packed, length_put, level_packed, low_packed, mark-constant, mark_packed, mark_sees, next_sees, owner_packed, put-row, put_same, put_word}
use Rattle.bdd.specs.Diagram.{Canonical, Row}
use Rattle.bdd.specs.code.Rows.{RADIX, child, head_at, high_at, level_at, low_at, mark_at, next_at, owner_at, put, word_at}
use Rattle.bdd.specs.code.Store.{Agree, Chains, Kept, Store, StoreRoom, bucket, bucket_of}
use Rattle.bdd_unique.specs.code.Unique.{Cleared, GivenBack, Is, NewRow, added, emptied, returned, unlinked}
use lib.ListN.{length}
use mathlib.Core.Bool.{Bool, false, true}
use mathlib.Core.List.{List}
use mathlib.Core.Logic.{◌⊎◌, inl, inr, ⊎_elim}
use mathlib.Core.Path.{◌∙◌, ◌≡◌, ap, ap₂, refl, subst, sym}
use native.Mathlib.Decide.{dec_lt, ℕ_discrete}
use native.Mathlib.Nat.{add-zero, mod-lt, sub_self, sub-zero}
use native.Mathlib.Numerals.{add-one}
use native.Mathlib.Omega.{arith}

-- Buckets.
pub bucket-bound : (limit m a b : ℕ) → 1 ≤ limit → bucket limit m a b < limit
unfolding bucket
bucket-bound limit m a b h = mod-lt (m + 31 * a + 1009 * b) h

pub bucket-row : (rows : List ℕ) (limit i : ℕ) → 1 ≤ limit → bucket_of rows limit i < limit
unfolding bucket_of
bucket-row rows limit i h = bucket-bound limit (level_at rows i) (low_at rows i) (high_at rows i) h

pub bucket-is : (rows : List ℕ) (limit i m a b : ℕ) → Is rows i m a b → bucket_of rows limit i ≡ bucket limit m a b
unfolding bucket_of
bucket-is rows limit i m a b I = rw (I.level, I.low, I.high)

-- The four words of a row, written one after the other.
pub added-words : (s : List ℕ) (limit n m a b : ℕ) {k h : ℕ} {s1 s2 s3 s4 : List ℕ} → k ≡ bucket limit m a b → h ≡ head_at s k
    → s1 ≡ put s 0 (n + 1) (a * RADIX + m) → s2 ≡ put s1 1 (n + 1) (b * RADIX) → s3 ≡ put s2 2 (n + 1) h → s4 ≡ put s3 3 (k + 1) (n + 1)
    → s4 ≡ added s limit n m a b
unfolding added
added-words s limit n m a b {k} ek eh e1 e2 e3 e4 = e4 ∙ rw (e3, e2, e1, eh, add-one k, add-one n, ek)

-- The walk along a chain has come to row p: no row above it holds m, a and b.
pub record Walk (rows : List ℕ) (limit n m a b p : ℕ) : Type 0 where
  pub stored : p ≤ n
  pub bucket-met : 1 ≤ p → bucket_of rows limit p ≡ bucket limit m a b
  pub passed : (i : ℕ) → p < i → i ≤ n → Is rows i m a b → ⊥

module _ {rows : List ℕ} {limit n : ℕ} (C : Chains rows limit n) (m a b : ℕ) where
  pub walk_begins : bucket limit m a b < limit → (p : ℕ) → p ≡ head_at rows (bucket limit m a b) → Walk rows limit n m a b p
  walk_begins lt p e =
      rw e
      (record {
        stored = C.head-stored (bucket limit m a b) lt;
        bucket-met = C.head-bucket (bucket limit m a b) lt;
        passed = λ i above le I. C.head-highest (bucket limit m a b) lt i above le (bucket-is rows limit i m a b I);
      })

  pub walk_on : (p : ℕ) → Walk rows limit n m a b p → 1 ≤ p → (Is rows p m a b → ⊥) → (q : ℕ) → q ≡ next_at rows p → Walk rows limit n m a b q
  walk_on p W pos other q e =
      rw e
      (record {
        stored = omega (arith, C.next-lower p pos W.stored, W.stored);
        bucket-met = λ one. C.next-bucket p pos W.stored one ∙ W.bucket-met pos;
        passed = passed;
      })
    where
      passed : (i : ℕ) → next_at rows p < i → i ≤ n → Is rows i m a b → ⊥
      passed i above le I =
          elim (ℕ_discrete i p) [
            | yes e ↦ other (subst (λ (j : ℕ). Is rows j m a b) e I)
            | no d ↦
                elim (dec_lt p i) [
                  | yes l ↦ W.passed i l le I
                  | no l ↦ C.next-highest p pos W.stored i above (omega arith) (bucket-is rows limit i m a b I ∙ sym (W.bucket-met pos))
                ]
          ]

-- A row added.
module _ {s : List ℕ} {limit n m a b : ℕ} (S : Store s limit n) (free : suc n ≤ limit) (W : NewRow s n m a b)
    (N : (i : ℕ) → 1 ≤ i → i ≤ n → Is s i m a b → ⊥) where
  abbrev place : ℕ
  place = bucket limit m a b

  abbrev after : List ℕ
  after = added s limit n m a b

  abbrev last : ℕ
  last = suc n

  bound : place < limit
  bound = bucket-bound limit m a b (omega arith)

  row_fits : last * 4 ≤ length s
  row_fits = omega (arith, S.room.long)

  head-fits : suc place * 4 ≤ length s
  head-fits = omega (arith, bound, S.room.long)

  abbrev s1 : List ℕ
  s1 = put s 0 last (a * RADIX + m)

  abbrev s2 : List ℕ
  s2 = put s1 1 last (b * RADIX)

  abbrev s3 : List ℕ
  s3 = put s2 2 last (head_at s place)

  l1 : length s1 ≡ length s
  l1 = length_put s 0 last (a * RADIX + m)

  l2 : length s2 ≡ length s
  l2 = length_put s1 1 last (b * RADIX) ∙ l1

  l3 : length s3 ≡ length s
  l3 = length_put s2 2 last (head_at s place) ∙ l2

  pub length_added : length after ≡ length s
  unfolding added
  length_added = length_put s3 3 (suc place) last ∙ l3

  old_words : (l i : ℕ) → l < 3 → i ≤ n → word_at after l i ≡ word_at s l i
  unfolding added
  old_words l i lt le =
      put_word s3 3 (suc place) last l i (omega arith) (omega arith) (omega arith)
      ∙ put-row s2 2 last (head_at s place) l i (omega arith) (omega arith) (omega arith)
      ∙ put-row s1 1 last (b * RADIX) l i (omega arith) (omega arith) (omega arith)
      ∙ put-row s 0 last (a * RADIX + m) l i (omega arith) (omega arith) (omega arith)

  old_heads : (p : ℕ) → (p ≡ place → ⊥) → word_at after 3 (suc p) ≡ word_at s 3 (suc p)
  unfolding added
  old_heads p d =
      put-row s3 3 (suc place) last 3 (suc p) (omega arith) (omega arith) (omega arith)
      ∙ put_word s2 2 last (head_at s place) 3 (suc p) (omega arith) (omega arith) (omega arith)
      ∙ put_word s1 1 last (b * RADIX) 3 (suc p) (omega arith) (omega arith) (omega arith)
      ∙ put_word s 0 last (a * RADIX + m) 3 (suc p) (omega arith) (omega arith) (omega arith)

  first : word_at after 0 last ≡ a * RADIX + m
  unfolding added
  first =
      put_word s3 3 (suc place) last 0 last (omega arith) (omega arith) (omega arith)
      ∙ put_word s2 2 last (head_at s place) 0 last (omega arith) (omega arith) (omega arith)
      ∙ put_word s1 1 last (b * RADIX) 0 last (omega arith) (omega arith) (omega arith)
      ∙ put_same s 0 last (a * RADIX + m) (omega arith) (omega arith) row_fits

  second : word_at after 1 last ≡ b * RADIX + 0
  unfolding added
  second =
      put_word s3 3 (suc place) last 1 last (omega arith) (omega arith) (omega arith)
      ∙ put_word s2 2 last (head_at s place) 1 last (omega arith) (omega arith) (omega arith)
      ∙ put_same s1 1 last (b * RADIX) (omega arith) (omega arith) (rw l1 row_fits)
      ∙ sym (add-zero (b * RADIX))

  third : word_at after 2 last ≡ head_at s place
  unfolding added
  third =
      put_word s3 3 (suc place) last 2 last (omega arith) (omega arith) (omega arith)
      ∙ put_same s2 2 last (head_at s place) (omega arith) (omega arith) (rw l2 row_fits)

  fourth : word_at after 3 (suc place) ≡ last
  unfolding added
  fourth = put_same s3 3 (suc place) last (omega arith) (omega arith) (rw l3 head-fits)

  pub added-kept : Kept s after n
  added-kept = words-kept s after n old_words

  A : Agree s after n
  A = added-kept.agree

  pub added_is : Is after last m a b
  added_is =
      record {
        level = level_packed after last a m W.small first;
        low = low_packed after last a m W.small first;
        high = high_packed after last b 0 (omega arith) second;
      }

  pub added-owner : owner_at after last ≡ 0
  added-owner = owner_packed after last b 0 (omega arith) second

  new-next : next_at after last ≡ head_at s place
  unfolding next_at
  new-next = third

  old_next : (i : ℕ) → i ≤ n → next_at after i ≡ next_at s i
  old_next i le = next_sees s after i i (old_words 2 i (omega arith) le)

  head-new : (p : ℕ) → p ≡ place → head_at after p ≡ last
  unfolding head_at
  head-new p e = rw e fourth

  head_old : (p : ℕ) → (p ≡ place → ⊥) → head_at after p ≡ head_at s p
  head_old p d = head_sees s after p (old_heads p d)

  old_bucket : (i : ℕ) → i ≤ n → bucket_of after limit i ≡ bucket_of s limit i
  old_bucket i le = bucket-agree s after limit n i A le

  new-bucket : bucket_of after limit last ≡ place
  new-bucket = bucket-is after limit last m a b added_is

  old_or_new : (i : ℕ) → i ≤ last → (i ≤ n) ⊎ (i ≡ last)
  old_or_new i le = elim (ℕ_discrete i last) [ yes e ↦ inr e | no d ↦ inl (omega arith) ]

  new_row : Row after last
  new_row =
      record {
        deep = rw added_is.level W.deep;
        earlier = earlier;
        lower = lower;
        plain = rw added_is.low W.plain;
        differ = λ e. W.differ (sym added_is.low ∙ e ∙ added_is.high);
      }
    where
      earlier : (b : Bool) → child after b last / 2 < last
      earlier false = rw added_is.low (omega (arith, W.low-stored))
      earlier true = rw added_is.high (omega (arith, W.high-stored))

      lower : (b : Bool) → level_at after (child after b last / 2) < level_at after last
      lower false = rw (added_is.low, added_is.level, A.levels (a / 2) W.low-stored) W.low-level
      lower true = rw (added_is.high, added_is.level, A.levels (b / 2) W.high-stored) W.high-level

  -- A row that has the new row's words would have held them before.
  old_is : (i : ℕ) → 1 ≤ i → i ≤ n → level_at after i ≡ level_at after last → ((c : Bool) → child after c i ≡ child after c last) → ⊥
  old_is i pos le e f =
      N i pos le
      (record {
        level = sym (A.levels i le) ∙ e ∙ added_is.level;
        low = sym (A.children false i le) ∙ f false ∙ added_is.low;
        high = sym (A.children true i le) ∙ f true ∙ added_is.high;
      })

  new-canonical : Canonical after last
  new-canonical =
      record {
        row = λ i pos le. ⊎_elim (λ o. row-agree s after n i A o (S.canonical.row i pos o)) (λ (e : i ≡ last). rw e new_row) (old_or_new i le);
        once = once;
      }
    where
      once : (i q : ℕ) → 1 ≤ i → i ≤ last → 1 ≤ q → q ≤ last → level_at after i ≡ level_at after q → ((c : Bool) → child after c i ≡ child after c q) → i ≡ q
      once i q pi li pq lq e f =
          ⊎_elim
          (λ (o : i ≤ n). ⊎_elim
          (λ (u : q ≤ n). S.canonical.once i q pi o pq u (sym (A.levels i o) ∙ e ∙ A.levels q u) (λ c. sym (A.children c i o) ∙ f c ∙ A.children c q u))
          (λ (d : q ≡ last). absurd (old_is i pi o (e ∙ ap (level_at after) d) (λ c. f c ∙ ap (child after c) d)))
          (old_or_new q lq))
          (λ (d : i ≡ last). ⊎_elim
          (λ (u : q ≤ n). absurd (old_is q pq u (sym e ∙ ap (level_at after) d) (λ c. sym (f c) ∙ ap (child after c) d)))
          (λ (h : q ≡ last). d ∙ sym h)
          (old_or_new q lq))
          (old_or_new i li)

  top : head_at s place ≤ n
  top = S.chains.head-stored place bound

  new-chains : Chains after limit last
  new-chains =
      record {
        head-stored = λ p pl. elim (ℕ_discrete p place) [
          | yes q ↦ rw (head-new p q) (omega arith)
          | no d ↦ rw (head_old p d) (omega (arith, S.chains.head-stored p pl))
        ];
        head-bucket = λ p pl one. elim (ℕ_discrete p place) [
          | yes q ↦ rw (head-new p q, new-bucket) (sym q)
          | no d ↦ rw (head_old p d, old_bucket (head_at s p) (S.chains.head-stored p pl)) (S.chains.head-bucket p pl (rw (head_old p d) at one))
        ];
        head-highest = λ p pl i above le sl. elim (ℕ_discrete p place) [
          | yes q ↦ (let z : last < i = rw (head-new p q) at above in omega arith)
          | no d ↦
              ⊎_elim
              (λ (o : i ≤ n). S.chains.head-highest p pl i (rw (head_old p d) at above) o (sym (old_bucket i o) ∙ sl))
              (λ (q : i ≡ last). d (sym (rw (q, new-bucket) at sl)))
              (old_or_new i le)
        ];
        next-lower = λ i pos le. ⊎_elim
            (λ (o : i ≤ n). rw (old_next i o) (S.chains.next-lower i pos o))
            (λ (q : i ≡ last). rw (q, new-next) (omega (arith, top)))
            (old_or_new i le);
        next-bucket = λ i pos le one. ⊎_elim
            (λ (o : i ≤ n). rw (old_next i o, old_bucket (next_at s i) (omega (arith, S.chains.next-lower i pos o)), old_bucket i o) (S.chains.next-bucket i pos o (rw (old_next i o) at one)))
            (λ (q : i ≡ last). rw (q, new-next, new-bucket, old_bucket (head_at s place) top) (S.chains.head-bucket place bound (rw (q, new-next) at one)))
            (old_or_new i le);
        next-highest = λ i pos le p above below sl. ⊎_elim
            (λ (o : i ≤ n). S.chains.next-highest i pos o p (rw (old_next i o) at above) below (sym (old_bucket p (omega arith)) ∙ sl ∙ old_bucket i o))
            (λ (q : i ≡ last). S.chains.head-highest place bound p (rw (q, new-next) at above) (omega arith) (sym (old_bucket p (omega arith)) ∙ (rw (q, new-bucket) at sl)))
            (old_or_new i le);
      }

  pub added-store : Store after limit last
  added-store =
      record {
        canonical = new-canonical;
        chains = new-chains;
        unmarked = λ i le. ⊎_elim
            (λ (o : i ≤ n). mark_sees s after i i (old_words 0 i (omega arith) o) ∙ S.unmarked i o)
            (λ (e : i ≡ last). ap (mark_at after) e ∙ mark_packed after last a m W.small first)
            (old_or_new i le);
        room = record { used = free; small = S.room.small; long = rw length_added S.room.long };
      }

-- The last row given back.
module _ {s : List ℕ} {limit n : ℕ} (S : Store s limit (suc n)) where
  abbrev last-place : ℕ
  last-place = bucket_of s limit (suc n)

  abbrev fewer : List ℕ
  fewer = unlinked s limit (suc n)

  last-bound : last-place < limit
  last-bound = bucket-row s limit (suc n) (omega (arith, S.room.used))

  words : (l i : ℕ) → l < 3 → word_at fewer l i ≡ word_at s l i
  unfolding unlinked
  words l i lt = put_word s 3 (suc last-place) (next_at s (suc n)) l i (omega arith) (omega arith) (omega arith)

  pub length_unlinked : length fewer ≡ length s
  unfolding unlinked
  length_unlinked = length_put s 3 (suc last-place) (next_at s (suc n))

  pub unlinked-kept : (u : ℕ) → Kept s fewer u
  unlinked-kept u = words-kept s fewer u (λ l i lt le. words l i lt)

  head_now : (p : ℕ) → p ≡ last-place → head_at fewer p ≡ next_at s (suc n)
  unfolding head_at unlinked
  head_now p e = rw e (put_same s 3 (suc last-place) (next_at s (suc n)) (omega arith) (omega arith) (omega (arith, last-bound, S.room.long)))

  head-then : (p : ℕ) → (p ≡ last-place → ⊥) → head_at fewer p ≡ head_at s p
  unfolding unlinked
  head-then p d = head_sees s fewer p (put-row s 3 (suc last-place) (next_at s (suc n)) 3 (suc p) (omega arith) (omega arith) (omega arith))

  same-bucket : (i : ℕ) → bucket_of fewer limit i ≡ bucket_of s limit i
  same-bucket i = bucket-agree s fewer limit i i (unlinked-kept i).agree (omega arith)

  same_next : (i : ℕ) → next_at fewer i ≡ next_at s i
  same_next i = next_sees s fewer i i (words 2 i (omega arith))

  last-lower : next_at s (suc n) < suc n
  last-lower = S.chains.next-lower (suc n) (omega arith) (omega arith)

  not_last : (p : ℕ) → p < limit → (p ≡ last-place → ⊥) → head_at s p ≡ suc n → ⊥
  not_last p pl d e = d (sym (S.chains.head-bucket p pl (omega arith)) ∙ ap (bucket_of s limit) e)

  fewer-chains : Chains fewer limit n
  fewer-chains =
      record {
        head-stored = λ p pl. elim (ℕ_discrete p last-place) [
          | yes q ↦ rw (head_now p q) (omega (arith, last-lower))
          | no d ↦ rw (head-then p d) (omega (arith, S.chains.head-stored p pl, not_last p pl d))
        ];
        head-bucket = λ p pl one. elim (ℕ_discrete p last-place) [
          | yes q ↦ rw (head_now p q, same-bucket (next_at s (suc n))) (S.chains.next-bucket (suc n) (omega arith) (omega arith) (rw (head_now p q) at one) ∙ sym q)
          | no d ↦ rw (head-then p d, same-bucket (head_at s p)) (S.chains.head-bucket p pl (rw (head-then p d) at one))
        ];
        head-highest = λ p pl i above le sl. elim (ℕ_discrete p last-place) [
          | yes q ↦ S.chains.next-highest (suc n) (omega arith) (omega arith) i (rw (head_now p q) at above) (omega arith) (sym (same-bucket i) ∙ sl ∙ q)
          | no d ↦ S.chains.head-highest p pl i (rw (head-then p d) at above) (omega arith) (sym (same-bucket i) ∙ sl)
        ];
        next-lower = λ i pos le. rw (same_next i) (S.chains.next-lower i pos (omega arith));
        next-bucket = λ i pos le one. rw (same_next i, same-bucket (next_at s i), same-bucket i) (S.chains.next-bucket i pos (omega arith) (rw (same_next i) at one));
        next-highest = λ i pos le p above below sl. S.chains.next-highest i pos (omega arith) p (rw (same_next i) at above) below (sym (same-bucket p) ∙ sl ∙ same-bucket i);
      }

  pub unlinked-store : Store fewer limit n
  unlinked-store =
      record {
        canonical = canonical-agree s fewer n (unlinked-kept n).agree (canonical-fewer S.canonical (omega arith));
        chains = fewer-chains;
        unmarked = λ i le. mark_sees s fewer i i (words 0 i (omega arith)) ∙ S.unmarked i (omega arith);
        room = record { used = omega (arith, S.room.used); small = S.room.small; long = rw length_unlinked S.room.long };
      }

-- The last k rows given back.
pub returned-store : (s : List ℕ) (limit u : ℕ) → Store s limit u → (k : ℕ) → k ≤ u
    → Store (returned s limit u k) limit (u - k) × Kept s (returned s limit u k) (u - k)
unfolding returned
returned-store s limit u S zero le = rw (sub-zero u) (S, kept_self s u)
returned-store s limit u S (suc k) le =
    let R = returned-store s limit u S k (omega arith) in
    go (returned s limit u k) (u - k) (u - suc k) (omega arith) R.0 R.1
  where
    go : (v : List ℕ) (i n : ℕ) → i ≡ suc n → Store v limit i → Kept s v i → Store (unlinked v limit i) limit n × Kept s (unlinked v limit i) n
    go v i n e T K =
        let U : Store v limit (suc n) = rw e at T in
        rw e
        (unlinked-store U, kept_then (kept_then (kept_self s n) K (omega arith)) (unlinked-kept U n) (omega arith))

pub given_back_lem : (s : List ℕ) (limit u n : ℕ) → Store s limit u → n ≤ u → (t : List ℕ) → t ≡ returned s limit u (u - n) → GivenBack s t limit u n
given_back_lem s limit u n S le t e =
    let R = returned-store s limit u S (u - n) (omega arith) in
    let back : u - (u - n) ≡ n = omega arith in
    record { exact = e; store = rw e (rw back at R.0); kept = rw e (rw back at R.1) }

-- Rows above i are given back, and rows above kept will be.
pub record Returning (before now : List ℕ) (limit used kept i : ℕ) : Type 0 where
  pub is : now ≡ returned before limit used (used - i)
  pub least : kept ≤ i
  pub most : i ≤ used

module _ (before : List ℕ) (limit used kept : ℕ) where
  pub returning_begins : kept ≤ used → Returning before before limit used kept used
  unfolding returned
  returning_begins le = record { is = ap (returned before limit used) (sym (sub_self used)); least = le; most = omega arith }

  pub returning_on : (now : List ℕ) (i : ℕ) → Returning before now limit used kept i → kept < i → (t : List ℕ) → t ≡ unlinked now limit i → Returning before t limit used kept (i - 1)
  unfolding returned unlinked
  returning_on now i R lt t e =
      let back : used - (used - i) ≡ i = omega (arith, R.most) in
      let next : suc (used - i) ≡ used - (i - 1) = omega (arith, R.most) in
      record {
        is = e ∙ ap₂ (λ (l : List ℕ) (j : ℕ). unlinked l limit j) R.is (sym back) ∙ ap (returned before limit used) next;
        least = omega arith;
        most = omega (arith, R.most);
      }

  -- What is left has room.
  pub returning_room : Store before limit used → (now : List ℕ) (i : ℕ) → Returning before now limit used kept i → StoreRoom now limit i
  returning_room S now i R =
      let back : used - (used - i) ≡ i = omega (arith, R.most) in
      let T = returned-store before limit used S (used - i) (omega (arith, R.most)) in
      (subst (λ (l : List ℕ). Store l limit i) (sym R.is) (rw back at T.0)).room

  pub returning_ends : Store before limit used → (now : List ℕ) (i : ℕ) → Returning before now limit used kept i → i ≡ kept → GivenBack before now limit used kept
  returning_ends S now i R e =
      given_back_lem before limit used kept S (omega (arith, R.most, R.least)) now (subst (λ (x : ℕ). now ≡ returned before limit used (used - x)) e R.is)

-- One row given back leaves a store of the others.
pub unlinked_one : {now t : List ℕ} {limit i : ℕ} → Store now limit i → 1 ≤ i → t ≡ unlinked now limit i → Store t limit (i - 1)
unlinked_one {now} {t} {limit} {i} S pos e = go (i - 1) (omega arith)
  where
    go : (n : ℕ) → i ≡ suc n → Store t limit n
    go n same = let U : Store now limit (suc n) = rw same at S in rw (e, same) (unlinked-store U)

-- An empty store.
pub length_emptied : (s : List ℕ) (k : ℕ) → length (emptied s k) ≡ length s
unfolding emptied
length_emptied s zero = refl
length_emptied s (suc k) = length_put (emptied s k) 3 (suc k) 0 ∙ length_emptied s k

-- The first i buckets are empty.
pub record Emptying (before now : List ℕ) (limit i : ℕ) : Type 0 where
  pub is : now ≡ emptied before i
  pub within : i ≤ limit
  pub long : length now ≡ length before

-- At first none need be.
pub emptying_begins : (before : List ℕ) (limit : ℕ) → Emptying before before limit 0
unfolding emptied
emptying_begins before limit = record { is = refl; within = omega arith; long = refl }

-- One bucket more is empty.
pub emptied_more : (before : List ℕ) (i : ℕ) {now t : List ℕ} → now ≡ emptied before i → t ≡ put now 3 (i + 1) 0 → t ≡ emptied before (i + 1)
unfolding emptied
emptied_more before i is e = e ∙ rw (is, add-one i)

-- The next bucket is emptied.
pub emptying_on : (before now : List ℕ) (limit i : ℕ) → Emptying before now limit i → i < limit → (t : List ℕ) → t ≡ put now 3 (i + 1) 0 → Emptying before t limit (i + 1)
emptying_on before now limit i E lt t e =
    record {
      is = emptied_more before i E.is e;
      within = omega arith;
      long = ap length e ∙ length_put now 3 (i + 1) 0 ∙ E.long;
    }

emptied-heads : (s : List ℕ) (k : ℕ) → k * 4 ≤ length s → (b : ℕ) → b < k → head_at (emptied s k) b ≡ 0
unfolding emptied head_at
emptied-heads s zero fits b lt = absurd (omega arith)
emptied-heads s (suc k) fits b lt =
    elim (ℕ_discrete b k) [
      | yes e ↦ rw e (put_same (emptied s k) 3 (suc k) 0 (omega arith) (omega arith) (rw (length_emptied s k) fits))
      | no d ↦ put-row (emptied s k) 3 (suc k) 0 3 (suc b) (omega arith) (omega arith) (omega arith) ∙ emptied-heads s k (omega arith) b (omega arith)
    ]

pub cleared : (s : List ℕ) (limit : ℕ) → StoreRoom s limit 0 → (t : List ℕ) → t ≡ emptied s limit → Cleared s t limit
cleared s limit R t e =
    record {
      exact = e;
      store = rw e (record {
        canonical = record { row = λ i pos le. absurd (omega arith); once = λ i j pi li. absurd (omega arith) };
        chains = record {
          head-stored = λ b lt. omega (arith, heads b lt);
          head-bucket = λ b lt one. absurd (omega (arith, heads b lt));
          head-highest = λ b lt i above le. absurd (omega arith);
          next-lower = λ i pos le. absurd (omega arith);
          next-bucket = λ i pos le. absurd (omega arith);
          next-highest = λ i pos le. absurd (omega arith);
        };
        unmarked = λ i le. let z : i ≡ 0 = omega arith in rw z (mark-constant (emptied s limit));
        room = record { used = R.used; small = R.small; long = rw (length_emptied s limit) R.long };
      });
    }
  where
    heads : (b : ℕ) → b < limit → head_at (emptied s limit) b ≡ 0
    heads b lt = emptied-heads s limit R.long b lt
