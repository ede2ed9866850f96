-- An owner that is set changes no row, no chain and no function.
use Prim.Native.Nat.{◌*◌, ◌+◌, ◌/◌, ◌<◌, ◌≤◌, suc, ℕ}
use Rattle.bdd.proofs.AgreeLaws.{bucket-agree, canonical-agree}
use Rattle.bdd.proofs.DiagramLaws.{frame}
use Rattle.bdd.proofs.RowsLaws.{head_sees, high_packed, high_sees, length_put, level_sees, low_sees, mark_sees, next_sees, owner_packed, owner_sees, put-row, put_same, put_word}
use Rattle.bdd.proofs.StoreLaws.{store-frame}
use Rattle.bdd.specs.Diagram.{denote, store_of}
use Rattle.bdd.specs.code.Owners.{with_owner}
use Rattle.bdd.specs.code.Rows.{RADIX, child, head_at, high_at, next_at, owner_at, word_at}
use Rattle.bdd.specs.code.Store.{Agree, Chains, Store, bucket_of}
use lib.ListN.{length}
use mathlib.Core.Bool.{Bool, false, true}
use mathlib.Core.List.{List}
use mathlib.Core.Path.{◌∙◌, ◌≡◌, sym}
use native.Mathlib.Decide.{ℕ_discrete}
use native.Mathlib.Omega.{arith}

-- Row i has the owner x; everything else is as it was.
pub record OwnerSet (s t : List ℕ) (limit n i x : ℕ) : Type 0 where
  pub store : Store t limit n
  pub own : owner_at t i ≡ x
  pub others : (j : ℕ) → (j ≡ i → ⊥) → owner_at t j ≡ owner_at s j
  pub agree : (k : ℕ) → Agree s t k
  pub denotes : (m r : ℕ) → r / 2 ≤ n → denote t m r ≡ denote s m r
  pub functions : store_of t n ≡ store_of s n

-- Naming an owner keeps the number of words.
pub length_owner : (rows : List ℕ) (i x : ℕ) → length (with_owner rows i x) ≡ length rows
unfolding with_owner
length_owner rows i x = length_put rows 1 i (high_at rows i * RADIX + x)

module _ (s : List ℕ) (limit n i x : ℕ) (S : Store s limit n) (pos : 1 ≤ i) (le : i ≤ n) (small : x < RADIX) where
  abbrev w : ℕ
  w = high_at s i * RADIX + x

  abbrev t : List ℕ
  t = with_owner s i x

  fits : i * 4 ≤ length s
  fits = omega (arith, S.room.used, S.room.long)

  other_word : (k j : ℕ) → k < 4 → (k ≡ 1 → ⊥) → word_at t k j ≡ word_at s k j
  unfolding with_owner
  other_word k j lt d = put_word s 1 i w k j (omega arith) lt d

  other_row : (k j : ℕ) → k < 4 → (j ≡ i → ⊥) → word_at t k j ≡ word_at s k j
  unfolding with_owner
  other_row k j lt d = put-row s 1 i w k j (omega arith) lt d

  own-word : word_at t 1 i ≡ w
  unfolding with_owner
  own-word = put_same s 1 i w (omega arith) pos fits

  same-child : (b : Bool) (j : ℕ) → child t b j ≡ child s b j
  same-child false j = low_sees s t j j (other_word 0 j (omega arith) (omega arith))
  same-child true j =
      elim (ℕ_discrete j i) [
        | yes e ↦ rw e (high_packed t i (high_at s i) x small own-word)
        | no d ↦ high_sees s t j j (other_row 1 j (omega arith) d)
      ]

  same-agree : (k : ℕ) → Agree s t k
  same-agree k = record { levels = λ j h. level_sees s t j j (other_word 0 j (omega arith) (omega arith)); children = λ b j h. same-child b j }

  same-bucket : (j : ℕ) → bucket_of t limit j ≡ bucket_of s limit j
  same-bucket j = bucket-agree s t limit j j (same-agree j) (omega arith)

  same_next : (j : ℕ) → next_at t j ≡ next_at s j
  same_next j = next_sees s t j j (other_word 2 j (omega arith) (omega arith))

  same_head : (b : ℕ) → head_at t b ≡ head_at s b
  same_head b = head_sees s t b (other_word 3 (suc b) (omega arith) (omega arith))

  same-chains : Chains t limit n
  same-chains =
      let C : Chains s limit n = S.chains in
      record {
        head-stored = λ b lt. rw (same_head b) (C.head-stored b lt);
        head-bucket = λ b lt one. rw (same_head b, same-bucket (head_at s b)) (C.head-bucket b lt (rw (same_head b) at one));
        head-highest = λ b lt j above h sl. C.head-highest b lt j (rw (same_head b) at above) h (sym (same-bucket j) ∙ sl);
        next-lower = λ j p h. rw (same_next j) (C.next-lower j p h);
        next-bucket = λ j p h one. rw (same_next j, same-bucket (next_at s j), same-bucket j) (C.next-bucket j p h (rw (same_next j) at one));
        next-highest = λ j p h q above below sl. C.next-highest j p h q (rw (same_next j) at above) below (sym (same-bucket q) ∙ sl ∙ same-bucket j);
      }

  pub owner_set : OwnerSet s t limit n i x
  owner_set =
      record {
        store = record {
          canonical = canonical-agree s t n (same-agree n) S.canonical;
          chains = same-chains;
          unmarked = λ j h. mark_sees s t j j (other_word 0 j (omega arith) (omega arith)) ∙ S.unmarked j h;
          room = record { used = S.room.used; small = S.room.small; long = rw (length_owner s i x) S.room.long };
        };
        own = owner_packed t i (high_at s i) x small own-word;
        others = λ j d. owner_sees s t j j (other_row 1 j (omega arith) d);
        agree = same-agree;
        denotes = λ m r h. frame s n S.canonical t (same-agree n) m r h;
        functions = store-frame s t n S.canonical (same-agree n) n (omega arith);
      }
