-- Rows found, added and given back.
use Rattle.std.specs.Prelude.{◌%◌, ◌*◌, ◌+◌, ◌-◌, ◌/◌, ◌<◌, ◌≤◌, suc, zero, ℕ, ◌&&◌, cond, false, not, true, List, None, Option, Some, ◌∷◌, ◌≢◌, ◌≡◌}
use Rattle.bdd.specs.Diagram.{Reference, denote, store_of}
use Rattle.bdd.specs.code.Rows.{MARK, RADIX, head_at, high_at, level_at, low_at, next_at, owner_at, put}
use Rattle.bdd.specs.code.Store.{Kept, Store, bucket, bucket_of}
use Rattle.bdd.specs.declared.store.RowStore.{RowStore}
use Rattle.truth.specs.Distinct.{among}
use Rattle.truth.specs.Parts.{alike?, depends?}
unfoldable pub use Rattle.truth.specs.Parts.{plain}
use Rattle.truth.specs.Truth.{Truth, node}

-- Row i has level m, low reference a and high reference b.
pub record Is (rows : List ℕ) (i m a b : ℕ) : Type 0 where
  pub level : level_at rows i ≡ m
  pub low : low_at rows i ≡ a
  pub high : high_at rows i ≡ b

-- What a row above n may hold.
pub record NewRow (rows : List ℕ) (n m a b : ℕ) : Type 0 where
  pub deep : 1 ≤ m
  pub small : m < MARK
  pub low-stored : a / 2 ≤ n
  pub high-stored : b / 2 ≤ n
  pub low-level : level_at rows (a / 2) < m
  pub high-level : level_at rows (b / 2) < m
  pub plain : a % 2 ≡ 0
  pub differ : a ≢ b

-- The row i, from 1 to n, holds m, a and b.
pub record FoundAt (rows : List ℕ) (n m a b i : ℕ) : Type 0 where
  pub pos : 1 ≤ i
  pub stored : i ≤ n
  pub is : Is rows i m a b

-- No row from 1 to n holds them.
pub record Absent (rows : List ℕ) (n m a b : ℕ) : Type 0 where
  pub none : (i : ℕ) → 1 ≤ i → i ≤ n → Is rows i m a b → ⊥

-- What `find` gives, by its answer.
abbrev pub Found : List ℕ → ℕ → ℕ → ℕ → ℕ → Option ℕ → Type 0
Found rows n m a b (Some i) = FoundAt rows n m a b i
Found rows n m a b None = Absent rows n m a b

-- Row n + 1 written, without mark and owner, and made the head of its bucket.
unfoldable pub added : List ℕ → ℕ → ℕ → ℕ → ℕ → ℕ → List ℕ
added rows limit n m a b =
    put (put (put (put rows 0 (suc n) (a * RADIX + m)) 1 (suc n) (b * RADIX)) 2 (suc n) (head_at rows (bucket limit m a b))) 3 (suc (bucket limit m a b)) (suc n)

-- Row i's bucket has the next row of i as its head.
unfoldable pub unlinked : List ℕ → ℕ → ℕ → List ℕ
unlinked rows limit i = put rows 3 (suc (bucket_of rows limit i)) (next_at rows i)

-- Of u rows, the last k given back, the newest first.
unfoldable pub returned : List ℕ → ℕ → ℕ → ℕ → List ℕ
returned rows limit u zero = rows
returned rows limit u (suc k) = unlinked (returned rows limit u k) limit (u - k)

-- Buckets 0 to k - 1 empty.
unfoldable pub emptied : List ℕ → ℕ → List ℕ
emptied rows zero = rows
emptied rows (suc k) = put (emptied rows k) 3 (suc k) 0

-- The store grew from n to u rows; the new rows have no owner.
pub record Grown (s t : List ℕ) (limit n u : ℕ) : Type 0 where
  pub store : Store t limit u
  pub kept : Kept s t n
  pub more : n ≤ u
  pub fresh : (i : ℕ) → n < i → i ≤ u → owner_at t i ≡ 0

-- "each row is one distinct part": f added to the functions of the rows where it depends on its next input and is none of them. (RULES 6.7)
unfoldable pub add_part : Truth → List Truth → List Truth
add_part f store = cond (depends? f && not (among alike? f store)) (plain f ∷ store) store

-- The function with the halves a and b at the level.
abbrev pub join : List ℕ → ℕ → ℕ → ℕ → Truth
join rows level a b = node (denote rows (level - 1) a) (denote rows (level - 1) b)

-- The reference r denotes the function with the halves a and b, whose part is stored.
pub record MadeAt (s t : List ℕ) (limit n level a b r u : ℕ) : Type 0 where
  pub grown : Grown s t limit n u
  pub reference : Reference t u level r
  pub denotes : denote t level r ≡ join s level a b
  pub functions : store_of t u ≡ add_part (join s level a b) (store_of s n)

-- "the row limit was passed": the function is a part that is not stored, and no row is left. (RULES 7.3)
pub record MadeFull (s t : List ℕ) (limit n level a b : ℕ) : Type 0 where
  pub full : n ≡ limit
  pub depends : depends? (join s level a b) ≡ true
  pub absent : among alike? (join s level a b) (store_of s n) ≡ false
  pub same : t ≡ s

-- What `make` gives, by its answer: a reference and the u rows then used, or no row left.
abbrev pub Makes : List ℕ → List ℕ → ℕ → ℕ → ℕ → ℕ → ℕ → ℕ → Option ℕ → Type 0
Makes s t limit n u level a b (Some r) = MadeAt s t limit n level a b r u
Makes s t limit n u level a b None = MadeFull s t limit n level a b × (u ≡ n)

-- The same of a store.
abbrev pub MakesIn : RowStore → RowStore → ℕ → ℕ → ℕ → Option ℕ → Type 0
MakesIn s t level a b answer = Makes s.rows.now t.rows.now s.limit s.used t.used level a b answer

-- A store without rows.
pub record Cleared (s t : List ℕ) (limit : ℕ) : Type 0 where
  pub exact : t ≡ emptied s limit
  pub store : Store t limit 0

-- "its new rows are given back": the store of the first n rows, as they were. (RULES 6.4)
pub record GivenBack (s t : List ℕ) (limit u n : ℕ) : Type 0 where
  pub exact : t ≡ returned s limit u (u - n)
  pub store : Store t limit n
  pub kept : Kept s t n
