-- The store: rows 1 to n in canonical form, in the unique table's chains.
use Rattle.std.specs.Prelude.{◌%◌, ◌*◌, ◌+◌, ◌<◌, ◌≤◌, ℕ, length, Bool, List, ◌≡◌}
use Rattle.bdd.specs.Diagram.{Canonical}
use Rattle.bdd.specs.code.Rows.{LIMIT, child, head_at, high_at, level_at, low_at, mark_at, next_at, owner_at}

-- The bucket of a row with level m, low reference a and high reference b; there are as many buckets as the row limit.
unfoldable pub bucket : ℕ → ℕ → ℕ → ℕ → ℕ
bucket limit m a b = (m + 31 * a + 1009 * b) % limit

-- The bucket of row i.
unfoldable pub bucket_of : List ℕ → ℕ → ℕ → ℕ
bucket_of rows limit i = bucket limit (level_at rows i) (low_at rows i) (high_at rows i)

-- A bucket's head is its highest row, a row's next the next lower row of its bucket; 0 stands for none.
pub record Chains (rows : List ℕ) (limit n : ℕ) : Type 0 where
  pub head-stored : (b : ℕ) → b < limit → head_at rows b ≤ n
  pub head-bucket : (b : ℕ) → b < limit → 1 ≤ head_at rows b → bucket_of rows limit (head_at rows b) ≡ b
  pub head-highest : (b : ℕ) → b < limit → (i : ℕ) → head_at rows b < i → i ≤ n → bucket_of rows limit i ≡ b → ⊥
  pub next-lower : (i : ℕ) → 1 ≤ i → i ≤ n → next_at rows i < i
  pub next-bucket : (i : ℕ) → 1 ≤ i → i ≤ n → 1 ≤ next_at rows i → bucket_of rows limit (next_at rows i) ≡ bucket_of rows limit i
  pub next-highest : (i : ℕ) → 1 ≤ i → i ≤ n → (j : ℕ) → next_at rows i < j → j < i → bucket_of rows limit j ≡ bucket_of rows limit i → ⊥

-- The slice has room for the limit's rows, of which n are used: "4 words a row of the limit". (RULES 8.2)
pub record StoreRoom (rows : List ℕ) (limit n : ℕ) : Type 0 where
  pub used : n ≤ limit
  pub small : limit ≤ LIMIT
  pub long : limit * 4 ≤ length rows

-- What holds of the slice between calls.
pub record Store (rows : List ℕ) (limit n : ℕ) : Type 0 where
  pub canonical : Canonical rows n
  pub chains : Chains rows limit n
  pub unmarked : (i : ℕ) → i ≤ n → mark_at rows i ≡ 0
  pub room : StoreRoom rows limit n

-- Rows 0 to n have the same levels and edges.
pub record Agree (s t : List ℕ) (n : ℕ) : Type 0 where
  pub levels : (i : ℕ) → i ≤ n → level_at t i ≡ level_at s i
  pub children : (b : Bool) (i : ℕ) → i ≤ n → child t b i ≡ child s b i

-- Rows 0 to n have the same levels, edges and owners.
pub record Kept (s t : List ℕ) (n : ℕ) : Type 0 where
  pub agree : Agree s t n
  pub owners : (i : ℕ) → i ≤ n → owner_at t i ≡ owner_at s i
