-- Marks on rows, and the size of a diagram.
use Rattle.std.specs.Prelude.{◌*◌, ◌+◌, ◌-◌, ◌/◌, ◌<◌, ◌≤◌, suc, zero, ℕ, length, Bool, List, ◌⊎◌, ◌≡◌}
use Rattle.bdd.specs.Diagram.{Canonical, Reach, denote}
use Rattle.bdd.specs.code.Rows.{MARK, child, level_at, mark_at, put, word_at}
use Rattle.truth.specs.Parts.{size}

-- Row i, which has no mark, marked.
unfoldable pub marked : List ℕ → ℕ → List ℕ
marked rows i = put rows 0 i (word_at rows 0 i + MARK)

-- Row i, which is marked, without its mark.
unfoldable pub wiped : List ℕ → ℕ → List ℕ
wiped rows i = put rows 0 i (word_at rows 0 i - MARK)

-- How many of the rows 1 to n are marked.
unfoldable pub marks_of : List ℕ → ℕ → ℕ
marks_of rows zero = 0
marks_of rows (suc n) = marks_of rows n + mark_at rows (suc n)

-- Word k of row i is the same, or the row got a mark.
pub data Word (s t : List ℕ) (k i : ℕ) : Type 0 where
  same : word_at t k i ≡ word_at s k i → Word s t k i
  gained : k ≡ 0 → mark_at s i ≡ 0 → word_at t 0 i ≡ word_at s 0 i + MARK → Word s t k i

-- t is s with further marks.
pub record More (s t : List ℕ) : Type 0 where
  pub words : (k i : ℕ) → k < 4 → Word s t k i
  pub long : length t ≡ length s

-- The rows that marked ones lead to are marked.
pub record Closed (rows : List ℕ) (n : ℕ) : Type 0 where
  pub children : (j : ℕ) → j ≤ n → mark_at rows j ≡ 1 → (b : Bool) → 1 ≤ child rows b j / 2 → mark_at rows (child rows b j / 2) ≡ 1

-- The rows reached from row i are marked; c of the marks are new.
pub record Marks (s t : List ℕ) (i c : ℕ) : Type 0 where
  pub more : More s t
  pub self : 1 ≤ i → mark_at t i ≡ 1
  pub only : (j : ℕ) → mark_at t j ≡ 1 → (mark_at s j ≡ 1) ⊎ Reach s i j
  pub count : (n : ℕ) → i ≤ n → marks_of t n ≡ marks_of s n + c
  pub closed : (n : ℕ) → i ≤ n → Closed s n → Closed t n

-- Of the rows reached from row i, those without a mark lead to rows without one.
pub record WipeReady (rows : List ℕ) (i : ℕ) : Type 0 where
  pub canonical : Canonical rows i
  pub long : i * 4 ≤ length rows
  pub ready : (j : ℕ) → Reach rows i j → mark_at rows j ≡ 0 → (b : Bool) → mark_at rows (child rows b j / 2) ≡ 0

-- The rows reached from row i have no mark; no other mark is gone.
pub record Wipes (s t : List ℕ) (i : ℕ) : Type 0 where
  pub fewer : More t s
  pub clear : (j : ℕ) → Reach s i j → mark_at t j ≡ 0
  pub only : (j : ℕ) → mark_at s j ≡ 1 → mark_at t j ≡ 0 → Reach s i j

-- c is the size of r's function, and the rows are as they were.
pub record Sized (s t : List ℕ) (r c : ℕ) : Type 0 where
  pub sized : (m : ℕ) → level_at s (r / 2) ≤ m → c ≡ size (denote s m r)
  pub same : t ≡ s
