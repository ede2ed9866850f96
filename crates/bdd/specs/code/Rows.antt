-- The layout of rows: four words each in one list. Row i (from 1 on) stands at (i - 1) * 4; row 0 is the constant and is not stored.
use Rattle.std.specs.Prelude.{◌%◌, ◌*◌, ◌+◌, ◌/◌, suc, zero, ℕ, get_or, set, Bool, false, true, List}

-- A row's low reference, and its high one, are multiples of this.
abbrev pub RADIX : ℕ
RADIX = 8192

-- The mark's place below the low reference; the level stands below the mark.
abbrev pub MARK : ℕ
MARK = 4096

-- "The size or row limit is outside 1 to 32,768": the most rows. (RULES 2.4, 8.1)
abbrev pub LIMIT : ℕ
LIMIT = 32768

-- Word k of row i: 0 is `low * RADIX + mark * MARK + level`, 1 is `high * RADIX + owner`, 2 is `next`, 3 the head of bucket i - 1.
unfoldable pub word_at : List ℕ → ℕ → ℕ → ℕ
word_at rows k zero = 0
word_at rows k (suc i) = get_or rows (i * 4 + k) 0

-- Word k of row i is w.
unfoldable pub put : List ℕ → ℕ → ℕ → ℕ → List ℕ
put rows k zero w = rows
put rows k (suc i) w = set rows (i * 4 + k) w

-- Row i's level: the inputs not yet passed, its own counted.
unfoldable pub level_at : List ℕ → ℕ → ℕ
level_at rows i = word_at rows 0 i % MARK

-- Row i's mark, 0 or 1.
unfoldable pub mark_at : List ℕ → ℕ → ℕ
mark_at rows i = word_at rows 0 i / MARK % 2

-- Row i's reference where its input is 0.
unfoldable pub low_at : List ℕ → ℕ → ℕ
low_at rows i = word_at rows 0 i / RADIX

-- Row i's reference where its input is 1.
unfoldable pub high_at : List ℕ → ℕ → ℕ
high_at rows i = word_at rows 1 i / RADIX

-- Row i's reference where its input has the digit b.
abbrev pub child : List ℕ → Bool → ℕ → ℕ
child rows false i = low_at rows i
child rows true i = high_at rows i

-- The vertex whose function row i has, 0 for none.
unfoldable pub owner_at : List ℕ → ℕ → ℕ
owner_at rows i = word_at rows 1 i % RADIX

-- The next lower row of row i's bucket, 0 for none.
unfoldable pub next_at : List ℕ → ℕ → ℕ
next_at rows i = word_at rows 2 i

-- The highest row of bucket b, 0 for none.
unfoldable pub head_at : List ℕ → ℕ → ℕ
head_at rows b = word_at rows 3 (suc b)
