-- Reduced ordered decision diagrams: the function of a reference, and canonical form.
use Rattle.std.specs.Prelude.{◌%◌, ◌*◌, ◌+◌, ◌/◌, ◌<◌, ◌≤◌, suc, zero, ℕ, eqb, Bool, cond, false, true, List, [], ◌∷◌, ◌≢◌, ◌≡◌}
use Rattle.bdd.specs.code.Rows.{child, high_at, level_at, low_at}
use Rattle.truth.specs.Truth.{Truth, leaf, node}

-- A reference is twice a row, "plus 1 if inverted". The reference c, inverted once more where r is inverted. (RULES 1.7)
unfoldable pub edge : ℕ → ℕ → ℕ
edge c r = c / 2 * 2 + (c + r) % 2

-- The inverted reference.
abbrev pub inverse : ℕ → ℕ
inverse r = edge r 1

-- The cofactor: the reference r where the input of level m has the digit b.
unfoldable pub cofactor : List ℕ → Bool → ℕ → ℕ → ℕ
cofactor rows b m r = cond (eqb (level_at rows (r / 2)) m) (edge (child rows b (r / 2)) r) r

-- The function of reference r, of the last m inputs.
unfoldable pub denote : List ℕ → ℕ → ℕ → Truth
denote rows zero r = leaf (eqb (r % 2) 1)
denote rows (suc m) r = node (denote rows m (cofactor rows false (suc m) r)) (denote rows m (cofactor rows true (suc m) r))

-- "each row is one distinct part": the function of row i, of its own level's inputs. (RULES 6.7)
unfoldable pub row_function : List ℕ → ℕ → Truth
row_function rows i = denote rows (level_at rows i) (i * 2)

-- The functions of rows n to 1, newest first.
unfoldable pub store_of : List ℕ → ℕ → List Truth
store_of rows zero = []
store_of rows (suc n) = row_function rows (suc n) ∷ store_of rows n

-- Row i is reduced and ordered: its low edge is not inverted, its edges differ and lead to earlier rows of lower level.
pub record Row (rows : List ℕ) (i : ℕ) : Type 0 where
  pub deep : 1 ≤ level_at rows i
  pub earlier : (b : Bool) → child rows b i / 2 < i
  pub lower : (b : Bool) → level_at rows (child rows b i / 2) < level_at rows i
  pub plain : low_at rows i % 2 ≡ 0
  pub differ : low_at rows i ≢ high_at rows i

-- "Diagrams are shared and reduced": rows 1 to n are reduced and ordered, and no row stands twice. (RULES 6.7)
pub record Canonical (rows : List ℕ) (n : ℕ) : Type 0 where
  pub row : (i : ℕ) → 1 ≤ i → i ≤ n → Row rows i
  pub once : (i j : ℕ) → 1 ≤ i → i ≤ n → 1 ≤ j → j ≤ n
      → level_at rows i ≡ level_at rows j → ((b : Bool) → child rows b i ≡ child rows b j) → i ≡ j

-- A reference to one of the rows 0 to n, of level at most m.
pub record Reference (rows : List ℕ) (n m r : ℕ) : Type 0 where
  pub stored : r / 2 ≤ n
  pub fits : level_at rows (r / 2) ≤ m

-- Row j is reached from row i along edges.
pub data Reach (rows : List ℕ) : ℕ → ℕ → Type 0 where
  arrived : {i : ℕ} → Reach rows i i
  along : {i j : ℕ} (b : Bool) → Reach rows (child rows b i / 2) j → Reach rows i j
