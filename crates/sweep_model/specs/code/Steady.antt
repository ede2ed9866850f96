-- What holds of the rows and the stages of every state that the sweep reaches. No sentence of the rules is stated by this: it serves the proofs
-- of laws and of code.
use Rattle.std.specs.Prelude.{◌<◌, ◌≤◌, ℕ, length, Bool, false, true, List, ◌≢◌, ◌≡◌}
use Rattle.aig.specs.Fold.{Unfolded}
use Rattle.aig.specs.Literal.{negate, vertex_of}
use Rattle.aig.specs.Lookup.{HoldsRow, first_word, second_word}
use Rattle.aig.specs.Pairs.{SamePair}
use Rattle.product_model.specs.Run.{Outcome}
use Rattle.sweep_model.specs.Fit.{Sound, vertex_count}
use Rattle.sweep_model.specs.Normalise.{merged?, resolve, was_merged?}
use Rattle.sweep_model.specs.State.{Problem, Stage, State, bare, bare?, gone?, has?, open?, opened, product_by, stage_of, waiting}
use Rattle.sweep_model.specs.Sweep.{both_have?, turns_left}

-- Below vertex k: what a vertex was merged into and the operands of the others were not merged; no row folds; no two rows of unmerged vertices are
-- the same.
pub record Tidy (first k : ℕ) (rows : List ℕ) : Type 0 where
  pub first_stays : (v : ℕ) → first ≤ v → v < k → was_merged? first rows (vertex_of (first_word rows v)) ≡ false
  pub second_stays : (v : ℕ) → first ≤ v → v < k → was_merged? first rows (vertex_of (second_word rows v)) ≡ false
  pub unfolded : (v : ℕ) → first ≤ v → v < k → merged? rows v ≡ false → Unfolded (first_word rows v) (second_word rows v)
  pub once : (u v : ℕ) → first ≤ u → u < v → v < k → merged? rows u ≡ false → HoldsRow rows v (first_word rows u) (second_word rows u) → ⊥

-- What became of the rows: merged vertices stay merged, into what their literals became; the operands of the others are what theirs became, up to order.
pub record Moves (first count : ℕ) (rows other : List ℕ) : Type 0 where
  pub long : length other ≡ length rows
  pub still : (v : ℕ) → first ≤ v → v < count → merged? rows v ≡ true → merged? other v ≡ true
  pub into : (v : ℕ) → first ≤ v → v < count → merged? rows v ≡ true → first_word other v ≡ resolve other (first_word rows v)
  pub pairs : (v : ℕ) → first ≤ v → v < count → merged? other v ≡ false
      → SamePair (first_word other v) (second_word other v) (resolve other (first_word rows v)) (resolve other (second_word rows v))

-- Of count vertices exactly the merged ones are gone, and the constant is open and does not wait.
pub record Staged (first count : ℕ) (rows : List ℕ) (stages : List Stage) : Type 0 where
  pub long : length stages ≡ count
  pub gone-merged : (v : ℕ) → v < count → gone? (stage_of stages v) ≡ was_merged? first rows v
  pub constant : stage_of stages 0 ≡ opened

-- The rows are sound and tidy and have moved on from the entry rows; the stages of the merged vertices say so; there is a mark a vertex.
pub record Steady (p : Problem) (entry : List ℕ) (s : State) : Type 0 where
  pub sound : Sound p s.rows
  pub tidy : Tidy p.first (vertex_count p) s.rows
  pub moved : Moves p.first (vertex_count p) entry s.rows
  pub staged : Staged p.first (vertex_count p) s.rows s.stages
  pub marked : length s.marks ≡ vertex_count p

-- The left literal looked at, as it is now.
abbrev pub left_now : Problem → State → ℕ
left_now p s = resolve s.rows p.left

-- The right literal looked at, as it is now.
abbrev pub right_now : Problem → State → ℕ
right_now p s = resolve s.rows p.right

-- Whether both have diagrams.
abbrev pub have_now? : Problem → State → Bool
have_now? p s = both_have? s.stages (left_now p s) (right_now p s)

-- They have been looked at, and nothing was decided.
pub record Unsettled (p : Problem) (s : State) : Type 0 where
  pub unequal : left_now p s ≢ right_now p s
  pub not_inverse : left_now p s ≢ negate (right_now p s)
  pub lacking : have_now? p s ≡ false

-- The inputs below vertex k have their rows; no other vertex has a diagram.
pub record Giving (p : Problem) (k : ℕ) (s : State) : Type 0 where
  pub given : (v : ℕ) → 1 ≤ v → v < k → stage_of s.stages v ≡ waiting
  pub later : (v : ℕ) → 1 ≤ v → k ≤ v → v < p.first → stage_of s.stages v ≡ bare
  pub made : (v : ℕ) → p.first ≤ v → v < vertex_count p → was_merged? p.first s.rows v ≡ false → stage_of s.stages v ≡ bare

-- At most n turns are left, and the scan has come to vertex k: the first vertices have diagrams, and nothing is decided.
pub record Scanning (p : Problem) (n k : ℕ) (s : State) : Type 0 where
  pub budget : turns_left s.stages ≤ n
  pub within : k ≤ vertex_count p
  pub first_have : (v : ℕ) → v < p.first → has? (stage_of s.stages v) ≡ true
  pub unsettled : Unsettled p s

-- The product of a made vertex, with what is left of the limits.
abbrev pub product_of : Problem → ℕ → State → Outcome
product_of p v s = product_by p s.rows v s.book

-- A vertex whose product is taken.
pub record Due (p : Problem) (entry : List ℕ) (n v : ℕ) (s : State) : Type 0 where
  pub steady : Steady p entry s
  pub scanning : Scanning p n v s
  pub made : p.first ≤ v
  pub is-bare : bare? (stage_of s.stages v) ≡ true
  pub first-open : open? (stage_of s.stages (vertex_of (first_word s.rows v))) ≡ true
  pub second-open : open? (stage_of s.stages (vertex_of (second_word s.rows v))) ≡ true
