-- What holds of every state that the sweep reaches: marks, rows and steps agree, the rows of vertices with diagrams are stored, no two such
-- vertices are alike. No sentence of the rules is stated by this: it serves the proofs of laws and of code.
use Rattle.std.specs.Prelude.{◌<◌, ◌≤◌, ℕ, get_or, cond, false, true, List, ◌≢◌, ◌≡◌}
use Rattle.product_model.specs.code.Books.{HoldsParts, Proper, Stored}
use Rattle.product_model.specs.Run.{Book}
use Rattle.sweep_model.specs.Claims.{is, marked, steps_marked}
use Rattle.sweep_model.specs.Normalise.{was_merged?}
use Rattle.sweep_model.specs.State.{Problem, Stage, State, bare?, dropped?, function_of, has?, stage_of}
use Rattle.sweep_model.specs.code.Steady.{Steady}
use Rattle.truth.specs.Parts.{alike?, size}
use Rattle.truth.specs.Truth.{Truth}

-- What the mark of a vertex says: the constant has none; 2 only at a made vertex larger than the size limit; a made vertex marked 1 is not larger; one
-- that was merged at entry has none.
pub record MarkFits (p : Problem) (entry : List ℕ) (v mark : ℕ) : Type 0 where
  pub known : mark ≤ 3
  pub constant : v ≡ 0 → mark ≡ 0
  pub made : mark ≡ 2 → p.first ≤ v
  pub large : mark ≡ 2 → p.limits.size < size (function_of p v)
  pub small : mark ≡ 1 → p.first ≤ v → size (function_of p v) ≤ p.limits.size
  pub unmerged : mark ≢ 0 → was_merged? p.first entry v ≡ false

-- The book's rows are the parts of the functions marked 1, its steps those of the ANDs marked 1 or 2, both within the limits; no mark is 3.
pub record Accounted (p : Problem) (entry marks : List ℕ) (book : Book) : Type 0 where
  pub proper : Proper p.limits.rows p.limits.steps book
  pub holds : HoldsParts book (marked (is 1) marks p.functions)
  pub steps : book.steps ≡ steps_marked p entry marks
  pub fits : (v : ℕ) → MarkFits p entry v (get_or marks v 0)
  pub unnamed : (v : ℕ) → get_or marks v 0 ≢ 3

-- Two vertices with diagrams whose functions are alike are one.
abbrev pub Apart : Problem → List Stage → Type 0
Apart p stages = (u v : ℕ) → has? (stage_of stages u) ≡ true → has? (stage_of stages v) ≡ true → alike? (function_of p u) (function_of p v) ≡ true → u ≡ v

-- The rows of every vertex with a diagram are in the store.
abbrev pub AllStored : Problem → List Stage → List Truth → Type 0
AllStored p stages store = (v : ℕ) → has? (stage_of stages v) ≡ true → Stored (function_of p v) store

-- What the stage of a vertex says of its mark: a bare vertex has none, a dropped one has 2, an input has 1 where it has a diagram and else none.
pub record StageFits (p : Problem) (v : ℕ) (stage : Stage) (mark : ℕ) : Type 0 where
  pub bare-unmarked : bare? stage ≡ true → mark ≡ 0
  pub dropped_two : dropped? stage ≡ true → mark ≡ 2
  pub input : 1 ≤ v → v < p.first → mark ≡ cond (has? stage) 1 0

-- Every input is marked 1.
abbrev pub InputsMarked : Problem → List ℕ → Type 0
InputsMarked p marks = (v : ℕ) → 1 ≤ v → v < p.first → get_or marks v 0 ≡ 1

-- What holds of every state that the sweep reaches. A made vertex is marked only after every input.
pub record Reachable (p : Problem) (entry : List ℕ) (s : State) : Type 0 where
  pub steady : Steady p entry s
  pub accounted : Accounted p entry s.marks s.book
  pub stored : AllStored p s.stages s.book.store
  pub apart : Apart p s.stages
  pub fits : (v : ℕ) → StageFits p v (stage_of s.stages v) (get_or s.marks v 0)
  pub inputs-first : (v : ℕ) → p.first ≤ v → get_or s.marks v 0 ≢ 0 → InputsMarked p s.marks
