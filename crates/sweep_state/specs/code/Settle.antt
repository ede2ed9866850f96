-- A product that is done is dropped or met.
use Rattle.std.specs.Prelude.{ℕ, ltb, length, cond, List, ◌≡◌}
use Rattle.bdd.specs.Diagram.{Reference, denote}
use Rattle.bdd_unique.specs.code.Unique.{Grown}
use Rattle.product.specs.Product.{book_of}
use Rattle.product_model.specs.Run.{done}
use Rattle.sweep_model.specs.State.{State, function_of, with_book}
use Rattle.sweep_model.specs.code.Steady.{Due, product_of}
use Rattle.sweep_model.specs.Sweep.{drop_vertex, meet, twin_from}
use Rattle.sweep_state.specs.code.Meet.{Workspace, workspace}
use Rattle.sweep_state.specs.code.Represents.{Represents}
use Rattle.sweep_state.specs.code.Arrays.{arrays, on_rows}
use Rattle.sweep_state.specs.code.Words.{Words, posed, state_of, words}
use Rattle.sweep_state.specs.declared.task.Task.{Task}
use Rattle.truth.specs.Parts.{size}
use Rattle.truth.specs.Truth.{Truth}

-- The words of a workspace and the state that they stand for, and the workspace of words with other rows.
abbrev pub on_workspace : Workspace → ℕ → ℕ → Words
on_workspace b used steps = words b.pairs b.arrays.diagrams b.arrays.stages b.arrays.rows b.arrays.marks used steps

abbrev pub state_on : Task → Workspace → ℕ → ℕ → State
state_on t b used steps = state_of t.count (on_workspace b used steps)

abbrev pub workspace_of : Words → List ℕ → Workspace
workspace_of w rows = workspace w.pairs (arrays w.diagrams w.stages rows w.marks)

-- What a product was taken in: the vertices' functions, the entry rows, the rows and steps before it, the turns left; and its steps.
pub record BeforeProduct : Type 0 where
  pub functions : List Truth
  pub entry : List ℕ
  pub rows : List ℕ
  pub steps : ℕ
  pub turns : ℕ
  pub taken : ℕ

-- The workspace and the words before the product, by those after it.
abbrev pub workspace_before : BeforeProduct → Workspace → Workspace
workspace_before x b = workspace b.pairs (on_rows x.rows b.arrays)

abbrev pub words_before : BeforeProduct → Workspace → ℕ → Words
words_before x b kept = on_workspace (workspace_before x b) kept x.steps

abbrev pub state_before : Task → BeforeProduct → Workspace → ℕ → State
state_before t x b kept = state_of t.count (words_before x b kept)

-- The product of vertex v is done: a reference that denotes its function.
pub record Ended (t : Task) (x : BeforeProduct) (v reference used kept : ℕ) (b : Workspace) : Type 0 where
  pub represents : Represents t x.functions x.entry (words_before x b kept)
  pub due : Due (posed t x.functions) x.entry x.turns v (state_before t x b kept)
  pub grown : Grown x.rows b.arrays.rows t.rows kept used
  pub long : length b.arrays.rows ≡ length x.rows
  pub within : Reference b.arrays.rows used t.inputs reference
  pub means : denote b.arrays.rows t.inputs reference ≡ function_of (posed t x.functions) v
  pub ran : product_of (posed t x.functions) v (state_before t x b kept) ≡ done (book_of b.arrays.rows used x.taken)

-- Such a setting is there.
pub record EndedIn (t : Task) (v reference used kept : ℕ) (b : Workspace) : Type 0 where
  pub setting : BeforeProduct
  pub ended : Ended t setting v reference used kept b

-- "If its size exceeds the size limit it is dropped and its new rows are given back.", else it is met. (RULES 6.4)
abbrev pub settled_state : Task → BeforeProduct → ℕ → ℕ → ℕ → Workspace → State
settled_state t x v used kept b =
    let p = posed t x.functions in
    let s = state_before t x b kept in
    let after = book_of b.arrays.rows used x.taken in
    cond (ltb t.size (size (function_of p v))) (drop_vertex v after s) (meet p v (with_book after s) (twin_from p s.stages v 0 (length s.stages)))

-- The words stand for the state that is left.
pub record Settled (t : Task) (x : BeforeProduct) (v used kept : ℕ) (b after : Workspace) (more : ℕ) : Type 0 where
  pub reached : settled_state t x v used kept b ≡ state_of t.count (on_workspace after more x.taken)
  pub represents : Represents t x.functions x.entry (on_workspace after more x.taken)

-- They do so for each setting in which the product ended so.
abbrev pub Settles : Task → ℕ → ℕ → ℕ → ℕ → Workspace → Workspace → ℕ → Type 0
Settles t v reference used kept b after more = (x : BeforeProduct) → Ended t x v reference used kept b → Settled t x v used kept b after more
