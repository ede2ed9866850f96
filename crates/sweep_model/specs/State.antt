-- What the sweep works on: a problem, and a state that its steps change.
use Rattle.std.specs.Prelude.{ℕ, get_or, set, Bool, false, true, List}
use Rattle.aig.specs.Lookup.{first_word, second_word}
use Rattle.aig.specs.Values.{literal_value}
use Rattle.product_model.specs.Run.{Book, Outcome, run}
use Rattle.truth.specs.Truth.{Truth, conj, constantly, invert}

-- "The size or row limit .. or the step limit" (RULES 2.4)
pub record Limits : Type 0 where
  pub size : ℕ
  pub rows : ℕ
  pub steps : ℕ

-- A comparison over functions of some inputs: the functions of all vertices; how many vertices come first (the constant and the
-- inputs); the two literals looked at; the limits.
pub record Problem : Type 0 where
  pub inputs : ℕ
  pub functions : List Truth
  pub first : ℕ
  pub left : ℕ
  pub right : ℕ
  pub limits : Limits

-- The function of a vertex, and of a literal.
abbrev pub function_of : Problem → ℕ → Truth
function_of p v = get_or p.functions v (constantly p.inputs false)

abbrev pub literal_function : Problem → ℕ → Truth
literal_function p r = literal_value invert conj (constantly p.inputs false) p.functions r

-- "has its product taken": of the functions of the two operands of vertex v, by given rows, on a book. (RULES 6.4)
abbrev pub product_by : Problem → List ℕ → ℕ → Book → Outcome
product_by p rows v b = run p.limits.rows p.limits.steps (literal_function p (first_word rows v)) (literal_function p (second_word rows v)) b

-- The stage of a vertex: no diagram yet; has one and waits; open; open and waiting again; "too large"; merged. (RULES 6.4, 7.4)
pub data Stage : Type 0 where
  bare waiting opened again dropped gone : Stage

-- "a vertex with a diagram" (RULES 6.4)
unfoldable pub has? : Stage → Bool
has? bare = false
has? waiting = true
has? opened = true
has? again = true
has? dropped = false
has? gone = false

-- "The waiting vertex" (RULES 6.4)
unfoldable pub waits? : Stage → Bool
waits? bare = false
waits? waiting = true
waits? opened = false
waits? again = true
waits? dropped = false
waits? gone = false

-- "A vertex once opened stays open." (RULES 6.4)
unfoldable pub open? : Stage → Bool
open? bare = false
open? waiting = false
open? opened = true
open? again = true
open? dropped = false
open? gone = false

-- "without a diagram, not merged and not dropped" (RULES 6.4)
unfoldable pub bare? : Stage → Bool
bare? bare = true
bare? waiting = false
bare? opened = false
bare? again = false
bare? dropped = false
bare? gone = false

-- "some vertex dropped" (RULES 7.3)
unfoldable pub dropped? : Stage → Bool
dropped? bare = false
dropped? waiting = false
dropped? opened = false
dropped? again = false
dropped? dropped = true
dropped? gone = false

unfoldable pub gone? : Stage → Bool
gone? bare = false
gone? waiting = false
gone? opened = false
gone? again = false
gone? dropped = false
gone? gone = true

-- Two words a vertex, its row (a first vertex v has 2v twice); the stage and the mark of each; the diagram rows and steps so far.
pub record State : Type 0 where
  pub rows : List ℕ
  pub stages : List Stage
  pub marks : List ℕ
  pub book : Book

-- There is nothing past the last vertex: merged.
abbrev pub stage_of : List Stage → ℕ → Stage
stage_of stages v = get_or stages v gone

abbrev pub with_rows : List ℕ → State → State
with_rows rows s = record { rows = rows; stages = s.stages; marks = s.marks; book = s.book }

abbrev pub with_stages : List Stage → State → State
with_stages stages s = record { rows = s.rows; stages = stages; marks = s.marks; book = s.book }

abbrev pub with_mark : ℕ → ℕ → State → State
with_mark v k s = record { rows = s.rows; stages = s.stages; marks = set s.marks v k; book = s.book }

abbrev pub with_book : Book → State → State
with_book b s = record { rows = s.rows; stages = s.stages; marks = s.marks; book = b }
