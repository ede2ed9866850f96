-- compare: its refusals, and what it gives back and leaves.
use Rattle.std.specs.Prelude.{◌*◌, ◌+◌, ℕ, eqb, leb, ltb, drop, get_or, length, take, Bool, ◌||◌, cond, false, not, List, [], ◌++◌, ◌∷◌, map}
use Rattle.aig.specs.Lookup.{own_words}
use Rattle.aig.specs.Values.{literal_value}
use Rattle.compare_model.specs.Said.{Said, undecided_by}
use Rattle.compare_model.specs.declared.Limits.{Limits as Asked}
use Rattle.sweep_model.specs.Normalise.{resolve}
use Rattle.sweep_model.specs.State.{Limits, Problem}
use Rattle.sweep_model.specs.Sweep.{Result, Verdict, different, equal, sweep, undecided}
use Rattle.table.specs.Refusals.{Test, first_refusal}
use Rattle.table.specs.Table.{constraint_of, functions_of, graph_of, inputs_of, made_of, output_words, outputs_of, side_outputs, table_tests, vertices_of}
use Rattle.table.specs.Values.{Pair}
use Rattle.truth.specs.Truth.{Setting, Truth, conj, constantly, invert}

-- The three limits that a call is given. (RULES 2.4)
abbrev pub limits_of : Asked → Limits
limits_of l = record { size = l.size; rows = l.rows; steps = l.steps }

-- The lengths of the working slices: four of words, and the rows.
pub record CompareRoom : Type 0 where
  pub pairs : ℕ
  pub look : ℕ
  pub diagrams : ℕ
  pub stages : ℕ
  pub rows : ℕ

-- What a comparison is given.
pub record Given : Type 0 where
  pub table : List ℕ
  pub output : ℕ
  pub limits : Limits
  pub room : CompareRoom
  pub marks : List ℕ
  pub setting : List ℕ

-- What it gives back and leaves.
pub record Left : Type 0 where
  pub reply : Said
  pub table : List ℕ
  pub marks : List ℕ
  pub setting : List ℕ

-- "outside 1 to 32,768", "outside 1 to 4,294,967,295" (RULES 2.4, 8.1)
abbrev pub max_rows : ℕ
max_rows = 32768

abbrev pub max_steps : ℕ
max_steps = 4294967295

unfoldable pub outside? : ℕ → ℕ → Bool
outside? most n = not (leb 1 n) || ltb most n

-- "13. The size or row limit is outside 1 to 32,768, or the step limit outside 1 to 4,294,967,295." (RULES 8.1)
unfoldable pub beyond? : Limits → Bool
beyond? l = outside? max_rows l.size || outside? max_rows l.rows || outside? max_steps l.steps

-- "2 words a vertex" (RULES 8.2)
abbrev pub slice_words : ℕ → ℕ
slice_words vertices = 2 * vertices

-- "14. A working slice is short: four slices of 2 words a vertex .., compare also 4 words a row of the limit and the marks" (RULES 8.1, 8.2)
unfoldable pub short_slice? : ℕ → ℕ → CompareRoom → ℕ → Bool
short_slice? vertices rows r marks =
    ltb r.pairs (slice_words vertices) || ltb r.look (slice_words vertices) || ltb r.diagrams (slice_words vertices)
    || ltb r.stages (slice_words vertices) || ltb r.rows (4 * rows) || ltb marks vertices

-- "14, in comparisons, for two vertices more": than the table has, whatever r is. (RULES 8.2)
abbrev pub vertex_room : List ℕ → ℕ
vertex_room table = vertices_of table + 2

-- "12. .. the output number is too high.", "15. The setting slice is shorter than the inputs.": the tests after those of the table, by
-- the lengths of the slices, the marks and the setting. (RULES 8.1)
abbrev pub call_tests : List ℕ → ℕ → Limits → CompareRoom → ℕ → ℕ → List (Test ℕ)
call_tests table output limits room marks setting =
    record { answer = 12; applies = leb (outputs_of table) output }
    ∷ record { answer = 13; applies = beyond? limits }
    ∷ record { answer = 14; applies = short_slice? (vertex_room table) limits.rows room marks }
    ∷ record { answer = 15; applies = ltb setting (inputs_of table) }
    ∷ []

-- "Compare uses 10 to 15 .., each in rising order." (RULES 9.3)
abbrev pub compare_tests : Given → List (Test ℕ)
compare_tests g =
    table_tests g.table ++ call_tests g.table g.output g.limits g.room (length g.marks) (length g.setting)

unfoldable pub refusal_of : Given → ℕ
refusal_of g = first_refusal 0 (compare_tests g)

-- The literal of an output of side 1 or 2.
abbrev pub output_of : List ℕ → ℕ → ℕ → ℕ
output_of table side output = get_or (side_outputs table side) output 0

-- "Unless r is 1, the ANDs of r with the two outputs are the comparison's two next vertices, first side first": their rows. The table's word for r
-- is meant: a constraint that is always true and did not fold is not 1. (RULES 6.9)
unfoldable pub next_rows : List ℕ → ℕ → List Pair
next_rows table output =
    cond (eqb (constraint_of table) 1) []
    ((constraint_of table, output_of table 1 output) ∷ (constraint_of table, output_of table 2 output) ∷ [])

-- The function of a literal of a table, and of a row of its literals.
abbrev pub literal_in : List ℕ → ℕ → Truth
literal_in table r = literal_value invert conj (constantly (inputs_of table) false) (functions_of (graph_of table)) r

abbrev pub row_function : List ℕ → Pair → Truth
row_function table r = conj (literal_in table r.0) (literal_in table r.1)

-- "sweep steps 2 and 5 .. look at these two instead of the outputs": the literal looked at, for an output's literal and the vertex of its
-- AND. (RULES 6.9)
unfoldable pub looked_at : List ℕ → ℕ → ℕ → ℕ
looked_at table literal next = cond (eqb (constraint_of table) 1) literal (2 * next)

-- The sweep's problem: the functions of the table's vertices and of the next ones, and the two literals looked at.
unfoldable pub problem_of : List ℕ → ℕ → Limits → Problem
problem_of table output limits =
    record {
      inputs = inputs_of table;
      functions = functions_of (graph_of table) ++ map (row_function table) (next_rows table output);
      first = 1 + inputs_of table;
      left = looked_at table (output_of table 1 output) (vertices_of table);
      right = looked_at table (output_of table 2 output) (vertices_of table + 1);
      limits = limits;
    }

-- The words of a table's vertices: the first vertices' own, and the table's rows.
unfoldable pub graph_words : List ℕ → List ℕ
graph_words table = own_words 0 (1 + inputs_of table) ++ take (2 * made_of table) (drop 3 table)

-- The words of rows.
unfoldable pub row_words : List Pair → List ℕ
row_words [] = []
row_words (r ∷ rs) = r.0 ∷ r.1 ∷ row_words rs

-- The rows that the sweep starts from: those of the table's vertices and of the next ones. (RULES 6.9)
unfoldable pub entry_rows : List ℕ → ℕ → List ℕ
entry_rows table output = graph_words table ++ row_words (next_rows table output)

unfoldable pub answer_to : Given → Result
answer_to g = sweep (problem_of g.table g.output g.limits) (entry_rows g.table g.output)

-- The front of a list replaced.
abbrev pub over_front : List ℕ → List ℕ → List ℕ
over_front new old = new ++ drop (length new) old

-- The outputs of both sides, each "replaced by what [its vertex was] merged into". (RULES 6.1)
unfoldable pub outputs_left : List ℕ → List ℕ → List ℕ
outputs_left table rows = map (resolve rows) (output_words table)

-- The table with given rows of its vertices, and these outputs; its header and the words after it stay, r's among them: "comparisons leave
-- it". (RULES 4.5, 12.5)
unfoldable pub table_left : List ℕ → List ℕ → List ℕ
table_left table rows = over_front (take 3 table ++ (drop (2 * (1 + inputs_of table)) rows ++ outputs_left table rows)) table

-- "one byte an input, 48 or 49" (RULES 7.2)
unfoldable pub setting_bytes : Setting → List ℕ
setting_bytes s = map (λ x. cond x 49 48) s

-- "A Different writes one byte an input .. to the front of the lent setting slice and no others; other replies leave it unchanged." (RULES 7.2)
unfoldable pub setting_left : Verdict → List ℕ → List ℕ
setting_left equal old = old
setting_left (different s) old = over_front (setting_bytes s) old
setting_left (undecided c) old = old

-- "All carry rows and steps.", "Each reply .. also carries the rows added": what is said at a verdict, with the rows in use, the steps taken and
-- the rows added. (RULES 7.3)
unfoldable pub said_by : Verdict → ℕ → ℕ → ℕ → Said
said_by equal rows steps added = Said.equal rows steps added
said_by (different s) rows steps added = Said.different rows steps added
said_by (undecided x) rows steps added = undecided_by x rows steps added

-- The rows of the table's own vertices among those that the sweep left: those of the next ones are not kept. (RULES 6.9)
abbrev pub own_rows : List ℕ → List ℕ → List ℕ
own_rows table rows = take (2 * vertices_of table) rows

-- What a comparison that is not refused leaves: "Marks, one byte a vertex, all written at a reply, later bytes unchanged". (RULES 7.4)
unfoldable pub answered : Given → Result → Left
answered g a =
    record {
      reply = said_by a.verdict (length a.left.book.store) a.left.book.steps a.added;
      table = table_left g.table (own_rows g.table a.left.rows);
      marks = over_front a.left.marks g.marks;
      setting = setting_left a.verdict g.setting;
    }

-- "refusals leaving all of them unchanged" (RULES 8.3)
unfoldable pub turned_back : Given → ℕ → Left
turned_back g n = record { reply = Said.refused n; table = g.table; marks = g.marks; setting = g.setting }

-- A comparison: the first refusal that applies, or the sweep's reply. (RULES 8.1, 12.1)
unfoldable pub compared : Given → Left
compared g = let answer = answered g (answer_to g) in cond (eqb (refusal_of g) 0) answer (turned_back g (refusal_of g))
