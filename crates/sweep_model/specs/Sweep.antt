-- Steps 2 to 6: the sweep. (RULES 6.2 to 6.6)
use Rattle.std.specs.Prelude.{◌+◌, ◌-◌, max, min, suc, zero, ℕ, eqb, leb, ltb, length, replicate, set, Bool, ◌&&◌, ◌||◌, cond, false, not, true, List, [], ◌∷◌}
use Rattle.aig.specs.Literal.{literal_of, negate, vertex_of}
use Rattle.aig.specs.Lookup.{first_word, second_word}
use Rattle.product_model.specs.Run.{Book, Outcome, add_part, done, short_of_rows, short_of_steps}
use Rattle.sweep_model.specs.Normalise.{merged_into, normalise, resolve}
use Rattle.sweep_model.specs.State.{Problem, Stage, State, again, bare, bare?, dropped, dropped?, function_of, gone, has?, literal_function, open?, opened, product_by, stage_of, waiting, waits?, with_book, with_mark, with_rows, with_stages}
use Rattle.sweep_model.specs.declared.Cause.TheVariants.{Rows, Size, Steps}
use Rattle.sweep_model.specs.declared.Cause.{Cause}
use Rattle.truth.specs.Parts.{alike?, size}
use Rattle.truth.specs.Settings.{first_difference}
use Rattle.truth.specs.Truth.{Setting, Truth, leaf, node, same?}

-- "Replies: Equal; Different; Undecided", the second with its setting. (RULES 7.3)
pub data Verdict : Type 0 where
  equal : Verdict
  different : Setting → Verdict
  undecided : Cause → Verdict

-- The sweep goes on, or ends with a verdict and "the rows added, 0 where none broke". (RULES 7.11)
pub data Progress : Type 0 where
  on : State → Progress
  ends : Verdict → ℕ → State → Progress

unfoldable pub and_then : Progress → (State → Progress) → Progress
and_then (on s) next = next s
and_then (ends x n s) next = ends x n s

-- "both have diagrams" (RULES 6.5)
abbrev pub both_have? : List Stage → ℕ → ℕ → Bool
both_have? stages l r = has? (stage_of stages (vertex_of l)) && has? (stage_of stages (vertex_of r))

-- "2. If both outputs are now one reference, Equal. If they are inverse, Different with all inputs 0." "5. .. if both have diagrams
-- and are not one reference, Different.": two functions with diagrams are compared themselves. (RULES 6.2, 6.5)
unfoldable pub look_at : Problem → State → ℕ → ℕ → Progress
look_at p s l r =
    cond (eqb l r) (ends equal 0 s)
    (cond (eqb l (negate r)) (ends (different (replicate p.inputs false)) 0 s)
    (cond (both_have? s.stages l r)
    (cond (same? (literal_function p l) (literal_function p r)) (ends equal 0 s)
    (ends (different (first_difference (literal_function p l) (literal_function p r))) 0 s))
    (on s)))

unfoldable pub look : Problem → State → Progress
look p s = look_at p s (resolve s.rows p.left) (resolve s.rows p.right)

-- A vertex that got its diagram: mark "1 swept, or an input given its row", and it waits. (RULES 6.4, 7.4)
unfoldable pub swept : ℕ → State → State
swept v s = with_mark v 1 (with_stages (set s.stages v waiting) s)

-- The row of an input's function: what is left of it behind the inputs on which it does not depend.
unfoldable pub top_part : Truth → Truth
top_part (leaf b) = leaf b
top_part (node f g) = cond (same? f g) (top_part f) (node f g)

-- "3. .. Each input gets its row, upwards, and waits.": n inputs from vertex v on. A row limit that is passed is "Rows with the
-- vertex at which the row limit was passed", marked 3. (RULES 6.3, 7.3, 7.4)
unfoldable pub give_row : ℕ → State → Outcome → Progress
give_row v s (done b) = on (swept v (with_book b s))
give_row v s (short_of_rows b) = ends (undecided (Rows v)) 0 (with_mark v 3 s)
give_row v s (short_of_steps b) = ends (undecided (Steps v)) 0 (with_mark v 3 s)

unfoldable pub give_inputs : Problem → ℕ → ℕ → State → Progress
give_inputs p v zero s = on s
give_inputs p v (suc n) s =
    and_then (give_row v s (add_part p.limits.rows (top_part (function_of p v)) s.book)) (give_inputs p (suc v) n)

-- "If its function or the inverse belongs to a vertex with a diagram": the lowest such vertex of n from w on. (RULES 6.4)
pub data Candidate : Type 0 where
  at : ℕ → Candidate
  none : Candidate

unfoldable pub twin_from : Problem → List Stage → ℕ → ℕ → ℕ → Candidate
twin_from p stages v w zero = none
twin_from p stages v w (suc n) =
    let later = twin_from p stages v (suc w) n in
    cond (has? (stage_of stages w) && alike? (function_of p v) (function_of p w)) (at w) later

-- "the two merge and normalising follows": the higher into the lower, inverted where the functions are inverse. "Otherwise it
-- waits." (RULES 6.1, 6.4)
unfoldable pub meet : Problem → ℕ → State → Candidate → State
meet p v s none = swept v s
meet p v s (at w) =
    normalise p.first
    (swept v (with_rows (merged_into s.rows (max v w) (literal_of (min v w) (not (same? (function_of p v) (function_of p w))))) s))

-- "the rows it had added": those in the store when a product broke off, less those before it began. (RULES 7.11)
abbrev pub added_to : Book → Book → ℕ
added_to old b = length b.store - length old.store

-- The rows of a book given back to those of another; its steps stay.
abbrev pub given_back : Book → Book → Book
given_back old b = record { store = old.store; steps = b.steps }

-- "If its size exceeds the size limit it is dropped and its new rows are given back." (RULES 6.4)
unfoldable pub drop_vertex : ℕ → Book → State → State
drop_vertex v b s = with_mark v 2 (with_stages (set s.stages v dropped) (with_book (given_back s.book b) s))

-- A product's end: "2 product ended and too large", "1 swept", "3 the vertex named by Rows or Steps". "5. .. after every product the
-- outputs are looked at". (RULES 6.5, 7.4)
unfoldable pub conclude : Problem → ℕ → State → Outcome → Progress
conclude p v s (done b) =
    cond (ltb p.limits.size (size (function_of p v)))
    (look p (drop_vertex v b s))
    (look p (meet p v (with_book b s) (twin_from p s.stages v 0 (length s.stages))))
conclude p v s (short_of_rows b) = ends (undecided (Rows v)) (added_to s.book b) (with_mark v 3 (with_book (given_back s.book b) s))
conclude p v s (short_of_steps b) = ends (undecided (Steps v)) (added_to s.book b) (with_mark v 3 (with_book (given_back s.book b) s))

-- "has its product taken", and what follows. (RULES 6.4)
unfoldable pub multiply : Problem → ℕ → State → Progress
multiply p v s = conclude p v s (product_by p s.rows v s.book)

-- "each higher vertex with both operands open, without a diagram, not merged and not dropped" (RULES 6.4)
unfoldable pub ready? : Problem → ℕ → State → Bool
ready? p v s =
    leb p.first v && bare? (stage_of s.stages v)
    && open? (stage_of s.stages (vertex_of (first_word s.rows v)))
    && open? (stage_of s.stages (vertex_of (second_word s.rows v)))

unfoldable pub visit : Problem → ℕ → State → Progress
visit p v s = elim (ready? p v s) [ true ↦ multiply p v s | false ↦ on s ]

-- "Upwards, each higher vertex ..": n vertices from v on. (RULES 6.4)
unfoldable pub scan_from : Problem → ℕ → ℕ → State → Progress
scan_from p v zero s = on s
scan_from p v (suc n) s = and_then (visit p v s) (scan_from p (suc v) n)

-- "The waiting vertex of least size opens, lowest number on a tie.": of the stages from vertex v on. (RULES 6.4)
unfoldable pub smaller : Problem → ℕ → Candidate → ℕ
smaller p v none = v
smaller p v (at w) = cond (leb (size (function_of p v)) (size (function_of p w))) v w

unfoldable pub pick_from : Problem → ℕ → List Stage → Candidate
pick_from p v [] = none
pick_from p v (x ∷ xs) =
    let later = pick_from p (suc v) xs in
    cond (waits? x) (at (smaller p v later)) later

-- "4. The waiting vertex of least size opens .. Upwards, each higher vertex .." (RULES 6.4)
unfoldable pub open_at : Problem → ℕ → State → Progress
open_at p v s = scan_from p (suc v) (length s.stages - suc v) (with_stages (set s.stages v opened) s)

-- How many more turns there can be: a merged vertex counts 0, one that is open and does not wait 1, any other 2.
unfoldable pub turns_of : Stage → ℕ
turns_of bare = 2
turns_of waiting = 2
turns_of opened = 1
turns_of again = 2
turns_of dropped = 2
turns_of gone = 0

unfoldable pub turns_left : List Stage → ℕ
turns_left [] = 0
turns_left (x ∷ xs) = turns_of x + turns_left xs

-- Turns until it ends or none waits. (RULES 6.6)
unfoldable pub go_for : Problem → ℕ → State → Progress
go_for p zero s = on s
go_for p (suc n) s =
    elim (pick_from p 0 s.stages) [
      | at v ↦ and_then (open_at p v s) (go_for p n)
      | none ↦ on s
    ]

unfoldable pub go : Problem → State → Progress
go p s = go_for p (turns_left s.stages) s

-- "some vertex dropped": so it is where none waits and nothing was replied (`turns-dropped`), and the sweep does not ask. (RULES 7.3)
unfoldable pub any_dropped? : List Stage → Bool
any_dropped? [] = false
any_dropped? (x ∷ xs) = dropped? x || any_dropped? xs

-- "Marks, one byte a vertex, all written at a reply": all 0 at first. The constant "has a diagram of size 0 and never waits". (RULES 6.3, 7.4)
unfoldable pub begin : Problem → List ℕ → State
begin p rows =
    record {
      rows = rows;
      stages = set (replicate (length p.functions) bare) 0 opened;
      marks = replicate (length p.functions) 0;
      book = record { store = []; steps = 0 };
    }

-- Steps 1, 2, 3 and 5. (RULES 6.1, 6.2, 6.3, 6.5)
unfoldable pub start : Problem → List ℕ → Progress
start p rows =
    and_then (look p (normalise p.first (begin p rows))) λ s.
    and_then (give_inputs p 1 (p.first - 1) s) (look p)

-- The verdict, the rows added, and the state that it leaves.
pub record Result : Type 0 where
  pub verdict : Verdict
  pub added : ℕ
  pub left : State

-- "6. If none waits, the reply is Undecided.": "by Size (some vertex dropped, none waiting)". (RULES 6.6, 7.3)
unfoldable pub result_of : Progress → Result
result_of (ends x n s) = record { verdict = x; added = n; left = s }
result_of (on s) = record { verdict = undecided Size; added = 0; left = s }

-- The whole sweep on the entry rows.
unfoldable pub sweep : Problem → List ℕ → Result
sweep p rows = result_of (and_then (start p rows) (go p))
