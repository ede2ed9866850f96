-- What the verdict of a comparison that is not refused says, in terms of the table as loaded.
use Prim.Native.Nat.{◌*◌, ◌+◌, ◌-◌, ◌<◌, ◌≤◌, suc, ℕ}
use Rattle.aig.proofs.PairsLaws.{pair_then}
use Rattle.aig.specs.Lookup.{HoldsRow, first_word, second_word}
use Rattle.aig.specs.Pairs.{SamePair, straight}
use Rattle.aig.specs.Values.{literal_value}
use Rattle.compare_model.proofs.GraphLaws.{count-vertices, entry_next, entry-own, first-own, fits, left-value, literal-own, next-below, right-value}
use Rattle.compare_model.proofs.RefusalLaws.{passed}
use Rattle.compare_model.proofs.RestLaws.{rest-alike}
use Rattle.compare_model.proofs.Since.{SameRows, Since, given-fits, given-rows, given-steady, rows_long, since_allows, since_next, since_value}
use Rattle.compare_model.specs.Claims.{AfterSize, Agrees, Differs, MarksKept, RowsKept, allows?, problem_by, rows_by}
use Rattle.compare_model.specs.Compare.{Given, answer_to, answered, graph_words, literal_in, next_rows, over_front, problem_of, refusal_of, row_function, setting_bytes}
use Rattle.compare_model.specs.Said.{Named, Said}
use Rattle.product_model.specs.Run.{Book, Outcome, run}
use Rattle.sweep_model.proofs.AfterRest.{after-rest}
use Rattle.sweep_model.proofs.Kept.{pair_runs, pair-steps}
use Rattle.sweep_model.proofs.Marked.{and_at, ands-at, ands_length}
use Rattle.sweep_model.proofs.Replies.{Spent}
use Rattle.sweep_model.proofs.ReplyLaws.{constant-mark, mark-known, marked-unmerged, marks-long, one-small, rows-counted, size-some, sweep-spent, three_named, two_large, two_made}
use Rattle.sweep_model.proofs.Right.{different-right, equal-right}
use Rattle.sweep_model.specs.Claims.{And, BrokeAt, BrokeOff, Names, Settled, and_steps, ands_from, ands_of, at_and, at-input, by_rows, by-steps, is, is_either, marked, sum}
use Rattle.sweep_model.specs.Fit.{Downward, Sound, vertex_count}
use Rattle.sweep_model.specs.Normalise.{merged?}
use Rattle.sweep_model.specs.State.{Problem, function_of, literal_function, product_by}
use Rattle.sweep_model.specs.Sweep.{Verdict, different, equal, undecided}
use Rattle.sweep_model.specs.declared.Cause.TheVariants.{Rows, Size, Steps}
use Rattle.table.specs.Accepted.{RowBelow}
use Rattle.table.specs.Table.{graph_of, inputs_of, made_of, output_value, outputs_of, promised, vertices_of}
use Rattle.table.specs.Values.{Pair}
use Rattle.truth.proofs.Booleans.{clash}
use Rattle.truth.specs.Distinct.{among}
use Rattle.truth.specs.Parts.{alike?, all_parts, together}
use Rattle.truth.specs.Steps.{steps}
use Rattle.truth.specs.Truth.{Setting, Truth, conj, constantly, invert, value_at}
use lib.ListN.{get_or-append, get_or-eq_default, get_or-map, drop, get_or, length, length-drop, length-map, take}
use lib.Seq.{drop-append-le, ext_get_or, get_or-drop, length-take-le}
use mathlib.Core.Bool.{Bool, ◌&&◌, ◌||◌, cond, false, true}
use mathlib.Core.List.{List, [], ◌++◌, ◌∷◌, map}
use mathlib.Core.Logic.{◌↔◌, ◌≢◌}
use mathlib.Core.Path.{◌∙◌, ◌≡◌, ap, ap₂, refl, subst, sym}
use native.Mathlib.Decide.{dec_lt}
use native.Mathlib.Omega.{arith}

module _ {A : Type 0} (test : ℕ → Bool) where
  -- Marks past the last thing do not count.
  marked-front : (marks more : List ℕ) (xs : List A) → length xs ≤ length marks → marked test (marks ++ more) xs ≡ marked test marks xs
  unfolding marked
  marked-front [] [] [] h = refl
  marked-front [] (m ∷ more) [] h = refl
  marked-front [] more (x ∷ xs) h = absurd (omega arith)
  marked-front (m ∷ marks) more [] h = refl
  marked-front (m ∷ marks) more (x ∷ xs) h = rw (marked-front marks more xs (omega arith))

  -- Sums over two lists are the same where they are so of each thing whose mark passes.
  sum-marked : (f : A → ℕ) (marks : List ℕ) (xs ys : List A) (d : A) → length xs ≡ length ys
      → ((i : ℕ) → i < length xs → test (get_or marks i 0) ≡ true → f (get_or xs i d) ≡ f (get_or ys i d))
      → sum (map f (marked test marks xs)) ≡ sum (map f (marked test marks ys))
  unfolding marked sum
  sum-marked f [] xs ys d l h = refl
  sum-marked f (m ∷ marks) [] [] d l h = refl
  sum-marked f (m ∷ marks) [] (y ∷ ys) d l h = absurd (omega arith)
  sum-marked f (m ∷ marks) (x ∷ xs) [] d l h = absurd (omega arith)
  sum-marked f (m ∷ marks) (x ∷ xs) (y ∷ ys) d l h =
      go (test m) refl (sum-marked f marks xs ys d (omega arith) (λ i k e. h (suc i) (omega arith) e))
    where
      go : (b : Bool) → test m ≡ b → sum (map f (marked test marks xs)) ≡ sum (map f (marked test marks ys))
          → sum (map f (cond b (x ∷ marked test marks xs) (marked test marks xs))) ≡ sum (map f (cond b (y ∷ marked test marks ys) (marked test marks ys)))
      go true e ih = ap₂ ◌+◌ (h 0 (omega arith) e) ih
      go false e ih = ih

  -- A sum over those marked is at most the sum over all.
  pub sum-fewer : (f : A → ℕ) (marks : List ℕ) (xs : List A) → sum (map f (marked test marks xs)) ≤ sum (map f xs)
  unfolding marked sum
  sum-fewer f [] xs = omega arith
  sum-fewer f (m ∷ marks) [] = omega arith
  sum-fewer f (m ∷ marks) (x ∷ xs) = go (test m) (sum-fewer f marks xs)
    where
      go : (b : Bool) → sum (map f (marked test marks xs)) ≤ sum (map f xs)
          → sum (map f (cond b (x ∷ marked test marks xs) (marked test marks xs))) ≤ f x + sum (map f xs)
      go true ih = omega arith
      go false ih = omega arith

-- There is no mark past the last.
mark-within : (marks : List ℕ) (v : ℕ) → get_or marks v 0 ≢ 0 → v < length marks
mark-within marks v h =
    elim (dec_lt v (length marks)) [
      | yes l ↦ l
      | no l ↦ absurd (h (get_or-eq_default marks 0 (omega arith)))
    ]

-- The steps of the ANDs whose mark passes a test.
abbrev steps_of : (ℕ → Bool) → Problem → List ℕ → List ℕ → ℕ
steps_of test p rows marks = sum (map and_steps (marked test (drop p.first marks) (ands_of p rows)))

-- Sums of steps by two problems and their rows are the same where they are so of each AND whose mark passes.
sum_alike : (test : ℕ → Bool) (p q : Problem) (rows other marks more : List ℕ) → p.first ≡ q.first → vertex_count p ≡ vertex_count q
    → length marks ≡ vertex_count q → q.first ≤ vertex_count q
    → ((v : ℕ) → q.first ≤ v → v < vertex_count q → test (get_or marks v 0) ≡ true → and_steps (and_at p rows v) ≡ and_steps (and_at q other v))
    → steps_of test p rows marks ≡ steps_of test q other (marks ++ more)
unfolding ands_of
sum_alike test p q rows other marks more f c long few same =
    ap₂ (λ (k m : ℕ). sum (map and_steps (marked test (drop k marks) (ands_from p rows k (m - k))))) f c
    ∙ sum-marked test and_steps (drop q.first marks) (ands_from p rows q.first n) (ands_from q other q.first n) (and_at p rows 0)
    (ands_length p rows n q.first ∙ sym (ands_length q other n q.first))
    (λ i h e.
    let l : i < n = omega (arith, ands_length p rows n q.first) in
    ap and_steps (ands-at p rows n q.first i (and_at p rows 0) l)
    ∙ same (q.first + i) (omega arith) (omega arith) (rw (get_or-drop q.first marks i 0) at e)
    ∙ sym (ap and_steps (ands-at q other n q.first i (and_at p rows 0) l)))
    ∙ ap (λ (xs : List And). sum (map and_steps xs))
    (sym
    (ap (λ (ms : List ℕ). marked test ms (ands_from q other q.first n)) (drop-append-le q.first marks more (omega arith))
    ∙ marked-front test (drop q.first marks) more (ands_from q other q.first n)
    (omega (arith, ands_length q other n q.first, length-drop q.first marks))))
  where
    n : ℕ
    n = vertex_count q - q.first

-- Of two values that are ANDed with one that is true, what holds of the ANDs holds of the two.
allowed-equal : (a x y : Bool) → a ≡ true → a && x ≡ a && y → x ≡ y
allowed-equal a x y e k = rw e at k

-- Where the ANDs differ it is true.
differ-allowed : (a x y : Bool) → (a && x ≢ a && y) → a ≡ true
differ-allowed true x y d = refl
differ-allowed false x y d = absurd (d refl)

module _ (g : Given) (h : refusal_of g ≡ 0) {loaded : List ℕ} (s : Since loaded g.table) where
  -- The problem as given, and with the table as loaded.
  abbrev here : Problem
  here = problem_by g.table g

  abbrev there : Problem
  there = problem_by loaded g

  abbrev marks : List ℕ
  marks = (answer_to g).left.marks

  abbrev written : List ℕ
  written = (answered g (answer_to g)).marks

  looked_at_lem : g.output < outputs_of loaded
  looked_at_lem = omega (arith, (passed g h).output, s.outputs)

  count : vertex_count there ≡ vertices_of loaded + length (next_rows loaded g.output)
  count = count-vertices loaded g.output g.limits

  -- Every vertex, the next ones too, has the function that it has by the table as loaded.
  same-functions : here.functions ≡ there.functions
  unfolding problem_of
  same-functions =
      ap₂ ◌++◌ s.functions (by-loaded (next_rows g.table g.output) ∙ rows_alike (since_next s g.output looked_at_lem))
    where
      by-loaded : (rs : List Pair) → map (row_function g.table) rs ≡ map (row_function loaded) rs
      by-loaded rs =
          ap₂
          (λ (fs : List Truth) (n : ℕ).
          map (λ (r : Pair). conj (literal_value invert conj (constantly n false) fs r.0) (literal_value invert conj (constantly n false) fs r.1)) rs)
          s.functions s.inputs

      rows_alike : {rs qs : List Pair} → SameRows loaded rs qs → map (row_function loaded) rs ≡ map (row_function loaded) qs
      rows_alike {rs} {qs} k =
          ext_get_or (row_function loaded (0, 0)) (map (row_function loaded) rs) (map (row_function loaded) qs)
          (length-map rs (row_function loaded) ∙ k.count ∙ sym (length-map qs (row_function loaded)))
          (λ i m.
          let l : i < length qs = omega (arith, length-map rs (row_function loaded), k.count) in
          get_or-map (row_function loaded) rs i (0, 0) ∙ ap₂ conj (k.rows i l).first (k.rows i l).second ∙ sym (get_or-map (row_function loaded) qs i (0, 0)))

  same_first : here.first ≡ there.first
  unfolding problem_of
  same_first = omega (arith, s.inputs)

  same_inputs : here.inputs ≡ there.inputs
  unfolding problem_of
  same_inputs = s.inputs

  same_function : (v : ℕ) → function_of here v ≡ function_of there v
  same_function v = ap₂ (λ (fs : List Truth) (n : ℕ). get_or fs v (constantly n false)) same-functions same_inputs

  same-literal : (r : ℕ) → literal_function here r ≡ literal_function there r
  same-literal r = ap₂ (λ (fs : List Truth) (n : ℕ). literal_value invert conj (constantly n false) fs r) same-functions same_inputs

  same_count : vertex_count here ≡ vertex_count there
  same_count = ap length same-functions

  first-few : there.first ≤ vertex_count there
  unfolding problem_of
  first-few = omega (arith, count)

  long : length marks ≡ vertex_count there
  unfolding answer_to
  long = marks-long (given-fits g h) ∙ same_count

  -- The functions marked, by the marks slice as left.
  functions-marked : (test : ℕ → Bool)
      → marked test (answer_to g).left.marks (problem_by g.table g).functions
      ≡ marked test (answered g (answer_to g)).marks (problem_by loaded g).functions
  unfolding answered
  functions-marked test =
      ap (marked test marks) same-functions ∙ sym (marked-front test marks (drop (length marks) g.marks) there.functions (omega (arith, long)))

  -- A vertex that is marked was not merged in the table as given.
  mark-unmerged : (v : ℕ) → there.first ≤ v → get_or (answer_to g).left.marks v 0 ≢ 0 → merged? (rows_by g.table g) v ≡ false
  unfolding answer_to
  mark-unmerged v l d = marked-unmerged (given-fits g h) v (omega (arith, same_first)) d

  whole : promised (made_of loaded) (outputs_of loaded) ≤ length loaded
  whole = s.before.formed.whole

  -- A literal of the table's vertices has its function by the table as loaded.
  literal-there : (r : ℕ) → r < 2 * vertices_of loaded → literal_function there r ≡ literal_in loaded r
  literal-there = literal-own loaded g.output g.limits

  -- Vertex v has by both tables operands of the same functions, up to order.
  abbrev Alike : ℕ → Type 0
  Alike v =
      SamePair (literal_function there (first_word (rows_by g.table g) v)) (literal_function there (second_word (rows_by g.table g) v))
      (literal_function there (first_word (rows_by loaded g) v)) (literal_function there (second_word (rows_by loaded g) v))

  -- So it is of a vertex of the table that was not merged in it,
  own-alike : (v : ℕ) → there.first ≤ v → v < vertices_of loaded → merged? (rows_by g.table g) v ≡ false → Alike v
  own-alike v l m e =
      pair_then
      (straight (ap literal w.first ∙ literal-there (first_word (graph_words g.table) v) (omega (arith, w.first, given.first_below v made within)))
      (ap literal w.second ∙ literal-there (second_word (graph_words g.table) v) (omega (arith, w.second, given.second_below v made within))))
      (pair_then (s.operands v (rw (first-own loaded g.output g.limits) at l) m (rw (w.first, w.second) at e))
      (straight
      (sym (ap literal x.first ∙ literal-there (first_word (graph_words loaded) v) (omega (arith, x.first, entry.first_below v l inside))))
      (sym (ap literal x.second ∙ literal-there (second_word (graph_words loaded) v) (omega (arith, x.second, entry.second_below v l inside))))))
    where
      literal : ℕ → Truth
      literal = literal_function there

      made : here.first ≤ v
      made = omega (arith, same_first)

      inside : v < vertex_count there
      inside = omega (arith, count)

      within : v < vertex_count here
      within = omega (arith, same_count, count)

      w : HoldsRow (rows_by g.table g) v (first_word (graph_words g.table) v) (second_word (graph_words g.table) v)
      w = entry-own g.table g.output g.limits v (omega (arith, s.inputs, s.made)) (passed g h).table.formed.whole

      x : HoldsRow (rows_by loaded g) v (first_word (graph_words loaded) v) (second_word (graph_words loaded) v)
      x = entry-own loaded g.output g.limits v m whole

      given : Downward here.first (vertex_count here) (rows_by g.table g)
      given = (given-fits g h).sound.downward

      entry : Downward there.first (vertex_count there) (rows_by loaded g)
      entry = (fits loaded g.output g.limits s.before looked_at_lem).sound.downward

  -- and of the next ones.
  next-alike : (i : ℕ) → i < length (next_rows loaded g.output) → Alike (vertices_of loaded + i)
  next-alike i l =
      straight
      (ap literal w.first ∙ literal-there _ below.first ∙ (same.rows i l).first ∙ sym (ap literal x.first ∙ literal-there _ least.first))
      (ap literal w.second ∙ literal-there _ below.second ∙ (same.rows i l).second ∙ sym (ap literal x.second ∙ literal-there _ least.second))
    where
      literal : ℕ → Truth
      literal = literal_function there

      same : SameRows loaded (next_rows g.table g.output) (next_rows loaded g.output)
      same = since_next s g.output looked_at_lem

      vertices : vertices_of g.table ≡ vertices_of loaded
      vertices = omega (arith, s.inputs, s.made)

      there_too : i < length (next_rows g.table g.output)
      there_too = omega (arith, same.count)

      below : RowBelow (2 * vertices_of loaded) (get_or (next_rows g.table g.output) i (0, 0))
      below =
          subst (λ (n : ℕ). RowBelow (2 * n) (get_or (next_rows g.table g.output) i (0, 0))) vertices
          (next-below g.table g.output g.limits (passed g h).table (passed g h).output i there_too)

      least : RowBelow (2 * vertices_of loaded) (get_or (next_rows loaded g.output) i (0, 0))
      least = next-below loaded g.output g.limits s.before looked_at_lem i l

      w : HoldsRow (rows_by g.table g) (vertices_of loaded + i) (get_or (next_rows g.table g.output) i (0, 0)).0 (get_or (next_rows g.table g.output) i (0, 0)).1
      w =
          subst
          (λ (n : ℕ). HoldsRow (rows_by g.table g) (n + i) (get_or (next_rows g.table g.output) i (0, 0)).0 (get_or (next_rows g.table g.output) i (0, 0)).1)
          vertices (entry_next g.table g.output g.limits i there_too (passed g h).table.formed.whole)

      x : HoldsRow (rows_by loaded g) (vertices_of loaded + i) (get_or (next_rows loaded g.output) i (0, 0)).0 (get_or (next_rows loaded g.output) i (0, 0)).1
      x = entry_next loaded g.output g.limits i l whole

  same_operands : (v : ℕ) → there.first ≤ v → v < vertex_count there → merged? (rows_by g.table g) v ≡ false → Alike v
  same_operands v l m e =
      elim (dec_lt v (vertices_of loaded)) [
        | yes k ↦ own-alike v l k e
        | no k ↦
            (let i : vertices_of loaded + (v - vertices_of loaded) ≡ v = omega arith in
            subst Alike i (next-alike (v - vertices_of loaded) (omega (arith, count))))
      ]

  -- Its steps are those of the operands as loaded,
  same-steps : (v : ℕ) → there.first ≤ v → v < vertex_count there → merged? (rows_by g.table g) v ≡ false
      → and_steps (and_at here (rows_by g.table g) v) ≡ and_steps (and_at there (rows_by loaded g) v)
  same-steps v l m e = ap₂ steps (same-literal (first_word (rows_by g.table g) v)) (same-literal (second_word (rows_by g.table g) v)) ∙ pair-steps (same_operands v l m e)

  -- and so is its product.
  same-run : (v : ℕ) (b : Book) → there.first ≤ v → v < vertex_count there → merged? (rows_by g.table g) v ≡ false
      → product_by (problem_by g.table g) (rows_by g.table g) v b ≡ product_by (problem_by loaded g) (rows_by loaded g) v b
  unfolding problem_of
  same-run v b l m e =
      ap₂ (λ (x y : Truth). run g.limits.rows g.limits.steps x y b) (same-literal (first_word (rows_by g.table g) v)) (same-literal (second_word (rows_by g.table g) v))
      ∙ pair_runs g.limits.rows g.limits.steps b (same_operands v l m e)

  -- Where a test passes no mark 0, the steps of the ANDs marked are those of the table as loaded.
  steps_marked_lem : (test : ℕ → Bool) → test 0 ≡ false
      → steps_of test (problem_by g.table g) (rows_by g.table g) (answer_to g).left.marks
      ≡ steps_of test (problem_by loaded g) (rows_by loaded g) (answered g (answer_to g)).marks
  unfolding answered
  steps_marked_lem test none =
      sum_alike test here there (rows_by g.table g) (rows_by loaded g) marks (drop (length marks) g.marks) same_first same_count long first-few
      (λ v l m e. same-steps v l m (mark-unmerged v l (λ z. clash e (ap test z ∙ none))))

  -- A mark as written is the sweep's.
  mark-written : (v : ℕ) → v < vertex_count there → get_or (answer_to g).left.marks v 0 ≡ get_or (answered g (answer_to g)).marks v 0
  unfolding answered
  mark-written v l = sym (get_or-append marks (drop (length marks) g.marks) 0 v (omega (arith, long)))

  -- The rows are the parts of the functions marked 1.
  pub rows_replied : RowsKept loaded g (answered g (answer_to g)) (length (answer_to g).left.book.store)
  unfolding answer_to
  rows_replied = rows-counted (given-fits g h) ∙ ap together (functions-marked (is 1))

  -- On a setting the two literals looked at have the values of r AND the output, by the table as loaded.
  same-value : (side : ℕ) (t : Setting) → length t ≡ inputs_of loaded
      → allows? g.table t && output_value (graph_of g.table) side g.output t ≡ allows? loaded t && output_value (graph_of loaded) side g.output t
  same-value side t l = ap₂ ◌&&◌ (since_allows s t l) (since_value s side g.output t looked_at_lem l)

  left_looked : (t : Setting) → length t ≡ inputs_of loaded
      → value_at (literal_function here here.left) t ≡ allows? loaded t && output_value (graph_of loaded) 1 g.output t
  left_looked t l =
      left-value g.table g.output g.limits (passed g h).table (passed g h).output t (l ∙ sym s.inputs) ∙ same-value 1 t l

  right_looked : (t : Setting) → length t ≡ inputs_of loaded
      → value_at (literal_function here here.right) t ≡ allows? loaded t && output_value (graph_of loaded) 2 g.output t
  right_looked t l =
      right-value g.table g.output g.limits (passed g h).table (passed g h).output t (l ∙ sym s.inputs) ∙ same-value 2 t l

  -- After equal the output has one value on both sides, on every allowed setting.
  pub equal_replied : (answer_to g).verdict ≡ equal → Agrees loaded g.output
  unfolding answer_to
  equal_replied e t l a =
      allowed-equal _ _ _ a (sym (left_looked t l) ∙ ap (λ (f : Truth). value_at f t) (equal-right (given-fits g h) e) ∙ right_looked t l)

  -- After different the setting is the first allowed one on which the two differ.
  pub different_replied : (t : Setting) → (answer_to g).verdict ≡ different t
      → Differs loaded g.output g.setting (over_front (setting_bytes t) g.setting)
  unfolding answer_to problem_of
  different_replied t e =
      let f = different-right (given-fits g h) t e in
      let l : length t ≡ inputs_of loaded = f.digits ∙ s.inputs in
      record {
        setting = t;
        digits = l;
        written = refl;
        allowed = differ-allowed _ _ _ (λ k. f.differ (left_looked t l ∙ k ∙ sym (right_looked t l)));
        differ = λ k. f.differ (left_looked t l ∙ ap (λ (x : Bool). allows? loaded t && x) k ∙ sym (right_looked t l));
        first = λ u m a n. allowed-equal _ _ _ a (sym (left_looked u m) ∙ f.first u (m ∙ sym s.inputs) n ∙ right_looked u m);
      }

  -- The rows that the sweep left begin with those of the table left,
  kept-front : take (length (graph_words (answered g (answer_to g)).table)) (answer_to g).left.rows ≡ graph_words (answered g (answer_to g)).table
  kept-front =
      rw (given-rows g h)
      (ap (λ (n : ℕ). take n (answer_to g).left.rows)
      (length-take-le (2 * vertices_of g.table) (answer_to g).left.rows
      (omega (arith, rows_long g h, count-vertices g.table g.output g.limits))))

  -- and stand for the functions by the table as loaded.
  sound-there : Sound (problem_by loaded g) (answer_to g).left.rows
  sound-there =
      let k = (given-steady g h).sound in
      record {
        downward = rw (same_first, same_count) at k.downward;
        means = λ v l m.
            sym (same_function v)
            ∙ k.means v (omega (arith, same_first)) (omega (arith, same_count))
            ∙ ap₂ conj (same-literal (first_word (answer_to g).left.rows v)) (same-literal (second_word (answer_to g).left.rows v));
      }

  -- After Size some AND is marked 2, each marked 2 is larger than the size limit, and the others are at rest.
  pub size_replied : (answer_to g).verdict ≡ undecided Size
      → AfterSize (problem_by loaded g) (answered g (answer_to g)).marks (graph_words (answered g (answer_to g)).table)
  unfolding answer_to
  size_replied e =
      let d = size-some (given-fits g h) e in
      record {
        vertex = d.0;
        made = omega (arith, two_made (given-fits g h) d.0 d.2, same_first);
        there = omega (arith, d.1, same_count);
        mark = sym (mark-written d.0 (omega (arith, d.1, same_count))) ∙ d.2;
        rows = (answer_to g).left.rows;
        front = kept-front;
        sound = sound-there;
        at_rest = rest-alike same_first same_count refl first-few mark-written (after-rest (given-fits g h) e);
      }

  -- The vertex that the verdict names, and no other, is marked 3.
  named-marked : (v : ℕ) → Names (answer_to g).verdict v
      ↔ ((v < vertex_count (problem_by loaded g)) × (get_or (answered g (answer_to g)).marks v 0 ≡ 3))
  unfolding answer_to
  named-marked v = (
    λ n.
        let m : get_or (answer_to g).left.marks v 0 ≡ 3 = (three_named (given-fits g h) v).0 n in
        let l : v < vertex_count there = omega (arith, mark-within marks v (λ z. omega arith), long) in
        (l, sym (mark-written v l) ∙ m),
    λ x. (three_named (given-fits g h) v).1 (mark-written v x.0 ∙ x.1),
  )

  -- What is said where no product broke off holds with the operands as loaded,
  settled-replied :
      {steps added : ℕ} → Settled (problem_by g.table g) (rows_by g.table g) (answer_to g).left.marks steps added
      → Settled (problem_by loaded g) (rows_by loaded g) (answered g (answer_to g)).marks steps added
  settled-replied k = record { summed = k.summed ∙ steps_marked_lem (is_either 1 2) refl; none-added = k.none-added }

  -- and so does what is said of a product that broke off,
  broke-replied :
      {short : Book → Outcome} {v rows steps added : ℕ} → Names (answer_to g).verdict v
      → BrokeOff (problem_by g.table g) (rows_by g.table g) (answer_to g).left.marks short v rows steps added
      → BrokeOff (problem_by loaded g) (rows_by loaded g) (answered g (answer_to g)).marks short v rows steps added
  broke-replied {v = v} n x =
      let m = (named-marked v).0 n in
      let l : there.first ≤ v = omega (arith, x.made, same_first) in
      record {
        made = l;
        before = x.before;
        after = x.after;
        parts-before = λ t. x.parts-before t ∙ ap (λ (fs : List Truth). among alike? t (all_parts fs)) (functions-marked (is 1));
        rows_before = x.rows_before;
        steps-before = x.steps-before ∙ steps_marked_lem (is_either 1 2) refl;
        ran =
            sym
            (same-run v x.before l m.0
            (mark-unmerged v l (λ z. let i : ◌≡◌ {A = ℕ} 3 0 = sym m.1 ∙ sym (mark-written v m.0) ∙ z in omega arith)))
            ∙ x.ran;
        rows_after = x.rows_after;
        steps-after = x.steps-after;
      }

  -- or of an input at which none had begun.
  broke-at :
      {v rows steps added : ℕ} → Names (answer_to g).verdict v
      → BrokeAt (problem_by g.table g) (rows_by g.table g) (answer_to g).left.marks v rows steps added
      → BrokeAt (problem_by loaded g) (rows_by loaded g) (answered g (answer_to g)).marks v rows steps added
  broke-at n (at_and x) = at_and (broke-replied n x)
  broke-at n (at-input l e z) = at-input (omega (arith, l, same_first)) e z

  -- So does what any verdict says of rows, steps and rows added.
  spent-alike :
      (rows steps added : ℕ) (x : Verdict) → ((v : ℕ) → Names x v → Names (answer_to g).verdict v)
      → Spent (problem_by g.table g) (rows_by g.table g) (answer_to g).left.marks x rows steps added
      → Spent (problem_by loaded g) (rows_by loaded g) (answered g (answer_to g)).marks x rows steps added
  unfolding problem_of
  spent-alike rows steps added equal n k = settled-replied k
  spent-alike rows steps added (different t) n k = settled-replied k
  spent-alike rows steps added (undecided Size) n k = settled-replied k
  spent-alike rows steps added (undecided (Rows v)) n k =
      record {
        over = subst (λ (m : ℕ). here.limits.rows < m) (ap together (functions-marked (is_either 1 3))) k.over;
        full = k.full;
        broke = broke-at (n v by_rows) k.broke;
      }
  spent-alike rows steps added (undecided (Steps v)) n k =
      record {
        over = subst (λ (m : ℕ). here.limits.steps < m) (steps_marked_lem (λ m. is_either 1 2 m || is 3 m) refl) k.over;
        full = k.full;
        broke = broke-replied (n v by-steps) k.broke;
      }

  -- What the verdict says of rows, steps and rows added.
  pub spent_replied : (x : Verdict) → (answer_to g).verdict ≡ x
      → Spent (problem_by loaded g) (rows_by loaded g) (answered g (answer_to g)).marks x (length (answer_to g).left.book.store)
      (answer_to g).left.book.steps (answer_to g).added
  unfolding answer_to
  spent_replied x e =
      spent-alike (length (answer_to g).left.book.store) (answer_to g).left.book.steps (answer_to g).added x (λ v n. rw e n)
      (rw e at (sweep-spent (given-fits g h)))

  -- What the marks mean, where the same vertices are named.
  pub marks_replied : (x : Said) → ((v : ℕ) → Named x v ↔ Names (answer_to g).verdict v)
      → MarksKept (problem_by loaded g) (answered g (answer_to g)).marks x
  unfolding answer_to
  marks_replied x same =
      record {
        known = λ v l. rw (← mark-written v l) (mark-known (given-fits g h) v);
        constant = sym (mark-written 0 (omega (arith, count))) ∙ constant-mark (given-fits g h);
        small = λ v made l m. rw (← same_function v) (unfold problem_of in one-small (given-fits g h) v (omega (arith, same_first)) (mark-written v l ∙ m));
        large = λ v l m. rw (← same_function v) (unfold problem_of in two_large (given-fits g h) v (mark-written v l ∙ m));
        named = λ v. (λ n. (named-marked v).0 ((same v).0 n), λ y. (same v).1 ((named-marked v).1 y));
      }
