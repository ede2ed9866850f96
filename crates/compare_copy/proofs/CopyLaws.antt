-- Words written over the front of a list, one more at a time, and the parts of a table.
use Prim.Native.Nat.{◌*◌, ◌+◌, ◌-◌, ◌<◌, ◌≤◌, suc, ℕ}
use Rattle.aig.proofs.OwnLaws.{length_own}
use Rattle.aig.specs.Literal.{vertex_of}
use Rattle.aig.specs.Lookup.{own_words}
use Rattle.compare_model.proofs.GraphLaws.{length_graph}
use Rattle.compare_model.proofs.LeftLaws.{left-words, length_header, length_made}
use Rattle.compare_model.specs.Compare.{entry_rows, graph_words, next_rows, output_of, outputs_left, over_front, row_words, table_left, vertex_room}
use Rattle.sweep_model.specs.Normalise.{resolve}
use Rattle.table.specs.Table.{constraint_of, inputs_of, made_of, output_words, outputs_of, promised, vertices_of}
use Rattle.text.proofs.DecimalLaws.{written_append, written_length, written_one}
use Rattle.text.specs.Decimal.{written}
use borrow.Author.Tests.{eq-eqb, ne_eqb}
use borrow.Rule.Slice.PartMut.{put_mid}
use lib.ListN.{drop, get_or, length, length-append, length-drop, length-map, set, take}
use lib.Seq.{drop_at, drop-cons, drop-drop, get_or_at, length-take-le, take_all, take_at, take-suc}
use mathlib.Core.List.{List, [], ◌++◌, ◌∷◌, append_assoc, append-nil, map}
use mathlib.Core.Logic.{◌≢◌}
use mathlib.Core.Path.{◌∙◌, ◌≡◌, ap, ap₂, refl, subst, sym}
use native.Mathlib.Numerals.{add-one}
use native.Mathlib.Omega.{arith}

-- The word right after the front is the old one.
pub front-next : (xs old : List ℕ) (i : ℕ) → length xs ≡ i → i < length old → get_or (xs ++ drop i old) i 0 ≡ get_or old i 0
front-next xs old i e h =
    ap (λ (l : List ℕ). get_or (xs ++ l) i 0) (drop-cons old i 0 h) ∙ get_or_at xs (get_or old i 0) (drop (suc i) old) 0 i e

-- The front with one word more.
pub take_more : (i : ℕ) (xs : List ℕ) → i < length xs → take i xs ++ (get_or xs i 0 ∷ []) ≡ take (i + 1) xs
take_more i xs h = rw add-one (sym (take-suc xs i 0 h))

-- A map of one word more has one more word.
pub map_more : (f : ℕ → ℕ) (xs : List ℕ) (a : ℕ) → map f (xs ++ (a ∷ [])) ≡ map f xs ++ (f a ∷ [])
map_more f [] a = refl
map_more f (x ∷ xs) a = ap (λ (l : List ℕ). f x ∷ l) (map_more f xs a)

-- The words below i are replaced by what a map makes of them.
module _ (f : ℕ → ℕ) (i : ℕ) (xs words : List ℕ) (done : words ≡ map f (take i xs) ++ drop i xs) where
  -- There are i of them.
  pub length_mapped : i < length xs → length (map f (take i xs)) ≡ i
  length_mapped h = length-map (take i xs) f ∙ length-take-le i xs (omega arith)

  -- The next word is the old one.
  pub mapped_next : i < length xs → get_or words i 0 ≡ get_or xs i 0
  mapped_next h = ap (λ (l : List ℕ). get_or l i 0) done ∙ front-next (map f (take i xs)) xs i (length_mapped h) h

-- Written from place 0 on is written over the front.
written-front : (old xs : List ℕ) → written old 0 xs ≡ over_front xs old
unfolding written
written-front old xs = let z : 0 + length xs ≡ length xs = omega arith in rw z refl

-- After the first vertices' own words, the rows.
pub rows_copied : (table old between new : List ℕ) → 2 * (1 + inputs_of table) ≤ length old → between ≡ written old 0 (own_words 0 (1 + inputs_of table))
    → new ≡ written between (2 * (1 + inputs_of table)) (take (2 * made_of table) (drop 3 table))
    → new ≡ over_front (graph_words table) old
unfolding graph_words
rows_copied table old between new room e f =
    let l : 2 * (1 + inputs_of table) ≡ 0 + length own = omega (arith, length_own 0 (1 + inputs_of table)) in
    f
    ∙ ap₂ (λ (ws : List ℕ) (at : ℕ). written ws at rows) e l
    ∙ written_append old 0 own (omega (arith, l)) rows
    ∙ written-front old (own ++ rows)
  where
    own : List ℕ
    own = own_words 0 (1 + inputs_of table)

    rows : List ℕ
    rows = take (2 * made_of table) (drop 3 table)

-- Two words set are a row written.
pub row_written : (old : List ℕ) (at a b : ℕ) → at + 2 ≤ length old → set (set old at a) (at + 1) b ≡ written old at (a ∷ b ∷ [])
row_written old at a b room =
    ap (λ (ws : List ℕ). set ws (at + 1) b) (written_one old at a (omega arith))
    ∙ written_one (written old at (a ∷ [])) (at + 1) b (omega (arith, written_length old at (a ∷ []) (omega arith)))
    ∙ written_append old at (a ∷ []) (omega arith) (b ∷ [])

-- Where the constraint is 1, the rows that the sweep starts from are the table's;
pub entry-own_rows : (table : List ℕ) (output : ℕ) → constraint_of table ≡ 1 → entry_rows table output ≡ graph_words table
unfolding entry_rows next_rows row_words
entry-own_rows table output e = rw (eq-eqb (constraint_of table) 1 e) (append-nil (graph_words table))

-- else those of the two next vertices are written after the table's.
pub entry-written : (table : List ℕ) (output : ℕ) → constraint_of table ≢ 1 → promised (made_of table) (outputs_of table) ≤ length table
    → (old own one both : List ℕ) → 2 * vertex_room table ≤ length old → own ≡ over_front (graph_words table) old
    → one ≡ written own (2 * vertices_of table) (constraint_of table ∷ output_of table 1 output ∷ [])
    → both ≡ written one (2 * vertices_of table + 2) (constraint_of table ∷ output_of table 2 output ∷ [])
    → both ≡ over_front (entry_rows table output) old
unfolding entry_rows next_rows row_words
entry-written table output n whole old own one both room e f g =
    rw (ne_eqb (constraint_of table) 1 n)
    (g ∙ ap₂ (λ (ws : List ℕ) (at : ℕ). written ws at (row 2)) first-written (sym (omega (arith, length-append graph (row 1), l)))
    ∙ written_append old 0 (graph ++ row 1) (omega (arith, length-append graph (row 1), l)) (row 2)
    ∙ written-front old ((graph ++ row 1) ++ row 2)
    ∙ ap (λ (ws : List ℕ). over_front ws old) (append_assoc graph (row 1) (row 2)))
  where
    graph : List ℕ
    graph = graph_words table

    row : ℕ → List ℕ
    row side = constraint_of table ∷ output_of table side output ∷ []

    l : length graph ≡ 2 * vertices_of table
    l = length_graph table whole

    first-written : one ≡ written old 0 (graph ++ row 1)
    first-written =
        f ∙ ap₂ (λ (ws : List ℕ) (at : ℕ). written ws at (row 1)) (e ∙ sym (written-front old graph)) (sym (omega (arith, l)))
        ∙ written_append old 0 graph (omega (arith, l)) (row 1)

-- The word after the output references.
abbrev pub outputs_end : List ℕ → ℕ
outputs_end table = 3 + 2 * made_of table + 2 * outputs_of table

-- Rows of a table's vertices written over its own.
module _ (table rows between : List ℕ) (whole : promised (made_of table) (outputs_of table) ≤ length table) (long : length rows ≡ 2 * vertices_of table)
    (copied : between ≡ written table 3 (take (length rows - 2 * (1 + inputs_of table)) (drop (2 * (1 + inputs_of table)) rows))) where
  abbrev first : ℕ
  first = 2 * (1 + inputs_of table)

  abbrev from : ℕ
  from = 3 + 2 * made_of table

  abbrev front : List ℕ
  front = take 3 table ++ drop first rows

  between-words : between ≡ front ++ drop from table
  unfolding written
  between-words =
      let l : length (drop first rows) ≤ length rows - first = omega (arith, length-drop first rows) in
      copied
      ∙ rw (take_all (length rows - first) (drop first rows) l, length_made table whole rows long)
      (sym (append_assoc (take 3 table) (drop first rows) (drop from table)))

  length_front : length front ≡ from
  length_front = length-append (take 3 table) (drop first rows) ∙ omega (arith, length_header table whole rows long, length_made table whole rows long)

  rest-words : drop from between ≡ drop from table
  rest-words = ap (drop from) between-words ∙ drop_at front (drop from table) from length_front

  -- The words then lent are the table's output references.
  pub outputs-lent : take (outputs_end table - (3 + 2 * made_of table)) (drop (3 + 2 * made_of table) between) ≡ output_words table
  unfolding output_words
  outputs-lent = let n : outputs_end table - from ≡ 2 * outputs_of table = omega arith in rw (n, rest-words) refl

  -- They name vertices that have rows.
  pub outputs-within : ((k : ℕ) → k < length (output_words table) → get_or (output_words table) k 0 < 2 * vertices_of table)
      → (k : ℕ)
      → k < length (take (outputs_end table - (3 + 2 * made_of table)) (drop (3 + 2 * made_of table) between))
      → 2 * vertex_of (get_or (take (outputs_end table - (3 + 2 * made_of table)) (drop (3 + 2 * made_of table) between)) k 0) + 1 < length rows
  outputs-within below =
      subst (λ (ws : List ℕ). (k : ℕ) → k < length ws → 2 * vertex_of (get_or ws k 0) + 1 < length rows) (sym outputs-lent) (λ k h. omega (arith, below k h))

  -- With what they became, the table is as a comparison leaves it.
  pub outputs_resolved : (words : List ℕ)
      → words ≡ map (resolve rows) (take (outputs_end table - (3 + 2 * made_of table)) (drop (3 + 2 * made_of table) between))
      → put_mid (3 + 2 * made_of table) (outputs_end table - (3 + 2 * made_of table)) between words ≡ table_left table rows
  unfolding outputs_left
  outputs_resolved words e =
      let n : outputs_end table - from ≡ 2 * outputs_of table = omega arith in
      let after : drop (outputs_end table - from) (drop from between) ≡ drop (outputs_end table) table =
      rw (rest-words, n) (drop-drop (2 * outputs_of table) from table)
      in
      ap₂ (λ (ws more : List ℕ). take from between ++ (ws ++ more)) (e ∙ ap (map (resolve rows)) outputs-lent) after
      ∙ ap (λ (l : List ℕ). l ++ (map (resolve rows) (output_words table) ++ drop (outputs_end table) table))
      (ap (take from) between-words ∙ take_at front (drop from table) from length_front)
      ∙ append_assoc (take 3 table) (drop first rows) _
      ∙ sym (left-words table whole rows long)
