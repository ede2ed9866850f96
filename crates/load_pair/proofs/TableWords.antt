-- The parts of the table's words: their lengths, and that they are those of the graph and of both files' outputs.
use Prim.Native.Nat.{◌*◌, ◌+◌, ◌-◌, ◌<◌, ◌≤◌, ℕ}
use Rattle.load_file.specs.code.File.{with_constraint}
use Rattle.load_model.specs.Build.{FileBuilt, PairBuilt}
use Rattle.load_model.specs.Load.{table_words}
use Rattle.load_pair.specs.code.Pair.{OutputsHeld, TableRoom, words_of}
use Rattle.table.specs.Limits.{max_outputs}
use Rattle.text.proofs.DecimalLaws.{written_length}
use Rattle.text.specs.Decimal.{written}
use lib.ListN.{drop, get_or, length, length-append, length-drop, take}
use lib.Seq.{drop_at, get_or-append_seam, get_or-take, length-take-le, take-add, take-append-le, take-append_seam, take-take}
use mathlib.Core.List.{List, [], ◌++◌, ◌∷◌}
use mathlib.Core.Path.{◌∙◌, ◌≡◌, ap, refl, sym}
use native.Mathlib.Omega.{arith}

-- A part of a list from a place on.
pub part_length : (l : List ℕ) (a n : ℕ) → a + n ≤ length l → length (take n (drop a l)) ≡ n
part_length l a n h = length-take-le n (drop a l) (rw length-drop (omega arith))

module _ {table first vertices count : ℕ} (pairs outputs : List ℕ) (r : TableRoom table (length pairs) (length outputs) first vertices count) where
  pub rows_length : length (take (2 * vertices - 2 * first) (drop (2 * first) pairs)) ≡ 2 * vertices - 2 * first
  rows_length = part_length pairs (2 * first) (2 * vertices - 2 * first) (omega (arith, r.rows, r.from_first))

  pub left_length : length (take count outputs) ≡ count
  left_length = length-take-le count outputs (omega (arith, r.side, r.sides))

  -- The second part as the code cuts it.
  pub right_part : take (max_outputs + 1 + count - (max_outputs + 1)) (drop (max_outputs + 1) outputs) ≡ take count (drop (max_outputs + 1) outputs)
  right_part = let e : max_outputs + 1 + count - (max_outputs + 1) ≡ count = omega arith in rw e refl

  pub right_length : length (take count (drop (max_outputs + 1) outputs)) ≡ count
  right_length = part_length outputs (max_outputs + 1) count (omega (arith, r.side, r.sides))

  -- The place after all of them is within the table.
  pub last_within :
      {a b c : ℕ} → a ≡ 3 + length (take (2 * vertices - 2 * first) (drop (2 * first) pairs)) → b ≡ a + length (take count outputs)
      → c ≡ b + length (take count (drop (max_outputs + 1) outputs)) → c < table
  last_within e f g = omega (arith, r.room, rows_length, left_length, right_length, e, f, g)

-- The rows among the words of all vertices.
rows_are : (l : List ℕ) (a e : ℕ) → a ≤ e → e ≤ length l → take (e - a) (drop a l) ≡ drop a (take e l)
rows_are l a e h k =
    let m : e ≡ a + (e - a) = omega arith in
    sym (drop_at (take a l) (take (e - a) (drop a l)) a (length-take-le a l (omega arith)))
    ∙ ap (drop a) (sym (take-add a (e - a) l) ∙ ap (λ (n : ℕ). take n l) (sym m))

-- The words of both files, the first's at the front and the second's from a place on.
module _ (old left right : List ℕ) (at : ℕ) (few : length left ≤ at) (room : at + length right ≤ length old) where
  front_length : length (take at (written old 0 left)) ≡ at
  front_length = length-take-le at (written old 0 left) (rw (written_length old 0 left (omega arith)) (omega arith))

  left_is : take (length left) (written (written old 0 left) at right) ≡ left
  unfolding written
  left_is =
      take-append-le (length left) (take at (written old 0 left)) _ (omega (arith, front_length))
      ∙ take-take (length left) at (written old 0 left) few
      ∙ take-append_seam left (drop (0 + length left) old)

  right_is : take (length right) (drop at (written (written old 0 left) at right)) ≡ right
  unfolding written
  right_is =
      ap (take (length right)) (drop_at (take at (written old 0 left)) _ at front_length)
      ∙ take-append_seam right (drop (at + length right) (written old 0 left))

-- Where words and one more stand at the front of a list, so do the words without it, and it stands after them.
module _ (xs : List ℕ) (x : ℕ) (l : List ℕ) (h : take (length (xs ++ (x ∷ []))) l ≡ xs ++ (x ∷ [])) where
  all_but_last : take (length xs) l ≡ xs
  all_but_last =
      sym (take-take (length xs) (length (xs ++ (x ∷ []))) l (rw length-append (omega arith)))
      ∙ ap (take (length xs)) h
      ∙ take-append_seam xs (x ∷ [])

  last_one : get_or l (length xs) 0 ≡ x
  last_one =
      sym (get_or-take (length (xs ++ (x ∷ []))) l (length xs) 0 (rw length-append (omega arith)))
      ∙ ap (λ (ws : List ℕ). get_or ws (length xs) 0) h
      ∙ get_or-append_seam xs x [] 0

-- The outputs of both files and the constraint, as the files' words are written.
pub outputs-held : (old : List ℕ) (f g : FileBuilt) (b : PairBuilt) {outputs : List ℕ}
    → outputs ≡ written (written old 0 (with_constraint f)) (max_outputs + 1) (with_constraint g) → length f.outputs ≤ max_outputs
    → length g.outputs ≤ max_outputs → 2 * max_outputs + 2 ≤ length old → b.left ≡ f.outputs → b.constraint ≡ f.constraint → b.right ≡ g.outputs
    → OutputsHeld outputs b
outputs-held old f g b held few few' room left constraint right =
    let some : length (with_constraint f) ≤ max_outputs + 1 = rw length-append (omega arith) in
    let fits : max_outputs + 1 + length (with_constraint g) ≤ length old = rw length-append (omega arith) in
    let front = left_is old (with_constraint f) (with_constraint g) (max_outputs + 1) some fits in
    let back = right_is old (with_constraint f) (with_constraint g) (max_outputs + 1) some fits in
    rw held
    (record {
      left = rw left (all_but_last f.outputs f.constraint _ front);
      constraint = rw (left, constraint) (last_one f.outputs f.constraint _ front);
      right = rw right (all_but_last g.outputs g.constraint _ back);
    })

-- The words in the slices are those of the graph.
pub words_are :
    (b : PairBuilt) (pairs : List ℕ) {outputs : List ℕ} (n v count : ℕ) → take (2 * v) pairs ≡ b.build.words → v ≡ b.build.count
    → OutputsHeld outputs b → length b.left ≡ count → length b.right ≡ count → 1 + n ≤ v → 2 * v ≤ length pairs → words_of pairs outputs (1 + n) v count ≡ table_words n b
unfolding table_words
words_are b pairs {outputs} n v count words is held left right first fits =
    let z : 1 + n - 1 ≡ n = omega arith in
    let made : v - (1 + n) ≡ b.build.count - (1 + n) = rw is refl in
    let rows : take (2 * v - 2 * (1 + n)) (drop (2 * (1 + n)) pairs) ≡ drop (2 * (1 + n)) b.build.words =
    rows_are pairs (2 * (1 + n)) (2 * v) (omega arith) fits ∙ ap (drop (2 * (1 + n))) words in
    let one : take count outputs ≡ b.left = rw (← left) held.left in
    let two : take count (drop (max_outputs + 1) outputs) ≡ b.right = rw (← right) held.right in
    let last : get_or outputs count 0 ≡ b.constraint = rw (← left) held.constraint in
    cc
