-- The bench cards on loading, marked P, from the bytes of the files. "a is reference 2, b is 4": inputs 1 and 2, of two. (RULES 13.1, 13.2)
use Rattle.std.specs.Prelude.{◌*◌, ℕ, false, List, [], ◌∷◌, ◌≡◌}
use Rattle.load_model.specs.Load.{LoadRoom, accepted, load_result, max_table, max_vertices, table_loaded}
use Rattle.table.specs.Table.{graph_of, output_value}
use Rattle.truth.specs.Truth.{Setting}

-- `N⇥1⇥2⇥1⇥1`
abbrev pub with_one_gate : List ℕ → List ℕ
with_one_gate rest = 78 ∷ 9 ∷ 49 ∷ 9 ∷ 50 ∷ 9 ∷ 49 ∷ 9 ∷ 49 ∷ 10 ∷ rest

-- `G⇥xor⇥2⇥2`, `O⇥6` (RULES 13.2)
abbrev pub xor_file : List ℕ
xor_file = with_one_gate (71 ∷ 9 ∷ 120 ∷ 111 ∷ 114 ∷ 9 ∷ 50 ∷ 9 ∷ 50 ∷ 10 ∷ 79 ∷ 9 ∷ 54 ∷ 10 ∷ [])

-- `G⇥and⇥2⇥4`, `O⇥6` (RULES 11.7, 13.2)
abbrev pub and_file : List ℕ
and_file = with_one_gate (71 ∷ 9 ∷ 97 ∷ 110 ∷ 100 ∷ 9 ∷ 50 ∷ 9 ∷ 52 ∷ 10 ∷ 79 ∷ 9 ∷ 54 ∷ 10 ∷ [])

-- `G⇥or⇥3⇥5`, `O⇥7` (RULES 13.2)
abbrev pub or_file : List ℕ
or_file = with_one_gate (71 ∷ 9 ∷ 111 ∷ 114 ∷ 9 ∷ 51 ∷ 9 ∷ 53 ∷ 10 ∷ 79 ∷ 9 ∷ 55 ∷ 10 ∷ [])

-- `N⇥1⇥2⇥0⇥1`, `O⇥0`
abbrev pub false_file : List ℕ
false_file = 78 ∷ 9 ∷ 49 ∷ 9 ∷ 50 ∷ 9 ∷ 48 ∷ 9 ∷ 49 ∷ 10 ∷ 79 ∷ 9 ∷ 48 ∷ 10 ∷ []

-- `N⇥2⇥2⇥1⇥1`, `I⇥x`, `I⇥y` for two letters.
abbrev pub with_names : ℕ → ℕ → List ℕ → List ℕ
with_names x y rest =
    78 ∷ 9 ∷ 50 ∷ 9 ∷ 50 ∷ 9 ∷ 49 ∷ 9 ∷ 49 ∷ 10 ∷ 73 ∷ 9 ∷ x ∷ 10 ∷ 73 ∷ 9 ∷ y ∷ 10 ∷ rest

-- Names `a b`: `G⇥and⇥2⇥5`, `O⇥6`. (RULES 13.2)
abbrev pub named_and : List ℕ
named_and = with_names 97 98 (71 ∷ 9 ∷ 97 ∷ 110 ∷ 100 ∷ 9 ∷ 50 ∷ 9 ∷ 53 ∷ 10 ∷ 79 ∷ 9 ∷ 54 ∷ 10 ∷ [])

-- Names `b a`: `G⇥and⇥3⇥4`, `O⇥6`. (RULES 13.2)
abbrev pub turned_and : List ℕ
turned_and = with_names 98 97 (71 ∷ 9 ∷ 97 ∷ 110 ∷ 100 ∷ 9 ∷ 51 ∷ 9 ∷ 52 ∷ 10 ∷ 79 ∷ 9 ∷ 54 ∷ 10 ∷ [])

-- Slices that are just long enough.
abbrev pub room : LoadRoom
room = record { table = max_table; pairs = 2 * max_vertices; look = 2 * max_vertices; literals = 2 * max_vertices; outputs = 2 * max_vertices }

-- The table after a load of two files.
abbrev pub table_left : List ℕ → List ℕ → List ℕ → List ℕ
table_left left right old = table_loaded (load_result left right room) left right old

-- "`xor 2 2`: asked 3, folded 3, value false." "`and 2 4` output 6 against `or 3 5` output 7: made 1, found 1" "edition 2, names `a b`
-- against `b a`: `and 2 5` against `and 3 4`: made 1, found 1" (RULES 13.2)
pub record Loading : Type 0 where
  pub xor_tally : load_result xor_file false_file room ≡ accepted 1 (record { asked = 3; folded = 3; found = 0; made = 0 })
  pub xor_value : (old : List ℕ) (s : Setting) → output_value (graph_of (table_left xor_file false_file old)) 1 0 s ≡ false
  pub and_or-tally : load_result and_file or_file room ≡ accepted 1 (record { asked = 2; folded = 0; found = 1; made = 1 })
  pub named-tally : load_result named_and turned_and room ≡ accepted 2 (record { asked = 2; folded = 0; found = 1; made = 1 })
