-- Reports computed from the bytes of the files.
use Rattle.std.specs.Prelude.{◌*◌, ℕ, replicate, take, List, [], ◌++◌, ◌∷◌, ◌≡◌, None}
use Rattle.load_model.specs.Cards.{and_file, named_and, turned_and, with_one_gate}
use Rattle.load_model.specs.Load.{max_table}
use Rattle.report_format.specs.Report.{head_line, refused_line, reply_line}
use Rattle.report_format.specs.declared.Word.TheVariants.{Different, Equal}
use Rattle.report_model.specs.Report.{Lent, compare_vertices, report_of, report_room, row_limit}
use Rattle.table.specs.Limits.{max_inputs}

-- Slices that are just long enough.
abbrev pub enough : Lent
enough =
    record {
      out = replicate report_room 0;
      table = replicate max_table 0;
      room =
          record {
            pairs = 2 * compare_vertices;
            look = 2 * compare_vertices;
            diagrams = 2 * compare_vertices;
            stages = 2 * compare_vertices;
            rows = 4 * row_limit;
          };
      marks = replicate compare_vertices 0;
      setting = replicate max_inputs 0;
    }

-- The bytes of the report.
abbrev pub printed : List ℕ → List ℕ → List ℕ
printed left right = let r = report_of left right enough in take r.count r.out

-- "right the same but `or`": `G⇥or⇥2⇥4`, `O⇥6`. (RULES 11.7)
abbrev pub same_but_or : List ℕ
same_but_or = with_one_gate (71 ∷ 9 ∷ 111 ∷ 114 ∷ 9 ∷ 50 ∷ 9 ∷ 52 ∷ 10 ∷ 79 ∷ 9 ∷ 54 ∷ 10 ∷ [])

-- `xor 2 4` output 6, named twice. (RULES 13.3)
abbrev pub xor_twice : List ℕ
xor_twice =
    78 ∷ 9 ∷ 49 ∷ 9 ∷ 50 ∷ 9 ∷ 49 ∷ 9 ∷ 50 ∷ 10 ∷ 71 ∷ 9 ∷ 120 ∷ 111 ∷ 114 ∷ 9 ∷ 50 ∷ 9 ∷ 52 ∷ 10 ∷ 79 ∷ 9 ∷ 54 ∷ 10 ∷ 79 ∷ 9 ∷ 54 ∷ 10 ∷ []

-- "`or 2 4`, `and 2 4`, `and 6 9` output 10", named twice. (RULES 13.3)
abbrev pub built_twice : List ℕ
built_twice =
    78 ∷ 9 ∷ 49 ∷ 9 ∷ 50 ∷ 9 ∷ 51 ∷ 9 ∷ 50 ∷ 10 ∷ 71 ∷ 9 ∷ 111 ∷ 114 ∷ 9 ∷ 50 ∷ 9 ∷ 52 ∷ 10 ∷ 71 ∷ 9 ∷ 97 ∷ 110 ∷ 100 ∷ 9 ∷ 50 ∷ 9 ∷ 52 ∷ 10 ∷ 71 ∷ 9 ∷ 97 ∷ 110 ∷ 100 ∷ 9 ∷ 54 ∷ 9 ∷ 57 ∷ 10 ∷ 79 ∷ 9 ∷ 49 ∷ 48 ∷ 10 ∷ 79 ∷ 9 ∷ 49 ∷ 48 ∷ 10 ∷ []

pub record Cards : Type 0 where
  -- "With left `N⇥1⇥2⇥1⇥1`, `G⇥and⇥2⇥4`, `O⇥6`, and right the same but `or`, it prints .. `1⇥0⇥different⇥01⇥-⇥4⇥6`" (RULES 11.7)
  pub sample : printed and_file same_but_or ≡ head_line ++ reply_line 1 0 Different (48 ∷ 49 ∷ []) None 4 6
  -- ".. Equal, rows 7, steps 18": the second comparison finds merged what the first one merged. (RULES 13.3)
  pub twice : printed xor_twice built_twice ≡ head_line ++ (reply_line 1 0 Equal [] None 7 18 ++ reply_line 1 1 Equal [] None 0 0)
  -- "the reply line prints that edition": `and 2 5` against `and 3 4`, names `a b` against `b a`. (RULES 11.4, 13.2)
  pub named : printed named_and turned_and ≡ head_line ++ reply_line 2 0 Equal [] None 0 0
  -- "A file that cannot be read is taken as empty", "an empty file: line 1" (RULES 8.1, 11.1)
  pub empty : printed [] and_file ≡ refused_line 5 1 1
