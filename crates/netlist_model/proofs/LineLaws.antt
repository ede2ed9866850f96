-- The lines of a file, one after the other.
use Prim.Native.Nat.{◌+◌, ◌-◌, ◌<◌, ◌≤◌, ℕ}
use Rattle.netlist_model.proofs.RecordLaws.{kind_with}
use Rattle.netlist_model.specs.code.Passing.{file_records, first_line, line_record}
use Rattle.netlist_model.specs.Records.{Line, file_lines, kind_of, line_of, part_lines, malformed_line, name_line, record_of, unended}
use Rattle.netlist_model.specs.declared.Record.TheVariants.{Name}
use Rattle.netlist_model.specs.declared.Record.{Record}
use Rattle.text.proofs.SplitLaws.{has_shorter, has-whole, split_at_append, split_at-last, split_at-next, split_at-some, up_to-all, up_to_shorter}
use Rattle.text.specs.Split.{has, split_at, up_to}
use borrow.Author.Tests.{ltb-false, ltb-true}
use lib.Dec.{ltb}
use lib.ListN.{drop, drop_of_length-le, length, length-drop}
use mathlib.Core.Bool.{Bool, false, true}
use mathlib.Core.List.{List, [], ◌++◌, ◌∷◌, map}
use Rattle.std.specs.Prelude.{Option, None, Some}
use mathlib.Core.Path.{◌∙◌, ◌≡◌, ap, refl, sym}
use native.Mathlib.Omega.{arith}

-- The record of a line is what its bytes are read as.
pub kind_of_lem : (line : List ℕ) → kind_of (line_of line) ≡ record_of line
unfolding line_of
kind_of_lem line = kind_with (record_of line) (split_at 9 line)

-- A line before other parts is ended.
pub lines_cons : (line : List ℕ) (parts : List (List ℕ)) → 0 < length parts → part_lines (line ∷ parts) ≡ line_of line ∷ part_lines parts
unfolding part_lines
lines_cons line [] h = absurd (omega arith)
lines_cons line (next ∷ parts) h = refl

-- A line with its end byte, and what follows.
pub lines_line : (line rest : List ℕ) → has 10 line ≡ false → file_lines (line ++ 10 ∷ rest) ≡ line_of line ∷ file_lines rest
unfolding file_lines
lines_line line rest h = rw (split_at_append 10 line rest h) (lines_cons line (split_at 10 rest) (split_at-some 10 rest))

-- A last line without it.
pub lines-unended : (line : List ℕ) → 0 < length line → has 10 line ≡ false → file_lines line ≡ malformed_line ∷ []
unfolding file_lines part_lines unended
lines-unended [] l e = absurd (omega arith)
lines-unended (b ∷ bs) l e = rw (split_at-last 10 (b ∷ bs) e) refl

module _ (file : List ℕ) (at : ℕ) where
  -- A line with its end byte, and the lines of what starts after it.
  pub lines_next :
      at + length (up_to 10 (drop at file)) < length file
      → file_lines (drop at file) ≡ line_of (up_to 10 (drop at file)) ∷ file_lines (drop (at + length (up_to 10 (drop at file)) + 1) file)
  unfolding file_lines
  lines_next h =
      let rest = drop (at + length (up_to 10 (drop at file)) + 1) file in
      rw (split_at-next 10 file at h) (lines_cons (up_to 10 (drop at file)) (split_at 10 rest) (split_at-some 10 rest))

  -- At the end there are none.
  pub lines_end : length file ≤ at → file_lines (drop at file) ≡ []
  unfolding file_lines part_lines unended
  lines_end h = rw (drop_of_length-le file h) refl

  -- A line with its end byte is that line.
  pub line_whole : at + length (up_to 10 (drop at file)) < length file → first_line (drop at file) ≡ line_of (up_to 10 (drop at file))
  unfolding first_line
  line_whole h =
      let l : length (up_to 10 (drop at file)) < length (drop at file) = rw length-drop (omega arith) in
      rw (has_shorter 10 (drop at file) l) refl

  -- A line without it is malformed.
  pub line_last : length file ≤ at + length (up_to 10 (drop at file)) → first_line (drop at file) ≡ malformed_line
  unfolding first_line
  line_last h =
      let l : length (drop at file) ≤ length (up_to 10 (drop at file)) = rw length-drop (omega arith) in
      rw (has-whole 10 (drop at file) l) refl

  -- The records of both.
  pub record_whole : at + length (up_to 10 (drop at file)) < length file → line_record (drop at file) ≡ record_of (up_to 10 (drop at file))
  record_whole h = ap kind_of (line_whole h) ∙ kind_of_lem (up_to 10 (drop at file))

  pub record_last : length file ≤ at + length (up_to 10 (drop at file)) → line_record (drop at file) ≡ None
  record_last h = ap kind_of (line_last h)

  -- The line that starts here stands first, with its end byte or without.
  pub lines-ahead :
      at < length file
      → file_lines (drop at file) ≡ first_line (drop at file) ∷ file_lines (drop (at + length (up_to 10 (drop at file)) + 1) file)
  unfolding file_lines part_lines unended
  lines-ahead h = go (has 10 (drop at file)) refl
    where
      go :
          (t : Bool) → has 10 (drop at file) ≡ t
          → file_lines (drop at file) ≡ first_line (drop at file) ∷ file_lines (drop (at + length (up_to 10 (drop at file)) + 1) file)
      go true e =
          let l : at + length (up_to 10 (drop at file)) < length file = omega (arith, up_to_shorter 10 (drop at file) e, length-drop at file) in
          rw (line_whole l) (lines_next l)
      go false e =
          let n : length (up_to 10 (drop at file)) ≡ length file - at = rw (up_to-all 10 (drop at file) e) (length-drop at file) in
          let some : 0 < length (drop at file) = rw length-drop (omega arith) in
          lines-unended (drop at file) some e
          ∙ rw (line_last (omega arith), drop_of_length-le file (let l : length file ≤ at + length (up_to 10 (drop at file)) + 1 = omega arith in l)) refl

  -- A line that is not malformed has its end byte.
  pub formed-ended : (line_record (drop at file) ≡ None → ⊥) → at + length (up_to 10 (drop at file)) < length file
  formed-ended h = go (ltb (at + length (up_to 10 (drop at file))) (length file)) refl
    where
      go : (t : Bool) → ltb (at + length (up_to 10 (drop at file))) (length file) ≡ t → at + length (up_to 10 (drop at file)) < length file
      go true e = ltb-true _ _ e
      go false e = absurd (h (record_last (ltb-false _ _ e)))

  -- So has a name's, and its record is read from it.
  name-ended : Some Name ≡ line_record (drop at file) → at + length (up_to 10 (drop at file)) < length file
  name-ended h = formed-ended (λ m. let z : ◌≡◌ {A = ℕ} 0 1 = cc in omega arith)

  pub name-read : Some Name ≡ line_record (drop at file) → record_of (up_to 10 (drop at file)) ≡ Some Name
  name-read h = sym (record_whole (name-ended h)) ∙ sym h

  -- The line is that of the name which was read.
  pub name_line_told : Some Name ≡ line_record (drop at file) → {x : List ℕ} → name_line x ≡ line_of (up_to 10 (drop at file)) → first_line (drop at file) ≡ name_line x
  name_line_told h e = line_whole (name-ended h) ∙ sym e

  -- Where lines are ahead, there are bytes.
  pub some-ahead : {l : Line} {ls : List Line} → file_lines (drop at file) ≡ l ∷ ls → at < length file
  some-ahead e = go (ltb at (length file)) refl
    where
      go : (t : Bool) → ltb at (length file) ≡ t → at < length file
      go true h = ltb-true _ _ h
      go false h = absurd (omega (arith, ap length (sym (lines_end (ltb-false _ _ h)) ∙ e)))

-- The line that starts at a place, where the line l and then the lines ls are ahead.
pub record LineAt (file : List ℕ) (at : ℕ) (l : Line) (ls : List Line) : Type 0 where
  pub ended : at + length (up_to 10 (drop at file)) < length file
  pub this : line_of (up_to 10 (drop at file)) ≡ l
  pub rest : file_lines (drop (at + length (up_to 10 (drop at file)) + 1) file) ≡ ls

-- It is there if it is not malformed.
pub line-ahead :
    (file : List ℕ) (at : ℕ) {l : Line} {ls : List Line}
    → file_lines (drop at file) ≡ l ∷ ls → (kind_of l ≡ None → ⊥) → LineAt file at l ls
line-ahead file at {l} {ls} e formed =
    let two : first_line (drop at file) ∷ file_lines (drop (at + length (up_to 10 (drop at file)) + 1) file) ≡ l ∷ ls =
    sym (lines-ahead file at (some-ahead file at e)) ∙ e in
    let first : first_line (drop at file) ≡ l = cc in
    let ended = formed-ended file at (λ m. formed (sym (ap kind_of first) ∙ m)) in
    record { ended = ended; this = sym (line_whole file at ended) ∙ first; rest = cc }

-- The same of records.
pub record RecordAt (file : List ℕ) (at : ℕ) (r : Option Record) (rs : List (Option Record)) : Type 0 where
  pub ended : at + length (up_to 10 (drop at file)) < length file
  pub this : record_of (up_to 10 (drop at file)) ≡ r
  pub rest : file_records (drop (at + length (up_to 10 (drop at file)) + 1) file) ≡ rs

pub record-ahead :
    (file : List ℕ) (at : ℕ) {r : Option Record} {rs : List (Option Record)}
    → file_records (drop at file) ≡ r ∷ rs → (r ≡ None → ⊥) → RecordAt file at r rs
record-ahead file at {r} {rs} e formed = go (file_lines (drop at file)) refl e
  where
    go : (ls : List Line) → file_lines (drop at file) ≡ ls → map kind_of ls ≡ r ∷ rs → RecordAt file at r rs
    go [] h f = absurd (omega (arith, ap length f))
    go (l ∷ ls) h f =
        let first : kind_of l ≡ r = cc in
        let others : map kind_of ls ≡ rs = cc in
        let at-line = line-ahead file at h (λ m. formed (sym first ∙ m)) in
        record {
          ended = at-line.ended;
          this = sym (kind_of_lem (up_to 10 (drop at file))) ∙ ap kind_of at-line.this ∙ first;
          rest = ap (map kind_of) at-line.rest ∙ others;
        }
