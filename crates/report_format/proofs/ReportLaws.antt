-- What a reader finds in the lines.
use Prim.Native.Nat.{ℕ}
use Rattle.report_format.specs.Report.{line_of, refused_fields, refused_line, reply_fields, reply_line, setting_field, vertex_field, word_bytes}
use Rattle.std.specs.Prelude.{None, Some}
use Rattle.std.specs.Prelude.{Option}
use Rattle.report_format.specs.declared.Word.TheVariants.{Different, Equal, Rows, Size, Steps}
use Rattle.report_format.specs.declared.Word.{Word}
use Rattle.text.proofs.NumeralLaws.{decimal-lacks, digits_lack}
use Rattle.text.proofs.SplitLaws.{lacks-join, split_at_append, split_at-first, split_at-join}
use Rattle.text.specs.Decimal.{decimal}
use Rattle.text.specs.Numerals.{all_digits, is_digit}
use Rattle.text.specs.Split.{any_has, has, join, split_at, up_to}
use lib.Dec.{eqb}
use lib.ListN.{get_or}
use mathlib.Core.Bool.{false, true}
use mathlib.Core.List.{List, [], ◌++◌, ◌∷◌, append_assoc}
use mathlib.Core.Path.{◌∙◌, ◌≡◌, ap, refl, sym}
use native.Mathlib.Omega.{arith}

-- A line has one byte 10, its last, and the bytes before it are its fields with tabs between them.
pub record Reads (line : List ℕ) (fields : List (List ℕ)) : Type 0 where
  pub one_end : split_at 10 line ≡ up_to 10 line ∷ [] ∷ []
  pub parts : split_at 9 (up_to 10 line) ≡ fields

-- So it is where no field has a tab or an end byte.
line_reads : (f : List ℕ) (fs : List (List ℕ)) → any_has 9 (f ∷ fs) ≡ false → any_has 10 (f ∷ fs) ≡ false → Reads (line_of (f ∷ fs)) (f ∷ fs)
line_reads f fs tab end =
    let body = join 9 (f ∷ fs) in
    let s : split_at 10 (body ++ 10 ∷ []) ≡ body ∷ [] ∷ [] = split_at_append 10 body [] (lacks-join 10 9 (f ∷ fs) (λ e. omega arith) end) in
    let u : up_to 10 (body ++ 10 ∷ []) ≡ body = sym (split_at-first 10 (body ++ 10 ∷ [])) ∙ ap (λ (l : List (List ℕ)). get_or l 0 []) s in
    record { one_end = rw u s; parts = rw u (split_at-join 9 f fs tab) }

-- A byte that is no digit, no `-` and in no word is in no field.
module _ (k : ℕ) (digit : is_digit k ≡ false) (dash : eqb 45 k ≡ false) (words : (w : Word) → has k (word_bytes w) ≡ false) where
  setting-lacks : (s : List ℕ) → all_digits s ≡ true → has k (setting_field s) ≡ false
  setting-lacks [] h = rw dash refl
  setting-lacks (b ∷ bs) h = digits_lack k (b ∷ bs) digit h

  vertex-lacks : (v : Option ℕ) → has k (vertex_field v) ≡ false
  vertex-lacks None = rw dash refl
  vertex-lacks (Some n) = decimal-lacks k n digit

  fields_lack : (edition output : ℕ) (word : Word) (setting : List ℕ) (vertex : Option ℕ) (rows steps : ℕ) → all_digits setting ≡ true → any_has k (reply_fields edition output word setting vertex rows steps) ≡ false
  fields_lack edition output word setting vertex rows steps h =
      rw (decimal-lacks k edition digit, decimal-lacks k output digit, words word, setting-lacks setting h, vertex-lacks vertex, decimal-lacks k rows digit, decimal-lacks k steps digit) refl

-- No word has a tab or an end byte.
words_lack : (w : Word) → (has 9 (word_bytes w) ≡ false) × (has 10 (word_bytes w) ≡ false)
words_lack Equal = (refl, refl)
words_lack Different = (refl, refl)
words_lack Size = (refl, refl)
words_lack Rows = (refl, refl)
words_lack Steps = (refl, refl)

-- The line of a reply.
module _ (edition output : ℕ) (word : Word) (setting : List ℕ) (vertex : Option ℕ) (rows steps : ℕ) where
  -- Every reply line opens with the edition.
  pub reply-opens : get_or (split_at 9 (reply_line edition output word setting vertex rows steps)) 0 [] ≡ decimal edition
  unfolding reply_line
  reply-opens = rw (append_assoc, split_at_append 9 (decimal edition) _ (decimal-lacks 9 edition refl)) refl

  -- A reply line whose setting is digits is read as its seven fields.
  pub reply-reads : all_digits setting ≡ true → Reads (reply_line edition output word setting vertex rows steps) (reply_fields edition output word setting vertex rows steps)
  unfolding reply_line
  reply-reads h =
      line_reads (decimal edition) _ (fields_lack 9 refl refl (λ w. (words_lack w).0) edition output word setting vertex rows steps h)
      (fields_lack 10 refl refl (λ w. (words_lack w).1) edition output word setting vertex rows steps h)

-- The line of a refused load is read as its four fields.
pub refused-reads : (number file line : ℕ) → Reads (refused_line number file line) (refused_fields number file line)
unfolding refused_line
refused-reads number file line = line_reads _ _ (lacks 9 refl refl) (lacks 10 refl refl)
  where
    lacks : (k : ℕ) → is_digit k ≡ false → has k (114 ∷ 101 ∷ 102 ∷ 117 ∷ 115 ∷ 101 ∷ 100 ∷ []) ≡ false → any_has k (refused_fields number file line) ≡ false
    lacks k d r = rw (r, decimal-lacks k number d, decimal-lacks k file d, decimal-lacks k line d) refl
