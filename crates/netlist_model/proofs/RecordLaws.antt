-- Lines and their fields.
use Prim.Native.Nat.{◌+◌, ◌<◌, ◌^◌, suc, zero, ℕ}
use Rattle.netlist_model.specs.Limits.{max_name}
use Rattle.netlist_model.specs.Netlist.{fields_of}
use Rattle.netlist_model.specs.Records.{Line, constraint_line, constraint_in, constraint_of, fields_record, gate_line, gate_in, gate_of, header_line, header_in, header_of, kind_of, laid_out, letter_or_digit?, letters_or_digits?, line_with, name_line, name?, name_in, operation_bytes, operation_of, output_line, output_in, output_of}
use Rattle.netlist_model.specs.declared.Operation.TheVariants.{And, Or, Xor}
use Rattle.netlist_model.specs.declared.Operation.{Operation}
use Rattle.netlist_model.specs.declared.Record.TheVariants.{Constraint, Gate, Header, Name, Output}
use Rattle.netlist_model.specs.declared.Record.{Record}
use Rattle.text.proofs.BytesLaws.{same_iff}
use Rattle.text.proofs.NumeralLaws.{decimal-lacks, read_decimal, value-decimal}
use Rattle.text.specs.Bytes.{same_bytes}
use Rattle.text.specs.Decimal.{decimal}
use Rattle.text.specs.Numerals.{MAX_DIGITS, numeral_of}
use Rattle.text.specs.Split.{any_has, has}
use Rattle.truth.proofs.Booleans.{and_left, and_right, clash, cond_cases}
use borrow.Author.Tests.{eqb-true}
use lib.Dec.{eqb, leb}
use lib.ListN.{drop, drop_of_length-le, get_or, length}
use lib.Seq.{drop-cons}
use mathlib.Core.Bool.{Bool, ◌&&◌, false, true}
use mathlib.Core.List.{List, [], ◌∷◌}
use Rattle.std.specs.Prelude.{Option, None, Some}
use mathlib.Core.Path.{◌∙◌, ◌≡◌, ap, refl}
use native.Mathlib.Omega.{arith}

-- A line that bytes can hold: it is well formed, its numbers have numerals, and its name is one.
pub data Spelled : Line → Type 0 where
  header : {e i g o : ℕ} → e < 10 ^ MAX_DIGITS → i < 10 ^ MAX_DIGITS → g < 10 ^ MAX_DIGITS → o < 10 ^ MAX_DIGITS → Spelled (header_line e i g o)
  named : {s : List ℕ} → name? s ≡ true → Spelled (name_line s)
  gate : {op : Operation} {p q : ℕ} → p < 10 ^ MAX_DIGITS → q < 10 ^ MAX_DIGITS → Spelled (gate_line op p q)
  output : {r : ℕ} → r < 10 ^ MAX_DIGITS → Spelled (output_line r)
  constraint : {r : ℕ} → r < 10 ^ MAX_DIGITS → Spelled (constraint_line r)

-- The record of a line with some fields.
pub kind_with : (r : Option Record) (fs : List (List ℕ)) → kind_of (line_with r fs) ≡ r
kind_with (Some (Header e i g o)) fs = refl
kind_with (Some Name) fs = refl
kind_with (Some (Gate op p q)) fs = refl
kind_with (Some (Output r)) fs = refl
kind_with (Some (Constraint r)) fs = refl
kind_with None fs = refl

operation_named : (op : Operation) → operation_of (operation_bytes op) ≡ Some op
unfolding operation_of
operation_named And = refl
operation_named Or = refl
operation_named Xor = refl

-- The fields of such a line are read as that line.
pub spelled-read : {l : Line} → Spelled l → line_with (fields_record (fields_of l)) (fields_of l) ≡ l
unfolding fields_record fields_of
spelled-read (header {e = e} {i = i} {g = g} {o = o} he hi hg ho) =
    rw (read_decimal e he, read_decimal i hi, read_decimal g hg, read_decimal o ho) refl
spelled-read (named h) = rw h refl
spelled-read (gate {op = op} {p = p} {q = q} hp hq) = rw (operation_named op, read_decimal p hp, read_decimal q hq) refl
spelled-read (output {r = r} h) = rw (read_decimal r h) refl
spelled-read (constraint {r = r} h) = rw (read_decimal r h) refl

-- It has fields.
pub fields-some : {l : Line} → Spelled l → 0 < length (fields_of l)
unfolding fields_of
fields-some (header he hi hg ho) = omega arith
fields-some (named h) = omega arith
fields-some (gate hp hq) = omega arith
fields-some (output h) = omega arith
fields-some (constraint h) = omega arith

-- The two bytes that part fields and lines.
pub data Separator : ℕ → Type 0 where
  tab : Separator 9
  line_end : Separator 10

operation_lacks : {k : ℕ} → Separator k → (op : Operation) → has k (operation_bytes op) ≡ false
operation_lacks tab And = refl
operation_lacks tab Or = refl
operation_lacks tab Xor = refl
operation_lacks line_end And = refl
operation_lacks line_end Or = refl
operation_lacks line_end Xor = refl

-- A separator is no letter or digit.
separator_apart : {k : ℕ} → Separator k → (b : ℕ) → letter_or_digit? b ≡ true → eqb b k ≡ false
separator_apart {k} s b h = go s (eqb b k) refl
  where
    go : {k : ℕ} → Separator k → (t : Bool) → eqb b k ≡ t → t ≡ false
    go s false e = refl
    go tab true e = let z = rw (eqb-true b 9 e) at h in absurd (clash z refl)
    go line_end true e = let z = rw (eqb-true b 10 e) at h in absurd (clash z refl)

letters_lack : {k : ℕ} → Separator k → (s : List ℕ) → letters_or_digits? s ≡ true → has k s ≡ false
letters_lack s [] h = refl
letters_lack {k} s (b ∷ bs) h =
    rw (separator_apart s b (and_left (letter_or_digit? b) (letters_or_digits? bs) h)) (letters_lack s bs (and_right (letter_or_digit? b) (letters_or_digits? bs) h))

name-lacks : {k : ℕ} → Separator k → (s : List ℕ) → name? s ≡ true → has k s ≡ false
unfolding name?
name-lacks k s h = letters_lack k s (and_right (leb 1 (length s) && leb (length s) max_name) (letters_or_digits? s) h)

-- No field has a separator in it.
pub fields_lack : {k : ℕ} {l : Line} → Separator k → Spelled l → any_has k (fields_of l) ≡ false
unfolding fields_of
fields_lack tab (header {e = e} {i = i} {g = g} {o = o} he hi hg ho) =
    rw (decimal-lacks 9 e refl, decimal-lacks 9 i refl, decimal-lacks 9 g refl, decimal-lacks 9 o refl) refl
fields_lack line_end (header {e = e} {i = i} {g = g} {o = o} he hi hg ho) =
    rw (decimal-lacks 10 e refl, decimal-lacks 10 i refl, decimal-lacks 10 g refl, decimal-lacks 10 o refl) refl
fields_lack tab (named {s = s} h) = rw (name-lacks tab s h) refl
fields_lack line_end (named {s = s} h) = rw (name-lacks line_end s h) refl
fields_lack tab (gate {op = op} {p = p} {q = q} hp hq) = rw (operation_lacks tab op, decimal-lacks 9 p refl, decimal-lacks 9 q refl) refl
fields_lack line_end (gate {op = op} {p = p} {q = q} hp hq) =
    rw (operation_lacks line_end op, decimal-lacks 10 p refl, decimal-lacks 10 q refl) refl
fields_lack tab (output {r = r} h) = rw (decimal-lacks 9 r refl) refl
fields_lack line_end (output {r = r} h) = rw (decimal-lacks 10 r refl) refl
fields_lack tab (constraint {r = r} h) = rw (decimal-lacks 9 r refl) refl
fields_lack line_end (constraint {r = r} h) = rw (decimal-lacks 10 r refl) refl

-- Fields that are laid out have the number asked for.
pub laid_out-count : (n : ℕ) (letter : List ℕ) (fs : List (List ℕ)) → laid_out n letter fs ≡ true → length fs ≡ n
laid_out-count n letter fs h = eqb-true (length fs) n (and_left (eqb (length fs) n) (same_bytes (get_or fs 0 []) letter) h)

-- And the first is the letter.
laid_out_letter : (n : ℕ) (letter : List ℕ) (fs : List (List ℕ)) → laid_out n letter fs ≡ true → get_or fs 0 [] ≡ letter
laid_out_letter n letter fs h = (same_iff (get_or fs 0 []) letter).0 (and_right (eqb (length fs) n) (same_bytes (get_or fs 0 []) letter) h)

-- The n elements from the place k on.
elements : ℕ → ℕ → List (List ℕ) → List (List ℕ)
elements zero k fs = []
elements (suc n) k fs = get_or fs k [] ∷ elements n (suc k) fs

elements-all : (n k : ℕ) (fs : List (List ℕ)) → length fs ≡ k + n → drop k fs ≡ elements n k fs
unfolding elements
elements-all zero k fs h = drop_of_length-le fs {i = k} (omega arith)
elements-all (suc n) k fs h =
    drop-cons fs k [] (omega arith) ∙ ap (λ (l : List (List ℕ)). get_or fs k [] ∷ l) (elements-all n (suc k) fs (omega arith))

-- What holds of each number with its numeral, and of what is none, holds of each field.
numeral_cases : (s : List ℕ) (P : Option ℕ → Type 0) → ((n : ℕ) → s ≡ decimal n → n < 10 ^ MAX_DIGITS → P (Some n)) → P None → P (numeral_of s)
numeral_cases s P value none = go (numeral_of s) refl
  where
    go : (v : Option ℕ) → numeral_of s ≡ v → P v
    go (Some n) e = value n (value-decimal s n e).0 (value-decimal s n e).1
    go None e = none

-- The same of operations.
operation_cases : (s : List ℕ) (P : Option Operation → Type 0) → ((op : Operation) → s ≡ operation_bytes op → P (Some op)) → P None → P (operation_of s)
unfolding operation_of
operation_cases s P known none =
    cond_cases P (same_bytes s (operation_bytes And)) (λ h. known And ((same_iff s (operation_bytes And)).0 h))
    (λ h. cond_cases P (same_bytes s (operation_bytes Or)) (λ k. known Or ((same_iff s (operation_bytes Or)).0 k))
    (λ k. cond_cases P (same_bytes s (operation_bytes Xor)) (λ l. known Xor ((same_iff s (operation_bytes Xor)).0 l)) (λ l. none)))

-- Fields that are those of a line, which bytes can hold.
pub record Written (fs : List (List ℕ)) (l : Line) : Type 0 where
  pub fields : fs ≡ fields_of l
  pub spelled : Spelled l

module _ (fs : List (List ℕ)) where
  -- The line with a record, unless it is malformed, is that of the fields.
  Told : Option Record → Type 0
  Told r = (r ≡ None → ⊥) → Written fs (line_with r fs)

  malformed : Told None
  unfolding Told
  malformed h = absurd (h refl)

  header-told : laid_out 5 (78 ∷ []) fs ≡ true → Told (header_in fs)
  unfolding Told elements fields_of
  header-told h =
      let all : fs ≡ elements 5 0 fs = elements-all 5 0 fs (laid_out-count 5 (78 ∷ []) fs h) in
      let letter = laid_out_letter 5 (78 ∷ []) fs h in
      let f1 = numeral_of (get_or fs 1 []) in
      let f2 = numeral_of (get_or fs 2 []) in
      let f3 = numeral_of (get_or fs 3 []) in
      let f4 = numeral_of (get_or fs 4 []) in
      numeral_cases (get_or fs 1 []) (λ v. Told (header_of v f2 f3 f4))
      (λ e he le.
      numeral_cases (get_or fs 2 []) (λ v. Told (header_of (Some e) v f3 f4))
      (λ i hi li.
      numeral_cases (get_or fs 3 []) (λ v. Told (header_of (Some e) (Some i) v f4))
      (λ g hg lg.
      numeral_cases (get_or fs 4 []) (λ v. Told (header_of (Some e) (Some i) (Some g) v))
      (λ o ho lo n. record { fields = all ∙ rw (letter, he, hi, hg, ho) refl; spelled = header le li lg lo })
      malformed)
      malformed)
      malformed)
      malformed

  name-told : laid_out 2 (73 ∷ []) fs ≡ true → Told (name_in fs)
  unfolding Told elements fields_of
  name-told h =
      let all : fs ≡ elements 2 0 fs = elements-all 2 0 fs (laid_out-count 2 (73 ∷ []) fs h) in
      let letter = laid_out_letter 2 (73 ∷ []) fs h in
      cond_cases Told (name? (get_or fs 1 []))
      (λ k n. record { fields = all ∙ rw letter refl; spelled = named k }) (λ k. malformed)

  gate-told : laid_out 4 (71 ∷ []) fs ≡ true → Told (gate_in fs)
  unfolding Told elements fields_of
  gate-told h =
      let all : fs ≡ elements 4 0 fs = elements-all 4 0 fs (laid_out-count 4 (71 ∷ []) fs h) in
      let letter = laid_out_letter 4 (71 ∷ []) fs h in
      let f2 = numeral_of (get_or fs 2 []) in
      let f3 = numeral_of (get_or fs 3 []) in
      operation_cases (get_or fs 1 []) (λ v. Told (gate_of v f2 f3))
      (λ op hop.
      numeral_cases (get_or fs 2 []) (λ v. Told (gate_of (Some op) v f3))
      (λ p hp lp.
      numeral_cases (get_or fs 3 []) (λ v. Told (gate_of (Some op) (Some p) v))
      (λ q hq lq n. record { fields = all ∙ rw (letter, hop, hp, hq) refl; spelled = gate lp lq })
      malformed)
      malformed)
      malformed

  output-told : laid_out 2 (79 ∷ []) fs ≡ true → Told (output_in fs)
  unfolding Told elements fields_of
  output-told h =
      let all : fs ≡ elements 2 0 fs = elements-all 2 0 fs (laid_out-count 2 (79 ∷ []) fs h) in
      let letter = laid_out_letter 2 (79 ∷ []) fs h in
      numeral_cases (get_or fs 1 []) (λ v. Told (output_of v))
      (λ r hr lr n. record { fields = all ∙ rw (letter, hr) refl; spelled = output lr })
      malformed

  constraint-told : laid_out 2 (67 ∷ []) fs ≡ true → Told (constraint_in fs)
  unfolding Told elements fields_of
  constraint-told h =
      let all : fs ≡ elements 2 0 fs = elements-all 2 0 fs (laid_out-count 2 (67 ∷ []) fs h) in
      let letter = laid_out_letter 2 (67 ∷ []) fs h in
      numeral_cases (get_or fs 1 []) (λ v. Told (constraint_of v))
      (λ r hr lr n. record { fields = all ∙ rw (letter, hr) refl; spelled = constraint lr })
      malformed

  -- Whatever is read as a record is the fields of its line.
  pub read-written : (fields_record fs ≡ None → ⊥) → Written fs (line_with (fields_record fs) fs)
  unfolding Told fields_record
  read-written =
      cond_cases Told (laid_out 5 (78 ∷ []) fs) header-told
      (λ h. cond_cases Told (laid_out 2 (73 ∷ []) fs) name-told
      (λ i. cond_cases Told (laid_out 4 (71 ∷ []) fs) gate-told
      (λ k. cond_cases Told (laid_out 2 (79 ∷ []) fs) output-told
      (λ l. cond_cases Told (laid_out 2 (67 ∷ []) fs) constraint-told (λ m. malformed)))))
