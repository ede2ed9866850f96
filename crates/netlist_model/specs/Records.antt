-- Lines and their records.
use Rattle.std.specs.Prelude.{ℕ, eqb, leb, get_or, length, Bool, ◌&&◌, ◌||◌, cond, List, [], ◌∷◌, map, Option, None, Some}
use Rattle.std.specs.List.{list_all}
use Rattle.netlist_model.specs.Limits.{max_name}
use Rattle.netlist_model.specs.declared.Operation.TheVariants.{And, Or, Xor}
use Rattle.netlist_model.specs.declared.Operation.{Operation}
use Rattle.netlist_model.specs.declared.Record.TheVariants.{Constraint, Gate, Header, Name, Output}
use Rattle.netlist_model.specs.declared.Record.{Record}
use Rattle.text.specs.Bytes.{same_bytes}
use Rattle.text.specs.Numerals.{numeral_of}
use Rattle.text.specs.Split.{split_at}

-- "where op is exactly the bytes `and`, `or` or `xor`" (RULES 1.4)
abbrev pub operation_bytes : Operation → List ℕ
operation_bytes And = 97 ∷ 110 ∷ 100 ∷ []
operation_bytes Or = 111 ∷ 114 ∷ []
operation_bytes Xor = 120 ∷ 111 ∷ 114 ∷ []

-- The operation that a field names, if it names one.
unfoldable pub operation_of : List ℕ → Option Operation
operation_of s =
    cond (same_bytes s (operation_bytes And)) (Some And)
    (cond (same_bytes s (operation_bytes Or)) (Some Or)
    (cond (same_bytes s (operation_bytes Xor)) (Some Xor) None))

-- "Line 1: `N⇥edition⇥inputs⇥gates⇥outputs`." (RULES 1.3)
abbrev pub header_of : Option ℕ → Option ℕ → Option ℕ → Option ℕ → Option Record
header_of (Some e) (Some i) (Some g) (Some o) = Some (Header e i g o)
header_of (Some e) (Some i) (Some g) None = None
header_of (Some e) (Some i) None o = None
header_of (Some e) None g o = None
header_of None i g o = None

-- "each `0`-`9`, `A`-`Z` or `a`-`z`" (RULES 1.12)
abbrev pub letter_or_digit? : ℕ → Bool
letter_or_digit? b = (leb 48 b && leb b 57) || (leb 65 b && leb b 90) || (leb 97 b && leb b 122)

abbrev pub letters_or_digits? : List ℕ → Bool
letters_or_digits? s = list_all letter_or_digit? s

-- "the name 1 to 16 ASCII letters or digits": whether a field is a name. (RULES 1.12)
unfoldable pub name? : List ℕ → Bool
name? s = leb 1 (length s) && leb (length s) max_name && letters_or_digits? s

-- "a line `I⇥name` for each input" (RULES 1.12)
abbrev pub name_of : Bool → Option Record
name_of b = cond b (Some Name) None

-- "Then one line a gate: `G⇥op⇥p⇥q`" (RULES 1.4)
abbrev pub gate_of : Option Operation → Option ℕ → Option ℕ → Option Record
gate_of (Some op) (Some p) (Some q) = Some (Gate op p q)
gate_of (Some op) (Some p) None = None
gate_of (Some op) None q = None
gate_of None p q = None

-- "Then one line an output: `O⇥r`" (RULES 1.5)
abbrev pub output_of : Option ℕ → Option Record
output_of (Some r) = Some (Output r)
output_of None = None

-- "A first file may end with one line `C⇥r`" (RULES 1.13)
abbrev pub constraint_of : Option ℕ → Option Record
constraint_of (Some r) = Some (Constraint r)
constraint_of None = None

-- Whether there are n fields and the first is a letter.
abbrev pub laid_out : ℕ → List ℕ → List (List ℕ) → Bool
laid_out n letter fs = eqb (length fs) n && same_bytes (get_or fs 0 []) letter

-- The record that the fields after the letter give, for each letter.
abbrev pub header_in : List (List ℕ) → Option Record
header_in fs = header_of (numeral_of (get_or fs 1 [])) (numeral_of (get_or fs 2 [])) (numeral_of (get_or fs 3 [])) (numeral_of (get_or fs 4 []))

abbrev pub name_in : List (List ℕ) → Option Record
name_in fs = name_of (name? (get_or fs 1 []))

abbrev pub gate_in : List (List ℕ) → Option Record
gate_in fs = gate_of (operation_of (get_or fs 1 [])) (numeral_of (get_or fs 2 [])) (numeral_of (get_or fs 3 []))

abbrev pub output_in : List (List ℕ) → Option Record
output_in fs = output_of (numeral_of (get_or fs 1 []))

abbrev pub constraint_in : List (List ℕ) → Option Record
constraint_in fs = constraint_of (numeral_of (get_or fs 1 []))

-- "an N, I, G, O or C record of this layout": the record of a line's fields, if they are one's. (RULES 8.1)
unfoldable pub fields_record : List (List ℕ) → Option Record
fields_record fs =
    cond (laid_out 5 (78 ∷ []) fs) (header_in fs)
    (cond (laid_out 2 (73 ∷ []) fs) (name_in fs)
    (cond (laid_out 4 (71 ∷ []) fs) (gate_in fs)
    (cond (laid_out 2 (79 ∷ []) fs) (output_in fs)
    (cond (laid_out 2 (67 ∷ []) fs) (constraint_in fs) None))))

-- "fields parted by one tab (byte 9)": the record of a line without its end byte. (RULES 1.1)
unfoldable pub record_of : List ℕ → Option Record
record_of line = fields_record (split_at 9 line)

-- A line: its record, and in an I record its name too.
pub data Line : Type 0 where
  header_line : ℕ → ℕ → ℕ → ℕ → Line
  name_line : List ℕ → Line
  gate_line : Operation → ℕ → ℕ → Line
  output_line : ℕ → Line
  constraint_line : ℕ → Line
  malformed_line : Line

-- Its record; a malformed one has none.
abbrev pub kind_of : Line → Option Record
kind_of (header_line e i g o) = Some (Header e i g o)
kind_of (name_line name) = Some Name
kind_of (gate_line op p q) = Some (Gate op p q)
kind_of (output_line r) = Some (Output r)
kind_of (constraint_line r) = Some (Constraint r)
kind_of malformed_line = None

-- The line with a record and its fields.
abbrev pub line_with : Option Record → List (List ℕ) → Line
line_with (Some (Header e i g o)) fs = header_line e i g o
line_with (Some Name) fs = name_line (get_or fs 1 [])
line_with (Some (Gate op p q)) fs = gate_line op p q
line_with (Some (Output r)) fs = output_line r
line_with (Some (Constraint r)) fs = constraint_line r
line_with None fs = malformed_line

-- A line without its end byte.
unfoldable pub line_of : List ℕ → Line
line_of line = line_with (record_of line) (split_at 9 line)

-- "or has no end byte": what stands after the last byte 10 is such a line, if it is not empty. (RULES 8.1)
unfoldable pub unended : List ℕ → List Line
unended [] = []
unended (b ∷ bs) = malformed_line ∷ []

-- "each line ended by byte 10": the lines of the parts that the end bytes cut a file into. (RULES 1.1)
unfoldable pub part_lines : List (List ℕ) → List Line
part_lines [] = []
part_lines (line ∷ []) = unended line
part_lines (line ∷ (next ∷ lines)) = line_of line ∷ part_lines (next ∷ lines)

-- The lines of a file.
unfoldable pub file_lines : List ℕ → List Line
file_lines bytes = part_lines (split_at 10 bytes)

-- The records of lines.
abbrev pub records_in : List Line → List (Option Record)
records_in ls = map kind_of ls
