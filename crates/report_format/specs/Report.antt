-- The lines that the program prints, as bytes.
use Rattle.std.specs.Prelude.{◌≤◌, ℕ, ltb, drop, length, take, cond, List, [], ◌++◌, ◌∷◌, ◌≡◌, Option, Some, None}
use Rattle.report_format.specs.declared.Word.TheVariants.{Different, Equal, Rows, Size, Steps}
use Rattle.report_format.specs.declared.Word.{Word}
use Rattle.text.specs.Decimal.{Stored, decimal}
use Rattle.text.specs.Split.{join}

-- "`rules⇥output⇥reply⇥setting⇥vertex⇥rows⇥steps`": fields as a line, a tab (byte 9) between each two and byte 10 at its end. (RULES 11.3)
abbrev pub line_of : List (List ℕ) → List ℕ
line_of fields = join 9 fields ++ 10 ∷ []

-- "prints a head line": `rules`, `output`, `reply`, `setting`, `vertex`, `rows`, `steps`. (RULES 11.3)
unfoldable pub head_line : List ℕ
head_line =
    line_of
    ((114 ∷ 117 ∷ 108 ∷ 101 ∷ 115 ∷ [])
    ∷ (111 ∷ 117 ∷ 116 ∷ 112 ∷ 117 ∷ 116 ∷ [])
    ∷ (114 ∷ 101 ∷ 112 ∷ 108 ∷ 121 ∷ [])
    ∷ (115 ∷ 101 ∷ 116 ∷ 116 ∷ 105 ∷ 110 ∷ 103 ∷ [])
    ∷ (118 ∷ 101 ∷ 114 ∷ 116 ∷ 101 ∷ 120 ∷ [])
    ∷ (114 ∷ 111 ∷ 119 ∷ 115 ∷ [])
    ∷ (115 ∷ 116 ∷ 101 ∷ 112 ∷ 115 ∷ [])
    ∷ [])

-- "reply word (equal, different, size, rows, steps)" (RULES 11.4)
abbrev pub word_bytes : Word → List ℕ
word_bytes Equal = 101 ∷ 113 ∷ 117 ∷ 97 ∷ 108 ∷ []
word_bytes Different = 100 ∷ 105 ∷ 102 ∷ 102 ∷ 101 ∷ 114 ∷ 101 ∷ 110 ∷ 116 ∷ []
word_bytes Size = 115 ∷ 105 ∷ 122 ∷ 101 ∷ []
word_bytes Rows = 114 ∷ 111 ∷ 119 ∷ 115 ∷ []
word_bytes Steps = 115 ∷ 116 ∷ 101 ∷ 112 ∷ 115 ∷ []

-- "`-` stands for no setting, an empty setting": a setting's bytes as a field. No setting is an empty one. (RULES 11.5)
abbrev pub setting_field : List ℕ → List ℕ
setting_field [] = 45 ∷ []
setting_field (b ∷ bs) = b ∷ bs

-- "`-` stands for .. no vertex": a vertex number as a field. (RULES 11.5)
abbrev pub vertex_field : Option ℕ → List ℕ
vertex_field None = 45 ∷ []
vertex_field (Some n) = decimal n

-- "The fields are: edition, output number, reply word .., setting, vertex named by Rows or Steps, rows, steps." (RULES 11.4)
abbrev pub reply_fields : ℕ → ℕ → Word → List ℕ → Option ℕ → ℕ → ℕ → List (List ℕ)
reply_fields edition output word setting vertex rows steps =
    decimal edition ∷ decimal output ∷ word_bytes word ∷ setting_field setting ∷ vertex_field vertex ∷ decimal rows ∷ decimal steps ∷ []

-- "then a line each": the line of a reply. (RULES 11.3)
unfoldable pub reply_line : ℕ → ℕ → Word → List ℕ → Option ℕ → ℕ → ℕ → List ℕ
reply_line edition output word setting vertex rows steps = line_of (reply_fields edition output word setting vertex rows steps)

-- "A refused load prints only `refused⇥number⇥file⇥line`." (RULES 11.6)
abbrev pub refused_fields : ℕ → ℕ → ℕ → List (List ℕ)
refused_fields number file line = (114 ∷ 101 ∷ 102 ∷ 117 ∷ 115 ∷ 101 ∷ 100 ∷ []) ∷ decimal number ∷ decimal file ∷ decimal line ∷ []

-- The line of a refused load. (RULES 11.6)
unfoldable pub refused_line : ℕ → ℕ → ℕ → List ℕ
refused_line number file line = line_of (refused_fields number file line)

-- The most digits of a number of 32 bits.
abbrev pub NUMBER_DIGITS : ℕ
NUMBER_DIGITS = 10

-- The most letters of a word.
abbrev pub WORD_LETTERS : ℕ
WORD_LETTERS = 9

-- The most bytes of a line beside those of its setting: 5 numbers of 10 digits, a word of 9 bytes, a `-`, 6 tabs and the end byte.
abbrev pub LINE_ROOM : ℕ
LINE_ROOM = 67

-- What a call that stores a field leaves, and that the field is of at most `room` bytes.
pub record StoredWithin (old : List ℕ) (at room : ℕ) (bytes new : List ℕ) (next : ℕ) : Type 0 where
  pub stored : Stored old at bytes new next
  pub short : length bytes ≤ room

-- A slice with a line at its front. A slice of fewer than `room` bytes is left as it is.
unfoldable pub line_put : ℕ → List ℕ → List ℕ → List ℕ
line_put room line old = cond (ltb (length old) room) old (line ++ drop (length line) old)

-- The number of bytes that the line takes there, 0 where it is not put.
unfoldable pub line_length : ℕ → List ℕ → List ℕ → ℕ
line_length room line old = cond (ltb (length old) room) 0 (length line)

-- What a call that puts a line into a slice leaves, and the length that it gives back. The length is within the slice, said in both ways that a caller who takes the line from it needs.
pub record Printed (room : ℕ) (line old new : List ℕ) (given : ℕ) : Type 0 where
  pub list : new ≡ line_put room line old
  pub count : given ≡ line_length room line old
  pub within : given ≤ length new
  pub front : given ≡ length (take given new)
