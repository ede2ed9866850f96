-- Names of inputs: what a name is, and its place among others.
use Rattle.std.specs.Prelude.{◌≤◌, ◌<◌, suc, ℕ, eqb, ltb, get_or, length, Bool, cond, List, [], ◌++◌, ◌∷◌, Option, None, Some}
use Rattle.netlist_model.specs.Limits.{by_name_edition}
use Rattle.text.specs.Bytes.{same_bytes}

-- "a line `I⇥name` for each input", "which edition 1 never has due": how many such lines are due. (RULES 1.12)
unfoldable pub name_count : ℕ → ℕ → ℕ
name_count edition inputs = cond (eqb edition by_name_edition) inputs 0

-- The place of a name among names; their number where it is not there. (RULES 1.11)
unfoldable pub place_of : List ℕ → List (List ℕ) → ℕ
place_of name [] = 0
place_of name (x ∷ xs) = cond (same_bytes name x) 0 (suc (place_of name xs))

-- Whether a name is among names.
abbrev pub among? : List ℕ → List (List ℕ) → Bool
among? name names = ltb (place_of name names) (length names)

-- "19 a name that the first file lacks": the place of the first of the others that is not among names; their number where all are. (RULES 8.1)
unfoldable pub first_lacked : List (List ℕ) → List (List ℕ) → ℕ
first_lacked names [] = 0
first_lacked names (x ∷ others) = cond (among? x names) (suc (first_lacked names others)) 0

-- A place, where it is one of so many: where it is their number, nothing is there. (RULES 1.11, 8.1)
abbrev pub place_in : ℕ → ℕ → Option ℕ
place_in n k = cond (ltb k n) (Some k) None

-- The place of a name among names, where it is there. (RULES 1.11)
abbrev pub found : List ℕ → List (List ℕ) → Option ℕ
found name names = place_in (length names) (place_of name names)

-- "19 a name that the first file lacks": the place of the first of the others that is not among names, where there is one. (RULES 8.1)
abbrev pub lacked : List (List ℕ) → List (List ℕ) → Option ℕ
lacked names others = place_in (length others) (first_lacked names others)

-- It is among them.
pub data Among (name : List ℕ) : List (List ℕ) → Type 0 where
  here : {names : List (List ℕ)} → Among name (name ∷ names)
  there : {other : List ℕ} {names : List (List ℕ)} → Among name names → Among name (other ∷ names)

-- "ASCII letters or digits": a byte `0`-`9`, `A`-`Z` or `a`-`z`. (RULES 1.12)
pub data LetterOrDigit (b : ℕ) : Type 0 where
  digit : 48 ≤ b → b ≤ 57 → LetterOrDigit b
  capital : 65 ≤ b → b ≤ 90 → LetterOrDigit b
  small : 97 ≤ b → b ≤ 122 → LetterOrDigit b

-- "the name 1 to 16 ASCII letters or digits" (RULES 1.12)
pub record IsName (s : List ℕ) : Type 0 where
  pub some : 1 ≤ length s
  pub few : length s ≤ 16
  pub bytes : (i : ℕ) → i < length s → LetterOrDigit (get_or s i 0)

-- Names one after the other, each of them new: after those seen, none stands twice. (RULES 1.12)
pub data NewNames : List (List ℕ) → List (List ℕ) → Type 0 where
  none : {seen : List (List ℕ)} → NewNames seen []
  next : {seen : List (List ℕ)} {name : List ℕ} {names : List (List ℕ)}
      → IsName name → (Among name seen → ⊥) → NewNames (seen ++ name ∷ []) names → NewNames seen (name ∷ names)
