-- Bytes cut into parts at a separator.
use Rattle.std.specs.List.{join_with_byte, list_any, slice_split}
use Rattle.std.specs.Prelude.{ℕ, eqb, Bool, cond, List, [], ◌∷◌}

-- The bytes before the first `stop`, all of them where there is none.
abbrev pub up_to : ℕ → List ℕ → List ℕ
up_to stop [] = []
up_to stop (b ∷ bs) = cond (eqb b stop) [] (b ∷ up_to stop bs)

-- "fields parted by one tab (byte 9), each line ended by byte 10": the parts between the bytes `stop`, one more than there are of these. (RULES 1.1)
abbrev pub split_at : ℕ → List ℕ → List (List ℕ)
split_at stop bs = slice_split (λ b. eqb b stop) bs

-- The parts one after the other, a byte `stop` between each two.
abbrev pub join : ℕ → List (List ℕ) → List ℕ
join stop ps = join_with_byte stop ps

-- Whether the byte `stop` is among some bytes.
abbrev pub has : ℕ → List ℕ → Bool
has stop bs = list_any (λ b. eqb b stop) bs

-- Whether the byte `stop` is in any of some parts.
abbrev pub any_has : ℕ → List (List ℕ) → Bool
any_has stop ps = list_any (λ p. has stop p) ps
