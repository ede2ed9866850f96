-- What the parts and the numbers of a file of cards are.
use Rattle.std.specs.Prelude.{◌-◌, ◌^◌, min, ℕ, get_or, List, []}
use Rattle.text.specs.Numerals.{value_from}
use Rattle.text.specs.Split.{split_at}

-- Part k between the bytes `stop`, or nothing where there are fewer.
abbrev pub part_of : ℕ → List ℕ → ℕ → List ℕ
part_of stop s k = get_or (split_at stop s) k []

-- The highest number of 32 bits.
abbrev pub HIGHEST : ℕ
HIGHEST = 2 ^ 32 - 1

-- The number that digits stand for, or the highest of 32 bits where it is higher.
unfoldable pub value_of : List ℕ → ℕ
value_of digits = min (value_from 0 digits) HIGHEST
