-- Owners of rows.
use Rattle.std.specs.Prelude.{◌*◌, ◌+◌, ℕ, List}
use Rattle.bdd.specs.code.Rows.{RADIX, high_at, put}

-- Row i has the owner x, and nothing else is changed.
unfoldable pub with_owner : List ℕ → ℕ → ℕ → List ℕ
with_owner rows i x = put rows 1 i (high_at rows i * RADIX + x)
