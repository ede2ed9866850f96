-- What a call on a store leaves of the slice that it stands in.
use Rattle.std.specs.Prelude.{length, ◌≡◌}
use Rattle.bdd.specs.declared.store.RowStore.{RowStore}

-- The store t stands in the slice of s, which is as long, under the same limit.
abbrev pub SameSlice : RowStore → RowStore → Type 0
SameSlice s t = (t.rows.ghost_name ≡ s.rows.ghost_name) × (t.limit ≡ s.limit) × (length t.rows.now ≡ length s.rows.now)
