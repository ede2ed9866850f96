-- Fields added to a line one after the other.
use Prim.Native.Nat.{◌+◌, ◌≤◌, ℕ}
use Rattle.report_fields.specs.code.Line.{Added, HasRoom}
use Rattle.report_fields.specs.declared.Line.{Line}
use Rattle.report_format.proofs.StoredLaws.{stored_next}
use Rattle.report_format.specs.Report.{StoredWithin, setting_field}
use Rattle.text.proofs.DecimalLaws.{stored_length}
use lib.ListN.{length}
use mathlib.Core.List.{List, [], ◌++◌, ◌∷◌}
use mathlib.Core.Path.{◌∙◌, ◌≡◌}
use native.Mathlib.Omega.{arith}

-- Bytes stored where a line has room for them are added to it.
pub added_stored :
    {old new : Line} {bytes : List ℕ} {room : ℕ} → HasRoom old room → StoredWithin old.out.now old.at room bytes new.out.now new.at
    → new.out.ghost_name ≡ old.out.ghost_name → Added old room bytes new
added_stored room within same = record { stored = within; long = stored_length (omega (arith, room, within.short)) within.stored; same = same }

-- A field is added, and another after it.
pub added_next :
    {old mid new : Line} {a b : List ℕ} {r q : ℕ} → HasRoom old (r + q) → Added old r a mid → Added mid q b new → Added old (r + q) (a ++ b) new
added_next {q = q} room first second =
    record { stored = stored_next q room first.stored (λ h. second.stored); long = second.long ∙ first.long; same = second.same ∙ first.same }

-- A field is within any greater room.
pub added_within : {old new : Line} {a : List ℕ} {r q : ℕ} → r ≤ q → Added old r a new → Added old q a new
added_within h added = record { stored = record { stored = added.stored.stored; short = omega (arith, added.stored.short) }; long = added.long; same = added.same }

-- The field of a setting has a byte at least, and no more than the setting has.
pub setting_short : (s : List ℕ) → length (setting_field s) ≤ length s + 1
setting_short [] = omega arith
setting_short (b ∷ bs) = omega arith
