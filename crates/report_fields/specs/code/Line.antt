-- Lines under way.
use Rattle.std.specs.Prelude.{◌+◌, ◌≤◌, ℕ, length, List, ◌≡◌}
use Rattle.report_fields.specs.declared.Line.{Line}
use Rattle.report_format.specs.Report.{StoredWithin}

-- Whether a line has room for `n` more bytes.
abbrev pub HasRoom : Line → ℕ → Type 0
HasRoom line n = line.at + n ≤ length line.out.now

-- What a call that adds a field of at most `room` bytes to a line leaves. The slice is the same one, and as long.
pub record Added (old : Line) (room : ℕ) (bytes : List ℕ) (new : Line) : Type 0 where
  pub stored : StoredWithin old.out.now old.at room bytes new.out.now new.at
  pub long : length new.out.now ≡ length old.out.now
  pub same : new.out.ghost_name ≡ old.out.ghost_name
