-- What an iterator over the places where lines start gives.
use Rattle.std.specs.Prelude.{◌+◌, ◌-◌, ◌<◌, ◌≤◌, ℕ, drop, length, ◌≡◌, Option, MatchOption}
use Rattle.netlist_records.specs.declared.lines.Starts.{Starts}
use Rattle.text.specs.Split.{up_to}

-- While bytes are left, the place of a line, and it goes on after the end byte; at the end none. "each line ended by byte 10" (RULES 1.1)
abbrev pub GivesStart : Starts → Option ℕ → Starts → Type 0
GivesStart s r t =
    (t.file.now ≡ s.file.now)
    × MatchOption r (length s.file.now ≤ s.at)
    (λ at. (at ≡ s.at) × (at < length s.file.now) × (t.at ≡ at + length (up_to 10 (drop at s.file.now)) + 1))

-- The bytes that are left.
abbrev pub bytes_left : Starts → ℕ
bytes_left s = length s.file.now - s.at
