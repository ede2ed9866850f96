-- The lines of names from a place on.
use Rattle.std.specs.Prelude.{suc, ℕ, drop, take, List, [], ◌∷◌}
use Rattle.netlist_model.specs.Check.{names_in}
use Rattle.netlist_model.specs.Records.{Line, file_lines, name_line}

-- How many lines of names some lines begin with.
abbrev pub leading_names : List Line → ℕ
leading_names [] = 0
leading_names (name_line name ∷ ls) = suc (leading_names ls)
leading_names (_ ∷ ls) = 0

-- How many a file has from a place on.
unfoldable pub names_ahead : List ℕ → ℕ → ℕ
names_ahead file at = leading_names (file_lines (drop at file))

-- The first of these names.
unfoldable pub names_from : List ℕ → ℕ → ℕ → List (List ℕ)
names_from file at count = take count (names_in (file_lines (drop at file)))
