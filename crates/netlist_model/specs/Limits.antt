-- The editions, and the limits of a file. (RULES 1.1, 2.1)
use Rattle.std.specs.Prelude.{ℕ, eqb, cond, Result, MatchResult, ◌≡◌, ◌≢◌}
use Rattle.netlist_model.specs.declared.edition.Edition.TheVariants.{ByName, ByPlace}
use Rattle.netlist_model.specs.declared.edition.Edition.{Edition}
use Rattle.netlist_model.specs.declared.edition.UnknownEdition.{UnknownEdition}

-- "Edition 1 is still read, by place" (RULES 1.1)
abbrev pub by_place_edition : ℕ
by_place_edition = 1

-- "Edition 2 files have, after line 1, a line `I⇥name` for each input" (RULES 1.1)
abbrev pub by_name_edition : ℕ
by_name_edition = 2

-- The number of an edition. (RULES 1.1)
abbrev pub number_of_edition : Edition → ℕ
number_of_edition ByPlace = by_place_edition
number_of_edition ByName = by_name_edition

-- The edition with a number; by place for any number other than 2: "3 now means an edition other than 1 or 2" is tested before.
-- (RULES 1.1, 8.1)
abbrev pub edition_of : ℕ → Edition
edition_of e = cond (eqb e by_name_edition) ByName ByPlace

-- What a number is read as: the edition whose number it is, or none where it is neither's. (RULES 1.1)
abbrev pub EditionRead : ℕ → Result Edition UnknownEdition → Type 0
EditionRead n r =
    MatchResult r (λ e. number_of_edition e ≡ n) (λ x. (x.0 ≡ n) × (n ≢ by_place_edition) × (n ≢ by_name_edition))

-- "file 65,536 bytes" (RULES 2.1)
abbrev pub max_bytes : ℕ
max_bytes = 65536

-- "0 to 4,096 gates a file" (RULES 2.1)
abbrev pub max_gates : ℕ
max_gates = 4096

-- "the name 1 to 16 ASCII letters or digits" (RULES 1.12)
abbrev pub max_name : ℕ
max_name = 16
