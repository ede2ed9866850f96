-- What an end's references have to be.
use Rattle.std.specs.Prelude.{ℕ, List}
use Rattle.bdd.specs.code.Walks.{Walks}
use Rattle.sweep_state.specs.declared.end.End.TheVariants.{Differ, Equal, Inverse, Undecided}
use Rattle.sweep_state.specs.declared.end.End.{End}

-- They can be followed down to the constants.
abbrev pub Followed : List ℕ → ℕ → End → Type 0
Followed rows inputs Equal = Unit {0}
Followed rows inputs Inverse = Unit {0}
Followed rows inputs (Differ f g) = Walks rows inputs f × Walks rows inputs g
Followed rows inputs (Undecided c) = Unit {0}
