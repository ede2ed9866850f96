-- Parts of functions. A part is the function of a row of a reduced decision diagram. (RULES 6.7)
use Rattle.std.specs.Prelude.{ℕ, length, Bool, ◌||◌, cond, false, not, List, [], ◌++◌, ◌∷◌}
use Rattle.truth.specs.Distinct.{distinct, filter}
use Rattle.truth.specs.Truth.{Truth, invert, leaf, node, same?, value_at}

-- "Fix inputs 1 to k-1 of a function to some values.": what is left, for every k and all values (the cofactors). (RULES 5.2)
unfoldable pub cofactors : Truth → List Truth
cofactors (leaf b) = leaf b ∷ []
cofactors (node f g) = node f g ∷ (cofactors f ++ cofactors g)

-- "if it depends on input k": whether a function depends on the next input. (RULES 5.2)
unfoldable pub depends? : Truth → Bool
depends? (leaf b) = false
depends? (node f g) = not (same? f g)

-- "What is left is a part at k if it depends on input k." (RULES 5.2)
unfoldable pub parts : Truth → List Truth
parts f = filter depends? (cofactors f)

-- "Two parts at the same k are the same if they are equal or inverse to each other." (At different k they have different depths.) (RULES 5.3)
unfoldable pub alike? : Truth → Truth → Bool
alike? f g = same? f g || same? f (invert g)

-- "one row serving a function and its inverse": of the two, the one that is false on the all-zero setting. (RULES 6.7)
unfoldable pub plain : Truth → Truth
plain f = cond (value_at f []) (invert f) f

-- "The size of a function is the number of its distinct parts." (RULES 5.4)
unfoldable pub size : Truth → ℕ
size f = length (distinct alike? (parts f))

-- The parts of each of some functions.
unfoldable pub all_parts : List Truth → List Truth
all_parts [] = []
all_parts (f ∷ fs) = parts f ++ all_parts fs

-- "Functions together count a shared part once." (RULES 5.5)
unfoldable pub together : List Truth → ℕ
together fs = length (distinct alike? (all_parts fs))
