-- The number that a word is cast to.
use Rattle.bdd.specs.code.Words.{place}
use Rattle.bdd.specs.contracts.rows.Word.{the_type}
use Rattle.bdd.specs.declared.rows.Word.TheVariants.{Head, High, Low, Next}
use Rattle.bdd.specs.declared.rows.Word.{Word}
use denote.Enum.Declared.{tag_of}
use mathlib.Core.Path.{◌≡◌, refl}

pub cast_place : (w : Word) → tag_of the_type w ≡ place w
cast_place Low = refl
cast_place High = refl
cast_place Next = refl
cast_place Head = refl
