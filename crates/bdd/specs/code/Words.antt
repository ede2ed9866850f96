-- The words of a row, by their places.
use Rattle.std.specs.Prelude.{ℕ}
use Rattle.bdd.specs.declared.rows.Word.TheVariants.{Head, High, Low, Next}
use Rattle.bdd.specs.declared.rows.Word.{Word}

-- The place of a word in its row, as `word_at` counts them.
abbrev pub place : Word → ℕ
place Low = 0
place High = 1
place Next = 2
place Head = 3
