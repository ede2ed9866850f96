-- Marks as bytes.
use Rattle.std.specs.Prelude.{ℕ}
use Rattle.sweep_state.specs.declared.mark.Mark.TheVariants.{Short, Swept, TooLarge, NoProduct}
use Rattle.sweep_state.specs.declared.mark.Mark.{Mark}

-- "0 no product was taken", "1 swept; or an input that was given its row", "2 the product ended and is too large", "3 the vertex named by Rows or Steps". (RULES 7.4)
abbrev pub mark_byte : Mark → ℕ
mark_byte NoProduct = 0
mark_byte Swept = 1
mark_byte TooLarge = 2
mark_byte Short = 3
