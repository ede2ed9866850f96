-- The product of two decision diagrams as a run over truth tables, with a limit on rows and a limit on steps.
use Rattle.std.specs.Prelude.{◌+◌, ℕ, ltb, length, ◌||◌, cond, List, ◌∷◌}
use Rattle.truth.specs.Distinct.{among}
use Rattle.truth.specs.Parts.{alike?, depends?}
unfoldable pub use Rattle.truth.specs.Parts.{plain}
use Rattle.truth.specs.Steps.{terminal?}
use Rattle.truth.specs.Truth.{Truth, conj, leaf, node, same?}

-- "each row is one distinct part": the functions of the diagram rows made so far, newest first; and the product steps taken. (RULES 6.7)
pub record Book : Type 0 where
  pub store : List Truth
  pub steps : ℕ

-- "a shortfall ends it": a run is done, short of rows or short of steps, each with what was added and taken so far. (RULES 6.8)
pub data Outcome : Type 0 where
  done : Book → Outcome
  short_of_rows : Book → Outcome
  short_of_steps : Book → Outcome

-- The book that an outcome leaves.
unfoldable pub book_of : Outcome → Book
book_of (done b) = b
book_of (short_of_rows b) = b
book_of (short_of_steps b) = b

-- "a shortfall ends it": what follows is run only on a book that is done. (RULES 6.8)
infixl 20 ◌and_then◌
unfoldable pub ◌and_then◌ : Outcome → (Book → Outcome) → Outcome
◌and_then◌ (done b) next = next b
◌and_then◌ (short_of_rows b) next = short_of_rows b
◌and_then◌ (short_of_steps b) next = short_of_steps b

-- A book with one step more.
abbrev pub with_step : Book → Book
with_step b = record { store = b.store; steps = b.steps + 1 }

-- "product calls counted against the limit": one step more, or short where "one more step than the limit was needed". (RULES 6.8, 7.3)
unfoldable pub count_step : ℕ → Book → Outcome
count_step step_limit b = cond (ltb b.steps step_limit) (done (with_step b)) (short_of_steps b)

-- A book with one row more.
abbrev pub with_row : Truth → Book → Book
with_row f b = record { store = plain f ∷ b.store; steps = b.steps }

-- "each row is one distinct part": a part found in the store needs no row, another gets one in plain form, or is short where "the
-- row limit was passed". "Each input gets its row" by it too. (RULES 6.3, 6.7, 7.3)
unfoldable pub add_part : ℕ → Truth → Book → Outcome
add_part row_limit f b =
    cond (among alike? f b.store) (done b)
    (cond (ltb (length b.store) row_limit) (done (with_row f b)) (short_of_rows b))

-- "What is left is a part at k if it depends on input k.": the row of the function with these halves, none where they are equal. (RULES 5.2)
unfoldable pub add_row : ℕ → Truth → Truth → Book → Outcome
add_row row_limit low high b = cond (same? low high) (done b) (add_part row_limit (node low high) b)

module _ (row_limit step_limit : ℕ) where
  -- "The product of two diagrams calls itself on both values of the lowest input": each call is counted first; a terminal pair
  -- ends it, an input on which neither depends is passed over; else value 0, then value 1, then the row of the conjunction. (RULES 6.8)
  unfoldable pub run : Truth → Truth → Book → Outcome
  run (leaf x) g b = count_step step_limit b
  run (node f₀ f₁) (leaf y) b = count_step step_limit b
  run (node f₀ f₁) (node g₀ g₁) b =
      let both = count_step step_limit b and_then run f₀ g₀ and_then run f₁ g₁ and_then add_row row_limit (conj f₀ g₀) (conj f₁ g₁) in
      let passed = run f₀ g₀ b in
      cond (terminal? (node f₀ f₁) (node g₀ g₁)) (count_step step_limit b)
      (cond (depends? (node f₀ f₁) || depends? (node g₀ g₁)) both passed)
