-- What the product gives back, in terms of the run over truth tables.
use Rattle.std.specs.Prelude.{◌<◌, ◌^◌, ◌≤◌, ℕ, Err, List, Ok, Result, ◌≡◌}
use Rattle.bdd.specs.Diagram.{Reference, denote, store_of}
use Rattle.bdd.specs.code.Rows.{MARK}
use Rattle.bdd.specs.code.Store.{Store}
use Rattle.bdd.specs.declared.store.RowStore.{RowStore}
use Rattle.bdd_unique.specs.code.Unique.{Grown}
use Rattle.product_model.specs.Run.{Book, Outcome, done, run, short_of_rows, short_of_steps}
use Rattle.product.specs.declared.steps.Short.TheVariants.{Rows as OfRows, Steps as OfSteps}
use Rattle.product.specs.declared.steps.Short.{Short}
use Rattle.product.specs.declared.steps.Steps.{Steps}
use Rattle.truth.specs.Truth.{conj}

-- The functions of the rows in use, and the steps taken.
abbrev pub book_of : List ℕ → ℕ → ℕ → Book
book_of rows used steps = record { store = store_of rows used; steps = steps }

-- The outcome of the run that an answer stands for, with the rows and the steps as they are then.
abbrev pub outcome_of : Book → Result ℕ Short → Outcome
outcome_of b (Ok r) = done b
outcome_of b (Err OfRows) = short_of_rows b
outcome_of b (Err OfSteps) = short_of_steps b

-- The operands of a product: two references of at most `left` inputs to the rows in use.
pub record Operands (rows : List ℕ) (used f g left : ℕ) : Type 0 where
  pub first : Reference rows used left f
  pub second : Reference rows used left g
  pub few : left < MARK

-- What a product is asked: two references of at most `left` inputs in a store, and steps within a limit of 32 bits.
pub record Ask (rows : List ℕ) (limit used f g left steps most : ℕ) : Type 0 where
  pub store : Store rows limit used
  pub first : Reference rows used left f
  pub second : Reference rows used left g
  pub few : left < MARK
  pub under : steps ≤ most
  pub small : most < 2 ^ 32

-- "The product of two diagrams calls itself on both values of the lowest input, and a shortfall ends it.": the rows grew from `used` to u,
-- and the end, the rows and the k steps then taken are those of the run of the two functions. (RULES 6.8)
pub record Multiplied (s t : List ℕ) (limit used u f g left steps k most : ℕ) (answer : Result ℕ Short) : Type 0 where
  pub grown : Grown s t limit used u
  pub under : k ≤ most
  pub ran : run limit most (denote s left f) (denote s left g) (book_of s used steps) ≡ outcome_of (book_of t u k) answer

-- A product that is done denotes the AND of the two functions.
pub record Denotes (s t : List ℕ) (f g left r u : ℕ) : Type 0 where
  pub reference : Reference t u left r
  pub means : denote t left r ≡ conj (denote s left f) (denote s left g)

abbrev pub Multiplies : List ℕ → List ℕ → ℕ → ℕ → ℕ → ℕ → ℕ → ℕ → ℕ → ℕ → ℕ → Result ℕ Short → Type 0
Multiplies s t limit used u f g left steps k most (Ok r) =
    Multiplied s t limit used u f g left steps k most (Ok r) × Denotes s t f g left r u
Multiplies s t limit used u f g left steps k most (Err e) = Multiplied s t limit used u f g left steps k most (Err e)

-- The same of a store and of counted steps.
abbrev pub MultipliesIn : RowStore → RowStore → ℕ → ℕ → ℕ → Steps → Steps → Result ℕ Short → Type 0
MultipliesIn s t f g left a b answer = Multiplies s.rows.now t.rows.now s.limit s.used t.used f g left a.taken b.taken a.most answer
