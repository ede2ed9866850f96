-- Refusals: tests in the rules' order. (RULES 9.1 to 9.4)
use Rattle.std.specs.Prelude.{Bool, cond, List, [], ◌∷◌}

-- What a refusal answers (its number, or its number, file and line), and whether it applies. (RULES 8.1)
pub record Test (A : Type 0) : Type 0 where
  pub answer : A
  pub applies : Bool

-- "the first refusal that applies", or the answer where none does. (RULES 8.1, 12.1)
unfoldable pub first_refusal : {A : Type 0} → A → List (Test A) → A
first_refusal accepted [] = accepted
first_refusal accepted (t ∷ ts) = cond t.applies t.answer (first_refusal accepted ts)
