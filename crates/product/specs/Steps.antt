-- A step that is counted.
use Rattle.std.specs.Prelude.{◌+◌, ◌<◌, ◌≤◌, Err, Ok, Result, ⊤, ◌≡◌}
use Rattle.product.specs.declared.steps.Short.TheVariants.{Steps as OfSteps}
use Rattle.product.specs.declared.steps.Short.{Short}
use Rattle.product.specs.declared.steps.Steps.{Steps}

-- "product calls counted against the limit": one step more, or short where the limit is reached. (RULES 6.8)
abbrev pub Takes : Steps → Steps → Result ⊤ Short → Type 0
Takes a b (Ok _) = (a.taken < a.most) × (b.taken ≡ a.taken + 1)
Takes a b (Err e) = (a.most ≤ a.taken) × (b.taken ≡ a.taken) × (e ≡ OfSteps)
