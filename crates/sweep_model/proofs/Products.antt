-- The product of a vertex whose operands have their rows.
use Prim.Native.Nat.{ℕ}
use Rattle.aig.specs.Literal.{inverted?, vertex_of}
use Rattle.aig.specs.Lookup.{first_word, second_word}
use Rattle.product_model.proofs.Ran.{Ran, ran_as, run_ran}
use Rattle.product_model.specs.code.Books.{Proper, Stored}
use Rattle.sweep_model.proofs.Functions.{literal-perfect}
use Rattle.sweep_model.proofs.Kept.{steps-kept}
use Rattle.sweep_model.proofs.Marked.{and_at}
use Rattle.sweep_model.proofs.Stages.{open-has}
use Rattle.sweep_model.proofs.Steady.{alive_unmerged, due_alive, due-within}
use Rattle.sweep_model.proofs.Tidy.{made-merged}
use Rattle.sweep_model.specs.Claims.{and_steps}
use Rattle.sweep_model.specs.Fit.{Fit}
use Rattle.sweep_model.specs.Normalise.{merged?}
use Rattle.sweep_model.specs.State.{Problem, State, function_of, has?, literal_function, open?, stage_of}
use Rattle.sweep_model.specs.code.Steady.{Due, product_of}
use Rattle.truth.proofs.Parts.{alike-invert, alike_sameness, parts-alike}
use Rattle.truth.specs.Distinct.{among}
use Rattle.truth.specs.Parts.{alike?, parts}
use Rattle.truth.specs.Truth.{Truth, invert}
use mathlib.Core.Bool.{Bool, cond, false, true}
use mathlib.Core.List.{List}
use mathlib.Core.Path.{◌∙◌, ◌≡◌, ap, sym}

-- A literal's function is that of its vertex, or the inverse.
pub literal-alike : (p : Problem) (r : ℕ) → alike? (literal_function p r) (function_of p (vertex_of r)) ≡ true
literal-alike p r = go (inverted? r)
  where
    f : Truth
    f = function_of p (vertex_of r)

    go : (b : Bool) → alike? (cond b (invert f) f) f ≡ true
    go true = alike_sameness.symmetric (invert f) f ∙ alike-invert f f ∙ alike_sameness.reflexive f
    go false = alike_sameness.reflexive f

-- The rows of a function are those of any that is alike.
pub stored-alike : (store : List Truth) (f g : Truth) → alike? f g ≡ true → Stored f store → Stored g store
stored-alike store f g e h t k = h t (parts-alike t f g e ∙ k)

module _ {p : Problem} {entry : List ℕ} (fit : Fit p entry) {n v : ℕ} {s : State} (due : Due p entry n v s) where
  -- A vertex whose product is taken has unequal words.
  pub due-unmerged : merged? s.rows v ≡ false
  due-unmerged = sym (made-merged p.first s.rows v due.made) ∙ alive_unmerged due.steady v (due_alive due)

  module _ (stored : (u : ℕ) → has? (stage_of s.stages u) ≡ true → Stored (function_of p u) s.book.store) where
    -- The function of an open vertex's literal has its rows.
    pub operand_stored : (r : ℕ) → open? (stage_of s.stages (vertex_of r)) ≡ true → Stored (literal_function p r) s.book.store
    operand_stored r e =
        stored-alike s.book.store (function_of p (vertex_of r)) (literal_function p r)
        (alike_sameness.symmetric (function_of p (vertex_of r)) (literal_function p r) ∙ literal-alike p r)
        (stored (vertex_of r) (open-has (stage_of s.stages (vertex_of r)) e))

    -- The product makes the rows of the vertex's function and takes the steps of its operands at entry.
    pub product-ran :
        Proper p.limits.rows p.limits.steps s.book
        → Ran p.limits.rows p.limits.steps (parts (function_of p v)) 1 (and_steps (and_at p entry v)) s.book (product_of p v s)
    product-ran proper =
        ran_as p.limits.rows p.limits.steps (steps-kept fit due.steady v due.made (due-within due) due-unmerged)
        (λ t. ap (λ (f : Truth). among alike? t (parts f)) (sym (due.steady.sound.means v due.made (due-within due))))
        (run_ran p.limits.rows p.limits.steps (literal-perfect p fit.well_formed (first_word s.rows v))
        (literal-perfect p fit.well_formed (second_word s.rows v)) proper (operand_stored (first_word s.rows v) due.first-open)
        (operand_stored (second_word s.rows v) due.second-open))
