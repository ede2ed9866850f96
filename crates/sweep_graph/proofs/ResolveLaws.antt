-- What a literal became, by the words of its vertex's row.
use Prim.Native.Nat.{ℕ}
use Rattle.aig.specs.Literal.{onto, vertex_of}
use Rattle.aig.specs.Lookup.{first_word, second_word}
use Rattle.sweep_model.proofs.Rows.{resolve-merged, resolve_stays}
use Rattle.sweep_model.specs.Normalise.{resolve}
use borrow.Author.Tests.{eq-eqb, ne_eqb}
use mathlib.Core.List.{List}
use mathlib.Core.Path.{◌∙◌, ◌≡◌, ap, sym}

-- The two words of a literal's vertex, as they were read, decide what the literal became.
module _
    (pairs : List ℕ) (r : ℕ) {v x y : ℕ} (of-vertex : v ≡ vertex_of r) (of-first : x ≡ first_word pairs v) (of-second : y ≡ second_word pairs v) where
  is-first : first_word pairs (vertex_of r) ≡ x
  is-first = ap (first_word pairs) (sym of-vertex) ∙ sym of-first

  is-second : second_word pairs (vertex_of r) ≡ y
  is-second = ap (second_word pairs) (sym of-vertex) ∙ sym of-second

  -- Equal: its vertex was merged.
  pub became_other : x ≡ y → resolve pairs r ≡ onto x r
  became_other e =
      resolve-merged pairs r (eq-eqb (first_word pairs (vertex_of r)) (second_word pairs (vertex_of r)) (is-first ∙ e ∙ sym is-second))
      ∙ ap (λ (z : ℕ). onto z r) is-first

  -- Unequal: it stands for itself.
  pub stayed : (x ≡ y → ⊥) → resolve pairs r ≡ r
  stayed d =
      resolve_stays pairs r (ne_eqb (first_word pairs (vertex_of r)) (second_word pairs (vertex_of r)) (λ e. d (sym is-first ∙ e ∙ is-second)))
