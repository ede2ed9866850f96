-- The two literals looked at: one law for each answer.
use Prim.Native.Nat.{ℕ}
use Rattle.sweep_state.specs.code.Look.{compared_as, reference_of}
use Rattle.sweep_state.specs.declared.end.End.TheVariants.{Differ, Equal}
use borrow.Author.Tests.{eq-eqb, ne_eqb}
use mathlib.Core.List.{List}
use mathlib.Core.Path.{◌∙◌, ◌≡◌, ap₂, refl, sym}

module _ (diagrams : List ℕ) (l r : ℕ) {f g : ℕ} (ef : f ≡ reference_of diagrams l) (eg : g ≡ reference_of diagrams r) where
  pub compared-equal : f ≡ g → Equal ≡ compared_as diagrams l r
  unfolding compared_as
  compared-equal e = rw (eq-eqb (reference_of diagrams l) (reference_of diagrams r) (sym ef ∙ e ∙ eg)) refl

  pub compared-differ : (f ≡ g → ⊥) → Differ f g ≡ compared_as diagrams l r
  unfolding compared_as
  compared-differ d = rw (ne_eqb (reference_of diagrams l) (reference_of diagrams r) (λ e. d (ef ∙ e ∙ sym eg))) (ap₂ Differ ef eg)
