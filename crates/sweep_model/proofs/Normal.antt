-- Normalising keeps the rows sound.
use Prim.Native.Nat.{◌*◌, ◌+◌, ◌<◌, ◌≤◌, suc, zero, ℕ}
use Rattle.aig.proofs.FirstVertexLaws.{found_at}
use Rattle.aig.proofs.FoldLaws.{pair-below, pair-unfolded, to_below}
use Rattle.aig.proofs.ValuesLaws.{pair-means, to-means}
use Rattle.aig.specs.Fold.{fold_of}
use Rattle.aig.specs.Lookup.{First, first_vertex, first_word, second_word}
use Rattle.aig.specs.declared.fold.Folded.TheVariants.{Pair, To}
use Rattle.aig.specs.declared.fold.Folded.{Folded}
use Rattle.aig.specs.declared.literal.Literal.{Literal}
use Rattle.std.specs.Prelude.{None, Option, Some}
use Rattle.sweep_model.proofs.Functions.{all-perfect, own_function, truth-tables}
use Rattle.sweep_model.proofs.Rows.{merge-sound, resolve_function, resolve-within, row-sound}
use Rattle.sweep_model.specs.Fit.{Sound, WellFormed, vertex_count}
use Rattle.sweep_model.specs.Normalise.{folded_row, found_row, normalise_from, normalise_row, resolve}
use Rattle.sweep_model.specs.State.{Problem, function_of, literal_function}
use Rattle.truth.specs.Truth.{conj}
use mathlib.Core.List.{List}
use mathlib.Core.Path.{◌∙◌, ◌≡◌, ap₂, refl, sym}
use native.Mathlib.Decide.{dec_lt}
use native.Mathlib.Omega.{arith}

module _ (p : Problem) (w : WellFormed p) where
  -- A row normalised keeps the rows sound.
  pub row-normal-sound : (rows : List ℕ) (v : ℕ) → Sound p rows → p.first ≤ v → v < vertex_count p → Sound p (normalise_row rows v)
  unfolding normalise_row folded_row found_row
  row-normal-sound rows v s made within = go (fold_of a b) refl
    where
      a : ℕ
      a = resolve rows (first_word rows v)

      b : ℕ
      b = resolve rows (second_word rows v)

      low_first : a < 2 * v
      low_first = resolve-within s.downward (first_word rows v) v (omega arith) (s.downward.first_below v made within)

      low_second : b < 2 * v
      low_second = resolve-within s.downward (second_word rows v) v (omega arith) (s.downward.second_below v made within)

      means : function_of p v ≡ conj (literal_function p a) (literal_function p b)
      means =
          s.means v made within
          ∙ sym
          (ap₂ conj
          (resolve_function p w s (first_word rows v) (omega (arith, s.downward.first_below v made within)))
          (resolve_function p w s (second_word rows v) (omega (arith, s.downward.second_below v made within))))

      found : {x y : Literal} → fold_of a b ≡ Pair x y → (f : Option ℕ) → first_vertex rows x.0 y.0 v ≡ f → Sound p (found_row rows v x.0 y.0 f)
      found {x} {y} e (Some u) h = merge-sound p w s v (2 * u) made within (omega (arith, here.within)) (own_function p u ∙ same ∙ sym means)
        where
          here : First rows x.0 y.0 v u
          here = found_at rows x.0 y.0 v u h

          is_made : p.first ≤ u
          is_made =
              elim (dec_lt u p.first) [
                | yes l ↦ absurd
                    (omega (arith, (pair-unfolded a b e).ordered, here.holds.first, here.holds.second, (s.downward.own u l).first, (s.downward.own u l).second))
                | no l ↦ omega arith
              ]

          same : function_of p u ≡ conj (literal_function p a) (literal_function p b)
          same =
              s.means u is_made (omega (arith, here.within))
              ∙ ap₂ (λ (x y : ℕ). conj (literal_function p x) (literal_function p y)) here.holds.first here.holds.second
              ∙ pair-means (truth-tables p.inputs) p.functions (all-perfect p w) w.constant a b e
      found {x} {y} e None h =
          let low = pair-below a b (2 * v) e low_first low_second in
          row-sound p w s v x.0 y.0 made within low.0 low.1
          (means ∙ sym (pair-means (truth-tables p.inputs) p.functions (all-perfect p w) w.constant a b e))

      go : (f : Folded) → fold_of a b ≡ f → Sound p (folded_row rows v f)
      go (To r) e =
          merge-sound p w s v r.0 made within (to_below a b (2 * v) e low_first low_second)
          (to-means (truth-tables p.inputs) p.functions (all-perfect p w) w.constant a b e ∙ sym means)
      go (Pair x y) e = found e (first_vertex rows x.0 y.0 v) refl

  -- So do any rows in a run, upwards.
  pub normal-sound : (n v : ℕ) (rows : List ℕ) → Sound p rows → p.first ≤ v → v + n ≤ vertex_count p → Sound p (normalise_from rows v n)
  unfolding normalise_from
  normal-sound zero v rows s made within = s
  normal-sound (suc n) v rows s made within =
      normal-sound n (suc v) (normalise_row rows v) (row-normal-sound rows v s made (omega arith)) (omega arith) (omega arith)
