-- Equal and Different are right, and the setting is the first that separates.
use Prim.Native.Nat.{ℕ}
use Rattle.aig.specs.Literal.{negate}
use Rattle.sweep_model.proofs.Functions.{function_negate, literal-perfect}
use Rattle.sweep_model.proofs.Induction.{Endings, endings_keep, sweep-keeps}
use Rattle.sweep_model.proofs.Rows.{resolve_function}
use Rattle.sweep_model.specs.Fit.{Fit}
use Rattle.sweep_model.specs.State.{Problem, State, literal_function}
use Rattle.sweep_model.specs.code.Steady.{Steady, left_now, right_now}
use Rattle.sweep_model.specs.Sweep.{Verdict, different, equal, sweep, undecided}
use Rattle.sweep_model.specs.declared.Cause.{Cause}
use Rattle.truth.proofs.Booleans.{clash}
use Rattle.truth.proofs.Equality.{equal-same, invert_across, invert_differs, same-equal}
use Rattle.truth.proofs.Order.{first_difference_lem, first-inverse}
use Rattle.truth.specs.Settings.{FirstDifference, first_difference}
use Rattle.truth.specs.Truth.{Setting, Truth, invert}
use lib.ListN.{replicate}
use mathlib.Core.Bool.{false}
use mathlib.Core.List.{List}
use mathlib.Core.Logic.{◌≢◌}
use mathlib.Core.Path.{◌∙◌, ◌≡◌, ap, subst, sym}

-- What a verdict tells of two functions of m inputs.
pub data Tells (m : ℕ) (f g : Truth) : Verdict → Type 0 where
  tells_equal : f ≡ g → Tells m f g equal
  tells_different : {s : Setting} → FirstDifference m f g s → Tells m f g (different s)
  tells_nothing : {c : Cause} → Tells m f g (undecided c)

-- What is told of equal functions.
told-alike : {m : ℕ} {f g f' g' : Truth} {x : Verdict} → f ≡ f' → g ≡ g' → Tells m f g x → Tells m f' g' x
told-alike {m} {f} {g} {f'} {g'} {x} a b t = rw (a, b) at t

module _ {p : Problem} {entry : List ℕ} (fit : Fit p entry) where
  abbrev Right : Verdict → Type 0
  Right x = Tells p.inputs (literal_function p p.left) (literal_function p p.right) x

  module _ (s : State) (h : Steady p entry s) where
    -- What the literals looked at have become tells of them.
    now_right : {x : Verdict} → Tells p.inputs (literal_function p (left_now p s)) (literal_function p (right_now p s)) x → Right x
    now_right t =
        told-alike (resolve_function p fit.well_formed h.sound p.left fit.well_formed.left-within)
        (resolve_function p fit.well_formed h.sound p.right fit.well_formed.right-within) t

    differs : literal_function p (left_now p s) ≢ literal_function p (right_now p s)
        → FirstDifference p.inputs (literal_function p (left_now p s)) (literal_function p (right_now p s))
        (first_difference (literal_function p (left_now p s)) (literal_function p (right_now p s)))
    differs d = first_difference_lem (literal-perfect p fit.well_formed (left_now p s)) (literal-perfect p fit.well_formed (right_now p s)) d

    inverse-right : left_now p s ≡ negate (right_now p s) → Right (different (replicate p.inputs false))
    inverse-right e =
        now_right
        (tells_different
        (subst (FirstDifference p.inputs f g) (ap (first_difference f) across ∙ first-inverse (literal-perfect p fit.well_formed (left_now p s)))
        (differs (λ k. invert_differs g (sym inverse ∙ k)))))
      where
        f : Truth
        f = literal_function p (left_now p s)

        g : Truth
        g = literal_function p (right_now p s)

        inverse : f ≡ invert g
        inverse = ap (literal_function p) e ∙ function_negate p fit.well_formed (right_now p s)

        across : g ≡ invert f
        across = invert_across (sym inverse)

  right-ends : Endings p entry (λ x k s. Right x)
  right-ends =
      record {
        same-literal = λ s h e. now_right s h (tells_equal (ap (literal_function p) e));
        inverse-literal = λ s h e. inverse-right s h e;
        same_function = λ s h e. now_right s h (tells_equal (same-equal (literal_function p (left_now p s)) (literal_function p (right_now p s)) e));
        other_function = λ s h e. now_right s h (tells_different (differs s h (λ k. clash (equal-same k) e)));
        lacks-input-row = λ v s h. tells_nothing;
        lacks-row = λ v b s h. tells_nothing;
        lacks_step = λ v b s h. tells_nothing;
        rests = λ s h. tells_nothing;
      }

  -- What the sweep tells of the two functions looked at.
  pub sweep-right : Tells p.inputs (literal_function p p.left) (literal_function p p.right) (sweep p entry).verdict
  sweep-right = sweep-keeps fit (endings_keep right-ends)

  -- After Equal the two functions are equal.
  pub equal-right : (sweep p entry).verdict ≡ equal → literal_function p p.left ≡ literal_function p p.right
  equal-right e = told (rw e at sweep-right)
    where
      told : {m : ℕ} {f g : Truth} → Tells m f g equal → f ≡ g
      told (tells_equal k) = k

  -- After Different the setting is the first on which they differ.
  pub different-right :
      (s : Setting) → (sweep p entry).verdict ≡ different s → FirstDifference p.inputs (literal_function p p.left) (literal_function p p.right) s
  different-right s e = told (rw e at sweep-right)
    where
      told : {m : ℕ} {f g : Truth} {t : Setting} → Tells m f g (different t) → FirstDifference m f g t
      told (tells_different k) = k
