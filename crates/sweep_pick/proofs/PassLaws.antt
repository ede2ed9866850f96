-- What the definition picks is the first of the least of the vertices that wait.
use Rattle.std.specs.Prelude.{None, Option, Some}
use Prim.Native.Nat.{◌+◌, suc, zero, ℕ}
use Rattle.aig.specs.Lookup.{first_word, second_word}
use Rattle.std.proofs.lemmas.Bool.{leb-false, leb-true}
use Rattle.std.specs.List.{filter, fold, range_with_len, reduce}
use Rattle.sweep_pick.specs.code.Pick.{least_from, lesser, pick_here}
use Rattle.sweep_graph.specs.code.Stages.{word_stage}
use Rattle.sweep_model.specs.State.{waits?}
use lib.Dec.{leb}
use mathlib.Core.Bool.{Bool, cond, false, true}
use mathlib.Core.List.{List, [], ◌∷◌}
use mathlib.Core.Path.{◌∙◌, ◌≡◌, ap, refl, subst, sym}
use native.Mathlib.Omega.{arith}

module _ (diagrams : List ℕ) where
  abbrev size_of : ℕ → ℕ
  size_of v = second_word diagrams v

  -- The lesser of two vertices, the first of equals.
  abbrev pub first_lesser : ℕ → ℕ → ℕ
  first_lesser v w = lesser diagrams v (Some w)

  of_three :
      (v w u : ℕ) (a b c : Bool) → leb (size_of v) (size_of w) ≡ a → leb (size_of w) (size_of u) ≡ b → leb (size_of v) (size_of u) ≡ c
      → cond (leb (size_of (cond a v w)) (size_of u)) (cond a v w) u ≡ cond (leb (size_of v) (size_of (cond b w u))) v (cond b w u)
  of_three v w u true true true f g h = rw (f, h) refl
  of_three v w u true true false f g h = absurd (omega (arith, leb-true _ _ f, leb-true _ _ g, leb-false _ _ h))
  of_three v w u true false c f g h = refl
  of_three v w u false true c f g h = rw (f, g) refl
  of_three v w u false false true f g h = absurd (omega (arith, leb-false _ _ f, leb-false _ _ g, leb-true _ _ h))
  of_three v w u false false false f g h = rw (g, h) refl

  -- It is one whichever two are compared first.
  lesser-lesser : (v w : ℕ) (later : Option ℕ) → lesser diagrams (first_lesser v w) later ≡ first_lesser v (lesser diagrams w later)
  unfolding lesser
  lesser-lesser v w None = refl
  lesser-lesser v w (Some u) = of_three v w u _ _ _ refl refl refl

  fold-lesser : (vs : List ℕ) (v : ℕ) → fold first_lesser v vs ≡ lesser diagrams v (reduce first_lesser vs)
  unfolding lesser
  fold-lesser [] v = refl
  fold-lesser (w ∷ vs) v =
      fold-lesser vs (first_lesser v w) ∙ lesser-lesser v w (reduce first_lesser vs) ∙ ap (first_lesser v) (sym (fold-lesser vs w))

  -- The least of the vertices that wait is the definition's.
  pub least-waiting : (stages : List ℕ) (n v : ℕ)
      → reduce first_lesser (filter (λ w. waits? (word_stage (first_word stages w))) (range_with_len v n)) ≡ least_from stages diagrams v n
  unfolding least_from pick_here
  least-waiting stages zero v = refl
  least-waiting stages (suc n) v =
      let next : suc v ≡ v + 1 = omega arith in
      go (filter (λ w. waits? (word_stage (first_word stages w))) (range_with_len (v + 1) n))
      (subst (λ (u : ℕ). reduce first_lesser (filter (λ w. waits? (word_stage (first_word stages w))) (range_with_len u n)) ≡ least_from stages diagrams (suc v) n) next
      (least-waiting stages n (suc v)))
      (waits? (word_stage (first_word stages v)))
    where
      go :
          (vs : List ℕ) {later : Option ℕ} → reduce first_lesser vs ≡ later → (b : Bool)
          → reduce first_lesser (cond b (v ∷ vs) vs) ≡ cond b (Some (lesser diagrams v later)) later
      go vs e true = ap Some (fold-lesser vs v ∙ ap (lesser diagrams v) e)
      go vs e false = e
