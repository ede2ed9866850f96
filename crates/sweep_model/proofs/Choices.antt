-- What the searches of the sweep find: the twin of a vertex and the vertex that is picked; and a vertex that is dropped, or none.
use Prim.Native.Nat.{◌+◌, ◌-◌, ◌<◌, ◌≤◌, suc, zero, ℕ}
use Rattle.sweep_model.proofs.Turns.{no_turns, waiting-turns}
use Rattle.sweep_model.specs.Choices.{Opens}
use Rattle.sweep_model.specs.State.{Problem, Stage, dropped?, function_of, has?, stage_of, waits?}
use Rattle.sweep_model.specs.Sweep.{Candidate, any_dropped?, at, none, pick_from, smaller, turns_left, twin_from}
use Rattle.truth.proofs.Booleans.{and_left, and_right, clash, not_true, or_cases, or_left, or_right}
use Rattle.truth.specs.Parts.{alike?, size}
use borrow.Author.Tests.{leb-false, leb-true}
use lib.Dec.{leb}
use lib.ListN.{length}
use mathlib.Core.Bool.{Bool, ◌&&◌, cond, false, true}
use mathlib.Core.List.{List, [], ◌∷◌}
use mathlib.Core.Logic.{◌⊎◌, inl, inr, ⊎_elim}
use mathlib.Core.Path.{◌∙◌, ◌≡◌, ap, refl, subst, sym}
use native.Mathlib.Decide.{ℕ_discrete}
use native.Mathlib.Omega.{arith}

-- Vertex w has a diagram and the function of vertex v or its inverse.
pub record IsTwin (p : Problem) (stages : List Stage) (v w : ℕ) : Type 0 where
  pub has_one : has? (stage_of stages w) ≡ true
  pub alike : alike? (function_of p v) (function_of p w) ≡ true

-- Whether vertex w is a twin of vertex v.
abbrev twin? : Problem → List Stage → ℕ → ℕ → Bool
twin? p stages v w = has? (stage_of stages w) && alike? (function_of p v) (function_of p w)

-- What is found is the lowest of the n vertices from k on.
pub record LowestTwin (p : Problem) (stages : List Stage) (v k n w : ℕ) : Type 0 where
  pub from : k ≤ w
  pub within : w < k + n
  pub is-twin : IsTwin p stages v w
  pub lowest : (u : ℕ) → k ≤ u → u < w → IsTwin p stages v u → ⊥

module _ (p : Problem) (stages : List Stage) (v : ℕ) where
  Says : ℕ → ℕ → Candidate → Type 0
  Says k n (at w) = LowestTwin p stages v k n w
  Says k n none = (u : ℕ) → k ≤ u → u < k + n → IsTwin p stages v u → ⊥

  not_twin : (u : ℕ) → twin? p stages v u ≡ false → IsTwin p stages v u → ⊥
  not_twin u e t = clash (ap (λ (b : Bool). b && alike? (function_of p v) (function_of p u)) t.has_one ∙ t.alike) e

  says : (n k : ℕ) → Says k n (twin_from p stages v k n)
  unfolding twin_from Says
  says zero k = λ u l h t. omega arith
  says (suc n) k = go (twin? p stages v k) refl (twin_from p stages v (suc k) n) (says n (suc k))
    where
      passed : twin? p stages v k ≡ false → (u : ℕ) → k ≤ u → (suc k ≤ u → IsTwin p stages v u → ⊥) → IsTwin p stages v u → ⊥
      passed e u l f t =
          elim (ℕ_discrete u k) [
            | yes i ↦ not_twin k e (subst (IsTwin p stages v) i t)
            | no i ↦ f (omega arith) t
          ]

      go : (b : Bool) → twin? p stages v k ≡ b → (o : Candidate) → Says (suc k) n o → Says k (suc n) (cond b (at k) o)
      go true e o s =
          record {
            from = omega arith;
            within = omega arith;
            is-twin =
                record {
                  has_one = and_left (has? (stage_of stages k)) (alike? (function_of p v) (function_of p k)) e;
                  alike = and_right (has? (stage_of stages k)) (alike? (function_of p v) (function_of p k)) e;
                };
            lowest = λ u l h t. omega arith;
          }
      go false e (at w) s =
          record {
            from = omega (arith, s.from);
            within = omega (arith, s.within);
            is-twin = s.is-twin;
            lowest = λ u l h t. passed e u l (λ i. s.lowest u i h) t;
          }
      go false e none s = λ u l h t. passed e u l (λ i. s u i (omega arith)) t

  -- A twin that is found is the lowest.
  pub twin_at_lem : (k n w : ℕ) → twin_from p stages v k n ≡ at w → LowestTwin p stages v k n w
  unfolding Says
  twin_at_lem k n w e = subst (Says k n) e (says n k)

  -- Where none is found no vertex is one.
  pub twin-none : (k n : ℕ) → twin_from p stages v k n ≡ none → (u : ℕ) → k ≤ u → u < k + n → IsTwin p stages v u → ⊥
  unfolding Says
  twin-none k n e = subst (Says k n) e (says n k)

-- The vertex picked among the stages from vertex k on.
record Least (p : Problem) (k : ℕ) (stages : List Stage) (v : ℕ) : Type 0 where
  from : k ≤ v
  waits : waits? (stage_of stages (v - k)) ≡ true
  least : (w : ℕ) → k ≤ w → waits? (stage_of stages (w - k)) ≡ true → size (function_of p v) ≤ size (function_of p w)
  lowest : (w : ℕ) → k ≤ w → waits? (stage_of stages (w - k)) ≡ true → size (function_of p v) ≡ size (function_of p w) → v ≤ w

-- What a pick among them says.
Picks : Problem → ℕ → List Stage → Candidate → Type 0
Picks p k stages (at v) = Least p k stages v
Picks p k stages none = (i : ℕ) → waits? (stage_of stages i) ≡ false

module _ (p : Problem) (x : Stage) (stages : List Stage) (k : ℕ) where
  -- The stage of a later vertex, of vertex k, and of either.
  later-stage : (w : ℕ) → suc k ≤ w → stage_of (x ∷ stages) (w - k) ≡ stage_of stages (w - suc k)
  later-stage w l = let i : w - k ≡ suc (w - suc k) = omega arith in rw i refl

  own-stage : stage_of (x ∷ stages) (k - k) ≡ x
  own-stage = let i : k - k ≡ 0 = omega arith in rw i refl

  waits-own_or_later : (w : ℕ) → k ≤ w → waits? (stage_of (x ∷ stages) (w - k)) ≡ true
      → ((w ≡ k) × (waits? x ≡ true)) ⊎ ((suc k ≤ w) × (waits? (stage_of stages (w - suc k)) ≡ true))
  waits-own_or_later w l e =
      elim (ℕ_discrete w k) [
        | yes i ↦ inl (i, ap waits? (sym own-stage) ∙ subst (λ (u : ℕ). waits? (stage_of (x ∷ stages) (u - k)) ≡ true) i e)
        | no i ↦ inr (omega arith, ap waits? (sym (later-stage w (omega arith))) ∙ e)
      ]

  -- Vertex k is picked: none after it waits, or the one picked among those is not smaller.
  own-least : waits? x ≡ true
      → ((w : ℕ) → suc k ≤ w → waits? (stage_of stages (w - suc k)) ≡ true → size (function_of p k) ≤ size (function_of p w)) → Least p k (x ∷ stages) k
  own-least e rest =
      record {
        from = omega arith;
        waits = ap waits? own-stage ∙ e;
        least =
            λ w l h.
            elim (waits-own_or_later w l h) [
              | inl i ↦ let z = ap (λ (u : ℕ). size (function_of p u)) i.0 in omega (arith, z)
              | inr i ↦ rest w i.0 i.1
            ];
        lowest = λ w l h i. l;
      }

  -- One after it is picked: vertex k does not wait, or is larger.
  later-least : (v : ℕ) → Least p (suc k) stages v → (waits? x ≡ true → size (function_of p v) < size (function_of p k)) → Least p k (x ∷ stages) v
  later-least v s larger =
      record {
        from = omega (arith, s.from);
        waits = ap waits? (later-stage v s.from) ∙ s.waits;
        least =
            λ w l h.
            elim (waits-own_or_later w l h) [
              | inl i ↦ let z = ap (λ (u : ℕ). size (function_of p u)) i.0 in omega (arith, z, larger i.1)
              | inr i ↦ s.least w i.0 i.1
            ];
        lowest =
            λ w l h e.
            elim (waits-own_or_later w l h) [
              | inl i ↦ let z = ap (λ (u : ℕ). size (function_of p u)) i.0 in absurd (omega (arith, z, larger i.1, e))
              | inr i ↦ s.lowest w i.0 i.1 e
            ];
      }

picks : (p : Problem) (stages : List Stage) (k : ℕ) → Picks p k stages (pick_from p k stages)
unfolding pick_from smaller Picks waits?
picks p [] k = λ i. refl
picks p (x ∷ stages) k = go (waits? x) refl (pick_from p (suc k) stages) (picks p stages (suc k))
  where
    less : waits? x ≡ true → (o : Candidate) → Picks p (suc k) stages o → Picks p k (x ∷ stages) (at (smaller p k o))
    less e none s = own-least p x stages k e (λ w l h. clash h (s (w - suc k)))
    less e (at w) s = pick (leb (size (function_of p k)) (size (function_of p w))) refl
      where
        pick : (b : Bool) → leb (size (function_of p k)) (size (function_of p w)) ≡ b → Least p k (x ∷ stages) (cond b k w)
        pick true i =
            own-least p x stages k e
            (λ u l h. omega (arith, leb-true (size (function_of p k)) (size (function_of p w)) i, s.least u l h))
        pick false i = later-least p x stages k w s (λ h. leb-false (size (function_of p k)) (size (function_of p w)) i)

    go : (b : Bool) → waits? x ≡ b → (o : Candidate) → Picks p (suc k) stages o → Picks p k (x ∷ stages) (cond b (at (smaller p k o)) o)
    go true e o s = less e o s
    go false e (at w) s = later-least p x stages k w s (λ h. clash h e)
    go false e none s = none_waits
      where
        none_waits : (i : ℕ) → waits? (stage_of (x ∷ stages) i) ≡ false
        none_waits zero = e
        none_waits (suc j) = s j

-- "The waiting vertex of least size opens, lowest number on a tie.": a vertex that is picked is that one.
pub pick_least : (p : Problem) (stages : List Stage) (v : ℕ) → pick_from p 0 stages ≡ at v → Opens p stages v
unfolding Picks
pick_least p stages v e =
    let s = subst (Picks p 0 stages) e (picks p stages 0) in
    record {
      waits = from-none v s.waits;
      least = λ w h. s.least w (omega arith) (to_none w h);
      lowest = λ w h i. s.lowest w (omega arith) (to_none w h) i;
    }
  where
    from-none : (w : ℕ) → waits? (stage_of stages (w - 0)) ≡ true → waits? (stage_of stages w) ≡ true
    from-none w h = let i : w - 0 ≡ w = omega arith in rw i at h

    to_none : (w : ℕ) → waits? (stage_of stages w) ≡ true → waits? (stage_of stages (w - 0)) ≡ true
    to_none w h = let i : w - 0 ≡ w = omega arith in rw i h

-- A vertex that is picked waits.
pub pick_waits : (p : Problem) (stages : List Stage) (v : ℕ) → pick_from p 0 stages ≡ at v → waits? (stage_of stages v) ≡ true
pick_waits p stages v e = (pick_least p stages v e).waits

-- Where none is picked none waits.
pub pick_none : (p : Problem) (stages : List Stage) → pick_from p 0 stages ≡ none → (v : ℕ) → waits? (stage_of stages v) ≡ false
unfolding Picks
pick_none p stages e = subst (Picks p 0 stages) e (picks p stages 0)

-- Where no turns are left none is picked.
pub no_turns_no_pick : (p : Problem) (stages : List Stage) → turns_left stages ≡ 0 → pick_from p 0 stages ≡ none
no_turns_no_pick p stages e = go (pick_from p 0 stages) refl
  where
    go : (o : Candidate) → pick_from p 0 stages ≡ o → o ≡ none
    go (at v) k = absurd (omega (arith, no_turns stages e v, waiting-turns (stage_of stages v) (pick_waits p stages v k)))
    go none k = refl

-- Where no vertex passes for dropped none is.
pub none_dropped : (stages : List Stage) → any_dropped? stages ≡ false → (v : ℕ) → dropped? (stage_of stages v) ≡ false
unfolding any_dropped? dropped?
none_dropped [] e v = refl
none_dropped (x ∷ stages) e zero = not_true (dropped? x) (λ k. clash (or_left (dropped? x) (any_dropped? stages) k) e)
none_dropped (x ∷ stages) e (suc v) =
    none_dropped stages (not_true (any_dropped? stages) (λ k. clash (or_right (dropped? x) (any_dropped? stages) k) e)) v

-- Where some vertex passes for dropped, here is one.
pub some-dropped : (stages : List Stage) → any_dropped? stages ≡ true → (v : ℕ) × (v < length stages) × (dropped? (stage_of stages v) ≡ true)
unfolding any_dropped?
some-dropped [] e = clash e refl
some-dropped (x ∷ stages) e =
    ⊎_elim (λ i. (0, omega arith, i)) (λ i. let d = some-dropped stages i in (suc d.0, omega (arith, d.1), d.2)) (or_cases (dropped? x) (any_dropped? stages) e)
