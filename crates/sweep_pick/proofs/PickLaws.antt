-- What is picked, and that it is the model's pick.
use Rattle.std.specs.Prelude.{None, Option, Some}
use Prim.Native.Nat.{◌+◌, ◌-◌, ◌<◌, ◌≤◌, suc, zero, ℕ}
use Rattle.aig.specs.Lookup.{first_word, second_word}
use Rattle.sweep_pick.specs.code.Pick.{least_from, lesser, pick_here}
use Rattle.sweep_graph.specs.code.Stages.{stages_from, stages_of, word_stage}
use Rattle.sweep_model.specs.State.{Problem, function_of, waits?}
use Rattle.sweep_model.specs.Sweep.{Candidate, at, pick_from, smaller}
use Rattle.sweep_state.specs.code.Meet.{twin_of}
use Rattle.truth.specs.Parts.{size}
use lib.Dec.{leb}
use mathlib.Core.Bool.{Bool, cond, false, true}
use mathlib.Core.List.{List}
use mathlib.Core.Path.{◌∙◌, ◌≡◌, ap, ap₂, refl, subst}
use native.Mathlib.Omega.{arith}

-- Vertex w waits, and is one of n vertices from v on.
pub record Least (stages : List ℕ) (v n w : ℕ) : Type 0 where
  pub waits : waits? (word_stage (first_word stages w)) ≡ true
  pub from : v ≤ w
  pub within : w < v + n

-- One vertex more, before them.
least-later : {stages : List ℕ} {v n w : ℕ} → Least stages (suc v) n w → Least stages v (suc n) w
least-later l = record { waits = l.waits; from = omega (arith, l.from); within = omega (arith, l.within) }

-- The lesser is vertex v or the one picked later.
lesser-either : (P : ℕ → Type 0) (diagrams : List ℕ) (v : ℕ) (later : Option ℕ) → P v → ((w : ℕ) → later ≡ Some w → P w) → P (lesser diagrams v later)
unfolding lesser
lesser-either P diagrams v None here there = here
lesser-either P diagrams v (Some w) here there = go (leb (second_word diagrams v) (second_word diagrams w))
  where
    go : (b : Bool) → P (cond b v w)
    go true = here
    go false = there w refl

-- What is picked waits, and is one of those it was picked from.
pub least-is : (stages diagrams : List ℕ) (n v w : ℕ) → least_from stages diagrams v n ≡ Some w → Least stages v n w
unfolding least_from pick_here
least-is stages diagrams zero v w e = let z : ◌≡◌ {A = ℕ} 0 1 = cc in absurd (omega arith)
least-is stages diagrams (suc n) v w e =
    go (least_from stages diagrams (suc v) n) (λ u k. least-later (least-is stages diagrams n (suc v) u k)) (waits? (word_stage (first_word stages v))) refl e
  where
    go :
        (p : Option ℕ) → ((u : ℕ) → p ≡ Some u → Least stages v (suc n) u) → (b : Bool) → waits? (word_stage (first_word stages v)) ≡ b
        → cond b (Some (lesser diagrams v p)) p ≡ Some w → Least stages v (suc n) w
    go p ih true h e =
        let k : lesser diagrams v p ≡ w = cc in
        subst (Least stages v (suc n)) k
        (lesser-either (Least stages v (suc n)) diagrams v p (record { waits = h; from = omega arith; within = omega arith }) ih)
    go p ih false h e = ih w e

-- One vertex more, below.
pub least_more :
    (stages diagrams : List ℕ) (count v : ℕ) {later p : Option ℕ} → 0 < v → v ≤ count → later ≡ least_from stages diagrams v (count - v)
    → p ≡ pick_here stages diagrams (v - 1) later → p ≡ least_from stages diagrams (v - 1) (count - (v - 1))
unfolding least_from
least_more stages diagrams count v some within e f =
    let more : count - (v - 1) ≡ suc (count - v) = omega arith in
    let next : suc (v - 1) ≡ v = omega arith in
    rw (more, next) (f ∙ ap (pick_here stages diagrams (v - 1)) e)

module _ (p : Problem) (stages diagrams : List ℕ) where
  -- Waiting vertices have their sizes in the words.
  abbrev pub Sized : ℕ → ℕ → Type 0
  Sized v n = (u : ℕ) → Least stages v n u → second_word diagrams u ≡ size (function_of p u)

  -- The lesser of two sizes.
  lesser-smaller :
      (v : ℕ) (later : Option ℕ) → second_word diagrams v ≡ size (function_of p v)
      → ((w : ℕ) → later ≡ Some w → second_word diagrams w ≡ size (function_of p w)) → lesser diagrams v later ≡ smaller p v (twin_of later)
  unfolding lesser smaller
  lesser-smaller v None here there = refl
  lesser-smaller v (Some w) here there = ap₂ (λ (a b : ℕ). cond (leb a b) v w) here (there w refl)

  pick_from_lem : (n v : ℕ) → Sized v n → twin_of (least_from stages diagrams v n) ≡ pick_from p v (stages_from stages v n)
  unfolding least_from pick_here pick_from stages_from
  pick_from_lem zero v sized = refl
  pick_from_lem (suc n) v sized =
      go (least_from stages diagrams (suc v) n) (λ w k. sized w (least-later (least-is stages diagrams n (suc v) w k)))
      (pick_from_lem n (suc v) (λ u l. sized u (least-later l)))
      (waits? (word_stage (first_word stages v))) refl
    where
      go :
          (q : Option ℕ) → ((w : ℕ) → q ≡ Some w → second_word diagrams w ≡ size (function_of p w)) → {t : Candidate} → twin_of q ≡ t → (b : Bool)
          → waits? (word_stage (first_word stages v)) ≡ b
          → twin_of (cond b (Some (lesser diagrams v q)) q) ≡ cond b (at (smaller p v t)) t
      go q there e true h =
          ap at
          (lesser-smaller v q (sized v (record { waits = h; from = omega arith; within = omega arith })) there ∙ ap (smaller p v) e)
      go q there e false h = e

  -- It is the model's pick.
  pub pick_models : (count : ℕ) → Sized 0 count → twin_of (least_from stages diagrams 0 count) ≡ pick_from p 0 (stages_of stages count)
  pick_models count sized = pick_from_lem count 0 sized
