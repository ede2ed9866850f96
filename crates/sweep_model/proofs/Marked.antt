-- Those of some things whose mark passes a test: after one mark is written, and among others that pass a weaker test.
use Prim.Native.Nat.{◌+◌, ◌-◌, ◌<◌, ◌≤◌, suc, zero, ℕ}
use Rattle.aig.specs.Lookup.{first_word, second_word}
use Rattle.sweep_model.specs.Claims.{And, ands_from, ands_of, marked, sum}
use Rattle.sweep_model.specs.Fit.{vertex_count}
use Rattle.sweep_model.specs.State.{Problem, literal_function}
use Rattle.truth.proofs.Booleans.{clash, or_cases, or_left, or_right}
use Rattle.truth.proofs.Distinct.{Within, among_append, distinct-same}
use Rattle.truth.proofs.Parts.{alike_sameness}
use Rattle.truth.proofs.Together.{together-within}
use Rattle.truth.specs.Distinct.{Sameness, among}
use Rattle.truth.specs.Parts.{alike?, all_parts, parts, together}
use Rattle.truth.specs.Truth.{Truth}
use lib.ListN.{drop, get_or, length, length-drop, set}
use lib.Seq.{drop-set-add, drop-set-lt, get_or-drop}
use mathlib.Core.Bool.{Bool, ◌||◌, cond, false, or_assoc, or_comm, true}
use mathlib.Core.List.{List, [], ◌++◌, ◌∷◌, map}
use mathlib.Core.Logic.{⊎_elim}
use mathlib.Core.Path.{◌∙◌, ◌≡◌, ap, refl, subst, sym}
use native.Mathlib.Omega.{arith}

-- The second list is the first with x put in somewhere.
pub data Inserted {A : Type 0} (x : A) : List A → List A → Type 0 where
  here : {xs : List A} → Inserted x xs (x ∷ xs)
  there : {y : A} {xs ys : List A} → Inserted x xs ys → Inserted x (y ∷ xs) (y ∷ ys)

-- The first list is the second without some of its members.
pub data Sublist {A : Type 0} : List A → List A → Type 0 where
  empty : {ys : List A} → Sublist [] ys
  keep : {x : A} {xs ys : List A} → Sublist xs ys → Sublist (x ∷ xs) (x ∷ ys)
  skip : {y : A} {xs ys : List A} → Sublist xs ys → Sublist xs (y ∷ ys)

-- Those of some things, one a vertex from v on, whose vertex passes a test.
unfoldable pub chosen_from : {A : Type 0} → (ℕ → Bool) → ℕ → List A → List A
chosen_from test v [] = []
chosen_from test v (x ∷ xs) = cond (test v) (x ∷ chosen_from test (suc v) xs) (chosen_from test (suc v) xs)

module _ {A : Type 0} (test : ℕ → Bool) where
  -- A mark that passes, in place of one that does not, adds its vertex.
  pub marked-put :
      (k : ℕ) → test k ≡ true → (marks : List ℕ) (xs : List A) (v : ℕ) (d : A) → test (get_or marks v 0) ≡ false → v < length marks → v < length xs
      → Inserted (get_or xs v d) (marked test marks xs) (marked test (set marks v k) xs)
  unfolding marked
  marked-put k e [] xs v d f h l = absurd (omega arith)
  marked-put k e (m ∷ marks) [] v d f h l = absurd (omega arith)
  marked-put k e (m ∷ marks) (x ∷ xs) zero d f h l = rw (e, f) here
  marked-put k e (m ∷ marks) (x ∷ xs) (suc v) d f h l = go (test m) (marked-put k e marks xs v d f (omega arith) (omega arith))
    where
      go : (b : Bool) {y : A} {ys zs : List A} → Inserted y ys zs → Inserted y (cond b (x ∷ ys) ys) (cond b (x ∷ zs) zs)
      go true i = there i
      go false i = i

  -- A mark that does not pass, in place of another, changes nothing.
  pub marked-stays :
      (k : ℕ) → test k ≡ false → (marks : List ℕ) (xs : List A) (v : ℕ) → test (get_or marks v 0) ≡ false
      → marked test (set marks v k) xs ≡ marked test marks xs
  unfolding marked
  marked-stays k e [] xs v f = refl
  marked-stays k e (m ∷ marks) [] zero f = refl
  marked-stays k e (m ∷ marks) [] (suc v) f = refl
  marked-stays k e (m ∷ marks) (x ∷ xs) zero f = rw (e, f)
  marked-stays k e (m ∷ marks) (x ∷ xs) (suc v) f = rw (marked-stays k e marks xs v f)

  -- Where no mark passes there is none.
  pub marked-none : (marks : List ℕ) (xs : List A) → ((v : ℕ) → test (get_or marks v 0) ≡ false) → marked test marks xs ≡ []
  unfolding marked
  marked-none [] xs h = refl
  marked-none (m ∷ marks) [] h = refl
  marked-none (m ∷ marks) (x ∷ xs) h = rw (h 0) (marked-none marks xs (λ v. h (suc v)))

  -- A vertex whose mark passes is among them.
  pub marked-among :
      (same : A → A → Bool) → Sameness same → (marks : List ℕ) (xs : List A) (v : ℕ) (d : A) → test (get_or marks v 0) ≡ true → v < length marks
      → v < length xs → among same (get_or xs v d) (marked test marks xs) ≡ true
  unfolding marked among
  marked-among same S [] xs v d e h l = absurd (omega arith)
  marked-among same S (m ∷ marks) [] v d e h l = absurd (omega arith)
  marked-among same S (m ∷ marks) (x ∷ xs) zero d e h l = rw e (or_left (same x x) (among same x (marked test marks xs)) (S.reflexive x))
  marked-among same S (m ∷ marks) (x ∷ xs) (suc v) d e h l = go (test m) (marked-among same S marks xs v d e (omega arith) (omega arith))
    where
      y : A
      y = get_or xs v d

      ys : List A
      ys = marked test marks xs

      go : (b : Bool) → among same y ys ≡ true → among same y (cond b (x ∷ ys) ys) ≡ true
      go true i = or_right (same y x) (among same y ys) i
      go false i = i

  module _ (other : ℕ → Bool) where
    -- Two tests that agree on the marks.
    pub marked-same :
        (marks : List ℕ) (xs : List A) → ((v : ℕ) → test (get_or marks v 0) ≡ other (get_or marks v 0)) → marked test marks xs ≡ marked other marks xs
    unfolding marked
    marked-same [] xs h = refl
    marked-same (m ∷ marks) [] h = refl
    marked-same (m ∷ marks) (x ∷ xs) h = rw (h 0, marked-same marks xs (λ v. h (suc v)))

    -- Where each vertex whose mark passes is chosen, those marked are among those chosen.
    pub marked-chosen :
        (marks : List ℕ) (xs : List A) (v : ℕ) → ((i : ℕ) → test (get_or marks i 0) ≡ true → other (v + i) ≡ true)
        → Sublist (marked test marks xs) (chosen_from other v xs)
    unfolding marked chosen_from
    marked-chosen [] xs v h = empty
    marked-chosen (m ∷ marks) [] v h = empty
    marked-chosen (m ∷ marks) (x ∷ xs) v h =
        go (test m) refl (other v) refl
        (marked-chosen marks xs (suc v) (λ i e. let k : v + suc i ≡ suc v + i = omega arith in subst (λ (u : ℕ). other u ≡ true) k (h (suc i) e)))
      where
        go : (a : Bool) → test m ≡ a → (b : Bool) → other v ≡ b → {ys zs : List A} → Sublist ys zs → Sublist (cond a (x ∷ ys) ys) (cond b (x ∷ zs) zs)
        go true e true f s = keep s
        go true e false f s = let k : v + 0 ≡ v = omega arith in clash (subst (λ (u : ℕ). other u ≡ true) k (h 0 e)) f
        go false e true f s = skip s
        go false e false f s = s

-- A sum with one term more.
pub sum_inserted : {A : Type 0} (f : A → ℕ) {x : A} {xs ys : List A} → Inserted x xs ys → sum (map f ys) ≡ f x + sum (map f xs)
unfolding sum
sum_inserted f here = refl
sum_inserted f (there {y = y} i) = let e = sum_inserted f i in omega arith

-- A sum with fewer terms is no larger.
pub sum_sublist : {A : Type 0} (f : A → ℕ) {xs ys : List A} → Sublist xs ys → sum (map f xs) ≤ sum (map f ys)
unfolding sum
sum_sublist f empty = omega arith
sum_sublist f (keep s) = let h = sum_sublist f s in omega arith
sum_sublist f (skip s) = let h = sum_sublist f s in omega arith

-- The parts of one function more.
pub parts_inserted : {f : Truth} {fs gs : List Truth} → Inserted f fs gs → (t : Truth) → among alike? t (all_parts gs) ≡ among alike? t (all_parts (f ∷ fs))
unfolding all_parts
parts_inserted here t = refl
parts_inserted {f} (there {y = g} {xs = fs} {ys = gs} i) t =
    among_append alike? t (parts g) (all_parts gs)
    ∙ ap (◌||◌ (among alike? t (parts g))) (parts_inserted i t ∙ among_append alike? t (parts f) (all_parts fs))
    ∙ turn (among alike? t (parts g)) (among alike? t (parts f)) (among alike? t (all_parts fs))
    ∙ sym (among_append alike? t (parts f) (parts g ++ all_parts fs) ∙ ap (◌||◌ (among alike? t (parts f))) (among_append alike? t (parts g) (all_parts fs)))
  where
    turn : (a b c : Bool) → a || (b || c) ≡ b || (a || c)
    turn a b c = sym (or_assoc a b c) ∙ ap (λ (x : Bool). x || c) (or_comm a b) ∙ or_assoc b a c

-- A part of some functions whose mark passes is a part of one of them.
pub marked-part :
    (test : ℕ → Bool) (marks : List ℕ) (fs : List Truth) (d t : Truth) → among alike? t (all_parts (marked test marks fs)) ≡ true
    → (v : ℕ) × (v < length fs) × (test (get_or marks v 0) ≡ true) × (among alike? t (parts (get_or fs v d)) ≡ true)
unfolding marked among all_parts
marked-part test [] fs d t e = clash e refl
marked-part test (m ∷ marks) [] d t e = clash e refl
marked-part test (m ∷ marks) (f ∷ fs) d t e = go (test m) refl e (marked-part test marks fs d t)
  where
    Found : List ℕ → List Truth → Type 0
    Found ms gs = (v : ℕ) × (v < length gs) × (test (get_or ms v 0) ≡ true) × (among alike? t (parts (get_or gs v d)) ≡ true)

    later : Found marks fs → Found (m ∷ marks) (f ∷ fs)
    later x = (suc x.0, omega (arith, x.1), x.2, x.3)

    go : (b : Bool) → test m ≡ b → among alike? t (all_parts (cond b (f ∷ marked test marks fs) (marked test marks fs))) ≡ true
        → (among alike? t (all_parts (marked test marks fs)) ≡ true → Found marks fs) → Found (m ∷ marks) (f ∷ fs)
    go true i k ih =
        ⊎_elim (λ j. (0, omega arith, i, j)) (λ j. later (ih j))
        (or_cases (among alike? t (parts f)) (among alike? t (all_parts (marked test marks fs))) (sym (among_append alike? t (parts f) (all_parts (marked test marks fs))) ∙ k))
    go false i k ih = later (ih k)

-- The number of parts of one function more.
pub together_inserted : {f : Truth} {fs gs : List Truth} → Inserted f fs gs → together gs ≡ together (f ∷ fs)
unfolding together
together_inserted {f} {fs} {gs} i = distinct-same alike? alike_sameness (all_parts gs) (all_parts (f ∷ fs)) (parts_inserted i)

-- What is left out of a list is no loss to the members of another.
pub sublist_within : {A : Type 0} (same : A → A → Bool) {xs ys : List A} → Sublist xs ys → Within same xs ys
unfolding among
sublist_within same empty z e = clash e refl
sublist_within same (keep {x = x} {xs = xs} {ys = ys} s) z e =
    ⊎_elim (or_left (same z x) (among same z ys)) (λ i. or_right (same z x) (among same z ys) (sublist_within same s z i))
    (or_cases (same z x) (among same z xs) e)
sublist_within same (skip {y = y} {ys = ys} s) z e = or_right (same z y) (among same z ys) (sublist_within same s z e)

-- Fewer functions have no more parts together.
pub together_sublist : {fs gs : List Truth} → Sublist fs gs → together fs ≤ together gs
together_sublist {fs} {gs} s = together-within fs gs (sublist_within alike? s)

-- The AND of a made vertex by given rows.
abbrev pub and_at : Problem → List ℕ → ℕ → And
and_at p rows v = (literal_function p (first_word rows v), literal_function p (second_word rows v))

module _ (p : Problem) (rows : List ℕ) where
  -- There is an AND a vertex,
  pub ands_length : (n v : ℕ) → length (ands_from p rows v n) ≡ n
  unfolding ands_from
  ands_length zero v = refl
  ands_length (suc n) v = ap suc (ands_length n (suc v))

  -- that of its row.
  pub ands-at : (n v i : ℕ) (d : And) → i < n → get_or (ands_from p rows v n) i d ≡ and_at p rows (v + i)
  unfolding ands_from
  ands-at zero v i d h = absurd (omega arith)
  ands-at (suc n) v zero d h = let e : v + 0 ≡ v = omega arith in rw e
  ands-at (suc n) v (suc i) d h = let e : v + suc i ≡ suc v + i = omega arith in rw e (ands-at n (suc v) i d (omega arith))

  module _ (test : ℕ → Bool) (marks : List ℕ) (long : length marks ≡ vertex_count p) (v k : ℕ) where
    module _ (made : p.first ≤ v) (unmarked : test (get_or marks v 0) ≡ false) where
      reached : p.first + (v - p.first) ≡ v
      reached = omega arith

      written : drop p.first (set marks v k) ≡ set (drop p.first marks) (v - p.first) k
      written =
          subst (λ (u : ℕ). drop p.first (set marks u k) ≡ set (drop p.first marks) (v - p.first) k) reached (drop-set-add p.first marks (v - p.first) k)

      before : test (get_or (drop p.first marks) (v - p.first) 0) ≡ false
      before = ap test (get_or-drop p.first marks (v - p.first) 0 ∙ ap (λ (u : ℕ). get_or marks u 0) reached) ∙ unmarked

      -- The mark of a made vertex, one that passes, adds its AND.
      pub ands-put :
          v < vertex_count p → test k ≡ true
          → Inserted (and_at p rows v) (marked test (drop p.first marks) (ands_of p rows)) (marked test (drop p.first (set marks v k)) (ands_of p rows))
      unfolding ands_of
      ands-put within e =
          rw written
          (subst (λ (x : And). Inserted x (marked test (drop p.first marks) ands) (marked test (set (drop p.first marks) (v - p.first) k) ands))
          (ands-at (vertex_count p - p.first) p.first (v - p.first) (and_at p rows v) (omega arith) ∙ ap (and_at p rows) reached)
          (marked-put test k e (drop p.first marks) ands (v - p.first) (and_at p rows v) before (omega (arith, length-drop p.first marks))
          (omega (arith, ands_length (vertex_count p - p.first) p.first))))
        where
          ands : List And
          ands = ands_from p rows p.first (vertex_count p - p.first)

      -- One that does not pass changes nothing.
      pub ands-stay :
          test k ≡ false → marked test (drop p.first (set marks v k)) (ands_of p rows) ≡ marked test (drop p.first marks) (ands_of p rows)
      ands-stay e = rw written (marked-stays test k e (drop p.first marks) (ands_of p rows) (v - p.first) before)

    -- The mark of a first vertex changes nothing.
    pub ands-first :
        v < p.first → marked test (drop p.first (set marks v k)) (ands_of p rows) ≡ marked test (drop p.first marks) (ands_of p rows)
    ands-first h = ap (λ (ms : List ℕ). marked test ms (ands_of p rows)) (drop-set-lt p.first marks v k h)
