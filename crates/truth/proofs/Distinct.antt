-- Laws of members and distinct members under a test of sameness.
use Prim.Native.Nat.{◌+◌, ◌≤◌, suc}
use Rattle.truth.proofs.Booleans.{and_left, and_right, clash, not_true, or_cases, or_left, or_right}
use Rattle.truth.specs.Distinct.{Sameness, among, apart, distinct, filter}
use lib.ListN.{length}
use mathlib.Core.Bool.{Bool, ◌||◌, cond, false, not, or_assoc, true}
use mathlib.Core.List.{List, [], ◌++◌, ◌∷◌}
use mathlib.Core.Logic.{⊎_elim}
use mathlib.Core.Path.{◌∙◌, ◌≡◌, ap, ap₂, refl, sym}
use native.Mathlib.Omega.{arith}

-- The members of two lists after one another that pass a test.
pub filter_append : {A : Type 0} (p : A → Bool) (xs ys : List A) → filter p (xs ++ ys) ≡ filter p xs ++ filter p ys
unfolding filter
filter_append p [] ys = refl
filter_append p (x ∷ xs) ys = go (p x) (filter_append p xs ys)
  where
    go : (b : Bool) → filter p (xs ++ ys) ≡ filter p xs ++ filter p ys
        → cond b (x ∷ filter p (xs ++ ys)) (filter p (xs ++ ys)) ≡ cond b (x ∷ filter p xs) (filter p xs) ++ filter p ys
    go true e = ap (◌∷◌ x) e
    go false e = e

module _ {A : Type 0} (same : A → A → Bool) where
  -- A member of two lists after one another is a member of one of them.
  pub among_append : (x : A) (ys zs : List A) → among same x (ys ++ zs) ≡ among same x ys || among same x zs
  unfolding among
  among_append x [] zs = refl
  among_append x (y ∷ ys) zs = ap (◌||◌ (same x y)) (among_append x ys zs) ∙ sym (or_assoc (same x y) (among same x ys) (among same x zs))

  -- Every member of the first list is a member of the second.
  abbrev pub Within : List A → List A → Type 0
  Within xs ys = (z : A) → among same z xs ≡ true → among same z ys ≡ true

  -- The list without the members that are the same as x.
  without : A → List A → List A
  without x ys = filter (λ y. not (same x y)) ys

module _ {A : Type 0} (same : A → A → Bool) (S : Sameness same) where
  -- What is the same as x is a member where x is.
  pub among-congruent : (x y : A) (zs : List A) → same x y ≡ true → among same x zs ≡ among same y zs
  unfolding among
  among-congruent x y [] e = refl
  among-congruent x y (z ∷ zs) e = ap₂ ◌||◌ (S.congruent x y z e) (among-congruent x y zs e)

  among_without : (x z : A) (ys : List A) → same x z ≡ false → among same z (without same x ys) ≡ among same z ys
  unfolding among without filter
  among_without x z [] e = refl
  among_without x z (y ∷ ys) e = go (same x y) refl (among_without x z ys e)
    where
      go : (b : Bool) → same x y ≡ b → among same z (without same x ys) ≡ among same z ys
          → among same z (cond (not b) (y ∷ without same x ys) (without same x ys)) ≡ same z y || among same z ys
      go true f ih = rw (S.symmetric z y, ← (S.congruent x y z f), e) ih
      go false f ih = ap (◌||◌ (same z y)) ih

  without_none : (x : A) (ys : List A) → among same x ys ≡ false → without same x ys ≡ ys
  unfolding among without filter
  without_none x [] e = refl
  without_none x (y ∷ ys) e =
      let n : same x y ≡ false = not_true (same x y) (λ h. clash (or_left (same x y) (among same x ys) h) e) in
      let m : among same x ys ≡ false = not_true (among same x ys) (λ h. clash (or_right (same x y) (among same x ys) h) e) in
      rw n (ap (◌∷◌ y) (without_none x ys m))

  -- Taking a member out makes one distinct member fewer.
  distinct_without : (x : A) (ys : List A) → among same x ys ≡ true → length (distinct same ys) ≡ suc (length (distinct same (without same x ys)))
  unfolding among distinct without filter
  distinct_without x [] e = clash e refl
  distinct_without x (y ∷ ys) e = go (same x y) refl (among same x ys) refl (distinct_without x ys)
    where
      push : (b : Bool) (us vs : List A) → length us ≡ suc (length vs) → length (cond b us (y ∷ us)) ≡ suc (length (cond b vs (y ∷ vs)))
      push true us vs h = h
      push false us vs h = ap suc h

      go : (b : Bool) → same x y ≡ b → (c : Bool) → among same x ys ≡ c
          → (among same x ys ≡ true → length (distinct same ys) ≡ suc (length (distinct same (without same x ys))))
          → length (cond (among same y ys) (distinct same ys) (y ∷ distinct same ys))
          ≡ suc (length (distinct same (cond (not b) (y ∷ without same x ys) (without same x ys))))
      go true f true g ih = rw (← (among-congruent x y ys f), g) (ih g)
      go true f false g ih = rw (← (among-congruent x y ys f), g, without_none x ys g)
      go false f c g ih =
          rw (among_without x y ys f) (push (among same y ys) (distinct same ys) (distinct same (without same x ys)) (ih (⊎_elim (λ h. clash h f) (λ h. h) (or_cases (same x y) (among same x ys) e))))

  -- A list whose members are all members of another has at most as many distinct ones.
  pub distinct-within : (xs ys : List A) → Within same xs ys → length (distinct same xs) ≤ length (distinct same ys)
  unfolding among distinct
  distinct-within [] ys h = omega arith
  distinct-within (x ∷ xs) ys h = go (among same x xs) refl (distinct-within xs)
    where
      go : (b : Bool) → among same x xs ≡ b → ((zs : List A) → Within same xs zs → length (distinct same xs) ≤ length (distinct same zs))
          → length (cond b (distinct same xs) (x ∷ distinct same xs)) ≤ length (distinct same ys)
      go true e ih = ih ys (λ z f. h z (or_right (same z x) (among same z xs) f))
      go false e ih =
          let f = distinct_without x ys (h x (or_left (same x x) (among same x xs) (S.reflexive x))) in
          let k = ih (without same x ys) (λ z g. among_without x z ys (not_true (same x z) (λ d. clash g (sym (among-congruent x z xs d) ∙ e))) ∙ h z (or_right (same z x) (among same z xs) g)) in
          omega arith

  -- Lists with the same members have equally many distinct ones.
  pub distinct-same : (xs ys : List A) → ((z : A) → among same z xs ≡ among same z ys) → length (distinct same xs) ≡ length (distinct same ys)
  distinct-same xs ys h =
      omega (arith, distinct-within xs ys (λ z e. sym (h z) ∙ e), distinct-within ys xs (λ z e. h z ∙ e))

  -- Dropping repeats keeps the members.
  pub among-distinct : (z : A) (xs : List A) → among same z (distinct same xs) ≡ among same z xs
  unfolding among distinct
  among-distinct z [] = refl
  among-distinct z (x ∷ xs) = go (among same x xs) refl (among-distinct z xs)
    where
      go : (b : Bool) → among same x xs ≡ b → among same z (distinct same xs) ≡ among same z xs
          → among same z (cond b (distinct same xs) (x ∷ distinct same xs)) ≡ same z x || among same z xs
      go true e ih = ih ∙ drop (same z x) refl
        where
          drop : (c : Bool) → same z x ≡ c → among same z xs ≡ c || among same z xs
          drop true f = among-congruent z x xs f ∙ e
          drop false f = refl
      go false e ih = ap (◌||◌ (same z x)) ih

  -- What is left has no repeats, and a list without repeats is left as it is.
  pub distinct_apart : (xs : List A) → apart same (distinct same xs) ≡ true
  unfolding apart distinct
  distinct_apart [] = refl
  distinct_apart (x ∷ xs) = go (among same x xs) refl (distinct_apart xs)
    where
      go : (b : Bool) → among same x xs ≡ b → apart same (distinct same xs) ≡ true → apart same (cond b (distinct same xs) (x ∷ distinct same xs)) ≡ true
      go true e ih = ih
      go false e ih = rw (among-distinct x xs, e) ih

  pub apart_distinct : (xs : List A) → apart same xs ≡ true → distinct same xs ≡ xs
  unfolding apart distinct
  apart_distinct [] h = refl
  apart_distinct (x ∷ xs) h =
      let n : among same x xs ≡ false = not_true (among same x xs) (λ e. clash (and_left (not (among same x xs)) (apart same xs) h) (ap not e)) in
      rw n (ap (◌∷◌ x) (apart_distinct xs (and_right (not (among same x xs)) (apart same xs) h)))

  -- Counting the distinct members of two lists together counts a shared one once.
  pub distinct_append : (xs ys : List A) → length (distinct same (xs ++ ys)) + length (filter (λ x. among same x ys) (distinct same xs))
      ≡ length (distinct same xs) + length (distinct same ys)
  unfolding distinct filter
  distinct_append [] ys = omega arith
  distinct_append (x ∷ xs) ys = rw (among_append same x xs ys) (go (among same x xs) (among same x ys) refl (distinct_append xs ys))
    where
      shared : List A → List A
      shared us = filter (λ u. among same u ys) us

      go : (b c : Bool) → among same x ys ≡ c
          → length (distinct same (xs ++ ys)) + length (shared (distinct same xs)) ≡ length (distinct same xs) + length (distinct same ys)
          → length (cond (b || c) (distinct same (xs ++ ys)) (x ∷ distinct same (xs ++ ys))) + length (shared (cond b (distinct same xs) (x ∷ distinct same xs)))
          ≡ length (cond b (distinct same xs) (x ∷ distinct same xs)) + length (distinct same ys)
      go true c e ih = ih
      go false true e ih = rw e (omega arith)
      go false false e ih = rw e (omega arith)
