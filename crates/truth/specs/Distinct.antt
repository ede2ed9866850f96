-- Members of a list, and distinct members, under a given test of sameness.
use Rattle.std.specs.Prelude.{Bool, ◌&&◌, ◌||◌, cond, false, not, true, List, [], ◌∷◌, ◌≡◌}

-- What a test of sameness has to keep.
pub record Sameness {A : Type 0} (same : A → A → Bool) : Type 0 where
  pub reflexive : (x : A) → same x x ≡ true
  pub symmetric : (x y : A) → same x y ≡ same y x
  pub congruent : (x y z : A) → same x y ≡ true → same x z ≡ same y z

-- The members that pass a test, in order.
unfoldable pub filter : {A : Type 0} → (A → Bool) → List A → List A
filter p [] = []
filter p (x ∷ xs) = cond (p x) (x ∷ filter p xs) (filter p xs)

module _ {A : Type 0} (same : A → A → Bool) where
  -- Whether some member is the same as x.
  unfoldable pub among : A → List A → Bool
  among x [] = false
  among x (y ∷ ys) = same x y || among x ys

  -- The members that are not the same as a later one.
  unfoldable pub distinct : List A → List A
  distinct [] = []
  distinct (x ∷ xs) = cond (among x xs) (distinct xs) (x ∷ distinct xs)

  -- Whether no two members are the same.
  unfoldable pub apart : List A → Bool
  apart [] = true
  apart (x ∷ xs) = not (among x xs) && apart xs
