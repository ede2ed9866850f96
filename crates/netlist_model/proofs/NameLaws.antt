-- Names of inputs: what the tests of a name say, and its place among others.
use Prim.Native.Nat.{◌<◌, ◌≤◌, suc, zero, ℕ}
use Rattle.netlist_model.specs.Limits.{by_name_edition, max_name}
use Rattle.netlist_model.specs.Names.{Among, IsName, LetterOrDigit, among?, capital, digit, first_lacked, found, here, name_count, place_of, small, there}
use Rattle.netlist_model.specs.Records.{letter_or_digit?, letters_or_digits?, name?}
use Rattle.text.proofs.BytesLaws.{same_iff}
use Rattle.text.specs.Bytes.{same_bytes}
use Rattle.truth.proofs.Booleans.{and_left, and_right, cond_cases, or_cases, or_left, or_right}
use borrow.Author.Tests.{le-leb, le-ltb, leb-true, lt-ltb, ltb-true}
use lib.Dec.{eqb, leb}
use lib.ListN.{get_or, length}
use mathlib.Core.Bool.{Bool, ◌&&◌, ◌||◌, cond, false, true}
use mathlib.Core.List.{List, [], ◌++◌, ◌∷◌}
use mathlib.Core.Logic.{⊎_elim}
use Rattle.std.specs.Prelude.{None, Some, is_some}
use mathlib.Core.Path.{◌≡◌, ap, refl, subst}
use native.Mathlib.Decide.{dec_lt}
use native.Mathlib.Omega.{arith}

-- At most as many names are due as there are inputs.
pub count-few : (e i : ℕ) → name_count e i ≤ i
unfolding name_count
count-few e i = cond_cases (λ n. n ≤ i) (eqb e by_name_edition) (λ h. omega arith) (λ h. omega arith)

-- A byte between two others.
between? : ℕ → ℕ → ℕ → Bool
between? l u b = leb l b && leb b u

between-told : (l u b : ℕ) → l ≤ b → b ≤ u → between? l u b ≡ true
unfolding between?
between-told l u b h k = rw (le-leb l b h) (le-leb b u k)

between_is : (l u b : ℕ) → between? l u b ≡ true → (l ≤ b) × (b ≤ u)
unfolding between?
between_is l u b h = (leb-true l b (and_left (leb l b) (leb b u) h), leb-true b u (and_right (leb l b) (leb b u) h))

-- The test of a letter or digit.
letter_told : {b : ℕ} → LetterOrDigit b → letter_or_digit? b ≡ true
unfolding between?
letter_told {b} (digit h k) =
    or_left (between? 48 57 b || between? 65 90 b) (between? 97 122 b) (or_left (between? 48 57 b) (between? 65 90 b) (between-told 48 57 b h k))
letter_told {b} (capital h k) =
    or_left (between? 48 57 b || between? 65 90 b) (between? 97 122 b) (or_right (between? 48 57 b) (between? 65 90 b) (between-told 65 90 b h k))
letter_told {b} (small h k) = or_right (between? 48 57 b || between? 65 90 b) (between? 97 122 b) (between-told 97 122 b h k)

letter_is : (b : ℕ) → letter_or_digit? b ≡ true → LetterOrDigit b
unfolding between?
letter_is b h =
    ⊎_elim
    (λ k. ⊎_elim (λ l. let p = between_is 48 57 b l in digit p.0 p.1) (λ l. let p = between_is 65 90 b l in capital p.0 p.1)
    (or_cases (between? 48 57 b) (between? 65 90 b) k))
    (λ k. let p = between_is 97 122 b k in small p.0 p.1)
    (or_cases (between? 48 57 b || between? 65 90 b) (between? 97 122 b) h)

-- Of letters and digits alone.
letters_told : (s : List ℕ) → ((i : ℕ) → i < length s → LetterOrDigit (get_or s i 0)) → letters_or_digits? s ≡ true
letters_told [] h = refl
letters_told (b ∷ bs) h = rw (letter_told (h 0 (omega arith))) (letters_told bs (λ i l. h (suc i) (omega arith)))

letters_are : (s : List ℕ) → letters_or_digits? s ≡ true → (i : ℕ) → i < length s → LetterOrDigit (get_or s i 0)
letters_are [] h i l = absurd (omega arith)
letters_are (b ∷ bs) h zero l = letter_is b (and_left (letter_or_digit? b) (letters_or_digits? bs) h)
letters_are (b ∷ bs) h (suc i) l = letters_are bs (and_right (letter_or_digit? b) (letters_or_digits? bs) h) i (omega arith)

-- The test of a name.
pub name-told : {s : List ℕ} → IsName s → name? s ≡ true
unfolding name?
name-told {s} n = rw (le-leb 1 (length s) n.some, le-leb (length s) max_name n.few) (letters_told s n.bytes)

pub name-is : (s : List ℕ) → name? s ≡ true → IsName s
unfolding name?
name-is s h =
    let both = and_left (leb 1 (length s) && leb (length s) max_name) (letters_or_digits? s) h in
    record {
      some = leb-true 1 (length s) (and_left (leb 1 (length s)) (leb (length s) max_name) both);
      few = leb-true (length s) max_name (and_right (leb 1 (length s)) (leb (length s) max_name) both);
      bytes = letters_are s (and_right (leb 1 (length s) && leb (length s) max_name) (letters_or_digits? s) h);
    }

-- The place of a name before others, and after another one.
pub place_here : (name x : List ℕ) (names : List (List ℕ)) → same_bytes name x ≡ true → place_of name (x ∷ names) ≡ 0
unfolding place_of
place_here name x names h = rw h refl

pub place-there : (name x : List ℕ) (names : List (List ℕ)) → same_bytes name x ≡ false → place_of name (x ∷ names) ≡ suc (place_of name names)
unfolding place_of
place-there name x names h = rw h refl

-- It is at most their number.
pub place-few : (name : List ℕ) (names : List (List ℕ)) → place_of name names ≤ length names
unfolding place_of
place-few name [] = omega arith
place-few name (x ∷ names) = go (same_bytes name x) (place-few name names)
  where
    go : (b : Bool) → place_of name names ≤ length names → cond b 0 (suc (place_of name names)) ≤ suc (length names)
    go true h = omega arith
    go false h = omega arith

-- A name that is among others has its place there, and one that has a place is among them.
pub among-place : {name : List ℕ} {names : List (List ℕ)} → Among name names → place_of name names < length names
unfolding place_of
among-place {name} here = rw ((same_iff name name).1 refl) (omega arith)
among-place {name} (there {other = x} {names = names} a) = go (same_bytes name x) (among-place a)
  where
    go : (b : Bool) → place_of name names < length names → cond b 0 (suc (place_of name names)) < suc (length names)
    go true h = omega arith
    go false h = omega arith

pub place-among : (name : List ℕ) (names : List (List ℕ)) → place_of name names < length names → Among name names
unfolding place_of
place-among name [] h = absurd (omega arith)
place-among name (x ∷ names) h = go (same_bytes name x) refl h (place-among name names)
  where
    go : (b : Bool) → same_bytes name x ≡ b → cond b 0 (suc (place_of name names)) < suc (length names)
        → (place_of name names < length names → Among name names) → Among name (x ∷ names)
    go true e l rest = subst (λ (y : List ℕ). Among name (y ∷ names)) ((same_iff name x).0 e) here
    go false e l rest = there (rest (omega arith))

-- It is found where it is among them.
pub found_among : (name : List ℕ) (names : List (List ℕ)) → is_some (found name names) ≡ among? name names
found_among name names = elim (among? name names) as (λ b. is_some (cond b (Some (place_of name names)) None) ≡ b) [ true ↦ refl | false ↦ refl ]

-- Where all names are among others, none is lacked, and where none is lacked all are among them.
pub lacked-none : (names others : List (List ℕ)) → ((name : List ℕ) → Among name others → Among name names) → first_lacked names others ≡ length others
unfolding first_lacked
lacked-none names [] h = refl
lacked-none names (x ∷ others) h =
    rw (lt-ltb (place_of x names) (length names) (among-place (h x here))) (ap suc (lacked-none names others (λ name a. h name (there a))))

pub lacked-few : (names others : List (List ℕ)) → first_lacked names others ≤ length others
unfolding first_lacked
lacked-few names [] = omega arith
lacked-few names (x ∷ others) = go (among? x names) (lacked-few names others)
  where
    go : (b : Bool) → first_lacked names others ≤ length others → cond b (suc (first_lacked names others)) 0 ≤ suc (length others)
    go true h = omega arith
    go false h = omega arith

pub none-lacked : (names others : List (List ℕ)) → length others ≤ first_lacked names others → (name : List ℕ) → Among name others → Among name names
unfolding first_lacked
none-lacked names [] h name a = absurd (omega (arith, among-place a))
none-lacked names (x ∷ others) h name a = go (among? x names) refl h a (none-lacked names others)
  where
    go : {n : List ℕ} (b : Bool) → among? x names ≡ b → suc (length others) ≤ cond b (suc (first_lacked names others)) 0 → Among n (x ∷ others)
        → (length others ≤ first_lacked names others → (m : List ℕ) → Among m others → Among m names) → Among n names
    go true e l here rest = place-among x names (ltb-true (place_of x names) (length names) e)
    go {n = n} true e l (there b) rest = rest (omega arith) n b
    go false e l a rest = absurd (omega arith)

-- The first name that is not among others is the one lacked.
pub lacked-at : (names others : List (List ℕ)) (name : List ℕ) (more : List (List ℕ))
    → ((n : List ℕ) → Among n others → Among n names) → (Among name names → ⊥) → first_lacked names (others ++ name ∷ more) ≡ length others
unfolding first_lacked
lacked-at names [] name more h k = rw (le-ltb (place_of name names) (length names) (not_placed k)) refl
  where
    not_placed : (Among name names → ⊥) → length names ≤ place_of name names
    not_placed k = elim (dec_lt (place_of name names) (length names)) [ yes l ↦ absurd (k (place-among name names l)) | no l ↦ omega arith ]
lacked-at names (x ∷ others) name more h k =
    rw (lt-ltb (place_of x names) (length names) (among-place (h x here))) (ap suc (lacked-at names others name more (λ n a. h n (there a)) k))
