-- The first difference: one input after the other, and the bytes written.
use Prim.Native.Nat.{◌*◌, ◌+◌, ◌-◌, ◌<◌, ◌≤◌, suc, ℕ}
use Rattle.bdd.proofs.DiagramLaws.{canonical, cofactor-reference, denote-node}
use Rattle.bdd.specs.Diagram.{Canonical, Reference, cofactor, denote}
use Rattle.bdd.specs.Difference.{digits}
use Rattle.bdd.specs.code.Walks.{Walks}
use Rattle.std.proofs.lemmas.Bool.{cases_lt}
use Rattle.truth.proofs.Booleans.{iff_equal}
use Rattle.truth.proofs.Equality.{equal-same, same-equal}
use Rattle.truth.specs.Settings.{first_difference}
use Rattle.truth.specs.Truth.{Setting, same?}
use borrow.Author.Tests.{eq-eqb, eqb-true}
use lib.Dec.{eqb}
use lib.ListN.{drop, get_or, length, length-append, length-set, set}
use lib.Seq.{append_snoc, drop-cons, set_at}
use mathlib.Core.Bool.{Bool, cond, false, true}
use mathlib.Core.List.{List, [], ◌++◌, ◌∷◌, append-nil}
use mathlib.Core.Logic.{⊎_elim}
use mathlib.Core.Path.{◌∙◌, ◌≡◌, ap, ap₂, refl, subst, sym}
use native.Mathlib.Omega.{arith}

digits_append : (s t : Setting) → digits (s ++ t) ≡ digits s ++ digits t
unfolding digits
digits_append [] t = refl
digits_append (x ∷ s) t = ap (◌∷◌ (cond x 49 48)) (digits_append s t)

length_digits : (s : Setting) → length (digits s) ≡ length s
unfolding digits
length_digits [] = refl
length_digits (x ∷ s) = ap suc (length_digits s)

digits_last : (s : Setting) (x : Bool) → digits (s ++ (x ∷ [])) ≡ digits s ++ (cond x 49 48 ∷ [])
unfolding digits
digits_last s x = digits_append s (x ∷ [])

nothing : (rows : List ℕ) (f g : ℕ) → first_difference (denote rows 0 f) (denote rows 0 g) ≡ []
unfolding denote first_difference
nothing rows f g = refl

module _ (rows : List ℕ) (n : ℕ) (C : Canonical rows n) (m f g : ℕ) (F : Reference rows n (suc m) f) (G : Reference rows n (suc m) g) where
  -- Whether the 0 cofactors are the same.
  abbrev same_low : Bool
  same_low = eqb (cofactor rows false (suc m) f) (cofactor rows false (suc m) g)

  test : same_low ≡ same? (denote rows m (cofactor rows false (suc m) f)) (denote rows m (cofactor rows false (suc m) g))
  test =
      iff_equal same_low (same? (denote rows m (cofactor rows false (suc m) f)) (denote rows m (cofactor rows false (suc m) g)))
      (λ e. equal-same (ap (denote rows m) (eqb-true (cofactor rows false (suc m) f) (cofactor rows false (suc m) g) e)))
      (λ e. eq-eqb (cofactor rows false (suc m) f) (cofactor rows false (suc m) g)
      (canonical rows n C m (cofactor rows false (suc m) f) (cofactor rows false (suc m) g) (cofactor-reference rows n C false m f F) (cofactor-reference rows n C false m g G)
      (same-equal (denote rows m (cofactor rows false (suc m) f)) (denote rows m (cofactor rows false (suc m) g)) e)))

  one_input : first_difference (denote rows (suc m) f) (denote rows (suc m) g)
      ≡ same_low ∷ first_difference (denote rows m (cofactor rows same_low (suc m) f)) (denote rows m (cofactor rows same_low (suc m) g))
  unfolding first_difference
  one_input = ap₂ first_difference (denote-node rows m f) (denote-node rows m g) ∙ rw (← test) (go same_low)
    where
      go : (b : Bool)
          → cond b
          (true ∷ first_difference (denote rows m (cofactor rows true (suc m) f)) (denote rows m (cofactor rows true (suc m) g)))
          (false ∷ first_difference (denote rows m (cofactor rows false (suc m) f)) (denote rows m (cofactor rows false (suc m) g)))
          ≡ b ∷ first_difference (denote rows m (cofactor rows b (suc m) f)) (denote rows m (cofactor rows b (suc m) g))
      go true = refl
      go false = refl

snoc_length : {A : Type 0} (xs : List A) (x : A) → length (xs ++ (x ∷ [])) ≡ suc (length xs)
snoc_length xs x = length-append xs (x ∷ []) ∙ go (length xs)
  where
    go : (k : ℕ) → k + 1 ≡ suc k
    go k = omega arith

-- The digits of the first i inputs are written; a and b are left, of the last level inputs.
pub record Writing (rows : List ℕ) (inputs f g : ℕ) (before now : List ℕ) (i level a b : ℕ) : Type 0 where
  pub used : ℕ
  pub canonical : Canonical rows used
  pub room : used * 4 ≤ length rows
  pub done : Setting
  pub at : length done ≡ i
  pub split : i + level ≡ inputs
  pub is : now ≡ digits done ++ drop i before
  pub whole : done ++ first_difference (denote rows level a) (denote rows level b) ≡ first_difference (denote rows inputs f) (denote rows inputs g)
  pub first : Reference rows used level a
  pub second : Reference rows used level b
  pub long : length now ≡ length before

-- Nothing is written yet: both references are to the rows of the store with more rows.
module _ {rows : List ℕ} {inputs f g : ℕ} (F : Walks rows inputs f) (G : Walks rows inputs g) (before : List ℕ) where
  begins : (n : ℕ) → Canonical rows n → n * 4 ≤ length rows → Reference rows n inputs f → Reference rows n inputs g
      → Writing rows inputs f g before before 0 inputs f g
  unfolding digits
  begins n C room A B =
      record { used = n; canonical = C; room = room; done = []; at = refl; split = omega arith; is = refl; whole = refl; first = A; second = B; long = refl }

  pub writing_begins : Writing rows inputs f g before before 0 inputs f g
  writing_begins =
      ⊎_elim
      (λ le. begins G.used G.canonical G.long (record { stored = omega (arith, F.here.stored, le); fits = F.here.fits }) G.here)
      (λ le. begins F.used F.canonical F.long F.here (record { stored = omega (arith, G.here.stored, le); fits = G.here.fits }))
      (cases_lt F.used G.used)

-- The digit of one input more.
abbrev pub digit_at : List ℕ → ℕ → ℕ → ℕ → Bool
digit_at rows level a b = eqb (cofactor rows false level a) (cofactor rows false level b)

pub writing-on : {rows : List ℕ} {inputs f g : ℕ} {before now : List ℕ} {i level a b : ℕ} → Writing rows inputs f g before now i level a b → 1 ≤ level
    → inputs ≤ length before → (byte : ℕ) → byte ≡ cond (digit_at rows level a b) 49 48
    → Writing rows inputs f g before (set now i byte) (suc i) (level - 1) (cofactor rows (digit_at rows level a b) level a)
    (cofactor rows (digit_at rows level a b) level b)
writing-on {rows} {inputs} {f} {g} {before} {now} {i} {level} {a} {b} W pos fits byte is = go (level - 1) (omega arith)
  where
    go : (m : ℕ) → level ≡ suc m
        → Writing rows inputs f g before (set now i byte) (suc i) m (cofactor rows (digit_at rows level a b) level a)
        (cofactor rows (digit_at rows level a b) level b)
    go m e =
        rw e
        (record {
          used = W.used;
          canonical = W.canonical;
          room = W.room;
          done = W.done ++ (y ∷ []);
          at = snoc_length W.done y ∙ ap suc W.at;
          split = omega (arith, W.split);
          is = written;
          whole = append_snoc W.done y (first_difference (denote rows m (cofactor rows y (suc m) a)) (denote rows m (cofactor rows y (suc m) b)))
              ∙ ap (◌++◌ W.done) (sym (one_input rows W.used W.canonical m a b R Q))
              ∙ ap (λ k. W.done ++ first_difference (denote rows k a) (denote rows k b)) (sym e)
              ∙ W.whole;
          first = cofactor-reference rows W.used W.canonical y m a R;
          second = cofactor-reference rows W.used W.canonical y m b Q;
          long = length-set now i byte ∙ W.long;
        })
      where
        y : Bool
        y = digit_at rows (suc m) a b

        R : Reference rows W.used (suc m) a
        R = subst (λ (k : ℕ). Reference rows W.used k a) e W.first

        Q : Reference rows W.used (suc m) b
        Q = subst (λ (k : ℕ). Reference rows W.used k b) e W.second

        here : length (digits W.done) ≡ i
        here = length_digits W.done ∙ W.at

        room : i < length before
        room = omega (arith, W.split)

        rest : List ℕ
        rest = drop (suc i) before

        written : set now i byte ≡ digits (W.done ++ (y ∷ [])) ++ rest
        written =
            ap (λ (l : List ℕ). set l i byte) (W.is ∙ ap (◌++◌ (digits W.done)) (drop-cons before i 0 room))
            ∙ set_at (digits W.done) (get_or before i 0) rest byte i here
            ∙ sym (append_snoc (digits W.done) byte rest)
            ∙ ap (λ v. (digits W.done ++ (v ∷ [])) ++ rest) (subst (λ (k : ℕ). byte ≡ cond (digit_at rows k a b) 49 48) e is)
            ∙ ap (λ v. v ++ rest) (sym (digits_last W.done y))

pub writing-ends : {rows : List ℕ} {inputs f g : ℕ} {before now : List ℕ} {i level a b : ℕ} → Writing rows inputs f g before now i level a b → level ≡ 0
    → now ≡ digits (first_difference (denote rows inputs f) (denote rows inputs g)) ++ drop inputs before
writing-ends {rows} {inputs} {f} {g} {before} {now} {i} {level} {a} {b} W z =
    let l : i ≡ inputs = omega (arith, W.split) in
    W.is
    ∙ ap₂ (λ (s : Setting) (k : ℕ). digits s ++ drop k before)
    (sym (append-nil W.done) ∙ ap (◌++◌ W.done) (sym (nothing rows a b)) ∙ ap (λ k. W.done ++ first_difference (denote rows k a) (denote rows k b)) (sym z) ∙ W.whole)
    l
