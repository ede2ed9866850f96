-- Laws of words and fields.
use Prim.Native.Nat.{◌%◌, ◌*◌, ◌+◌, ◌-◌, ◌/◌, ◌<◌, ◌≤◌, suc, zero, ℕ}
use Rattle.bdd.specs.code.Rows.{MARK, RADIX, child, head_at, high_at, level_at, low_at, mark_at, next_at, owner_at, put, word_at}
use lib.ListN.{get_or, length, length-set, set}
use lib.Seq.{ext_get_or, get_or-set_other, get_or-set_same}
use mathlib.Core.Bool.{Bool, false, true}
use mathlib.Core.List.{List}
use mathlib.Core.Logic.{◌⊎◌, inl, inr}
use mathlib.Core.Path.{◌≡◌, ap, refl, subst, sym}
use native.Mathlib.Decide.{ℕ_discrete}
use native.Mathlib.Omega.{arith}

-- A row's place is one less than its number.
pub suc_pred : (i : ℕ) → suc i - 1 ≡ i
suc_pred i = omega arith

-- Where a word stands.
pub word_none : (rows : List ℕ) (k i : ℕ) → i ≡ 0 → word_at rows k i ≡ 0
unfolding word_at
word_none rows k i e = rw e

pub word_at_lem : (rows : List ℕ) (k i : ℕ) → 1 ≤ i → word_at rows k i ≡ get_or rows ((i - 1) * 4 + k) 0
unfolding word_at
word_at_lem rows k zero h = absurd (omega arith)
word_at_lem rows k (suc i) h = ap (λ x. get_or rows (x * 4 + k) 0) (sym (suc_pred i))

pub put_at : (rows : List ℕ) (k i w : ℕ) → 1 ≤ i → put rows k i w ≡ set rows ((i - 1) * 4 + k) w
unfolding put
put_at rows k zero w h = absurd (omega arith)
put_at rows k (suc i) w h = ap (λ x. set rows (x * 4 + k) w) (sym (suc_pred i))

pub length_put : (rows : List ℕ) (k i w : ℕ) → length (put rows k i w) ≡ length rows
unfolding put
length_put rows k zero w = refl
length_put rows k (suc i) w = length-set rows (i * 4 + k) w

-- A word that was put is read back, and no other is changed.
pub put_same : (rows : List ℕ) (k i w : ℕ) → k < 4 → 1 ≤ i → i * 4 ≤ length rows → word_at (put rows k i w) k i ≡ w
unfolding word_at put
put_same rows k zero w small pos fits = absurd (omega arith)
put_same rows k (suc i) w small pos fits = get_or-set_same rows (i * 4 + k) w 0 (omega arith)

pub put_word : (rows : List ℕ) (k i w l j : ℕ) → k < 4 → l < 4 → (l ≡ k → ⊥) → word_at (put rows k i w) l j ≡ word_at rows l j
unfolding word_at put
put_word rows k zero w l j a b d = refl
put_word rows k (suc i) w l zero a b d = refl
put_word rows k (suc i) w l (suc j) a b d = get_or-set_other rows (i * 4 + k) (j * 4 + l) w 0 (λ e. d (apart i j k l e a b))
  where
    apart : (i j k l : ℕ) → j * 4 + l ≡ i * 4 + k → k < 4 → l < 4 → l ≡ k
    apart i j k l e a b = omega arith

pub put-row : (rows : List ℕ) (k i w l j : ℕ) → k < 4 → l < 4 → (j ≡ i → ⊥) → word_at (put rows k i w) l j ≡ word_at rows l j
unfolding word_at put
put-row rows k zero w l j a b d = refl
put-row rows k (suc i) w l zero a b d = refl
put-row rows k (suc i) w l (suc j) a b d = get_or-set_other rows (i * 4 + k) (j * 4 + l) w 0 (λ e. d (ap suc (apart i j k l e a b)))
  where
    apart : (i j k l : ℕ) → j * 4 + l ≡ i * 4 + k → k < 4 → l < 4 → j ≡ i
    apart i j k l e a b = omega arith

-- A field sees only its word.
module _ (s t : List ℕ) (i j : ℕ) where
  pub level_sees : word_at t 0 j ≡ word_at s 0 i → level_at t j ≡ level_at s i
  unfolding level_at
  level_sees e = ap (λ x. x % MARK) e

  pub mark_sees : word_at t 0 j ≡ word_at s 0 i → mark_at t j ≡ mark_at s i
  unfolding mark_at
  mark_sees e = ap (λ x. x / MARK % 2) e

  pub low_sees : word_at t 0 j ≡ word_at s 0 i → low_at t j ≡ low_at s i
  unfolding low_at
  low_sees e = ap (λ x. x / RADIX) e

  pub high_sees : word_at t 1 j ≡ word_at s 1 i → high_at t j ≡ high_at s i
  unfolding high_at
  high_sees e = ap (λ x. x / RADIX) e

  pub child_sees : (b : Bool) → word_at t 0 j ≡ word_at s 0 i → word_at t 1 j ≡ word_at s 1 i → child t b j ≡ child s b i
  child_sees false e f = low_sees e
  child_sees true e f = high_sees f

  pub owner_sees : word_at t 1 j ≡ word_at s 1 i → owner_at t j ≡ owner_at s i
  unfolding owner_at
  owner_sees e = ap (λ x. x % RADIX) e

  pub next_sees : word_at t 2 j ≡ word_at s 2 i → next_at t j ≡ next_at s i
  unfolding next_at
  next_sees e = e

pub head_sees : (s t : List ℕ) (b : ℕ) → word_at t 3 (suc b) ≡ word_at s 3 (suc b) → head_at t b ≡ head_at s b
unfolding head_at
head_sees s t b e = e

-- A packed word read back.
module _ (rows : List ℕ) (i : ℕ) where
  pub level_packed : (a m : ℕ) → m < MARK → word_at rows 0 i ≡ a * RADIX + m → level_at rows i ≡ m
  unfolding level_at
  level_packed a m lt e = rw e (go a m lt)
    where
      go : (a m : ℕ) → m < MARK → (a * RADIX + m) % MARK ≡ m
      go a m lt = omega arith

  pub mark_packed : (a m : ℕ) → m < MARK → word_at rows 0 i ≡ a * RADIX + m → mark_at rows i ≡ 0
  unfolding mark_at
  mark_packed a m lt e = rw e (go a m lt)
    where
      go : (a m : ℕ) → m < MARK → (a * RADIX + m) / MARK % 2 ≡ 0
      go a m lt = omega arith

  pub low_packed : (a m : ℕ) → m < MARK → word_at rows 0 i ≡ a * RADIX + m → low_at rows i ≡ a
  unfolding low_at
  low_packed a m lt e = rw e (go a m lt)
    where
      go : (a m : ℕ) → m < MARK → (a * RADIX + m) / RADIX ≡ a
      go a m lt = omega arith

  pub high_packed : (b x : ℕ) → x < RADIX → word_at rows 1 i ≡ b * RADIX + x → high_at rows i ≡ b
  unfolding high_at
  high_packed b x lt e = rw e (go b x lt)
    where
      go : (b x : ℕ) → x < RADIX → (b * RADIX + x) / RADIX ≡ b
      go b x lt = omega arith

  pub owner_packed : (b x : ℕ) → x < RADIX → word_at rows 1 i ≡ b * RADIX + x → owner_at rows i ≡ x
  unfolding owner_at
  owner_packed b x lt e = rw e (go b x lt)
    where
      go : (b x : ℕ) → x < RADIX → (b * RADIX + x) % RADIX ≡ x
      go b x lt = omega arith

  -- A mark is 0 or 1.
  pub mark-cases : (mark_at rows i ≡ 0) ⊎ (mark_at rows i ≡ 1)
  unfolding mark_at
  mark-cases = elim (ℕ_discrete (word_at rows 0 i / MARK % 2) 0) [ yes e ↦ inl e | no d ↦ inr (omega arith) ]

-- The constant's level and mark are 0, and its edges lead to itself.
module _ (rows : List ℕ) where
  pub level-constant : level_at rows 0 ≡ 0
  unfolding level_at word_at
  level-constant = refl

  pub mark-constant : mark_at rows 0 ≡ 0
  unfolding mark_at word_at
  mark-constant = refl

  pub child-constant : (b : Bool) → child rows b 0 / 2 ≡ 0
  unfolding low_at high_at word_at
  child-constant false = refl
  child-constant true = refl

pub level-row : (rows : List ℕ) (i : ℕ) → 1 ≤ level_at rows i → 1 ≤ i
level-row rows zero h = omega (arith, level-constant rows)
level-row rows (suc i) h = omega arith

-- The words determine the list.
pub words-equal : (s t : List ℕ) → length t ≡ length s → ((k i : ℕ) → k < 4 → word_at t k i ≡ word_at s k i) → t ≡ s
unfolding word_at
words-equal s t l w =
    ext_get_or 0 t s l (λ p lt. subst (λ (x : ℕ). get_or t x 0 ≡ get_or s x 0) (place p) (w (p % 4) (suc (p / 4)) (omega arith)))
  where
    place : (p : ℕ) → p / 4 * 4 + p % 4 ≡ p
    place p = omega arith
