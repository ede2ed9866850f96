-- Words written one after the other over a list.
use Prim.Native.Nat.{◌*◌, ◌+◌, ◌-◌, ◌<◌, ◌≤◌, suc, ℕ}
use Rattle.aig.specs.Lookup.{own_words}
use Rattle.text.proofs.DecimalLaws.{written_append, written_one}
use Rattle.text.specs.Decimal.{written}
use lib.ListN.{drop, drop_of_length-le, get_or, length, length-set, set, take-append-drop}
use lib.Seq.{drop-cons}
use mathlib.Core.List.{List, [], ◌∷◌}
use mathlib.Core.Path.{◌∙◌, ◌≡◌, ap, refl, sym}
use native.Mathlib.Numerals.{add-one}
use native.Mathlib.Omega.{arith}

-- The words `all` are being written from `at` on: those before `k` are there, and `rest` are ahead.
pub record Writing (old : List ℕ) (at : ℕ) (all list : List ℕ) (k : ℕ) (rest : List ℕ) : Type 0 where
  pub same : length list ≡ length old
  pub ahead : written list k rest ≡ written old at all

pub writing_begins : (old : List ℕ) (at : ℕ) (all : List ℕ) → Writing old at all old at all
writing_begins old at all = record { same = refl; ahead = refl }

-- One word is written, and the others are ahead.
pub writing-turn :
    {old all list rest : List ℕ} {at k x : ℕ} → Writing old at all list k (x ∷ rest) → k < length list → Writing old at all (set list k x) (k + 1) rest
writing-turn {list = list} {rest = rest} {k = k} {x = x} w h =
    record {
      same = length-set list k x ∙ w.same;
      ahead = rw (written_one list k x h) (written_append list k (x ∷ []) (omega arith) rest) ∙ w.ahead;
    }

-- None is left.
pub writing-ends : {old all list : List ℕ} {at k : ℕ} → Writing old at all list k [] → list ≡ written old at all
unfolding written
writing-ends {list = list} {k = k} w =
    let z : k + 0 ≡ k = omega arith in
    sym (take-append-drop k list) ∙ (rw z at w.ahead)

-- One more is ahead.
pub ahead-one : (v n : ℕ) → v < n → n - v ≡ suc (n - (v + 1))
ahead-one v n h = omega arith

own_cons : (v n : ℕ) → v < n → own_words v (n - v) ≡ 2 * v ∷ 2 * v ∷ own_words (v + 1) (n - (v + 1))
unfolding own_words
own_cons v n h =
    ap (own_words v) (ahead-one v n h) ∙ ap (λ (u : ℕ). 2 * v ∷ 2 * v ∷ own_words u (n - (v + 1))) (sym (add-one v))

-- The words of the first vertices.
pub own_begins : (old : List ℕ) (n : ℕ) → Writing old 0 (own_words 0 n) old 0 (own_words 0 (n - 0))
own_begins old n = let z : n - 0 ≡ n = omega arith in rw z (writing_begins old 0 (own_words 0 n))

module _ {old list : List ℕ} {n v : ℕ} (w : Writing old 0 (own_words 0 n) list (2 * v) (own_words v (n - v))) where
  pub own_turn :
      v < n → 2 * v + 1 < length list → Writing old 0 (own_words 0 n) (set (set list (2 * v) (2 * v)) (2 * v + 1) (2 * v)) (2 * (v + 1)) (own_words (v + 1) (n - (v + 1)))
  own_turn h l =
      let m : 2 * (v + 1) ≡ 2 * v + 1 + 1 = omega arith in
      rw m (writing-turn (writing-turn (rw (own_cons v n h) at w) (omega arith)) (rw (length-set list (2 * v) (2 * v)) l))

  pub own-ends : n ≤ v → list ≡ written old 0 (own_words 0 n)
  unfolding own_words
  own-ends h = let z : n - v ≡ 0 = omega arith in writing-ends (rw z at w)

-- Words copied: at the start all are ahead.
pub copy_begins : (old : List ℕ) (at : ℕ) (words : List ℕ) → Writing old at words old (at + 0) words
copy_begins old at words = let z : at + 0 ≡ at = omega arith in rw z (writing_begins old at words)

module _ {old words list : List ℕ} {at i : ℕ} (w : Writing old at words list (at + i) (drop i words)) where
  -- Word i is copied to place `at + i`.
  pub copy_turn : i < length words → at + i < length list → Writing old at words (set list (at + i) (get_or words i 0)) (at + (i + 1)) (drop (i + 1) words)
  copy_turn h l =
      let m : at + (i + 1) ≡ at + i + 1 = omega arith in
      rw (m, add-one i) (writing-turn (rw (drop-cons words i 0 h) at w) l)

  -- All are copied.
  pub copy_ends : length words ≤ i → list ≡ written old at words
  copy_ends h = writing-ends (rw (drop_of_length-le words h) at w)
