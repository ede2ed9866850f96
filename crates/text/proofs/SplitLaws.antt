-- Laws of `up_to`, `split_at` and `join`.
use Prim.Native.Nat.{◌+◌, ◌<◌, ◌≤◌, suc, ℕ}
use Rattle.std.proofs.lemmas.List.Splits.{join_with_byte-slice_split}
use Rattle.std.specs.List.{onto_first}
use Rattle.text.specs.Split.{any_has, has, join, split_at, up_to}
use borrow.Author.Tests.{eq-eqb, ne_eqb}
use lib.Dec.{eqb}
use lib.ListN.{drop, get_or, length, length-drop}
use lib.Seq.{drop-drop}
use mathlib.Core.Bool.{Bool, ◌||◌, cond, false, false≢true, or-false, true}
use mathlib.Core.List.{List, [], ◌++◌, ◌∷◌}
use mathlib.Core.Path.{◌∙◌, ◌≡◌, ap, refl, sym}
use native.Mathlib.Numerals.{add-one}
use native.Mathlib.Omega.{arith}

-- Bytes without the separator are passed whole.
pub up_to-all : (k : ℕ) (s : List ℕ) → has k s ≡ false → up_to k s ≡ s
up_to-all k [] h = refl
up_to-all k (b ∷ bs) h = go (eqb b k) (up_to-all k bs) h
  where
    go : (t : Bool) → (has k bs ≡ false → up_to k bs ≡ bs) → (t || has k bs) ≡ false → cond t [] (b ∷ up_to k bs) ≡ b ∷ bs
    go true f e = cc
    go false f e = ap (λ (l : List ℕ). b ∷ l) (f e)

-- The bytes up to a separator are fewer than all.
pub up_to_shorter : (k : ℕ) (s : List ℕ) → has k s ≡ true → length (up_to k s) < length s
up_to_shorter k [] h = absurd (false≢true h)
up_to_shorter k (b ∷ bs) h = go (eqb b k) (up_to_shorter k bs) h
  where
    go : (t : Bool) → (has k bs ≡ true → length (up_to k bs) < length bs) → (t || has k bs) ≡ true → length (cond t [] (b ∷ up_to k bs)) < suc (length bs)
    go true f e = omega arith
    go false f e = omega (arith, f e)

-- Bytes of which those up to the separator are fewer have it.
pub has_shorter : (k : ℕ) (s : List ℕ) → length (up_to k s) < length s → has k s ≡ true
has_shorter k s h = go (has k s) refl
  where
    go : (t : Bool) → has k s ≡ t → t ≡ true
    go true e = refl
    go false e = absurd (omega (arith, ap length (up_to-all k s e)))

-- Bytes of which those up to the separator are not fewer lack it.
pub has-whole : (k : ℕ) (s : List ℕ) → length s ≤ length (up_to k s) → has k s ≡ false
has-whole k s h = go (has k s) refl
  where
    go : (t : Bool) → has k s ≡ t → t ≡ false
    go true e = absurd (omega (arith, up_to_shorter k s e))
    go false e = refl

-- Bytes without the separator are one part.
pub split_at-last : (k : ℕ) (s : List ℕ) → has k s ≡ false → split_at k s ≡ s ∷ []
split_at-last k [] h = refl
split_at-last k (b ∷ bs) h = go (eqb b k) (split_at-last k bs) h
  where
    go : (t : Bool) → (has k bs ≡ false → split_at k bs ≡ bs ∷ []) → (t || has k bs) ≡ false → cond t ([] ∷ split_at k bs) (onto_first b (split_at k bs)) ≡ (b ∷ bs) ∷ []
    go true f e = cc
    go false f e = rw (f e) refl

-- Bytes with a separator: the first part is up to it, the others are those of what follows it.
pub split_at-more : (k : ℕ) (s : List ℕ) → has k s ≡ true → split_at k s ≡ up_to k s ∷ split_at k (drop (length (up_to k s) + 1) s)
split_at-more k [] h = cc
split_at-more k (b ∷ bs) h = go (eqb b k) (split_at-more k bs) h
  where
    go : (t : Bool) → (has k bs ≡ true → split_at k bs ≡ up_to k bs ∷ split_at k (drop (length (up_to k bs) + 1) bs)) → (t || has k bs) ≡ true
        → cond t ([] ∷ split_at k bs) (onto_first b (split_at k bs)) ≡ cond t [] (b ∷ up_to k bs) ∷ split_at k (drop (length (cond t [] (b ∷ up_to k bs)) + 1) (b ∷ bs))
    go true f e = refl
    go false f e = rw (f e, add-one (length (up_to k bs)), add-one (suc (length (up_to k bs)))) refl

-- The parts of what starts at `at`: a part that ends inside is followed by those of what starts after its separator.
pub split_at-next :
    (k : ℕ) (s : List ℕ) (at : ℕ)
    → at + length (up_to k (drop at s)) < length s
    → split_at k (drop at s) ≡ up_to k (drop at s) ∷ split_at k (drop (at + length (up_to k (drop at s)) + 1) s)
split_at-next k s at h =
    let n = length (up_to k (drop at s)) in
    let e : at + (n + 1) ≡ at + n + 1 = omega arith in
    let l : n < length (drop at s) = rw length-drop (omega arith) in
    split_at-more k (drop at s) (has_shorter k (drop at s) l) ∙ rw (drop-drop, e) refl

-- The first part is what stands up to the first separator.
pub split_at-first : (k : ℕ) (s : List ℕ) → get_or (split_at k s) 0 [] ≡ up_to k s
split_at-first k s = go (has k s) refl
  where
    go : (t : Bool) → has k s ≡ t → get_or (split_at k s) 0 [] ≡ up_to k s
    go true e = rw (split_at-more k s e) refl
    go false e = rw (split_at-last k s e, up_to-all k s e) refl

-- There is always a part.
pub split_at-some : (k : ℕ) (s : List ℕ) → 0 < length (split_at k s)
split_at-some k s = go (has k s) refl
  where
    go : (t : Bool) → has k s ≡ t → 0 < length (split_at k s)
    go true e = rw (split_at-more k s e) (omega arith)
    go false e = rw (split_at-last k s e) (omega arith)

-- A byte in front of the first part is in front of the parts joined.
pub join-on_first : (k b : ℕ) (ps : List (List ℕ)) → 0 < length ps → join k (onto_first b ps) ≡ b ∷ join k ps
join-on_first k b [] h = absurd (omega arith)
join-on_first k b (p ∷ []) h = refl
join-on_first k b (p ∷ (q ∷ ps)) h = refl

-- The parts joined are the bytes that were split.
pub join-split_at : (k : ℕ) (s : List ℕ) → join k (split_at k s) ≡ s
join-split_at k s = join_with_byte-slice_split k s

-- A part without the separator, then the separator: the first part is cut off.
pub split_at_append : (k : ℕ) (p s : List ℕ) → has k p ≡ false → split_at k (p ++ k ∷ s) ≡ p ∷ split_at k s
split_at_append k [] s h = rw (eq-eqb k k refl) refl
split_at_append k (b ∷ bs) s h = go (eqb b k) (split_at_append k bs s) h
  where
    go : (t : Bool) → (has k bs ≡ false → split_at k (bs ++ k ∷ s) ≡ bs ∷ split_at k s) → (t || has k bs) ≡ false
        → cond t ([] ∷ split_at k (bs ++ k ∷ s)) (onto_first b (split_at k (bs ++ k ∷ s))) ≡ (b ∷ bs) ∷ split_at k s
    go true f e = cc
    go false f e = rw (f e) refl

-- Parts without the separator, joined and split, are those parts.
pub split_at-join : (k : ℕ) (p : List ℕ) (ps : List (List ℕ)) → any_has k (p ∷ ps) ≡ false → split_at k (join k (p ∷ ps)) ≡ p ∷ ps
split_at-join k p [] h = go (has k p) refl h
  where
    go : (t : Bool) → has k p ≡ t → (t || false) ≡ false → split_at k p ≡ p ∷ []
    go true e h = cc
    go false e h = split_at-last k p e
split_at-join k p (q ∷ ps) h = go (has k p) refl (split_at-join k q ps) h
  where
    go : (t : Bool) → has k p ≡ t → (any_has k (q ∷ ps) ≡ false → split_at k (join k (q ∷ ps)) ≡ q ∷ ps) → (t || any_has k (q ∷ ps)) ≡ false → split_at k (p ++ k ∷ join k (q ∷ ps)) ≡ p ∷ (q ∷ ps)
    go true e f h = cc
    go false e f h = split_at_append k p (join k (q ∷ ps)) e ∙ ap (λ (l : List (List ℕ)). p ∷ l) (f h)

-- Bytes that lack a separator, one after the other, lack it.
lacks_append : (k : ℕ) (s t : List ℕ) → has k s ≡ false → has k t ≡ false → has k (s ++ t) ≡ false
lacks_append k [] t h g = g
lacks_append k (b ∷ bs) t h g = go (eqb b k) (λ e. lacks_append k bs t e g) h
  where
    go : (x : Bool) → (has k bs ≡ false → has k (bs ++ t) ≡ false) → (x || has k bs) ≡ false → (x || has k (bs ++ t)) ≡ false
    go true f e = e
    go false f e = f e

-- So do parts joined by another byte.
pub lacks-join : (k stop : ℕ) (ps : List (List ℕ)) → (stop ≡ k → ⊥) → any_has k ps ≡ false → has k (join stop ps) ≡ false
lacks-join k stop [] n h = refl
lacks-join k stop (p ∷ []) n h = sym (or-false (has k p)) ∙ h
lacks-join k stop (p ∷ (q ∷ ps)) n h = go (has k p) refl (lacks-join k stop (q ∷ ps) n) h
  where
    go :
        (x : Bool) → has k p ≡ x → (any_has k (q ∷ ps) ≡ false → has k (join stop (q ∷ ps)) ≡ false) → (x || any_has k (q ∷ ps)) ≡ false
        → has k (p ++ stop ∷ join stop (q ∷ ps)) ≡ false
    go true x f e = cc
    go false x f e = lacks_append k p (stop ∷ join stop (q ∷ ps)) x (rw (ne_eqb stop k n) (f e))
