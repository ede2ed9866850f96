-- What a turn of the loops that cut bytes into parts shows.
use Prim.Native.Nat.{◌+◌, ◌-◌, ◌<◌, ◌≤◌, suc, ℕ}
use Rattle.text.proofs.SplitLaws.{split_at-first, split_at-last, split_at-next, split_at-some, up_to_shorter}
use Rattle.std.specs.List.{onto_first}
use Rattle.text.specs.Split.{has, split_at, up_to}
use borrow.Author.Tests.{eq-eqb, ne_eqb}
use lib.ListN.{drop, drop_of_length-le, get_or, length, length-drop, take}
use lib.Seq.{drop-cons, drop-drop, drop-length, get_or-drop, take-suc}
use mathlib.Core.Bool.{Bool, false, true}
use mathlib.Core.List.{List, [], ◌++◌, ◌∷◌, append_assoc, append-nil}
use mathlib.Core.Path.{◌∙◌, ◌≡◌, ap, refl, sym}
use native.Mathlib.Numerals.{add-one}
use native.Mathlib.Omega.{arith}

-- A byte in front of the first part leaves the number of parts.
on_first_length : (b : ℕ) (ps : List (List ℕ)) → 0 < length ps → length (onto_first b ps) ≡ length ps
on_first_length b [] h = absurd (omega arith)
on_first_length b (p ∷ ps) h = refl

-- What the byte at `end` says of the bytes up to a separator.
module _ (k : ℕ) (s : List ℕ) (at end : ℕ) (from : at ≤ end) (inside : end < length s)
    (passed : up_to k (drop at s) ≡ take (end - at) (drop at s) ++ up_to k (drop end s)) where
  -- A separator ends them.
  pub up_to_stop : get_or s end 0 ≡ k → take (end - at) (drop at s) ≡ up_to k (drop at s)
  up_to_stop p =
      let e : up_to k (drop end s) ≡ [] = rw (drop-cons s end 0) (rw (eq-eqb (get_or s end 0) k p) refl) in
      sym (passed ∙ rw e (append-nil (take (end - at) (drop at s))))

  -- Any other byte is one of them.
  pub up_to_pass : (get_or s end 0 ≡ k → ⊥) → up_to k (drop at s) ≡ take (end + 1 - at) (drop at s) ++ up_to k (drop (end + 1) s)
  up_to_pass p =
      let e : up_to k (drop end s) ≡ get_or s end 0 ∷ up_to k (drop (suc end) s) = rw (drop-cons s end 0) (rw (ne_eqb (get_or s end 0) k p) refl) in
      let l : end - at < length (drop at s) = simp length-drop (omega arith) in
      let i : suc end - at ≡ suc (end - at) = omega arith in
      let g : at + (end - at) ≡ end = omega arith in
      let t : take (suc end - at) (drop at s) ≡ take (end - at) (drop at s) ++ (get_or s end 0 ∷ []) = rw (i, take-suc (drop at s) (end - at) 0) (rw (get_or-drop, g) refl) in
      passed ∙ rw (add-one end, t, append_assoc) (ap (λ (l : List ℕ). take (end - at) (drop at s) ++ l) e)

-- Without a separator the bytes are those to the end.
pub up_to_end : (k : ℕ) (s : List ℕ) (at : ℕ) → up_to k (drop at s) ≡ take (length s - at) (drop at s) ++ up_to k (drop (length s) s) → take (length s - at) (drop at s) ≡ up_to k (drop at s)
up_to_end k s at p = sym (p ∙ rw drop-length (append-nil (take (length s - at) (drop at s))))

-- What the byte at `at` says of the number of parts from it on.
module _ (k : ℕ) (s : List ℕ) (at : ℕ) (h : at < length s) where
  -- A separator ends a part.
  pub count_stop : get_or s at 0 ≡ k → length (split_at k (drop at s)) ≡ length (split_at k (drop (at + 1) s)) + 1
  count_stop e = rw (add-one at, drop-cons s at 0) (rw (eq-eqb (get_or s at 0) k e) (omega arith))

  -- Any other byte does not.
  pub count_pass : (get_or s at 0 ≡ k → ⊥) → length (split_at k (drop at s)) ≡ length (split_at k (drop (at + 1) s))
  count_pass e = rw (add-one at, drop-cons s at 0) (rw (ne_eqb (get_or s at 0) k e) (on_first_length (get_or s at 0) (split_at k (drop (suc at) s)) (split_at-some k (drop (suc at) s))))

-- At the end there is one part.
pub count_end : (k : ℕ) (s : List ℕ) (at : ℕ) → length s ≤ at → length (split_at k (drop at s)) ≡ 1
count_end k s at h = rw (drop_of_length-le s h) refl

-- The parts of what starts at `at` are those from `i` on.
module _ (k : ℕ) (s : List ℕ) (at i : ℕ) (parts : drop i (split_at k s) ≡ split_at k (drop at s)) where
  -- Part `i` starts at `at`.
  pub part_here : get_or (split_at k s) i [] ≡ up_to k (drop at s)
  part_here =
      let z : i ≡ i + 0 = omega arith in
      ap (λ (n : ℕ). get_or (split_at k s) n []) z ∙ sym (get_or-drop i (split_at k s) 0 []) ∙ rw parts (split_at-first k (drop at s))

  -- Where more follow it ends at a separator.
  pub part_ends : i + 1 < length (split_at k s) → at + length (up_to k (drop at s)) < length s
  part_ends more = go (has k (drop at s)) refl
    where
      go : (t : Bool) → has k (drop at s) ≡ t → at + length (up_to k (drop at s)) < length s
      go true e = omega (arith, up_to_shorter k (drop at s) e, length-drop at s)
      go false e = absurd (omega (arith, ap length parts, ap length (split_at-last k (drop at s) e), length-drop i (split_at k s)))

  -- And the others start after that.
  pub part_next : i + 1 < length (split_at k s) → drop (i + 1) (split_at k s) ≡ split_at k (drop (at + length (up_to k (drop at s)) + 1) s)
  part_next more = sym (drop-drop 1 i (split_at k s)) ∙ ap (λ (l : List (List ℕ)). drop 1 l) (parts ∙ split_at-next k s at (part_ends more))
