-- The literals of a file's first vertices, written over a list.
use Prim.Native.Nat.{◌*◌, ◌+◌, ◌-◌, ◌<◌, ◌≤◌, ℕ}
use Rattle.load_model.specs.Build.{literals_from}
use Rattle.text.specs.Decimal.{written}
use Rattle.words.proofs.Writing.{Writing, ahead-one, writing-ends, writing-turn}
use lib.ListN.{length, set}
use mathlib.Core.List.{List, ◌∷◌}
use mathlib.Core.Path.{◌∙◌, ◌≡◌, ap, sym}
use native.Mathlib.Numerals.{add-one}
use native.Mathlib.Omega.{arith}

literals_cons : (v n : ℕ) → v < n → literals_from v (n - v) ≡ 2 * v ∷ literals_from (v + 1) (n - (v + 1))
unfolding literals_from
literals_cons v n h =
    ap (literals_from v) (ahead-one v n h) ∙ ap (λ (u : ℕ). 2 * v ∷ literals_from u (n - (v + 1))) (sym (add-one v))

module _ {old list : List ℕ} {n v : ℕ} (w : Writing old 0 (literals_from 0 n) list v (literals_from v (n - v))) where
  pub literals-turn : v < n → v < length list → Writing old 0 (literals_from 0 n) (set list v (2 * v)) (v + 1) (literals_from (v + 1) (n - (v + 1)))
  literals-turn h l = writing-turn (rw (literals_cons v n h) at w) l

  pub literals_end : n ≤ v → list ≡ written old 0 (literals_from 0 n)
  unfolding literals_from
  literals_end h = let z : n - v ≡ 0 = omega arith in writing-ends (rw z at w)
