-- The tests of rows and references by one step: what is left after the first.
use Rattle.std.proofs.Common.{Bool, ◌&&◌, List, ap, ◌≡◌, refl, arith, ℕ, suc, zero, ◌+◌, ◌-◌, ◌*◌, ◌<◌, drop, get_or, length, ltb, ◌∙◌, sym}
use Rattle.std.specs.List.{list_all, range_with_len}
use Rattle.table.proofs.LayoutLaws.{pairs-left}
use Rattle.table.specs.Table.{all_below?, downward?, pairs, row_at, row_below?}
use lib.Seq.{drop-cons}
use native.Mathlib.Numerals.{add-one}

-- All words from i on are below a bound where word i is and all after it are.
pub all-below_step : (n i : ℕ) (ws : List ℕ) → i < length ws → all_below? n (drop i ws) ≡ ltb (get_or ws i 0) n && all_below? n (drop (i + 1) ws)
unfolding all_below?
all-below_step n i ws h = rw (drop-cons ws i 0 h, add-one i)

-- The rows from i on, the first of all being that of vertex v, refer downwards where row i does and all after it do.
pub downward_step : (v at n i : ℕ) (ws : List ℕ) → i < n
    → downward? (v + i) (pairs (n - i) (drop (at + 2 * i) ws))
    ≡ row_below? (2 * (v + i)) (row_at ws (at + 2 * i)) && downward? (v + (i + 1)) (pairs (n - (i + 1)) (drop (at + 2 * (i + 1)) ws))
unfolding downward?
downward_step v at n i ws h =
    let next : v + (i + 1) ≡ suc (v + i) = omega arith in
    rw (pairs-left at n i ws h, next) refl

rows-from : (v at i n : ℕ) (ws : List ℕ)
    → list_all (λ (j : ℕ). row_below? (2 * (v + j)) (row_at ws (at + 2 * j))) (range_with_len i n) ≡ downward? (v + i) (pairs n (drop (at + 2 * i) ws))
unfolding downward? pairs
rows-from v at i zero ws = refl
rows-from v at i (suc n) ws =
    let here : i + suc n - i ≡ suc n = omega arith in
    let after : i + suc n - (i + 1) ≡ n = omega arith in
    ap (λ (b : Bool). row_below? (2 * (v + i)) (row_at ws (at + 2 * i)) && b) (rows-from v at (i + 1) n ws)
    ∙ sym (rw (here, after) at (downward_step v at (i + suc n) i ws (omega arith)))

-- Rows refer downwards where the literals of each are below its own.
pub rows-below : (v at n : ℕ) (ws : List ℕ)
    → list_all (λ (j : ℕ). row_below? (2 * (v + j)) (row_at ws (at + 2 * j))) (range_with_len 0 n) ≡ downward? v (pairs n (drop at ws))
rows-below v at n ws =
    let none : v + 0 ≡ v = omega arith in
    let start : at + 2 * 0 ≡ at = omega arith in
    rw (none, start) at (rows-from v at 0 n ws)
