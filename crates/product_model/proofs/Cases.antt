-- The cases of counting one step and of adding one part.
use Prim.Native.Nat.{◌<◌, ◌≤◌, ℕ}
use Rattle.product_model.specs.Run.{Book, Outcome, add_part, count_step, done, short_of_rows, short_of_steps, with_row, with_step}
use Rattle.truth.specs.Distinct.{among}
use Rattle.truth.specs.Parts.{alike?}
use Rattle.truth.specs.Truth.{Truth}
use borrow.Author.Tests.{le-ltb, lt-ltb, ltb-false, ltb-true}
use lib.Dec.{ltb}
use lib.ListN.{length}
use mathlib.Core.Bool.{Bool, cond, false, true}
use mathlib.Core.Path.{◌≡◌, refl}
use native.Mathlib.Omega.{arith}

-- Two constructors are never equal.
pub impossible : {A : Type 0} → ◌≡◌ {A = ℕ} 0 1 → A
impossible e = absurd (omega arith)

-- One step: there is room, or the count is at the limit.
pub data Counting (step_limit : ℕ) (b : Book) : Outcome → Type 0 where
  room : b.steps < step_limit → Counting step_limit b (done (with_step b))
  spent : step_limit ≤ b.steps → Counting step_limit b (short_of_steps b)

pub count-cases : (step_limit : ℕ) (b : Book) → Counting step_limit b (count_step step_limit b)
unfolding count_step
count-cases step_limit b = go (ltb b.steps step_limit) refl
  where
    go : (t : Bool) → ltb b.steps step_limit ≡ t → Counting step_limit b (cond t (done (with_step b)) (short_of_steps b))
    go true e = room (ltb-true b.steps step_limit e)
    go false e = spent (ltb-false b.steps step_limit e)

pub count_room : {step_limit : ℕ} {b : Book} → b.steps < step_limit → count_step step_limit b ≡ done (with_step b)
unfolding count_step
count_room {step_limit} {b} h = rw (lt-ltb b.steps step_limit h)

-- One part: it has its row, or it is new and there is room, or the store is full.
pub data Adding (row_limit : ℕ) (f : Truth) (b : Book) : Outcome → Type 0 where
  found : among alike? f b.store ≡ true → Adding row_limit f b (done b)
  new : among alike? f b.store ≡ false → length b.store < row_limit → Adding row_limit f b (done (with_row f b))
  full : among alike? f b.store ≡ false → row_limit ≤ length b.store → Adding row_limit f b (short_of_rows b)

pub add_cases : (row_limit : ℕ) (f : Truth) (b : Book) → Adding row_limit f b (add_part row_limit f b)
unfolding add_part
add_cases row_limit f b = go (among alike? f b.store) refl (ltb (length b.store) row_limit) refl
  where
    go : (s : Bool) → among alike? f b.store ≡ s → (t : Bool) → ltb (length b.store) row_limit ≡ t
        → Adding row_limit f b (cond s (done b) (cond t (done (with_row f b)) (short_of_rows b)))
    go true e t i = found e
    go false e true i = new e (ltb-true (length b.store) row_limit i)
    go false e false i = full e (ltb-false (length b.store) row_limit i)

-- Where it is short, the store is full.
pub add_short : (row_limit : ℕ) (f : Truth) (b : Book) {c : Book} → add_part row_limit f b ≡ short_of_rows c → row_limit ≤ length b.store
add_short row_limit f b {c} = go (add_cases row_limit f b)
  where
    go : {o : Outcome} → Adding row_limit f b o → o ≡ short_of_rows c → row_limit ≤ length b.store
    go (found i) e = impossible (cc)
    go (new i j) e = impossible (cc)
    go (full i j) e = j

pub add_found : (row_limit : ℕ) (f : Truth) (b : Book) → among alike? f b.store ≡ true → add_part row_limit f b ≡ done b
unfolding add_part
add_found row_limit f b e = rw e

pub add_new : (row_limit : ℕ) (f : Truth) (b : Book) → among alike? f b.store ≡ false → length b.store < row_limit
    → add_part row_limit f b ≡ done (with_row f b)
unfolding add_part
add_new row_limit f b e h = rw (e, lt-ltb (length b.store) row_limit h)

pub add_full : (row_limit : ℕ) (f : Truth) (b : Book) → among alike? f b.store ≡ false → row_limit ≤ length b.store
    → add_part row_limit f b ≡ short_of_rows b
unfolding add_part
add_full row_limit f b e h = rw (e, le-ltb (length b.store) row_limit h)
