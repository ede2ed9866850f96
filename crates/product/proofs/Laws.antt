-- What the answer of a product says of parts and product steps, and of rows given back.
use Prim.Native.Nat.{◌+◌, ◌<◌, ◌≤◌, ℕ}
use Rattle.bdd.proofs.AgreeLaws.{kept_then}
use Rattle.bdd.proofs.DiagramLaws.{denote-perfect}
use Rattle.bdd.proofs.StoreLaws.{part_stored, store_apart, store-frame, store_length}
use Rattle.bdd.specs.Diagram.{Canonical, Reference, denote, store_of}
use Rattle.bdd.specs.code.Store.{Kept}
use Rattle.bdd_unique.specs.code.Unique.{GivenBack, Grown}
use Rattle.product_model.proofs.Ran as ran
use Rattle.product_model.proofs.Run.{run-done, run-rows, run-steps}
use Rattle.product_model.proofs.Store.{done-members, done-rows}
use Rattle.product_model.specs.code.Books.{Proper, Stored}
use Rattle.product.specs.Product.{Ask, Multiplied, Multiplies, book_of}
use Rattle.product.specs.declared.steps.Short.TheVariants.{Rows as OfRows, Steps as OfSteps}
use Rattle.product.specs.declared.steps.Short.{Short}
use Rattle.std.specs.Prelude.{Err, Ok, Result}
use Rattle.truth.specs.Distinct.{among, distinct}
use Rattle.truth.specs.Parts.{alike?, parts}
use Rattle.truth.specs.Steps as truth
use Rattle.truth.specs.Truth.{Truth, conj}
use lib.ListN.{length}
use mathlib.Core.Bool.{◌||◌}
use mathlib.Core.List.{List, ◌++◌}
use mathlib.Core.Path.{◌∙◌, ◌≡◌, refl, sym}
use native.Mathlib.Omega.{arith}

-- The product steps of two references.
abbrev pub steps_of_pair : List ℕ → ℕ → ℕ → ℕ → ℕ
steps_of_pair s left f g = truth.steps (denote s left f) (denote s left g)

-- The parts of their conjunction.
abbrev pub parts_of_pair : List ℕ → ℕ → ℕ → ℕ → List Truth
parts_of_pair s left f g = parts (conj (denote s left f) (denote s left g))

-- Done: the rows are those before and the parts of the conjunction, each once; the steps rose by exactly the product steps.
pub record Completed (s t : List ℕ) (used f g left steps u k : ℕ) : Type 0 where
  pub rows : u ≡ length (distinct alike? (parts_of_pair s left f g ++ store_of s used))
  pub members : (x : Truth) → among alike? x (store_of t u) ≡ among alike? x (store_of s used) || among alike? x (parts_of_pair s left f g)
  pub taken : k ≡ steps + steps_of_pair s left f g

-- Short of rows: the store is full, and the rows before and the parts of the conjunction are together more than the limit.
pub record OutOfRows (s : List ℕ) (limit used f g left steps u k : ℕ) : Type 0 where
  pub full : u ≡ limit
  pub over : limit < length (distinct alike? (parts_of_pair s left f g ++ store_of s used))
  pub least : steps + 1 ≤ k
  pub most : k ≤ steps + steps_of_pair s left f g

-- Short of steps: the count is at the limit, and the product steps pass it.
pub record OutOfSteps (s : List ℕ) (f g left steps most k : ℕ) : Type 0 where
  pub full : k ≡ most
  pub over : most < steps + steps_of_pair s left f g

module _ {s : List ℕ} {limit used f g left n most : ℕ} (K : Ask s limit used f g left n most) where
  -- The store is a book that a run may start from, and it has the parts of what is stored.
  proper : Proper limit most (book_of s used n)
  proper =
      record {
        no_repeats = store_apart s used K.store.canonical used (omega arith);
        rows = omega (arith, store_length s used, K.store.room.used);
        taken = K.under;
      }

  stored : (r : ℕ) → Reference s used left r → Stored (denote s left r) (store_of s used)
  stored r R = part_stored s used K.store.canonical left r R

  module _ {t : List ℕ} {u k : ℕ} where
    -- The run that the answer tells of, as a law of runs.
    pub done-ran : {r : ℕ} → Multiplied s t limit used u f g left n k most (Ok r)
        → ran.Done limit most (parts_of_pair s left f g) (steps_of_pair s left f g) (book_of s used n) (book_of t u k)
    done-ran M = run-done (denote-perfect s left f) (denote-perfect s left g) proper (stored f K.first) (stored g K.second) M.ran

    pub rows-ran : Multiplied s t limit used u f g left n k most (Err OfRows)
        → ran.ShortOfRows limit most (parts_of_pair s left f g) 1 (steps_of_pair s left f g) (book_of s used n) (book_of t u k)
    rows-ran M = run-rows (denote-perfect s left f) (denote-perfect s left g) proper (stored f K.first) (stored g K.second) M.ran

    pub steps-ran : Multiplied s t limit used u f g left n k most (Err OfSteps)
        → ran.ShortOfSteps limit most (parts_of_pair s left f g) (steps_of_pair s left f g) (book_of s used n) (book_of t u k)
    steps-ran M = run-steps (denote-perfect s left f) (denote-perfect s left g) proper (stored f K.first) (stored g K.second) M.ran

    pub completed : {r : ℕ} → Multiplied s t limit used u f g left n k most (Ok r) → Completed s t used f g left n u k
    completed M =
        let D = done-ran M in
        record { rows = sym (store_length t u) ∙ done-rows D; members = done-members D; taken = D.steps }

    pub out_of_rows : Multiplied s t limit used u f g left n k most (Err OfRows) → OutOfRows s limit used f g left n u k
    out_of_rows M =
        let R = rows-ran M in
        record { full = sym (store_length t u) ∙ R.full; over = R.over; least = R.least; most = R.most }

    pub out_of_steps : Multiplied s t limit used u f g left n k most (Err OfSteps) → OutOfSteps s f g left n most k
    out_of_steps M =
        let S = steps-ran M in
        record { full = S.full; over = S.over }

  -- Where neither total passes its limit, the product is done.
  pub enough : n + steps_of_pair s left f g ≤ most → length (distinct alike? (parts_of_pair s left f g ++ store_of s used)) ≤ limit
      → (t : List ℕ) (u k : ℕ) (answer : Result ℕ Short) → Multiplies s t limit used u f g left n k most answer → (r : ℕ) × (answer ≡ Ok r)
  enough few small t u k (Ok r) M = (r, refl)
  enough few small t u k (Err OfRows) M = absurd (omega (arith, (out_of_rows M).over))
  enough few small t u k (Err OfSteps) M = absurd (omega (arith, (out_of_steps M).over))

-- Rows that grew and were given back are as they were.
pub back : {s t v : List ℕ} {limit n u : ℕ} → Grown s t limit n u → GivenBack t v limit u n → Kept s v n
back G B = kept_then G.kept B.kept (omega arith)

pub back-functions : {s t v : List ℕ} {limit n u : ℕ} → Canonical s n → Grown s t limit n u → GivenBack t v limit u n → store_of v n ≡ store_of s n
back-functions {s} {v = v} {n = n} C G B = store-frame s v n C (back G B).agree n (omega arith)
