-- The places of `multiply`, as laws on lists and numbers.
use Prim.Native.Nat.{◌+◌, ◌-◌, ◌/◌, ◌<◌, ◌≤◌, ℕ}
use Rattle.bdd.proofs.DiagramLaws.{reference-more}
use Rattle.bdd.proofs.SplitLaws.{SplitAt, split_at_lem}
use Rattle.bdd.specs.Diagram.{denote}
use Rattle.bdd.specs.code.Split.{EndsAt, GoesOn, Halved}
use Rattle.bdd.specs.declared.references.Halves.{Halves}
use Rattle.bdd_unique.proofs.MakeLaws.{MakeAsked, grown-denote, grown-reference, grown-then, stays}
use Rattle.bdd_unique.specs.code.Unique.{MadeAt, MadeFull, Makes}
use Rattle.product_model.proofs.Cases.{count_room}
use Rattle.product_model.proofs.Equations.{run-both, run-terminal}
use Rattle.product_model.specs.Run.{Book, Outcome, ◌and_then◌, add_row, run}
use Rattle.product.proofs.RunLaws.{conj_lift, row-full, row_made, run_lift, spent}
use Rattle.product.specs.Product.{Ask, Denotes, Multiplied, Multiplies, book_of, outcome_of}
use Rattle.product.specs.declared.steps.Short.TheVariants.{Rows as OfRows, Steps as OfSteps}
use Rattle.product.specs.declared.steps.Short.{Short}
use Rattle.std.specs.Prelude.{Err, None, Ok, Option, Result, Some}
use Rattle.std.specs.Option.{ok_or}
use Rattle.truth.specs.Parts.{depends?}
use Rattle.truth.specs.Steps.{terminal?}
use Rattle.truth.specs.Truth.{Truth, conj, node}
use mathlib.Core.Bool.{◌||◌}
use mathlib.Core.List.{List}
use mathlib.Core.Path.{◌∙◌, ◌≡◌, ap, ap₂, refl, sym}
use native.Mathlib.Omega.{arith}

module _ {s : List ℕ} {limit used f g left n most : ℕ} (K : Ask s limit used f g left n most) where
  -- The count is at its limit.
  pub short_now : most ≤ n → Multiplied s s limit used used f g left n n most (Err OfSteps)
  short_now h = record { grown = stays K.store; under = K.under; ran = spent limit most (denote s left f) (denote s left g) (book_of s used n) h }

  -- A terminal pair.
  pub ends_now : n < most → {r : ℕ} → EndsAt f g r
      → Multiplied s s limit used used f g left n (n + 1) most (Ok r) × Denotes s s f g left r used
  ends_now free E = (
    record {
      grown = stays K.store;
      under = omega arith;
      ran =
          run-terminal limit most (denote s left f) (denote s left g) (book_of s used n) (E.terminal s used left K.store.canonical K.first K.second)
          ∙ count_room free;
    },
    record {
      reference = E.reference s used left K.store.canonical K.first K.second;
      means = E.product s used left K.store.canonical K.first K.second;
    },
  )

-- What the row of two results gives: `make`'s reference, or no row left and the rows as they were; the steps stay.
abbrev pub AddsRow : List ℕ → List ℕ → ℕ → ℕ → ℕ → ℕ → ℕ → ℕ → ℕ → ℕ → Result ℕ Short → Type 0
AddsRow s t limit used u level low high steps k (Ok r) = MadeAt s t limit used level low high r u × (k ≡ steps)
AddsRow s t limit used u level low high steps k (Err OfRows) = MadeFull s t limit used level low high × ((u ≡ used) × (k ≡ steps))
AddsRow s t limit used u level low high steps k (Err OfSteps) = ⊥

-- A shortfall ends the product.
short-ends : (e : Short) (b : Book) (next : Book → Outcome) → (outcome_of b (Err e) and_then next) ≡ outcome_of b (Err e)
unfolding ◌and_then◌
short-ends OfRows b next = refl
short-ends OfSteps b next = refl

-- A call that is counted, and its references split.
pub record Split (s : List ℕ) (limit used f g left n most : ℕ) (h : Halves) : Type 0 where
  pub ask : Ask s limit used f g left n most
  pub free : n < most
  pub on : GoesOn f g
  pub halved : Halved s f g h

module _ {s : List ℕ} {limit used f g left n most : ℕ} {h : Halves} (B : Split s limit used f g left n most h) where
  pub at_top : SplitAt s used left f g h
  at_top = split_at_lem s used left f g h B.ask.store.canonical B.ask.first B.ask.second B.on B.halved

  pub falls : h.level - 1 < left
  falls = omega (arith, at_top.deep, at_top.within)

  -- What the call on value 0 asks.
  pub ask_zero : Ask s limit used h.f0 h.g0 (h.level - 1) (n + 1) most
  ask_zero =
      record {
        store = B.ask.store;
        first = at_top.f0-below;
        second = at_top.g0-below;
        few = omega (arith, falls, B.ask.few);
        under = omega (arith, B.free);
        small = B.ask.small;
      }

  abbrev half : ℕ → Truth
  half = denote s (h.level - 1)

  abbrev one-run : Book → Outcome
  one-run = run limit most (half h.f1) (half h.g1)

  abbrev row-run : Book → Outcome
  row-run = add_row limit (conj (half h.f0) (half h.g0)) (conj (half h.f1) (half h.g1))

  -- The run counts one step and goes on.
  unrolled : run limit most (denote s left f) (denote s left g) (book_of s used n)
      ≡ (run limit most (half h.f0) (half h.g0) (book_of s used (n + 1)) and_then one-run and_then row-run)
  unfolding ◌and_then◌
  unrolled =
      run_lift limit most s h.level f g (book_of s used n) at_top.f_top.fits at_top.g_top.fits left at_top.within
      ∙ ap₂ (λ x y. run limit most x y (book_of s used n)) at_top.f_node at_top.g_node
      ∙ run-both limit most (half h.f0) (half h.f1) (half h.g0) (half h.g1) (book_of s used n)
      (sym (ap₂ terminal? at_top.f_node at_top.g_node) ∙ B.on.going s used h.level B.ask.store.canonical at_top.f_top at_top.g_top)
      (sym (ap₂ (λ x y. depends? x || depends? y) at_top.f_node at_top.g_node) ∙ at_top.depends)
      ∙ ap (λ o. o and_then run limit most (half h.f0) (half h.g0) and_then one-run and_then row-run) (count_room B.free)

  -- Value 0 is short.
  pub zero_short : {t : List ℕ} {u k : ℕ} {e : Short} → Multiplied s t limit used u h.f0 h.g0 (h.level - 1) (n + 1) k most (Err e)
      → Multiplied s t limit used u f g left n k most (Err e)
  zero_short {t} {u} {k} {e} Z =
      record {
        grown = Z.grown;
        under = Z.under;
        ran =
            unrolled
            ∙ ap (λ o. o and_then one-run and_then row-run) Z.ran
            ∙ ap (λ o. o and_then row-run) (short-ends e (book_of t u k) one-run)
            ∙ short-ends e (book_of t u k) row-run;
      }

  -- Value 0 is done.
  module _ {s0 : List ℕ} {low used0 steps0 : ℕ}
      (Z : Multiplied s s0 limit used used0 h.f0 h.g0 (h.level - 1) (n + 1) steps0 most (Ok low) × Denotes s s0 h.f0 h.g0 (h.level - 1) low used0) where
    -- What the call on value 1 asks.
    pub ask_one : Ask s0 limit used0 h.f1 h.g1 (h.level - 1) steps0 most
    ask_one =
        record {
          store = Z.0.grown.store;
          first = grown-reference Z.0.grown at_top.f1-below;
          second = grown-reference Z.0.grown at_top.g1-below;
          few = ask_zero.few;
          under = Z.0.under;
          small = B.ask.small;
        }

    kept_half : (r : ℕ) → r / 2 ≤ used → denote s0 (h.level - 1) r ≡ half r
    kept_half r = grown-denote s s0 limit used used0 B.ask.store.canonical Z.0.grown (h.level - 1) r

    after_zero : run limit most (denote s left f) (denote s left g) (book_of s used n)
        ≡ (run limit most (denote s0 (h.level - 1) h.f1) (denote s0 (h.level - 1) h.g1) (book_of s0 used0 steps0) and_then row-run)
    unfolding ◌and_then◌
    after_zero =
        unrolled
        ∙ ap (λ o. o and_then one-run and_then row-run) Z.0.ran
        ∙ sym (ap₂ (λ x y. run limit most x y (book_of s0 used0 steps0) and_then row-run)
        (kept_half h.f1 at_top.f1-below.stored) (kept_half h.g1 at_top.g1-below.stored))

    -- Value 1 is short.
    pub one-short : {t : List ℕ} {u k : ℕ} {e : Short} → Multiplied s0 t limit used0 u h.f1 h.g1 (h.level - 1) steps0 k most (Err e)
        → Multiplied s t limit used u f g left n k most (Err e)
    one-short {t} {u} {k} {e} O =
        record {
          grown = grown-then Z.0.grown O.grown;
          under = O.under;
          ran = after_zero ∙ ap (λ o. o and_then row-run) O.ran ∙ short-ends e (book_of t u k) row-run;
        }

    -- Value 1 is done.
    module _ {s1 : List ℕ} {high used1 steps1 : ℕ}
        (O : Multiplied s0 s1 limit used0 used1 h.f1 h.g1 (h.level - 1) steps0 steps1 most (Ok high) × Denotes s0 s1 h.f1 h.g1 (h.level - 1) high used1) where
      -- What the row asks.
      pub ask_row : MakeAsked s1 limit used1 h.level low high
      ask_row =
          record {
            store = O.0.grown.store;
            deep = at_top.deep;
            small = omega (arith, at_top.within, B.ask.few);
            low = grown-reference O.0.grown Z.1.reference;
            high = O.1.reference;
          }

      low-means : denote s1 (h.level - 1) low ≡ conj (half h.f0) (half h.g0)
      low-means =
          grown-denote s0 s1 limit used0 used1 Z.0.grown.store.canonical O.0.grown (h.level - 1) low Z.1.reference.stored
          ∙ Z.1.means

      high-means : denote s1 (h.level - 1) high ≡ conj (half h.f1) (half h.g1)
      high-means = O.1.means ∙ ap₂ conj (kept_half h.f1 at_top.f1-below.stored) (kept_half h.g1 at_top.g1-below.stored)

      after_one : run limit most (denote s left f) (denote s left g) (book_of s used n)
          ≡ add_row limit (denote s1 (h.level - 1) low) (denote s1 (h.level - 1) high) (book_of s1 used1 steps1)
      unfolding ◌and_then◌
      after_one =
          after_zero
          ∙ ap (λ o. o and_then row-run) O.0.ran
          ∙ sym (ap₂ (λ x y. add_row limit x y (book_of s1 used1 steps1)) low-means high-means)

      -- The row is made, or there is none left.
      module _ {t : List ℕ} where
        pub row_done : {r u : ℕ} → MadeAt s1 t limit used1 h.level low high r u
            → Multiplied s t limit used u f g left n steps1 most (Ok r) × Denotes s t f g left r u
        unfolding conj
        row_done {r} M = (
          record {
            grown = grown-then Z.0.grown (grown-then O.0.grown M.grown);
            under = O.0.under;
            ran = after_one ∙ row_made M steps1;
          },
          record {
            reference = reference-more M.reference at_top.within;
            means =
                conj_lift s t h.level f g r at_top.f_top.fits at_top.g_top.fits M.reference.fits
                (M.denotes ∙ ap₂ node low-means high-means ∙ sym (ap₂ conj at_top.f_node at_top.g_node))
                left at_top.within;
          },
        )

        pub row-short : MadeFull s1 t limit used1 h.level low high → Multiplied s t limit used used1 f g left n steps1 most (Err OfRows)
        row-short M =
            record {
              grown = rw M.same (grown-then Z.0.grown O.0.grown);
              under = O.0.under;
              ran = after_one ∙ row-full M steps1;
            }

      -- What the row gives, by its answer.
      pub row-added : (t : List ℕ) (u k : ℕ) (answer : Result ℕ Short) → AddsRow s1 t limit used1 u h.level low high steps1 k answer
          → Multiplies s t limit used u f g left n k most answer
      row-added t u k (Ok r) (M, e) = rw e (row_done M)
      row-added t u k (Err OfRows) (M, (eu, ek)) = rw (eu, ek) (row-short M)
      row-added t u k (Err OfSteps) x3 = elim x3 [ ]

      -- What the row gives, by `make`'s answer.
      pub row-made : (t : List ℕ) (u : ℕ) (o : Option ℕ) → Makes s1 t limit used1 u h.level low high o
          → Multiplies s t limit used u f g left n steps1 most (ok_or o OfRows)
      row-made t u (Some r) M = row_done M
      row-made t u None (M, e) = rw e (row-short M)
