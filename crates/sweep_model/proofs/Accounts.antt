-- Marks, rows and steps of a state: the rows are the parts of the functions marked 1, the steps those of the ANDs marked 1 or 2.
use Prim.Native.Nat.{◌+◌, ◌<◌, ◌≤◌, suc, zero, ℕ}
use Rattle.product_model.proofs.Ran.{Done}
use Rattle.product_model.proofs.Store.{done-holds}
use Rattle.product_model.specs.code.Books.{HoldsParts}
use Rattle.product_model.specs.Run.{Book}
use Rattle.sweep_model.proofs.Marked.{Inserted, and_at, ands-first, ands-put, marked-none, marked-put, marked-stays, parts_inserted, sum_inserted}
use Rattle.sweep_model.proofs.Tidy.{first-unmerged}
use Rattle.sweep_model.specs.Claims.{And, and_steps, ands_of, is, is_either, marked, steps_marked, sum}
use Rattle.sweep_model.specs.Fit.{vertex_count}
use Rattle.sweep_model.specs.Normalise.{was_merged?}
use Rattle.sweep_model.specs.code.Reachable.{Accounted, MarkFits}
use Rattle.sweep_model.specs.State.{Problem, function_of}
use Rattle.sweep_model.specs.Sweep.{given_back}
use Rattle.truth.specs.Distinct.{among, apart}
use Rattle.truth.specs.Parts.{alike?, all_parts, parts, size}
use Rattle.truth.specs.Truth.{Truth}
use lib.ListN.{drop, get_or, length, replicate, set}
use lib.Seq.{get_or-drop, get_or-set_other, get_or-set_same}
use mathlib.Core.Bool.{false, true}
use mathlib.Core.List.{List, [], map}
use mathlib.Core.Logic.{◌≢◌}
use mathlib.Core.Path.{◌∙◌, ◌≡◌, ap, refl, sym}
use native.Mathlib.Decide.{ℕ_discrete}
use native.Mathlib.Omega.{arith}

-- One element replaced: what holds of it and of the others holds of each.
pub each_set :
    {A : Type 0} (P : ℕ → A → Type 0) (xs : List A) (v : ℕ) (x d : A) → v < length xs → P v x → ((u : ℕ) → u ≢ v → P u (get_or xs u d))
    → (u : ℕ) → P u (get_or (set xs v x) u d)
each_set P xs v x d h own others u =
    elim (ℕ_discrete u v) [
      | yes e ↦ rw (e, get_or-set_same xs v x d h) own
      | no e ↦ rw (get_or-set_other xs v u x d e) (others u e)
    ]

-- The mark 0 fits.
fits-none : (p : Problem) (entry : List ℕ) (v mark : ℕ) → mark ≡ 0 → MarkFits p entry v mark
fits-none p entry v mark e =
    record {
      known = omega arith;
      constant = λ i. e;
      made = λ i. absurd (omega arith);
      large = λ i. absurd (omega arith);
      small = λ i. absurd (omega arith);
      unmerged = λ d. absurd (d e);
    }

module _ {p : Problem} {entry marks : List ℕ} {book : Book} (a : Accounted p entry marks book) (long : length marks ≡ vertex_count p) (v : ℕ)
    (within : v < vertex_count p) (unmarked : get_or marks v 0 ≡ 0) where
  -- The marks where vertex v is marked k.
  abbrev now : ℕ → List ℕ
  now k = set marks v k

  -- They fit where k fits.
  pub fits_now : (k : ℕ) → MarkFits p entry v k → (u : ℕ) → MarkFits p entry u (get_or (now k) u 0)
  fits_now k own = each_set (MarkFits p entry) marks v k 0 (omega arith) own (λ u d. a.fits u)

  unnamed_now : (k : ℕ) → k ≢ 3 → (u : ℕ) → get_or (now k) u 0 ≢ 3
  unnamed_now k d = each_set (λ (u m : ℕ). m ≢ 3) marks v k 0 (omega arith) d (λ u e. a.unnamed u)

  -- A mark other than 1 adds no rows.
  pub holds_now : (k : ℕ) → is 1 k ≡ false → HoldsParts book (marked (is 1) (now k) p.functions)
  holds_now k e = rw (marked-stays (is 1) k e marks p.functions v (ap (is 1) unmarked)) a.holds

  -- The steps with one AND more.
  steps-now :
      (k : ℕ) → is_either 1 2 k ≡ true → p.first ≤ v → (c : ℕ) → c ≡ book.steps + and_steps (and_at p entry v) → c ≡ steps_marked p entry (now k)
  steps-now k e made c f =
      omega
      (arith, a.steps, sum_inserted and_steps (ands-put p entry (is_either 1 2) marks long v k made (ap (is_either 1 2) unmarked) within e))

  module _ {n : ℕ} {b : Book} (D : Done p.limits.rows p.limits.steps (parts (function_of p v)) n book b) where
    -- A vertex marked 1 adds its rows.
    swept-accounted : MarkFits p entry v 1 → b.steps ≡ steps_marked p entry (now 1) → Accounted p entry (now 1) b
    swept-accounted own e =
        record {
          proper = D.grown.proper;
          holds = record { members = λ t. (done-holds (function_of p v) a.holds D).members t ∙ sym (parts_inserted inserted t) };
          steps = e;
          fits = fits_now 1 own;
          unnamed = unnamed_now 1 (λ i. omega arith);
        }
      where
        inserted : Inserted (function_of p v) (marked (is 1) marks p.functions) (marked (is 1) (now 1) p.functions)
        inserted = marked-put (is 1) 1 refl marks p.functions v _ (ap (is 1) unmarked) (omega arith) within

    -- A product that ended within the size limit.
    pub product-accounted :
        p.first ≤ v → n ≡ and_steps (and_at p entry v) → size (function_of p v) ≤ p.limits.size → was_merged? p.first entry v ≡ false → v ≢ 0
        → Accounted p entry (now 1) b
    product-accounted made e h i d =
        swept-accounted
        (record {
          known = omega arith;
          constant = λ k. absurd (d k);
          made = λ k. absurd (omega arith);
          large = λ k. absurd (omega arith);
          small = λ k l. h;
          unmerged = λ k. i;
        })
        (steps-now 1 refl made b.steps (omega (arith, D.steps)))

    -- An input that was given its row.
    pub input-accounted : 1 ≤ v → v < p.first → n ≡ 0 → Accounted p entry (now 1) b
    input-accounted l h e =
        swept-accounted
        (record {
          known = omega arith;
          constant = λ k. absurd (omega arith);
          made = λ k. absurd (omega arith);
          large = λ k. absurd (omega arith);
          small = λ k m. absurd (omega arith);
          unmerged = λ k. first-unmerged p.first entry v h;
        })
        (rw (ands-first p entry (is_either 1 2) marks long v 1 h) (omega (arith, D.steps, a.steps)))

    -- A product that ended too large: its steps stay, its rows do not.
    pub dropped-accounted :
        p.first ≤ v → n ≡ and_steps (and_at p entry v) → p.limits.size < size (function_of p v) → was_merged? p.first entry v ≡ false → v ≢ 0
        → Accounted p entry (now 2) (given_back book b)
    dropped-accounted made e h i d =
        record {
          proper = record { no_repeats = a.proper.no_repeats; rows = a.proper.rows; taken = D.grown.proper.taken };
          holds = record { members = (holds_now 2 refl).members };
          steps = steps-now 2 refl made b.steps (omega (arith, D.steps));
          fits =
              fits_now 2
              (record {
                known = omega arith;
                constant = λ k. absurd (d k);
                made = λ k. made;
                large = λ k. h;
                small = λ k. absurd (omega arith);
                unmerged = λ k. i;
              });
          unnamed = unnamed_now 2 (λ k. omega arith);
        }

-- Marks before any is written.
pub zeros : (n v : ℕ) → ◌≡◌ {A = ℕ} (get_or (replicate n 0) v 0) 0
zeros zero v = refl
zeros (suc n) zero = refl
zeros (suc n) (suc v) = zeros n v

-- No marks, no rows and no steps.
pub none-accounted : (p : Problem) (entry : List ℕ) → Accounted p entry (replicate (vertex_count p) 0) (record { store = []; steps = 0 })
unfolding apart all_parts among sum
none-accounted p entry =
    record {
      proper = record { no_repeats = refl; rows = omega arith; taken = omega arith };
      holds =
          record { members = λ t. sym (ap (λ (fs : List Truth). among alike? t (all_parts fs)) (marked-none (is 1) marks p.functions (λ v. ap (is 1) (zeros (vertex_count p) v)))) };
      steps =
          sym
          (ap (λ (xs : List And). sum (map and_steps xs))
          (marked-none (is_either 1 2) (drop p.first marks) (ands_of p entry)
          (λ i. ap (is_either 1 2) (get_or-drop p.first marks i 0 ∙ zeros (vertex_count p) (p.first + i)))));
      fits = λ v. fits-none p entry v (get_or marks v 0) (zeros (vertex_count p) v);
      unnamed = λ v e. omega (arith, zeros (vertex_count p) v);
    }
  where
    marks : List ℕ
    marks = replicate (vertex_count p) 0
