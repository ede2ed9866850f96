-- Runs of the functions of references: inputs passed over, a spent count, and the row that `make` found or added.
use Prim.Native.Nat.{◌-◌, ◌/◌, ◌≤◌, ℕ}
use Rattle.bdd.proofs.DiagramLaws.{denote_skip}
use Rattle.bdd.proofs.StoreLaws.{store_length}
use Rattle.bdd.specs.Diagram.{denote}
use Rattle.bdd.specs.code.Rows.{level_at}
use Rattle.bdd_unique.specs.code.Unique.{MadeAt, MadeFull, add_part, join}
use Rattle.product_model.proofs.Cases.{add_found, add_full, add_new}
use Rattle.product_model.proofs.Equations.{run_skip}
use Rattle.product_model.specs.Run as model
use Rattle.product_model.specs.Run.{Book, Outcome, ◌and_then◌, add_row, count_step, done, plain, run, short_of_rows, short_of_steps}
use Rattle.product.specs.Product.{book_of}
use Rattle.truth.proofs.Booleans.{clash}
use Rattle.truth.specs.Distinct.{among}
use Rattle.truth.specs.Parts.{alike?, depends?}
use Rattle.truth.specs.Steps.{terminal?}
use Rattle.truth.specs.Truth.{Truth, conj, leaf, node, same?}
use borrow.Author.Tests.{le-ltb}
use lib.ListN.{length}
use mathlib.Core.Bool.{Bool, ◌&&◌, ◌||◌, cond, false, not, true}
use mathlib.Core.List.{List, ◌∷◌}
use mathlib.Core.Path.{◌∙◌, ◌≡◌, ap, ap₂, refl, sym}
use native.Mathlib.Decide.{le_ind}
use native.Mathlib.Omega.{arith}

-- Inputs above the levels of two references change nothing in their run.
pub run_lift : (limit most : ℕ) (s : List ℕ) (top f g : ℕ) (b : Book) → level_at s (f / 2) ≤ top → level_at s (g / 2) ≤ top → (left : ℕ) → top ≤ left
    → run limit most (denote s left f) (denote s left g) b ≡ run limit most (denote s top f) (denote s top g) b
run_lift limit most s top f g b hf hg =
    le_ind (λ (m : ℕ). run limit most (denote s m f) (denote s m g) b ≡ run limit most (denote s top f) (denote s top g) b)
    refl
    (λ m le ih.
    ap₂ (λ x y. run limit most x y b) (denote_skip s m f (omega arith)) (denote_skip s m g (omega arith))
    ∙ run_skip limit most (denote s m f) (denote s m g) b
    ∙ ih)

-- Nor in their conjunction.
pub conj_lift : (s t : List ℕ) (top f g r : ℕ) → level_at s (f / 2) ≤ top → level_at s (g / 2) ≤ top → level_at t (r / 2) ≤ top
    → denote t top r ≡ conj (denote s top f) (denote s top g) → (left : ℕ) → top ≤ left → denote t left r ≡ conj (denote s left f) (denote s left g)
unfolding conj
conj_lift s t top f g r hf hg hr e =
    le_ind (λ (m : ℕ). denote t m r ≡ conj (denote s m f) (denote s m g))
    e
    (λ m le ih.
    denote_skip t m r (omega arith)
    ∙ ap (λ x. node x x) ih
    ∙ sym (ap₂ conj (denote_skip s m f (omega arith)) (denote_skip s m g (omega arith))))

spent_count : (most : ℕ) (b : Book) → most ≤ b.steps → count_step most b ≡ short_of_steps b
unfolding count_step
spent_count most b h = rw (le-ltb b.steps most h)

-- Where the count is at its limit, any run is short of steps.
pub spent : (limit most : ℕ) (f g : Truth) (b : Book) → most ≤ b.steps → run limit most f g b ≡ short_of_steps b
unfolding run ◌and_then◌
spent limit most (leaf x) g b h = spent_count most b h
spent limit most (node f₀ f₁) (leaf y) b h = spent_count most b h
spent limit most (node f₀ f₁) (node g₀ g₁) b h =
    rw (spent_count most b h, spent limit most f₀ g₀ b h)
    (each (terminal? (node f₀ f₁) (node g₀ g₁)) (depends? (node f₀ f₁) || depends? (node g₀ g₁)) (short_of_steps b))
  where
    each : (t d : Bool) (o : Outcome) → cond t o (cond d o o) ≡ o
    each true d o = refl
    each false true o = refl
    each false false o = refl

-- A row that is found, added within the limit, or not needed.
row_room : (limit : ℕ) (l h : Truth) (b : Book) → length (add_part (node l h) b.store) ≤ limit
    → add_row limit l h b ≡ done (record { store = add_part (node l h) b.store; steps = b.steps })
unfolding add_row add_part depends?
row_room limit l h b = go (same? l h) (among alike? (node l h) b.store) refl
  where
    go : (x y : Bool) → among alike? (node l h) b.store ≡ y → length (cond (not x && not y) (plain (node l h) ∷ b.store) b.store) ≤ limit
        → cond x (done b) (model.add_part limit (node l h) b) ≡ done (record { store = cond (not x && not y) (plain (node l h) ∷ b.store) b.store; steps = b.steps })
    go true y e room = refl
    go false true e room = add_found limit (node l h) b e
    go false false e room = add_new limit (node l h) b e room

-- What `make` leaves is what the row of the run leaves.
module _ {s t : List ℕ} {limit n level a b : ℕ} where
  pub row_made : {r u : ℕ} → MadeAt s t limit n level a b r u → (k : ℕ)
      → add_row limit (denote s (level - 1) a) (denote s (level - 1) b) (book_of s n k) ≡ done (book_of t u k)
  row_made {u = u} M k =
      row_room limit (denote s (level - 1) a) (denote s (level - 1) b) (book_of s n k)
      (omega (arith, store_length t u, ap length M.functions, M.grown.store.room.used))
      ∙ ap (λ x. done (record { store = x; steps = k })) (sym M.functions)

  pub row-full : MadeFull s t limit n level a b → (k : ℕ)
      → add_row limit (denote s (level - 1) a) (denote s (level - 1) b) (book_of s n k) ≡ short_of_rows (book_of t n k)
  unfolding add_row depends?
  row-full M k =
      rw (not_equal (same? (denote s (level - 1) a) (denote s (level - 1) b)) M.depends, M.same)
      (add_full limit (join s level a b) (book_of s n k) M.absent (omega (arith, store_length s n, M.full)))
    where
      not_equal : (x : Bool) → not x ≡ true → x ≡ false
      not_equal false e = refl
      not_equal true e = clash refl (sym e)
