-- Larger limits change nothing in a run that is done.
use Prim.Native.Nat.{◌≤◌, ℕ}
use Rattle.product_model.proofs.Cases.{Adding, Counting, add_cases, add_found, add_new, count-cases, count_room, found, full, impossible, new, room, spent}
use Rattle.product_model.specs.Run.{Book, Outcome, ◌and_then◌, add_part, add_row, count_step, done, run, short_of_rows, short_of_steps}
use Rattle.truth.specs.Parts.{depends?}
use Rattle.truth.specs.Steps.{terminal?}
use Rattle.truth.specs.Truth.{Truth, conj, leaf, node, same?}
use mathlib.Core.Bool.{Bool, ◌||◌, cond, false, true}
use mathlib.Core.Path.{◌∙◌, ◌≡◌, refl}
use native.Mathlib.Omega.{arith}

-- Where the first outcome is done, the second is the same.
abbrev pub Follows : Outcome → Outcome → Type 0
Follows o p = (c : Book) → o ≡ done c → p ≡ done c

pub count_larger : {s t : ℕ} → s ≤ t → (b : Book) → Follows (count_step s b) (count_step t b)
count_larger {s} {t} h b c = go (count-cases s b)
  where
    go : {o : Outcome} → Counting s b o → o ≡ done c → count_step t b ≡ done c
    go (room i) e = count_room (omega arith) ∙ e
    go (spent i) e = impossible (cc)

pub add_larger : {r q : ℕ} → r ≤ q → (f : Truth) (b : Book) → Follows (add_part r f b) (add_part q f b)
add_larger {r} {q} h f b c = go (add_cases r f b)
  where
    go : {o : Outcome} → Adding r f b o → o ≡ done c → add_part q f b ≡ done c
    go (found i) e = add_found q f b i ∙ e
    go (new i j) e = add_new q f b i (omega arith) ∙ e
    go (full i j) e = impossible (cc)

choose_larger : (x : Bool) {o o' p p' : Outcome} → Follows o o' → Follows p p' → Follows (cond x o p) (cond x o' p')
choose_larger true h k = h
choose_larger false h k = k

then_larger : (o o' : Outcome) (next next' : Book → Outcome) → Follows o o' → ((b : Book) → Follows (next b) (next' b))
    → Follows (o and_then next) (o' and_then next')
unfolding ◌and_then◌
then_larger (done b) o' next next' h k c d = rw (h b refl) (k b c d)
then_larger (short_of_rows b) o' next next' h k c d = impossible (cc)
then_larger (short_of_steps b) o' next next' h k c d = impossible (cc)

module _ {r q s t : ℕ} (h : r ≤ q) (k : s ≤ t) where
  row_larger : (low high : Truth) (b : Book) → Follows (add_row r low high b) (add_row q low high b)
  unfolding add_row
  row_larger low high b = choose_larger (same? low high) (λ c d. d) (add_larger h (node low high) b)

  -- A run that is done is done with larger limits, and leaves the same book.
  pub run_larger : (f g : Truth) (b : Book) → Follows (run r s f g b) (run q t f g b)
  unfolding run
  run_larger (leaf x) g b = count_larger k b
  run_larger (node f₀ f₁) (leaf y) b = count_larger k b
  run_larger (node f₀ f₁) (node g₀ g₁) b =
      choose_larger (terminal? (node f₀ f₁) (node g₀ g₁)) (count_larger k b)
      (choose_larger (depends? (node f₀ f₁) || depends? (node g₀ g₁))
      (then_larger _ _ (add_row r (conj f₀ g₀) (conj f₁ g₁)) (add_row q (conj f₀ g₀) (conj f₁ g₁))
      (then_larger _ _ (run r s f₁ g₁) (run q t f₁ g₁)
      (then_larger _ _ (run r s f₀ g₀) (run q t f₀ g₀) (count_larger k b) (run_larger f₀ g₀))
      (run_larger f₁ g₁))
      (row_larger (conj f₀ g₀) (conj f₁ g₁)))
      (run_larger f₀ g₀ b))
