-- The bytes of a setting, and what is left of the setting slice.
use Prim.Native.Nat.{suc, zero, ℕ}
use Rattle.bdd.proofs.DiagramLaws.{denote-perfect}
use Rattle.bdd.proofs.WalksLaws.{walks}
use Rattle.bdd.specs.Diagram.{denote}
use Rattle.bdd.specs.code.Store.{Store}
use Rattle.compare_reply.specs.code.Followed.{Followed}
use Rattle.sweep_state.specs.code.Ending.{Refers}
use Rattle.sweep_state.specs.declared.end.End.TheVariants.{Differ, Equal, Inverse, Undecided}
use Rattle.sweep_state.specs.declared.end.End.{End}
use Rattle.bdd.specs.Difference.{digits}
use Rattle.compare_model.specs.Compare.{setting_bytes, setting_left}
use Rattle.sweep_model.specs.Sweep.{different}
use Rattle.truth.specs.Settings.{first_difference}
use Rattle.truth.specs.Truth.{Perfect, Setting, Truth, halves, same?, whole}
use lib.ListN.{drop, length, length-map, length-replicate, replicate}
use mathlib.Core.Bool.{Bool, cond, false, true}
use mathlib.Core.List.{List, [], ◌++◌, ◌∷◌}
use mathlib.Core.Path.{◌≡◌, ap, refl}

-- There is one byte an input.
length_bytes : (s : Setting) → length (setting_bytes s) ≡ length s
unfolding setting_bytes
length_bytes s = length-map s (λ x. cond x 49 48)

-- Those of inputs that are all 0.
zero_bytes : (n : ℕ) → setting_bytes (replicate n false) ≡ replicate n 48
unfolding setting_bytes
zero_bytes zero = refl
zero_bytes (suc n) = ap (λ (l : List ℕ). 48 ∷ l) (zero_bytes n)

-- All inputs 0.
pub zeros_left : (n : ℕ) (old : List ℕ) → replicate n 48 ++ drop n old ≡ setting_left (different (replicate n false)) old
unfolding setting_left
zeros_left n old = rw (length_bytes (replicate n false), length-replicate n false, zero_bytes n) refl

bytes-digits : (s : Setting) → setting_bytes s ≡ digits s
unfolding setting_bytes digits
bytes-digits [] = refl
bytes-digits (x ∷ s) = ap (λ (l : List ℕ). cond x 49 48 ∷ l) (bytes-digits s)

-- The first difference has a digit for each input.
difference-long : {m : ℕ} {f g : Truth} → Perfect m f → Perfect m g → length (first_difference f g) ≡ m
unfolding first_difference
difference-long whole whole = refl
difference-long (halves {m = m} {f = a} {g = b} p q) (halves {f = c} {g = d} r s) = go (same? a c) (difference-long p r) (difference-long q s)
  where
    go : (x : Bool) → length (first_difference a c) ≡ m → length (first_difference b d) ≡ m
        → length (cond x (true ∷ first_difference b d) (false ∷ first_difference a c)) ≡ suc m
    go true e f = ap suc f
    go false e f = ap suc e

-- The first difference of two references.
pub difference_left : (rows : List ℕ) (n f g : ℕ) (old : List ℕ)
    → digits (first_difference (denote rows n f) (denote rows n g)) ++ drop n old
    ≡ setting_left (different (first_difference (denote rows n f) (denote rows n g))) old
unfolding setting_left
difference_left rows n f g old =
    rw (length_bytes s, difference-long (denote-perfect rows n f) (denote-perfect rows n g), bytes-digits s) refl
  where
    s : Setting
    s = first_difference (denote rows n f) (denote rows n g)

-- References to rows in use can be followed.
pub followed : {rows : List ℕ} {limit used : ℕ} → Store rows limit used → (inputs : ℕ) (e : End) → Refers rows used inputs e → Followed rows inputs e
followed s inputs Equal r = r
followed s inputs Inverse r = r
followed s inputs (Differ f g) r = (walks s r.0, walks s r.1)
followed s inputs (Undecided c) r = r
