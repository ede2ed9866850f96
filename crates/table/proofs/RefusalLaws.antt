-- Lists of tests: the first refusal that applies in one list and then in another.
use Rattle.std.proofs.lemmas.Grind.{common_steps}
use Prim.Native.Nat.{◌≤◌, ℕ}
use Rattle.table.specs.Refusals.{Test, first_refusal}
use Rattle.table.specs.Table.{table_tests}
use mathlib.Core.Bool.{Bool, cond, false, true}
use mathlib.Core.List.{List, [], ◌++◌, ◌∷◌}
use mathlib.Core.Path.{◌≡◌, refl}
use native.Mathlib.Omega.{arith}

-- Where no test applies, the first does not, and none of the others does.
pub none-applies : (n : ℕ) (b : Bool) (ts : List (Test ℕ)) → 1 ≤ n → first_refusal 0 (record { answer = n; applies = b } ∷ ts) ≡ 0
    → (b ≡ false) × (first_refusal 0 ts ≡ 0)
unfolding first_refusal
none-applies n true ts h e = absurd (omega arith)
none-applies n false ts h e = (refl, e)

-- A refusal of the first tests is the refusal of all.
pub refused-first : (ts us : List (Test ℕ)) → (first_refusal 0 ts ≡ 0 → ⊥) → first_refusal 0 (ts ++ us) ≡ first_refusal 0 ts
unfolding first_refusal
refused-first [] us h = absurd (h refl)
refused-first (t ∷ ts) us h = go t.applies h (refused-first ts us)
  where
    go : (b : Bool) → (cond b t.answer (first_refusal 0 ts) ≡ 0 → ⊥) → ((first_refusal 0 ts ≡ 0 → ⊥) → first_refusal 0 (ts ++ us) ≡ first_refusal 0 ts)
        → cond b t.answer (first_refusal 0 (ts ++ us)) ≡ cond b t.answer (first_refusal 0 ts)
    go true h ih = refl
    go false h ih = ih h

-- Where none of all tests applies, none of the first does.
pub first-passed : (ts us : List (Test ℕ)) → first_refusal 0 (ts ++ us) ≡ 0 → first_refusal 0 ts ≡ 0
unfolding first_refusal
first-passed [] us h = refl
first-passed (t ∷ ts) us h = go t.applies h (first-passed ts us)
  where
    go : (b : Bool) → cond b t.answer (first_refusal 0 (ts ++ us)) ≡ 0 → (first_refusal 0 (ts ++ us) ≡ 0 → first_refusal 0 ts ≡ 0)
        → cond b t.answer (first_refusal 0 ts) ≡ 0
    go true h ih = h
    go false h ih = ih h

-- Where tests 10 and 11 do not apply, the tests after them decide.
pub table-passed : (ws : List ℕ) (us : List (Test ℕ)) → first_refusal 0 (table_tests ws) ≡ 0 → first_refusal 0 (table_tests ws ++ us) ≡ first_refusal 0 us
unfolding first_refusal
table-passed ws us h = grind (arith, common_steps)
