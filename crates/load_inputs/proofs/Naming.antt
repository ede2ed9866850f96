-- The literals of inputs by name, written over a list.
use Prim.Native.Nat.{◌*◌, ◌+◌, ◌<◌, ◌≤◌, ℕ}
use Rattle.load_model.specs.code.Paired.{named_literals}
use Rattle.netlist_model.proofs.NameLaws.{place-few}
use Rattle.netlist_model.specs.Names.{found, place_in, place_of}
use Rattle.text.proofs.DecimalLaws.{written_append, written_one}
use Rattle.text.specs.Decimal.{written}
use Rattle.words.proofs.Writing.{Writing, writing-ends}
use Rattle.std.specs.Prelude.{Bool, None, Option, Some, cond, false, true, unwrap_or}
use borrow.Author.Tests.{ltb-false}
use lib.Dec.{ltb}
use lib.ListN.{length, set}
use mathlib.Core.List.{List, [], ◌∷◌, map}
use mathlib.Core.Path.{◌∙◌, ◌≡◌, ap, ap₂, refl, sym}
use native.Mathlib.Omega.{arith}

-- The literal of the input with a name.
abbrev pub literal_of : List (List ℕ) → List ℕ → ℕ
literal_of names name = 2 * (1 + place_of name names)

-- A place, or else the number of places.
place-or : (n k : ℕ) → k ≤ n → unwrap_or (place_in n k) n ≡ k
place-or n k h = go (ltb k n) refl
  where
    go : (b : Bool) → ltb k n ≡ b → unwrap_or (cond b (Some k) None) n ≡ k
    go true e = refl
    go false e = omega (arith, ltb-false k n e)

-- What a search for a name comes to: its place among the first file's names, or else their number.
module _ (names : List (List ℕ)) {count r : ℕ} {f : Option ℕ} (n : length names ≡ count) (name : List ℕ) (e : f ≡ found name names) (h : r ≡ unwrap_or f count) where
  pub place-told : r ≡ place_of name names
  place-told = h ∙ ap₂ unwrap_or e (sym n) ∙ place-or (length names) (place_of name names) (place-few name names)

  -- It is one of the first file's inputs, or their number.
  pub place-most : r ≤ count
  place-most = omega (arith, place-told, place-few name names, n)

-- The length is kept.
pub named_length : {old all list rest : List ℕ} {k : ℕ} → Writing old 1 all list k rest → length list ≡ length old
named_length w = w.same

-- All literals are written.
pub named-ends : (names all : List (List ℕ)) (entry : List ℕ) {list : List ℕ} {k : ℕ} → 0 < length entry
    → Writing (set entry 0 0) 1 (map (literal_of names) all) list k [] → list ≡ written entry 0 (named_literals names all)
unfolding named_literals
named-ends names all entry some w =
    writing-ends w
    ∙ ap (λ (l : List ℕ). written l 1 (map (literal_of names) all)) (written_one entry 0 0 some)
    ∙ written_append entry 0 (0 ∷ []) (omega arith) (map (literal_of names) all)
