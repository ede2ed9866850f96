-- A graph that grows by rows: one after another, and what it keeps.
use Prim.Native.Nat.{◌*◌, ◌+◌, ◌<◌, ℕ}
use Rattle.load_model.specs.Build.{Build}
use Rattle.load_model.specs.code.Good.{Good}
use Rattle.load_model.specs.code.Grown.{Grown, Step, row_words}
use Rattle.table.specs.Table.{pairs}
use Rattle.table.specs.Values.{Pair}
use lib.ListN.{length, length-append}
use mathlib.Core.List.{List, [], ◌++◌, ◌∷◌, append_assoc, append-nil}
use mathlib.Core.Path.{◌∙◌, ◌≡◌, ap, refl, sym}
use native.Mathlib.Omega.{arith}

-- The words of some rows after others.
pub row_words_append : (rs qs : List Pair) → row_words (rs ++ qs) ≡ row_words rs ++ row_words qs
unfolding row_words
row_words_append [] qs = refl
row_words_append (r ∷ rs) qs = ap (λ (ws : List ℕ). r.0 ∷ r.1 ∷ ws) (row_words_append rs qs)

-- Rows have two words each.
pub length_row_words : (rs : List Pair) → length (row_words rs) ≡ 2 * length rs
unfolding row_words
length_row_words [] = refl
length_row_words (r ∷ rs) = omega (arith, length_row_words rs)

-- The pairs of their words are the rows.
pub pairs-row_words : (rs : List Pair) (ws : List ℕ) → pairs (length rs) (row_words rs ++ ws) ≡ rs
unfolding pairs row_words
pairs-row_words [] ws = refl
pairs-row_words (r ∷ rs) ws = ap (◌∷◌ r) (pairs-row_words rs ws)

-- No row more.
pub grown-none : {b c : Build} → c.words ≡ b.words → c.count ≡ b.count → Grown b [] c
unfolding row_words
grown-none {b} e n = record { words = e ∙ sym (append-nil b.words); count = omega arith }

-- One row more.
pub grown-one : {b c : Build} {p q : ℕ} → c.words ≡ b.words ++ (p ∷ q ∷ []) → c.count ≡ b.count + 1 → Grown b ((p, q) ∷ []) c
unfolding row_words
grown-one e n = record { words = e; count = n }

-- Some rows after others.
pub grown-then : {b c d : Build} {rs qs : List Pair} → Grown b rs c → Grown c qs d → Grown b (rs ++ qs) d
grown-then {b} {c} {d} {rs} {qs} g h =
    record {
      words = h.words ∙ rw (g.words, row_words_append rs qs) (append_assoc b.words (row_words rs) (row_words qs));
      count = omega (arith, g.count, h.count, length-append rs qs);
    }

-- No AND asked for.
pub step_none : {n : ℕ} {b : Build} → Good n b → Step n b 0 b
step_none {n} {b} g = record { good = g; asked = omega arith; rows = []; grown = grown-none refl refl }

-- One step after another.
pub step_then : {n j k : ℕ} {b c d : Build} → Step n b j c → Step n c k d → Step n b (j + k) d
step_then s t =
    record {
      good = t.good;
      asked = omega (arith, s.asked, t.asked);
      rows = s.rows ++ t.rows;
      grown = grown-then s.grown t.grown;
    }

-- A literal of the graph stays one.
pub step_below : {n k : ℕ} {b c : Build} → Step n b k c → {r : ℕ} → r < 2 * b.count → r < 2 * c.count
step_below s h = omega (arith, s.grown.count)
