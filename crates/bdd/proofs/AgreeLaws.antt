-- Two stores that agree on rows 0 to n: in levels, edges and owners, in buckets, and in canonical form.
use Prim.Native.Nat.{◌/◌, ◌<◌, ◌≤◌, ℕ}
use Rattle.bdd.proofs.RowsLaws.{child_sees, level_sees, owner_sees}
use Rattle.bdd.specs.Diagram.{Canonical, Row}
use Rattle.bdd.specs.code.Rows.{child, word_at}
use Rattle.bdd.specs.code.Store.{Agree, Kept, bucket_of}
use mathlib.Core.Bool.{false, true}
use mathlib.Core.List.{List}
use mathlib.Core.Path.{◌∙◌, ◌≡◌, refl, sym}
use native.Mathlib.Omega.{arith}

pub agree-self : (s : List ℕ) (n : ℕ) → Agree s s n
agree-self s n = record { levels = λ i h. refl; children = λ b i h. refl }

pub agree_then : {s t v : List ℕ} {n u : ℕ} → Agree s t n → Agree t v u → n ≤ u → Agree s v n
agree_then A B le = record { levels = λ i h. B.levels i (omega arith) ∙ A.levels i h; children = λ b i h. B.children b i (omega arith) ∙ A.children b i h }

pub kept_self : (s : List ℕ) (n : ℕ) → Kept s s n
kept_self s n = record { agree = agree-self s n; owners = λ i h. refl }

pub kept_then : {s t v : List ℕ} {n u : ℕ} → Kept s t n → Kept t v u → n ≤ u → Kept s v n
kept_then K L le = record { agree = agree_then K.agree L.agree le; owners = λ i h. L.owners i (omega arith) ∙ K.owners i h }

-- Where the first three words of rows 0 to n are the same, so are their fields.
pub words-kept : (s t : List ℕ) (n : ℕ) → ((k i : ℕ) → k < 3 → i ≤ n → word_at t k i ≡ word_at s k i) → Kept s t n
words-kept s t n w =
    record {
      agree = record {
        levels = λ i h. level_sees s t i i (w 0 i (omega arith) h);
        children = λ b i h. child_sees s t i i b (w 0 i (omega arith) h) (w 1 i (omega arith) h);
      };
      owners = λ i h. owner_sees s t i i (w 1 i (omega arith) h);
    }

-- The bucket of a row depends on its level and edges alone.
pub bucket-agree : (s t : List ℕ) (limit n i : ℕ) → Agree s t n → i ≤ n → bucket_of t limit i ≡ bucket_of s limit i
unfolding bucket_of
bucket-agree s t limit n i A le = rw (A.levels i le, A.children false i le, A.children true i le)

-- Canonical form depends on levels and edges alone.
pub row-agree : (s t : List ℕ) (n i : ℕ) → Agree s t n → i ≤ n → Row s i → Row t i
row-agree s t n i A le w =
    record {
      deep = rw (A.levels i le) w.deep;
      earlier = λ b. rw (A.children b i le) (w.earlier b);
      lower = λ b. rw (A.children b i le, A.levels i le, A.levels (child s b i / 2) (omega (arith, w.earlier b))) (w.lower b);
      plain = rw (A.children false i le) w.plain;
      differ = λ e. w.differ (sym (A.children false i le) ∙ e ∙ A.children true i le);
    }

pub canonical-agree : (s t : List ℕ) (n : ℕ) → Agree s t n → Canonical s n → Canonical t n
canonical-agree s t n A C =
    record {
      row = λ i pos le. row-agree s t n i A le (C.row i pos le);
      once = λ i j pi li pj lj e f. C.once i j pi li pj lj (sym (A.levels i li) ∙ e ∙ A.levels j lj) (λ b. sym (A.children b i li) ∙ f b ∙ A.children b j lj);
    }

pub canonical-fewer : {rows : List ℕ} {n k : ℕ} → Canonical rows n → k ≤ n → Canonical rows k
canonical-fewer C le = record { row = λ i pos h. C.row i pos (omega arith); once = λ i j pi li pj lj e f. C.once i j pi (omega arith) pj (omega arith) e f }
