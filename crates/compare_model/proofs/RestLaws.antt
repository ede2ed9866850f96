-- What holds at rest by some marks and rows holds by others that agree with them on every vertex.
use Prim.Native.Nat.{◌<◌, ◌≤◌, ℕ}
use Rattle.sweep_model.specs.Claims.{AtRest, Excused, Made, Stuck, TookOne, by_first, by_merging, by-second, by_taking}
use lib.ListN.{get_or}
use mathlib.Core.List.{List}
use mathlib.Core.Logic.{inl, inr, ⊎_elim}
use mathlib.Core.Path.{◌∙◌, ◌≡◌, sym}
use native.Mathlib.Omega.{arith}

-- Two lists of marks agree on so many vertices.
record SameMarks (count : ℕ) (marks other : List ℕ) : Type 0 where
  same : (v : ℕ) → v < count → get_or marks v 0 ≡ get_or other v 0

-- The same the other way round.
turned : {count : ℕ} {marks other : List ℕ} → SameMarks count marks other → SameMarks count other marks
turned a = record { same = λ v l. sym (a.same v l) }

module _ {first count : ℕ} {rows operands marks other : List ℕ} (a : SameMarks count marks other) where
  -- An AND is one by both.
  made_alike : {v : ℕ} → Made first count marks rows operands v → Made first count other rows operands v
  made_alike m = record { made = m.made; there = m.there }

  -- One marked 1 was merged into it by both.
  took_alike : {v : ℕ} → TookOne first count marks rows operands v → TookOne first count other rows operands v
  took_alike t =
      record {
        other = t.other;
        made = made_alike t.made;
        mark = sym (a.same t.other t.made.there) ∙ t.mark;
        merged = t.merged;
        into = t.into;
      }

module _ {first count : ℕ} {rows operands marks other : List ℕ} (a : SameMarks count marks other) where
  -- It is stuck by both,
  stuck_alike : {v : ℕ} → Stuck first count marks rows operands v → Stuck first count other rows operands v
  stuck_alike {v} k =
      let m : get_or other v 0 ≡ get_or marks v 0 = sym (a.same v k.made.there) in
      record {
        made = made_alike a k.made;
        unmerged = k.unmerged;
        mark = ⊎_elim (λ e. inl (m ∙ e)) (λ e. inr (m ∙ e.0, λ t. e.1 (took_alike (turned a) t))) k.mark;
      }

  -- has its excuse by both,
  excused_alike : {v : ℕ} → Excused first count marks rows operands v → Excused first count other rows operands v
  excused_alike (by_merging e) = by_merging e
  excused_alike (by_taking t) = by_taking (took_alike a t)
  excused_alike (by_first k) = by_first (stuck_alike k)
  excused_alike (by-second k) = by-second (stuck_alike k)

  -- and so all are at rest by both.
  marks-alike : first ≤ count → AtRest first count marks rows operands → AtRest first count other rows operands
  marks-alike few r =
      record {
        inputs = λ v l m. sym (a.same v (omega arith)) ∙ r.inputs v l m;
        ands = λ v m e. excused_alike (r.ands v (made_alike (turned a) m) (a.same v m.there ∙ e));
      }

-- The rows, and what bounds the vertices, may be written otherwise too.
pub rest-alike : {first count first' count' : ℕ} {marks other rows rows' : List ℕ} → first ≡ first' → count ≡ count' → rows ≡ rows' → first' ≤ count'
    → ((v : ℕ) → v < count' → get_or marks v 0 ≡ get_or other v 0) → AtRest first count marks rows rows → AtRest first' count' other rows' rows'
rest-alike f c e few same r = marks-alike (record { same = same }) few (rw (f, c, e) at r)
