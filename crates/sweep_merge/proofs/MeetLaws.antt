-- A twin, and two vertices merged: one law for each answer.
use Rattle.std.specs.Prelude.{None, Some}
use Prim.Native.Nat.{◌*◌, ◌+◌, ◌-◌, ◌/◌, ◌≤◌, max, min, ℕ}
use Rattle.aig.proofs.IndexLaws.{row-holds}
use Rattle.aig.proofs.LiteralLaws.{literal-below}
use Rattle.aig.specs.Literal.{lit, literal_of}
use Rattle.aig.specs.Lookup.{with_row}
use Rattle.aig.specs.declared.literal.Literal.{Literal}
use Rattle.bdd.proofs.RowsLaws.{length_put}
use Rattle.bdd.specs.code.Owners.{with_owner}
use Rattle.bdd.specs.code.Rows.{RADIX, high_at, owner_at}
use Rattle.sweep_graph.proofs.GraphLaws.{graph-kept, graph-merged}
use Rattle.sweep_graph.specs.code.Graph.{Graph}
use Rattle.sweep_graph.specs.code.Takes.{Held, TakesRoom, held}
use Rattle.sweep_model.proofs.Rows.{row_other}
use Rattle.sweep_model.specs.Normalise.{normalise_from}
use Rattle.sweep_state.specs.code.Meet.{MeetAsked, MergeAsked, Workspace, handed_in, held_of, inverse?, joined, merged_pairs, merged_workspace, met_with, met_workspace, twin_at, with_held, workspace}
use Rattle.sweep_state.specs.code.Arrays.{Arrays, arrays, drawn_at}
use Rattle.sweep_state.specs.declared.task.Task.{Task}
use borrow.Author.Tests.{eq-eqb, ne_eqb}
use lib.ListN.{length-set}
use mathlib.Core.Bool.{Bool}
use mathlib.Core.List.{List}
use mathlib.Core.Path.{◌∙◌, ◌≡◌, ap, ap₂, refl, sym}
use native.Mathlib.Decide.{ℕ_discrete}
use native.Mathlib.Omega.{arith}

module _ (rows : List ℕ) (reference : ℕ) where
  pub twin-constant : reference / 2 ≡ 0 → Some 0 ≡ twin_at rows reference
  unfolding twin_at
  twin-constant e = rw (eq-eqb (reference / 2) 0 e) refl

  module _ (d : reference / 2 ≡ 0 → ⊥) {o : ℕ} (eo : o ≡ owner_at rows (reference / 2)) where
    pub twin_nobody : o ≡ 0 → None ≡ twin_at rows reference
    unfolding twin_at
    twin_nobody e = rw (ne_eqb (reference / 2) 0 d, ← eo, eq-eqb o 0 e) refl

    pub twin-owner : (o ≡ 0 → ⊥) → Some o ≡ twin_at rows reference
    unfolding twin_at
    twin-owner n = rw (ne_eqb (reference / 2) 0 d, ← eo, ne_eqb o 0 n) refl

-- A vertex merged into a lower one, or into itself.
pub joined_down : (pairs : List ℕ) (v w : ℕ) (inverted : Bool) {after : List ℕ} {x : Literal} → w ≤ v → x ≡ lit (literal_of w inverted)
    → after ≡ with_row pairs v x.0 x.0 → after ≡ joined pairs v w inverted
unfolding joined
joined_down pairs v w inverted h ex e =
    let hi : max v w ≡ v = omega arith in
    let lo : min v w ≡ w = omega arith in
    rw (hi, lo) (e ∙ ap (λ (y : Literal). with_row pairs v y.0 y.0) ex)

module _ {t : Task} {v w : ℕ} {pairs look : List ℕ} {h : Held} (q : MergeAsked t v w pairs look h) where
  -- The graph after the row is written.
  joined-graph : (b : Bool) → Graph t.first t.count (joined pairs v w b)
  unfolding joined
  joined-graph b =
      let n = q.other in
      graph-merged q.graph (max v w) (literal_of (min v w) b) q.made (omega (arith, q.first-within, q.second-within))
      (literal-below (min v w) (max v w) b (omega arith))

  pub merge-graph : (b : Bool) {after : List ℕ} → after ≡ joined pairs v w b → Graph t.first t.count after
  merge-graph b e = rw e (joined-graph b)

  module _
      {b : Bool} {after last : List ℕ} (eb : b ≡ inverse? h.diagrams v w) (e : after ≡ joined pairs v w b)
      (f : last ≡ normalise_from after t.first (t.count - t.first)) where
    pub merge-kept : Graph t.first t.count last
    merge-kept = rw f (graph-kept (merge-graph b e))

module _ {t : Task} {v reference size : ℕ} {look : List ℕ} {b : Workspace} (q : MeetAsked t v reference size look b) where
  -- There is still room once v has its diagram.
  pub drawn-room : TakesRoom t.count (held_of (drawn_at v reference size b.arrays))
  unfolding with_owner
  drawn-room =
      record {
        stages-long = rw (length-set b.arrays.stages (2 * v) 1) q.room.stages-long;
        diagrams-long = simp length-set q.room.diagrams-long;
        rows-within = λ x h.
            rw (length_put b.arrays.rows 1 (reference / 2) (high_at b.arrays.rows (reference / 2) * RADIX + v))
            (elim (ℕ_discrete x v) [
              | yes i ↦ rw (i, (row-holds b.arrays.diagrams v reference size (omega (arith, q.within, q.room.diagrams-long))).first) q.row_within
              | no n ↦ rw (row_other b.arrays.diagrams v reference size x n).first (q.room.rows-within x h)
            ]);
        few = q.room.few;
      }

  module _ {a : Arrays} (e : a ≡ drawn_at v reference size b.arrays) (w : ℕ) (o : twin_at b.arrays.rows reference ≡ Some w) where
    pub meet-asks : MergeAsked t v w b.pairs look (held_of a)
    meet-asks =
        record {
          graph = q.graph;
          room = rw e drawn-room;
          look-long = q.look-long;
          made = omega (arith, q.made);
          first-within = q.within;
          second-within = (q.twin w o).0;
          other = (q.twin w o).1;
        }

    pub meet-merged :
        {pairs stages diagrams rows : List ℕ} → pairs ≡ merged_pairs t v w b.pairs a.diagrams
        → held stages diagrams rows ≡ handed_in t (merged_pairs t v w b.pairs a.diagrams) (held_of a)
        → workspace pairs (arrays diagrams stages rows a.marks) ≡ met_workspace t v reference size b
    unfolding met_with
    meet-merged ep eh =
        ap₂ (λ (l : List ℕ) (h : Held). workspace l (with_held h a)) ep eh ∙ ap (λ (x : Arrays). merged_workspace t v w (workspace b.pairs x)) e
        ∙ ap (met_with t v (workspace b.pairs (drawn_at v reference size b.arrays))) (sym o)

  pub meet-alone :
      {a : Arrays} → a ≡ drawn_at v reference size b.arrays → twin_at b.arrays.rows reference ≡ None
      → workspace b.pairs a ≡ met_workspace t v reference size b
  unfolding met_with
  meet-alone e o = ap (workspace b.pairs) e ∙ ap (met_with t v (workspace b.pairs (drawn_at v reference size b.arrays))) (sym o)
