-- A vertex met: the words stand for the model's state, without a twin and with one.
use Rattle.std.specs.Prelude.{None, Option, Some}
use Prim.Native.Nat.{◌*◌, ◌/◌, ◌<◌, ◌≤◌, max, min, ℕ}
use Rattle.aig.specs.Literal.{literal_of}
use Rattle.aig.specs.Lookup.{first_word, second_word}
use Rattle.bdd.proofs.DiagramLaws.{canonical}
use Rattle.bdd.proofs.OwnerLaws.{length_owner}
use Rattle.bdd.specs.Diagram.{denote}
use Rattle.product.specs.Product.{book_of}
use Rattle.product_model.specs.Run.{done}
use Rattle.sweep_graph.proofs.StageLaws.{stages-set}
use Rattle.sweep_graph.specs.code.Graph.{Graph}
use Rattle.sweep_graph.specs.code.Stages.{stages_of, word_stage}
use Rattle.sweep_model.proofs.Reachable.{merged-reachable, product-reachable}
use Rattle.sweep_model.specs.Normalise.{merged_into, normalise}
use Rattle.sweep_model.specs.code.Reachable.{Reachable}
use Rattle.sweep_model.specs.State.{Problem, State, function_of, with_book, with_rows}
use Rattle.sweep_model.specs.code.Steady.{Due, product_of}
use Rattle.sweep_model.specs.Sweep.{at, meet, none, swept, twin_from}
use Rattle.sweep_state.proofs.DrawModel.{Draws, all-owners, carried, drawn-represents, drawn-state, other-first, other-second, other-stage, own, own_first, own-second}
use Rattle.sweep_state.proofs.HandLaws.{Handed}
use Rattle.sweep_state.proofs.LookModel.{has-stage}
use Rattle.sweep_merge.proofs.MeetLaws.{drawn-room, meet-asks, merge-graph}
use Rattle.sweep_state.proofs.NormaliseModel.{Normalises, normalised-represents, normalised_state, sound-graph}
use Rattle.sweep_state.proofs.TwinModel.{twin-asked, twin-found, twin_models}
use Rattle.sweep_state.specs.code.Meet.{MeetAsked, MergeAsked, Workspace, held_of, inverse?, joined, merged_workspace, met_with, met_workspace, twin_at, twin_of, workspace}
use Rattle.sweep_state.specs.code.Represents.{Drawing, Represents}
use Rattle.sweep_state.specs.code.Settle.{on_workspace, workspace_of}
use Rattle.sweep_state.specs.code.Arrays.{Arrays, arrays, drawn_at}
use Rattle.sweep_state.specs.code.Words.{Words, posed, state_of}
use Rattle.sweep_state.specs.declared.task.Task.{Task}
use Rattle.truth.proofs.Booleans.{iff_equal}
use Rattle.truth.proofs.Equality.{equal-same, same-equal}
use Rattle.truth.specs.Parts.{size}
use Rattle.truth.specs.Truth.{Truth, same?}
use borrow.Author.Tests.{eq-eqb, eqb-true}
use lib.Dec.{eqb, ltb}
use lib.ListN.{length, length-set, take}
use lib.Seq.{take-set-lt}
use mathlib.Core.Bool.{false, not, true}
use mathlib.Core.List.{List}
use mathlib.Core.Path.{◌∙◌, ◌≡◌, ap, refl, sym}
use native.Mathlib.Decide.{ℕ_discrete}
use native.Mathlib.Omega.{arith}

-- A vertex that has its diagram merges with its twin, if there is one.
pub meet-twin :
    (t : Task) (v reference size : ℕ) (b : Workspace) {w : ℕ} → twin_at b.arrays.rows reference ≡ Some w
    → merged_workspace t v w (workspace b.pairs (drawn_at v reference size b.arrays)) ≡ met_workspace t v reference size b
unfolding met_with
meet-twin t v reference size b o = ap (met_with t v (workspace b.pairs (drawn_at v reference size b.arrays))) (sym o)

pub meet-single :
    (t : Task) (v reference size : ℕ) (b : Workspace) → twin_at b.arrays.rows reference ≡ None
    → workspace b.pairs (drawn_at v reference size b.arrays) ≡ met_workspace t v reference size b
unfolding met_with
meet-single t v reference size b o = ap (met_with t v (workspace b.pairs (drawn_at v reference size b.arrays))) (sym o)

module _
    {t : Task} {functions : List Truth} {entry : List ℕ} {w : Words} (rep : Represents t functions entry w) {rows : List ℕ} {u v reference count : ℕ}
    (d : Draws t functions w rows u v reference count) {n : ℕ} (due : Due (posed t functions) entry n v (state_of t.count w)) where
  abbrev p : Problem
  p = posed t functions

  -- The working graph.
  pub graph_now : Graph t.first t.count w.pairs
  graph_now = sound-graph rep.fit.well_formed rep.count rep.few rep.reachable.steady.sound

  -- What meeting needs is there.
  pub meet-asked : (look : List ℕ) → 2 * t.count ≤ length look → MeetAsked t v reference count look (workspace_of w rows)
  meet-asked look long =
      record {
        graph = graph_now;
        look-long = long;
        marks-long = rep.marks-long;
        room = record {
          stages-long = rep.stages-long;
          diagrams-long = rep.diagrams-long;
          rows-within = λ x h. rw d.long (rep.rows-within x h);
          few = rep.few;
        };
        row_within = omega (arith, d.drawing.within.stored, d.grown.store.room.used, d.grown.store.room.long);
        made = due.made;
        within = d.within;
        twin = twin-asked rep d;
      }

  abbrev drawn : Arrays
  drawn = drawn_at v reference count (arrays w.diagrams w.stages rows w.marks)

  -- Once v has its diagram, rows and owners are right.
  drawn_handed : Handed t functions rows u (held_of drawn)
  drawn_handed =
      record {
        room = drawn-room (meet-asked w.pairs (omega (arith, graph_now.downward.long)));
        drawn = λ x h e.
            elim (ℕ_discrete x v) [
              | yes i ↦ rw (i, own_first rep d, own-second rep d) d.drawing
              | no m ↦ rw (other-first rep d x m, other-second rep d x m)
                  (carried rep d x (first_word w.diagrams x) (second_word w.diagrams x) (rep.drawn x h (sym (other-stage rep d x m) ∙ e)))
            ];
        owners = all-owners rep d;
        store = (own rep d).store;
        agree = (own rep d).agree;
        long = length_owner rows (reference / 2) v;
      }

  module _ (k : ℕ) (ran : product_of p v (state_of t.count w) ≡ done (book_of rows u k)) (small : ltb t.size (size (function_of p v)) ≡ false) where
    abbrev before : State
    before = with_book (book_of rows u k) (state_of t.count w)

    -- Without a twin.
    pub alone_state : twin_at rows reference ≡ None → state_of t.count (on_workspace (workspace w.pairs drawn) u k) ≡ meet p v before none
    unfolding meet
    alone_state o = drawn-state rep d k

    pub alone_represents : twin_at rows reference ≡ None → Represents t functions entry (on_workspace (workspace w.pairs drawn) u k)
    alone_represents o =
        drawn-represents rep d k
        (product-reachable rep.fit due rep.reachable (book_of rows u k) ran small
        (twin_models rep d ∙ ap twin_of o))

    -- With a twin.
    module _ (x : ℕ) (o : twin_at rows reference ≡ Some x) where
      -- Inverse references are inverse functions.
      inverse-is : inverse? drawn.diagrams v x ≡ not (same? (function_of p v) (function_of p x))
      unfolding inverse?
      inverse-is =
          rw (own_first rep d, other-first rep d x (twin-asked rep d x o).1)
          (ap not (iff_equal (eqb reference r) (same? (function_of p v) (function_of p x)) up down))
        where
          r : ℕ
          r = first_word w.diagrams x

          inside : x < t.count
          inside = (twin-asked rep d x o).0

          g : Drawing t functions rows u x r (second_word w.diagrams x)
          g =
              carried rep d x r (second_word w.diagrams x)
              (rep.drawn x inside (sym (has-stage rep x inside) ∙ (twin-found rep d x o).has_one))

          up : eqb reference r ≡ true → same? (function_of p v) (function_of p x) ≡ true
          up e = equal-same (sym d.drawing.means ∙ ap (denote rows t.inputs) (eqb-true reference r e) ∙ g.means)

          down : same? (function_of p v) (function_of p x) ≡ true → eqb reference r ≡ true
          down e =
              eq-eqb reference r
              (canonical rows u d.grown.store.canonical t.inputs reference r d.drawing.within g.within
              (d.drawing.means ∙ same-equal (function_of p v) (function_of p x) e ∙ sym g.means))

      -- The state that the model normalises.
      abbrev joint : State
      joint = swept v (with_rows (merged_into w.pairs (max v x) (literal_of (min v x) (not (same? (function_of p v) (function_of p x))))) before)

      joint_rows : joined w.pairs v x (inverse? drawn.diagrams v x) ≡ joint.rows
      unfolding joined swept
      joint_rows = rw inverse-is refl

      long-look : 2 * t.count ≤ length w.pairs
      long-look = graph_now.downward.long

      merge-asked : MergeAsked t v x w.pairs w.pairs (held_of drawn)
      merge-asked = meet-asks (meet-asked w.pairs long-look) refl x o

      joint_stages : joint.stages ≡ stages_of drawn.stages t.count
      unfolding swept word_stage
      joint_stages = sym (stages-set w.stages t.count v 1 d.within rep.stages-long)

      joint_marks : take t.count drawn.marks ≡ joint.marks
      unfolding swept
      joint_marks = take-set-lt t.count w.marks v 1 d.within

      joint_book : book_of rows u k ≡ joint.book
      unfolding swept
      joint_book = refl

      -- The sweep reaches the state to which it is normalised.
      joint_reached : Reachable p entry (normalise t.first joint)
      unfolding meet
      joint_reached = merged-reachable rep.fit due rep.reachable (book_of rows u k) ran small x (twin_models rep d ∙ ap twin_of o)

      joint_normalises : Normalises t functions entry (joined w.pairs v x (inverse? drawn.diagrams v x)) rows u (held_of drawn) joint
      joint_normalises =
          record {
            fit = rep.fit;
            count = rep.count;
            canonical = d.grown.store.canonical;
            handed = drawn_handed;
            graph = merge-graph merge-asked (inverse? drawn.diagrams v x) refl;
            same_rows = joint_rows;
            same-stages = joint_stages;
            reached = joint_reached;
          }

      pub merged-state : state_of t.count (on_workspace (merged_workspace t v x (workspace w.pairs drawn)) u k) ≡ meet p v before (at x)
      unfolding meet
      merged-state = normalised_state joint_normalises drawn.marks k joint_marks joint_book

      pub merged-represents : Represents t functions entry (on_workspace (merged_workspace t v x (workspace w.pairs drawn)) u k)
      merged-represents =
          normalised-represents joint_normalises drawn.marks k joint_marks joint_book rep.narrow rep.short rep.modest
          (rw (length-set w.marks v 1) rep.marks-long)

    -- Either way.
    pub met-state :
        state_of t.count (on_workspace (met_workspace t v reference count (workspace_of w rows)) u k)
        ≡ meet p v before (twin_from p (stages_of w.stages t.count) v 0 (length (stages_of w.stages t.count)))
    unfolding met_with
    met-state = rw (twin_models rep d) (go (twin_at rows reference) refl)
      where
        go : (o : Option ℕ) → twin_at rows reference ≡ o
            → state_of t.count (on_workspace (met_with t v (workspace w.pairs drawn) o) u k) ≡ meet p v before (twin_of o)
        go None e = alone_state e
        go (Some x) e = merged-state x e

    pub met-represents : Represents t functions entry (on_workspace (met_workspace t v reference count (workspace_of w rows)) u k)
    unfolding met_with
    met-represents = go (twin_at rows reference) refl
      where
        go : (o : Option ℕ) → twin_at rows reference ≡ o → Represents t functions entry (on_workspace (met_with t v (workspace w.pairs drawn) o) u k)
        go None e = alone_represents e
        go (Some x) e = merged-represents x e
