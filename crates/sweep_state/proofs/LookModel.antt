-- What is seen by the words is what the model sees.
use Rattle.std.specs.Prelude.{None, Some}
use Prim.Native.Nat.{◌%◌, ◌*◌, ◌<◌, ℕ}
use Rattle.aig.proofs.LiteralLaws.{vertex-below}
use Rattle.aig.specs.Literal.{negate, vertex_of}
use Rattle.aig.specs.Lookup.{first_word, second_word}
use Rattle.bdd.proofs.DiagramLaws.{canonical, denote-inverse, inverse-reference}
use Rattle.bdd.proofs.ReferenceLaws.{edge_even, edge_same, parity}
use Rattle.bdd.specs.Diagram.{Reference, denote}
use Rattle.sweep_graph.proofs.StageLaws.{stage_at}
use Rattle.sweep_graph.specs.code.Stages.{stages_of}
use Rattle.sweep_graph.specs.code.Takes.{has_word}
use Rattle.sweep_model.proofs.Rows.{resolve-within}
use Rattle.sweep_model.specs.Normalise.{resolve}
use Rattle.sweep_model.specs.State.{State, has?, literal_function, stage_of}
use Rattle.sweep_model.specs.Sweep.{different, ends, equal, look, look_at, on}
use Rattle.sweep_state.specs.code.Ending.{verdict_of}
use Rattle.sweep_state.specs.code.Look.{Looks, SeenRefers, compared_as, progress_of, reference_of, seen_at, seen_by}
use Rattle.sweep_state.specs.code.Represents.{Drawing, Represents}
use Rattle.sweep_state.specs.code.Words.{Words, posed, state_of}
use Rattle.sweep_state.specs.declared.end.End.TheVariants.{Differ, Equal, Inverse}
use Rattle.sweep_state.specs.declared.task.Task.{Task}
use Rattle.truth.proofs.Booleans.{iff_equal}
use Rattle.truth.proofs.Equality.{equal-same, same-equal}
use Rattle.truth.specs.Settings.{first_difference}
use Rattle.truth.specs.Truth.{Truth, invert, same?}
use borrow.Author.Tests.{eq-eqb, eqb-true}
use lib.Dec.{eqb}
use lib.ListN.{replicate}
use mathlib.Core.Bool.{Bool, ◌&&◌, cond, false, true}
use mathlib.Core.List.{List}
use mathlib.Core.Logic.{⊎_elim}
use mathlib.Core.Path.{◌∙◌, ◌≡◌, ap, ap₂, refl, sym}
use native.Mathlib.Omega.{arith}

-- A literal has a diagram: a reference that denotes its function.
pub record LiteralDrawn (t : Task) (functions : List Truth) (w : Words) (r : ℕ) : Type 0 where
  pub within : Reference w.rows w.used t.inputs (reference_of w.diagrams r)
  pub means : denote w.rows t.inputs (reference_of w.diagrams r) ≡ literal_function (posed t functions) r

module _ {t : Task} {functions : List Truth} {entry : List ℕ} {w : Words} (rep : Represents t functions entry w) where
  -- The stage of a vertex says whether it has a diagram.
  pub has-stage : (v : ℕ) → v < t.count → has? (stage_of (stages_of w.stages t.count) v) ≡ has_word w.stages v
  has-stage v h = ap has? (stage_at w.stages t.count v h)

  -- A literal whose vertex has a diagram has one.
  pub literal-drawn : (r : ℕ) → vertex_of r < t.count → has_word w.stages (vertex_of r) ≡ true → LiteralDrawn t functions w r
  literal-drawn r h e = ⊎_elim even odd (parity r)
    where
      c : ℕ
      c = first_word w.diagrams (vertex_of r)

      d : Drawing t functions w.rows w.used (vertex_of r) c (second_word w.diagrams (vertex_of r))
      d = rep.drawn (vertex_of r) h e

      even : r % 2 ≡ 0 → LiteralDrawn t functions w r
      even i =
          record {
            within = rw (edge_even c r i) d.within;
            means = rw (edge_even c r i, i) d.means;
          }

      odd : r % 2 ≡ 1 → LiteralDrawn t functions w r
      odd i =
          record {
            within = rw (edge_same c r 1 i) (inverse-reference d.within);
            means = rw (edge_same c r 1 i, i) (denote-inverse w.rows t.inputs c ∙ ap invert d.means);
          }

  -- One reference exactly where the functions are equal.
  pub same-reference :
      (l r : ℕ) → LiteralDrawn t functions w l → LiteralDrawn t functions w r
      → same? (literal_function (posed t functions) l) (literal_function (posed t functions) r) ≡ eqb (reference_of w.diagrams l) (reference_of w.diagrams r)
  same-reference l r a b =
      iff_equal (same? f g) (eqb (reference_of w.diagrams l) (reference_of w.diagrams r))
      (λ e.
      eq-eqb (reference_of w.diagrams l) (reference_of w.diagrams r)
      (canonical w.rows w.used rep.store.canonical t.inputs (reference_of w.diagrams l) (reference_of w.diagrams r) a.within b.within
      (a.means ∙ same-equal f g e ∙ sym b.means)))
      (λ e.
      equal-same
      (sym a.means ∙ ap (denote w.rows t.inputs) (eqb-true (reference_of w.diagrams l) (reference_of w.diagrams r) e) ∙ b.means))
    where
      f : Truth
      f = literal_function (posed t functions) l

      g : Truth
      g = literal_function (posed t functions) r

  -- A literal looked at, as it is now, names a vertex.
  now_within : (r : ℕ) → r < 2 * t.count → vertex_of (resolve w.pairs r) < t.count
  now_within r h =
      vertex-below (resolve w.pairs r) t.count
      (resolve-within rep.reachable.steady.sound.downward r t.count (omega (arith, rep.count)) h)

  left_now_lem : vertex_of (resolve w.pairs t.left) < t.count
  left_now_lem = now_within t.left (omega (arith, rep.count, rep.fit.well_formed.left-within))

  right_now_lem : vertex_of (resolve w.pairs t.right) < t.count
  right_now_lem = now_within t.right (omega (arith, rep.count, rep.fit.well_formed.right-within))

  -- What looking needs is there.
  pub looks : Looks t w.pairs w.diagrams w.stages
  looks =
      let long = rep.reachable.steady.sound.downward.long in
      record {
        left-pair = omega (arith, long, rep.count, rep.fit.well_formed.left-within);
        right-pair = omega (arith, long, rep.count, rep.fit.well_formed.right-within);
        left_diagram = omega (arith, left_now_lem, rep.diagrams-long);
        right_diagram = omega (arith, right_now_lem, rep.diagrams-long);
        left-stage = omega (arith, left_now_lem, rep.stages-long);
        right-stage = omega (arith, right_now_lem, rep.stages-long);
      }

  -- Looking as the model looks.
  pub look-models :
      progress_of w.rows t.inputs (state_of t.count w) (seen_by t w.pairs w.diagrams w.stages) ≡ look (posed t functions) (state_of t.count w)
  unfolding look look_at seen_at compared_as progress_of verdict_of
  look-models =
      rw (has-stage (vertex_of l) left_now_lem, has-stage (vertex_of r) right_now_lem)
      (go (eqb l r) (eqb l (negate r)) (has_word w.stages (vertex_of l)) refl (has_word w.stages (vertex_of r)) refl)
    where
      l : ℕ
      l = resolve w.pairs t.left

      r : ℕ
      r = resolve w.pairs t.right

      s : State
      s = state_of t.count w

      f : ℕ
      f = reference_of w.diagrams l

      g : ℕ
      g = reference_of w.diagrams r

      compared :
          LiteralDrawn t functions w l → LiteralDrawn t functions w r → (e : Bool)
          → progress_of w.rows t.inputs s (Some (cond e Equal (Differ f g)))
          ≡ cond e (ends equal 0 s)
          (ends (different (first_difference (literal_function (posed t functions) l) (literal_function (posed t functions) r))) 0 s)
      compared a b true = refl
      compared a b false = ap₂ (λ (x y : Truth). ends (different (first_difference x y)) 0 s) a.means b.means

      both :
          LiteralDrawn t functions w l → LiteralDrawn t functions w r
          → progress_of w.rows t.inputs s (Some (cond (eqb f g) Equal (Differ f g)))
          ≡ cond (same? (literal_function (posed t functions) l) (literal_function (posed t functions) r)) (ends equal 0 s)
          (ends (different (first_difference (literal_function (posed t functions) l) (literal_function (posed t functions) r))) 0 s)
      both a b = rw (same-reference l r a b) (compared a b (eqb f g))

      go : (a b x : Bool) → has_word w.stages (vertex_of l) ≡ x → (y : Bool) → has_word w.stages (vertex_of r) ≡ y
          → progress_of w.rows t.inputs s (cond a (Some Equal) (cond b (Some Inverse) (cond (x && y) (Some (cond (eqb f g) Equal (Differ f g))) None)))
          ≡ cond a (ends equal 0 s)
          (cond b (ends (different (replicate t.inputs false)) 0 s)
          (cond (x && y)
          (cond (same? (literal_function (posed t functions) l) (literal_function (posed t functions) r)) (ends equal 0 s)
          (ends (different (first_difference (literal_function (posed t functions) l) (literal_function (posed t functions) r))) 0 s))
          (on s)))
      go true b x ex y ey = refl
      go false true x ex y ey = refl
      go false false true ex true ey = both (literal-drawn l left_now_lem ex) (literal-drawn r right_now_lem ey)
      go false false true ex false ey = refl
      go false false false ex y ey = refl

  -- What is seen refers to rows in use.
  pub look-refers : SeenRefers w.rows w.used t.inputs (seen_by t w.pairs w.diagrams w.stages)
  unfolding seen_at compared_as
  look-refers = go (eqb l r) (eqb l (negate r)) (eqb f g) (has_word w.stages (vertex_of l)) refl (has_word w.stages (vertex_of r)) refl
    where
      l : ℕ
      l = resolve w.pairs t.left

      r : ℕ
      r = resolve w.pairs t.right

      f : ℕ
      f = reference_of w.diagrams l

      g : ℕ
      g = reference_of w.diagrams r

      go : (a b c x : Bool) → has_word w.stages (vertex_of l) ≡ x → (y : Bool) → has_word w.stages (vertex_of r) ≡ y
          → SeenRefers w.rows w.used t.inputs (cond a (Some Equal) (cond b (Some Inverse) (cond (x && y) (Some (cond c Equal (Differ f g))) None)))
      go true b c x ex y ey = tt
      go false true c x ex y ey = tt
      go false false true true ex true ey = tt
      go false false false true ex true ey = ((literal-drawn l left_now_lem ex).within, (literal-drawn r right_now_lem ey).within)
      go false false c true ex false ey = tt
      go false false c false ex y ey = tt
