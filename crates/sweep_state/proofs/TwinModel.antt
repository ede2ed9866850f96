-- The twin found by a row's owner is the model's.
use Rattle.std.specs.Prelude.{None, Option, Some}
use Prim.Native.Nat.{◌/◌, ◌<◌, ◌≤◌, ℕ}
use Rattle.aig.specs.Lookup.{first_word, second_word}
use Rattle.bdd.proofs.DiagramLaws.{denote-constant, one-row-alike}
use Rattle.bdd.proofs.StoreLaws.{alike-row}
use Rattle.bdd.specs.code.Rows.{owner_at}
use Rattle.sweep_graph.specs.code.Stages.{stages_of}
use Rattle.sweep_graph.specs.code.Takes.{has_word}
use Rattle.sweep_model.proofs.Apart.{twin-one}
use Rattle.sweep_model.proofs.Choices.{IsTwin, twin_at_lem, twin-none}
use Rattle.sweep_model.proofs.Stages.{has_not_gone, stage-within}
use Rattle.sweep_model.specs.State.{Stage, has?, stage_of}
use Rattle.sweep_model.specs.Sweep as model
use Rattle.sweep_model.specs.Sweep.{at, none, twin_from}
use Rattle.sweep_state.proofs.DrawModel.{Draws, carried}
use Rattle.sweep_state.proofs.LookModel.{has-stage}
use Rattle.sweep_state.specs.code.Meet.{twin_at, twin_of}
use Rattle.sweep_state.specs.code.Represents.{Represents}
use Rattle.sweep_state.specs.code.Words.{Words, posed}
use Rattle.sweep_state.specs.declared.task.Task.{Task}
use Rattle.truth.proofs.Booleans.{clash}
use Rattle.truth.specs.Parts.{alike?}
use Rattle.truth.specs.Truth.{Truth}
use borrow.Author.Tests.{eqb-false, eqb-true}
use lib.Dec.{eqb}
use lib.ListN.{length}
use mathlib.Core.Bool.{Bool, cond, false, true}
use mathlib.Core.List.{List}
use mathlib.Core.Logic.{◌≢◌}
use mathlib.Core.Path.{◌∙◌, ◌≡◌, ap, ap₂, refl, subst, sym}
use native.Mathlib.Decide.{dec_le}
use native.Mathlib.Omega.{arith}

-- What the answer says of the row.
data Answered (rows : List ℕ) (i : ℕ) : Option ℕ → Type 0 where
  constant : i ≡ 0 → Answered rows i (Some 0)
  owner : 1 ≤ i → 1 ≤ owner_at rows i → Answered rows i (Some (owner_at rows i))
  nobody : 1 ≤ i → owner_at rows i ≡ 0 → Answered rows i None

answers : (rows : List ℕ) (reference : ℕ) → Answered rows (reference / 2) (twin_at rows reference)
unfolding twin_at
answers rows reference = go (eqb (reference / 2) 0) refl (eqb (owner_at rows (reference / 2)) 0) refl
  where
    go : (a : Bool) → eqb (reference / 2) 0 ≡ a → (b : Bool) → eqb (owner_at rows (reference / 2)) 0 ≡ b
        → Answered rows (reference / 2) (cond a (Some 0) (cond b None (Some (owner_at rows (reference / 2)))))
    go true e b f = constant (eqb-true (reference / 2) 0 e)
    go false e true f = let n = eqb-false (reference / 2) 0 e in nobody (omega arith) (eqb-true (owner_at rows (reference / 2)) 0 f)
    go false e false f =
        let n = eqb-false (reference / 2) 0 e in
        let m = eqb-false (owner_at rows (reference / 2)) 0 f in
        owner (omega arith) (omega arith)

module _
    {t : Task} {functions : List Truth} {entry : List ℕ} {w : Words} (rep : Represents t functions entry w) {rows : List ℕ} {u v reference count : ℕ}
    (d : Draws t functions w rows u v reference count) where
  abbrev stages : List Stage
  stages = stages_of w.stages t.count

  -- A vertex with a diagram on the row is a twin.
  on_row : (x : ℕ) → x < t.count → has_word w.stages x ≡ true → first_word w.diagrams x / 2 ≡ reference / 2 → IsTwin (posed t functions) stages v x
  on_row x h e i =
      let g = carried rep d x (first_word w.diagrams x) (second_word w.diagrams x) (rep.drawn x h e) in
      record {
        has_one = has-stage rep x h ∙ e;
        alike =
            sym (ap₂ alike? d.drawing.means g.means) ∙ one-row-alike rows t.inputs reference (first_word w.diagrams x) (sym i);
      }

  twin_inside : (x : ℕ) → IsTwin (posed t functions) stages v x → x < t.count
  twin_inside x y =
      omega (arith, stage-within stages x (has_not_gone (stage_of stages x) y.has_one), rep.reachable.steady.staged.long, rep.count)

  -- A twin has its diagram on the row.
  twin-row : (x : ℕ) → IsTwin (posed t functions) stages v x → first_word w.diagrams x / 2 ≡ reference / 2
  twin-row x y =
      let h = twin_inside x y in
      let e = sym (has-stage rep x h) ∙ y.has_one in
      let g = carried rep d x (first_word w.diagrams x) (second_word w.diagrams x) (rep.drawn x h e) in
      sym
      (alike-row rows u d.grown.store.canonical t.inputs reference (first_word w.diagrams x) d.drawing.within g.within
      (ap₂ alike? d.drawing.means g.means ∙ y.alike))

  -- What the answer says of twins.
  Tells : Option ℕ → Type 0
  Tells (Some x) = IsTwin (posed t functions) stages v x
  Tells None = (x : ℕ) → IsTwin (posed t functions) stages v x → ⊥

  tells : Tells (twin_at rows reference)
  unfolding Tells
  tells = go (answers rows reference)
    where
      zero_has : has_word w.stages 0 ≡ true
      zero_has =
          sym (has-stage rep 0 (omega (arith, d.within))) ∙ ap has? rep.reachable.steady.staged.constant ∙ (unfold has? in refl)

      go : {o : Option ℕ} → Answered rows (reference / 2) o → Tells o
      go (constant i) =
          record {
            has_one = has-stage rep 0 (omega (arith, d.within)) ∙ zero_has;
            alike =
                sym
                (ap₂ alike? d.drawing.means
                (denote-constant rows t.inputs 0 refl ∙ sym rep.fit.well_formed.constant))
                ∙ one-row-alike rows t.inputs reference 0 i;
          }
      go (owner l m) =
          elim (dec_le (reference / 2) w.used) [
            | yes h ↦
                let same = d.grown.kept.owners (reference / 2) h in
                let o = rep.owners.rightly (reference / 2) l h (rw same at m) in
                rw same (on_row (owner_at w.rows (reference / 2)) o.within o.has_one o.there)
            | no h ↦ absurd (omega (arith, d.grown.fresh (reference / 2) (omega arith) d.drawing.within.stored))
          ]
      go (nobody l z) = λ x y.
          let h = twin_inside x y in
          let e = sym (has-stage rep x h) ∙ y.has_one in
          let i = twin-row x y in
          let g = rep.drawn x h e in
          let n = rep.owners.named x h e (rw i l) in
          omega (arith, ap (owner_at w.rows) i, d.grown.kept.owners (first_word w.diagrams x / 2) g.within.stored, ap (owner_at rows) i, n)

  -- The answer is the model's.
  pub twin_models : twin_from (posed t functions) stages v 0 (length stages) ≡ twin_of (twin_at rows reference)
  unfolding Tells
  twin_models = go (twin_at rows reference) tells (twin_from (posed t functions) stages v 0 (length stages)) refl
    where
      go : (o : Option ℕ) → Tells o → (m : model.Candidate) → twin_from (posed t functions) stages v 0 (length stages) ≡ m → m ≡ twin_of o
      go (Some x) y (at z) e =
          ap at
          (twin-one (posed t functions) stages rep.reachable.apart v z x
          (twin_at_lem (posed t functions) stages v 0 (length stages) z e).is-twin y)
      go (Some x) y none e =
          absurd
          (twin-none (posed t functions) stages v 0 (length stages) e x (omega arith)
          (omega (arith, stage-within stages x (has_not_gone (stage_of stages x) y.has_one))) y)
      go None n (at z) e = absurd (n z (twin_at_lem (posed t functions) stages v 0 (length stages) z e).is-twin)
      go None n none e = refl

  -- A twin that is found is another vertex.
  pub twin-found : (x : ℕ) → twin_at rows reference ≡ Some x → IsTwin (posed t functions) stages v x
  unfolding Tells
  twin-found x e = subst Tells e tells

  pub twin-asked : (x : ℕ) → twin_at rows reference ≡ Some x → (x < t.count) × (x ≢ v)
  twin-asked x e =
      let y = twin-found x e in
      let h = twin_inside x y in
      (h, λ i. clash (sym (ap (has_word w.stages) i) ∙ sym (has-stage rep x h) ∙ y.has_one) d.lacks)
