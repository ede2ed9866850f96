-- A product that is done, dropped or met, as in the model.
use Prim.Native.Nat.{◌*◌, ◌<◌, ◌≤◌, ℕ}
use Rattle.bdd.specs.code.Store.{Store}
use Rattle.bdd_size.specs.code.Marks.{Sized}
use Rattle.bdd_unique.specs.code.Unique.{GivenBack}
use Rattle.sweep_graph.specs.code.Stages.{with_stage}
use Rattle.sweep_model.specs.State.{function_of}
use Rattle.sweep_state.proofs.DrawModel.{Draws}
use Rattle.sweep_state.proofs.DropModel.{Returns, dropped-represents, dropped-state, due-inside, due-lacks}
use Rattle.sweep_state.specs.code.Meet.{MeetAsked, Workspace, met_workspace, workspace}
use Rattle.sweep_state.specs.code.Settle.{BeforeProduct, Ended, Settled, words_before}
use Rattle.sweep_state.specs.code.Arrays.{arrays}
use Rattle.sweep_state.specs.code.Words.{posed}
use Rattle.sweep_state.specs.declared.task.Task.{Task}
use Rattle.sweep_step.proofs.MeetModel.{meet-asked, met-represents, met-state}
use Rattle.truth.specs.Parts.{size}
use borrow.Author.Tests.{le-ltb, lt-ltb}
use lib.ListN.{length, set}
use mathlib.Core.List.{List}
use mathlib.Core.Path.{◌∙◌, ◌≡◌, ap, sym}
use native.Mathlib.Omega.{arith}

module _ {t : Task} {x : BeforeProduct} {v reference used kept : ℕ} {b : Workspace} (e : Ended t x v reference used kept b) where
  -- The size that was measured.
  pub ended-size : {after : List ℕ} {c : ℕ} → Sized b.arrays.rows after reference c → c ≡ size (function_of (posed t x.functions) v)
  ended-size s = s.sized t.inputs e.within.fits ∙ ap size e.means

  module _ {after : List ℕ} {c : ℕ} (s : Sized b.arrays.rows after reference c) where
    -- What giving back needs is there.
    pub settle_back : (Store after t.rows used × (kept ≤ used)) × ((2 * v < length b.arrays.stages) × (v < length b.arrays.marks))
    settle_back =
        let inside = due-inside e.represents e.due in (
          (rw s.same e.grown.store, e.grown.more),
          (omega (arith, inside, e.represents.stages-long), omega (arith, inside, e.represents.marks-long)),
        )

    -- It is too large.
    pub settle-drops :
        {rows stages marks : List ℕ} → t.size < c → GivenBack after rows t.rows used kept → length rows ≡ length b.arrays.rows
        → stages ≡ with_stage b.arrays.stages v 4 → marks ≡ set b.arrays.marks v 2
        → Settled t x v used kept b (workspace b.pairs (arrays b.arrays.diagrams stages rows marks)) kept
    settle-drops {rows} large g long es em =
        let f = lt-ltb t.size (size (function_of (posed t x.functions) v)) (omega (arith, ended-size s)) in
        let r : Returns t (words_before x b kept) b.arrays.rows rows used =
        record { grown = e.grown; given_back_lem = rw s.same at g; long = long ∙ e.long } in
        rw (es, em)
        (record {
          reached = rw f (sym (dropped-state e.represents r e.due x.taken));
          represents = dropped-represents e.represents r e.due x.taken e.ran f;
        })

    ended_draws : Draws t x.functions (words_before x b kept) b.arrays.rows used v reference c
    ended_draws =
        record {
          grown = e.grown;
          long = e.long;
          drawing = record { within = e.within; means = e.means; sized = ended-size s };
          some = omega (arith, e.due.made, e.represents.fit.well_formed.some_first);
          within = due-inside e.represents e.due;
          lacks = due-lacks e.represents e.due;
        }

    -- It is met.
    pub settle_asks : (look : List ℕ) → 2 * t.count ≤ length look
        → MeetAsked t v reference c look (workspace b.pairs (arrays b.arrays.diagrams b.arrays.stages after b.arrays.marks))
    settle_asks look long = rw s.same (meet-asked e.represents ended_draws e.due look long)

    pub settle-meets :
        {last : Workspace} → c ≤ t.size
        → last ≡ met_workspace t v reference c (workspace b.pairs (arrays b.arrays.diagrams b.arrays.stages after b.arrays.marks))
        → Settled t x v used kept b last used
    settle-meets few l =
        let f = le-ltb t.size (size (function_of (posed t x.functions) v)) (omega (arith, ended-size s)) in
        rw (l, s.same)
        (record {
          reached = rw f (sym (met-state e.represents ended_draws e.due x.taken e.ran f));
          represents = met-represents e.represents ended_draws e.due x.taken e.ran f;
        })
