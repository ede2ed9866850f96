-- A product, as the model takes it.
use Rattle.sweep_state.specs.declared.end.End.{End}
use Rattle.std.specs.Prelude.{Option}
use Prim.Native.Nat.{◌*◌, ◌-◌, ◌<◌, ◌≤◌, ℕ}
use Rattle.std.specs.Prelude.{Err, Ok, Result}
use Rattle.aig.specs.Literal.{vertex_of}
use Rattle.aig.specs.Lookup.{first_word, second_word}
use Rattle.bdd.proofs.StoreLaws.{store_length}
use Rattle.bdd.specs.code.Store.{Store}
use Rattle.bdd_unique.specs.code.Unique.{GivenBack}
use Rattle.product.specs.Product.{Multiplied, Multiplies, book_of, outcome_of}
use Rattle.product.specs.declared.steps.Short.TheVariants as short
use Rattle.product.specs.declared.steps.Short.{Short}
use Rattle.product_model.specs.Run.{run}
use Rattle.sweep_model.proofs.Stages.{open-has}
use Rattle.sweep_model.proofs.Steady.{due-within}
use Rattle.sweep_model.specs.State.{function_of, open?, stage_of, with_book, with_mark}
use Rattle.sweep_model.specs.code.Steady.{product_of}
use Rattle.sweep_model.specs.Sweep.{added_to, conclude, drop_vertex, ends, given_back, look, meet, multiply, twin_from, undecided}
use Rattle.sweep_model.specs.declared.Cause.TheVariants.{Rows, Steps}
use Rattle.sweep_model.specs.declared.Cause.{Cause}
use Rattle.sweep_state.proofs.DropModel.{Returns, broken-closed, broken-state, due-inside}
use Rattle.sweep_state.proofs.LookModel.{LiteralDrawn, has-stage, literal-drawn, look-models, look-refers}
use Rattle.sweep_state.specs.code.Ending.{Ends, ended_with, verdict_of}
use Rattle.sweep_state.specs.code.Look.{SeenRefers, progress_of, seen_by}
use Rattle.sweep_state.specs.code.Meet.{Workspace, workspace}
use Rattle.sweep_draw.specs.code.Operands.{ProductAsked, first_operand, second_operand}
use Rattle.sweep_state.specs.code.Settle.{BeforeProduct, Ended, Settled, on_workspace, settled_state, state_before, state_on, workspace_before}
use Rattle.sweep_state.specs.code.Arrays.{arrays}
use Rattle.sweep_state.specs.code.Words.{posed}
use Rattle.sweep_state.specs.declared.end.End.TheVariants.{Undecided}
use Rattle.sweep_state.specs.code.Sweep.{lent}
use Rattle.sweep_state.specs.declared.sweep.Sweep.{Sweep}
use Rattle.sweep_state.specs.declared.task.Task.{Task}
use Rattle.sweep_step.specs.code.Multiply.{Concludes, Context, DueOn, Looked, Takes, end_by, multiplied, scene_of}
use Rattle.truth.proofs.Booleans.{cond_ap}
use Rattle.truth.specs.Parts.{size}
use Rattle.truth.specs.Truth.{Truth, conj}
use lib.Dec.{ltb}
use lib.ListN.{length, set}
use mathlib.Core.Bool.{true}
use mathlib.Core.List.{List}
use mathlib.Core.Path.{◌∙◌, ◌≡◌, ap, ap₂, refl, subst, sym}
use native.Mathlib.Omega.{arith}

-- The workspace with other rows.
abbrev pub on_rows : Workspace → List ℕ → Workspace
on_rows b rows = workspace b.pairs (arrays b.arrays.diagrams b.arrays.stages rows b.arrays.marks)

-- The setting of a product.
abbrev pub setting_of : Context → Workspace → ℕ → ℕ → BeforeProduct
setting_of x b steps k =
    record { functions = x.functions; entry = x.entry; rows = b.arrays.rows; steps = steps; turns = x.turns; taken = k }

module _ {t : Task} {x : Context} {v used steps : ℕ} {b : Workspace} (d : DueOn t x v used steps b) where
  inside : v < t.count
  inside = due-inside d.represents d.due

  first_below : first_word b.pairs v < 2 * v
  first_below = d.represents.reachable.steady.sound.downward.first_below v d.due.made (due-within d.due)

  second_below : second_word b.pairs v < 2 * v
  second_below = d.represents.reachable.steady.sound.downward.second_below v d.due.made (due-within d.due)

  -- The operands have diagrams.
  operand_drawn : (r : ℕ) → r < 2 * v → open? (stage_of (state_on t b used steps).stages (vertex_of r)) ≡ true → LiteralDrawn t x.functions (on_workspace b used steps) r
  operand_drawn r h e =
      let l : vertex_of r < t.count = omega (arith, inside) in
      literal-drawn d.represents r l
      (sym (has-stage d.represents (vertex_of r) l) ∙ open-has (stage_of (state_on t b used steps).stages (vertex_of r)) e)

  first-drawn : LiteralDrawn t x.functions (on_workspace b used steps) (first_word b.pairs v)
  first-drawn = operand_drawn (first_word b.pairs v) first_below d.due.first-open

  second-drawn : LiteralDrawn t x.functions (on_workspace b used steps) (second_word b.pairs v)
  second-drawn = operand_drawn (second_word b.pairs v) second_below d.due.second-open

  -- What the product gave, and its run.
  abbrev Gave : List ℕ → ℕ → ℕ → Result ℕ Short → Type 0
  Gave rows u k r =
      Multiplies b.arrays.rows rows t.rows used u (first_operand b.pairs b.arrays.diagrams v) (second_operand b.pairs b.arrays.diagrams v)
      t.inputs steps k t.steps r

  abbrev Ran : List ℕ → ℕ → ℕ → Result ℕ Short → Type 0
  Ran rows u k r =
      Multiplied b.arrays.rows rows t.rows used u (first_operand b.pairs b.arrays.diagrams v) (second_operand b.pairs b.arrays.diagrams v)
      t.inputs steps k t.steps r

  -- The run is the model's.
  product_is :
      (rows : List ℕ) (u k : ℕ) (r : Result ℕ Short) → Ran rows u k r
      → product_of (posed t x.functions) v (state_on t b used steps) ≡ outcome_of (book_of rows u k) r
  product_is rows u k r m =
      sym (ap₂ (λ (f g : Truth). run t.rows t.steps f g (book_of b.arrays.rows used steps)) first-drawn.means second-drawn.means) ∙ m.ran

  -- Done.
  module _ (rows : List ℕ) {reference u k : ℕ} (gave : Gave rows u k (Ok reference)) (long : length rows ≡ length b.arrays.rows) where
    pub product-ended : Ended t (setting_of x b steps k) v reference u used (on_rows b rows)
    product-ended =
        record {
          represents = d.represents;
          due = d.due;
          grown = gave.0.grown;
          long = long;
          within = gave.1.reference;
          means =
              gave.1.means ∙ ap₂ conj first-drawn.means second-drawn.means
              ∙ sym (d.represents.reachable.steady.sound.means v d.due.made (due-within d.due));
          ran = product_is rows u k (Ok reference) gave.0;
        }

  -- What breaking off needs is there.
  pub short_back : (rows : List ℕ) (u k : ℕ) (r : Result ℕ Short) → Ran rows u k r → (Store rows t.rows u × (used ≤ u)) × (v < length b.arrays.marks)
  short_back rows u k r m = ((m.grown.store, m.grown.more), omega (arith, inside, d.represents.marks-long))

  -- The sweep ends where it was broken off.
  broken-ends :
      {rows last : List ℕ} {u : ℕ} → Returns t (on_workspace b used steps) rows last u → (k : ℕ) → k ≤ t.steps → (c : Cause)
      → multiplied t x v used steps b
      ≡ ends (undecided c) (added_to (state_on t b used steps).book (book_of rows u k))
      (with_mark v 3 (with_book (given_back (state_on t b used steps).book (book_of rows u k)) (state_on t b used steps)))
      → Ends t x.functions (multiplied t x v used steps b)
      (workspace b.pairs (arrays b.arrays.diagrams b.arrays.stages last (set b.arrays.marks v 3)))
      (ended_with (Undecided c) used k (u - used))
  unfolding verdict_of
  broken-ends {rows} {u = u} r k h c e =
      record {
        reached =
            e
            ∙ ap₂ (ends (undecided c)) (ap₂ ◌-◌ (store_length rows u) (store_length b.arrays.rows used)) (sym (broken-state d.represents r d.due k));
        closed = broken-closed d.represents r d.due k h c;
      }

  -- Short of rows or of steps.
  module _ (rows : List ℕ) {u k : ℕ} where
    pub lacking : (e : Short) → Gave rows u k (Err e) → (Store rows t.rows u × (used ≤ u)) × (v < length b.arrays.marks)
    lacking e m = short_back rows u k (Err e) m

    pub multiply-lacks :
        (e : Short) → Gave rows u k (Err e) → {last : List ℕ} → GivenBack rows last t.rows u used → length last ≡ length b.arrays.rows
        → Ends t x.functions (multiplied t x v used steps b) (workspace b.pairs (arrays b.arrays.diagrams b.arrays.stages last (set b.arrays.marks v 3)))
        (ended_with (end_by v e) used k (u - used))
    unfolding multiply conclude
    multiply-lacks short.Rows m g long =
        broken-ends (record { grown = m.grown; given_back_lem = g; long = long }) k m.under (Rows v)
        (ap (conclude (posed t x.functions) v (state_on t b used steps)) (product_is rows u k (Err short.Rows) m))
    multiply-lacks short.Steps m g long =
        broken-ends (record { grown = m.grown; given_back_lem = g; long = long }) k m.under (Steps v)
        (ap (conclude (posed t x.functions) v (state_on t b used steps)) (product_is rows u k (Err short.Steps) m))

-- What the product needs is there.
pub product-asked : (v : ℕ) (s : Sweep) {x : Context} → DueOn s.task x v s.used s.steps (lent s) → ProductAsked s v
product-asked v s d =
    let rep = d.represents in
    record {
      pair = omega (arith, rep.reachable.steady.sound.downward.long, rep.count, inside d);
      first_diagram = omega (arith, first_below d, inside d, rep.diagrams-long);
      second_diagram = omega (arith, second_below d, inside d, rep.diagrams-long);
      asked = record {
        store = rep.store;
        first = (first-drawn d).within;
        second = (second-drawn d).within;
        few = rep.narrow;
        under = rep.reachable.accounted.proper.taken;
        small = rep.short;
      };
    }

-- A product that is done.
module _ {t : Task} {x : BeforeProduct} {v reference used kept : ℕ} {b : Workspace} (e : Ended t x v reference used kept b) where
  -- The model goes on from the state that is left.
  concludes : multiplied t (scene_of x) v kept x.steps (workspace_before x b) ≡ look (posed t x.functions) (settled_state t x v used kept b)
  unfolding multiply conclude
  concludes =
      let p = posed t x.functions in
      let s = state_before t x b kept in
      let ended = book_of b.arrays.rows used x.taken in
      ap (conclude p v s) e.ran
      ∙ sym
      (cond_ap (look p) (ltb t.size (size (function_of p v))) (drop_vertex v ended s)
      (meet p v (with_book ended s) (twin_from p s.stages v 0 (length s.stages))))

  pub conclude-looked :
      {after : Workspace} {more steps : ℕ} {seen : Option End} → Settled t x v used kept b after more
      → seen ≡ seen_by t after.pairs after.arrays.diagrams after.arrays.stages → x.taken ≡ steps
      → Looked t (scene_of x) v kept x.steps (workspace_before x b) after seen more steps
  conclude-looked {after} {more} {steps} {seen} s es et =
      subst (λ (k : ℕ). Looked t (scene_of x) v kept x.steps (workspace_before x b) after seen more k) et
      (record {
        reached =
            concludes ∙ ap (look (posed t x.functions)) s.reached ∙ sym (look-models s.represents)
            ∙ ap (progress_of after.arrays.rows t.inputs (state_on t after more x.taken)) (sym es);
        represents = s.represents;
        refers = subst (SeenRefers after.arrays.rows more t.inputs) (sym es) (look-refers s.represents);
      })

-- A sweep with the rows, the rows used and the steps that a product left.
abbrev pub taken_on : List ℕ → ℕ → ℕ → Sweep → Sweep
taken_on rows u k s = record s { rows = record s.rows { now = rows }; used = u; steps = k }

-- What holds of the end of a product that is done holds of the whole, where the product ended so in each context.
pub multiply-concludes :
    (v : ℕ) (s : Sweep) (rows : List ℕ) {reference u k : ℕ}
    → ((x : Context) → DueOn s.task x v s.used s.steps (lent s) → Ended s.task (setting_of x (lent s) s.steps k) v reference u s.used (on_rows (lent s) rows))
    → (after : Sweep) (seen : Option End) → Concludes v reference s.used (taken_on rows u k s) after seen → Takes v s after (Ok seen)
multiply-concludes v s rows {k = k} ended after seen c = λ x d. c (setting_of x (lent s) s.steps k) (ended x d) refl
