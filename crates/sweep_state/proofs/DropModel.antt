-- A product dropped, or broken off: its rows are given back, and the words stand for the model's state.
use Prim.Native.Nat.{◌*◌, ◌-◌, ◌/◌, ◌<◌, ◌≤◌, ℕ}
use Rattle.aig.specs.Lookup.{first_word}
use Rattle.bdd.specs.Diagram.{store_of}
use Rattle.bdd.specs.code.Rows.{owner_at}
use Rattle.bdd.specs.code.Store.{Kept}
use Rattle.bdd_unique.specs.code.Unique.{GivenBack, Grown}
use Rattle.product.proofs.Laws.{back, back-functions}
use Rattle.product.specs.Product.{book_of}
use Rattle.product_model.specs.Run.{done}
use Rattle.sweep_graph.proofs.StageLaws.{stages-set}
use Rattle.sweep_graph.specs.code.Stages.{with_stage, word_stage}
use Rattle.sweep_graph.specs.code.Takes.{has_word, held}
use Rattle.sweep_model.proofs.Reachable.{dropped-reachable}
use Rattle.sweep_model.proofs.Stages.{bare-lacks}
use Rattle.sweep_model.proofs.Steady.{due-within}
use Rattle.sweep_model.specs.State.{function_of, has?, stage_of, with_book, with_mark}
use Rattle.sweep_model.specs.code.Steady.{Due, product_of}
use Rattle.sweep_model.specs.Sweep.{drop_vertex, given_back}
use Rattle.sweep_model.specs.declared.Cause.{Cause}
use Rattle.sweep_state.proofs.DrawModel.{drawing-kept}
use Rattle.sweep_state.proofs.LookModel.{has-stage}
use Rattle.sweep_state.specs.code.Ending.{Closed, ended_with}
use Rattle.sweep_state.specs.code.Meet.{workspace}
use Rattle.sweep_state.specs.code.Represents.{Owns, Represents}
use Rattle.sweep_state.specs.code.Arrays.{arrays}
use Rattle.sweep_state.specs.code.Words.{Words, posed, state_of, words}
use Rattle.sweep_state.specs.declared.end.End.TheVariants.{Undecided}
use Rattle.sweep_state.specs.declared.task.Task.{Task}
use Rattle.truth.proofs.Booleans.{clash}
use Rattle.truth.specs.Parts.{size}
use Rattle.truth.specs.Truth.{Truth}
use lib.Dec.{ltb}
use lib.ListN.{length, length-set, set}
use lib.Seq.{get_or-set_other, get_or-set_same, take-set-lt}
use mathlib.Core.Bool.{false, true}
use mathlib.Core.List.{List}
use mathlib.Core.Logic.{◌≢◌}
use mathlib.Core.Path.{◌∙◌, ◌≡◌, ap, refl, sym}
use native.Mathlib.Omega.{arith}

module _
    {t : Task} {functions : List Truth} {entry : List ℕ} {w : Words} (rep : Represents t functions entry w) {v n : ℕ}
    (due : Due (posed t functions) entry n v (state_of t.count w)) where
  -- The vertex is one of the vertices and has no diagram.
  pub due-inside : v < t.count
  due-inside = omega (arith, due-within due, rep.count)

  pub due-lacks : has_word w.stages v ≡ false
  due-lacks = sym (has-stage rep v due-inside) ∙ bare-lacks (stage_of (state_of t.count w).stages v) due.is-bare

-- The rows of a product are given back.
pub record Returns (t : Task) (w : Words) (rows after : List ℕ) (u : ℕ) : Type 0 where
  pub grown : Grown w.rows rows t.rows w.used u
  pub given_back_lem : GivenBack rows after t.rows u w.used
  pub long : length after ≡ length w.rows

module _
    {t : Task} {functions : List Truth} {entry : List ℕ} {w : Words} (rep : Represents t functions entry w) {rows after : List ℕ} {u v : ℕ}
    (r : Returns t w rows after u) {n : ℕ} (due : Due (posed t functions) entry n v (state_of t.count w)) where
  same_rows : Kept w.rows after w.used
  same_rows = back r.grown r.given_back_lem

  same_store : store_of after w.used ≡ store_of w.rows w.used
  same_store = back-functions rep.store.canonical r.grown r.given_back_lem

  -- Broken off.
  pub broken-state :
      (k : ℕ)
      → state_of t.count (words w.pairs w.diagrams w.stages after (set w.marks v 3) w.used k)
      ≡ with_mark v 3 (with_book (given_back (state_of t.count w).book (book_of rows u k)) (state_of t.count w))
  broken-state k = rw (same_store, take-set-lt t.count w.marks v 3 (due-inside rep due)) refl

  pub broken-closed :
      (k : ℕ) → k ≤ t.steps → (c : Cause)
      → Closed t functions (workspace w.pairs (arrays w.diagrams w.stages after (set w.marks v 3)))
      (ended_with (Undecided c) w.used k (u - w.used))
  broken-closed k h c =
      record {
        store = r.given_back_lem.store;
        drawn = λ x l e. drawing-kept rep.store.canonical same_rows.agree (rep.drawn x l e);
        refers = tt;
        counted = h;
        fitted = omega (arith, r.grown.more, r.grown.store.room.used);
      }

  -- Dropped.
  abbrev pub dropped_words : ℕ → Words
  dropped_words k = words w.pairs w.diagrams (with_stage w.stages v 4) after (set w.marks v 2) w.used k

  pub dropped-state : (k : ℕ) → state_of t.count (dropped_words k) ≡ drop_vertex v (book_of rows u k) (state_of t.count w)
  unfolding drop_vertex word_stage
  dropped-state k =
      rw (same_store, take-set-lt t.count w.marks v 2 (due-inside rep due), stages-set w.stages t.count v 4 (due-inside rep due) rep.stages-long) refl

  dropped-other : (x : ℕ) → x ≢ v → has_word (with_stage w.stages v 4) x ≡ has_word w.stages x
  dropped-other x d = ap (λ (s : ℕ). has? (word_stage s)) (get_or-set_other w.stages (2 * v) (2 * x) 4 0 (λ e. d (omega arith)))

  dropped-has : (x : ℕ) → has_word (with_stage w.stages v 4) x ≡ true → x ≢ v
  unfolding has? word_stage
  dropped-has x e i =
      clash (sym (ap (has_word (with_stage w.stages v 4)) i) ∙ e)
      (ap (λ (s : ℕ). has? (word_stage s)) (get_or-set_same w.stages (2 * v) 4 0 (omega (arith, (due-inside rep due), rep.stages-long))))

  had : (x : ℕ) → has_word (with_stage w.stages v 4) x ≡ true → has_word w.stages x ≡ true
  had x e = sym (dropped-other x (dropped-has x e)) ∙ e

  pub dropped-represents :
      (k : ℕ) → product_of (posed t functions) v (state_of t.count w) ≡ done (book_of rows u k)
      → ltb t.size (size (function_of (posed t functions) v)) ≡ true → Represents t functions entry (dropped_words k)
  dropped-represents k ran large =
      record {
        fit = rep.fit;
        reachable = rw (dropped-state k) (dropped-reachable rep.fit due rep.reachable (book_of rows u k) ran large);
        count = rep.count;
        few = rep.few;
        narrow = rep.narrow;
        short = rep.short;
        modest = rep.modest;
        store = r.given_back_lem.store;
        stages-long = rw (length-set w.stages (2 * v) 4) rep.stages-long;
        diagrams-long = rep.diagrams-long;
        marks-long = rw (length-set w.marks v 2) rep.marks-long;
        rows-within = λ x h. rw r.long (rep.rows-within x h);
        drawn = λ x h e. drawing-kept rep.store.canonical same_rows.agree (rep.drawn x h (had x e));
        owners =
            record {
              rightly = λ i l h e.
                  let same = same_rows.owners i h in
                  rw same (moved i (rep.owners.rightly i l h (rw same at e)));
              named = λ x h e l.
                  rw (same_rows.owners (first_word w.diagrams x / 2) (rep.drawn x h (had x e)).within.stored) (rep.owners.named x h (had x e) l);
            };
      }
    where
      moved : (i : ℕ) → Owns t.count i (held w.stages w.diagrams w.rows) (owner_at w.rows i)
          → Owns t.count i (held (with_stage w.stages v 4) w.diagrams after) (owner_at w.rows i)
      moved i o =
          record {
            within = o.within;
            has_one =
                dropped-other (owner_at w.rows i) (λ e. clash (sym (ap (has_word w.stages) e) ∙ o.has_one) (due-lacks rep due)) ∙ o.has_one;
            there = o.there;
          }
