-- The row of an input, as the model gives it.
use Prim.Native.Nat.{◌+◌, ◌-◌, ◌/◌, ◌<◌, ◌≤◌, suc, zero, ℕ}
use Rattle.bdd.proofs.DiagramLaws.{denote-constant, denote_skip, reference-more}
use Rattle.bdd.specs.Diagram.{denote}
use Rattle.bdd.specs.code.Rows.{level_at}
use Rattle.bdd_unique.specs.code.Unique.{MadeAt, MadeFull}
use Rattle.product.proofs.RunLaws.{row-full, row_made}
use Rattle.product.specs.Product.{book_of}
use Rattle.product_model.specs.Run.{Book, add_part, add_row, done, short_of_rows}
use Rattle.sweep_model.proofs.Inputs.{top-input}
use Rattle.sweep_model.proofs.Reachable.{input-reachable}
use Rattle.sweep_model.proofs.Steady.{giving-swept, input_row}
use Rattle.sweep_model.specs.State.{function_of, has?}
use Rattle.sweep_model.specs.code.Steady.{Giving}
use Rattle.sweep_model.specs.Sweep.{Progress, and_then, ends, give_inputs, give_row, on, top_part, undecided}
use Rattle.sweep_model.specs.declared.Cause.TheVariants.{Rows}
use Rattle.sweep_state.proofs.DrawModel.{Draws, drawn-represents, drawn-state}
use Rattle.sweep_state.proofs.LookModel.{has-stage}
use Rattle.sweep_state.specs.code.Ending.{verdict_of}
use Rattle.sweep_state.specs.code.Represents.{Represents}
use Rattle.sweep_state.specs.code.Arrays.{Arrays}
use Rattle.sweep_state.specs.code.Words.{Words, posed, state_of}
use Rattle.sweep_state.specs.declared.task.Task.{Task}
use Rattle.sweep_start.specs.code.Given.{AllGiven, GivenTo, HasInputContext, InputContext, ShortAt, giving_from, state_in}
use Rattle.sweep_start.specs.code.Inputs.{RowGiven, RowLacked, level_of}
use Rattle.sweep_turn.proofs.EndModel.{marked-closed, represents-closed}
use Rattle.truth.proofs.Parts.{constants_differ, size-input}
use Rattle.truth.specs.Parts.{size}
use Rattle.truth.specs.Truth.{Truth, input, node}
use lib.ListN.{length, set}
use lib.Seq.{take-set-lt}
use mathlib.Core.List.{List}
use mathlib.Core.Path.{◌∙◌, ◌≡◌, ap, ap₂, refl, subst, sym}
use native.Mathlib.Nat.{sub-zero}
use native.Mathlib.Numerals.{add-one}
use native.Mathlib.Omega.{arith}

-- The halves of the row of an input are the constants.
halves-input : (rows : List ℕ) (m : ℕ) → node (denote rows m 0) (denote rows m 1) ≡ input (suc m) 1
unfolding input
halves-input rows m = ap₂ node (denote-constant rows m 0 refl) (denote-constant rows m 1 refl)

-- Adding it is adding a part.
adds_part : (limit : ℕ) (rows : List ℕ) (m : ℕ) (b : Book) → add_row limit (denote rows m 0) (denote rows m 1) b ≡ add_part limit (input (suc m) 1) b
unfolding add_row input
adds_part limit rows m b = rw (denote-constant rows m 0 refl, denote-constant rows m 1 refl, constants_differ m) refl

-- A reference that denotes the first of the inputs that are left denotes the input.
denotes-input : (rows : List ℕ) (r n i : ℕ) → i < n → level_at rows (r / 2) ≤ n - i → denote rows (n - i) r ≡ input (n - i) 1 → denote rows n r ≡ input n (suc i)
unfolding input
denotes-input rows r zero i h l e = absurd (omega arith)
denotes-input rows r (suc n) zero h l e = rw (sub-zero (suc n)) at e
denotes-input rows r (suc n) (suc i) h l e =
    let k : suc n - suc i ≡ n - i = omega arith in
    let rest = denotes-input rows r n i (omega arith) (omega arith) (rw k at e) in
    denote_skip rows n r (omega arith) ∙ ap₂ node rest rest

module _ {t : Task} {functions : List Truth} {entry : List ℕ} {w : Words} (rep : Represents t functions entry w) (i : ℕ) (inside : suc i < t.first) where
  below : i < t.inputs
  below = omega (arith, rep.fit.well_formed.first-few)

  -- The level of its row.
  level-is : level_of t (suc i) ≡ suc (level_of t (suc i) - 1)
  level-is = omega (arith, below)

  level-left : level_of t (suc i) ≡ t.inputs - i
  level-left = omega (arith, below)

  is-input : function_of (posed t functions) (suc i) ≡ input t.inputs (suc i)
  is-input = rep.fit.well_formed.inputs (suc i) (omega arith) inside

  top_part_lem : top_part (function_of (posed t functions) (suc i)) ≡ input (suc (level_of t (suc i) - 1)) 1
  top_part_lem = ap top_part is-input ∙ top-input t.inputs i below ∙ ap (λ (m : ℕ). input m 1) (sym level-left ∙ level-is)

  -- The outcome of a row that was made.
  pub input-done :
      {rows : List ℕ} {r u : ℕ} → MadeAt w.rows rows t.rows w.used (level_of t (suc i)) 0 1 r u
      → input_row (posed t functions) (suc i) (state_of t.count w) ≡ done (book_of rows u w.steps)
  input-done m =
      rw top_part_lem
      (sym (adds_part t.rows w.rows (level_of t (suc i) - 1) (book_of w.rows w.used w.steps)) ∙ row_made m w.steps)

  pub input-short :
      {rows : List ℕ} → MadeFull w.rows rows t.rows w.used (level_of t (suc i)) 0 1
      → input_row (posed t functions) (suc i) (state_of t.count w) ≡ short_of_rows (book_of rows w.used w.steps)
  input-short m =
      rw top_part_lem
      (sym (adds_part t.rows w.rows (level_of t (suc i) - 1) (book_of w.rows w.used w.steps)) ∙ row-full m w.steps)

  module _ {rows : List ℕ} {r u : ℕ} (m : MadeAt w.rows rows t.rows w.used (level_of t (suc i)) 0 1 r u) where
    -- It denotes the input.
    input-means : denote rows t.inputs r ≡ function_of (posed t functions) (suc i)
    input-means =
        denotes-input rows r t.inputs i below (rw (← level-left) m.reference.fits)
        (rw (← level-left) (m.denotes ∙ halves-input w.rows (level_of t (suc i) - 1) ∙ ap (λ (x : ℕ). input x 1) (sym level-is)))
        ∙ sym is-input

    input_draws : length rows ≡ length w.rows → Giving (posed t functions) (suc i) (state_of t.count w) → Draws t functions w rows u (suc i) r 1
    unfolding has?
    input_draws long g =
        record {
          grown = m.grown;
          long = long;
          drawing = record {
            within = reference-more m.reference (omega (arith, below));
            means = input-means;
            sized = sym (ap size is-input ∙ size-input t.inputs i below);
          };
          some = omega arith;
          within = within;
          lacks = sym (has-stage rep (suc i) within) ∙ ap has? (g.later (suc i) (omega arith) (omega arith) inside);
        }
      where
        within : (suc i) < t.count
        within = omega (arith, rep.count, rep.fit.well_formed.first-within)

-- Vertex v, the next input.
module _ {t : Task} {x : InputContext} {a : Arrays} {used : ℕ} where
  -- Its row is given.
  pub given-row : {b : Arrays} {more : ℕ} (v : ℕ) → GivenTo t x a used v → 1 ≤ v → v < t.first → RowGiven t v used a b more
      → give_row v (state_in t x a used) (input_row (posed t x.functions) v (state_in t x a used)) ≡ on (state_in t x b more)
  unfolding give_row
  given-row zero g l h r = absurd (omega arith)
  given-row {b} {more} (suc i) g l h r =
      rw (input-done g.represents i h r.made, r.drawn)
      (ap on (sym (drawn-state g.represents (input_draws g.represents i h r.made r.long g.giving) x.steps)))

  pub given-next : {b : Arrays} {more : ℕ} (v : ℕ) → GivenTo t x a used v → 1 ≤ v → v < t.first → RowGiven t v used a b more → GivenTo t x b more (suc v)
  given-next zero g l h r = absurd (omega arith)
  given-next {b} {more} (suc i) g l h r =
      let rep = g.represents in
      let d = input_draws rep i h r.made r.long g.giving in
      let e = input-done rep i h r.made in
      let next = book_of r.rows more x.steps in
      rw r.drawn
      (record {
        represents = drawn-represents rep d x.steps (input-reachable rep.fit (suc i) next (state_in t x a used) g.giving l h e rep.reachable);
        giving =
            rw (drawn-state rep d x.steps)
            (giving-swept (state_in t x a used) next (suc i) rep.reachable.steady h rep.fit.well_formed.first-within g.giving);
      })

  -- No row is left for it.
  pub given-short : {b : Arrays} (v : ℕ) → GivenTo t x a used v → 1 ≤ v → v < t.first → RowLacked t v used a b
      → give_row v (state_in t x a used) (input_row (posed t x.functions) v (state_in t x a used)) ≡ ends (undecided (Rows v)) 0 (state_in t x b used)
  unfolding give_row
  given-short zero g l h r = absurd (omega arith)
  given-short {b} (suc i) g l h r =
      let rep = g.represents in
      let inside : suc i < t.count = omega (arith, rep.fit.well_formed.first-within, rep.count) in
      rw (input-short rep i h r.full, r.marked, take-set-lt t.count a.marks (suc i) 3 inside) refl

-- What follows vertex v.
giving-turn :
    (t : Task) (x : InputContext) (a : Arrays) (used v : ℕ) → v < t.first
    → giving_from t x a used v
    ≡ and_then (give_row v (state_in t x a used) (input_row (posed t x.functions) v (state_in t x a used)))
    (give_inputs (posed t x.functions) (suc v) (t.first - suc v))
unfolding give_inputs
giving-turn t x a used v h = let e : t.first - v ≡ suc (t.first - suc v) = omega arith in rw e refl

-- The loop: the inputs below v have their rows, and what follows is what followed from the first.
pub record Along (t : Task) (a₀ : Arrays) (used₀ : ℕ) (a : Arrays) (used v : ℕ) : Type 0 where
  pub from : 1 ≤ v
  pub to : v ≤ t.first
  pub here : (x : InputContext) → GivenTo t x a₀ used₀ 1 → GivenTo t x a used v
  pub ahead : (x : InputContext) → GivenTo t x a₀ used₀ 1 → giving_from t x a used v ≡ giving_from t x a₀ used₀ 1

pub along_begins : {t : Task} {a : Arrays} {used : ℕ} → HasInputContext t a used → Along t a used a used 1
along_begins f =
    record { from = omega arith; to = f.given.represents.fit.well_formed.some_first; here = λ x g. g; ahead = λ x g. refl }

module _ {t : Task} {a₀ : Arrays} {used₀ : ℕ} {a : Arrays} {used v : ℕ} (s : Along t a₀ used₀ a used v) where
  pub along-goes-on : {b : Arrays} {more : ℕ} → v < t.first → RowGiven t v used a b more → Along t a₀ used₀ b more (v + 1)
  unfolding and_then
  along-goes-on {b} {more} h r =
      rw (add-one v)
      (record {
        from = omega arith;
        to = h;
        here = λ x g. given-next v (s.here x g) s.from h r;
        ahead = λ x g.
            ap (λ (o : Progress). and_then o (give_inputs (posed t x.functions) (suc v) (t.first - suc v))) (sym (given-row v (s.here x g) s.from h r))
            ∙ sym (giving-turn t x a used v h) ∙ s.ahead x g;
      })

  pub along-short : {b : Arrays} → v < t.first → RowLacked t v used a b → (x : InputContext) → GivenTo t x a₀ used₀ 1 → ShortAt t x a₀ used₀ b v used
  unfolding and_then verdict_of
  along-short {b} h r x g =
      record {
        reached =
            sym (s.ahead x g) ∙ giving-turn t x a used v h
            ∙ ap (λ (o : Progress). and_then o (give_inputs (posed t x.functions) (suc v) (t.first - suc v))) (given-short v (s.here x g) s.from h r);
        closed = rw r.marked (marked-closed (set a.marks v 3) (represents-closed (s.here x g).represents tt));
      }

  pub along-ends : t.first ≤ v → (x : InputContext) → GivenTo t x a₀ used₀ 1 → AllGiven t x a₀ used₀ a used
  unfolding give_inputs
  along-ends h x g =
      let e : v ≡ t.first = omega (arith, s.to) in
      let none : t.first - v ≡ 0 = omega arith in
      record {
        reached = sym (s.ahead x g) ∙ rw none refl;
        given = subst (GivenTo t x a used) e (s.here x g);
      }
