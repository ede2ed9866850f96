-- The rows normalised and what was merged handed over: the words stand for the model's normalised state.
use Prim.Native.Nat.{◌%◌, ◌-◌, ◌<◌, ◌^◌, ◌≤◌, ℕ}
use Rattle.aig.specs.Literal.{vertex_of}
use Rattle.aig.specs.Lookup.{first_word, second_word}
use Rattle.bdd.proofs.DiagramLaws.{denote-inverse}
use Rattle.bdd.proofs.ReferenceLaws.{edge_even, edge_row, edge_same, parity}
use Rattle.bdd.proofs.StoreLaws.{store-frame}
use Rattle.bdd.specs.Diagram.{Canonical, edge}
use Rattle.bdd.specs.code.Rows.{MARK, RADIX}
use Rattle.product.specs.Product.{book_of}
use Rattle.product_model.specs.Run.{Book}
use Rattle.sweep_graph.proofs.GraphLaws.{graph-kept}
use Rattle.sweep_graph.proofs.TakesModel.{normalise-rows, normalise-stages}
use Rattle.sweep_graph.specs.code.Graph.{Graph}
use Rattle.sweep_graph.specs.code.Stages.{stages_of}
use Rattle.sweep_graph.specs.code.Takes.{Held, takes_words}
use Rattle.sweep_model.proofs.Functions.{function_self}
use Rattle.sweep_model.specs.Fit.{Downward, Fit, Sound, WellFormed}
use Rattle.sweep_model.specs.Normalise.{merged?, normalise, normalise_from}
use Rattle.sweep_model.specs.code.Reachable.{Reachable}
use Rattle.sweep_model.specs.State.{Problem, Stage, State, function_of, literal_function}
use Rattle.sweep_state.proofs.DrawModel.{drawing-kept}
use Rattle.sweep_state.proofs.HandLaws.{Handed, takes_handed}
use Rattle.sweep_state.specs.code.Meet.{handed_in}
use Rattle.sweep_state.specs.code.Represents.{Drawing, Represents}
use Rattle.sweep_state.specs.code.Words.{Words, posed, state_of, words}
use Rattle.sweep_state.specs.declared.task.Task.{Task}
use Rattle.truth.proofs.Equality.{inverse-alike, invert-twice}
use Rattle.truth.proofs.Parts.{size-alike}
use Rattle.truth.specs.Parts.{size}
use Rattle.truth.specs.Truth.{Truth, conj, invert}
use borrow.Author.Tests.{eqb-true}
use lib.ListN.{length, take}
use mathlib.Core.Bool.{true}
use mathlib.Core.List.{List}
use mathlib.Core.Logic.{⊎_elim}
use mathlib.Core.Path.{◌∙◌, ◌≡◌, ap, subst, sym}
use native.Mathlib.Omega.{arith}

-- Two states with the same parts.
state-equal : {a b : State} → a.rows ≡ b.rows → a.stages ≡ b.stages → a.marks ≡ b.marks → a.book ≡ b.book → a ≡ b
state-equal {a} {b} e f g h =
    ap (λ (x : List ℕ). record { rows = x; stages = a.stages; marks = a.marks; book = a.book }) e
    ∙ ap (λ (x : List Stage). record { rows = b.rows; stages = x; marks = a.marks; book = a.book }) f
    ∙ ap (λ (x : List ℕ). record { rows = b.rows; stages = b.stages; marks = x; book = a.book }) g
    ∙ ap (λ (x : Book). record { rows = b.rows; stages = b.stages; marks = b.marks; book = x }) h

-- A diagram that goes over to the literal that the vertex was merged into.
goes_over :
    (t : Task) (functions : List Truth) (rows : List ℕ) (used v x c n : ℕ) → function_of (posed t functions) v ≡ literal_function (posed t functions) x
    → Drawing t functions rows used v c n → Drawing t functions rows used (vertex_of x) (edge c x) n
goes_over t functions rows used v x c n e d = ⊎_elim even odd (parity x)
  where
    f : Truth
    f = function_of (posed t functions) (vertex_of x)

    even : x % 2 ≡ 0 → Drawing t functions rows used (vertex_of x) (edge c x) n
    even i =
        let same : function_of (posed t functions) v ≡ f = rw i at e in
        record {
          within = rw (edge_even c x i) d.within;
          means = rw (edge_even c x i) (d.means ∙ same);
          sized = d.sized ∙ ap size same;
        }

    odd : x % 2 ≡ 1 → Drawing t functions rows used (vertex_of x) (edge c x) n
    odd i =
        let other : function_of (posed t functions) v ≡ invert f = rw i at e in
        record {
          within = record { stored = rw (edge_row c x) d.within.stored; fits = rw (edge_row c x) d.within.fits };
          means = rw (edge_same c x 1 i) (denote-inverse rows t.inputs c ∙ ap invert (d.means ∙ other) ∙ invert-twice f);
          sized = d.sized ∙ size-alike (function_of (posed t functions) v) f (inverse-alike (function_of (posed t functions) v) f other);
        }

-- Sound rows are those of a working graph.
pub sound-graph :
    {t : Task} {functions : List Truth} {pairs : List ℕ} → WellFormed (posed t functions) → length functions ≡ t.count → t.count ≤ RADIX
    → Sound (posed t functions) pairs → Graph t.first t.count pairs
sound-graph {t} {functions} {pairs} formed count few sound =
    record {
      downward = subst (λ (n : ℕ). Downward t.first n pairs) count sound.downward;
      some_first = formed.some_first;
      first-within = omega (arith, count, formed.first-within);
      few = omega arith;
    }

-- What is normalised: the pairs are the rows of a state, and the words stand for its stages; rows and owners are right; the sweep reaches what it is
-- normalised to.
pub record Normalises (t : Task) (functions : List Truth) (entry pairs rows : List ℕ) (used : ℕ) (h : Held) (s : State) : Type 0 where
  pub fit : Fit (posed t functions) entry
  pub count : length functions ≡ t.count
  pub canonical : Canonical rows used
  pub handed : Handed t functions rows used h
  pub graph : Graph t.first t.count pairs
  pub same_rows : pairs ≡ s.rows
  pub same-stages : s.stages ≡ stages_of h.stages t.count
  pub reached : Reachable (posed t functions) entry (normalise t.first s)

module _
    {t : Task} {functions : List Truth} {entry pairs rows : List ℕ} {used : ℕ} {h : Held} {s : State}
    (q : Normalises t functions entry pairs rows used h s) where
  abbrev p : Problem
  p = posed t functions

  abbrev after : List ℕ
  after = normalise_from pairs t.first (t.count - t.first)

  abbrev last : Held
  last = handed_in t after h

  -- The graph before, by the state's rows.
  state-graph : Graph t.first t.count s.rows
  state-graph = rw (← q.same_rows) q.graph

  -- The rows and the stages are the model's.
  after-rows : after ≡ (normalise t.first s).rows
  after-rows =
      ap (λ (l : List ℕ). normalise_from l t.first (t.count - t.first)) q.same_rows
      ∙ sym (normalise-rows s h state-graph q.handed.room q.same-stages)

  after-stages : stages_of last.stages t.count ≡ (normalise t.first s).stages
  after-stages =
      ap
      (λ (l : List ℕ). stages_of
      (takes_words (normalise_from l t.first (t.count - t.first)) t.first (t.count - t.first) h).stages t.count) q.same_rows
      ∙ sym (normalise-stages s h state-graph q.handed.room q.same-stages)

  -- The rows are sound.
  after-sound : Sound p after
  after-sound = rw after-rows q.reached.steady.sound

  -- A merged vertex has the function of the literal that it was merged into.
  after_function : (y : ℕ) → t.first ≤ y → y < t.count → merged? after y ≡ true → function_of p y ≡ literal_function p (first_word after y)
  after_function y from inside m =
      after-sound.means y from (omega (arith, q.count))
      ∙ ap (λ (z : ℕ). conj (literal_function p (first_word after y)) (literal_function p z)) (sym (eqb-true (first_word after y) (second_word after y) m))
      ∙ function_self p q.fit.well_formed (first_word after y)

  -- Rows and owners are still right.
  after_handed : Handed t functions rows used last
  after_handed =
      takes_handed t functions rows used q.canonical q.fit.well_formed.constant (graph-kept q.graph)
      (λ y c m from inside e. goes_over t functions rows used y (first_word after y) c m (after_function y from inside e))
      (t.count - t.first) t.first h (omega arith) (omega (arith, q.graph.first-within)) q.handed

  module _ (marks : List ℕ) (k : ℕ) (same-marks : take t.count marks ≡ s.marks) (same-book : book_of rows used k ≡ s.book) where
    abbrev left : Words
    left = words after last.diagrams last.stages last.rows marks used k

    -- The words stand for the normalised state.
    pub normalised_state : state_of t.count left ≡ normalise t.first s
    unfolding normalise
    normalised_state =
        state-equal after-rows after-stages same-marks
        (ap (λ (l : List Truth). record { store = l; steps = k }) (store-frame rows last.rows used q.canonical (after_handed.agree used) used (omega arith))
        ∙ same-book)

    -- And the diagrams are there.
    pub normalised-represents :
        t.inputs < MARK → t.steps < 2 ^ 32 → t.size < 2 ^ 32 → t.count ≤ length marks → Represents t functions entry left
    normalised-represents narrow short modest marks-long =
        record {
          fit = q.fit;
          reachable = rw normalised_state q.reached;
          count = q.count;
          few = after_handed.room.few;
          narrow = narrow;
          short = short;
          modest = modest;
          store = after_handed.store;
          stages-long = after_handed.room.stages-long;
          diagrams-long = after_handed.room.diagrams-long;
          marks-long = marks-long;
          rows-within = after_handed.room.rows-within;
          drawn = λ y l e. drawing-kept q.canonical (after_handed.agree used) (after_handed.drawn y l e);
          owners = after_handed.owners;
        }
