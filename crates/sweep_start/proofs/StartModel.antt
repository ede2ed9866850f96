-- The start of a sweep: the words that it begins with, normalised, stand for the model's state before the inputs get their rows.
use Prim.Native.Nat.{◌*◌, ◌+◌, ◌-◌, ◌<◌, ℕ}
use Rattle.aig.specs.Lookup.{cleared, first_word, second_word}
use Rattle.bdd.proofs.AgreeLaws.{agree-self}
use Rattle.bdd.proofs.DiagramLaws.{constant-reference, denote-constant}
use Rattle.bdd.specs.Diagram.{store_of}
use Rattle.bdd_unique.specs.code.Unique.{Cleared}
use Rattle.product.specs.Product.{book_of}
use Rattle.sweep_pick.proofs.BeginLaws.{begin-marks, begin-room, begin-stages, cleared_length, cleared-word}
use Rattle.sweep_graph.proofs.GraphLaws.{graph-kept}
use Rattle.sweep_pick.specs.code.Begin.{begun}
use Rattle.sweep_graph.specs.code.Graph.{Graph}
use Rattle.sweep_graph.specs.code.Stages.{stage_word, stages_of, word_stage}
use Rattle.sweep_graph.specs.code.Takes.{Held, TakesRoom, has_word, held}
use Rattle.sweep_model.proofs.Reachable.{begin-reachable}
use Rattle.sweep_model.proofs.Steady.{begin-giving}
use Rattle.sweep_model.specs.Normalise.{normalise, normalise_from}
use Rattle.sweep_model.specs.State.{has?, opened}
use Rattle.sweep_model.specs.Sweep.{begin}
use Rattle.sweep_state.proofs.HandLaws.{Handed}
use Rattle.sweep_state.proofs.NormaliseModel.{Normalises, normalised-represents, normalised_state, sound-graph}
use Rattle.sweep_state.specs.code.Meet.{Workspace, handed_in, workspace}
use Rattle.sweep_state.specs.code.Represents.{Drawing}
use Rattle.sweep_state.specs.code.Settle.{state_on}
use Rattle.sweep_state.specs.code.Arrays.{arrays}
use Rattle.sweep_state.specs.code.Words.{posed}
use Rattle.sweep_state.specs.declared.task.Task.{Task}
use Rattle.sweep_start.specs.code.Start.{HasFunctions, PreparedFrom, Prepares, SweepAsked}
use Rattle.truth.proofs.Booleans.{clash}
use Rattle.truth.proofs.Parts.{size-constant}
use Rattle.truth.specs.Parts.{size}
use Rattle.truth.specs.Truth.{Truth}
use lib.ListN.{take}
use lib.Seq.{get_or-set_other}
use mathlib.Core.Bool.{false, true}
use mathlib.Core.List.{List}
use mathlib.Core.Path.{◌∙◌, ◌≡◌, ap, refl, subst, sym}
use native.Mathlib.Decide.{ℕ_discrete}
use native.Mathlib.Omega.{arith}

-- Only the constant has a diagram.
begun-has : (stages : List ℕ) (count v : ℕ) → v < count → has_word (begun stages count) v ≡ true → v ≡ 0
unfolding has? word_stage
begun-has stages count v h e =
    elim (ℕ_discrete v 0) [
      | yes i ↦ i
      | no n ↦ clash e
          (ap (λ (w : ℕ). has? (word_stage w))
          (get_or-set_other (cleared stages (2 * count)) (2 * 0) (2 * v) (stage_word opened) 0 (λ i. omega arith)
          ∙ cleared-word stages (2 * count) (2 * v) (omega arith)))
    ]

-- The workspace of pairs, of what handing over left, and of marks.
abbrev pub workspace_with : List ℕ → Held → List ℕ → Workspace
workspace_with pairs h marks = workspace pairs (arrays h.diagrams h.stages h.rows marks)

module _ {t : Task} {look : List ℕ} {b : Workspace} (q : SweepAsked t look b) where
  -- The working graph.
  pub start-graph : Graph t.first t.count b.pairs
  start-graph = sound-graph q.has-functions.fit.well_formed q.has-functions.count q.few q.has-functions.fit.sound

  -- The words that it begins with, with these rows.
  abbrev pub begun_held : List ℕ → Held
  begun_held rows = held (begun b.arrays.stages t.count) (cleared b.arrays.diagrams (2 * t.count)) rows

  -- The workspace that is left.
  abbrev pub begun_last : List ℕ → Workspace
  begun_last rows =
      let pairs = normalise_from b.pairs t.first (t.count - t.first) in
      workspace_with pairs (handed_in t pairs (begun_held rows)) (cleared b.arrays.marks t.count)

  -- There is room in them.
  pub start-room : (rows : List ℕ) → TakesRoom t.count (begun_held rows)
  start-room rows = begin-room t.count b.arrays.stages b.arrays.diagrams rows q.stages-long q.diagrams-long q.few

  module _ {functions : List Truth} (g : HasFunctions t functions b.pairs) {rows : List ℕ} (e : Cleared b.arrays.rows rows t.rows) where
    -- The constant has its diagram, and there are no owners.
    begun_handed : Handed t functions rows 0 (begun_held rows)
    begun_handed =
        record {
          room = start-room rows;
          drawn = λ v h has. drawing v h (begun-has b.arrays.stages t.count v h has);
          owners = record {
            rightly = λ i from to own. absurd (omega arith);
            named = λ v h has row. absurd (omega (arith, row, word v h));
          };
          store = e.store;
          agree = agree-self rows;
          long = refl;
        }
      where
        word : (v : ℕ) → v < t.count → first_word (cleared b.arrays.diagrams (2 * t.count)) v ≡ 0
        word v h = cleared-word b.arrays.diagrams (2 * t.count) (2 * v) (omega arith)

        other : (v : ℕ) → v < t.count → second_word (cleared b.arrays.diagrams (2 * t.count)) v ≡ 0
        other v h = cleared-word b.arrays.diagrams (2 * t.count) (2 * v + 1) (omega arith)

        constant : Drawing t functions rows 0 0 0 0
        constant =
            record {
              within = constant-reference rows 0 t.inputs 0 refl;
              means = denote-constant rows t.inputs 0 refl ∙ sym g.fit.well_formed.constant;
              sized = sym (ap size g.fit.well_formed.constant ∙ size-constant t.inputs false);
            }

        drawing : (v : ℕ) → v < t.count → v ≡ 0
            → Drawing t functions rows 0 v (first_word (cleared b.arrays.diagrams (2 * t.count)) v) (second_word (cleared b.arrays.diagrams (2 * t.count)) v)
        drawing v h i = rw (word v h, other v h, i) constant

    -- Stages, marks and rows are those of the model's beginning.
    begun-stages : (begin (posed t functions) b.pairs).stages ≡ stages_of (begun b.arrays.stages t.count) t.count
    begun-stages =
        sym
        (subst (λ (n : ℕ). stages_of (begun b.arrays.stages n) n ≡ (begin (posed t functions) b.pairs).stages) g.count
        (begin-stages (posed t functions) b.pairs b.arrays.stages
        (omega (arith, g.fit.well_formed.some_first, g.fit.well_formed.first-within)) (omega (arith, g.count, q.stages-long))))

    begun-marks : take t.count (cleared b.arrays.marks t.count) ≡ (begin (posed t functions) b.pairs).marks
    begun-marks =
        subst (λ (n : ℕ). take n (cleared b.arrays.marks n) ≡ (begin (posed t functions) b.pairs).marks) g.count
        (begin-marks (posed t functions) b.pairs b.arrays.marks)

    begun-book : book_of rows 0 0 ≡ (begin (posed t functions) b.pairs).book
    unfolding begin store_of
    begun-book = refl

    -- What is normalised.
    begun_normalises : Normalises t functions b.pairs b.pairs rows 0 (begun_held rows) (begin (posed t functions) b.pairs)
    begun_normalises =
        record {
          fit = g.fit;
          count = g.count;
          canonical = e.store.canonical;
          handed = begun_handed;
          graph = start-graph;
          same_rows = same;
          same-stages = begun-stages;
          reached = begin-reachable g.fit;
        }
      where
        same : b.pairs ≡ (begin (posed t functions) b.pairs).rows
        same = unfold begin in refl

    abbrev last : Workspace
    last = begun_last rows

    -- Once normalised it is prepared.
    begun-prepared : PreparedFrom t functions b last
    begun-prepared =
        record {
          reached = reached;
          prepared = record {
            represents =
                normalised-represents begun_normalises (cleared b.arrays.marks t.count) 0 begun-marks begun-book q.narrow q.short q.modest
                (rw (cleared_length b.arrays.marks t.count q.marks-long) q.marks-long);
            giving = rw reached (begin-giving g.fit);
          };
        }
      where
        reached : state_on t last 0 0 ≡ normalise t.first (begin (posed t functions) b.pairs)
        reached = normalised_state begun_normalises (cleared b.arrays.marks t.count) 0 begun-marks begun-book

  -- The graph, once normalised.
  pub start-kept : {pairs : List ℕ} → pairs ≡ normalise_from b.pairs t.first (t.count - t.first) → Graph t.first t.count pairs
  start-kept ep = rw ep (graph-kept start-graph)

  -- What the four calls leave.
  pub start-prepares : {rows : List ℕ} → Cleared b.arrays.rows rows t.rows → Prepares t b (begun_last rows)
  start-prepares er functions g = begun-prepared g er
