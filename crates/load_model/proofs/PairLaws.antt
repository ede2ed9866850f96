-- A file and both files: the graph is good, every AND is counted, and the outputs are literals of the graph.
use Prim.Native.Nat.{◌*◌, ◌+◌, ◌<◌, ◌≤◌, suc, zero, ℕ}
use Rattle.aig.proofs.OwnLaws.{length_own, own-holds}
use Rattle.aig.specs.Lookup.{HoldsRow, own_words}
use Rattle.load_model.proofs.GateLaws.{gates-ready, gates_step, literal_for-below}
use Rattle.load_model.proofs.GrownLaws.{step_below, step_then}
use Rattle.load_model.specs.Build.{Build, FileBuilt, Traced, ask_gates, build_file, build_pair, empty_build, literal_for, literals_from}
use Rattle.load_model.specs.code.Good.{Good}
use Rattle.load_model.specs.code.Grown.{Ready, Step}
use Rattle.load_model.specs.Load.{tally_of}
use Rattle.netlist_model.specs.Meaning.{and_count}
use Rattle.netlist_model.specs.Netlist.{Netlist, constraint_reference}
use lib.ListN.{get_or, length, length-map}
use mathlib.Core.List.{List, [], ◌∷◌, map}
use mathlib.Core.Path.{◌≡◌, refl, subst, sym}
use native.Mathlib.Omega.{arith}

-- The graph of the constant and the inputs.
pub empty-good : (n : ℕ) → Good n (empty_build n)
unfolding empty_build
empty-good n =
    record {
      sized = length_own 0 (1 + n);
      tally = omega arith;
      first = omega arith;
      own = λ v h. subst (λ (r : ℕ). HoldsRow (own_words 0 (1 + n)) v (2 * r) (2 * r)) (omega arith) (own-holds 0 (1 + n) v h);
      rows = λ v h k. absurd (omega arith);
    }

-- The literals of the first vertices are literals of the graph.
first_below : (v n i m : ℕ) → v + n ≤ m → 1 ≤ m → get_or (literals_from v n) i 0 < 2 * m
unfolding literals_from
first_below v zero i m h k = omega arith
first_below v (suc n) zero m h k = omega arith
first_below v (suc n) (suc i) m h k = first_below (suc v) n i m (omega arith) k

-- A file's first vertices, before its gates.
abbrev pub file_start : Build → ℕ → Traced
file_start b n = record { literals = literals_from 0 (1 + n); build = b }

module _ {n : ℕ} {b : Build} (g : Good n b) (d : Netlist) (e : d.inputs ≡ n) where
  -- The literals of a file's first vertices are those of vertices of the graph.
  pub start-ready : Ready n (file_start b d.inputs)
  start-ready =
      record { good = g; below = λ i. first_below 0 (1 + d.inputs) i b.count (omega (arith, g.first)) (omega (arith, g.first)) }

  -- A file keeps the graph good and asks for the ANDs that its gates stand for.
  pub file_step : Step n b (and_count d.gates) (build_file b d).build
  unfolding build_file
  file_step = gates_step start-ready d.gates

  -- Its outputs are literals of the graph.
  pub file-below : (k : ℕ) → get_or (build_file b d).outputs k 0 < 2 * (build_file b d).build.count
  unfolding build_file
  file-below k = go d.outputs k
    where
      t : Traced
      t = ask_gates (file_start b d.inputs) d.gates

      ready : Ready n t
      ready = gates-ready start-ready d.gates

      go : (rs : List ℕ) (k : ℕ) → get_or (map (literal_for t.literals) rs) k 0 < 2 * t.build.count
      go [] k = omega (arith, ready.good.first)
      go (r ∷ rs) zero = literal_for-below ready r
      go (r ∷ rs) (suc k) = go rs k

  -- So is its constraint.
  pub file-constraint-below : (build_file b d).constraint < 2 * (build_file b d).build.count
  unfolding build_file
  file-constraint-below = literal_for-below (gates-ready start-ready d.gates) (constraint_reference d)

-- The first file, into whose graph the second is loaded.
abbrev pub left_built : Netlist → FileBuilt
left_built d = build_file (empty_build d.inputs) d

module _ (d e : Netlist) (same : d.inputs ≡ e.inputs) where
  -- The first file.
  pub left_step : Step d.inputs (empty_build d.inputs) (and_count d.gates) (left_built d).build
  left_step = file_step (empty-good d.inputs) d refl

  -- The second.
  pub right_step : Step d.inputs (left_built d).build (and_count e.gates) (build_pair d e).build
  unfolding build_pair
  right_step = file_step left_step.good e (sym same)

  -- Both files leave the graph good, and ask for all ANDs that their gates stand for.
  pub pair_step : Step d.inputs (empty_build d.inputs) (and_count d.gates + and_count e.gates) (build_pair d e).build
  pair_step = step_then left_step right_step

  -- The graph of both is good.
  pub pair-good : Good d.inputs (build_pair d e).build
  pair-good = pair_step.good

  -- The outputs of the first file are literals of the graph,
  pub left_below : (k : ℕ) → get_or (build_pair d e).left k 0 < 2 * (build_pair d e).build.count
  unfolding build_pair
  left_below k = step_below right_step (file-below (empty-good d.inputs) d refl k)

  -- those of the second,
  pub right-below : (k : ℕ) → get_or (build_pair d e).right k 0 < 2 * (build_pair d e).build.count
  unfolding build_pair
  right-below k = file-below left_step.good e (sym same) k

  -- and the constraint.
  pub constraint-below : (build_pair d e).constraint < 2 * (build_pair d e).build.count
  unfolding build_pair
  constraint-below = step_below right_step (file-constraint-below (empty-good d.inputs) d refl)

  -- All ANDs are asked for,
  pub pair-asked : (build_pair d e).build.asked ≡ and_count d.gates + and_count e.gates
  unfolding empty_build
  pair-asked = omega (arith, pair_step.asked)

  -- and counted.
  pub tally-asked : (tally_of d e).asked ≡ and_count d.gates + and_count e.gates
  unfolding tally_of
  tally-asked = pair-asked

  -- "asked = folded + found + made"
  pub tally-sum : (tally_of d e).asked ≡ (tally_of d e).folded + (tally_of d e).found + (tally_of d e).made
  unfolding tally_of
  tally-sum = omega (arith, pair-good.tally, pair-good.first)

-- The first file has its outputs,
pub length_left : (d e : Netlist) → length (build_pair d e).left ≡ length d.outputs
unfolding build_pair build_file
length_left d e = length-map d.outputs _

-- and the second has its own.
pub length_right : (d e : Netlist) → length (build_pair d e).right ≡ length e.outputs
unfolding build_pair build_file
length_right d e = length-map e.outputs _
