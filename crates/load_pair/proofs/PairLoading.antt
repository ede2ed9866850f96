-- Both files loaded, one after the other, and the table of their graph.
use Prim.Native.Nat.{◌*◌, ◌+◌, ◌-◌, ◌≤◌, ℕ}
use Rattle.load_model.proofs.PairLaws.{left_step, length_left, length_right, pair-good, pair_step}
use Rattle.load_model.proofs.PairMeaningLaws.{literals_length}
use Rattle.load_model.proofs.PairedLaws.{built_paired, length_second, second_alike}
use Rattle.load_model.specs.Build.{Build, FileBuilt, build_file, build_pair, empty_build, literals_from}
use Rattle.load_graph.specs.code.Slices.{build_of}
use Rattle.load_graph.specs.declared.Counts.{Counts}
use Rattle.load_model.specs.Load.{max_table, max_vertices, table_of, table_words, tally_of}
use Rattle.load_model.specs.declared.Tally.{Tally}
use Rattle.load_file.proofs.FileLoading.{inputs-few, outputs-few}
use Rattle.load_file.specs.code.File.{with_constraint}
use Rattle.load_pair.proofs.TableWords.{outputs-held, words_are}
use Rattle.load_model.specs.code.Paired.{build_from, second_literals}
use Rattle.load_pair.specs.code.Pair.{Agreed, OutputsHeld, TableRoom, pair_of, second_of, words_of}
use Rattle.netlist_model.proofs.CheckLaws.{names-at_most}
use Rattle.netlist_model.proofs.PairingLaws.{Matched, names-equal, paired-ands, paired-inputs, paired-outputs}
use Rattle.netlist_model.proofs.ReadLaws.{holds-edition, holds-front, holds-names}
use Rattle.netlist_model.specs.Limits.{number_of_edition}
use Rattle.netlist_model.specs.Meaning.{and_count}
use Rattle.netlist_model.specs.Netlist.{Netlist}
use Rattle.netlist_model.specs.code.Accepted.{netlist_of}
use Rattle.netlist_model.specs.code.Passing.{NamesThere, front_names}
use Rattle.netlist_model.specs.declared.Summary.{Summary}
use Rattle.table.specs.Limits.{max_ands, max_inputs, max_outputs}
use Rattle.text.specs.Decimal.{written}
use lib.ListN.{drop, length, take}
use lib.Seq.{take_at}
use mathlib.Core.List.{List, ◌++◌}
use mathlib.Core.Path.{◌∙◌, ◌≡◌, ap, ap₂, refl, sym}
use native.Mathlib.Omega.{arith}

-- Words written at the front.
front-written : (old ws : List ℕ) → written old 0 ws ≡ ws ++ drop (length ws) old
unfolding written
front-written old ws = let z : 0 + length ws ≡ length ws = omega arith in rw z refl

-- A file's graph after that of the first vertices, and the second file's after that.
module _ (d e : Netlist) {n : ℕ} {b₀ b₁ : Build} (i : n ≡ d.inputs) (e₀ : b₀ ≡ empty_build n) (e₁ : b₁ ≡ (build_file b₀ d).build) where
  pub pair_built : {b₂ : Build} → b₂ ≡ (build_file b₁ e).build → b₂ ≡ (build_pair d e).build
  unfolding build_pair
  pair_built e₂ = rw (e₁, e₀, i) at e₂

  pub pair-outputs :
      (o₀ : List ℕ) {o₁ o₂ : List ℕ} → o₁ ≡ written o₀ 0 (with_constraint (build_file b₀ d))
      → o₂ ≡ written o₁ (max_outputs + 1) (with_constraint (build_file b₁ e)) → length d.outputs ≤ max_outputs → length e.outputs ≤ max_outputs
      → 2 * max_outputs + 2 ≤ length o₀ → OutputsHeld o₂ (build_pair d e)
  unfolding build_pair
  pair-outputs o₀ p q left right room =
      let one = build_file (empty_build d.inputs) d in
      outputs-held o₀ one (build_file one.build e) (build_pair d e) (rw (p, e₁, e₀, i) at q) (omega (arith, length_left d e))
      (omega (arith, length_right d e)) room refl refl refl

  left-asked : d.inputs ≡ e.inputs → b₁.asked ≡ and_count d.gates
  unfolding empty_build
  left-asked same = rw (e₁, e₀, i) ((left_step d e same).asked ∙ omega arith)

pub none-asked : (n : ℕ) {b : Build} → b ≡ empty_build n → b.asked ≡ 0
unfolding empty_build
none-asked n e = ap (λ (b : Build). b.asked) e

-- The words that a builder held are those of its slice.
pub build-ended : {pairs held : List ℕ} {c : Counts} {b : Build} → pairs ≡ held → build_of held c ≡ b → build_of pairs c ≡ b
build-ended e h = rw e h

-- A file loaded with the literals of its first vertices by place.
pub by_place : (b : Build) (d : Netlist) (old literals : List ℕ) (n : ℕ) → n ≡ 1 + d.inputs → literals ≡ written old 0 (literals_from 0 n)
    → build_from (take n literals) b d ≡ build_file b d
unfolding build_from build_file written
by_place b d old literals n e h =
    rw (h, take_at (literals_from 0 n) (drop (0 + length (literals_from 0 n)) old) n (literals_length 0 n), e) refl

-- The graph after it, and its outputs and constraint.
pub same-build : {x : Build} (f g : FileBuilt) → f ≡ g → x ≡ f.build → x ≡ g.build
same-build f g e h = h ∙ ap (λ (y : FileBuilt). y.build) e

pub same-outputs : {o : List ℕ} (f g : FileBuilt) (old : List ℕ) (at : ℕ) → f ≡ g → o ≡ written old at (with_constraint f)
    → o ≡ written old at (with_constraint g)
same-outputs f g old at e h = h ∙ ap (λ (y : FileBuilt). written old at (with_constraint y)) e

-- The inputs of a file, and those of the netlist that it holds.
pub netlist_inputs : (file : List ℕ) (s : Summary) → s.inputs ≡ (netlist_of file s).inputs
unfolding netlist_of
netlist_inputs file s = refl

module _ {one two : List ℕ} {s t : Summary} (a : Agreed one two s t) where
  d : Netlist
  d = netlist_of one s

  e : Netlist
  e = second_of one two s t

  -- The files can be paired.
  matched : Matched (netlist_of one s) (netlist_of two t)
  matched =
      record {
        left = a.left.within;
        right = a.right.within;
        edition =
            sym (holds-edition a.left) ∙ ap number_of_edition a.edition ∙ holds-edition a.right;
        inputs = sym (netlist_inputs one s) ∙ a.inputs ∙ netlist_inputs two t;
        names = a.names;
      }

  -- The second file's outputs are few in the first one's order too.
  pub second-few : length (second_of one two s t).outputs ≤ max_outputs
  second-few = omega (arith, paired-outputs (netlist_of one s) (netlist_of two t), a.right.within.outputs)

  -- They have equally many names.
  pub same_names : s.names ≡ t.names
  same_names =
      ap (λ (x : Summary). x.names) a.left.counts ∙ names-equal matched ∙ sym (ap (λ (x : Summary). x.names) a.right.counts)

  pub names-few : t.names ≤ max_inputs
  names-few = omega (arith, inputs-few a.right, names-at_most a.right.within, ap (λ (x : Summary). x.names) a.right.counts, netlist_inputs two t)

  pub left-names : NamesThere one t.names
  left-names = rw (← same_names) (holds-names a.left)

  -- The literals of the second file's first vertices, as they are written.
  second-literals :
      second_literals (number_of_edition t.edition) t.inputs (front_names t.names one) (front_names t.names two)
      ≡ second_literals (netlist_of two t).edition (netlist_of two t).inputs (netlist_of one s).names (netlist_of two t).names
  second-literals =
      let front : front_names t.names one ≡ (netlist_of one s).names = ap (λ (n : ℕ). front_names n one) (sym same_names) ∙ holds-front a.left in
      ap₂ (λ (ns ms : List (List ℕ)). second_literals (number_of_edition t.edition) t.inputs ns ms) front (holds-front a.right)
      ∙ ap₂ (λ (k n : ℕ). second_literals k n (netlist_of one s).names (netlist_of two t).names) (holds-edition a.right) (netlist_inputs two t)

  -- The second file, loaded with its first literals, is its netlist in the first file's order.
  pub second_built : (b : Build) (old literals : List ℕ)
      → literals ≡ written old 0 (second_literals (number_of_edition t.edition) t.inputs (front_names t.names one) (front_names t.names two))
      → build_from (take (1 + t.inputs) literals) b (netlist_of two t) ≡ build_file b (second_of one two s t)
  unfolding written
  second_built b old literals h =
      let n : length (second_literals (netlist_of two t).edition (netlist_of two t).inputs (netlist_of one s).names (netlist_of two t).names) ≡ 1 + t.inputs =
      length_second matched ∙ ap (◌+◌ 1) (sym (netlist_inputs two t)) in
      rw (h, second-literals, take_at (second_literals (netlist_of two t).edition (netlist_of two t).inputs (netlist_of one s).names (netlist_of two t).names) _ (1 + t.inputs) n)
      (built_paired matched (second_alike matched) b)

  same_inputs : d.inputs ≡ e.inputs
  unfolding d e
  same_inputs = sym (netlist_inputs one s) ∙ a.inputs ∙ netlist_inputs two t ∙ sym (paired-inputs (netlist_of one s) (netlist_of two t))

  left-ands : s.ands ≡ and_count d.gates
  unfolding d
  left-ands = ap (λ (x : Summary). x.ands) a.left.counts

  right-ands : t.ands ≡ and_count e.gates
  unfolding e
  right-ands = ap (λ (x : Summary). x.ands) a.right.counts ∙ sym (paired-ands (netlist_of one s) (netlist_of two t))

  -- There is room for the second file's ANDs after the first's.
  pub room-left : {b₀ b₁ : Build} → b₀ ≡ empty_build s.inputs → b₁ ≡ (build_file b₀ (netlist_of one s)).build → b₁.asked + t.ands ≤ max_ands
  unfolding d e
  room-left e₀ e₁ = omega (arith, a.ands, left-ands, left-asked d e (netlist_inputs one s) e₀ e₁ same_inputs)

  -- The made vertices are no more than the ANDs that were asked for.
  first-within : 1 + s.inputs ≤ (pair_of one two s t).build.count
  unfolding d e
  first-within = omega (arith, (pair-good d e same_inputs).first, netlist_inputs one s)

  vertices-few : (pair_of one two s t).build.count ≤ 1 + s.inputs + max_ands
  unfolding d e empty_build
  vertices-few =
      omega
      (arith, (pair-good d e same_inputs).tally, (pair_step d e same_inputs).asked, netlist_inputs one s, a.ands, left-ands, right-ands)

  -- The graph as it is held.
  module _ {b : Build} (h : b ≡ (pair_of one two s t).build) where
    count-is : b.count ≡ (pair_of one two s t).build.count
    count-is = ap (λ (x : Build). x.count) h

    pub count-within : 1 + s.inputs ≤ b.count
    count-within = omega (arith, first-within, count-is)

    -- The table has room for the words.
    pub table-room :
        {table pairs outputs : ℕ} → max_table ≤ table → 2 * max_vertices ≤ pairs → 2 * max_vertices ≤ outputs
        → TableRoom table pairs outputs (1 + s.inputs) b.count s.outputs
    table-room for-table for_pairs for_outputs =
        let few : b.count ≤ 1 + s.inputs + max_ands = omega (arith, vertices-few, count-is) in
        record {
          some = omega arith;
          from_first = count-within;
          rows = omega (arith, inputs-few a.left);
          side = outputs-few a.left;
          sides = omega arith;
          room = omega (arith, outputs-few a.left);
        }

    pub tally-is :
        ◌≡◌ {A = Tally} (record { asked = b.asked; folded = b.folded; found = b.found; made = b.count - (1 + s.inputs) })
        (tally_of (netlist_of one s) (second_of one two s t))
    unfolding tally_of netlist_of
    tally-is = rw h refl

    pub table_is :
        (table pairs : List ℕ) {outputs : List ℕ} → take (2 * b.count) pairs ≡ b.words → OutputsHeld outputs (pair_of one two s t)
        → 2 * max_vertices ≤ length pairs
        → written table 0 (words_of pairs outputs (1 + s.inputs) b.count s.outputs) ≡ table_of (netlist_of one s) (second_of one two s t) table
    unfolding table_of netlist_of d e
    table_is table pairs words outputs for_pairs =
        let p = pair_of one two s t in
        let left : length p.left ≡ s.outputs = length_left d e ∙ sym (ap (λ (x : Summary). x.outputs) a.left.counts) in
        let right : length p.right ≡ s.outputs = length_right d e ∙ paired-outputs (netlist_of one s) (netlist_of two t) ∙ sym (ap (λ (x : Summary). x.outputs) a.right.counts) ∙ sym a.outputs in
        let held : take (2 * b.count) pairs ≡ p.build.words = words ∙ ap (λ (x : Build). x.words) h in
        let ws =
        words_are p pairs s.inputs b.count s.outputs held count-is outputs left right
        count-within (omega (arith, vertices-few, count-is, inputs-few a.left)) in
        rw ws (front-written table (table_words d.inputs p))
