-- What a sweep leaves in its slices is as long as what stood there.
use Prim.Native.Nat.{◌*◌, ◌+◌, ◌-◌, ◌/◌, suc, zero, ℕ}
use Rattle.std.specs.Prelude.{None, Option, Some}
use Rattle.aig.specs.Fold.{fold_of}
use Rattle.aig.specs.Literal.{vertex_of}
use Rattle.aig.specs.Lookup.{first_vertex, first_word, second_word, with_row}
use Rattle.aig.specs.declared.fold.Folded.TheVariants.{Pair, To}
use Rattle.aig.specs.declared.fold.Folded.{Folded}
use Rattle.bdd.proofs.OwnerLaws.{length_owner}
use Rattle.bdd.specs.Diagram.{edge}
use Rattle.bdd.specs.code.Owners.{with_owner}
use Rattle.sweep_graph.specs.code.Stages.{stage_word, with_stage, word_stage}
use Rattle.sweep_graph.specs.code.Takes.{Held, handed_over, has_word, held, leave, take_words, taken_diagrams, takes_words, wake_words}
use Rattle.sweep_model.specs.Normalise.{folded_row, found_row, merged?, normalise_from, normalise_row, resolve, wake}
use Rattle.sweep_model.specs.State.{gone, gone?}
use Rattle.sweep_state.specs.code.Arrays.{drawn_at}
use Rattle.sweep_state.specs.code.Meet.{Workspace, handed_in, held_of, inverse?, joined, merged_pairs, met_with, met_workspace, twin_at, with_held, workspace}
use Rattle.sweep_state.specs.code.Sweep.{Kept, SameLengths, lent, put_counts, put_lent, put_look}
use Rattle.sweep_state.specs.declared.sweep.Sweep.{Sweep}
use Rattle.sweep_state.specs.declared.task.Task.{Task}
use lib.Dec.{eqb}
use lib.ListN.{length, length-set, set}
use mathlib.Core.Bool.{Bool, cond, false, true}
use mathlib.Core.List.{List}
use mathlib.Core.Path.{◌∙◌, ◌≡◌, refl}

-- A row written.
row-long : (words : List ℕ) (v p q : ℕ) → length (with_row words v p q) ≡ length words
row-long words v p q = length-set (set words (2 * v) p) (2 * v + 1) q ∙ length-set words (2 * v) p

-- Rows normalised.
folded-long : (rows : List ℕ) (v : ℕ) (f : Folded) → length (folded_row rows v f) ≡ length rows
unfolding folded_row found_row
folded-long rows v (To r) = row-long rows v r.0 r.0
folded-long rows v (Pair p q) = go (first_vertex rows p.0 q.0 v)
  where
    go : (u : Option ℕ) → length (found_row rows v p.0 q.0 u) ≡ length rows
    go (Some u) = row-long rows v (2 * u) (2 * u)
    go None = row-long rows v p.0 q.0

pub normalised-long : (rows : List ℕ) (v n : ℕ) → length (normalise_from rows v n) ≡ length rows
unfolding normalise_from normalise_row
normalised-long rows v zero = refl
normalised-long rows v (suc n) =
    normalised-long (normalise_row rows v) (suc v) n ∙ folded-long rows v (fold_of (resolve rows (first_word rows v)) (resolve rows (second_word rows v)))

-- What handing over leaves.
record HeldLong (h after : Held) : Type 0 where
  pub stages : length after.stages ≡ length h.stages
  pub diagrams : length after.diagrams ≡ length h.diagrams
  pub rows : length after.rows ≡ length h.rows

held-same : (h : Held) → HeldLong h h
held-same h = record { stages = refl; diagrams = refl; rows = refl }

wake-long : (w : ℕ) (stages : List ℕ) → length (wake_words w stages) ≡ length stages
unfolding wake_words
wake-long w stages = go (eqb w 0)
  where
    go : (b : Bool) → length (cond b stages (with_stage stages w (stage_word (wake (word_stage (first_word stages w)))))) ≡ length stages
    go true = refl
    go false = length-set stages (2 * w) (stage_word (wake (word_stage (first_word stages w))))

diagrams-long : (v x : ℕ) (stages diagrams : List ℕ) → length (taken_diagrams v x stages diagrams) ≡ length diagrams
unfolding taken_diagrams
diagrams-long v x stages diagrams = go (has_word stages (vertex_of x))
  where
    go : (b : Bool) → length (cond b diagrams (with_row diagrams (vertex_of x) (edge (first_word diagrams v) x) (second_word diagrams v))) ≡ length diagrams
    go true = refl
    go false = row-long diagrams (vertex_of x) (edge (first_word diagrams v) x) (second_word diagrams v)

over-long : (v x : ℕ) (h : Held) → HeldLong h (handed_over v x h)
unfolding handed_over
over-long v x h = go (has_word h.stages v) (has_word h.stages (vertex_of x))
  where
    go : (a b : Bool) → HeldLong h
        (cond a (held (wake_words (vertex_of x) h.stages) (taken_diagrams v x h.stages h.diagrams) (with_owner h.rows (first_word h.diagrams v / 2) (vertex_of x)))
        (cond b (held (wake_words (vertex_of x) h.stages) h.diagrams h.rows) h))
    go true b =
        record {
          stages = wake-long (vertex_of x) h.stages;
          diagrams = diagrams-long v x h.stages h.diagrams;
          rows = length_owner h.rows (first_word h.diagrams v / 2) (vertex_of x);
        }
    go false true = record { stages = wake-long (vertex_of x) h.stages; diagrams = refl; rows = refl }
    go false false = held-same h

take-long : (pairs : List ℕ) (v : ℕ) (h : Held) → HeldLong h (take_words pairs v h)
unfolding take_words
take-long pairs v h = go (merged? pairs v) (gone? (word_stage (first_word h.stages v)))
  where
    over : HeldLong h (handed_over v (first_word pairs v) h)
    over = over-long v (first_word pairs v) h

    go : (a b : Bool) → HeldLong h (cond a (cond b h (leave v (handed_over v (first_word pairs v) h))) h)
    go false b = held-same h
    go true true = held-same h
    go true false =
        record {
          stages = length-set (handed_over v (first_word pairs v) h).stages (2 * v) (stage_word gone) ∙ over.stages;
          diagrams = over.diagrams;
          rows = over.rows;
        }

takes-long : (pairs : List ℕ) (v n : ℕ) (h : Held) → HeldLong h (takes_words pairs v n h)
unfolding takes_words
takes-long pairs v zero h = held-same h
takes-long pairs v (suc n) h =
    let one = take-long pairs v h in
    let rest = takes-long pairs (suc v) n (take_words pairs v h) in
    record { stages = rest.stages ∙ one.stages; diagrams = rest.diagrams ∙ one.diagrams; rows = rest.rows ∙ one.rows }

-- Lengths that stay, stay over two steps.
pub lengths-same : {b : Workspace} → SameLengths b b
lengths-same = record { pairs = refl; diagrams = refl; stages = refl; rows = refl; marks = refl }

pub lengths-then : {a b c : Workspace} → SameLengths a b → SameLengths b c → SameLengths a c
lengths-then k m =
    record {
      pairs = m.pairs ∙ k.pairs;
      diagrams = m.diagrams ∙ k.diagrams;
      stages = m.stages ∙ k.stages;
      rows = m.rows ∙ k.rows;
      marks = m.marks ∙ k.marks;
    }

-- Pairs of the same number, and what was merged in them handed over.
pub merged-long : (t : Task) (pairs : List ℕ) (b : Workspace) → length pairs ≡ length b.pairs
    → SameLengths b (workspace pairs (with_held (handed_in t pairs (held_of b.arrays)) b.arrays))
merged-long t pairs b e =
    let h = takes-long pairs t.first (t.count - t.first) (held_of b.arrays) in
    record { pairs = e; diagrams = h.diagrams; stages = h.stages; rows = h.rows; marks = refl }

-- Vertex v with its diagram.
pub drawn-long : (v reference size : ℕ) (b : Workspace) → SameLengths b (workspace b.pairs (drawn_at v reference size b.arrays))
drawn-long v reference size b =
    record {
      pairs = refl;
      diagrams = row-long b.arrays.diagrams v reference size;
      stages = length-set b.arrays.stages (2 * v) 1;
      rows = length_owner b.arrays.rows (reference / 2) v;
      marks = length-set b.arrays.marks v 1;
    }

-- It meets its twin.
pub met-long : (t : Task) (v reference size : ℕ) (b : Workspace) → SameLengths b (met_workspace t v reference size b)
unfolding met_with joined
met-long t v reference size b = go (twin_at b.arrays.rows reference)
  where
    drawn : Workspace
    drawn = workspace b.pairs (drawn_at v reference size b.arrays)

    merged : (w : ℕ) → length (merged_pairs t v w drawn.pairs drawn.arrays.diagrams) ≡ length drawn.pairs
    merged w =
        normalised-long (joined drawn.pairs v w (inverse? drawn.arrays.diagrams v w)) t.first (t.count - t.first) ∙ row-long drawn.pairs _ _ _

    go : (o : Option ℕ) → SameLengths b (met_with t v drawn o)
    go None = drawn-long v reference size b
    go (Some w) =
        lengths-then (drawn-long v reference size b)
        (merged-long t (merged_pairs t v w drawn.pairs drawn.arrays.diagrams) drawn (merged w))

-- What stays of a sweep under way stays over two steps.
pub kept-same : {s : Sweep} → Kept s s
kept-same =
    record { pairs = refl; look = refl; diagrams = refl; stages = refl; rows = refl; marks = refl; look_long = refl; lengths = lengths-same; task = refl }

pub kept-then : {a b c : Sweep} → Kept a b → Kept b c → Kept a c
kept-then k m =
    record {
      pairs = m.pairs ∙ k.pairs;
      look = m.look ∙ k.look;
      diagrams = m.diagrams ∙ k.diagrams;
      stages = m.stages ∙ k.stages;
      rows = m.rows ∙ k.rows;
      marks = m.marks ∙ k.marks;
      look_long = m.look_long ∙ k.look_long;
      lengths = lengths-then k.lengths m.lengths;
      task = m.task ∙ k.task;
    }

-- It stays where other words of the same number are put.
pub kept-put : (s : Sweep) (look : List ℕ) (b : Workspace) (used steps : ℕ) → length look ≡ length s.look.now → SameLengths (lent s) b
    → Kept s (put_look look (put_lent b (put_counts used steps s)))
kept-put s look b used steps e h =
    record { pairs = refl; look = refl; diagrams = refl; stages = refl; rows = refl; marks = refl; look_long = e; lengths = h; task = refl }
