-- Handing over: what the code's steps come to, and the pass from turn to turn.
use Prim.Native.Nat.{◌*◌, ◌+◌, ◌-◌, ◌/◌, ◌<◌, ◌≤◌, suc, ℕ}
use Rattle.aig.proofs.IndexLaws.{row-holds, row_length}
use Rattle.aig.specs.Literal.{vertex_of}
use Rattle.aig.specs.Lookup.{first_word, second_word, with_row}
use Rattle.bdd.proofs.OwnerLaws.{length_owner}
use Rattle.bdd.proofs.ReferenceLaws.{edge_row}
use Rattle.bdd.specs.Diagram.{edge}
use Rattle.bdd.specs.code.Owners.{with_owner}
use Rattle.sweep_graph.specs.code.Graph.{Graph}
use Rattle.sweep_graph.specs.code.Stages.{stage_in, stage_word, with_stage, word_stage}
use Rattle.sweep_graph.specs.code.Takes.{Handing, Held, TakesRoom, handed_over, has_word, held, leave, take_words, taken_diagrams, takes_words, wake_words}
use Rattle.sweep_model.proofs.Rows.{row_other}
use Rattle.sweep_model.specs.Normalise.{merged?, wake}
use Rattle.sweep_model.specs.State.{Stage, gone, gone?, has?}
use borrow.Author.Tests.{eq-eqb, ne_eqb}
use lib.Dec.{eqb}
use lib.ListN.{length, length-set}
use mathlib.Core.Bool.{Bool, cond, false, true}
use mathlib.Core.List.{List}
use mathlib.Core.Path.{◌∙◌, ◌≡◌, ap, refl, sym}
use native.Mathlib.Decide.{ℕ_discrete}
use native.Mathlib.Numerals.{add-one}
use native.Mathlib.Omega.{arith}

-- Tests of words as they were read.
pub has-read : (stages : List ℕ) (v : ℕ) {w : ℕ} {s : Stage} {a b : Bool} → w ≡ v → s ≡ stage_in stages w → a ≡ has? s → a ≡ b → has_word stages v ≡ b
has-read stages v of-vertex of_word of_test e = rw (← of-vertex, ← of_word) (sym of_test ∙ e)

pub merged-read : (pairs : List ℕ) (v : ℕ) {x y : ℕ} → x ≡ first_word pairs v → y ≡ second_word pairs v → x ≡ y → merged? pairs v ≡ true
merged-read pairs v ex ey e = eq-eqb (first_word pairs v) (second_word pairs v) (sym ex ∙ e ∙ ey)

pub unmerged-read : (pairs : List ℕ) (v : ℕ) {x y : ℕ} → x ≡ first_word pairs v → y ≡ second_word pairs v → (x ≡ y → ⊥) → merged? pairs v ≡ false
unmerged-read pairs v ex ey d = ne_eqb (first_word pairs v) (second_word pairs v) (λ e. d (ex ∙ e ∙ sym ey))

-- Where neither vertex has a diagram nothing changes.
pub handed_nothing : (v x : ℕ) (h : Held) → has_word h.stages v ≡ false → has_word h.stages (vertex_of x) ≡ false → h ≡ handed_over v x h
unfolding handed_over
handed_nothing v x h lacks too = rw (lacks, too) refl

-- Waking keeps the number of words.
length_wake : (w : ℕ) (stages : List ℕ) → length (wake_words w stages) ≡ length stages
unfolding wake_words
length_wake w stages = go (eqb w 0)
  where
    go : (b : Bool) → length (cond b stages (with_stage stages w (stage_word (wake (word_stage (first_word stages w)))))) ≡ length stages
    go true = refl
    go false = length-set stages (2 * w) (stage_word (wake (word_stage (first_word stages w))))

-- So does handing over.
pub handed_long : (v x : ℕ) (h : Held) → length (handed_over v x h).stages ≡ length h.stages
unfolding handed_over
handed_long v x h = go (has_word h.stages v) (has_word h.stages (vertex_of x))
  where
    go : (a b : Bool) → length
        (cond a (held (wake_words (vertex_of x) h.stages) (taken_diagrams v x h.stages h.diagrams) (with_owner h.rows (first_word h.diagrams v / 2) (vertex_of x)))
        (cond b (held (wake_words (vertex_of x) h.stages) h.diagrams h.rows) h)).stages ≡ length h.stages
    go true b = length_wake (vertex_of x) h.stages
    go false true = length_wake (vertex_of x) h.stages
    go false false = refl

module _ {count : ℕ} where
  -- TakesRoom for other stages of the same number.
  room-stages : {h : Held} (stages : List ℕ) → TakesRoom count h → length stages ≡ length h.stages → TakesRoom count (held stages h.diagrams h.rows)
  room-stages stages r e =
      record { stages-long = rw e r.stages-long; diagrams-long = r.diagrams-long; rows-within = r.rows-within; few = r.few }

  -- TakesRoom for a given diagram.
  room-diagram :
      (v w x s : ℕ) {h : Held} → v < count → w < count → TakesRoom count h
      → TakesRoom count (held h.stages (with_row h.diagrams w (edge (first_word h.diagrams v) x) s) h.rows)
  room-diagram v w x s {h} lv lw r =
      record {
        stages-long = r.stages-long;
        diagrams-long = rw (row_length h.diagrams w (edge (first_word h.diagrams v) x) s fits) r.diagrams-long;
        rows-within = λ u l.
            elim (ℕ_discrete u w) [
              | yes e ↦ rw (e, (row-holds h.diagrams w (edge (first_word h.diagrams v) x) s fits).first, edge_row (first_word h.diagrams v) x) (r.rows-within v lv)
              | no d ↦ rw (row_other h.diagrams w (edge (first_word h.diagrams v) x) s u d).first (r.rows-within u l)
            ];
        few = r.few;
      }
    where
      fits : 2 * w + 1 < length h.diagrams
      fits = omega (arith, r.diagrams-long)

  -- TakesRoom with another owner of a row.
  room-owner : (i x : ℕ) {h : Held} → TakesRoom count h → TakesRoom count (held h.stages h.diagrams (with_owner h.rows i x))
  room-owner i x {h} r =
      record {
        stages-long = r.stages-long;
        diagrams-long = r.diagrams-long;
        rows-within = λ u l. rw (length_owner h.rows i x) (r.rows-within u l);
        few = r.few;
      }

  -- Handing over keeps the room.
  pub handed_room : (v x : ℕ) (h : Held) → v < count → vertex_of x < count → TakesRoom count h → TakesRoom count (handed_over v x h)
  unfolding handed_over taken_diagrams
  handed_room v x h lv lw r = go (has_word h.stages v) (has_word h.stages (vertex_of x))
    where
      woken : TakesRoom count (held (wake_words (vertex_of x) h.stages) h.diagrams h.rows)
      woken = room-stages (wake_words (vertex_of x) h.stages) r (length_wake (vertex_of x) h.stages)

      go : (a b : Bool) → TakesRoom count
          (cond a
          (held (wake_words (vertex_of x) h.stages)
          (cond b h.diagrams (with_row h.diagrams (vertex_of x) (edge (first_word h.diagrams v) x) (second_word h.diagrams v)))
          (with_owner h.rows (first_word h.diagrams v / 2) (vertex_of x)))
          (cond b (held (wake_words (vertex_of x) h.stages) h.diagrams h.rows) h))
      go true true = room-owner (first_word h.diagrams v / 2) (vertex_of x) woken
      go true false = room-owner (first_word h.diagrams v / 2) (vertex_of x) (room-diagram v (vertex_of x) x (second_word h.diagrams v) lv lw woken)
      go false true = woken
      go false false = r

  -- So does one vertex's turn.
  pub take-room :
      (pairs : List ℕ) (v : ℕ) (h : Held) → v < count → vertex_of (first_word pairs v) < count → TakesRoom count h → TakesRoom count (take_words pairs v h)
  unfolding take_words
  take-room pairs v h lv lw r = go (merged? pairs v) (gone? (word_stage (first_word h.stages v)))
    where
      go : (a b : Bool) → TakesRoom count (cond a (cond b h (leave v (handed_over v (first_word pairs v) h))) h)
      go true true = r
      go true false =
          room-stages (with_stage (handed_over v (first_word pairs v) h).stages v (stage_word gone)) (handed_room v (first_word pairs v) h lv lw r)
          (length-set (handed_over v (first_word pairs v) h).stages (2 * v) (stage_word gone))
      go false b = r

-- The pass before vertex v.
pub record Taking (pairs : List ℕ) (first count : ℕ) (h₀ h : Held) (v : ℕ) : Type 0 where
  pub ahead : takes_words pairs v (count - v) h ≡ takes_words pairs first (count - first) h₀
  pub room : TakesRoom count h
  pub from : first ≤ v
  pub to : v ≤ count

-- One vertex more.
takes_more : (pairs : List ℕ) (v n : ℕ) (h : Held) → takes_words pairs v (suc n) h ≡ takes_words pairs (v + 1) n (take_words pairs v h)
unfolding takes_words
takes_more pairs v n h = ap (λ (u : ℕ). takes_words pairs u n (take_words pairs v h)) (sym (add-one v))

module _ {pairs : List ℕ} {first count : ℕ} (g : Graph first count pairs) where
  -- The pass begins with all ahead.
  pub taking_begins : {h : Held} → TakesRoom count h → Taking pairs first count h h first
  taking_begins r =
      record { ahead = refl; room = r; from = omega arith; to = g.first-within }

  module _ {h₀ h : Held} {v : ℕ} (t : Taking pairs first count h₀ h v) where
    lower : v < count → vertex_of (first_word pairs v) < v
    lower l = omega (arith, g.downward.first_below v t.from l)

    -- Each vertex has its turn.
    pub taking_turns : v < count → (2 * v + 1 < length pairs) × Handing v (first_word pairs v) h
    taking_turns l = (
      omega (arith, g.downward.long),
      record {
        lower = lower l;
        stage-within = omega (arith, t.room.stages-long);
        diagram_within = omega (arith, t.room.diagrams-long);
        row_within = t.room.rows-within v l;
        few = omega (arith, t.room.few);
      },
    )

    -- And the pass goes on to the next.
    pub taking-goes-on :
        v < count → Taking pairs first count h₀ (take_words pairs v h) (v + 1)
    taking-goes-on l =
        let more : count - v ≡ suc (count - (v + 1)) = omega arith in
        record {
          ahead = sym (takes_more pairs v (count - (v + 1)) h) ∙ ap (λ (n : ℕ). takes_words pairs v n h) (sym more) ∙ t.ahead;
          room = take-room pairs v h l (omega (arith, lower l)) t.room;
          from = omega (arith, t.from);
          to = omega arith;
        }

    -- At the end all have handed over.
    pub taking_ends : count ≤ v → h ≡ takes_words pairs first (count - first) h₀
    unfolding takes_words
    taking_ends l =
        let none : count - v ≡ 0 = omega arith in
        ap (λ (n : ℕ). takes_words pairs v n h) (sym none) ∙ t.ahead
