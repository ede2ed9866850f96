-- Handing over keeps the owners of rows right.
use Prim.Native.Nat.{◌*◌, ◌+◌, ◌/◌, ◌<◌, ◌≤◌, suc, zero, ℕ}
use Rattle.aig.proofs.IndexLaws.{row-holds}
use Rattle.aig.specs.Literal.{vertex_of}
use Rattle.aig.specs.Lookup.{first_word, second_word, with_row}
use Rattle.bdd.proofs.AgreeLaws.{agree_then}
use Rattle.bdd.proofs.DiagramLaws.{canonical, constant-reference, denote-constant}
use Rattle.bdd.proofs.OwnerLaws.{length_owner}
use Rattle.bdd.proofs.ReferenceLaws.{edge_row}
use Rattle.bdd.specs.Diagram.{Canonical, edge}
use Rattle.bdd.specs.code.Owners.{with_owner}
use Rattle.bdd.specs.code.Rows.{owner_at}
use Rattle.bdd.specs.code.Store.{Agree, Store}
use Rattle.sweep_graph.proofs.DrawnLaws.{Drawn, takes-drawn}
use Rattle.sweep_graph.proofs.StageLaws.{stage_word_lem}
use Rattle.sweep_graph.proofs.TakeLaws.{take-room}
use Rattle.sweep_graph.specs.code.Graph.{Graph}
use Rattle.sweep_graph.specs.code.Stages.{stage_word, with_stage, word_stage}
use Rattle.sweep_graph.specs.code.Takes.{Held, TakesRoom, handed_over, has_word, held, leave, take_words, taken_diagrams, takes_words, wake_words}
use Rattle.sweep_model.proofs.Rows.{row_other}
use Rattle.sweep_model.proofs.Stages.{has-wake}
use Rattle.sweep_model.specs.Normalise.{merged?, wake}
use Rattle.sweep_model.specs.State.{function_of, gone, gone?, has?}
use Rattle.sweep_state.proofs.DrawModel.{RowOwned, row-owned}
use Rattle.sweep_state.specs.code.Represents.{Drawing, Owners, Owns}
use Rattle.sweep_state.specs.code.Words.{posed}
use Rattle.sweep_state.specs.declared.task.Task.{Task}
use Rattle.truth.proofs.Booleans.{clash}
use Rattle.truth.specs.Truth.{Truth, constantly}
use borrow.Author.Tests.{eq-eqb, ne_eqb}
use lib.Dec.{eqb}
use lib.ListN.{length, length-set}
use lib.Seq.{get_or-set_other, get_or-set_same}
use mathlib.Core.Bool.{Bool, cond, false, true}
use mathlib.Core.List.{List}
use mathlib.Core.Logic.{◌≢◌}
use mathlib.Core.Path.{◌∙◌, ◌≡◌, ap, refl, sym}
use native.Mathlib.Decide.{ℕ_discrete}
use native.Mathlib.Omega.{arith}

-- Waking leaves other vertices, and the vertex that it wakes has a diagram.
woken_other : (w u : ℕ) (stages : List ℕ) → u ≢ w → has_word (wake_words w stages) u ≡ has_word stages u
unfolding wake_words
woken_other w u stages d = go (eqb w 0)
  where
    go : (b : Bool) → has_word (cond b stages (with_stage stages w (stage_word (wake (word_stage (first_word stages w)))))) u ≡ has_word stages u
    go true = refl
    go false =
        ap (λ (s : ℕ). has? (word_stage s))
        (get_or-set_other stages (2 * w) (2 * u) (stage_word (wake (word_stage (first_word stages w)))) 0 (λ e. d (omega arith)))

woken_has : (w : ℕ) (stages : List ℕ) → 2 * w < length stages → 1 ≤ w → has_word (wake_words w stages) w ≡ true
unfolding wake_words
woken_has w stages h l =
    rw (ne_eqb w 0 (λ e. omega arith))
    (ap (λ (s : ℕ). has? (word_stage s)) (get_or-set_same stages (2 * w) (stage_word (wake (word_stage (first_word stages w)))) 0 h)
    ∙ ap has? (stage_word_lem (wake (word_stage (first_word stages w)))) ∙ has-wake (word_stage (first_word stages w)))

woken_still : (w u : ℕ) (stages : List ℕ) → 2 * w < length stages → has_word stages u ≡ true → has_word (wake_words w stages) u ≡ true
unfolding wake_words
woken_still w u stages h e =
    elim (ℕ_discrete u w) [
      | yes i ↦ elim (ℕ_discrete w 0) [
        | yes z ↦ rw (eq-eqb w 0 z) e
        | no n ↦ ap (has_word (wake_words w stages)) i ∙ woken_has w stages h (omega arith)
      ]
      | no n ↦ woken_other w u stages n ∙ e
    ]

-- A vertex that is gone has no diagram; the others are left.
gone-other : (v u : ℕ) (stages : List ℕ) → u ≢ v → has_word (with_stage stages v (stage_word gone)) u ≡ has_word stages u
gone-other v u stages d = ap (λ (s : ℕ). has? (word_stage s)) (get_or-set_other stages (2 * v) (2 * u) (stage_word gone) 0 (λ e. d (omega arith)))

gone-has : (v u : ℕ) (stages : List ℕ) → 2 * v < length stages → has_word (with_stage stages v (stage_word gone)) u ≡ true → u ≢ v
unfolding has?
gone-has v u stages h e i =
    clash (sym (ap (has_word (with_stage stages v (stage_word gone))) i) ∙ e)
    (ap (λ (s : ℕ). has? (word_stage s)) (get_or-set_same stages (2 * v) (stage_word gone) 0 h) ∙ ap has? (stage_word_lem gone))

-- What holds while vertices hand over: rows s are as they were but for owners, which are right, and diagrams are those of their functions.
module _ (t : Task) (functions : List Truth) (s : List ℕ) (used : ℕ) where
  abbrev pub DrawnOn : ℕ → ℕ → ℕ → Type 0
  DrawnOn v c n = Drawing t functions s used v c n

  pub record Handed (h : Held) : Type 0 where
    pub room : TakesRoom t.count h
    pub drawn : Drawn DrawnOn t.count h
    pub owners : Owners t.count used h
    pub store : Store h.rows t.rows used
    pub agree : (k : ℕ) → Agree s h.rows k
    pub long : length h.rows ≡ length s

  -- What of it the rows have.
  record Left (o : Held) : Type 0 where
    owners : Owners t.count used o
    store : Store o.rows t.rows used
    agree : (n : ℕ) → Agree s o.rows n
    long : length o.rows ≡ length s

  module _ (C : Canonical s used) (constant : function_of (posed t functions) 0 ≡ constantly t.inputs false) where
    -- Vertex v is merged into x: the diagram that goes over is that of x's vertex.
    module _ (v x : ℕ) (h : Held) (k : Handed h) (lv : v < t.count) (lower : vertex_of x < v)
        (over : (c n : ℕ) → DrawnOn v c n → DrawnOn (vertex_of x) (edge c x) n) where
      abbrev w : ℕ
      w = vertex_of x

      abbrev i : ℕ
      i = first_word h.diagrams v / 2

      lw : w < t.count
      lw = omega arith

      stage-within : 2 * w < length h.stages
      stage-within = omega (arith, k.room.stages-long)

      -- If both have diagrams they are on one row.
      one-row-both : has_word h.stages v ≡ true → has_word h.stages w ≡ true → first_word h.diagrams w / 2 ≡ i
      one-row-both mine its =
          let a = over (first_word h.diagrams v) (second_word h.diagrams v) (k.drawn v lv mine) in
          let b = k.drawn w lw its in
          ap (λ (y : ℕ). y / 2)
          (canonical s used C t.inputs (first_word h.diagrams w) (edge (first_word h.diagrams v) x) b.within a.within (b.means ∙ sym a.means))
          ∙ edge_row (first_word h.diagrams v) x

      -- A vertex merged into the constant has no row.
      no_row : has_word h.stages v ≡ true → w ≡ 0 → i ≡ 0
      no_row mine z =
          let a = over (first_word h.diagrams v) (second_word h.diagrams v) (k.drawn v lv mine) in
          sym (edge_row (first_word h.diagrams v) x)
          ∙ ap (λ (y : ℕ). y / 2)
          (canonical s used C t.inputs (edge (first_word h.diagrams v) x) 0 a.within (constant-reference s used t.inputs 0 refl)
          (a.means ∙ ap (function_of (posed t functions)) z ∙ constant ∙ sym (denote-constant s t.inputs 0 refl)))

      abbrev taken : List ℕ
      taken = taken_diagrams v x h.stages h.diagrams

      -- The row of the target, and the words of the others.
      target_row : has_word h.stages v ≡ true → first_word taken w / 2 ≡ i
      unfolding taken_diagrams
      target_row mine = go (has_word h.stages w) refl
        where
          go : (b : Bool) → has_word h.stages w ≡ b
              → first_word (cond b h.diagrams (with_row h.diagrams w (edge (first_word h.diagrams v) x) (second_word h.diagrams v))) w / 2 ≡ i
          go true e = one-row-both mine e
          go false e =
              ap (λ (y : ℕ). y / 2)
              (row-holds h.diagrams w (edge (first_word h.diagrams v) x) (second_word h.diagrams v) (omega (arith, k.room.diagrams-long))).first
              ∙ edge_row (first_word h.diagrams v) x

      taken-other : (u : ℕ) → u ≢ w → first_word taken u ≡ first_word h.diagrams u
      unfolding taken_diagrams
      taken-other u n = go (has_word h.stages w)
        where
          go : (b : Bool) → first_word (cond b h.diagrams (with_row h.diagrams w (edge (first_word h.diagrams v) x) (second_word h.diagrams v))) u ≡ first_word h.diagrams u
          go true = refl
          go false = (row_other h.diagrams w (edge (first_word h.diagrams v) x) (second_word h.diagrams v) u n).first

      taken-kept : has_word h.stages w ≡ true → taken ≡ h.diagrams
      unfolding taken_diagrams
      taken-kept e = rw e refl

      abbrev owned : List ℕ
      owned = with_owner h.rows i w

      own : has_word h.stages v ≡ true → RowOwned h.rows owned t.rows used i w
      own mine = row-owned h.rows t.rows used i w k.store (k.drawn v lv mine).within.stored (omega (arith, k.room.few))

      abbrev left : List ℕ
      left = with_stage (wake_words w h.stages) v (stage_word gone)

      wake-long : length (wake_words w h.stages) ≡ length h.stages
      unfolding wake_words
      wake-long = go (eqb w 0)
        where
          go : (b : Bool) → length (cond b h.stages (with_stage h.stages w (stage_word (wake (word_stage (first_word h.stages w)))))) ≡ length h.stages
          go true = refl
          go false = length-set h.stages (2 * w) (stage_word (wake (word_stage (first_word h.stages w))))

      left-has : (u : ℕ) → has_word left u ≡ true → u ≢ v
      left-has u e = gone-has v u (wake_words w h.stages) (omega (arith, wake-long, k.room.stages-long)) e

      -- A vertex with a diagram hands over, and the target owns the row.
      given-owners : has_word h.stages v ≡ true → Owners t.count used (held left taken owned)
      given-owners mine =
          record {
            rightly = λ j l m e.
                elim (ℕ_discrete j i) [
                  | yes z ↦
                      let o : owner_at owned j ≡ w = ap (owner_at owned) z ∙ (own mine).own (omega (arith, z)) in
                      rw o
                      (record {
                        within = lw;
                        has_one = gone-other v w (wake_words w h.stages) (λ y. omega arith) ∙ woken_has w h.stages stage-within (omega (arith, o));
                        there = target_row mine ∙ sym z;
                      })
                  | no n ↦
                      let o : owner_at owned j ≡ owner_at h.rows j = (own mine).others j n in
                      rw o (moved j n (k.owners.rightly j l m (rw o at e)))
                ];
            named = λ u l e m.
                elim (ℕ_discrete (first_word taken u / 2) i) [
                  | yes z ↦
                      rw (ap (owner_at owned) z ∙ (own mine).own (omega (arith, z)))
                      (some_target (λ y. omega (arith, no_row mine y, z)))
                  | no n ↦ rw ((own mine).others (first_word taken u / 2) n) (still u l e m n)
                ];
          }
        where
          some_target : (w ≡ 0 → ⊥) → 1 ≤ w
          some_target n = omega arith

          moved : (j : ℕ) → j ≢ i → Owns t.count j h (owner_at h.rows j) → Owns t.count j (held left taken owned) (owner_at h.rows j)
          moved j n o =
              let other : owner_at h.rows j ≢ v = λ y. n (sym o.there ∙ ap (λ (z : ℕ). first_word h.diagrams z / 2) y) in
              record {
                within = o.within;
                has_one =
                    gone-other v (owner_at h.rows j) (wake_words w h.stages) other
                    ∙ woken_still w (owner_at h.rows j) h.stages stage-within o.has_one;
                there = same (owner_at h.rows j) o.has_one ∙ o.there;
              }
            where
              same : (u : ℕ) → has_word h.stages u ≡ true → first_word taken u / 2 ≡ first_word h.diagrams u / 2
              same u e =
                  elim (ℕ_discrete u w) [
                    | yes y ↦ ap (λ (l : List ℕ). first_word l u / 2) (taken-kept (sym (ap (has_word h.stages) y) ∙ e))
                    | no m ↦ ap (λ (z : ℕ). z / 2) (taken-other u m)
                  ]

          still : (u : ℕ) → u < t.count → has_word left u ≡ true → 1 ≤ first_word taken u / 2 → first_word taken u / 2 ≢ i → 1 ≤ owner_at h.rows (first_word taken u / 2)
          still u l e m n =
              let d : u ≢ w = λ y. n (ap (λ (z : ℕ). first_word taken z / 2) y ∙ target_row mine) in
              let same = ap (λ (z : ℕ). z / 2) (taken-other u d) in
              let had = sym (woken_other w u h.stages d) ∙ sym (gone-other v u (wake_words w h.stages) (left-has u e)) ∙ e in
              rw same (k.owners.named u l had (rw same at m))

      -- A vertex without a diagram leaves the owners.
      lacking-owners :
          (stages : List ℕ) → ((u : ℕ) → u ≢ v → has_word h.stages u ≡ true → has_word stages u ≡ true)
          → ((u : ℕ) → has_word stages u ≡ true → has_word h.stages u ≡ true) → has_word h.stages v ≡ false
          → Owners t.count used (held stages h.diagrams h.rows)
      lacking-owners stages on back lacks =
          record {
            rightly = λ j l m e.
                let o = k.owners.rightly j l m e in
                record {
                  within = o.within;
                  has_one = on (owner_at h.rows j) (λ y. clash (sym (ap (has_word h.stages) y) ∙ o.has_one) lacks) o.has_one;
                  there = o.there;
                };
            named = λ u l e m. k.owners.named u l (back u e) m;
          }

      leaves : Left (leave v (handed_over v x h))
      unfolding handed_over
      leaves = go (has_word h.stages v) refl (has_word h.stages w) refl
        where
          long-stages : 2 * v < length h.stages
          long-stages = omega (arith, k.room.stages-long)

          go : (a : Bool) → has_word h.stages v ≡ a → (b : Bool) → has_word h.stages w ≡ b
              → Left
              (leave v
              (cond a (held (wake_words w h.stages) taken owned)
              (cond b (held (wake_words w h.stages) h.diagrams h.rows) h)))
          go true mine b its =
              record {
                owners = given-owners mine;
                store = (own mine).store;
                agree = λ n. agree_then (k.agree n) ((own mine).agree n) (omega arith);
                long = length_owner h.rows i w ∙ k.long;
              }
          go false mine true its =
              record {
                owners =
                    lacking-owners left (λ u n e. gone-other v u (wake_words w h.stages) n ∙ woken_still w u h.stages stage-within e)
                    (λ u e.
                    elim (ℕ_discrete u w) [
                      | yes y ↦ ap (has_word h.stages) y ∙ its
                      | no n ↦ sym (woken_other w u h.stages n) ∙ sym (gone-other v u (wake_words w h.stages) (left-has u e)) ∙ e
                    ])
                    mine;
                store = k.store;
                agree = k.agree;
                long = k.long;
              }
          go false mine false its =
              record {
                owners =
                    lacking-owners (with_stage h.stages v (stage_word gone)) (λ u n e. gone-other v u h.stages n ∙ e)
                    (λ u e. sym (gone-other v u h.stages (gone-has v u h.stages long-stages e)) ∙ e) mine;
                store = k.store;
                agree = k.agree;
                long = k.long;
              }

    module _
        {pairs : List ℕ} (g : Graph t.first t.count pairs)
        (over : (v c n : ℕ) → t.first ≤ v → v < t.count → merged? pairs v ≡ true → DrawnOn v c n
        → DrawnOn (vertex_of (first_word pairs v)) (edge c (first_word pairs v)) n) where
      -- One vertex's turn.
      take_handed : (v : ℕ) (h : Held) → t.first ≤ v → v < t.count → Handed h → Handed (take_words pairs v h)
      unfolding take_words takes_words
      take_handed v h from lv k =
          record {
            room = take-room pairs v h lv (omega (arith, lower)) k.room;
            drawn = takes-drawn DrawnOn t.count g over 1 v h from (omega arith) k.room k.drawn;
            owners = rest.owners;
            store = rest.store;
            agree = rest.agree;
            long = rest.long;
          }
        where
          x : ℕ
          x = first_word pairs v

          lower : vertex_of x < v
          lower = omega (arith, g.downward.first_below v from lv)

          rest : Left (take_words pairs v h)
          rest = go (merged? pairs v) refl (gone? (word_stage (first_word h.stages v)))
            where
              same : Left h
              same = record { owners = k.owners; store = k.store; agree = k.agree; long = k.long }

              go : (a : Bool) → merged? pairs v ≡ a → (b : Bool) → Left (cond a (cond b h (leave v (handed_over v x h))) h)
              go true e true = same
              go true e false = leaves v x h k lv lower (λ c n. over v c n from lv e)
              go false e b = same

      -- n vertices' turns.
      pub takes_handed : (n v : ℕ) (h : Held) → t.first ≤ v → v + n ≤ t.count → Handed h → Handed (takes_words pairs v n h)
      unfolding takes_words
      takes_handed zero v h from to k = k
      takes_handed (suc n) v h from to k =
          takes_handed n (suc v) (take_words pairs v h) (omega arith) (omega arith) (take_handed v h from (omega arith) k)
