-- A visit, as the model makes it.
use Prim.Native.Nat.{◌*◌, ◌<◌, ◌≤◌, suc, ℕ}
use Rattle.std.specs.Prelude.{Err, None, Ok, Option, Result, Some}
use Rattle.aig.specs.Literal.{vertex_of}
use Rattle.aig.specs.Lookup.{first_word, second_word}
use Rattle.sweep_graph.proofs.StageLaws.{stage_at}
use Rattle.sweep_graph.specs.code.Stages.{word_stage}
use Rattle.sweep_model.proofs.Bound.{claim_on, nothing}
use Rattle.sweep_model.proofs.Induction.{visit_claim}
use Rattle.sweep_model.proofs.Steady.{scanning-passed}
use Rattle.sweep_model.specs.Fit.{Downward, Fit, vertex_count}
use Rattle.sweep_model.specs.State.{Problem, State, bare?, open?, stage_of}
use Rattle.sweep_model.specs.code.Steady.{Scanning, Steady}
use Rattle.sweep_model.specs.Sweep.{on, ready?, visit}
use Rattle.sweep_state.specs.code.Look.{progress_of}
use Rattle.sweep_state.specs.code.Meet.{Workspace}
use Rattle.sweep_state.specs.code.Settle.{state_on}
use Rattle.sweep_state.specs.code.Words.{posed}
use Rattle.sweep_state.specs.declared.end.End.{End}
use Rattle.sweep_state.specs.code.Sweep.{lent}
use Rattle.sweep_state.specs.declared.end.Ended.{Ended}
use Rattle.sweep_state.specs.declared.sweep.Sweep.{Sweep}
use Rattle.sweep_state.specs.declared.task.Task.{Task}
use Rattle.sweep_step.specs.code.Multiply.{Context, DueIn, DueOn, Takes, multiplied}
use Rattle.sweep_turn.proofs.EndModel.{looked-ends}
use Rattle.sweep_turn.specs.code.Visit.{ScanIn, ScanOn, Visits, going_by, open_word, ready_at, visited}
use Rattle.truth.proofs.Booleans.{and_left, and_right}
use borrow.Author.Tests.{le-leb, leb-true}
use lib.Dec.{leb}
use mathlib.Core.Bool.{Bool, ◌&&◌, false, true}
use mathlib.Core.List.{List}
use mathlib.Core.Path.{◌∙◌, ◌≡◌, ap, refl, subst, sym}
use native.Mathlib.Decide.{dec_le}
use native.Mathlib.Omega.{arith}

-- Where the model's visit goes on, its scan has come to the next vertex.
visit-scans :
    {p : Problem} {entry : List ℕ} → Fit p entry → (n v : ℕ) (s z : State) → v < vertex_count p → Steady p entry s → Scanning p n v s → visit p v s ≡ on z
    → Scanning p n (suc v) z
visit-scans {p} {entry} fit n v s z h steady scanning e =
    (claim_on (visit_claim fit (nothing p entry) n v s h (record { steady = steady; scanned = scanning; kept = tt })) e).scanned

module _ {t : Task} {x : Context} {v used steps : ℕ} {b : Workspace} (h : ScanOn t x v used steps b) (inside : v < t.count) where
  rows_down : Downward t.first t.count b.pairs
  rows_down =
      subst (λ (n : ℕ). Downward t.first n b.pairs) h.represents.count h.represents.reachable.steady.sound.downward

  word_below : (first_word b.pairs v < 2 * t.count) × (second_word b.pairs v < 2 * t.count)
  word_below =
      elim (dec_le t.first v) [
        | yes m ↦ (omega (arith, rows_down.first_below v m inside), omega (arith, rows_down.second_below v m inside))
        | no m ↦ (let o = rows_down.own v (omega arith) in (omega (arith, o.first), omega (arith, o.second)))
      ]

  -- The test is the model's.
  ready_models : ready? (posed t x.functions) v (state_on t b used steps) ≡ ready_at t v b.pairs b.arrays.stages
  unfolding ready? ready_at
  ready_models =
      rw (
        stage_at b.arrays.stages t.count v inside,
        stage_at b.arrays.stages t.count (vertex_of (first_word b.pairs v)) (omega (arith, word_below.0)),
        stage_at b.arrays.stages t.count (vertex_of (second_word b.pairs v)) (omega (arith, word_below.1)),
      ) refl

  -- A vertex that is ready is due.
  pub ready-due : {r : Bool} → r ≡ ready_at t v b.pairs b.arrays.stages → r ≡ true → DueOn t x v used steps b
  unfolding ready?
  ready-due er e =
      let p = posed t x.functions in
      let s = state_on t b used steps in
      let second = open? (stage_of s.stages (vertex_of (second_word s.rows v))) in
      let first = open? (stage_of s.stages (vertex_of (first_word s.rows v))) in
      let bares = bare? (stage_of s.stages v) in
      let is = ready_models ∙ sym er ∙ e in
      let e₁ = and_left (leb t.first v && bares && first) second is in
      let e₂ = and_left (leb t.first v && bares) first e₁ in
      record {
        represents = h.represents;
        due = record {
          steady = h.represents.reachable.steady;
          scanning = h.scanning;
          made = leb-true t.first v (and_left (leb t.first v) bares e₂);
          is-bare = and_right (leb t.first v) bares e₂;
          first-open = and_right (leb t.first v && bares) first e₁;
          second-open = and_right (leb t.first v && bares && first) second is;
        };
      }

  visit-ready : ready_at t v b.pairs b.arrays.stages ≡ true → visited t x v used steps b ≡ multiplied t x v used steps b
  unfolding visit
  visit-ready e =
      ap (λ (c : Bool). elim c [ true ↦ multiplied t x v used steps b | false ↦ on (state_on t b used steps) ]) (ready_models ∙ e)

  -- Where the model goes on, the scan has come to the next vertex.
  scan-next : {s : State} → visited t x v used steps b ≡ on s → Scanning (posed t x.functions) x.turns (suc v) s
  scan-next {s} e =
      visit-scans h.represents.fit x.turns v (state_on t b used steps) s (omega (arith, h.represents.count)) h.represents.reachable.steady
      h.scanning e

-- The test, answer by answer.
module _ (t : Task) (v : ℕ) (pairs stages : List ℕ) where
  module _ (made : t.first ≤ v) {s : ℕ} (es : s ≡ first_word stages v) {a : Bool} (ea : a ≡ bare? (word_stage s)) where
    pub ready_not_bare : a ≡ false → false ≡ ready_at t v pairs stages
    unfolding ready_at
    ready_not_bare e = rw (le-leb t.first v made, ← es, ← ea, e) refl

    module _ (is-bare : a ≡ true) {l : ℕ} (el : l ≡ first_word pairs v) {c : Bool} (ec : c ≡ open_word stages (vertex_of l)) where
      pub ready_not_open : c ≡ false → false ≡ ready_at t v pairs stages
      unfolding ready_at
      ready_not_open e = rw (le-leb t.first v made, ← es, ← ea, is-bare, ← el, ← ec, e) refl

-- What a visit comes to, by what its product came to.
abbrev pub going_of : Sweep → Result (Option End) Ended → Result (Unit {0}) Ended
going_of after (Ok seen) = going_by seen after.used after.steps
going_of after (Err i) = Err i

module _ (v : ℕ) (s : Sweep) (inside : v < s.task.count) {r : Bool} (er : r ≡ ready_at s.task v s.pairs.now s.stages.now) where
  -- A vertex that is ready has its product taken.
  visit-product :
      r ≡ true → {x : Context} → ScanOn s.task x v s.used s.steps (lent s)
      → visited s.task x v s.used s.steps (lent s) ≡ multiplied s.task x v s.used s.steps (lent s)
  visit-product e h = visit-ready h inside (sym er ∙ e)

  pub visit-due : r ≡ true → ScanIn v s → DueIn v s
  visit-due e i = record { context = i.context; on = ready-due i.here inside er e }

  -- What was seen ends the sweep, or it goes on.
  pub visit-seen : r ≡ true → (after : Sweep) (seen : Option End) → Takes v s after (Ok seen) → Visits v s after (going_by seen after.used after.steps)
  unfolding progress_of
  visit-seen e after (Some i) took = λ x h.
      let l = took x (ready-due h inside er e) in
      looked-ends (Some i) l.represents (visit-product e h ∙ l.reached) l.refers refl
  visit-seen e after None took = λ x h.
      let l = took x (ready-due h inside er e) in
      let i = visit-product e h ∙ l.reached in
      record { reached = i; here = record { represents = l.represents; scanning = scan-next h inside i } }

  -- A limit ends it.
  pub visit-short : r ≡ true → (after : Sweep) {i : Ended} → Takes v s after (Err i) → Visits v s after (Err i)
  visit-short e after took = λ x h.
      let l = took x (ready-due h inside er e) in
      record { reached = visit-product e h ∙ l.reached; closed = l.closed }

  -- So it is for each answer of the product.
  pub visit_takes : r ≡ true → (after : Sweep) (o : Result (Option End) Ended) → Takes v s after o → Visits v s after (going_of after o)
  visit_takes e after (Ok seen) took = visit-seen e after seen took
  visit_takes e after (Err i) took = visit-short e after took

  -- Another is passed.
  pub visit-passes : r ≡ false → Visits v s s (Ok tt)
  unfolding visit
  visit-passes e = λ x h.
      record {
        reached =
            ap (λ (c : Bool). elim c [ true ↦ multiplied s.task x v s.used s.steps (lent s) | false ↦ on (state_on s.task (lent s) s.used s.steps) ])
            (ready_models h inside ∙ sym er ∙ e);
        here = record {
          represents = h.represents;
          scanning = scanning-passed x.turns v (state_on s.task (lent s) s.used s.steps) (omega (arith, h.represents.count)) h.scanning;
        };
      }
