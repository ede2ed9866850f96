-- The loop of turns: what follows is what followed at first.
use Prim.Native.Nat.{◌*◌, ◌<◌, ◌≤◌, suc, ℕ}
use Rattle.std.specs.Prelude.{Err, None, Ok, Option, Result, Some}
use Rattle.sweep_pick.proofs.PickLaws.{Least, Sized, least-is, pick_models}
use Rattle.sweep_graph.proofs.StageLaws.{stage_at}
use Rattle.sweep_pick.specs.code.Pick.{least_from}
use Rattle.sweep_state.specs.code.Meet.{twin_of}
use Rattle.sweep_model.proofs.Bound.{go-enough, go_stops, go-turns, open-turns, scanning-budget}
use Rattle.sweep_model.proofs.Stages.{waits-has}
use Rattle.sweep_model.proofs.Steady.{opened_at}
use Rattle.sweep_model.specs.State.{stage_of, waits?}
use Rattle.sweep_model.specs.code.Steady.{Scanning}
use Rattle.sweep_model.specs.Sweep.{Progress, and_then, go, go_for, pick_from, turns_left}
use Rattle.sweep_state.specs.code.Meet.{Workspace}
use Rattle.sweep_state.specs.code.Settle.{state_on}
use Rattle.sweep_state.specs.code.Words.{posed}
use Rattle.sweep_state.proofs.LongLaws.{kept-same, kept-then}
use Rattle.sweep_state.specs.code.Sweep.{Kept, lent}
use Rattle.sweep_state.specs.declared.end.Ended.{Ended}
use Rattle.sweep_state.specs.declared.sweep.Sweep.{Sweep}
use Rattle.sweep_state.specs.declared.task.Task.{Task}
use Rattle.sweep_step.specs.code.Multiply.{Context}
use Rattle.sweep_turn.proofs.ScanModel.{asked-as, asked-same}
use Rattle.sweep_turn.specs.code.Turn.{Goes, OpenIn, OpenOn, Opens, RestIn, RestOn, first_context, gone, opened_by}
use lib.ListN.{length}
use mathlib.Core.Bool.{true}
use mathlib.Core.Path.{◌∙◌, ◌≡◌, ap, subst, sym}
use native.Mathlib.Omega.{arith}

-- The model's turns from here on.
abbrev pub gone_from : Task → Context → ℕ → ℕ → Workspace → Progress
gone_from t x used steps b = go (posed t x.functions) (state_on t b used steps)

-- The context with the turns that are left here.
abbrev pub now_left : Task → Context → ℕ → ℕ → Workspace → Context
now_left t x used steps b = first_context t x.functions x.entry b used steps

-- The context with the turns that are left after vertex v has opened.
abbrev left_after : Task → Context → ℕ → ℕ → ℕ → Workspace → Context
left_after t x v used steps b =
    record { functions = x.functions; entry = x.entry; turns = turns_left (opened_at v (state_on t b used steps)).stages }

-- Between two turns any bound that is not below the turns left serves.
module _ {t : Task} {x : Context} {used steps : ℕ} {b : Workspace} (o : RestOn t x used steps b) where
  -- The turns left here are such a bound.
  rests_now : RestOn t (now_left t x used steps b) used steps b
  rests_now = record { represents = o.represents; scanning = scanning-budget (turns_left (state_on t b used steps).stages) o.scanning (omega arith) }

  -- The model goes on as with that bound.
  any_bound : gone t x used steps b ≡ gone_from t x used steps b
  any_bound =
      go-enough o.represents.fit x.turns (state_on t b used steps) o.represents.reachable.steady
      (subst (λ (n : ℕ). Scanning (posed t x.functions) x.turns n (state_on t b used steps)) (sym o.represents.count) o.scanning)

  -- Waiting vertices have their sizes.
  sized : Sized (posed t x.functions) b.arrays.stages b.arrays.diagrams 0 t.count
  sized u l = (o.represents.drawn u (omega (arith, l.within)) (waits-has _ l.waits)).sized

  -- What is picked is the model's pick.
  pick-model :
      {q : Option ℕ} → q ≡ least_from b.arrays.stages b.arrays.diagrams 0 t.count
      → pick_from (posed t x.functions) 0 (state_on t b used steps).stages ≡ twin_of q
  pick-model e = sym (ap twin_of e ∙ pick_models (posed t x.functions) b.arrays.stages b.arrays.diagrams t.count sized)

  -- Vertex v is picked.
  module _ (v : ℕ) (e : least_from b.arrays.stages b.arrays.diagrams 0 t.count ≡ Some v) where
    -- It waits, and is one of the vertices.
    least : Least b.arrays.stages 0 t.count v
    least = least-is b.arrays.stages b.arrays.diagrams t.count 0 v e

    inside : v < t.count
    inside = omega (arith, least.within)

    picked_waits : waits? (stage_of (state_on t b used steps).stages v) ≡ true
    picked_waits = ap waits? (stage_at b.arrays.stages t.count v inside) ∙ least.waits

    -- Its turn is one of those left.
    one-turn : turns_left (state_on t b used steps).stages ≡ suc (left_after t x v used steps b).turns
    one-turn = omega (arith, open-turns (state_on t b used steps) v picked_waits)

    -- It can open.
    picked_opens : OpenOn t (left_after t x v used steps b) v used steps b
    picked_opens =
        record {
          rests = record {
            represents = o.represents;
            scanning = scanning-budget (suc (left_after t x v used steps b).turns) o.scanning (omega (arith, one-turn));
          };
          inside = inside;
          waits = picked_waits;
        }

    -- Its turn comes before the others.
    turn-first :
        gone_from t x used steps b
        ≡ and_then (opened_by t x v used steps b) (go_for (posed t x.functions) (left_after t x v used steps b).turns)
    unfolding go
    turn-first =
        rw one-turn
        (go-turns (posed t x.functions) (left_after t x v used steps b).turns (state_on t b used steps) v (pick-model (sym e)))

-- What the loop keeps: the last scan has come to its end, and the model goes on as it went at first.
pub record Turning (a s : Sweep) : Type 0 where
  pub kept : Kept a s
  pub here : (x : Context) → RestOn a.task x a.used a.steps (lent a) → RestOn a.task (now_left a.task x s.used s.steps (lent s)) s.used s.steps (lent s)
  pub ahead : (x : Context) → RestOn a.task x a.used a.steps (lent a)
      → gone_from a.task x s.used s.steps (lent s) ≡ gone a.task x a.used a.steps (lent a)

-- It holds at first.
pub turns-begin : {a : Sweep} → Turning a a
turns-begin = record { kept = kept-same; here = λ x o. rests_now o; ahead = λ x o. sym (any_bound o) }

module _ {a s : Sweep} (k : Turning a s) where
  -- The pick has its words.
  pub pick_asks : RestIn a → (2 * s.task.count ≤ length s.stages.now) × (2 * s.task.count ≤ length s.diagrams.now)
  pick_asks i =
      let r = (k.here i.context i.on).represents in
      subst (λ (z : Sweep). (2 * z.task.count ≤ length z.stages.now) × (2 * z.task.count ≤ length z.diagrams.now)) (asked-same k.kept)
      (r.stages-long, r.diagrams-long)

  -- What is picked, by the task at first.
  least-first : {q : Option ℕ} → q ≡ least_from s.stages.now s.diagrams.now 0 s.task.count → q ≡ least_from s.stages.now s.diagrams.now 0 a.task.count
  least-first e = e ∙ ap (λ (t : Task). least_from s.stages.now s.diagrams.now 0 t.count) k.kept.task

  module _ {v : ℕ} {q : Option ℕ} (f : q ≡ Some v) (e : q ≡ least_from s.stages.now s.diagrams.now 0 s.task.count) where
    picked : least_from s.stages.now s.diagrams.now 0 a.task.count ≡ Some v
    picked = sym (least-first e) ∙ f

    -- The picked vertex can open.
    pub turn-asks : RestIn a → OpenIn v s
    turn-asks i = subst (OpenIn v) (asked-same k.kept) (record { context = _; on = picked_opens (k.here i.context i.on) v picked })

    module _ (after : Sweep) where
      -- The turn, as of the task at first.
      opens-first : (g : Result (Unit {0}) Ended) → Opens v s after g → Opens v (asked-as a s) after g
      opens-first g opens = subst (λ (z : Sweep). Opens v z after g) (sym (asked-same k.kept)) opens

      module _ (opens : Opens v s after (Ok tt)) where
        -- Fewer turns are left.
        pub turns_fall : RestIn a
            → turns_left (state_on a.task (lent after) after.used after.steps).stages < turns_left (state_on a.task (lent s) s.used s.steps).stages
        turns_fall i =
            let o = k.here i.context i.on in
            let r = opens-first (Ok tt) opens _ (picked_opens o v picked) in
            omega (arith, one-turn o v picked, r.rests.scanning.budget)

        -- It holds after the turn.
        pub turns-go-on : Kept s after → Turning a after
        unfolding and_then
        turns-go-on kept =
            record {
              kept = kept-then k.kept kept;
              here = λ x o. rests_now (opens-first (Ok tt) opens _ (picked_opens (k.here x o) v picked)).rests;
              ahead = λ x o.
                  let r = opens-first (Ok tt) opens _ (picked_opens (k.here x o) v picked) in
                  sym (any_bound r.rests)
                  ∙ ap (λ (p : Progress). and_then p (go_for (posed a.task x.functions) (left_after a.task x v s.used s.steps (lent s)).turns)) (sym r.reached)
                  ∙ sym (turn-first (k.here x o) v picked) ∙ k.ahead x o;
            }

      -- The turn ended the sweep.
      pub turns_stop : (n : Ended) → Opens v s after (Err n) → Goes a after (Err n)
      unfolding and_then
      turns_stop n opens = λ x o.
          let r = opens-first (Err n) opens _ (picked_opens (k.here x o) v picked) in
          record {
            reached =
                sym (k.ahead x o) ∙ turn-first (k.here x o) v picked
                ∙ ap (λ (p : Progress). and_then p (go_for (posed a.task x.functions) (left_after a.task x v s.used s.steps (lent s)).turns)) r.reached;
            closed = r.closed;
          }

  -- None waits.
  pub turns-end : {q : Option ℕ} → q ≡ None → q ≡ least_from s.stages.now s.diagrams.now 0 s.task.count → Goes a s (Ok tt)
  unfolding go
  turns-end f e = λ x o.
      record {
        reached =
            sym (k.ahead x o)
            ∙ go_stops (posed a.task x.functions) (turns_left (state_on a.task (lent s) s.used s.steps).stages) (state_on a.task (lent s) s.used s.steps)
            (pick-model (k.here x o) (sym f ∙ least-first e));
        represents = (k.here x o).represents;
      }
