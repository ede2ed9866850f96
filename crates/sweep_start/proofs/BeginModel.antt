-- The start of a sweep after the first normalising: the looks and the inputs' rows, as in the model.
use Prim.Native.Nat.{◌-◌, ℕ}
use Rattle.std.specs.Prelude.{Err, None, Ok, Option, Result, Some}
use Rattle.aig.specs.Literal.{negate}
use Rattle.sweep_model.proofs.Steady.{giving-scanning}
use Rattle.sweep_model.specs.State.{Problem, State, literal_function}
use Rattle.sweep_model.specs.code.Steady.{Scanning, Unsettled, have_now?, left_now, right_now}
use Rattle.sweep_model.specs.Sweep.{Progress, Verdict, and_then, different, ends, equal, give_inputs, look, look_at, on, start, turns_left}
use Rattle.sweep_model.specs.declared.Cause.TheVariants.{Rows}
use Rattle.sweep_state.proofs.LookModel.{look-models, look-refers, looks}
use Rattle.sweep_state.specs.code.Ending.{Ends, ended_with, verdict_of}
use Rattle.sweep_state.specs.code.Look.{Looks, SeenRefers, progress_of, seen_by}
use Rattle.sweep_state.specs.code.Meet.{Workspace, workspace}
use Rattle.sweep_state.specs.code.Represents.{Represents}
use Rattle.sweep_state.specs.code.Settle.{on_workspace, state_on}
use Rattle.sweep_state.specs.code.Arrays.{Arrays}
use Rattle.sweep_state.specs.code.Words.{posed}
use Rattle.sweep_state.specs.declared.end.End.TheVariants.{Undecided}
use Rattle.sweep_state.specs.declared.end.End.{End}
use Rattle.sweep_state.specs.declared.end.Ended.{Ended}
use Rattle.sweep_state.specs.declared.task.Task.{Task}
use Rattle.sweep_start.specs.code.Given.{AllGiven, GivenTo, GivesRows, HasInputContext, InputContext}
use Rattle.sweep_start.specs.code.Start.{GivesInputs, GivingIn, GoneOn, HasFunctions, Prepared, Prepares, Starts, SweepAsked, inputs_given}
use Rattle.sweep_turn.proofs.EndModel.{Continues, looked-ends}
use Rattle.sweep_turn.specs.code.Visit.{going_by}
use Rattle.truth.specs.Settings.{first_difference}
use Rattle.truth.specs.Truth.{Truth, same?}
use borrow.Author.Tests.{eqb-false}
use lib.Dec.{eqb}
use lib.ListN.{replicate}
use mathlib.Core.Bool.{Bool, cond, false, true}
use mathlib.Core.List.{List}
use mathlib.Core.Path.{◌∙◌, ◌≡◌, ap, ap₂, refl, subst, sym}
use native.Mathlib.Omega.{arith}

-- Where the model's look goes on, nothing is decided.
look-unsettled : (p : Problem) (s z : State) → look p s ≡ on z → Unsettled p s
unfolding look look_at
look-unsettled p s z e =
    go (eqb (left_now p s) (right_now p s)) refl (eqb (left_now p s) (negate (right_now p s))) refl (have_now? p s) refl
    (same? (literal_function p (left_now p s)) (literal_function p (right_now p s))) e
  where
    over : {x : Verdict} → ends x 0 s ≡ on z → Unsettled p s
    over h = absurd (let i : ◌≡◌ {A = ℕ} 0 1 = cc in omega arith)

    go : (a : Bool) → eqb (left_now p s) (right_now p s) ≡ a → (b : Bool) → eqb (left_now p s) (negate (right_now p s)) ≡ b → (c : Bool)
        → have_now? p s ≡ c → (d : Bool)
        → cond a (ends equal 0 s)
        (cond b (ends (different (replicate p.inputs false)) 0 s)
        (cond c
        (cond d (ends equal 0 s) (ends (different (first_difference (literal_function p (left_now p s)) (literal_function p (right_now p s)))) 0 s))
        (on s)))
        ≡ on z
        → Unsettled p s
    go true ea b eb c ec d h = over h
    go false ea true eb c ec d h = over h
    go false ea false eb true ec true h = over h
    go false ea false eb true ec false h = over h
    go false ea false eb false ec d h =
        record {
          unequal = eqb-false (left_now p s) (right_now p s) ea;
          not_inverse = eqb-false (left_now p s) (negate (right_now p s)) eb;
          lacking = ec;
        }

-- The context of a workspace.
abbrev frame_of : List Truth → List ℕ → Workspace → InputContext
frame_of functions entry b = record { functions = functions; entry = entry; pairs = b.pairs; steps = 0 }

-- No input has its row at first.
prepared-given :
    {t : Task} {functions : List Truth} {entry : List ℕ} {b : Workspace} → Prepared t functions entry b
    → GivenTo t (frame_of functions entry b) b.arrays 0 1
prepared-given h = record { represents = h.represents; giving = h.giving }

-- What giving the rows needs is there.
pub giving_framed : {t : Task} {b : Workspace} → GivingIn t b → HasInputContext t b.arrays 0
giving_framed {b = b} h = record { context = frame_of h.functions h.entry b; given = prepared-given h.prepared }

module _ (t : Task) (b : Workspace) (after : Arrays) (used : ℕ) (gave : GivesRows t b.arrays 0 after used (Ok tt)) where
  -- All rows are given.
  all-given :
      {functions : List Truth} {entry : List ℕ} → Prepared t functions entry b → AllGiven t (frame_of functions entry b) b.arrays 0 after used
  all-given {functions} {entry} h = gave (frame_of functions entry b) (prepared-given h)

  -- What looking needs is there, after all rows are given.
  pub given_looks : GivingIn t b → Looks t b.pairs after.diagrams after.stages
  given_looks h = looks (all-given h.prepared).given.represents

  module _ {seen : Option End} (es : seen ≡ seen_by t b.pairs after.diagrams after.stages) where
    -- The model goes on or ends by what was seen.
    seen-reached :
        {functions : List Truth} {entry : List ℕ} → Prepared t functions entry b
        → inputs_given t functions b ≡ progress_of after.rows t.inputs (state_on t (workspace b.pairs after) used 0) seen
    unfolding and_then
    seen-reached {functions} h =
        ap (λ (o : Progress). and_then o (look (posed t functions))) (all-given h).reached ∙ sym (look-models (all-given h).given.represents)
        ∙ ap (progress_of after.rows t.inputs (state_on t (workspace b.pairs after) used 0)) (sym es)

    -- What was seen refers to rows in use.
    seen_refer : {functions : List Truth} {entry : List ℕ} → Prepared t functions entry b → SeenRefers after.rows used t.inputs seen
    seen_refer h = subst (SeenRefers after.rows used t.inputs) (sym es) (look-refers (all-given h).given.represents)

    -- Where nothing was seen the first turn can begin.
    seen_nothing :
        seen ≡ None → (functions : List Truth) (entry : List ℕ) → Prepared t functions entry b
        → GoneOn t functions entry (inputs_given t functions b) (workspace b.pairs after) used 0
    unfolding progress_of
    seen_nothing e functions entry h =
        record {
          reached = seen-reached h ∙ ap (progress_of after.rows t.inputs s) e;
          rests = record {
            represents = rep;
            scanning = subst (λ (n : ℕ). Scanning p (turns_left s.stages) n s) rep.count
                (giving-scanning s rep.reachable.steady (all-given h).given.giving (look-unsettled p s s goes));
          };
        }
      where
        p : Problem
        p = posed t functions

        s : State
        s = state_on t (workspace b.pairs after) used 0

        rep : Represents t functions entry (on_workspace (workspace b.pairs after) used 0)
        rep = (all-given h).given.represents

        goes : look p s ≡ on s
        goes = sym (look-models rep) ∙ ap (progress_of after.rows t.inputs s) (sym es ∙ e)

  -- The sweep goes on or ends after all rows are given.
  pub given-goes :
      (seen : Option End) → seen ≡ seen_by t b.pairs after.diagrams after.stages → GivesInputs t b (workspace b.pairs after) used 0 (going_by seen used 0)
  given-goes (Some i) e = λ functions entry h. looked-ends (Some i) (all-given h).given.represents (seen-reached e h) (seen_refer e h) refl
  given-goes None e = seen_nothing e refl

-- The sweep ends where the row limit was passed.
pub given-short :
    (t : Task) (b : Workspace) (after : Arrays) (v used : ℕ) → GivesRows t b.arrays 0 after used (Err v)
    → (functions : List Truth) (entry : List ℕ) → Prepared t functions entry b
    → Ends t functions (inputs_given t functions b) (workspace b.pairs after) (ended_with (Undecided (Rows v)) used 0 0)
unfolding and_then verdict_of
given-short t b after v used gave functions entry h =
    let x = gave (frame_of functions entry b) (prepared-given h) in
    record { reached = ap (λ (o : Progress). and_then o (look (posed t functions))) x.reached; closed = x.closed }

-- What a look decided, by how the sweep goes on after it.
pub going-ended : (seen : Option End) (u k : ℕ) {r : Ended} → going_by seen u k ≡ Err r → (e : End) × (seen ≡ Some e) × (r ≡ ended_with e u k 0)
going-ended (Some e) u k i = (e, refl, cc)
going-ended None u k i = absurd (subst Continues i tt)

pub going-nothing : (seen : Option End) (u k : ℕ) → going_by seen u k ≡ Ok tt → seen ≡ None
going-nothing (Some e) u k i = absurd (subst Continues (sym i) tt)
going-nothing None u k i = refl

-- What follows in the model where the first look sees nothing.
abbrev after_nothing : Task → List Truth → State → Progress
after_nothing t functions s = and_then (give_inputs (posed t functions) 1 (t.first - 1) s) (look (posed t functions))

module _ (t : Task) (b middle : Workspace) (prepares : Prepares t b middle) where
  -- What looking needs is there, after the first normalising.
  pub prepared_looks : {look : List ℕ} → SweepAsked t look b → Looks t middle.pairs middle.arrays.diagrams middle.arrays.stages
  prepared_looks h = looks (prepares h.functions h.has-functions).prepared.represents

  module _ {seen : Option End} (es : seen ≡ seen_by t middle.pairs middle.arrays.diagrams middle.arrays.stages) where
    -- The model's start, by what was seen.
    start_seen :
        (functions : List Truth) → HasFunctions t functions b.pairs
        → start (posed t functions) b.pairs
        ≡ and_then (progress_of middle.arrays.rows t.inputs (state_on t middle 0 0) seen) (after_nothing t functions)
    unfolding start
    start_seen functions h =
        let x = prepares functions h in
        ap (λ (o : Progress). and_then o (after_nothing t functions))
        (ap (look (posed t functions)) (sym x.reached) ∙ sym (look-models x.prepared.represents)
        ∙ ap (progress_of middle.arrays.rows t.inputs (state_on t middle 0 0)) (sym es))

    -- Where nothing was seen each input gets its row.
    start-nothing :
        seen ≡ None → (functions : List Truth) → HasFunctions t functions b.pairs
        → start (posed t functions) b.pairs ≡ inputs_given t functions middle
    unfolding progress_of and_then
    start-nothing e functions h =
        start_seen functions h
        ∙ ap (λ (x : Option End). and_then (progress_of middle.arrays.rows t.inputs (state_on t middle 0 0) x) (after_nothing t functions)) e

    -- The start goes on or ends as giving the inputs does.
    pub start_gives :
        seen ≡ None → (after : Workspace) (used steps : ℕ) (g : Result (Unit {0}) Ended) → GivesInputs t middle after used steps g
        → Starts t b after used steps g
    start_gives e after used steps (Ok _) gave = λ functions h.
        let x = gave functions b.pairs (prepares functions h).prepared in
        record { reached = start-nothing e functions h ∙ x.reached; rests = x.rests }
    start_gives e after used steps (Err r) gave = λ functions h.
        let x = gave functions b.pairs (prepares functions h).prepared in
        record { reached = start-nothing e functions h ∙ x.reached; closed = x.closed }

    -- The model's start ends where something was seen.
    start-ended :
        (functions : List Truth) (h : HasFunctions t functions b.pairs) {e : End}
        → start (posed t functions) b.pairs ≡ progress_of middle.arrays.rows t.inputs (state_on t middle 0 0) seen
        → going_by seen 0 0 ≡ Err (ended_with e 0 0 0) → Ends t functions (start (posed t functions) b.pairs) middle (ended_with e 0 0 0)
    start-ended functions h reached i =
        let rep = (prepares functions h).prepared.represents in
        looked-ends seen rep reached (subst (SeenRefers middle.arrays.rows 0 t.inputs) (sym es) (look-refers rep)) i

  -- The sweep ends after the first look where something was seen.
  start-ends :
      {seen : Option End} → seen ≡ seen_by t middle.pairs middle.arrays.diagrams middle.arrays.stages → (e : End) → seen ≡ Some e
      → Starts t b middle 0 0 (Err (ended_with e 0 0 0))
  unfolding progress_of and_then
  start-ends es e i = λ functions h. start-ended (sym i ∙ es) functions h (start_seen (sym i ∙ es) functions h) refl

  -- The same for what the code returned.
  pub start-stops :
      {seen : Option End} → seen ≡ seen_by t middle.pairs middle.arrays.diagrams middle.arrays.stages → {used steps : ℕ} → used ≡ 0 → steps ≡ 0
      → {r : Ended} → going_by seen used steps ≡ Err r → Starts t b middle used steps (Err r)
  start-stops {seen} es {used} {steps} eu ek {r} i =
      let e = going-ended seen 0 0 (ap₂ (going_by seen) (sym eu) (sym ek) ∙ i) in
      subst (λ (q : Ended). Starts t b middle used steps (Err q)) (sym e.2) (start-ends es e.0 e.1)
