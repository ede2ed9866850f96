-- Induction over the sweep: what each of its steps keeps, the whole keeps.
use Prim.Native.Nat.{◌+◌, ◌-◌, ◌<◌, ◌≤◌, suc, zero, ℕ}
use Rattle.aig.specs.Literal.{negate, vertex_of}
use Rattle.aig.specs.Lookup.{first_word, second_word}
use Rattle.product_model.specs.Run.{Book, Outcome, add_part, done, plain, short_of_rows, short_of_steps}
use Rattle.sweep_model.proofs.Choices.{no_turns_no_pick, pick_waits, twin_at_lem}
use Rattle.sweep_model.proofs.Merger.{merger_scanning, merger_steady}
use Rattle.sweep_model.proofs.Steady.{begin-giving, begin-steady, dropped-steady, due_alive, giving-scanning, giving-swept, input_row, opened-steady, opened_at, scanning-dropped, scanning-opened, scanning-passed, scanning-swept, swept-steady}
use Rattle.sweep_model.specs.Fit.{Fit, vertex_count}
use Rattle.sweep_model.specs.Normalise.{normalise}
use Rattle.sweep_model.specs.State.{Problem, State, bare?, function_of, gone?, literal_function, open?, stage_of, with_book, with_mark}
use Rattle.sweep_model.specs.code.Steady.{Due, Giving, Scanning, Steady, Unsettled, have_now?, left_now, product_of, right_now}
use Rattle.sweep_model.specs.Sweep.{Candidate, Progress, Verdict, added_to, and_then, at, begin, conclude, different, drop_vertex, ends, equal, give_inputs, give_row, given_back, go, go_for, look, look_at, meet, multiply, none, on, open_at, pick_from, ready?, result_of, scan_from, start, sweep, swept, top_part, turns_left, twin_from, undecided, visit}
use Rattle.sweep_model.specs.declared.Cause.TheVariants.{Rows, Size, Steps}
use Rattle.truth.proofs.Booleans.{and_left, and_right}
use Rattle.truth.specs.Distinct.{among}
use Rattle.truth.specs.Parts.{alike?, size}
use Rattle.truth.specs.Settings.{first_difference}
use Rattle.truth.specs.Truth.{Truth, same?}
use borrow.Author.Tests.{eqb-false, eqb-true, leb-true}
use lib.Dec.{eqb, leb, ltb}
use lib.ListN.{length, replicate}
use mathlib.Core.Bool.{Bool, ◌&&◌, cond, false, true}
use mathlib.Core.List.{List, ◌∷◌}
use mathlib.Core.Logic.{◌≢◌}
use mathlib.Core.Path.{◌≡◌, ap, refl, subst}
use native.Mathlib.Omega.{arith}

-- Where the sweep stands: the inputs below a vertex have their rows; or at most so many turns are left and the scan has come to a vertex (between two
-- turns, past the last).
pub data Place : Type 0 where
  giving : ℕ → Place
  scanning : ℕ → ℕ → Place

-- What has to be shown so that R holds of every state that the sweep reaches, by its place.
pub record Invariant (p : Problem) (entry : List ℕ) (R : Place → State → Type 0) : Type 0 where
  -- The first normalising; an input given its row; all inputs have theirs.
  pub begins : R (giving 1) (normalise p.first (begin p entry))
  pub gives_row : (v : ℕ) (b : Book) (s : State) → Steady p entry s → Giving p v s → 1 ≤ v → v < p.first → input_row p v s ≡ done b → R (giving v) s
      → R (giving (suc v)) (swept v (with_book b s))
  pub starts : (s : State) → Steady p entry s → Giving p p.first s → Unsettled p s → R (giving p.first) s
      → R (scanning (turns_left s.stages) (vertex_count p)) s
  -- A vertex is picked and opens; the scan passes over a vertex that is not ready.
  pub opens : (n v : ℕ) (s : State) → Steady p entry s → Scanning p (suc n) (vertex_count p) s → pick_from p 0 s.stages ≡ at v
      → R (scanning (suc n) (vertex_count p)) s → R (scanning n (suc v)) (opened_at v s)
  pub passes : (n v : ℕ) (s : State) → Steady p entry s → Scanning p n v s → v < vertex_count p → ready? p v s ≡ false → R (scanning n v) s
      → R (scanning n (suc v)) s
  -- A product ends too large; of a function that no vertex with a diagram has; of one that vertex w has.
  pub drops : (n v : ℕ) (b : Book) (s : State) → Due p entry n v s → product_of p v s ≡ done b → ltb p.limits.size (size (function_of p v)) ≡ true
      → R (scanning n v) s → R (scanning n (suc v)) (drop_vertex v b s)
  pub sweeps : (n v : ℕ) (b : Book) (s : State) → Due p entry n v s → product_of p v s ≡ done b → ltb p.limits.size (size (function_of p v)) ≡ false
      → twin_from p s.stages v 0 (length s.stages) ≡ none → R (scanning n v) s → R (scanning n (suc v)) (swept v (with_book b s))
  pub merges : (n v w : ℕ) (b : Book) (s : State) → Due p entry n v s → product_of p v s ≡ done b → ltb p.limits.size (size (function_of p v)) ≡ false
      → twin_from p s.stages v 0 (length s.stages) ≡ at w → R (scanning n v) s → R (scanning n (suc v)) (meet p v (with_book b s) (at w))

-- And so that W holds of the verdict, the rows added and the state at the end.
pub record Keeps (p : Problem) (entry : List ℕ) (R : Place → State → Type 0) (W : Verdict → ℕ → State → Type 0) : Type 0 where
  pub invariant : Invariant p entry R
  -- The two literals are one, or inverse; or both have diagrams, of equal functions or not.
  pub same-literal : (place : Place) (s : State) → Steady p entry s → R place s → left_now p s ≡ right_now p s → W equal 0 s
  pub inverse-literal : (place : Place) (s : State) → Steady p entry s → R place s → left_now p s ≡ negate (right_now p s)
      → W (different (replicate p.inputs false)) 0 s
  pub same_function : (place : Place) (s : State) → Steady p entry s → R place s → left_now p s ≢ right_now p s → left_now p s ≢ negate (right_now p s)
      → have_now? p s ≡ true → same? (literal_function p (left_now p s)) (literal_function p (right_now p s)) ≡ true → W equal 0 s
  pub other_function : (place : Place) (s : State) → Steady p entry s → R place s → left_now p s ≢ right_now p s → left_now p s ≢ negate (right_now p s)
      → have_now? p s ≡ true → same? (literal_function p (left_now p s)) (literal_function p (right_now p s)) ≡ false
      → W (different (first_difference (literal_function p (left_now p s)) (literal_function p (right_now p s)))) 0 s
  -- The row limit is passed at an input; a product is short of rows or steps.
  pub lacks-input-row : (v : ℕ) (b : Book) (s : State) → Steady p entry s → Giving p v s → 1 ≤ v → v < p.first → input_row p v s ≡ short_of_rows b
      → R (giving v) s → W (undecided (Rows v)) 0 (with_mark v 3 s)
  pub lacks-row : (n v : ℕ) (b : Book) (s : State) → Due p entry n v s → product_of p v s ≡ short_of_rows b → R (scanning n v) s
      → W (undecided (Rows v)) (added_to s.book b) (with_mark v 3 (with_book (given_back s.book b) s))
  pub lacks_step : (n v : ℕ) (b : Book) (s : State) → Due p entry n v s → product_of p v s ≡ short_of_steps b → R (scanning n v) s
      → W (undecided (Steps v)) (added_to s.book b) (with_mark v 3 (with_book (given_back s.book b) s))
  -- None waits.
  pub rests : (n : ℕ) (s : State) → Steady p entry s → Scanning p n (vertex_count p) s → pick_from p 0 s.stages ≡ none → R (scanning n (vertex_count p)) s
      → W (undecided Size) 0 s

-- Nothing is asked of the states.
pub unasked : {p : Problem} {entry : List ℕ} → Invariant p entry (λ place s. Unit {0})
unasked =
    record {
      begins = tt;
      gives_row = λ v b s h g l m e r. tt;
      starts = λ s h g u r. tt;
      opens = λ n v s h c e r. tt;
      passes = λ n v s h c l e r. tt;
      drops = λ n v b s d e f r. tt;
      sweeps = λ n v b s d e f t r. tt;
      merges = λ n v w b s d e f t r. tt;
    }

-- Nothing is claimed of the end.
pub unclaimed : {p : Problem} {entry : List ℕ} {R : Place → State → Type 0} → Invariant p entry R → Keeps p entry R (λ x k s. Unit {0})
unclaimed I =
    record {
      invariant = I;
      same-literal = λ place s h r e. tt;
      inverse-literal = λ place s h r e. tt;
      same_function = λ place s h r a b c e. tt;
      other_function = λ place s h r a b c e. tt;
      lacks-input-row = λ v b s h g l m e r. tt;
      lacks-row = λ n v b s d e r. tt;
      lacks_step = λ n v b s d e r. tt;
      rests = λ n s h c e r. tt;
    }

-- What has to be shown so that W holds of the verdict, the rows added and the state at the end, where nothing but steadiness is asked of the states before.
pub record Endings (p : Problem) (entry : List ℕ) (W : Verdict → ℕ → State → Type 0) : Type 0 where
  pub same-literal : (s : State) → Steady p entry s → left_now p s ≡ right_now p s → W equal 0 s
  pub inverse-literal : (s : State) → Steady p entry s → left_now p s ≡ negate (right_now p s) → W (different (replicate p.inputs false)) 0 s
  pub same_function : (s : State) → Steady p entry s → same? (literal_function p (left_now p s)) (literal_function p (right_now p s)) ≡ true → W equal 0 s
  pub other_function : (s : State) → Steady p entry s → same? (literal_function p (left_now p s)) (literal_function p (right_now p s)) ≡ false
      → W (different (first_difference (literal_function p (left_now p s)) (literal_function p (right_now p s)))) 0 s
  pub lacks-input-row : (v : ℕ) (s : State) → Steady p entry s → W (undecided (Rows v)) 0 (with_mark v 3 s)
  pub lacks-row : (v : ℕ) (b : Book) (s : State) → Steady p entry s → W (undecided (Rows v)) (added_to s.book b) (with_mark v 3 (with_book (given_back s.book b) s))
  pub lacks_step : (v : ℕ) (b : Book) (s : State) → Steady p entry s → W (undecided (Steps v)) (added_to s.book b) (with_mark v 3 (with_book (given_back s.book b) s))
  pub rests : (s : State) → Steady p entry s → W (undecided Size) 0 s

-- Such endings are one way to keep: nothing is asked of the states before.
pub endings_keep : {p : Problem} {entry : List ℕ} {W : Verdict → ℕ → State → Type 0} → Endings p entry W → Keeps p entry (λ place s. Unit {0}) W
endings_keep E =
    record {
      invariant = unasked;
      same-literal = λ place s h r e. E.same-literal s h e;
      inverse-literal = λ place s h r e. E.inverse-literal s h e;
      same_function = λ place s h r a b c e. E.same_function s h e;
      other_function = λ place s h r a b c e. E.other_function s h e;
      lacks-input-row = λ v b s h g l m e r. E.lacks-input-row v s h;
      lacks-row = λ n v b s d e r. E.lacks-row v b s d.steady;
      lacks_step = λ n v b s d e r. E.lacks_step v b s d.steady;
      rests = λ n s h c e r. E.rests s h;
    }

-- What is known of a state where the sweep goes on, and of a verdict, the rows added and a state where it ends.
pub data Claim (P : State → Type 0) (W : Verdict → ℕ → State → Type 0) : Progress → Type 0 where
  goes_on : {s : State} → P s → Claim P W (on s)
  stops : {x : Verdict} {k : ℕ} {s : State} → W x k s → Claim P W (ends x k s)

-- What is known after two parts, one after the other.
pub then-claim :
    {P P' : State → Type 0} {W : Verdict → ℕ → State → Type 0} {o : Progress} {next : State → Progress} → Claim P W o
    → ((s : State) → P s → Claim P' W (next s)) → Claim P' W (and_then o next)
unfolding and_then
then-claim (goes_on {s = s} h) k = k s h
then-claim (stops h) k = stops h

test-claim :
    {P : State → Type 0} {W : Verdict → ℕ → State → Type 0} (b : Bool) {x y : Progress} → (b ≡ true → Claim P W x) → (b ≡ false → Claim P W y)
    → Claim P W (cond b x y)
test-claim true h k = h refl
test-claim false h k = k refl

-- Giving a row takes no steps.
pub input-steps : (p : Problem) (v : ℕ) (s : State) (b : Book) → input_row p v s ≡ short_of_steps b → ⊥
unfolding add_part
input-steps p v s b e =
    never (among alike? row s.book.store) (ltb (length s.book.store) p.limits.rows) (record { store = plain row ∷ s.book.store; steps = s.book.steps }) e
  where
    row : Truth
    row = top_part (function_of p v)

    never : (x y : Bool) (more : Book) → cond x (done s.book) (cond y (done more) (short_of_rows s.book)) ≡ short_of_steps b → ⊥
    never true y more k = let z : ◌≡◌ {A = ℕ} 0 1 = cc in omega arith
    never false true more k = let z : ◌≡◌ {A = ℕ} 0 1 = cc in omega arith
    never false false more k = let z : ◌≡◌ {A = ℕ} 0 1 = cc in omega arith

module _ {p : Problem} {entry : List ℕ} (fit : Fit p entry) {R : Place → State → Type 0} {W : Verdict → ℕ → State → Type 0} (K : Keeps p entry R W) where
  -- The scan has come to vertex k with at most n turns left.
  pub record Reached (n k : ℕ) (s : State) : Type 0 where
    pub steady : Steady p entry s
    pub scanned : Scanning p n k s
    pub kept : R (scanning n k) s

  look_claim : {P : State → Type 0} (place : Place) (s : State) → Steady p entry s → R place s → (Unsettled p s → P s) → Claim P W (look p s)
  unfolding look look_at
  look_claim place s h r next =
      test-claim (eqb (left_now p s) (right_now p s)) (λ e. stops (K.same-literal place s h r (eqb-true (left_now p s) (right_now p s) e))) λ e.
      test-claim (eqb (left_now p s) (negate (right_now p s)))
      (λ f. stops (K.inverse-literal place s h r (eqb-true (left_now p s) (negate (right_now p s)) f))) λ f.
      test-claim (have_now? p s)
      (λ g.
      test-claim (same? (literal_function p (left_now p s)) (literal_function p (right_now p s)))
      (λ i.
      stops
      (K.same_function place s h r (eqb-false (left_now p s) (right_now p s) e) (eqb-false (left_now p s) (negate (right_now p s)) f) g i))
      (λ i.
      stops
      (K.other_function place s h r (eqb-false (left_now p s) (right_now p s) e) (eqb-false (left_now p s) (negate (right_now p s)) f) g i)))
      (λ g.
      goes_on
      (next
      (record {
        unequal = eqb-false (left_now p s) (right_now p s) e;
        not_inverse = eqb-false (left_now p s) (negate (right_now p s)) f;
        lacking = g;
      })))

  module _ (n v : ℕ) (s : State) (due : Due p entry n v s) (r : R (scanning n v) s) where
    nonzero : v ≢ 0
    nonzero e = omega (arith, due.made, fit.well_formed.some_first)

    ended_claim : (b : Book) → product_of p v s ≡ done b → Claim (Reached n (suc v)) W (conclude p v s (done b))
    unfolding conclude
    ended_claim b e =
        test-claim (ltb p.limits.size (size (function_of p v)))
        (λ f.
        let h = dropped-steady s b v nonzero (due_alive due) due.steady in
        let k = K.invariant.drops n v b s due e f r in
        look_claim (scanning n (suc v)) (drop_vertex v b s) h k (λ u. record { steady = h; scanned = scanning-dropped due b u; kept = k }))
        (λ f. met f (twin_from p s.stages v 0 (length s.stages)) refl)
      where
        met : ltb p.limits.size (size (function_of p v)) ≡ false → (o : Candidate) → twin_from p s.stages v 0 (length s.stages) ≡ o
            → Claim (Reached n (suc v)) W (look p (meet p v (with_book b s) o))
        met f none i = unfold meet in
            (let h = swept-steady s b v nonzero (due_alive due) due.steady in
            let k = K.invariant.sweeps n v b s due e f i r in
            look_claim (scanning n (suc v)) (swept v (with_book b s)) h k (λ u. record { steady = h; scanned = scanning-swept due b u; kept = k }))
        met f (at w) i =
            let t = twin_at_lem p s.stages v 0 (length s.stages) w i in
            let h = merger_steady fit due w t b in
            let k = K.invariant.merges n v w b s due e f i r in
            look_claim (scanning n (suc v)) (meet p v (with_book b s) (at w)) h k
            (λ u. record { steady = h; scanned = merger_scanning fit due w t b u; kept = k })

    multiply_claim : Claim (Reached n (suc v)) W (multiply p v s)
    unfolding multiply conclude
    multiply_claim = case (product_of p v s) refl
      where
        case : (o : Outcome) → product_of p v s ≡ o → Claim (Reached n (suc v)) W (conclude p v s o)
        case (done b) e = ended_claim b e
        case (short_of_rows b) e = stops (K.lacks-row n v b s due e r)
        case (short_of_steps b) e = stops (K.lacks_step n v b s due e r)

  -- A vertex visited.
  pub visit_claim : (n v : ℕ) (s : State) → v < vertex_count p → Reached n v s → Claim (Reached n (suc v)) W (visit p v s)
  unfolding visit ready?
  visit_claim n v s h c = case (ready? p v s) refl
    where
      case : (b : Bool) → ready? p v s ≡ b → Claim (Reached n (suc v)) W (elim b [ true ↦ multiply p v s | false ↦ on s ])
      case true e =
          let reads = open? (stage_of s.stages (vertex_of (first_word s.rows v))) in
          let reads₂ = open? (stage_of s.stages (vertex_of (second_word s.rows v))) in
          let bares = bare? (stage_of s.stages v) in
          let e₁ = and_left (leb p.first v && bares && reads) reads₂ e in
          let e₂ = and_left (leb p.first v && bares) reads e₁ in
          multiply_claim n v s
          (record {
            steady = c.steady;
            scanning = c.scanned;
            made = leb-true p.first v (and_left (leb p.first v) bares e₂);
            is-bare = and_right (leb p.first v) bares e₂;
            first-open = and_right (leb p.first v && bares) reads e₁;
            second-open = and_right (leb p.first v && bares && reads) reads₂ e;
          })
          c.kept
      case false e =
          goes_on
          (record { steady = c.steady; scanned = scanning-passed n v s h c.scanned; kept = K.invariant.passes n v s c.steady c.scanned h e c.kept })

  -- A scan to the last vertex.
  pub scan_claim : (n m k : ℕ) (s : State) → k + m ≡ vertex_count p → Reached n k s → Claim (Reached n (vertex_count p)) W (scan_from p k m s)
  unfolding scan_from
  scan_claim n zero k s e c = goes_on (let i : k ≡ vertex_count p = omega arith in subst (λ (j : ℕ). Reached n j s) i c)
  scan_claim n (suc m) k s e c = then-claim (visit_claim n k s (omega arith) c) (λ t h. scan_claim n m (suc k) t (omega arith) h)

  -- A turn.
  pub turn-claim :
      (n v : ℕ) (s : State) → pick_from p 0 s.stages ≡ at v → Reached (suc n) (vertex_count p) s → Claim (Reached n (vertex_count p)) W (open_at p v s)
  unfolding open_at
  turn-claim n v s e c =
      let w = pick_waits p s.stages v e in
      let o = scanning-opened n v s c.steady w c.scanned in
      scan_claim n (length s.stages - suc v) (suc v) (opened_at v s) (omega (arith, o.within, c.steady.staged.long))
      (record { steady = opened-steady s v w c.steady; scanned = o; kept = K.invariant.opens n v s c.steady c.scanned e c.kept })

  -- Where the turns end: at most n are left, and none waits.
  pub record Quiet (s : State) : Type 0 where
    pub turns : ℕ
    pub reached : Reached turns (vertex_count p) s
    pub none-waits : pick_from p 0 s.stages ≡ none

  -- Turns until it ends or none waits.
  pub go_claim : (n : ℕ) (s : State) → Reached n (vertex_count p) s → Claim Quiet W (go_for p n s)
  unfolding go_for
  go_claim zero s c =
      goes_on (record { turns = 0; reached = c; none-waits = no_turns_no_pick p s.stages (omega (arith, c.scanned.budget)) })
  go_claim (suc n) s c = case (pick_from p 0 s.stages) refl (λ t h. go_claim n t h)
    where
      case : (o : Candidate) → pick_from p 0 s.stages ≡ o → ((t : State) → Reached n (vertex_count p) t → Claim Quiet W (go_for p n t))
          → Claim Quiet W (elim o [ at v ↦ and_then (open_at p v s) (go_for p n) | none ↦ on s ])
      case (at v) e next = then-claim (turn-claim n v s e c) next
      case none e next = goes_on (record { turns = suc n; reached = c; none-waits = e })

  -- Inputs have their rows.
  record Given (k : ℕ) (s : State) : Type 0 where
    steady : Steady p entry s
    given : Giving p k s
    kept : R (giving k) s

  inputs_claim : (n k : ℕ) (s : State) → 1 ≤ k → k + n ≡ p.first → Given k s → Claim (Given p.first) W (give_inputs p k n s)
  unfolding give_inputs gone?
  inputs_claim zero k s l e c = goes_on (let i : k ≡ p.first = omega arith in subst (λ (j : ℕ). Given j s) i c)
  inputs_claim (suc n) k s l e c = then-claim (case (input_row p k s) refl) (λ t h. inputs_claim n (suc k) t (omega arith) (omega arith) h)
    where
      case : (o : Outcome) → input_row p k s ≡ o → Claim (Given (suc k)) W (give_row k s o)
      case (done b) f = unfold give_row in
          goes_on
          (record {
            steady = swept-steady s b k (λ i. omega arith) (ap gone? (c.given.later k l (omega arith) (omega arith))) c.steady;
            given = giving-swept s b k c.steady (omega arith) fit.well_formed.first-within c.given;
            kept = K.invariant.gives_row k b s c.steady c.given l (omega arith) f c.kept;
          })
      case (short_of_rows b) f = unfold give_row in stops (K.lacks-input-row k b s c.steady c.given l (omega arith) f c.kept)
      case (short_of_steps b) f = absurd (input-steps p k s b f)

  -- The start.
  pub start_claim : Claim (λ s. Reached (turns_left s.stages) (vertex_count p) s) W (start p entry)
  unfolding start
  start_claim =
      then-claim {P = Given 1}
      (look_claim (giving 1) (normalise p.first (begin p entry)) (begin-steady fit) K.invariant.begins
      (λ u. record { steady = begin-steady fit; given = begin-giving fit; kept = K.invariant.begins })) λ s c.
      then-claim (inputs_claim (p.first - 1) 1 s (omega arith) (omega (arith, fit.well_formed.some_first)) c) λ t d.
      look_claim (giving p.first) t d.steady d.kept
      (λ u.
      record {
        steady = d.steady;
        scanned = giving-scanning t d.steady d.given u;
        kept = K.invariant.starts t d.steady d.given u d.kept;
      })

  -- What each step keeps holds of the answer.
  pub sweep-keeps : W (sweep p entry).verdict (sweep p entry).added (sweep p entry).left
  unfolding sweep go
  sweep-keeps = last (and_then (start p entry) (go p)) (then-claim start_claim (λ s c. go_claim (turns_left s.stages) s c))
    where
      last : (o : Progress) → Claim Quiet W o → W (result_of o).verdict (result_of o).added (result_of o).left
      last (on s) (goes_on q) = unfold result_of in K.rests q.turns s q.reached.steady q.reached.scanned q.none-waits q.reached.kept
      last (ends x k s) (stops h) = unfold result_of in h
