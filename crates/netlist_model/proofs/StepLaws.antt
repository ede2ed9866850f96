-- What one line comes to, case by case, and what the end of a file comes to.
use Prim.Native.Nat.{◌*◌, ◌+◌, ◌<◌, ◌≤◌, ℕ}
use Rattle.netlist_model.proofs.NameLaws.{among-place, place-among}
use Rattle.netlist_model.specs.Check.{Answer, accepted, after_constraint, after_gate, after_header, after_name, after_output, ands_of, below?, check_from, counts_of, due?, due_after, finish, formed?, header?, known?, limited?, line_tests, more?, name_given, refused, suits?, twice?}
use Rattle.netlist_model.specs.Limits.{by_name_edition, by_place_edition, edition_of, max_gates, number_of_edition}
use Rattle.netlist_model.specs.Names.{Among, among?, place_of}
use Rattle.netlist_model.specs.Records.{Line, constraint_line, gate_line, header_line, kind_of, line_with, malformed_line, name_line, output_line}
use Rattle.netlist_model.specs.code.Passing.{known_edition, step_of}
use Rattle.netlist_model.specs.declared.Body.{Body}
use Rattle.netlist_model.specs.declared.Due.TheVariants.{First, Later}
use Rattle.netlist_model.specs.declared.Due.{Due}
use Rattle.netlist_model.specs.declared.edition.Edition.TheVariants.{ByName, ByPlace}
use Rattle.netlist_model.specs.declared.edition.Edition.{Edition}
use Rattle.netlist_model.specs.declared.Operation.TheVariants.{And, Or, Xor}
use Rattle.netlist_model.specs.declared.Operation.{Operation}
use Rattle.netlist_model.specs.declared.Record.TheVariants.{Constraint, Gate, Header, Name, Output}
use Rattle.netlist_model.specs.declared.Record.{Record}
use Rattle.netlist_model.specs.declared.Role.{Role}
use Rattle.table.specs.Limits.{max_inputs, max_outputs}
use Rattle.table.specs.Refusals.{first_refusal}
use Rattle.truth.proofs.Booleans.{and_left, and_right, clash, or_cases, or_left, or_right}
use borrow.Author.Tests.{eq-eqb, eqb-true, le-leb, leb-true, lt-ltb, ltb-false, ltb-true}
use lib.Dec.{eqb, leb, ltb}
use lib.ListN.{length}
use mathlib.Core.Bool.{Bool, ◌&&◌, ◌||◌, cond, false, not, true}
use mathlib.Core.List.{List, [], ◌++◌, ◌∷◌}
use mathlib.Core.Logic.{◌⊎◌, inl, inr, ⊎_elim}
use Rattle.std.specs.Prelude.{None, Option, Some, Result, Ok, Err}
use mathlib.Core.Path.{◌∙◌, ◌≡◌, ap, refl}
use native.Mathlib.Omega.{arith}

-- A refusal at line n, or what follows.
abbrev pub and_then : ℕ → Result Due ℕ → (Due → Answer) → Answer
and_then n (Err k) rest = refused k n
and_then n (Ok due) rest = rest due

-- The lines from line n on: what the first comes to, and then the others.
pub check_step : (n : ℕ) (seen : List (List ℕ)) (due : Due) (l : Line) (ls : List Line)
    → check_from n seen due (l ∷ ls) ≡ and_then n (step_of seen due l) (λ next. check_from (n + 1) (seen ++ name_given l) next ls)
unfolding check_from step_of
check_step n seen due l ls = go (eqb (first_refusal 0 (line_tests seen due l)) 0)
  where
    go : (b : Bool)
        → cond b (check_from (n + 1) (seen ++ name_given l) (due_after due (kind_of l)) ls) (refused (first_refusal 0 (line_tests seen due l)) n)
        ≡ and_then n (cond b (Ok (due_after due (kind_of l))) (Err (first_refusal 0 (line_tests seen due l)))) (λ next. check_from (n + 1) (seen ++ name_given l) next ls)
    go true = refl
    go false = refl

-- A line that is passed.
pub check_next : (n : ℕ) (seen : List (List ℕ)) (due next : Due) (l : Line) (ls : List Line) → step_of seen due l ≡ Ok next
    → check_from n seen due (l ∷ ls) ≡ check_from (n + 1) (seen ++ name_given l) next ls
check_next n seen due next l ls e = check_step n seen due l ls ∙ (rw e refl)

-- A line that is refused.
pub check_refused : (n : ℕ) (seen : List (List ℕ)) (due : Due) (l : Line) (ls : List Line) (k : ℕ) → step_of seen due l ≡ Err k
    → check_from n seen due (l ∷ ls) ≡ refused k n
check_refused n seen due l ls k e = check_step n seen due l ls ∙ (rw e refl)

-- What each line comes to, whatever names are in earlier lines.
module _ (seen : List (List ℕ)) where
  -- A malformed line, whatever is due.
  pub malformed-refused : (due : Due) → step_of seen due malformed_line ≡ Err 2
  unfolding step_of first_refusal formed? header? known? limited? twice?
  malformed-refused (First role) = refl
  malformed-refused (Later b) = refl

  -- A name, a gate, an output or a constraint in line 1.
  pub name-first : (role : Role) (name : List ℕ) → step_of seen (First role) (name_line name) ≡ Err 5
  unfolding step_of first_refusal formed? header? known? limited?
  name-first role name = refl

  pub gate-first : (role : Role) (op : Operation) (p q : ℕ) → step_of seen (First role) (gate_line op p q) ≡ Err 5
  unfolding step_of first_refusal formed? header? known? limited?
  gate-first role op p q = refl

  pub output-first : (role : Role) (r : ℕ) → step_of seen (First role) (output_line r) ≡ Err 5
  unfolding step_of first_refusal formed? header? known? limited?
  output-first role r = refl

  pub constraint-first : (role : Role) (r : ℕ) → step_of seen (First role) (constraint_line r) ≡ Err 5
  unfolding step_of first_refusal formed? header? known? limited?
  constraint-first role r = refl

  -- Line 1 again.
  pub header-again : (b : Body) (e i g o : ℕ) → step_of seen (Later b) (header_line e i g o) ≡ Err 5
  unfolding step_of first_refusal formed? twice?
  header-again b e i g o = refl

-- A later line that is no malformed one, by the tests after that of its layout.
module _ (seen : List (List ℕ)) (b : Body) (l : Line) (r : Record) where
  formed-some : formed? (Some r) ≡ true
  unfolding formed?
  formed-some = elim r as (λ x. formed? (Some x) ≡ true) [ Header e i g o ↦ refl | Name ↦ refl | Gate op p q ↦ refl | Output x ↦ refl | Constraint x ↦ refl ]

  pub later_step : Some r ≡ kind_of l → step_of seen (Later b) l
      ≡ cond {A = Result Due ℕ} (due? b (Some r)) (cond (below? b (Some r)) (cond (twice? seen l) (Err 18) (Ok (due_after (Later b) (Some r)))) (Err 6)) (Err 5)
  unfolding step_of first_refusal
  later_step h = rw (← h, formed-some) (go (due? b (Some r)) (below? b (Some r)) (twice? seen l))
    where
      go : (x y z : Bool)
          → cond {A = Result Due ℕ} (eqb (cond (not x) 5 (cond (not y) 6 (cond z 18 0))) 0) (Ok (due_after (Later b) (Some r))) (Err (cond (not x) 5 (cond (not y) 6 (cond z 18 0))))
          ≡ cond {A = Result Due ℕ} x (cond y (cond z (Err 18) (Ok (due_after (Later b) (Some r)))) (Err 6)) (Err 5)
      go false y z = refl
      go true false z = refl
      go true true true = refl
      go true true false = refl

-- Line 1, by its tests after that of its kind.
pub header_step : (role : Role) (e i g o : ℕ) → step_of [] (First role) (header_line e i g o)
    ≡ cond {A = Result Due ℕ} ((eqb e by_place_edition || eqb e by_name_edition) && suits? role e)
    (cond (leb i max_inputs && leb g max_gates && leb 1 o && leb o max_outputs) (Ok (Later (after_header role e i g o))) (Err 4)) (Err 3)
unfolding step_of first_refusal formed? header? known? limited? due_after
header_step role e i g o =
    go ((eqb e by_place_edition || eqb e by_name_edition) && suits? role e) (leb i max_inputs && leb g max_gates && leb 1 o && leb o max_outputs)
  where
    go : (x y : Bool)
        → cond {A = Result Due ℕ} (eqb (cond (not x) 3 (cond (not y) 4 0)) 0) (Ok (Later (after_header role e i g o))) (Err (cond (not x) 3 (cond (not y) 4 0)))
        ≡ cond {A = Result Due ℕ} x (cond y (Ok (Later (after_header role e i g o))) (Err 4)) (Err 3)
    go false y = refl
    go true false = refl
    go true true = refl

-- Another line in its place.
pub first_other : (role : Role) (r : Record) → ((e i g o : ℕ) → r ≡ Header e i g o → ⊥) → step_of [] (First role) (line_with (Some r) []) ≡ Err 5
first_other role (Header e i g o) h = absurd (h e i g o refl)
first_other role Name h = name-first [] role []
first_other role (Gate op p q) h = gate-first [] role op p q
first_other role (Output r) h = output-first [] role r
first_other role (Constraint r) h = constraint-first [] role r

-- A malformed line, whatever is due.
pub unread-refused : (seen : List (List ℕ)) (due : Due) (l : Line) → None ≡ kind_of l → step_of seen due l ≡ Err 2
unread-refused seen due malformed_line h = malformed-refused seen due
unread-refused seen due (header_line e i g o) h = cc
unread-refused seen due (name_line name) h = cc
unread-refused seen due (gate_line op p q) h = cc
unread-refused seen due (output_line r) h = cc
unread-refused seen due (constraint_line r) h = cc

-- In line 1 the names in earlier lines decide nothing.
pub first_unseen : (role : Role) (l : Line) → step_of [] (First role) l ≡ step_of [] (First role) (line_with (kind_of l) [])
unfolding step_of first_refusal formed? header? known? limited? due_after
first_unseen role (header_line e i g o) = refl
first_unseen role (name_line name) = refl
first_unseen role (gate_line op p q) = refl
first_unseen role (output_line r) = refl
first_unseen role (constraint_line r) = refl
first_unseen role malformed_line = refl

-- A line that is no name's repeats none.
pub not_twice : (seen : List (List ℕ)) (l : Line) → (kind_of l ≡ Some Name → ⊥) → twice? seen l ≡ false
unfolding twice?
not_twice seen (name_line name) h = absurd (h refl)
not_twice seen (header_line e i g o) h = refl
not_twice seen (gate_line op p q) h = refl
not_twice seen (output_line r) h = refl
not_twice seen (constraint_line r) h = refl
not_twice seen malformed_line h = refl

-- In the lines of gates, outputs and constraints, the names in earlier lines decide nothing.
module _ (seen : List (List ℕ)) (b : Body) where
  -- In a gate's.
  pub gate_unseen : (op : Operation) (p q : ℕ) → step_of seen (Later b) (gate_line op p q) ≡ step_of [] (Later b) (gate_line op p q)
  unfolding step_of first_refusal formed? twice? due_after
  gate_unseen op p q = refl

  -- In an output's.
  pub output_unseen : (r : ℕ) → step_of seen (Later b) (output_line r) ≡ step_of [] (Later b) (output_line r)
  unfolding step_of first_refusal formed? twice? due_after
  output_unseen r = refl

  -- In a constraint's.
  pub constraint_unseen : (r : ℕ) → step_of seen (Later b) (constraint_line r) ≡ step_of [] (Later b) (constraint_line r)
  unfolding step_of first_refusal formed? twice? due_after
  constraint_unseen r = refl

-- No record, or one that is no name's.
abbrev pub NoName : Option Record → Type 0
NoName (Some (Header e i g o)) = Unit
NoName (Some Name) = ⊥
NoName (Some (Gate op p q)) = Unit
NoName (Some (Output r)) = Unit
NoName (Some (Constraint r)) = Unit
NoName None = Unit

-- A line that is no name's is told by its record.
pub line_told : (l : Line) {r : Option Record} → kind_of l ≡ r → NoName r → l ≡ line_with r []
line_told (header_line e i g o) {r} h k = ap (λ (x : Option Record). line_with x []) h
line_told (name_line name) {r} h k = absurd (rw (← h) at k)
line_told (gate_line op p q) {r} h k = ap (λ (x : Option Record). line_with x []) h
line_told (output_line x) {r} h k = ap (λ (x : Option Record). line_with x []) h
line_told (constraint_line x) {r} h k = ap (λ (x : Option Record). line_with x []) h
line_told malformed_line {r} h k = ap (λ (x : Option Record). line_with x []) h

-- The counts of line 1 within their limits.
pub record Limited (i g o : ℕ) : Type 0 where
  pub inputs : i ≤ max_inputs
  pub gates : g ≤ max_gates
  pub some : 1 ≤ o
  pub outputs : o ≤ max_outputs

-- An edition that a file of a pair may have: 1 or 2, and in the second file that of the first.
pub record Known (role : Role) (e : ℕ) : Type 0 where
  pub either : (e ≡ by_place_edition) ⊎ (e ≡ by_name_edition)
  pub same : suits? role e ≡ true

-- The edition of such a number has that number, and each edition is that of its number.
pub edition-kept : {e : ℕ} → (e ≡ by_place_edition) ⊎ (e ≡ by_name_edition) → number_of_edition (edition_of e) ≡ e
edition-kept h = ⊎_elim (λ k. rw k refl) (λ k. rw k refl) h

pub edition_numbered : (x : Edition) → edition_of (number_of_edition x) ≡ x
edition_numbered ByPlace = refl
edition_numbered ByName = refl

-- The test of it.
module _ (role : Role) (e : ℕ) where
  pub known_is : ((eqb e by_place_edition || eqb e by_name_edition) && suits? role e) ≡ true → Known role e
  known_is h =
      record {
        either =
            ⊎_elim (λ k. inl (eqb-true e by_place_edition k)) (λ k. inr (eqb-true e by_name_edition k))
            (or_cases (eqb e by_place_edition) (eqb e by_name_edition) (and_left (eqb e by_place_edition || eqb e by_name_edition) (suits? role e) h));
        same = and_right (eqb e by_place_edition || eqb e by_name_edition) (suits? role e) h;
      }

  pub unknown-is : ((eqb e by_place_edition || eqb e by_name_edition) && suits? role e) ≡ false → Known role e → ⊥
  unknown-is h k =
      let one : (eqb e by_place_edition || eqb e by_name_edition) ≡ true =
      ⊎_elim (λ l. or_left (eqb e by_place_edition) (eqb e by_name_edition) (eq-eqb e by_place_edition l)) (λ l. or_right (eqb e by_place_edition) (eqb e by_name_edition) (eq-eqb e by_name_edition l))
      k.either in
      clash (rw one k.same) h

-- So it is in a line 1 that passes test 3.
pub known-kept : (role : Role) (e i g o : ℕ) → known? role (Some (Header e i g o)) ≡ true → number_of_edition (edition_of e) ≡ e
unfolding known?
known-kept role e i g o h = edition-kept (known_is role e h).either

-- The edition that a number is read as, or none.
pub known_told : (role : Role) (e : ℕ) {x : Edition} → known_edition role e ≡ Some x
    → (((eqb e by_place_edition || eqb e by_name_edition) && suits? role e) ≡ true) × (edition_of e ≡ x) × (number_of_edition x ≡ e)
known_told role e {x} h = go ((eqb e by_place_edition || eqb e by_name_edition) && suits? role e) refl h
  where
    go : (t : Bool) → ((eqb e by_place_edition || eqb e by_name_edition) && suits? role e) ≡ t → cond t (Some (edition_of e)) None ≡ Some x
        → (((eqb e by_place_edition || eqb e by_name_edition) && suits? role e) ≡ true) × (edition_of e ≡ x) × (number_of_edition x ≡ e)
    go true k f = let one : edition_of e ≡ x = cc in (k, one, rw one at (edition-kept (known_is role e k).either))
    go false k f = cc

pub unknown_told : (role : Role) (e : ℕ) → known_edition role e ≡ None → ((eqb e by_place_edition || eqb e by_name_edition) && suits? role e) ≡ false
unknown_told role e h = go ((eqb e by_place_edition || eqb e by_name_edition) && suits? role e) h
  where
    go : (t : Bool) → cond t (Some (edition_of e)) None ≡ None → t ≡ false
    go true f = cc
    go false f = refl

module _ (seen : List (List ℕ)) (role : Role) (e i g o : ℕ) where
  -- What holds of each outcome of line 1, where it is reached, holds of the step.
  pub header-cases :
      (P : Result Due ℕ → Type 0)
      → ((Known role e → ⊥) → P (Err 3))
      → (Known role e → (Limited i g o → ⊥) → P (Err 4))
      → (Known role e → Limited i g o → P (Ok (Later (after_header role e i g o))))
      → P (step_of seen (First role) (header_line e i g o))
  unfolding step_of first_refusal formed? header? known? limited? due_after
  header-cases P other beyond next = go ((eqb e by_place_edition || eqb e by_name_edition) && suits? role e) (a && b && c && d) refl refl
    where
      a : Bool
      a = leb i max_inputs

      b : Bool
      b = leb g max_gates

      c : Bool
      c = leb 1 o

      d : Bool
      d = leb o max_outputs

      go : (x y : Bool) → ((eqb e by_place_edition || eqb e by_name_edition) && suits? role e) ≡ x → (a && b && c && d) ≡ y
          → P (cond (eqb (cond (not x) 3 (cond (not y) 4 0)) 0) (Ok (Later (after_header role e i g o))) (Err (cond (not x) 3 (cond (not y) 4 0))))
      go false y h k = other (unknown-is role e h)
      go true false h k =
          beyond (known_is role e h)
          (λ l.
          clash (rw (le-leb i max_inputs l.inputs, le-leb g max_gates l.gates, le-leb 1 o l.some) (le-leb o max_outputs l.outputs)) k)
      go true true h k =
          let abc = and_left (a && b && c) d k in
          let ab = and_left (a && b) c abc in
          next (known_is role e h)
          (record {
            inputs = leb-true i max_inputs (and_left a b ab);
            gates = leb-true g max_gates (and_right a b ab);
            some = leb-true 1 o (and_right (a && b) c abc);
            outputs = leb-true o max_outputs (and_right (a && b && c) d k);
          })

  -- Another edition.
  pub header-edition : (Known role e → ⊥) → step_of seen (First role) (header_line e i g o) ≡ Err 3
  header-edition h = header-cases (λ s. s ≡ Err 3) (λ k. refl) (λ k l. absurd (h k)) (λ k l. absurd (h k))

  -- A good line 1.
  pub header-next : Known role e → Limited i g o → step_of seen (First role) (header_line e i g o) ≡ Ok (Later (after_header role e i g o))
  header-next h k = header-cases (λ s. s ≡ Ok (Later (after_header role e i g o))) (λ l. absurd (l h)) (λ l m. absurd (m k)) (λ l m. refl)

module _ (seen : List (List ℕ)) (b : Body) (name : List ℕ) where
  -- The same of a name's line.
  pub name-cases :
      (P : Result Due ℕ → Type 0)
      → (b.names ≤ b.name → P (Err 5))
      → (b.name < b.names → Among name seen → P (Err 18))
      → (b.name < b.names → (Among name seen → ⊥) → P (Ok (Later (after_name b))))
      → P (step_of seen (Later b) (name_line name))
  unfolding step_of first_refusal formed? twice? due_after
  name-cases P extra again next = go (ltb b.name b.names) (among? name seen) refl refl
    where
      go : (x y : Bool) → ltb b.name b.names ≡ x → among? name seen ≡ y
          → P (cond (eqb (cond (not x) 5 (cond y 18 0)) 0) (Ok (Later (after_name b))) (Err (cond (not x) 5 (cond y 18 0))))
      go false y h k = extra (ltb-false _ _ h)
      go true true h k = again (ltb-true _ _ h) (place-among name seen (ltb-true _ _ k))
      go true false h k = next (ltb-true _ _ h) (λ a. clash (lt-ltb (place_of name seen) (length seen) (among-place a)) k)

  -- A name where none is due.
  pub name_extra : b.names ≤ b.name → step_of seen (Later b) (name_line name) ≡ Err 5
  name_extra h = name-cases (λ s. s ≡ Err 5) (λ k. refl) (λ k l. absurd (omega arith)) (λ k l. absurd (omega arith))

  -- A good name.
  pub name-next : b.name < b.names → (Among name seen → ⊥) → step_of seen (Later b) (name_line name) ≡ Ok (Later (after_name b))
  name-next h k = name-cases (λ s. s ≡ Ok (Later (after_name b))) (λ l. absurd (omega arith)) (λ l m. absurd (k m)) (λ l m. refl)

-- A gate stands for at most three ANDs.
pub ands-few : (op : Operation) → ands_of op ≤ 3
ands-few And = omega arith
ands-few Or = omega arith
ands-few Xor = omega arith

-- A gate is due where the names are read and gates are left.
pub record GateDue (b : Body) : Type 0 where
  pub names : b.name ≡ b.names
  pub room : b.gate < b.gates

-- Its references are below it.
pub record GateFits (b : Body) (p q : ℕ) : Type 0 where
  pub left : p < 2 * (1 + b.inputs + b.gate)
  pub right : q < 2 * (1 + b.inputs + b.gate)

module _ (seen : List (List ℕ)) (b : Body) (op : Operation) (p q : ℕ) where
  -- The same of a gate line.
  pub gate-cases :
      (P : Result Due ℕ → Type 0)
      → ((GateDue b → ⊥) → P (Err 5))
      → (GateDue b → (GateFits b p q → ⊥) → P (Err 6))
      → (GateDue b → GateFits b p q → P (Ok (Later (after_gate op b))))
      → P (step_of seen (Later b) (gate_line op p q))
  unfolding step_of first_refusal formed? twice? due_after
  gate-cases P extra beyond next = go (named && more) (ltb p n && ltb q n) refl refl
    where
      n : ℕ
      n = 2 * (1 + b.inputs + b.gate)

      named : Bool
      named = eqb b.name b.names

      more : Bool
      more = ltb b.gate b.gates

      due : (named && more) ≡ true → GateDue b
      due h = record { names = eqb-true _ _ (and_left named more h); room = ltb-true _ _ (and_right named more h) }

      go : (x y : Bool) → (named && more) ≡ x → (ltb p n && ltb q n) ≡ y
          → P (cond (eqb (cond (not x) 5 (cond (not y) 6 0)) 0) (Ok (Later (after_gate op b))) (Err (cond (not x) 5 (cond (not y) 6 0))))
      go false y h k = extra (λ f. clash (rw (eq-eqb _ _ f.names) (lt-ltb _ _ f.room)) h)
      go true false h k = beyond (due h) (λ f. clash (rw (lt-ltb p n f.left) (lt-ltb q n f.right)) k)
      go true true h k =
          next (due h) (record { left = ltb-true p n (and_left (ltb p n) (ltb q n) k); right = ltb-true q n (and_right (ltb p n) (ltb q n) k) })

  -- A gate where none is due.
  pub gate_extra : (GateDue b → ⊥) → step_of seen (Later b) (gate_line op p q) ≡ Err 5
  gate_extra h = gate-cases (λ s. s ≡ Err 5) (λ k. refl) (λ k l. absurd (h k)) (λ k l. absurd (h k))

  -- A good gate.
  pub gate-next : GateDue b → GateFits b p q → step_of seen (Later b) (gate_line op p q) ≡ Ok (Later (after_gate op b))
  gate-next h k = gate-cases (λ s. s ≡ Ok (Later (after_gate op b))) (λ l. absurd (l h)) (λ l m. absurd (m k)) (λ l m. refl)

-- What a line with one reference comes to: 5 where it is not due, 6 where the reference is not below a bound, else what is due next.
pub record ReferenceLine (D : Type 0) (n r : ℕ) (due : Due) (s : Result Due ℕ) : Type 1 where
  pub cases : (P : Result Due ℕ → Type 0) → ((D → ⊥) → P (Err 5)) → (D → n ≤ r → P (Err 6)) → (D → r < n → P (Ok due)) → P s

-- So it is by its two tests, where the first says whether it is due.
reference_line : {D : Type 0} (n r : ℕ) (due : Due) (x : Bool) → (x ≡ true → D) → (D → x ≡ true)
    → ReferenceLine D n r due
    (cond (eqb (cond (not x) 5 (cond (not (ltb r n)) 6 0)) 0) (Ok due) (Err (cond (not x) 5 (cond (not (ltb r n)) 6 0))))
reference_line {D} n r due x holds told = record { cases = λ P extra beyond next. go P extra beyond next x (ltb r n) refl refl }
  where
    go : (P : Result Due ℕ → Type 0) → ((D → ⊥) → P (Err 5)) → (D → n ≤ r → P (Err 6)) → (D → r < n → P (Ok due)) → (y z : Bool) → x ≡ y → ltb r n ≡ z
        → P (cond (eqb (cond (not y) 5 (cond (not z) 6 0)) 0) (Ok due) (Err (cond (not y) 5 (cond (not z) 6 0))))
    go P extra beyond next false z h k = extra (λ d. clash (told d) h)
    go P extra beyond next true false h k = beyond (holds h) (ltb-false _ _ k)
    go P extra beyond next true true h k = next (holds h) (ltb-true _ _ k)

module _ {D : Type 0} {n r : ℕ} {due : Due} {s : Result Due ℕ} (l : ReferenceLine D n r due s) where
  -- One where none is due.
  pub reference_extra : (D → ⊥) → s ≡ Err 5
  reference_extra h = l.cases (λ x. x ≡ Err 5) (λ k. refl) (λ k m. absurd (h k)) (λ k m. absurd (h k))

  -- A good line.
  pub reference-next : D → r < n → s ≡ Ok due
  reference-next h k = l.cases (λ x. x ≡ Ok due) (λ m. absurd (m h)) (λ m o. absurd (omega arith)) (λ m o. refl)

-- An output is due where the names and gates are read and outputs are left.
pub record OutputDue (b : Body) : Type 0 where
  pub names : b.name ≡ b.names
  pub gates : b.gate ≡ b.gates
  pub room : b.output < b.outputs

-- An output's line.
pub output_step : (seen : List (List ℕ)) (b : Body) (r : ℕ)
    → ReferenceLine (OutputDue b) (2 * (1 + b.inputs + b.gates)) r (Later (after_output b)) (step_of seen (Later b) (output_line r))
unfolding step_of first_refusal formed? twice? due_after
output_step seen b r =
    reference_line (2 * (1 + b.inputs + b.gates)) r (Later (after_output b)) (named && drawn && more) due
    (λ f. rw (eq-eqb _ _ f.names, eq-eqb _ _ f.gates) (lt-ltb _ _ f.room))
  where
    named : Bool
    named = eqb b.name b.names

    drawn : Bool
    drawn = eqb b.gate b.gates

    more : Bool
    more = ltb b.output b.outputs

    due : (named && drawn && more) ≡ true → OutputDue b
    due h =
        let both = and_left (named && drawn) more h in
        record {
          names = eqb-true _ _ (and_left named drawn both);
          gates = eqb-true _ _ (and_right named drawn both);
          room = ltb-true _ _ (and_right (named && drawn) more h);
        }

-- A constraint is due where the names, gates and outputs are read and one may come.
pub record ConstraintDue (b : Body) : Type 0 where
  pub names : b.name ≡ b.names
  pub gates : b.gate ≡ b.gates
  pub outputs : b.output ≡ b.outputs
  pub room : b.constraint < b.constraints

-- A constraint's line.
pub constraint_step : (seen : List (List ℕ)) (b : Body) (r : ℕ)
    → ReferenceLine (ConstraintDue b) (2 * (1 + b.inputs + b.gates)) r (Later (after_constraint r b)) (step_of seen (Later b) (constraint_line r))
unfolding step_of first_refusal formed? twice? due_after
constraint_step seen b r =
    reference_line (2 * (1 + b.inputs + b.gates)) r (Later (after_constraint r b)) (drawn && all && more) due
    (λ f. rw (eq-eqb _ _ f.names, eq-eqb _ _ f.gates, eq-eqb _ _ f.outputs) (lt-ltb _ _ f.room))
  where
    drawn : Bool
    drawn = eqb b.name b.names && eqb b.gate b.gates

    all : Bool
    all = eqb b.output b.outputs

    more : Bool
    more = ltb b.constraint b.constraints

    due : (drawn && all && more) ≡ true → ConstraintDue b
    due h =
        let three = and_left (drawn && all) more h in
        let both = and_left drawn all three in
        record {
          names = eqb-true _ _ (and_left (eqb b.name b.names) _ both);
          gates = eqb-true _ _ (and_right (eqb b.name b.names) _ both);
          outputs = eqb-true _ _ (and_right drawn all three);
          room = ltb-true _ _ (and_right (drawn && all) more h);
        }

-- All that was due was there.
pub record Done (b : Body) : Type 0 where
  pub names : b.name ≡ b.names
  pub gates : b.gate ≡ b.gates
  pub outputs : b.output ≡ b.outputs

-- The end, by its test.
pub finish_step : (n : ℕ) (b : Body) → finish n (Later b)
    ≡ cond (eqb b.name b.names && eqb b.gate b.gates && eqb b.output b.outputs) (accepted (counts_of (Later b))) (refused 5 n)
unfolding finish first_refusal more?
finish_step n b = go (eqb b.name b.names && eqb b.gate b.gates && eqb b.output b.outputs)
  where
    go : (x : Bool) → cond (eqb (cond (not x) 5 0) 0) (accepted (counts_of (Later b))) (refused (cond (not x) 5 0) n) ≡ cond x (accepted (counts_of (Later b))) (refused 5 n)
    go true = refl
    go false = refl

pub finish_first : (n : ℕ) (role : Role) → finish n (First role) ≡ refused 5 n
unfolding finish first_refusal more?
finish_first n role = refl

module _ (n : ℕ) (b : Body) where
  -- The same of the end.
  pub finish-cases : (P : Answer → Type 0) → ((Done b → ⊥) → P (refused 5 n)) → (Done b → P (accepted (counts_of (Later b)))) → P (finish n (Later b))
  unfolding finish first_refusal more?
  finish-cases P missing all = go (names && gates && outputs) refl
    where
      names : Bool
      names = eqb b.name b.names

      gates : Bool
      gates = eqb b.gate b.gates

      outputs : Bool
      outputs = eqb b.output b.outputs

      go : (x : Bool) → (names && gates && outputs) ≡ x
          → P (cond (eqb (cond (not x) 5 0) 0) (accepted (counts_of (Later b))) (refused (cond (not x) 5 0) n))
      go true h =
          let both = and_left (names && gates) outputs h in
          all
          (record {
            names = eqb-true _ _ (and_left names gates both);
            gates = eqb-true _ _ (and_right names gates both);
            outputs = eqb-true _ _ (and_right (names && gates) outputs h);
          })
      go false h = missing (λ d. clash (rw (eq-eqb _ _ d.names, eq-eqb _ _ d.gates) (eq-eqb _ _ d.outputs)) h)

  -- A line is missing.
  pub finish_missing : (Done b → ⊥) → finish n (Later b) ≡ refused 5 n
  finish_missing h = finish-cases (λ s. s ≡ refused 5 n) (λ k. refl) (λ k. absurd (h k))

  -- None is.
  pub finish-all : Done b → finish n (Later b) ≡ accepted (counts_of (Later b))
  finish-all h = finish-cases (λ s. s ≡ accepted (counts_of (Later b))) (λ k. absurd (k h)) (λ k. refl)
