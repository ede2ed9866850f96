-- The check of lines: a netlist within its limits is accepted, and what is accepted is the lines of such a netlist.
use Prim.Native.Nat.{◌*◌, ◌+◌, ◌-◌, ◌<◌, ◌≤◌, suc, ℕ}
use Rattle.netlist_model.proofs.FileLaws.{Legible}
use Rattle.netlist_model.proofs.FileLaws as file
use Rattle.netlist_model.proofs.NameLaws.{count-few, name-is}
use Rattle.netlist_model.proofs.RecordLaws as RecordLaws
use Rattle.netlist_model.proofs.RecordLaws.{Spelled, named}
use Rattle.netlist_model.proofs.StepLaws.{ConstraintDue, GateDue, GateFits, Known, Limited, OutputDue, and_then, check_next, check_refused, check_step, constraint-first, constraint_step, edition-kept, finish-all, finish-cases, gate-cases, gate-first, gate-next, header-again, header-cases, header-next, malformed-refused, name-cases, name-first, name-next, output-first, output_step, reference_extra, reference-next}
use Rattle.netlist_model.specs.code.Accepted.{Suits, counts_in}
use Rattle.netlist_model.specs.Check.{Counts, accepted, after_constraint, after_gate, after_header, after_name, after_output, ands_of, check_from, constraints_due, finish, more?, refused, suits?}
use Rattle.netlist_model.specs.Limits.{edition_of, number_of_edition}
use Rattle.netlist_model.specs.Meaning.{and_count}
use Rattle.netlist_model.specs.Names as names
use Rattle.netlist_model.specs.Names.{Among, IsName, NewNames, name_count}
use Rattle.netlist_model.specs.Netlist as netlist
use Rattle.netlist_model.specs.Netlist.{AllBelow, Downward, Gate, Netlist, Within, body_lines, constraint_reference, gate_line_of, header_line_of, netlist_lines}
use Rattle.netlist_model.specs.Records.{Line, constraint_line, gate_line, header_line, malformed_line, name_line, output_line}
use Rattle.netlist_model.specs.declared.Body.{Body}
use Rattle.netlist_model.specs.declared.Due.TheVariants.{First, Later}
use Rattle.netlist_model.specs.declared.edition.Edition.{Edition}
use Rattle.netlist_model.specs.declared.Operation.{Operation}
use Rattle.netlist_model.specs.declared.Role.TheVariants as role
use Rattle.netlist_model.specs.declared.Role.TheVariants.{Second}
use Rattle.netlist_model.specs.declared.Role.{Role}
use Rattle.table.specs.Refusals.{first_refusal}
use borrow.Author.Tests.{eq-eqb, eqb-true}
use lib.ListN.{get_or, length}
use mathlib.Core.Bool.{true}
use mathlib.Core.List.{List, [], ◌++◌, ◌∷◌, append_assoc, append-nil, map}
use mathlib.Core.Logic.{⊎_elim}
use mathlib.Core.Path.{◌∙◌, ◌≡◌, ap, refl, sym}
use native.Mathlib.Omega.{arith}

-- The names that are due in a file within its limits are there.
pub names-due : {d : Netlist} → Within d → length d.names ≡ name_count d.edition d.inputs
unfolding name_count
names-due {d} w =
    ⊎_elim (λ h. ap length (w.by_place h) ∙ sym (ap (λ (e : ℕ). name_count e d.inputs) h))
    (λ h. w.by_name h ∙ sym (ap (λ (e : ℕ). name_count e d.inputs) h)) w.edition

pub names-at_most : {d : Netlist} → Within d → length d.names ≤ d.inputs
names-at_most {d} w = omega (arith, names-due w, count-few d.edition d.inputs)

-- The reference of the constraint is below twice the number of vertices, also where no line gives it.
pub constraint_reference-below : {d : Netlist} → Within d → constraint_reference d < 2 * (1 + d.inputs + length d.gates)
constraint_reference-below {d} w = go w.constraint-below
  where
    go : {rs : List ℕ} → AllBelow (2 * (1 + d.inputs + length d.gates)) rs → get_or rs 0 1 < 2 * (1 + d.inputs + length d.gates)
    go netlist.AllBelow.none = omega arith
    go (netlist.AllBelow.next l b) = l

none_left : {A : Type 0} (xs : List A) (k : ℕ) → k + length xs ≡ k → xs ≡ []
none_left [] k h = refl
none_left (x ∷ xs) k h = absurd (omega arith)

-- The test of a second file's edition, and how many constraints a file of a role has.
suits-told : (role : Role) (d : Netlist) → Suits role d → suits? role d.edition ≡ true
suits-told role.First d h = refl
suits-told (Second f) d h = eq-eqb d.edition f h.edition

constraints-few : (role : Role) {d : Netlist} → Within d → Suits role d → length d.constraints ≤ constraints_due role
constraints-few role.First w h = omega (arith, w.constraints)
constraints-few (Second f) w h = omega (arith, ap length h.constraints)

suits : (role : Role) (d : Netlist) → suits? role d.edition ≡ true → length d.constraints ≤ constraints_due role → Suits role d
suits role.First d h l = tt
suits (Second f) d h l = record { edition = eqb-true d.edition f h; constraints = none_left d.constraints 0 (omega arith) }

-- At most one may come.
pub due-few : (role : Role) → constraints_due role ≤ 1
due-few role.First = omega arith
due-few (Second f) = omega arith

-- What is due after line 1, where m names are due and c constraints may come.
module _ (e : Edition) (i m g o c : ℕ) where
  abbrev body : ℕ → ℕ → ℕ → ℕ → ℕ → ℕ → Body
  body l k j t a r =
      record {
        edition = e;
        inputs = i;
        names = m;
        gates = g;
        outputs = o;
        constraints = c;
        name = l;
        gate = k;
        output = j;
        constraint = t;
        ands = a;
        reference = r;
      }

  -- The names that are left are passed.
  names-passed :
      (n l : ℕ) (ls : List Line) {seen ns : List (List ℕ)} → NewNames seen ns → l + length ns ≡ m
      → check_from n seen (Later (body l 0 0 0 0 1)) (map name_line ns ++ ls) ≡ check_from (n + length ns) (seen ++ ns) (Later (body m 0 0 0 0 1)) ls
  names-passed n l ls (names.NewNames.none {seen = seen}) h =
      let x : l ≡ m = omega arith in
      let y : n + 0 ≡ n = omega arith in
      rw (x, y, append-nil seen) refl
  names-passed n l ls (names.NewNames.next {seen = seen} {name = x} {names = ns} is new more) h =
      let y : n + suc (length ns) ≡ n + 1 + length ns = omega arith in
      check_next n seen (Later (body l 0 0 0 0 1)) (Later (body (l + 1) 0 0 0 0 1)) (name_line x) (map name_line ns ++ ls)
      (name-next seen (body l 0 0 0 0 1) x (omega arith) new)
      ∙ rw (y, ← append_assoc seen (x ∷ []) ns) (names-passed (n + 1) (l + 1) ls more (omega arith))

  -- So are the gates.
  gates-passed :
      (n : ℕ) (seen : List (List ℕ)) (k a : ℕ) (ls : List Line) {v : ℕ} {gs : List Gate} → Downward v gs → v ≡ 1 + i + k → k + length gs ≡ g
      → check_from n seen (Later (body m k 0 0 a 1)) (map gate_line_of gs ++ ls) ≡ check_from (n + length gs) seen (Later (body m g 0 0 (a + and_count gs) 1)) ls
  unfolding and_count
  gates-passed n seen k a ls netlist.Downward.none z h =
      let x : k ≡ g = omega arith in
      let y : n + 0 ≡ n = omega arith in
      let w : a + 0 ≡ a = omega arith in
      rw (x, y, w) refl
  gates-passed n seen k a ls (netlist.Downward.gate {g = x} {gs = gs} p q d) z h =
      let y : n + suc (length gs) ≡ n + 1 + length gs = omega arith in
      let w : a + (ands_of x.op + and_count gs) ≡ a + ands_of x.op + and_count gs = omega arith in
      check_next n seen (Later (body m k 0 0 a 1)) (Later (body m (k + 1) 0 0 (a + ands_of x.op) 1)) (gate_line_of x) (map gate_line_of gs ++ ls)
      (gate-next seen (body m k 0 0 a 1) x.op x.p x.q (record { names = refl; room = omega arith }) (record { left = omega arith; right = omega arith }))
      ∙ rw (append-nil seen, y, w) (gates-passed (n + 1) seen (k + 1) (a + ands_of x.op) ls d (omega arith) (omega arith))

  -- And the outputs.
  outputs-passed :
      (n : ℕ) (seen : List (List ℕ)) (j a : ℕ) (ls : List Line) {os : List ℕ} → AllBelow (2 * (1 + i + g)) os → j + length os ≡ o
      → check_from n seen (Later (body m g j 0 a 1)) (map output_line os ++ ls) ≡ check_from (n + length os) seen (Later (body m g o 0 a 1)) ls
  outputs-passed n seen j a ls netlist.AllBelow.none h =
      let x : j ≡ o = omega arith in
      let y : n + 0 ≡ n = omega arith in
      rw (x, y) refl
  outputs-passed n seen j a ls (netlist.AllBelow.next {r = r} {rs = rs} l b) h =
      let y : n + suc (length rs) ≡ n + 1 + length rs = omega arith in
      check_next n seen (Later (body m g j 0 a 1)) (Later (body m g (j + 1) 0 a 1)) (output_line r) (map output_line rs ++ ls)
      (reference-next (output_step seen (body m g j 0 a 1) r) (record { names = refl; gates = refl; room = omega arith }) l)
      ∙ rw (append-nil seen, y) (outputs-passed (n + 1) seen (j + 1) a ls b (omega arith))

  -- Then a constraint is accepted where one may come, and the end where there is none.
  constraints-accepted :
      (n : ℕ) (seen : List (List ℕ)) (a : ℕ) {rs : List ℕ} → AllBelow (2 * (1 + i + g)) rs → length rs ≤ 1 → length rs ≤ c
      → check_from n seen (Later (body m g o 0 a 1)) (map constraint_line rs)
      ≡ accepted (record { edition = number_of_edition e; inputs = i; names = m; gates = g; outputs = o; ands = a; reference = get_or rs 0 1 })
  unfolding check_from
  constraints-accepted n seen a netlist.AllBelow.none one h =
      finish-all n (body m g o 0 a 1) (record { names = refl; gates = refl; outputs = refl })
  constraints-accepted n seen a (netlist.AllBelow.next {r = r} l netlist.AllBelow.none) one h =
      check_next n seen (Later (body m g o 0 a 1)) (Later (body m g o 1 a r)) (constraint_line r) []
      (reference-next (constraint_step seen (body m g o 0 a 1) r) (record { names = refl; gates = refl; outputs = refl; room = omega arith }) l)
      ∙ finish-all (n + 1) (body m g o 1 a r) (record { names = refl; gates = refl; outputs = refl })
  constraints-accepted n seen a (netlist.AllBelow.next l (netlist.AllBelow.next k b)) one h = absurd (omega arith)

-- What is due after all outputs of a netlist's file.
abbrev all_outputs : Role → Netlist → Body
all_outputs role d =
    let g = length d.gates in
    let o = length d.outputs in
    body (edition_of d.edition) d.inputs (length d.names) g o (constraints_due role) (length d.names) g o 0 (and_count d.gates) 1

-- The number of the line after them.
abbrev pub line_after : Netlist → ℕ
line_after d = 2 + length d.names + length d.gates + length d.outputs

-- The lines of a netlist within its limits, up to its outputs, are passed where its edition suits.
lines-passed : (role : Role) {d : Netlist} → Within d → suits? role d.edition ≡ true
    → check_from 1 [] (First role) (netlist_lines d)
    ≡ check_from (line_after d) d.names (Later (all_outputs role d)) (map constraint_line d.constraints)
unfolding netlist_lines body_lines
lines-passed role {d} w s =
    let e = d.edition in
    let i = d.inputs in
    let m = length d.names in
    let g = length d.gates in
    let o = length d.outputs in
    let c = constraints_due role in
    let z : 0 + and_count d.gates ≡ and_count d.gates = omega arith in
    let last = map constraint_line d.constraints in
    let outputs = map output_line d.outputs ++ last in
    check_next 1 [] (First role) (Later (after_header role e i g o)) (header_line_of d) (map name_line d.names ++ body_lines d)
    (header-next [] role e i g o (record { either = w.edition; same = s })
    (record { inputs = w.inputs; gates = w.gates; some = w.some; outputs = w.outputs }))
    ∙ (rw (← names-due w) (names-passed (edition_of e) i m g o c 2 0 (body_lines d) w.names (omega arith)))
    ∙ (rw z at (gates-passed (edition_of e) i m g o c (2 + m) d.names 0 0 outputs w.downward (omega arith) (omega arith)))
    ∙ outputs-passed (edition_of e) i m g o c (2 + m + g) d.names 0 (and_count d.gates) last w.below (omega arith)

-- A netlist within its limits is accepted, with its counts, where it suits its file's role.
pub lines-accepted : (role : Role) {d : Netlist} → Within d → Suits role d → check_from 1 [] (First role) (netlist_lines d) ≡ accepted (counts_in d)
lines-accepted role {d} w s =
    lines-passed role w (suits-told role d s)
    ∙ (rw (edition-kept w.edition) at
    (constraints-accepted (edition_of d.edition) d.inputs (length d.names) (length d.gates) (length d.outputs) (constraints_due role)
    (line_after d) d.names (and_count d.gates) w.constraint-below w.constraints (constraints-few role w s)))

-- In a second file a constraint is refused.
pub lines_constrained : (first : ℕ) {d : Netlist} → Within d → d.edition ≡ first → (d.constraints ≡ [] → ⊥)
    → check_from 1 [] (First (Second first)) (netlist_lines d) ≡ refused 5 (line_after d)
lines_constrained first {d} w e some = lines-passed (Second first) w (eq-eqb d.edition first e) ∙ go d.constraints some
  where
    go : (rs : List ℕ) → (rs ≡ [] → ⊥)
        → check_from (line_after d) d.names (Later (all_outputs (Second first) d)) (map constraint_line rs) ≡ refused 5 (line_after d)
    go [] n = absurd (n refl)
    go (r ∷ rs) n =
        check_refused (line_after d) d.names (Later (all_outputs (Second first) d)) (constraint_line r) (map constraint_line rs) 5
        (reference_extra (constraint_step d.names (all_outputs (Second first) d) r) (λ due. omega (arith, due.room)))

-- The names, gates, outputs and constraints that are left, and what the file has with them.
record Left (seen : List (List ℕ)) (b : Body) (ls : List Line) (s : Counts) : Type 0 where
  names : List (List ℕ)
  gates : List Gate
  outputs : List ℕ
  constraints : List ℕ
  lines : ls ≡ map name_line names ++ (map gate_line_of gates ++ (map output_line outputs ++ map constraint_line constraints))
  name_count_lem : b.name + length names ≡ b.names
  gate-count : b.gate + length gates ≡ b.gates
  output-count : b.output + length outputs ≡ b.outputs
  constraint-count : length constraints ≤ b.constraints - b.constraint
  new : NewNames seen names
  downward : Downward (1 + b.inputs + b.gate) gates
  below : AllBelow (2 * (1 + b.inputs + b.gates)) outputs
  constraint-below : AllBelow (2 * (1 + b.inputs + b.gates)) constraints
  sums :
      s
      ≡ record {
        edition = number_of_edition b.edition;
        inputs = b.inputs;
        names = b.names;
        gates = b.gates;
        outputs = b.outputs;
        ands = b.ands + and_count gates;
        reference = get_or constraints 0 b.reference;
      }

-- A refusal accepts nothing.
refusal : {k n : ℕ} {s : Counts} {A : Type 0} → refused k n ≡ accepted s → A
refusal {k} {n} {s} e = let z : ◌≡◌ {A = ℕ} 0 1 = cc in absurd (omega arith)

accepted-is : {s t : Counts} → accepted s ≡ accepted t → t ≡ s
accepted-is e = cc

-- A name that bytes can hold is one.
spelled-name : {l : Line} → Spelled l → (name : List ℕ) → l ≡ name_line name → IsName name
spelled-name (named {s = s} h) name e = let f : s ≡ name = cc in name-is name (rw f at h)
spelled-name (RecordLaws.header he hi hg ho) name e = let z : ◌≡◌ {A = ℕ} 0 1 = cc in absurd (omega arith)
spelled-name (RecordLaws.gate hp hq) name e = let z : ◌≡◌ {A = ℕ} 0 1 = cc in absurd (omega arith)
spelled-name (RecordLaws.output h) name e = let z : ◌≡◌ {A = ℕ} 0 1 = cc in absurd (omega arith)
spelled-name (RecordLaws.constraint h) name e = let z : ◌≡◌ {A = ℕ} 0 1 = cc in absurd (omega arith)

module _ (s : Counts) where
  -- At the end nothing is left.
  left-none : (n : ℕ) (seen : List (List ℕ)) (b : Body) → finish n (Later b) ≡ accepted s → Left seen b [] s
  unfolding and_count
  left-none n seen b =
      finish-cases n b (λ c. c ≡ accepted s → Left seen b [] s) (λ h. refusal)
      (λ h e.
      record {
        names = [];
        gates = [];
        outputs = [];
        constraints = [];
        lines = refl;
        name_count_lem = omega (arith, h.names);
        gate-count = omega (arith, h.gates);
        output-count = omega (arith, h.outputs);
        constraint-count = omega arith;
        new = names.NewNames.none;
        downward = netlist.Downward.none;
        below = netlist.AllBelow.none;
        constraint-below = netlist.AllBelow.none;
        sums = let y : b.ands + 0 ≡ b.ands = omega arith in rw y (accepted-is e);
      })

  module _ (seen : List (List ℕ)) (b : Body) where
    -- A good name, and what is left after it.
    name-left : (name : List ℕ) (ls : List Line) → IsName name → (Among name seen → ⊥) → Left (seen ++ name ∷ []) (after_name b) ls s
        → Left seen b (name_line name ∷ ls) s
    name-left name ls is new t =
        record {
          names = name ∷ t.names;
          gates = t.gates;
          outputs = t.outputs;
          constraints = t.constraints;
          lines = ap (λ (l : List Line). name_line name ∷ l) t.lines;
          name_count_lem = omega (arith, t.name_count_lem);
          gate-count = t.gate-count;
          output-count = t.output-count;
          constraint-count = t.constraint-count;
          new = names.NewNames.next is new t.new;
          downward = t.downward;
          below = t.below;
          constraint-below = t.constraint-below;
          sums = t.sums;
        }

    -- A good gate line, and what is left after it.
    gate-left :
        (op : Operation) (p q : ℕ) (ls : List Line) → GateDue b → GateFits b p q → Left (seen ++ []) (after_gate op b) ls s
        → Left seen b (gate_line op p q ∷ ls) s
    unfolding and_count
    gate-left op p q ls due f t =
        let nil : t.names ≡ [] = none_left t.names b.name (omega (arith, t.name_count_lem, due.names)) in
        let v : 1 + b.inputs + (b.gate + 1) ≡ suc (1 + b.inputs + b.gate) = omega arith in
        let y : b.ands + ands_of op + and_count t.gates ≡ b.ands + (ands_of op + and_count t.gates) = omega arith in
        record {
          names = [];
          gates = record { op = op; p = p; q = q } ∷ t.gates;
          outputs = t.outputs;
          constraints = t.constraints;
          lines = ap (λ (l : List Line). gate_line op p q ∷ l) (rw nil at t.lines);
          name_count_lem = omega (arith, due.names);
          gate-count = omega (arith, t.gate-count);
          output-count = t.output-count;
          constraint-count = t.constraint-count;
          new = names.NewNames.none;
          downward = netlist.Downward.gate f.left f.right (rw v at t.downward);
          below = t.below;
          constraint-below = t.constraint-below;
          sums = rw (← y) t.sums;
        }

    -- A good output line, and what is left after it.
    output-left :
        (r : ℕ) (ls : List Line) → OutputDue b → r < 2 * (1 + b.inputs + b.gates) → Left (seen ++ []) (after_output b) ls s
        → Left seen b (output_line r ∷ ls) s
    unfolding and_count
    output-left r ls due h t =
        let none : t.names ≡ [] = none_left t.names b.name (omega (arith, t.name_count_lem, due.names)) in
        let nil : t.gates ≡ [] = none_left t.gates b.gate (omega (arith, t.gate-count, due.gates)) in
        record {
          names = [];
          gates = [];
          outputs = r ∷ t.outputs;
          constraints = t.constraints;
          lines = ap (λ (l : List Line). output_line r ∷ l) (rw (none, nil) at t.lines);
          name_count_lem = omega (arith, due.names);
          gate-count = omega (arith, due.gates);
          output-count = omega (arith, t.output-count);
          constraint-count = t.constraint-count;
          new = names.NewNames.none;
          downward = netlist.Downward.none;
          below = netlist.AllBelow.next h t.below;
          constraint-below = t.constraint-below;
          sums = rw nil at t.sums;
        }

    -- A good constraint's line, where at most one may come: it is the last.
    constraint-left :
        (r : ℕ) (ls : List Line) → ConstraintDue b → r < 2 * (1 + b.inputs + b.gates) → b.constraints ≤ 1 → Left (seen ++ []) (after_constraint r b) ls s
        → Left seen b (constraint_line r ∷ ls) s
    unfolding and_count
    constraint-left r ls due h one t =
        let none : t.names ≡ [] = none_left t.names b.name (omega (arith, t.name_count_lem, due.names)) in
        let nil : t.gates ≡ [] = none_left t.gates b.gate (omega (arith, t.gate-count, due.gates)) in
        let no : t.outputs ≡ [] = none_left t.outputs b.output (omega (arith, t.output-count, due.outputs)) in
        let last : t.constraints ≡ [] = none_left t.constraints 0 (omega (arith, t.constraint-count)) in
        record {
          names = [];
          gates = [];
          outputs = [];
          constraints = r ∷ [];
          lines = ap (λ (l : List Line). constraint_line r ∷ l) (rw (none, nil, no, last) at t.lines);
          name_count_lem = omega (arith, due.names);
          gate-count = omega (arith, due.gates);
          output-count = omega (arith, due.outputs);
          constraint-count = omega (arith, due.room);
          new = names.NewNames.none;
          downward = netlist.Downward.none;
          below = netlist.AllBelow.none;
          constraint-below = netlist.AllBelow.next h netlist.AllBelow.none;
          sums = rw (nil, last) at t.sums;
        }

  -- What is left where the check of it accepts.
  left : {ls : List Line} → Legible ls → (n : ℕ) (seen : List (List ℕ)) (b : Body) → b.constraints ≤ 1 → check_from n seen (Later b) ls ≡ accepted s
      → Left seen b ls s
  unfolding check_from
  left file.Legible.none n seen b one e = left-none n seen b e
  left (file.Legible.next {l = malformed_line} {ls = ls} f g) n seen b one e =
      refusal (sym (check_refused n seen (Later b) malformed_line ls 2 (malformed-refused seen (Later b))) ∙ e)
  left (file.Legible.next {l = header_line x i g o} {ls = ls} f r) n seen b one e =
      refusal (sym (check_refused n seen (Later b) (header_line x i g o) ls 5 (header-again seen b x i g o)) ∙ e)
  left (file.Legible.next {l = name_line name} {ls = ls} f r) n seen b one e =
      name-cases seen b name
      (λ c. and_then n c (λ next. check_from (n + 1) (seen ++ name ∷ []) next ls) ≡ accepted s → Left seen b (name_line name ∷ ls) s)
      (λ h. refusal) (λ h k. refusal)
      (λ h new g. name-left seen b name ls (spelled-name (f (λ m. let z : ◌≡◌ {A = ℕ} 0 1 = cc in omega arith)) name refl) new
      (left r (n + 1) (seen ++ name ∷ []) (after_name b) one g))
      (sym (check_step n seen (Later b) (name_line name) ls) ∙ e)
  left (file.Legible.next {l = gate_line op p q} {ls = ls} f r) n seen b one e =
      gate-cases seen b op p q
      (λ c. and_then n c (λ next. check_from (n + 1) (seen ++ []) next ls) ≡ accepted s → Left seen b (gate_line op p q ∷ ls) s)
      (λ h. refusal) (λ h k. refusal)
      (λ due fits g. gate-left seen b op p q ls due fits (left r (n + 1) (seen ++ []) (after_gate op b) one g))
      (sym (check_step n seen (Later b) (gate_line op p q) ls) ∙ e)
  left (file.Legible.next {l = output_line x} {ls = ls} f r) n seen b one e =
      (output_step seen b x).cases
      (λ c. and_then n c (λ next. check_from (n + 1) (seen ++ []) next ls) ≡ accepted s → Left seen b (output_line x ∷ ls) s)
      (λ h. refusal) (λ h k. refusal)
      (λ due h g. output-left seen b x ls due h (left r (n + 1) (seen ++ []) (after_output b) one g))
      (sym (check_step n seen (Later b) (output_line x) ls) ∙ e)
  left (file.Legible.next {l = constraint_line x} {ls = ls} f r) n seen b one e =
      (constraint_step seen b x).cases
      (λ c. and_then n c (λ next. check_from (n + 1) (seen ++ []) next ls) ≡ accepted s → Left seen b (constraint_line x ∷ ls) s)
      (λ h. refusal) (λ h k. refusal)
      (λ due h g. constraint-left seen b x ls due h one (left r (n + 1) (seen ++ []) (after_constraint x b) one g))
      (sym (check_step n seen (Later b) (constraint_line x) ls) ∙ e)

  -- The netlist of lines that are accepted.
  pub record Taken (role : Role) (ls : List Line) : Type 0 where
    pub held : Netlist
    pub lines : ls ≡ netlist_lines held
    pub within : Within held
    pub suited : Suits role held
    pub sums : s ≡ counts_in held

  -- A good line 1, and what is left after it.
  header-taken : (role : Role) (e i g o : ℕ) (ls : List Line) → Known role e → Limited i g o → Left [] (after_header role e i g o) ls s
      → Taken role (header_line e i g o ∷ ls)
  unfolding netlist_lines body_lines name_count
  header-taken role e i g o ls k l t =
      let em : name_count e i ≡ length t.names = omega (arith, t.name_count_lem) in
      let eg : g ≡ length t.gates = omega (arith, t.gate-count) in
      let eo : o ≡ length t.outputs = omega (arith, t.output-count) in
      let ea : 0 + and_count t.gates ≡ and_count t.gates = omega arith in
      let ev : 1 + i + 0 ≡ 1 + i = omega arith in
      record {
        held =
            record { edition = e; inputs = i; names = t.names; gates = t.gates; outputs = t.outputs; constraints = t.constraints };
        lines = rw (t.lines, ← eg, ← eo) refl;
        within =
            record {
              edition = k.either;
              by_place = λ h. none_left t.names 0 (omega (arith, sym em ∙ ap (λ (x : ℕ). name_count x i) h));
              by_name = λ h. sym em ∙ ap (λ (x : ℕ). name_count x i) h;
              names = t.new;
              inputs = l.inputs;
              gates = omega (arith, l.gates);
              some = omega (arith, l.some);
              outputs = omega (arith, l.outputs);
              downward = rw ev at t.downward;
              below = rw eg at t.below;
              constraints = omega (arith, t.constraint-count, due-few role);
              constraint-below = rw eg at t.constraint-below;
            };
        suited = suits role _ k.same (omega (arith, t.constraint-count));
        sums = rw (edition-kept k.either, ea, em, eg, eo) at t.sums;
      }

  -- Lines that are accepted are those of a netlist within its limits.
  pub taken : (role : Role) {ls : List Line} → Legible ls → check_from 1 [] (First role) ls ≡ accepted s → Taken role ls
  unfolding check_from finish first_refusal more?
  taken role file.Legible.none e = refusal e
  taken role (file.Legible.next {l = malformed_line} {ls = ls} f r) e =
      refusal (sym (check_refused 1 [] (First role) malformed_line ls 2 (malformed-refused [] (First role))) ∙ e)
  taken role (file.Legible.next {l = name_line name} {ls = ls} f r) e =
      refusal (sym (check_refused 1 [] (First role) (name_line name) ls 5 (name-first [] role name)) ∙ e)
  taken role (file.Legible.next {l = gate_line op p q} {ls = ls} f r) e =
      refusal (sym (check_refused 1 [] (First role) (gate_line op p q) ls 5 (gate-first [] role op p q)) ∙ e)
  taken role (file.Legible.next {l = output_line x} {ls = ls} f r) e =
      refusal (sym (check_refused 1 [] (First role) (output_line x) ls 5 (output-first [] role x)) ∙ e)
  taken role (file.Legible.next {l = constraint_line x} {ls = ls} f r) e =
      refusal (sym (check_refused 1 [] (First role) (constraint_line x) ls 5 (constraint-first [] role x)) ∙ e)
  taken role (file.Legible.next {l = header_line x i g o} {ls = ls} f r) e =
      header-cases [] role x i g o (λ c. and_then 1 c (λ next. check_from (1 + 1) [] next ls) ≡ accepted s → Taken role (header_line x i g o ∷ ls))
      (λ h. refusal) (λ h k. refusal)
      (λ h l g. header-taken role x i _ o ls h l (left r 2 [] (after_header role x i _ o) (due-few role) g))
      (sym (check_step 1 [] (First role) (header_line x i g o) ls) ∙ e)
