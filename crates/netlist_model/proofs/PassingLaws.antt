-- What holds while a file is passed line by line: what is ahead decides the answer.
use Prim.Native.Nat.{◌*◌, ◌+◌, ◌<◌, ◌≤◌, suc, ℕ}
use Rattle.netlist_model.proofs.CheckLaws.{due-few}
use Rattle.netlist_model.proofs.FrontLaws.{front_names_lem, place-rises}
use Rattle.netlist_model.proofs.LineLaws.{formed-ended, lines-ahead, lines_end}
use Rattle.netlist_model.proofs.NameLaws.{count-few}
use Rattle.netlist_model.proofs.StepLaws.{and_then, ands-few, check_step, constraint-first, constraint_step, gate-cases, gate-first, header-again, header-cases, malformed-refused, name-cases, name-first, output-first, output_step}
use Rattle.netlist_model.specs.Check.{after_name, ands_of, check_file, check_from, finish, name_given, refused}
use Rattle.netlist_model.specs.Limits.{max_gates}
use Rattle.netlist_model.specs.code.Passing.{Counted, Held, Names, NamesThere, Passed, SeenThere, StartInside, at_first, at-later, first_line, front_names, line_due, place_after, seen_by, step_of}
use Rattle.netlist_model.specs.Records.{Line, constraint_line, file_lines, gate_line, header_line, kind_of, malformed_line, name_line, output_line}
use Rattle.netlist_model.specs.declared.Body.{Body}
use Rattle.netlist_model.specs.declared.Due.TheVariants.{First, Later}
use Rattle.netlist_model.specs.declared.Due.{Due}
use Rattle.netlist_model.specs.declared.Operation.{Operation}
use Rattle.netlist_model.specs.declared.Role.{Role}
use Rattle.table.specs.Limits.{max_inputs, max_outputs}
use Rattle.text.specs.Split.{up_to}
use lib.ListN.{drop, length, length-append}
use mathlib.Core.List.{List, [], ◌++◌, ◌∷◌, append_assoc, append-nil, map, map-append}
use Rattle.std.specs.Prelude.{None, Result, Ok, Err}
use mathlib.Core.Path.{◌∙◌, ◌≡◌, ap, refl, subst, sym}
use native.Mathlib.Omega.{arith}

-- What is due has a number that any line number's type holds.
pub line_few : {due : Due} → Held due → line_due due ≤ 3 + max_inputs + max_gates + max_outputs
unfolding line_due
line_few at_first = omega arith
line_few (at-later h) = omega (arith, h.names, h.name, h.gates, h.outputs, h.gate, h.output, h.constraints, h.constraint)

-- The lines before a place: none before line 1.
abbrev pub PassedBy : List ℕ → ℕ → Due → Type 0
PassedBy file at (First role) = at ≡ 0
PassedBy file at (Later b) = Passed file at b

-- The names that were passed are those of the first lines.
pub names-passed : {file : List ℕ} {at : ℕ} {b : Body} (p : Passed file at b) → Names file p.names
names-passed {file} {at} p = record { first = p.first; formed = p.formed; rest = p.others ++ file_lines (drop at file); lines = p.lines }

pub names-there : {file : List ℕ} {at : ℕ} {b : Body} → Passed file at b → NamesThere file b.name
names-there p = record { names = p.names; there = names-passed p; counted = p.counted }

pub names-seen : {file : List ℕ} {at : ℕ} {b : Body} (p : Passed file at b) → front_names b.name file ≡ p.names
names-seen {b = b} p = front_names_lem (names-passed p) b.name p.counted

-- What is due after line n, which ends before a place, and the names in the lines before that.
record Kept (file : List ℕ) (at n : ℕ) (seen : List (List ℕ)) (due : Due) : Type 0 where
  held : Held due
  number : line_due due ≡ n + 1
  passed : PassedBy file at due
  seen-names : seen ≡ seen_by file due

-- A refusal is no next line.
refusal : {k : ℕ} {due : Due} {A : Type 0} → ◌≡◌ {A = Result Due ℕ} (Err k) (Ok due) → A
refusal {k} {due} e = let z : ◌≡◌ {A = ℕ} 0 1 = cc in absurd (omega arith)

next-is : {due other : Due} → ◌≡◌ {A = Result Due ℕ} (Ok due) (Ok other) → due ≡ other
next-is e = cc

-- What is due with other numbers of lines read.
abbrev reached : Body → ℕ → ℕ → ℕ → ℕ → ℕ → ℕ → Body
reached b name gate output constraint ands reference =
    record b { name = name; gate = gate; output = output; constraint = constraint; ands = ands; reference = reference }

-- A good line keeps the counts within their limits, and the next line's number is one more.
module _ (file : List ℕ) (at end : ℕ) where
  -- The line is passed.
  abbrev Passes : Line → Type 0
  Passes l = file_lines (drop at file) ≡ l ∷ file_lines (drop end file)

  header-kept : (role : Role) (e i g o : ℕ) {next : Due} → PassedBy file at (First role) → Passes (header_line e i g o)
      → step_of [] (First role) (header_line e i g o) ≡ Ok next → Kept file end 1 [] next
  unfolding line_due front_names
  header-kept role e i g o {next} p lines =
      header-cases [] role e i g o (λ s. s ≡ Ok next → Kept file end 1 [] next) (λ k. refusal) (λ k l. refusal)
      (λ k l f.
      subst (Kept file end 1 []) (next-is f)
      (record {
        held =
            at-later
            (record {
              inputs = l.inputs;
              names = omega (arith, count-few e i, l.inputs);
              gates = l.gates;
              outputs = l.outputs;
              constraints = due-few role;
              name = omega arith;
              gate = omega arith;
              output = omega arith;
              constraint = omega arith;
              ands = omega arith;
            });
        number = refl;
        passed =
            record {
              first = header_line e i g o;
              formed = λ m. let z : ◌≡◌ {A = ℕ} 0 1 = cc in omega arith;
              names = [];
              others = [];
              lines = rw p at lines;
              counted = refl;
              before = λ h. refl;
            };
        seen-names = refl;
      }))

  module _ {b : Body} (h : Counted b) (p : Passed file at b) where
    number : ℕ
    number = 2 + b.name + b.gate + b.output + b.constraint

    -- What was read keeps its limits.
    counted : (name gate output constraint ands reference : ℕ) → name ≤ b.names → gate ≤ b.gates → output ≤ b.outputs → constraint ≤ b.constraints
        → ands ≤ 3 * gate → Counted (reached b name gate output constraint ands reference)
    counted name gate output constraint ands reference l k j t a =
        record {
          inputs = h.inputs;
          names = h.names;
          gates = h.gates;
          outputs = h.outputs;
          constraints = h.constraints;
          name = l;
          gate = k;
          output = j;
          constraint = t;
          ands = a;
        }

    -- A line after the last name is passed.
    other-kept : {l : Line} (gate output constraint ands reference : ℕ) → Passes l → b.name ≡ b.names
        → gate + output + constraint ≡ b.gate + b.output + b.constraint + 1 → gate ≤ b.gates → output ≤ b.outputs → constraint ≤ b.constraints
        → ands ≤ 3 * gate → Kept file end number (front_names b.name file ++ []) (Later (reached b b.name gate output constraint ands reference))
    unfolding line_due number
    other-kept {l} gate output constraint ands reference lines last one g o t a =
        record {
          held = at-later (counted b.name gate output constraint ands reference h.name g o t a);
          number = omega arith;
          passed =
              record {
                first = p.first;
                formed = p.formed;
                names = p.names;
                others = p.others ++ l ∷ [];
                lines =
                    p.lines
                    ∙ ap (λ (ls : List Line). p.first ∷ (map name_line p.names ++ ls))
                    (ap (◌++◌ p.others) lines ∙ sym (append_assoc p.others (l ∷ []) (file_lines (drop end file))));
                counted = p.counted;
                before = λ k. absurd (omega arith);
              };
          seen-names = append-nil (front_names b.name file);
        }

    name-kept : (name : List ℕ) {next : Due} → Passes (name_line name) → step_of (front_names b.name file) (Later b) (name_line name) ≡ Ok next
        → Kept file end number (front_names b.name file ++ name ∷ []) next
    unfolding line_due number
    name-kept name {next} lines =
        name-cases (front_names b.name file) b name
        (λ s. s ≡ Ok next → Kept file end number (front_names b.name file ++ name ∷ []) next) (λ k. refusal) (λ k l. refusal)
        (λ k l f.
        let one : Passed file end (after_name b) =
        record {
          first = p.first;
          formed = p.formed;
          names = p.names ++ name ∷ [];
          others = [];
          lines =
              rw (p.before k, lines) at p.lines
              ∙ ap (λ (ls : List Line). p.first ∷ ls)
              (sym (ap (λ (ls : List Line). ls ++ file_lines (drop end file)) (map-append name_line p.names (name ∷ []))
              ∙ append_assoc (map name_line p.names) (name_line name ∷ []) (file_lines (drop end file))));
          counted = omega (arith, length-append p.names (name ∷ []), p.counted);
          before = λ m. refl;
        } in
        subst (Kept file end number (front_names b.name file ++ name ∷ [])) (next-is f)
        (record {
          held = at-later (counted (b.name + 1) b.gate b.output b.constraint b.ands b.reference (omega arith) h.gate h.output h.constraint h.ands);
          number = omega arith;
          passed = one;
          seen-names = ap (λ (ns : List (List ℕ)). ns ++ name ∷ []) (names-seen p) ∙ sym (names-seen one);
        }))

    gate-kept : (op : Operation) (q r : ℕ) {next : Due} → Passes (gate_line op q r) → step_of (front_names b.name file) (Later b) (gate_line op q r) ≡ Ok next
        → Kept file end number (front_names b.name file ++ []) next
    gate-kept op q r {next} lines =
        gate-cases (front_names b.name file) b op q r
        (λ s. s ≡ Ok next → Kept file end number (front_names b.name file ++ []) next) (λ k. refusal) (λ k l. refusal)
        (λ k l f.
        subst (Kept file end number (front_names b.name file ++ [])) (next-is f)
        (other-kept (b.gate + 1) b.output b.constraint (b.ands + ands_of op) b.reference lines k.names (omega arith) (omega (arith, k.room))
        h.output h.constraint (omega (arith, h.ands, ands-few op))))

    output-kept : (r : ℕ) {next : Due} → Passes (output_line r) → step_of (front_names b.name file) (Later b) (output_line r) ≡ Ok next
        → Kept file end number (front_names b.name file ++ []) next
    output-kept r {next} lines =
        (output_step (front_names b.name file) b r).cases
        (λ s. s ≡ Ok next → Kept file end number (front_names b.name file ++ []) next) (λ k. refusal) (λ k l. refusal)
        (λ k l f.
        subst (Kept file end number (front_names b.name file ++ [])) (next-is f)
        (other-kept b.gate (b.output + 1) b.constraint b.ands b.reference lines k.names (omega arith) h.gate (omega (arith, k.room))
        h.constraint h.ands))

    constraint-kept : (r : ℕ) {next : Due} → Passes (constraint_line r) → step_of (front_names b.name file) (Later b) (constraint_line r) ≡ Ok next
        → Kept file end number (front_names b.name file ++ []) next
    constraint-kept r {next} lines =
        (constraint_step (front_names b.name file) b r).cases
        (λ s. s ≡ Ok next → Kept file end number (front_names b.name file ++ []) next) (λ k. refusal) (λ k l. refusal)
        (λ k l f.
        subst (Kept file end number (front_names b.name file ++ [])) (next-is f)
        (other-kept b.gate b.output (b.constraint + 1) b.ands r lines k.names (omega arith) h.gate h.output (omega (arith, k.room))
        h.ands))

  keeps : {due next : Due} (l : Line) → Held due → PassedBy file at due → Passes l → step_of (seen_by file due) due l ≡ Ok next
      → Kept file end (line_due due) (seen_by file due ++ name_given l) next
  unfolding line_due number
  keeps {due = First role} malformed_line at_first p lines e = refusal (sym (malformed-refused [] (First role)) ∙ e)
  keeps {due = First role} (name_line name) at_first p lines e = refusal (sym (name-first [] role name) ∙ e)
  keeps {due = First role} (gate_line op q r) at_first p lines e = refusal (sym (gate-first [] role op q r) ∙ e)
  keeps {due = First role} (output_line r) at_first p lines e = refusal (sym (output-first [] role r) ∙ e)
  keeps {due = First role} (constraint_line r) at_first p lines e = refusal (sym (constraint-first [] role r) ∙ e)
  keeps {due = First role} (header_line e i g o) at_first p lines f = header-kept role e i g o p lines f
  keeps {due = Later b} malformed_line (at-later h) p lines e = refusal (sym (malformed-refused (front_names b.name file) (Later b)) ∙ e)
  keeps {due = Later b} (header_line e i g o) (at-later h) p lines f = refusal (sym (header-again (front_names b.name file) b e i g o) ∙ f)
  keeps {due = Later b} (name_line name) (at-later h) p lines e = name-kept h p name lines e
  keeps {due = Later b} (gate_line op q r) (at-later h) p lines e = gate-kept h p op q r lines e
  keeps {due = Later b} (output_line r) (at-later h) p lines e = output-kept h p r lines e
  keeps {due = Later b} (constraint_line r) (at-later h) p lines e = constraint-kept h p r lines e

-- The line that starts at a place is due, and from there on the check gives the file's answer.
pub record Ahead (role : Role) (file : List ℕ) (at line : ℕ) (due : Due) : Type 0 where
  pub inside : at ≤ length file
  pub held : Held due
  pub number : line ≡ line_due due
  pub passed : PassedBy file at due
  pub before : ℕ
  pub lines-before : line ≡ suc before
  pub place : at ≡ place_after file before
  pub ahead : check_from line (seen_by file due) due (file_lines (drop at file)) ≡ check_file role file

-- It begins at line 1.
pub ahead_begins : (role : Role) (file : List ℕ) → Ahead role file 0 1 (First role)
unfolding check_file line_due place_after
ahead_begins role file =
    record { inside = omega arith; held = at_first; number = refl; passed = refl; before = 0; lines-before = refl; place = refl; ahead = refl }

module _ {role : Role} {file : List ℕ} {at line : ℕ} {due : Due} (a : Ahead role file at line due) where
  -- The names that were passed are there.
  pub ahead-seen : SeenThere file due
  ahead-seen = go due a.passed
    where
      go : (due : Due) → PassedBy file at due → SeenThere file due
      go (First role) p = tt
      go (Later b) p = names-there p

  -- Where all names were passed, the place at which the gate lines start is in the file.
  pub ahead-start : StartInside file due
  unfolding line_due
  ahead-start = go due a.number
    where
      go : (due : Due) → line ≡ line_due due → StartInside file due
      go (First role) n = tt
      go (Later b) n = λ all. omega (arith, a.inside, a.place, place-rises file (1 + b.names) a.before (omega (arith, a.lines-before)))

  -- No bytes are left.
  pub ahead-ends : length file ≤ at → finish line due ≡ check_file role file
  unfolding check_from
  ahead-ends h = rw (lines_end file at h) at a.ahead

  module _ (more : at < length file) where
    end : ℕ
    end = at + length (up_to 10 (drop at file)) + 1

    unrolled :
        and_then line (step_of (seen_by file due) due (first_line (drop at file)))
        (λ next. check_from (line + 1) (seen_by file due ++ name_given (first_line (drop at file))) next (file_lines (drop end file)))
        ≡ check_file role file
    unfolding end
    unrolled =
        sym (check_step line (seen_by file due) due (first_line (drop at file)) (file_lines (drop end file)))
        ∙ (rw (lines-ahead file at more) at a.ahead)

    -- The line is refused.
    pub ahead_refuses : (k : ℕ) → step_of (seen_by file due) due (first_line (drop at file)) ≡ Err k → refused k line ≡ check_file role file
    ahead_refuses k e = rw e at unrolled

    module _ (next : Due) (e : step_of (seen_by file due) due (first_line (drop at file)) ≡ Ok next) where
      -- A line that is passed has its end byte.
      pub ahead-ended : at + length (up_to 10 (drop at file)) < length file
      ahead-ended = formed-ended file at (λ m. go (first_line (drop at file)) m e)
        where
          go : (l : Line) → kind_of l ≡ None → step_of (seen_by file due) due l ≡ Ok next → ⊥
          go malformed_line m f = refusal (sym (malformed-refused (seen_by file due) due) ∙ f)
          go (header_line x i g o) m f = let z : ◌≡◌ {A = ℕ} 0 1 = cc in omega arith
          go (name_line x) m f = let z : ◌≡◌ {A = ℕ} 0 1 = cc in omega arith
          go (gate_line op p q) m f = let z : ◌≡◌ {A = ℕ} 0 1 = cc in omega arith
          go (output_line r) m f = let z : ◌≡◌ {A = ℕ} 0 1 = cc in omega arith
          go (constraint_line r) m f = let z : ◌≡◌ {A = ℕ} 0 1 = cc in omega arith

      -- The line is passed.
      pub ahead-next : Ahead role file (at + length (up_to 10 (drop at file)) + 1) (line + 1) next
      unfolding end place_after
      ahead-next =
          let k = keeps file at end (first_line (drop at file)) a.held a.passed (lines-ahead file at more) e in
          record {
            inside = omega (arith, ahead-ended);
            held = k.held;
            number = omega (arith, k.number, a.number);
            passed = k.passed;
            before = suc a.before;
            lines-before = omega (arith, a.lines-before);
            place = rw (← a.place) refl;
            ahead = rw (← k.seen-names) (rw e at unrolled);
          }
