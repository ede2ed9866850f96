-- Files and their lines: the bytes of lines are read as those lines, and a file without malformed lines is its lines' bytes.
use Prim.Native.Nat.{◌*◌, ◌+◌, ◌≤◌, ℕ}
use Rattle.netlist_model.proofs.LineLaws.{lines_end, lines_line}
use Rattle.netlist_model.proofs.NameLaws.{name-told}
use Rattle.netlist_model.proofs.RecordLaws.{Spelled, constraint, fields_lack, fields-some, gate, header, kind_with, line_end, named, output, read-written, spelled-read, tab}
use Rattle.netlist_model.specs.Limits.{max_gates}
use Rattle.netlist_model.specs.Names as names
use Rattle.netlist_model.specs.Names.{NewNames}
use Rattle.netlist_model.specs.Netlist as netlist
use Rattle.netlist_model.specs.Netlist.{AllBelow, Downward, Gate, Netlist, Within, body_lines, fields_of, gate_line_of, line_bytes, lines_bytes, netlist_lines}
use Rattle.netlist_model.specs.Records.{Line, constraint_line, fields_record, file_lines, kind_of, line_of, line_with, part_lines, malformed_line, name_line, output_line, record_of, unended}
use Rattle.netlist_model.specs.declared.Record.{Record}
use Rattle.table.specs.Limits.{max_inputs}
use Rattle.text.proofs.SplitLaws.{join-split_at, lacks-join, split_at-join}
use Rattle.text.specs.Split.{join, split_at}
use lib.ListN.{length}
use mathlib.Core.List.{List, [], ◌++◌, ◌∷◌, append_assoc, map}
use mathlib.Core.Logic.{◌⊎◌, ⊎_elim}
use Rattle.std.specs.Prelude.{Option, None}
use mathlib.Core.Path.{◌∙◌, ◌≡◌, ap, ap₂, refl, sym}
use native.Mathlib.Omega.{arith}

-- All of some lines can be held by bytes.
pub data AllSpelled : List Line → Type 0 where
  none : AllSpelled []
  next : {l : Line} {ls : List Line} → Spelled l → AllSpelled ls → AllSpelled (l ∷ ls)

-- The bytes of such a line are read as that line.
line_read : {l : Line} → Spelled l → line_of (join 9 (fields_of l)) ≡ l
unfolding line_of record_of fields_of
line_read {l} s = go (fields_of l) refl
  where
    go : (fs : List (List ℕ)) → fields_of l ≡ fs → line_with (fields_record (split_at 9 (join 9 fs))) (split_at 9 (join 9 fs)) ≡ l
    go [] e = absurd (omega (arith, fields-some s, ap length e))
    go (f ∷ fs) e = rw (split_at-join 9 f fs (rw e at (fields_lack tab s)), ← e) (spelled-read s)

-- The bytes of lines are read as these lines.
pub bytes_read : {ls : List Line} → AllSpelled ls → file_lines (lines_bytes ls) ≡ ls
unfolding lines_bytes line_bytes
bytes_read none = lines_end [] 0 (omega arith)
bytes_read (next {l = l} {ls = ls} s t) =
    rw append_assoc (lines_line (join 9 (fields_of l)) (lines_bytes ls) (lacks-join 10 9 (fields_of l) (λ e. omega arith) (fields_lack line_end s)))
    ∙ ap₂ ◌∷◌ (line_read s) (bytes_read t)

spelled-formed : {l : Line} → Spelled l → l ≡ malformed_line → ⊥
spelled-formed (header he hi hg ho) e = let z : ◌≡◌ {A = ℕ} 0 1 = cc in omega arith
spelled-formed (named h) e = let z : ◌≡◌ {A = ℕ} 0 1 = cc in omega arith
spelled-formed (gate hp hq) e = let z : ◌≡◌ {A = ℕ} 0 1 = cc in omega arith
spelled-formed (output h) e = let z : ◌≡◌ {A = ℕ} 0 1 = cc in omega arith
spelled-formed (constraint h) e = let z : ◌≡◌ {A = ℕ} 0 1 = cc in omega arith

-- What is read as such a line is that line's bytes.
line_written : (line : List ℕ) → Spelled (line_of line) → line ≡ join 9 (fields_of (line_of line))
unfolding line_of record_of
line_written line s =
    sym (join-split_at 9 line)
    ∙ ap (join 9)
    (read-written (split_at 9 line) (λ e. spelled-formed s (ap (λ (r : Option Record). line_with r (split_at 9 line)) e))).fields

parts-written : (parts : List (List ℕ)) → AllSpelled (part_lines parts) → join 10 parts ≡ lines_bytes (part_lines parts)
unfolding part_lines unended lines_bytes line_bytes
parts-written [] s = refl
parts-written ([] ∷ []) s = refl
parts-written ((b ∷ bs) ∷ []) (next s t) = absurd (spelled-formed s refl)
parts-written (line ∷ (more ∷ parts)) (next s t) =
    ap₂ (λ (l m : List ℕ). l ++ 10 ∷ m) (line_written line s) (parts-written (more ∷ parts) t)
    ∙ sym (append_assoc (join 9 (fields_of (line_of line))) (10 ∷ []) (lines_bytes (part_lines (more ∷ parts))))

-- A file whose lines can all be held by bytes is their bytes.
pub file-written : (bytes : List ℕ) → AllSpelled (file_lines bytes) → bytes ≡ lines_bytes (file_lines bytes)
unfolding file_lines
file-written bytes s = sym (join-split_at 10 bytes) ∙ parts-written (split_at 10 bytes) s

-- Of some lines, all that are not malformed can be held by bytes.
pub data Legible : List Line → Type 0 where
  none : Legible []
  next : {l : Line} {ls : List Line} → ((kind_of l ≡ None → ⊥) → Spelled l) → Legible ls → Legible (l ∷ ls)

parts_legible : (parts : List (List ℕ)) → Legible (part_lines parts)
unfolding part_lines unended line_of record_of
parts_legible [] = Legible.none
parts_legible ([] ∷ []) = Legible.none
parts_legible ((b ∷ bs) ∷ []) = Legible.next (λ h. absurd (h refl)) Legible.none
parts_legible (line ∷ (more ∷ parts)) =
    Legible.next
    (λ h. (read-written (split_at 9 line) (λ e. h (kind_with (fields_record (split_at 9 line)) (split_at 9 line) ∙ e))).spelled)
    (parts_legible (more ∷ parts))

-- The lines of a file are such.
pub file_legible : (bytes : List ℕ) → Legible (file_lines bytes)
unfolding file_lines
file_legible bytes = parts_legible (split_at 10 bytes)

-- The lines of a netlist within its limits can be held by bytes.
gates-spelled :
    {v : ℕ} {gs : List Gate} {ls : List Line} → Downward v gs → v + length gs ≤ 1 + max_inputs + max_gates → AllSpelled ls → AllSpelled (map gate_line_of gs ++ ls)
gates-spelled netlist.Downward.none h s = s
gates-spelled (netlist.Downward.gate {g = g} p q d) h s =
    next (gate {p = g.p} {q = g.q} (omega arith) (omega arith)) (gates-spelled d (omega arith) s)

outputs-spelled :
    {n : ℕ} {os : List ℕ} {ls : List Line} → AllBelow n os → n ≤ 2 * (1 + max_inputs + max_gates) → AllSpelled ls → AllSpelled (map output_line os ++ ls)
outputs-spelled netlist.AllBelow.none h s = s
outputs-spelled (netlist.AllBelow.next {r = r} l b) h s = next (output {r = r} (omega arith)) (outputs-spelled b h s)

constraints-spelled : {n : ℕ} {rs : List ℕ} → AllBelow n rs → n ≤ 2 * (1 + max_inputs + max_gates) → AllSpelled (map constraint_line rs)
constraints-spelled netlist.AllBelow.none h = none
constraints-spelled (netlist.AllBelow.next {r = r} l b) h = next (constraint {r = r} (omega arith)) (constraints-spelled b h)

names-spelled : {seen ns : List (List ℕ)} {ls : List Line} → NewNames seen ns → AllSpelled ls → AllSpelled (map name_line ns ++ ls)
names-spelled names.NewNames.none s = s
names-spelled (names.NewNames.next h f r) s = next (named (name-told h)) (names-spelled r s)

edition-few : {e : ℕ} → (e ≡ 1) ⊎ (e ≡ 2) → e ≤ 2
edition-few h = ⊎_elim (λ k. omega arith) (λ k. omega arith) h

pub within-spelled : {d : Netlist} → Within d → AllSpelled (netlist_lines d)
unfolding netlist_lines body_lines
within-spelled {d} w =
    next
    (header {e = d.edition} {i = d.inputs} {g = length d.gates} {o = length d.outputs}
    (omega (arith, edition-few w.edition)) (omega (arith, w.inputs)) (omega (arith, w.gates)) (omega (arith, w.outputs)))
    (names-spelled w.names
    (gates-spelled w.downward (omega (arith, w.inputs, w.gates))
    (outputs-spelled w.below (omega (arith, w.inputs, w.gates)) (constraints-spelled w.constraint-below (omega (arith, w.inputs, w.gates))))))
