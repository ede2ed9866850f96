-- A netlist within its limits is read back from its bytes, and whatever is read is the bytes of what it gives.
use Prim.Native.Nat.{◌+◌, suc, ℕ}
use Rattle.netlist_model.proofs.CheckLaws.{Taken, line_after, lines-accepted, lines_constrained, taken}
use Rattle.netlist_model.proofs.FileLaws.{bytes_read, file_legible, file-written, within-spelled}
use Rattle.netlist_model.proofs.FrontLaws.{front-formed, front_names_lem, lines_after, names_in_lem}
use Rattle.netlist_model.proofs.StepLaws.{check_refused, edition-kept, edition_numbered, header-edition}
use Rattle.netlist_model.specs.code.Accepted.{HoldsNetlist, ReadAs, Suits, counts_in, netlist_of, summary_with}
use Rattle.netlist_model.specs.code.Passing.{Names, NamesThere, front_names, gates_at}
use Rattle.netlist_model.specs.Check.{Answer, Counts, accepted, answer_of, check_file, constraints_in, gates_in, names_in, netlist_in, outputs_in, read, read_by, read_netlist, refused, summary_counts, unread}
use Rattle.netlist_model.specs.Limits.{number_of_edition}
use Rattle.netlist_model.specs.Netlist as netlist
use Rattle.netlist_model.specs.Netlist.{Netlist, Within, body_lines, body_records, bytes_of, constraint_record, gate_line_of, gate_record, header_line_of, lines_bytes, netlist_lines, output_record}
use Rattle.netlist_model.specs.Records.{Line, constraint_line, file_lines, kind_of, name_line, output_line, records_in}
use Rattle.netlist_model.specs.declared.Due.TheVariants.{First}
use Rattle.netlist_model.specs.declared.Role.TheVariants.{Second}
use Rattle.netlist_model.specs.declared.Role.{Role}
use Rattle.netlist_model.specs.declared.Summary.{Summary}
use Rattle.netlist_model.specs.declared.Record.{Record}
use borrow.Author.Tests.{eqb-true}
use lib.ListN.{drop, length, length-map}
use lib.Seq.{drop_at}
use mathlib.Core.List.{List, [], ◌++◌, ◌∷◌, append-nil, map}
use Rattle.std.specs.Prelude.{Option, None, Ok}
use mathlib.Core.Path.{◌∙◌, ◌≡◌, ap, ap₂, refl, subst, subst⁻¹, sym}
use native.Mathlib.Omega.{arith}

-- The records of gates, outputs and constraints, and the same as lines.
abbrev records : List netlist.Gate → List ℕ → List ℕ → List (Option Record)
records gs os cs = map gate_record gs ++ (map output_record os ++ map constraint_record cs)

abbrev lines : List netlist.Gate → List ℕ → List ℕ → List Line
lines gs os cs = map gate_line_of gs ++ (map output_line os ++ map constraint_line cs)

-- The gates, the outputs and the constraints among the records of a netlist.
pub gates_in_lem : (gs : List netlist.Gate) (os cs : List ℕ) → gates_in (records gs os cs) ≡ gs
unfolding gates_in
gates_in_lem [] [] [] = refl
gates_in_lem [] [] (r ∷ cs) = gates_in_lem [] [] cs
gates_in_lem [] (r ∷ os) cs = gates_in_lem [] os cs
gates_in_lem (g ∷ gs) os cs = ap (λ (l : List netlist.Gate). g ∷ l) (gates_in_lem gs os cs)

pub outputs_in_lem : (gs : List netlist.Gate) (os cs : List ℕ) → outputs_in (records gs os cs) ≡ os
unfolding outputs_in
outputs_in_lem [] [] [] = refl
outputs_in_lem [] [] (r ∷ cs) = outputs_in_lem [] [] cs
outputs_in_lem [] (r ∷ os) cs = ap (λ (l : List ℕ). r ∷ l) (outputs_in_lem [] os cs)
outputs_in_lem (g ∷ gs) os cs = outputs_in_lem gs os cs

pub constraints_in_lem : (gs : List netlist.Gate) (os cs : List ℕ) → constraints_in (records gs os cs) ≡ cs
unfolding constraints_in
constraints_in_lem [] [] [] = refl
constraints_in_lem [] [] (r ∷ cs) = ap (λ (l : List ℕ). r ∷ l) (constraints_in_lem [] [] cs)
constraints_in_lem [] (r ∷ os) cs = constraints_in_lem [] os cs
constraints_in_lem (g ∷ gs) os cs = constraints_in_lem gs os cs

-- Among the lines of names there are none of these.
gates-after : (names : List (List ℕ)) (ls : List Line) → gates_in (records_in (map name_line names ++ ls)) ≡ gates_in (records_in ls)
unfolding gates_in
gates-after [] ls = refl
gates-after (x ∷ names) ls = gates-after names ls

outputs-after : (names : List (List ℕ)) (ls : List Line) → outputs_in (records_in (map name_line names ++ ls)) ≡ outputs_in (records_in ls)
unfolding outputs_in
outputs-after [] ls = refl
outputs-after (x ∷ names) ls = outputs-after names ls

constraints-after : (names : List (List ℕ)) (ls : List Line) → constraints_in (records_in (map name_line names ++ ls)) ≡ constraints_in (records_in ls)
unfolding constraints_in
constraints-after [] ls = refl
constraints-after (x ∷ names) ls = constraints-after names ls

-- The records of these lines, and the names among them.
body_records_lem : (gs : List netlist.Gate) (os cs : List ℕ) → records_in (lines gs os cs) ≡ records gs os cs
body_records_lem [] [] [] = refl
body_records_lem [] [] (r ∷ cs) = ap (λ (l : List (Option Record)). constraint_record r ∷ l) (body_records_lem [] [] cs)
body_records_lem [] (r ∷ os) cs = ap (λ (l : List (Option Record)). output_record r ∷ l) (body_records_lem [] os cs)
body_records_lem (g ∷ gs) os cs = ap (λ (l : List (Option Record)). gate_record g ∷ l) (body_records_lem gs os cs)

no_names : (gs : List netlist.Gate) (os cs : List ℕ) → names_in (lines gs os cs) ≡ []
unfolding names_in
no_names [] [] [] = refl
no_names [] [] (r ∷ cs) = no_names [] [] cs
no_names [] (r ∷ os) cs = no_names [] os cs
no_names (g ∷ gs) os cs = no_names gs os cs

-- The lines of a netlist hold that netlist.
pub netlist_in_lem : (d : Netlist) → netlist_in (counts_in d) (netlist_lines d) ≡ d
unfolding netlist_lines body_lines gates_in outputs_in constraints_in names_in
netlist_in_lem d =
    let ls = lines d.gates d.outputs d.constraints in
    rw (
      names_in_lem d.names ls,
      no_names d.gates d.outputs d.constraints,
      append-nil d.names,
      gates-after d.names ls,
      outputs-after d.names ls,
      constraints-after d.names ls,
      body_records_lem d.gates d.outputs d.constraints,
    )
    (rw (
      gates_in_lem d.gates d.outputs d.constraints,
      outputs_in_lem d.gates d.outputs d.constraints,
      constraints_in_lem d.gates d.outputs d.constraints,
    ) refl)

header-formed : (d : Netlist) → kind_of (header_line_of d) ≡ None → ⊥
header-formed d e = let z : ◌≡◌ {A = ℕ} 0 1 = cc in omega arith

-- The names of a file of the lines of a netlist.
pub names-held : (d : Netlist) {bytes : List ℕ} → file_lines bytes ≡ netlist_lines d → Names bytes d.names
unfolding netlist_lines
names-held d e = record { first = header_line_of d; formed = header-formed d; rest = body_lines d; lines = e }

-- A file of the lines of a netlist within its limits is accepted, is read as that netlist, and is its bytes.
module _ (role : Role) {d : Netlist} (w : Within d) (suits : Suits role d) (bytes : List ℕ) (e : file_lines bytes ≡ netlist_lines d) where
  pub lines-checked : check_file role bytes ≡ accepted (counts_in d)
  unfolding check_file
  lines-checked = rw e (lines-accepted role w suits)

  lines-read : read_netlist role bytes ≡ read d
  unfolding read_netlist read_by
  lines-read = rw (lines-checked, e) (ap read (netlist_in_lem d))

  lines_hold : HoldsNetlist bytes (summary_with (gates_at bytes (length d.names)) (counts_in d)) d
  unfolding bytes_of netlist_lines body_lines body_records
  lines_hold =
      let z : 1 + length d.names ≡ suc (length d.names) = omega arith in
      let a = lines_after bytes (suc (length d.names)) (front-formed (names-held d e)) (suc (length d.names)) (omega arith) in
      let after : drop (length d.names) (map name_line d.names ++ body_lines d) ≡ body_lines d =
      drop_at (map name_line d.names) (body_lines d) (length d.names) (length-map d.names name_line) in
      record {
        file = file-written bytes (rw e (within-spelled w)) ∙ ap lines_bytes e;
        within = w;
        counts = refl;
        lines = e;
        inside = rw z a.inside;
        body = rw z (ap records_in (a.lines ∙ ap (drop (suc (length d.names))) e ∙ after) ∙ body_records_lem d.gates d.outputs d.constraints);
      }

  lines-read_as : ReadAs role bytes (summary_with (gates_at bytes (length d.names)) (counts_in d)) d
  lines-read_as = record { reads = lines-read; suits = suits; holds = lines_hold }

-- A netlist within its limits is read back from its bytes, as a first file or, if it has no constraint, as the second of a pair of its edition.
pub read_back : (role : Role) (d : Netlist) → Within d → Suits role d → read_netlist role (bytes_of d) ≡ read d
unfolding bytes_of
read_back role d w s = lines-read role w s (lines_bytes (netlist_lines d)) (bytes_read (within-spelled w))

-- As the second of a pair of another edition it is refused with 3.
pub read-other-edition : (first : ℕ) (d : Netlist) → Within d → (d.edition ≡ first → ⊥) → read_netlist (Second first) (bytes_of d) ≡ unread 3 1
unfolding bytes_of check_file read_netlist read_by netlist_lines
read-other-edition first d w other =
    let refusal =
    check_refused 1 [] (First (Second first)) (header_line_of d) (map name_line d.names ++ body_lines d) 3
    (header-edition [] (Second first) d.edition d.inputs (length d.gates) (length d.outputs)
    (λ k. other (eqb-true d.edition first k.same))) in
    rw (bytes_read (within-spelled w), refusal) refl

-- As the second of a pair of its edition it is refused with 5 at its constraint, if it has one.
pub read_constrained : (d : Netlist) → Within d → (d.constraints ≡ [] → ⊥) → read_netlist (Second d.edition) (bytes_of d) ≡ unread 5 (line_after d)
unfolding bytes_of check_file read_netlist read_by
read_constrained d w some = rw (bytes_read (within-spelled w), lines_constrained d.edition w refl some) refl

-- An accepted file is the lines of a netlist within its limits, with the counts that the check gives.
checked : (role : Role) (bytes : List ℕ) (c : Counts) → check_file role bytes ≡ accepted c → Taken c role (file_lines bytes)
unfolding check_file
checked role bytes c e = taken c role (file_legible bytes) e

taken_is : {role : Role} {ls : List Line} {c : Counts} (t : Taken c role ls) → netlist_in c ls ≡ t.held
taken_is t = ap₂ netlist_in t.sums t.lines ∙ netlist_in_lem t.held

-- So it holds that netlist, and is read as it.
pub accepted-holds : (role : Role) (bytes : List ℕ) (s : Summary) → check_file role bytes ≡ answer_of (Ok s) → s.start ≡ gates_at bytes s.names
    → ReadAs role bytes s (netlist_of bytes s)
unfolding netlist_of
accepted-holds role bytes s e at =
    let t = checked role bytes _ e in
    let names : s.names ≡ length t.held.names = ap (λ (x : Counts). x.names) t.sums in
    let sums : s ≡ summary_with (gates_at bytes (length t.held.names)) (counts_in t.held) = summed (at ∙ ap (gates_at bytes) names) t.sums in
    subst⁻¹ (ReadAs role bytes s) (taken_is t)
    (subst⁻¹ (λ (x : Summary). ReadAs role bytes x t.held) sums (lines-read_as role t.within t.suited bytes t.lines))
  where
    summed : {n : ℕ} {c : Counts} → s.start ≡ n → summary_counts s ≡ c → s ≡ summary_with n c
    summed f g = rw (← f, ← g, edition_numbered s.edition) refl

-- The names in the lines of a file that holds a netlist.
module _ {bytes : List ℕ} {s : Summary} {d : Netlist} (h : HoldsNetlist bytes s d) where
  pub holds-names : NamesThere bytes s.names
  holds-names = record { names = d.names; there = names-held d h.lines; counted = sym (ap (λ (x : Summary). x.names) h.counts) }

  pub holds-front : front_names s.names bytes ≡ d.names
  holds-front = front_names_lem (names-held d h.lines) s.names (sym (ap (λ (x : Summary). x.names) h.counts))

  -- Its edition has the number that the file says.
  pub holds-edition : number_of_edition s.edition ≡ d.edition
  holds-edition = ap (λ (x : Summary). number_of_edition x.edition) h.counts ∙ edition-kept h.within.edition

-- What is read holds the netlist that is given.
pub read-holds : (role : Role) (bytes : List ℕ) (d : Netlist) → read_netlist role bytes ≡ read d
    → ReadAs role bytes (summary_with (gates_at bytes (length d.names)) (counts_in d)) d
unfolding read_netlist read_by
read-holds role bytes d e = go (check_file role bytes) refl e
  where
    go : (c : Answer) → check_file role bytes ≡ c → read_by c (file_lines bytes) ≡ read d
        → ReadAs role bytes (summary_with (gates_at bytes (length d.names)) (counts_in d)) d
    go (refused k n) h f = let z : ◌≡◌ {A = ℕ} 0 1 = cc in absurd (omega arith)
    go (accepted c) h f =
        let t = checked role bytes c h in
        let is : netlist_in c (file_lines bytes) ≡ d = cc in
        let held : t.held ≡ d = sym (taken_is t) ∙ is in
        subst (λ (x : Netlist). ReadAs role bytes (summary_with (gates_at bytes (length x.names)) (counts_in x)) x) held
        (lines-read_as role t.within t.suited bytes t.lines)

-- Whatever is read is the bytes of what it gives, which keeps the limits and suits its role.
pub read_only : (role : Role) (bytes : List ℕ) (d : Netlist) → read_netlist role bytes ≡ read d → (bytes ≡ bytes_of d) × Within d × Suits role d
read_only role bytes d e = let h = read-holds role bytes d e in (h.holds.file, h.holds.within, h.suits)
