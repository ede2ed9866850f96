-- What the checks of two files say of them.
use Prim.Native.Nat.{◌≤◌, ℕ}
use Rattle.load_decision.specs.code.Decision.{Checks, checked_as, checked_file, rejected, summed}
use Rattle.netlist_model.proofs.CheckLaws.{names-at_most, names-due}
use Rattle.netlist_model.proofs.FrontLaws.{front-count}
use Rattle.netlist_model.proofs.ReadLaws.{accepted-holds, holds-edition, holds-names, read-holds}
use Rattle.netlist_model.proofs.StepLaws.{edition-kept, edition_numbered}
use Rattle.netlist_model.specs.Check as check
use Rattle.netlist_model.specs.Check.{Counts, answer_of, check_file, netlist_in, read_by, read_netlist, summary_counts, unread}
use Rattle.netlist_model.specs.Limits.{edition_of, number_of_edition}
use Rattle.netlist_model.specs.Names.{first_lacked, lacked, name_count, place_in}
use Rattle.netlist_model.specs.Records.{file_lines}
use Rattle.netlist_model.specs.code.Accepted.{ReadAs, netlist_of, summary_with}
use Rattle.netlist_model.specs.code.Passing.{NamesThere, front_names, gates_at}
use Rattle.netlist_model.specs.declared.Role.TheVariants.{First, Second}
use Rattle.netlist_model.specs.declared.Role.{Role}
use Rattle.netlist_model.specs.declared.Summary.{Summary}
use Rattle.table.specs.Limits.{max_inputs}
use Rattle.std.specs.Prelude.{Bool, None, Option, Some, cond, false, true}
use lib.Dec.{ltb}
use mathlib.Core.List.{List}
use mathlib.Core.Path.{◌∙◌, ◌≡◌, ap, ap₂, refl, subst, sym}
use native.Mathlib.Omega.{arith}

accepted-is : {s t : Summary} → summed s ≡ summed t → s ≡ t
accepted-is e = cc

-- An accepted file has one of the editions.
accepted-edition : (role : Role) (bytes : List ℕ) (c : Counts) → check_file role bytes ≡ check.accepted c → number_of_edition (edition_of c.edition) ≡ c.edition
unfolding read_netlist read_by
accepted-edition role bytes c h = edition-kept (read-holds role bytes (netlist_in c (file_lines bytes)) (rw h refl)).holds.within.edition

-- A file whose check gave a summary is read as the netlist that it holds.
pub checked-reads : (role : Role) (bytes : List ℕ) (s : Summary) → checked_file role bytes ≡ summed s → ReadAs role bytes s (netlist_of bytes s)
checked-reads role bytes s = go (check_file role bytes) refl
  where
    go : (a : check.Answer) → check_file role bytes ≡ a → checked_as bytes a ≡ summed s → ReadAs role bytes s (netlist_of bytes s)
    go (check.refused k n) h e = let z : ◌≡◌ {A = ℕ} 0 1 = cc in absurd (omega arith)
    go (check.accepted c) h e =
        let f : summary_with (gates_at bytes c.names) c ≡ s = accepted-is e in
        let kept = ap (λ (k : ℕ). record c { edition = k }) (accepted-edition role bytes c h) in
        accepted-holds role bytes s (h ∙ ap check.accepted (sym kept ∙ ap summary_counts f))
        (sym (ap (λ (x : Summary). x.start) f) ∙ ap (λ (x : Summary). gates_at bytes x.names) f)

-- A file whose check gave a refusal is not read.
pub checked-unread : (role : Role) (bytes : List ℕ) (k n : ℕ) → checked_file role bytes ≡ rejected k n → read_netlist role bytes ≡ unread k n
unfolding read_netlist read_by
checked-unread role bytes k n = go (check_file role bytes) refl
  where
    go : (a : check.Answer) → check_file role bytes ≡ a → checked_as bytes a ≡ rejected k n → read_by (check_file role bytes) (file_lines bytes) ≡ unread k n
    go (check.accepted c) h e = let z : ◌≡◌ {A = ℕ} 0 1 = cc in absurd (omega arith)
    go (check.refused j m) h e = let f : j ≡ k = cc in let g : m ≡ n = cc in rw h (ap₂ unread f g)

-- A place that is found is within, and one that is not is not.
place-some : (n k : ℕ) {r : ℕ} → place_in n k ≡ Some r → (k ≡ r) × (ltb k n ≡ true)
place-some n k {r} = go (ltb k n) refl
  where
    go : (b : Bool) → ltb k n ≡ b → cond b (Some k) None ≡ Some r → (k ≡ r) × (ltb k n ≡ true)
    go true e h = (cc, e)
    go false e h = let z : ◌≡◌ {A = ℕ} 0 1 = cc in absurd (omega arith)

place-none : (n k : ℕ) → place_in n k ≡ None → ltb k n ≡ false
place-none n k = go (ltb k n) refl
  where
    go : (b : Bool) → ltb k n ≡ b → cond b (Some k) None ≡ None → ltb k n ≡ false
    go false e h = e
    go true e h = let z : ◌≡◌ {A = ℕ} 0 1 = cc in absurd (omega arith)

module _ {left right : List ℕ} {s t : Summary} (c : Checks left right s t) where
  pub left-reads : ReadAs First left s (netlist_of left s)
  left-reads = checked-reads First left s c.left-checked

  pub right-reads : ReadAs (Second (number_of_edition s.edition)) right t (netlist_of right t)
  right-reads = checked-reads (Second (number_of_edition s.edition)) right t c.right-checked

  -- The files are of one edition,
  same_number : number_of_edition t.edition ≡ number_of_edition s.edition
  same_number = holds-edition right-reads.holds ∙ right-reads.suits.edition

  pub editions_same : t.edition ≡ s.edition
  editions_same = rw (edition_numbered t.edition, edition_numbered s.edition) at (ap edition_of same_number)

  -- so that with as many inputs they have as many names.
  pub names_same : s.inputs ≡ t.inputs → s.names ≡ t.names
  names_same i =
      due left-reads ∙ ap₂ name_count (sym same_number) i ∙ sym (due right-reads)
    where
      due : {role : Role} {bytes : List ℕ} {x : Summary} → ReadAs role bytes x (netlist_of bytes x) → x.names ≡ name_count (number_of_edition x.edition) x.inputs
      due {x = x} r =
          ap (λ (y : Summary). y.names) r.holds.counts ∙ names-due r.holds.within
          ∙ ap₂ name_count (sym (holds-edition r.holds)) (sym (ap (λ (y : Summary). y.inputs) r.holds.counts))

  -- What the search for a name that the first file lacks comes to is told by as many of its names.
  module _ (i : s.inputs ≡ t.inputs) {f : Option ℕ} (e : f ≡ lacked (front_names t.names left) (front_names t.names right)) where
    searched : f ≡ place_in t.names (first_lacked (front_names s.names left) (front_names t.names right))
    searched =
        e ∙ ap₂ place_in (front-count (holds-names right-reads.holds))
        (ap (λ (n : ℕ). first_lacked (front_names n left) (front_names t.names right)) (sym (names_same i)))

    pub lacked-some : {r : ℕ} → f ≡ Some r
        → (first_lacked (front_names s.names left) (front_names t.names right) ≡ r) × (ltb (first_lacked (front_names s.names left) (front_names t.names right)) t.names ≡ true)
    lacked-some h = place-some t.names _ (sym searched ∙ h)

    pub none-lacking : f ≡ None → ltb (first_lacked (front_names s.names left) (front_names t.names right)) t.names ≡ false
    none-lacking h = place-none t.names _ (sym searched ∙ h)

  -- The names of both are there.
  pub names-both : s.inputs ≡ t.inputs → NamesThere left t.names × NamesThere right t.names
  names-both i = (subst (NamesThere left) (names_same i) (holds-names left-reads.holds), holds-names right-reads.holds)

  -- They are few.
  pub names-few : t.names ≤ max_inputs
  names-few =
      omega (arith, names-at_most right-reads.holds.within, right-reads.holds.within.inputs, ap (λ (x : Summary). x.names) right-reads.holds.counts)
