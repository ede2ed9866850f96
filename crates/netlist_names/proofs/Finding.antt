-- The names of a file passed one after the other.
use Prim.Native.Nat.{◌+◌, ◌-◌, ◌<◌, ◌≤◌, suc, zero, ℕ}
use Rattle.netlist_model.proofs.FrontLaws.{front_names_lem, names_in_lem, place-rises}
use Rattle.netlist_model.proofs.LineLaws.{kind_of_lem, line-ahead}
use Rattle.netlist_model.specs.Check.{names_in}
use Rattle.netlist_model.specs.Names.{among?, first_lacked, found, lacked, place_in, place_of}
use Rattle.netlist_model.specs.Records.{Line, constraint_line, file_lines, gate_line, header_line, kind_of, line_of, malformed_line, name_line, output_line, record_of}
use Rattle.netlist_model.specs.code.Passing.{NamesThere, front_names, place_after}
use Rattle.netlist_model.specs.declared.Record.TheVariants.{Name}
use Rattle.netlist_names.specs.code.Left.{names_left}
use Rattle.netlist_names.specs.code.Walk.{leading_names, names_ahead, names_from}
use Rattle.netlist_names.specs.declared.Names.{Names}
use Rattle.std.specs.List.{position_or_len}
use Rattle.std.specs.Prelude.{Bool, None, Some, cond, false, is_none, ltb, not, true}
use Rattle.text.specs.Bytes.{same_bytes}
use Rattle.text.specs.Split.{up_to}
use borrow.Author.Tests.{ltb-true}
use lib.ListN.{drop, length}
use lib.Seq.{take_at}
use mathlib.Core.List.{List, [], ◌++◌, ◌∷◌, map}
use mathlib.Core.Path.{◌∙◌, ◌≡◌, ap, refl, sym}
use native.Mathlib.Numerals.{add-one}
use native.Mathlib.Omega.{arith}

-- The end byte of line 1 is there.
pub first_ended : {file : List ℕ} {count : ℕ} → NamesThere file count → 0 + length (up_to 10 (drop 0 file)) < length file
first_ended {file} t = (line-ahead file 0 t.there.lines t.there.formed).ended

-- Lines that begin with those of some names.
record Front (ls : List Line) (count : ℕ) : Type 0 where
  names : List (List ℕ)
  more : List Line
  lines : ls ≡ map name_line names ++ more
  counted : length names ≡ count

-- They begin with so many, and what begins with so many begins with those of some.
front_leads : (names : List (List ℕ)) (more : List Line) → length names ≤ leading_names (map name_line names ++ more)
front_leads [] more = omega arith
front_leads (x ∷ names) more = omega (arith, front_leads names more)

leads_front : (ls : List Line) (count : ℕ) → count ≤ leading_names ls → Front ls count
leads_front ls zero h = record { names = []; more = ls; lines = refl; counted = refl }
leads_front [] (suc k) h = absurd (omega arith)
leads_front (name_line x ∷ ls) (suc k) h =
    let f = leads_front ls k (omega arith) in
    record { names = x ∷ f.names; more = f.more; lines = ap (λ (l : List Line). name_line x ∷ l) f.lines; counted = omega (arith, f.counted) }
leads_front (header_line e i g o ∷ ls) (suc k) h = absurd (omega arith)
leads_front (gate_line op p q ∷ ls) (suc k) h = absurd (omega arith)
leads_front (output_line r ∷ ls) (suc k) h = absurd (omega arith)
leads_front (constraint_line r ∷ ls) (suc k) h = absurd (omega arith)
leads_front (malformed_line ∷ ls) (suc k) h = absurd (omega arith)

-- The names from a place on are those of its lines.
names_from_lem : (file : List ℕ) (at : ℕ) {count : ℕ} (f : Front (file_lines (drop at file)) count) → names_from file at count ≡ f.names
unfolding names_from
names_from_lem file at {count} f = rw (f.lines, names_in_lem f.names f.more) (take_at f.names (names_in f.more) count f.counted)

pub names_none : (file : List ℕ) (at : ℕ) {count : ℕ} → count ≡ 0 → names_from file at count ≡ []
unfolding names_from
names_none file at h = rw h refl

-- An iterator has as many left as it says.
pub names_count : (s : Names) → length (names_left s) ≡ s.left
unfolding names_ahead
names_count s =
    let f = leads_front (file_lines (drop s.at s.file.now)) s.left s.there in ap length (names_from_lem s.file.now s.at f) ∙ f.counted

-- After line 1 they are the first names of the file.
module _ {file : List ℕ} {count : ℕ} (t : NamesThere file count) where
  names_begin : Front (file_lines (drop (0 + length (up_to 10 (drop 0 file)) + 1) file)) count
  names_begin =
      record {
        names = t.names;
        more = t.there.rest;
        lines = (line-ahead file 0 t.there.lines t.there.formed).rest;
        counted = t.counted;
      }

  pub names_there : count ≤ names_ahead file (0 + length (up_to 10 (drop 0 file)) + 1)
  unfolding names_begin names_ahead
  names_there = rw names_begin.lines (omega (arith, front_leads names_begin.names names_begin.more, t.counted))

  pub names_first : names_from file (0 + length (up_to 10 (drop 0 file)) + 1) count ≡ front_names count file
  unfolding names_begin front_names
  names_first = names_from_lem file (0 + length (up_to 10 (drop 0 file)) + 1) names_begin ∙ sym (front_names_lem t.there count t.counted)

-- The line of a name starts at a place, and the lines of the names after it follow.
pub record NextName (file : List ℕ) (at count : ℕ) : Type 0 where
  pub name : List ℕ
  pub ended : at + length (up_to 10 (drop at file)) < length file
  pub this : line_of (up_to 10 (drop at file)) ≡ name_line name
  pub rest : count - 1 ≤ names_ahead file (at + length (up_to 10 (drop at file)) + 1)
  pub all : names_from file at count ≡ name ∷ names_from file (at + length (up_to 10 (drop at file)) + 1) (count - 1)

-- So it is where names are left.
pub next_name : {file : List ℕ} {at count : ℕ} → count ≤ names_ahead file at → 0 < count → NextName file at count
unfolding names_ahead
next_name {file} {at} {count} n h =
    let f = leads_front (file_lines (drop at file)) count n in
    go f.names f.more f.lines f.counted (names_from_lem file at f)
  where
    go : (names : List (List ℕ)) (more : List Line) → file_lines (drop at file) ≡ map name_line names ++ more → length names ≡ count
        → names_from file at count ≡ names → NextName file at count
    go [] more lines counted all = absurd (omega arith)
    go (x ∷ names) more lines counted all =
        let l = line-ahead file at lines (λ m. let z : ◌≡◌ {A = ℕ} 0 1 = cc in omega arith) in
        let rest : Front (file_lines (drop (at + length (up_to 10 (drop at file)) + 1) file)) (count - 1) =
        record { names = names; more = more; lines = l.rest; counted = omega arith } in
        record {
          name = x;
          ended = l.ended;
          this = l.this;
          rest = rw l.rest (omega (arith, front_leads names more));
          all = all ∙ ap (λ (xs : List (List ℕ)). x ∷ xs) (sym (names_from_lem file (at + length (up_to 10 (drop at file)) + 1) rest));
        }

module _ {file : List ℕ} {at count : ℕ} (n : NextName file at count) where
  -- The record of that line.
  pub next-record : record_of (up_to 10 (drop at file)) ≡ Some Name
  next-record = sym (kind_of_lem (up_to 10 (drop at file))) ∙ ap kind_of n.this

  -- The name that is read from it.
  pub next-told : {x : List ℕ} → name_line x ≡ line_of (up_to 10 (drop at file)) → x ≡ n.name
  next-told e = let both = e ∙ n.this in cc

-- The places that are sought are the first where a test holds.
pub place_position : (name : List ℕ) (names : List (List ℕ)) → place_of name names ≡ position_or_len (same_bytes name) names
unfolding place_of
place_position name [] = refl
place_position name (x ∷ names) =
    let ih = place_position name names in
    elim (same_bytes name x) as (λ b. cond b 0 (suc (place_of name names)) ≡ cond (not b) (1 + position_or_len (same_bytes name) names) 0)
    [ true ↦ refl | false ↦ omega arith ]

pub lacked_position : (names others : List (List ℕ)) → first_lacked names others ≡ position_or_len (λ x. is_none (found x names)) others
unfolding first_lacked
lacked_position names [] = refl
lacked_position names (x ∷ others) =
    let ih = lacked_position names others in
    elim (among? x names) as (λ b.
    cond b (suc (first_lacked names others)) 0
    ≡ cond (not (is_none (cond b (Some (place_of x names)) None))) (1 + position_or_len (λ y. is_none (found y names)) others) 0)
    [ true ↦ omega arith | false ↦ refl ]

pub found_position : (name : List ℕ) (names : List (List ℕ)) → found name names ≡ place_in (length names) (position_or_len (same_bytes name) names)
found_position name names = rw place_position refl

pub lacked_found : (names others : List (List ℕ)) → lacked names others ≡ place_in (length others) (position_or_len (λ x. is_none (found x names)) others)
lacked_found names others = rw lacked_position refl

-- Such a place is one of so many.
pub place_small : (n p : ℕ) {k : ℕ} → Some k ≡ place_in n p → k < n
place_small n p {k} h = go (ltb p n) refl h
  where
    go : (b : Bool) → ltb p n ≡ b → Some k ≡ cond b (Some p) None → k < n
    go true e f = let z : k ≡ p = cc in omega (arith, ltb-true p n e)
    go false e f = cc

-- The lines of the names not yet passed start at a place, k names were passed, and something holds of k and of these.
pub record Walk (P : ℕ → List (List ℕ) → Type 0) (file : List ℕ) (count at k : ℕ) : Type 0 where
  pub rest : List (List ℕ)
  pub more : List Line
  pub lines : file_lines (drop at file) ≡ map name_line rest ++ more
  pub counted : k + length rest ≡ count
  pub holds : P k rest

-- The line of a name starts at a place, and the lines of the names after it follow.
pub record NameHere (P : ℕ → List (List ℕ) → Type 0) (file : List ℕ) (count at k : ℕ) : Type 0 where
  pub name : List ℕ
  pub rest : List (List ℕ)
  pub more : List Line
  pub ended : at + length (up_to 10 (drop at file)) < length file
  pub this : line_of (up_to 10 (drop at file)) ≡ name_line name
  pub lines : file_lines (drop (at + length (up_to 10 (drop at file)) + 1) file) ≡ map name_line rest ++ more
  pub counted : k + 1 + length rest ≡ count
  pub holds : P k (name ∷ rest)

module _ (P : ℕ → List (List ℕ) → Type 0) where
  -- It begins after line 1.
  pub walk_begins : {file : List ℕ} {count : ℕ} → NamesThere file count → P 0 (front_names count file)
      → Walk P file count (0 + length (up_to 10 (drop 0 file)) + 1) 0
  walk_begins {file} {count} t h =
      record {
        rest = t.names;
        more = t.there.rest;
        lines = (line-ahead file 0 t.there.lines t.there.formed).rest;
        counted = omega (arith, t.counted);
        holds = rw (← front_names_lem t.there count t.counted) h;
      }

  module _ {file : List ℕ} {count at k : ℕ} (w : Walk P file count at k) where
    -- Where names are left, the line of the next one starts here.
    pub walk_here : k < count → NameHere P file count at k
    walk_here h = go w.rest w.lines w.counted w.holds
      where
        go : (rest : List (List ℕ)) → file_lines (drop at file) ≡ map name_line rest ++ w.more → k + length rest ≡ count → P k rest
            → NameHere P file count at k
        go [] lines counted p = absurd (omega arith)
        go (x ∷ rest) lines counted p =
            let l = line-ahead file at lines (λ m. let z : ◌≡◌ {A = ℕ} 0 1 = cc in omega arith) in
            record {
              name = x;
              rest = rest;
              more = w.more;
              ended = l.ended;
              this = l.this;
              lines = l.rest;
              counted = omega arith;
              holds = p;
            }

    -- Where none is left, all were passed.
    pub walk_ended : count ≤ k → (k ≡ count) × P k []
    walk_ended h = go w.rest w.counted w.holds
      where
        go : (rest : List (List ℕ)) → k + length rest ≡ count → P k rest → (k ≡ count) × P k []
        go [] counted p = (omega arith, p)
        go (x ∷ rest) counted p = absurd (omega arith)

module _ {P : ℕ → List (List ℕ) → Type 0} {file : List ℕ} {count at k : ℕ} (n : NameHere P file count at k) where
  -- The record of that line.
  pub here_record : record_of (up_to 10 (drop at file)) ≡ Some Name
  here_record = sym (kind_of_lem (up_to 10 (drop at file))) ∙ ap kind_of n.this

  -- It is passed.
  pub walk_next : (Q : ℕ → List (List ℕ) → Type 0) → Q (k + 1) n.rest → Walk Q file count (at + length (up_to 10 (drop at file)) + 1) (k + 1)
  walk_next Q q = record { rest = n.rest; more = n.more; lines = n.lines; counted = n.counted; holds = q }

-- The place after one more line.
pub place-next : (file : List ℕ) (k at : ℕ) → at ≡ place_after file k → at + length (up_to 10 (drop at file)) + 1 ≡ place_after file (k + 1)
unfolding place_after
place-next file k at h = rw (add-one k, h) refl

-- It is inside where that after later lines is.
pub place_inside : (file : List ℕ) (k count : ℕ) → k ≤ count → place_after file count ≤ length file → place_after file k ≤ length file
place_inside file k count h l = omega (arith, place-rises file k count h)
