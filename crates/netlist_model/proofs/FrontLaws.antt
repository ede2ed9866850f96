-- The first lines of a file: where each starts, and the names in them.
use Prim.Native.Nat.{◌<◌, ◌≤◌, suc, zero, ℕ}
use Rattle.netlist_model.proofs.LineLaws.{line-ahead}
use Rattle.netlist_model.specs.Check.{names_in}
use Rattle.netlist_model.specs.Records.{Line, file_lines, kind_of, malformed_line, name_line}
use Rattle.netlist_model.specs.code.Passing.{Names, NamesThere, front_names, place_after}
use lib.ListN.{get_or-eq_default, drop, get_or, length}
use lib.Seq.{drop-cons, take_at}
use mathlib.Core.List.{List, [], ◌++◌, ◌∷◌, map}
use Rattle.std.specs.Prelude.{None}
use mathlib.Core.Path.{◌∙◌, ◌≡◌, ap, refl}
use native.Mathlib.Decide.{dec_lt}
use native.Mathlib.Omega.{arith}

-- The first n lines are not malformed.
abbrev pub Formed : List Line → ℕ → Type 0
Formed ls n = (k : ℕ) → k < n → kind_of (get_or ls k malformed_line) ≡ None → ⊥

-- The place after some lines, and the lines from there on.
pub record After (file : List ℕ) (k : ℕ) : Type 0 where
  pub inside : place_after file k ≤ length file
  pub lines : file_lines (drop (place_after file k) file) ≡ drop k (file_lines file)

pub lines_after : (file : List ℕ) (n : ℕ) → Formed (file_lines file) n → (k : ℕ) → k ≤ n → After file k
unfolding place_after
lines_after file n formed zero h = record { inside = omega arith; lines = refl }
lines_after file n formed (suc k) h =
    let a = lines_after file n formed k (omega arith) in
    let l = line-ahead file (place_after file k) (a.lines ∙ drop-cons (file_lines file) k malformed_line there) (formed k (omega arith)) in
    record { inside = omega (arith, l.ended); lines = l.rest }
  where
    there : k < length (file_lines file)
    there =
        elim (dec_lt k (length (file_lines file))) [
          | yes l ↦ l
          | no l ↦
              let m : length (file_lines file) ≤ k = omega arith in
              absurd (formed k (omega arith) (ap kind_of (get_or-eq_default (file_lines file) malformed_line m)))
        ]

-- The names in the lines of names, and after them.
pub names_in_lem : (names : List (List ℕ)) (ls : List Line) → names_in (map name_line names ++ ls) ≡ names ++ names_in ls
unfolding names_in
names_in_lem [] ls = refl
names_in_lem (x ∷ names) ls = ap (λ (l : List (List ℕ)). x ∷ l) (names_in_lem names ls)

-- The first names after line 1.
pub front_names_lem : {file : List ℕ} {names : List (List ℕ)} → Names file names → (count : ℕ) → length names ≡ count → front_names count file ≡ names
unfolding front_names
front_names_lem {names = names} h count e = rw (h.lines, names_in_lem names h.rest) (take_at names (names_in h.rest) count e)

-- They are as many as are asked for.
pub front-count : {file : List ℕ} {count : ℕ} → NamesThere file count → length (front_names count file) ≡ count
front-count {count = count} t = ap length (front_names_lem t.there count t.counted) ∙ t.counted

-- The places of line 1 and of the names.
names-formed : (names : List (List ℕ)) (rest : List Line) → Formed (map name_line names ++ rest) (length names)
names-formed [] rest k h = absurd (omega arith)
names-formed (x ∷ names) rest zero h = λ e. let z : ◌≡◌ {A = ℕ} 0 1 = cc in omega arith
names-formed (x ∷ names) rest (suc k) h = names-formed names rest k (omega arith)

pub front-formed : {file : List ℕ} {names : List (List ℕ)} → Names file names → Formed (file_lines file) (suc (length names))
front-formed {names = names} h = rw h.lines go
  where
    go : Formed (h.first ∷ (map name_line names ++ h.rest)) (suc (length names))
    go zero l = h.formed
    go (suc k) l = names-formed names h.rest k (omega arith)

-- Later lines start at higher places.
pub place-rises : (file : List ℕ) (k m : ℕ) → k ≤ m → place_after file k ≤ place_after file m
unfolding place_after
place-rises file k zero h = let z : k ≡ 0 = omega arith in rw z (omega arith)
place-rises file k (suc m) h =
    elim (dec_lt m k) [
      | yes l ↦ (let z : k ≡ suc m = omega arith in rw z (omega arith))
      | no l ↦ omega (arith, place-rises file k m (omega arith))
    ]
