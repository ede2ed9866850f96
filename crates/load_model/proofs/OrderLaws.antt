-- The order of load's own tests, in the rules' numbers: each refusal is said where its sentence holds and none of those before it does.
use Prim.Native.Nat.{◌+◌, ◌<◌, ◌≤◌, ℕ}
use Rattle.load_model.proofs.LoadLaws.{names-suffice}
use Rattle.load_model.specs.Load.{LoadRoom, counts_differ?, load_result, max_table, read_result, read_second, refused, short_slice?}
use Rattle.netlist_model.proofs.NameLaws.{lacked-at}
use Rattle.netlist_model.specs.code.Accepted.{counts_in}
use Rattle.netlist_model.specs.Check.{read, read_netlist}
use Rattle.netlist_model.specs.Limits.{max_bytes}
use Rattle.netlist_model.specs.Meaning.{and_count}
use Rattle.netlist_model.specs.Names.{Among, first_lacked}
use Rattle.netlist_model.specs.Netlist.{Netlist}
use Rattle.netlist_model.specs.declared.Role.TheVariants.{First, Second}
use Rattle.table.specs.Limits.{max_ands}
use Rattle.table.specs.Refusals.{first_refusal}
use Rattle.truth.proofs.Booleans.{or_left, or_right}
use borrow.Author.Tests.{eq-eqb, le-ltb, lt-ltb, ne_eqb}
use lib.Dec.{eqb, ltb}
use lib.ListN.{length, length-append}
use mathlib.Core.Bool.{Bool, ◌||◌, false, not, true}
use mathlib.Core.List.{List, ◌++◌, ◌∷◌}
use mathlib.Core.Logic.{◌⊎◌, ⊎_elim}
use mathlib.Core.Path.{◌∙◌, ◌≡◌, ap, refl}
use native.Mathlib.Omega.{arith}

module _ (left right : List ℕ) (room : LoadRoom) where
  -- "1. The file is longer than 65,536 bytes.", the first file before the second.
  pub first-long : 65536 < length left → load_result left right room ≡ refused 1 1 0
  unfolding load_result first_refusal
  first-long h = rw (lt-ltb max_bytes (length left) h) refl

  pub second-long : length left ≤ 65536 → 65536 < length right → load_result left right room ≡ refused 1 2 0
  unfolding load_result first_refusal
  second-long h k = rw (le-ltb max_bytes (length left) h, lt-ltb max_bytes (length right) k) refl

-- Two files of which neither is too long, both read.
pub record BothRead (left right : List ℕ) (d e : Netlist) : Type 0 where
  pub first_length : length left ≤ 65536
  pub second_length : length right ≤ 65536
  pub first_read : read_netlist First left ≡ read d
  pub second-read : read_netlist (Second d.edition) right ≡ read e

-- Inputs and outputs of two netlists are equally many.
pub record SameCounts (d e : Netlist) : Type 0 where
  pub inputs : d.inputs ≡ e.inputs
  pub outputs : length d.outputs ≡ length e.outputs

module _ {left right : List ℕ} {d e : Netlist} (room : LoadRoom) (h : BothRead left right d e) where
  all_read : load_result left right room ≡ read_result room (read d) (read e)
  unfolding load_result read_second first_refusal
  all_read =
      rw (le-ltb max_bytes (length left) h.first_length, le-ltb max_bytes (length right) h.second_length, h.first_read) (rw h.second-read refl)

  counts-told : counts_differ? (counts_in d) (counts_in e) ≡ true → load_result left right room ≡ refused 7 2 1
  unfolding read_result first_refusal
  counts-told c = all_read ∙ (rw c refl)

  -- "7. Input or output counts differ", whatever else applies.
  pub inputs-differ : (d.inputs ≡ e.inputs → ⊥) → load_result left right room ≡ refused 7 2 1
  unfolding counts_differ?
  inputs-differ n =
      counts-told (or_left (not (eqb d.inputs e.inputs)) (not (eqb (length d.outputs) (length e.outputs))) (ap not (ne_eqb d.inputs e.inputs n)))

  pub outputs-differ : (length d.outputs ≡ length e.outputs → ⊥) → load_result left right room ≡ refused 7 2 1
  unfolding counts_differ?
  outputs-differ n =
      counts-told
      (or_right (not (eqb d.inputs e.inputs)) (not (eqb (length d.outputs) (length e.outputs)))
      (ap not (ne_eqb (length d.outputs) (length e.outputs) n)))

  module _ (same : SameCounts d e) where
    counts_same : counts_differ? (counts_in d) (counts_in e) ≡ false
    unfolding counts_differ?
    counts_same = rw (eq-eqb d.inputs e.inputs same.inputs, eq-eqb (length d.outputs) (length e.outputs) same.outputs)

    -- "19 a name that the first file lacks, at its line in the second file", the first of them, whatever the ANDs and the lent slices.
    pub name-lacked : (before : List (List ℕ)) (name : List ℕ) (after : List (List ℕ)) → e.names ≡ before ++ name ∷ after
        → ((n : List ℕ) → Among n before → Among n d.names) → (Among name d.names → ⊥)
        → load_result left right room ≡ refused 19 2 (2 + length before)
    unfolding read_result first_refusal
    name-lacked before name after n all lacks =
        let at : first_lacked d.names e.names ≡ length before = ap (first_lacked d.names) n ∙ lacked-at d.names before name after all lacks in
        let l : length before < length e.names = omega (arith, ap length n, length-append before (name ∷ after)) in
        all_read ∙ (rw (counts_same, at) (rw (lt-ltb (length before) (length e.names) l) refl))

    -- All names of the second file are among the first file's.
    module _ (named : (n : List ℕ) → Among n e.names → Among n d.names) where
      -- "8. The ANDs exceed 6,144.", whatever the lent slices.
      pub ands_exceed : 6144 < and_count d.gates + and_count e.gates → load_result left right room ≡ refused 8 0 0
      unfolding read_result first_refusal
      ands_exceed a = all_read ∙ (rw (counts_same, names-suffice d e named, lt-ltb max_ands (and_count d.gates + and_count e.gates) a) refl)

      module _ (few : and_count d.gates + and_count e.gates ≤ 6144) where
        -- "9. The table is shorter than 12,420 words.", whatever the working slices.
        pub table-short : room.table < 12420 → load_result left right room ≡ refused 9 0 0
        unfolding read_result first_refusal
        table-short t =
            all_read
            ∙ (rw (counts_same, names-suffice d e named, le-ltb max_ands (and_count d.gates + and_count e.gates) few, lt-ltb room.table max_table t) refl)

        slice-told : 12420 ≤ room.table → short_slice? room ≡ true → load_result left right room ≡ refused 14 0 0
        unfolding read_result first_refusal
        slice-told t s =
            all_read
            ∙ (rw (counts_same, names-suffice d e named, le-ltb max_ands (and_count d.gates + and_count e.gates) few, le-ltb room.table max_table t, s) refl)

        -- "14. A working slice is short: four slices of 2 words a vertex (load: for 6,209 vertices)"
        pub slice-short : 12420 ≤ room.table
            → (room.pairs < 12418) ⊎ (room.look < 12418) ⊎ (room.literals < 12418) ⊎ (room.outputs < 12418)
            → load_result left right room ≡ refused 14 0 0
        unfolding short_slice?
        slice-short t s =
            slice-told t
            (⊎_elim (λ p. or_left (a || b || c) d' (or_left (a || b) c (or_left a b (lt-ltb room.pairs 12418 p))))
            (⊎_elim (λ p. or_left (a || b || c) d' (or_left (a || b) c (or_right a b (lt-ltb room.look 12418 p))))
            (⊎_elim (λ p. or_left (a || b || c) d' (or_right (a || b) c (lt-ltb room.literals 12418 p)))
            (λ p. or_right (a || b || c) d' (lt-ltb room.outputs 12418 p)))) s)
          where
            a : Bool
            a = ltb room.pairs 12418

            b : Bool
            b = ltb room.look 12418

            c : Bool
            c = ltb room.literals 12418

            d' : Bool
            d' = ltb room.outputs 12418
