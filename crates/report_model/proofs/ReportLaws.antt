-- The report by cases: slices that are too short, a refused load, an accepted one.
use Prim.Native.Nat.{◌≤◌, ℕ}
use Rattle.compare_model.proofs.RefusalLaws.{slices-enough}
use Rattle.compare_model.specs.Compare.{CompareRoom, short_slice?}
use Rattle.compare_model.specs.Passed.{Enough}
use Rattle.load_model.proofs.LoadLaws.{load-only, load-table}
use Rattle.load_model.proofs.PairedLaws.{loadable-paired}
use Rattle.load_model.proofs.TableLaws.{table-accepted}
use Rattle.load_model.specs.Load.{Answer, LoadRoom, accepted, load_result, table_loaded}
use Rattle.load_model.specs.declared.Tally.{Tally}
use Rattle.netlist_model.specs.Pairing.{paired}
use Rattle.report_model.specs.Report.{Lent, compare_vertices, first_of, load_room, report_of, report_room, reported, row_limit, short?, short_room?, untouched, works?}
use Rattle.table.specs.Accepted.{Accepted}
use Rattle.table.specs.Limits.{max_inputs}
use Rattle.truth.proofs.Booleans.{neither}
use borrow.Author.Tests.{ltb-false}
use lib.Dec.{ltb}
use mathlib.Core.Bool.{◌||◌, false, true}
use mathlib.Core.List.{List}
use mathlib.Core.Path.{◌≡◌, refl}

-- The slices are long enough.
pub record Long (o : ℕ) (r : CompareRoom) (m s : ℕ) : Type 0 where
  pub out : report_room ≤ o
  pub room : Enough compare_vertices row_limit r m
  pub setting : max_inputs ≤ s

pub long-enough : (out : ℕ) (room : CompareRoom) (marks setting : ℕ) → short_room? out room marks setting ≡ false → Long out room marks setting
unfolding short_room?
long-enough out room marks setting h =
    let p = neither (ltb out report_room || short_slice? compare_vertices row_limit room marks) (ltb setting max_inputs) h in
    let q = neither (ltb out report_room) (short_slice? compare_vertices row_limit room marks) p.0 in
    record {
      out = ltb-false out report_room q.0;
      room = slices-enough compare_vertices row_limit room marks q.1;
      setting = ltb-false setting max_inputs p.1;
    }

-- The table of an accepted load passes tests 10 and 11.
pub loaded-accepted : (left right : List ℕ) (room : LoadRoom) (edition : ℕ) (t : Tally) (old : List ℕ) → load_result left right room ≡ accepted edition t
    → Accepted (table_loaded (load_result left right room) left right old)
loaded-accepted left right room edition t old e =
    let h = load-only left right room edition t e in
    rw (load-table h old) (table-accepted h.first (paired h.first h.second) (loadable-paired h.loadable) old)

module _ (left right : List ℕ) (lent : Lent) where
  -- Where a slice is too short nothing is written.
  pub report_short : short? lent ≡ true → report_of left right lent ≡ untouched lent
  unfolding report_of
  report_short h = rw h refl

  module _ (long : short? lent ≡ false) (loaded : Answer) (e : load_result left right (load_room lent) ≡ loaded) (table : List ℕ)
      (t : table ≡ table_loaded loaded left right lent.table) where
    -- Otherwise the load decides.
    pub report_loaded : report_of left right lent ≡ reported loaded (first_of lent table) lent.out
    unfolding report_of
    report_loaded = rw (long, e, t) refl

  -- Where the load is accepted the slices to work in are worked in.
  pub works-accepted : short? lent ≡ false → (edition : ℕ) (t : Tally) → load_result left right (load_room lent) ≡ accepted edition t → works? left right lent ≡ true
  unfolding works?
  works-accepted long edition t e = rw (long, e) refl
