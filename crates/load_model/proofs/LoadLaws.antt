-- Demand 1: the files of two netlists within the limits are accepted, and nothing else is.
use Prim.Native.Nat.{◌*◌, ◌+◌, ◌≤◌, ℕ}
use Rattle.load_model.specs.Load.{LoadRoom, accepted, counts_differ?, length_tests, load_result, max_table, max_vertices, pair_tests, read_first, read_result, read_second, refused, short_slice?, table_after, table_loaded, table_of, tally_of}
use Rattle.load_model.specs.Loadable.{Enough, Loadable, Loads}
use Rattle.load_model.specs.declared.Tally.{Tally}
use Rattle.netlist_model.proofs.NameLaws.{lacked-none, none-lacked}
use Rattle.netlist_model.proofs.ReadLaws.{read_back, read_only}
use Rattle.netlist_model.specs.code.Accepted.{counts_in}
use Rattle.netlist_model.specs.Check.{Read, read, read_netlist, unread}
use Rattle.netlist_model.specs.Limits.{max_bytes}
use Rattle.netlist_model.specs.Meaning.{and_count}
use Rattle.netlist_model.specs.Names.{Among, first_lacked}
use Rattle.netlist_model.specs.Netlist.{Netlist, bytes_of}
use Rattle.netlist_model.specs.Pairing.{paired}
use Rattle.netlist_model.specs.declared.Role.TheVariants.{First, Second}
use Rattle.table.specs.Limits.{max_ands}
use Rattle.table.specs.Refusals.{Test, first_refusal}
use Rattle.truth.proofs.Booleans.{neither}
use borrow.Author.Tests.{eq-eqb, eqb-true, le-ltb, ltb-false, not-false}
use lib.Dec.{eqb, ltb}
use lib.ListN.{length}
use mathlib.Core.Bool.{Bool, ◌||◌, cond, false, not, true}
use mathlib.Core.List.{List, [], ◌∷◌}
use mathlib.Core.Path.{◌≡◌, refl, sym}
use native.Mathlib.Omega.{arith}

-- The tests of two netlists that are within the limits do not apply.
counts-agree : {d e : Netlist} → Loadable d e → counts_differ? (counts_in d) (counts_in e) ≡ false
unfolding counts_differ?
counts-agree {d} {e} h = rw (eq-eqb d.inputs e.inputs h.inputs, eq-eqb (length d.outputs) (length e.outputs) h.outputs)

slices-suffice : {room : LoadRoom} → Enough room → short_slice? room ≡ false
unfolding short_slice?
slices-suffice {room} h =
    rw (
      le-ltb room.pairs (2 * max_vertices) h.pairs,
      le-ltb room.look (2 * max_vertices) h.look,
      le-ltb room.literals (2 * max_vertices) h.literals,
      le-ltb room.outputs (2 * max_vertices) h.outputs,
    )

pub names-suffice : (d e : Netlist) → ((name : List ℕ) → Among name e.names → Among name d.names)
    → ltb (first_lacked d.names e.names) (length e.names) ≡ false
names-suffice d e named =
    le-ltb (first_lacked d.names e.names) (length e.names) (omega (arith, lacked-none d.names e.names named))

-- Files from which two such netlists are read are accepted.
pub load_given : {left right : List ℕ} {room : LoadRoom} {x : ℕ} {t : Tally} → Loads left right room x t → load_result left right room ≡ accepted x t
unfolding load_result read_second read_result first_refusal
load_given {left} {right} {room} h =
    let d = h.first in
    let e = h.second in
    rw (
      le-ltb max_bytes (length left) h.first_length,
      le-ltb max_bytes (length right) h.second_length,
      h.first_read,
      h.dated,
      h.counted,
    )
    (rw (
      h.second-read,
      counts-agree h.loadable,
      names-suffice d e h.loadable.names,
      le-ltb max_ands (and_count d.gates + and_count e.gates) h.loadable.ands,
      le-ltb room.table max_table h.enough.table,
      slices-suffice h.enough,
    ) refl)

-- Demand 1: the files of two netlists within the limits, of one edition, with equal counts and names and at most 6,144 ANDs, are accepted where
-- there is room.
pub load_accepts : {d e : Netlist} {room : LoadRoom} → Loadable d e → Enough room → length (bytes_of d) ≤ 65536 → length (bytes_of e) ≤ 65536
    → load_result (bytes_of d) (bytes_of e) room ≡ accepted d.edition (tally_of d (paired d e))
load_accepts {d} {e} h r left right =
    load_given (
    record {
      first = d;
      second = e;
      first_read = read_back First d h.left tt;
      second-read = read_back (Second d.edition) e h.right (record { edition = sym h.edition; constraints = h.unconstrained });
      first_length = left;
      second_length = right;
      loadable = h;
      enough = r;
      dated = refl;
      counted = refl;
    })

-- No test answers r; none applies.
abbrev NoneAnswers : {A : Type 0} → A → List (Test A) → Type 0
NoneAnswers r [] = Unit {0}
NoneAnswers r (t ∷ ts) = (t.answer ≡ r → ⊥) × NoneAnswers r ts

abbrev NoneApplies : {A : Type 0} → List (Test A) → Type 0
NoneApplies [] = Unit {0}
NoneApplies (t ∷ ts) = (t.applies ≡ false) × NoneApplies ts

-- An answer that is no test's is given where none applies.
none_applied : {A : Type 0} (a r : A) (ts : List (Test A)) → NoneAnswers r ts → first_refusal a ts ≡ r → NoneApplies ts × (a ≡ r)
unfolding first_refusal
none_applied a r [] apart e = (tt, e)
none_applied a r (t ∷ ts) apart e = go t.applies refl e (none_applied a r ts apart.1)
  where
    go : (b : Bool) → t.applies ≡ b → cond b t.answer (first_refusal a ts) ≡ r → (first_refusal a ts ≡ r → NoneApplies ts × (a ≡ r))
        → NoneApplies (t ∷ ts) × (a ≡ r)
    go true d e rest = absurd (apart.0 e)
    go false d e rest = ((d, (rest e).0), (rest e).1)

refusal_apart : {k f n x : ℕ} {t : Tally} → refused k f n ≡ accepted x t → ⊥
refusal_apart e = let z : ◌≡◌ {A = ℕ} 0 1 = cc in omega arith

counts-agreed : (d e : Netlist) → counts_differ? (counts_in d) (counts_in e) ≡ false → (d.inputs ≡ e.inputs) × (length d.outputs ≡ length e.outputs)
unfolding counts_differ?
counts-agreed d e h =
    let i = eqb d.inputs e.inputs in
    let o = eqb (length d.outputs) (length e.outputs) in
    let p = neither (not i) (not o) h in
    (eqb-true d.inputs e.inputs (not-false i p.0), eqb-true (length d.outputs) (length e.outputs) (not-false o p.1))

slices_sufficed : (room : LoadRoom) → max_table ≤ room.table → short_slice? room ≡ false → Enough room
unfolding short_slice?
slices_sufficed room table h =
    let o = neither (ltb room.pairs size || ltb room.look size || ltb room.literals size) (ltb room.outputs size) h in
    let l = neither (ltb room.pairs size || ltb room.look size) (ltb room.literals size) o.0 in
    let p = neither (ltb room.pairs size) (ltb room.look size) l.0 in
    record {
      table = table;
      pairs = ltb-false room.pairs size p.0;
      look = ltb-false room.look size p.1;
      literals = ltb-false room.literals size l.1;
      outputs = ltb-false room.outputs size o.1;
    }
  where
    size : ℕ
    size = 2 * max_vertices

-- What is accepted is the files of two such netlists.
pub load-only : (left right : List ℕ) (room : LoadRoom) (x : ℕ) (t : Tally) → load_result left right room ≡ accepted x t → Loads left right room x t
unfolding load_result read_second read_result
load-only left right room x t h =
    let p = none_applied (read_result room (read_first left) (read_second (read_first left) right)) (accepted x t) (length_tests refused left right) (refusal_apart, (refusal_apart, tt)) h in
    first (read_first left) refl p.1 (ltb-false max_bytes (length left) p.0.0) (ltb-false max_bytes (length right) p.0.1.0)
  where
    both : (d c : Netlist) → read_netlist First left ≡ read d → read_netlist (Second d.edition) right ≡ read c → length left ≤ max_bytes
        → length right ≤ max_bytes → read_result room (read d) (read c) ≡ accepted x t → Loads left right room x t
    both d c f g l r e =
        let q =
        none_applied (accepted d.edition (tally_of d (paired d c))) (accepted x t)
        (pair_tests refused (counts_in d) (counts_in c) (first_lacked d.names c.names) room)
        (refusal_apart, (refusal_apart, (refusal_apart, (refusal_apart, (refusal_apart, tt))))) e in
        let agreed = counts-agreed d c q.0.0 in
        let right-read = read_only (Second d.edition) right c g in
        record {
          first = d;
          second = c;
          first_read = f;
          second-read = g;
          first_length = l;
          second_length = r;
          loadable =
              record {
                left = (read_only First left d f).1;
                right = right-read.1;
                edition = sym right-read.2.edition;
                inputs = agreed.0;
                outputs = agreed.1;
                names = none-lacked d.names c.names (ltb-false (first_lacked d.names c.names) (length c.names) q.0.1.0);
                unconstrained = right-read.2.constraints;
                ands = ltb-false max_ands (and_count d.gates + and_count c.gates) q.0.1.1.0;
              };
          enough = slices_sufficed room (ltb-false room.table max_table q.0.1.1.1.0) q.0.1.1.1.1.0;
          dated = cc q.1;
          counted = cc q.1;
        }

    second : (d : Netlist) (y : Read) → read_netlist First left ≡ read d → read_netlist (Second d.edition) right ≡ y → read_result room (read d) y ≡ accepted x t
        → length left ≤ max_bytes → length right ≤ max_bytes → Loads left right room x t
    second d (unread k n) f g e l r = absurd (refusal_apart e)
    second d (read c) f g e l r = both d c f g l r e

    first : (y : Read) → read_first left ≡ y → read_result room y (read_second y right) ≡ accepted x t → length left ≤ max_bytes → length right ≤ max_bytes
        → Loads left right room x t
    first (unread k n) f e l r = absurd (refusal_apart e)
    first (read d) f e l r = second d (read_netlist (Second d.edition) right) f refl e l r

-- The table that an accepted load leaves.
pub load-table : {left right : List ℕ} {room : LoadRoom} {x : ℕ} {t : Tally} (h : Loads left right room x t) (old : List ℕ)
    → table_loaded (load_result left right room) left right old ≡ table_of h.first (paired h.first h.second) old
unfolding table_after read_second
load-table h old = rw (load_given h, h.first_read) (rw h.second-read refl)
