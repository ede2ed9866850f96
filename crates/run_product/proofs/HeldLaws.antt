-- References stay good while rows are added, given back, and followed.
use Prim.Native.Nat.{◌%◌, ◌-◌, ◌/◌, ◌<◌, ◌≤◌, suc, zero, ℕ}
use Rattle.bdd.proofs.DiagramLaws.{constant-reference, frame-reference}
use Rattle.bdd.proofs.ReferenceLaws.{edge_row}
use Rattle.bdd.specs.Diagram.{Reference, edge}
use Rattle.bdd.specs.code.Store.{Store}
use Rattle.bdd.specs.code.Walks.{Walks}
use Rattle.bdd_unique.proofs.MakeLaws.{grown-reference}
use Rattle.bdd_unique.specs.code.Unique.{GivenBack, Grown}
use Rattle.product.proofs.Laws.{back}
use Rattle.run_product.specs.code.Held.{Held}
use lib.ListN.{get_or-eq_default, get_or, replicate, set}
use mathlib.Core.List.{List, [], ◌∷◌}
use mathlib.Core.Logic.{◌⊎◌, inl, inr, ⊎_elim}
use mathlib.Core.Path.{◌≡◌, refl}
use native.Mathlib.Omega.{arith}

-- No references yet.
zeros : (n v : ℕ) → ◌≡◌ {A = ℕ} (get_or (replicate n 0) v 0) 0
zeros zero v = get_or-eq_default [] 0 {n = v} (omega arith)
zeros (suc n) zero = refl
zeros (suc n) (suc v) = zeros n v

pub held_none : (rows : List ℕ) (n used inputs : ℕ) → Held rows (replicate n 0) used inputs
held_none rows n used inputs = record { each = λ v. rw (zeros n v) (constant-reference rows used inputs 0 refl) }

pub edge-held : {rows references : List ℕ} {used inputs : ℕ} → Held rows references used inputs → (p : ℕ) {r : ℕ} → r ≡ edge (get_or references (p / 2 % 128) 0) p
    → Reference rows used inputs r
edge-held {references = references} H p e =
    let R = H.each (p / 2 % 128) in
    rw e (record { stored = rw (edge_row (get_or references (p / 2 % 128) 0) p) R.stored; fits = rw (edge_row (get_or references (p / 2 % 128) 0) p) R.fits })

-- Rows in use, and references of the inputs to them.
pub record StoreHeld (rows references : List ℕ) (limit used inputs : ℕ) : Type 0 where
  pub store : Store rows limit used
  pub held : Held rows references used inputs

-- A new reference in the place of one: each is it, or is the old one.
pub put-cases : (l : List ℕ) (v j r : ℕ) → (get_or (set l v r) j 0 ≡ r) ⊎ (get_or (set l v r) j 0 ≡ get_or l j 0)
put-cases [] v j r = inr refl
put-cases (x ∷ l) zero zero r = inl refl
put-cases (x ∷ l) zero (suc j) r = inr refl
put-cases (x ∷ l) (suc v) zero r = inr refl
put-cases (x ∷ l) (suc v) (suc j) r = put-cases l v j r

-- A reference to the rows after more are added takes the place of one.
pub held-put : {s t references : List ℕ} {limit n u m r : ℕ} → StoreHeld s references limit n m → Grown s t limit n u → Reference t u m r → (v : ℕ)
    → StoreHeld t (set references v r) limit u m
held-put {references = references} {r = r} H G R v =
    record {
      store = G.store;
      held = record { each = λ j. ⊎_elim (λ e. rw e R) (λ e. rw e (grown-reference G (H.held.each j))) (put-cases references v j r) };
    }

-- Rows given back.
pub held_back : {s t w references : List ℕ} {limit n u m : ℕ} → StoreHeld s references limit n m → Grown s t limit n u → GivenBack t w limit u n
    → StoreHeld w references limit n m
held_back {s} {w = w} {n = n} H G B =
    record { store = B.store; held = record { each = λ j. frame-reference s n H.store.canonical w (back G B).agree (H.held.each j) } }

-- The next vertex and the one to stop at, the rows used and the steps taken.
pub record Turn : Type 0 where
  pub next : ℕ
  pub stop : ℕ
  pub used : ℕ
  pub steps : ℕ

-- One vertex done, or the end reached.
pub record Turned (rows references : List ℕ) (limit inputs most v stop : ℕ) (t : Turn) : Type 0 where
  pub held : StoreHeld rows references limit t.used inputs
  pub under : t.steps ≤ most
  pub onward : v ≤ t.next
  pub within : t.next ≤ t.stop
  pub bound : t.stop ≤ stop
  pub less : t.stop - t.next < stop - v

-- A product that was short, with its rows given back.
pub broken_off : {s t w references : List ℕ} {limit n u m : ℕ} → StoreHeld s references limit n m → Grown s t limit n u → GivenBack t w limit u n
    → {v stop k most : ℕ} → v < stop → k ≤ most → (turn : Turn) → (turn.next ≡ v) × (turn.stop ≡ v) × (turn.used ≡ n) × (turn.steps ≡ k)
    → Turned w references limit m most v stop turn
broken_off H G B before under turn e =
    record {
      held = rw e.2 (held_back H G B);
      under = rw e.3 under;
      onward = omega (arith, e);
      within = omega (arith, e);
      bound = omega (arith, e);
      less = omega (arith, e);
    }

-- Every reference can be followed down to a constant.
pub record AllWalk (rows references : List ℕ) (inputs : ℕ) : Type 0 where
  pub each : (v : ℕ) → Walks rows inputs (get_or references v 0)

-- References followed.
pub held_walks : {rows references : List ℕ} {limit used inputs : ℕ} → StoreHeld rows references limit used inputs → AllWalk rows references inputs
held_walks {used = used} H =
    record { each = λ v. record { used = used; canonical = H.store.canonical; long = omega (arith, H.store.room.used, H.store.room.long); here = H.held.each v } }
