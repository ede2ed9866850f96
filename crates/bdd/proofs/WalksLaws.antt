-- References that can be followed.
use Prim.Native.Nat.{◌-◌, ◌≤◌, ℕ}
use Rattle.bdd.proofs.DiagramLaws.{cofactor-below}
use Rattle.bdd.specs.Diagram.{Reference, cofactor}
use Rattle.bdd.specs.code.Store.{Store}
use Rattle.bdd.specs.code.Walks.{Walks}
use mathlib.Core.Bool.{Bool}
use mathlib.Core.List.{List}
use mathlib.Core.Path.{◌≡◌}
use native.Mathlib.Omega.{arith}

-- A reference to a row in use can be followed.
pub walks : {rows : List ℕ} {limit n inputs r : ℕ} → Store rows limit n → Reference rows n inputs r → Walks rows inputs r
walks {n = n} S R = record { used = n; canonical = S.canonical; long = omega (arith, S.room.used, S.room.long); here = R }

-- Its cofactors too.
pub walks_down : {rows : List ℕ} {level r : ℕ} → Walks rows level r → 1 ≤ level → (b : Bool) {e : ℕ} → e ≡ cofactor rows b level r → Walks rows (level - 1) e
walks_down {rows} {level} {r} W pos b eq =
    record {
      used = W.used;
      canonical = W.canonical;
      long = W.long;
      here = rw eq (cofactor-below rows W.used W.canonical b level r pos W.here);
    }
