-- The row of an input.
use Prim.Native.Nat.{◌-◌, ℕ}
use Rattle.bdd.proofs.DiagramLaws.{constant-reference}
use Rattle.bdd_unique.proofs.MakeLaws.{MakeAsked}
use Rattle.sweep_state.specs.code.Arrays.{Arrays}
use Rattle.sweep_state.specs.declared.task.Task.{Task}
use Rattle.sweep_start.specs.code.Inputs.{RowAsked, level_of}
use mathlib.Core.Path.{refl}
use native.Mathlib.Omega.{arith}

module _ {t : Task} {v used : ℕ} {a : Arrays} (q : RowAsked t v used a) where
  -- What making it needs.
  pub row-asked : MakeAsked a.rows t.rows used (level_of t v) 0 1
  row-asked =
      record {
        store = q.store;
        deep = omega (arith, q.to);
        small = omega (arith, q.from, q.narrow);
        low = constant-reference a.rows used (level_of t v - 1) 0 refl;
        high = constant-reference a.rows used (level_of t v - 1) 1 refl;
      }
