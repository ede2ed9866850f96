-- Boolean functions of m inputs obey the laws of `Algebra`, since bits do on every setting.
use Prim.Native.Nat.{ℕ}
use Rattle.aig.proofs.ValuesLaws.{bits}
use Rattle.aig.specs.Values.{Algebra}
use Rattle.truth.proofs.Equality.{agree-equal, invert-twice}
use Rattle.truth.proofs.Values.{perfect-conj, perfect-constant, perfect-invert, value-conj, value-constant, value-invert}
use Rattle.truth.specs.Truth.{Perfect, conj, constantly, invert, value_at}
use mathlib.Core.Bool.{false}

pub functions : (m : ℕ) → Algebra (Perfect m) invert conj (constantly m false)
functions m =
    record {
      good_false = perfect-constant m false;
      good-invert = λ x g. perfect-invert g;
      good-both = λ x y g h. perfect-conj g h;
      invert-invert = λ x g. invert-twice x;
      both_comm = λ x y g h. agree-equal (perfect-conj g h) (perfect-conj h g) λ s e. simp value-conj (bits.both_comm (value_at x s) (value_at y s) tt tt);
      both-self = λ x g. agree-equal (perfect-conj g g) g λ s e. simp value-conj (bits.both-self (value_at x s) tt);
      both-inverse =
          λ x g. agree-equal (perfect-conj g (perfect-invert g)) (perfect-constant m false) λ s e.
          simp (value-conj, value-invert, value-constant) (bits.both-inverse (value_at x s) tt);
      both_false =
          λ x g. agree-equal (perfect-conj (perfect-constant m false) g) (perfect-constant m false) λ s e. simp (value-conj, value-constant);
      both_true =
          λ x g. agree-equal (perfect-conj (perfect-invert (perfect-constant m false)) g) g λ s e. simp (value-conj, value-invert, value-constant);
    }
