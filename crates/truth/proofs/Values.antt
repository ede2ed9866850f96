-- The values of constants, inputs, inversion, conjunction, or and exclusive or on every setting; their depths.
use Prim.Native.Nat.{suc, zero, ℕ}
use Rattle.truth.proofs.Booleans.{cond_same}
use Rattle.truth.specs.Truth.{Perfect, Setting, Truth, conj, constantly, disj, exclusive, halves, input, invert, leaf, node, value_at, whole}
use lib.ListN.{get_or, length}
use mathlib.Core.Bool.{Bool, not-not, ◌&&◌, ◌||◌, cond, false, not, true, xor}
use mathlib.Core.List.{[], ◌∷◌}
use mathlib.Core.Path.{◌∙◌, ◌≡◌, ap₂, refl}
use native.Mathlib.Omega.{arith}

-- An inverted function has the inverted value.
pub value-invert : (f : Truth) (s : Setting) → value_at (invert f) s ≡ not (value_at f s)
unfolding value_at invert
value-invert (leaf b) s = refl
value-invert (node f g) [] = value-invert f []
value-invert (node f g) (true ∷ s) = value-invert g s
value-invert (node f g) (false ∷ s) = value-invert f s

-- A conjunction has the conjunction of the two values.
pub value-conj : (f g : Truth) (s : Setting) → value_at (conj f g) s ≡ value_at f s && value_at g s
unfolding value_at conj
value-conj (leaf true) g s = refl
value-conj (leaf false) g s = refl
value-conj (node a b) (leaf true) s = and_one (value_at (node a b) s)
  where
    and_one : (x : Bool) → x ≡ x && true
    and_one true = refl
    and_one false = refl
value-conj (node a b) (leaf false) s = and_nought (value_at (node a b) s)
  where
    and_nought : (x : Bool) → false ≡ x && false
    and_nought true = refl
    and_nought false = refl
value-conj (node a b) (node c d) [] = value-conj a c []
value-conj (node a b) (node c d) (true ∷ s) = value-conj b d s
value-conj (node a b) (node c d) (false ∷ s) = value-conj a c s

-- A conjunction is the same in either order.
pub conj-symmetric : (f g : Truth) → conj f g ≡ conj g f
unfolding conj
conj-symmetric (leaf true) (leaf true) = refl
conj-symmetric (leaf true) (leaf false) = refl
conj-symmetric (leaf false) (leaf true) = refl
conj-symmetric (leaf false) (leaf false) = refl
conj-symmetric (leaf a) (node c d) = refl
conj-symmetric (node a b) (leaf c) = refl
conj-symmetric (node a b) (node c d) = ap₂ node (conj-symmetric a c) (conj-symmetric b d)

-- An or has the or of the two values.
pub value-disj : (f g : Truth) (s : Setting) → value_at (disj f g) s ≡ value_at f s || value_at g s
unfolding disj
value-disj f g s = simp (value-invert, value-conj) (morgan (value_at f s) (value_at g s))
  where
    morgan : (x y : Bool) → not (not x && not y) ≡ x || y
    morgan true y = refl
    morgan false y = not-not y

-- An exclusive or has the exclusive or of the two values.
pub value-exclusive : (f g : Truth) (s : Setting) → value_at (exclusive f g) s ≡ xor (value_at f s) (value_at g s)
unfolding exclusive xor
value-exclusive f g s = simp (value-invert, value-conj) (three_ands (value_at f s) (value_at g s))
  where
    three_ands : (x y : Bool) → not (not (x && not y) && not (not x && y)) ≡ xor x y
    three_ands true true = refl
    three_ands true false = refl
    three_ands false true = refl
    three_ands false false = refl

-- A constant has its value.
pub value-constant : (n : ℕ) (b : Bool) (s : Setting) → value_at (constantly n b) s ≡ b
unfolding value_at constantly
value-constant zero b s = refl
value-constant (suc n) b [] = value-constant n b []
value-constant (suc n) b (true ∷ s) = value-constant n b s
value-constant (suc n) b (false ∷ s) = value-constant n b s

-- Vertex i of n inputs has false at 0 and the digit of input i from 1 on.
pub value-input : (n i : ℕ) (s : Setting) → length s ≡ n → value_at (input n i) s ≡ get_or (false ∷ s) i false
unfolding value_at input constantly
value-input zero zero [] h = refl
value-input zero (suc i) [] h = refl
value-input zero i (x ∷ s) h = absurd (omega arith)
value-input (suc n) zero s h = value-constant (suc n) false s
value-input (suc n) (suc i) [] h = absurd (omega arith)
value-input (suc n) (suc zero) (x ∷ s) h =
    ap₂ (cond x) (value-constant n true s) (value-constant n false s) ∙ pick x
  where
    pick : (x : Bool) → cond x true false ≡ x
    pick true = refl
    pick false = refl
value-input (suc n) (suc (suc i)) (x ∷ s) h = cond_same x (value_at (input n (suc i)) s) ∙ value-input n (suc i) s (omega arith)

-- The depths: each of these functions has exactly the inputs it is made of.
pub perfect-constant : (n : ℕ) (b : Bool) → Perfect n (constantly n b)
unfolding constantly
perfect-constant zero b = whole
perfect-constant (suc n) b = halves (perfect-constant n b) (perfect-constant n b)

pub perfect-input : (n i : ℕ) → Perfect n (input n i)
unfolding input
perfect-input zero i = whole
perfect-input (suc n) zero = perfect-constant (suc n) false
perfect-input (suc n) (suc zero) = halves (perfect-constant n false) (perfect-constant n true)
perfect-input (suc n) (suc (suc i)) = halves (perfect-input n (suc i)) (perfect-input n (suc i))

pub perfect-invert : {m : ℕ} {f : Truth} → Perfect m f → Perfect m (invert f)
unfolding invert
perfect-invert whole = whole
perfect-invert (halves p q) = halves (perfect-invert p) (perfect-invert q)

pub perfect-conj : {m : ℕ} {f g : Truth} → Perfect m f → Perfect m g → Perfect m (conj f g)
unfolding conj
perfect-conj (whole {b = true}) (whole {b = c}) = whole
perfect-conj (whole {b = false}) (whole {b = c}) = whole
perfect-conj (halves p q) (halves u v) = halves (perfect-conj p u) (perfect-conj q v)
