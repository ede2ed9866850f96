-- Laws of product steps.
use Prim.Native.Nat.{◌+◌, ◌-◌, ◌^◌, ◌≤◌, suc, zero, ℕ}
use Rattle.truth.proofs.Equality.{same-invert, same-reflexive}
use Rattle.truth.proofs.Parts.{alike-invert, alike_sameness}
use Rattle.truth.specs.Parts.{alike?, depends?}
use Rattle.truth.specs.Steps.{calls, steps, terminal?}
use Rattle.truth.specs.Truth.{Perfect, Setting, Truth, constant?, halves, invert, leaf, node, same?, value_at, whole}
use lib.ListN.{length, length-append}
use lib.Pow.{pow_pos}
use mathlib.Core.Bool.{Bool, ◌&&◌, ◌||◌, and_self, cond, false, not, or_comm, true}
use mathlib.Core.List.{[], ◌++◌, ◌∷◌}
use mathlib.Core.Path.{◌∙◌, ◌≡◌, ap, ap₂, refl, sym}
use native.Mathlib.Omega.{arith}

-- A product on a pair that ends takes one step.
pub steps-terminal : (f g : Truth) → terminal? f g ≡ true → steps f g ≡ 1
unfolding steps calls
steps-terminal (leaf a) g h = refl
steps-terminal (node a b) (leaf c) h = refl
steps-terminal (node a b) (node c d) h = rw h

-- The steps of two nodes: 1, or 1 and those of both pairs of halves, or, where neither depends on the input, those of one pair.
pub steps-node : (a b c d : Truth) → steps (node a b) (node c d)
    ≡ cond (terminal? (node a b) (node c d)) 1 (cond (depends? (node a b) || depends? (node c d)) (suc (steps a c + steps b d)) (steps a c))
unfolding steps calls
steps-node a b c d = go (terminal? (node a b) (node c d)) (depends? (node a b) || depends? (node c d))
  where
    go : (x y : Bool) → length (cond x ((node a b, node c d) ∷ []) (cond y ((node a b, node c d) ∷ (calls a c ++ calls b d)) (calls a c)))
        ≡ cond x 1 (cond y (suc (length (calls a c) + length (calls b d))) (length (calls a c)))
    go true y = refl
    go false true = ap suc (length-append (calls a c) (calls b d))
    go false false = refl

-- A product takes at least one step.
pub steps-positive : (f g : Truth) → 1 ≤ steps f g
unfolding steps calls
steps-positive (leaf a) g = omega arith
steps-positive (node a b) (leaf c) = omega arith
steps-positive (node a b) (node c d) = rw (steps-node a b c d) (go (terminal? (node a b) (node c d)) (depends? (node a b) || depends? (node c d)) (steps-positive a c))
  where
    go : (x y : Bool) → 1 ≤ steps a c → 1 ≤ cond x 1 (cond y (suc (steps a c + steps b d)) (steps a c))
    go true y h = omega arith
    go false true h = omega arith
    go false false h = h

-- The order of the two functions does not matter.
pub terminal-symmetric : (f g : Truth) → terminal? f g ≡ terminal? g f
unfolding terminal?
terminal-symmetric f g = ap₂ ◌||◌ (or_comm (constant? f) (constant? g)) (alike_sameness.symmetric f g)

pub steps-symmetric : (f g : Truth) → steps f g ≡ steps g f
unfolding steps calls
steps-symmetric (leaf a) (leaf b) = refl
steps-symmetric (leaf a) (node c d) = refl
steps-symmetric (node a b) (leaf c) = refl
steps-symmetric (node a b) (node c d) =
    steps-node a b c d
    ∙ rw (terminal-symmetric (node a b) (node c d), or_comm (depends? (node a b)) (depends? (node c d)), steps-symmetric a c, steps-symmetric b d) (sym (steps-node c d a b))

-- Inverting either function does not change the steps.
constant-invert : (f : Truth) → constant? (invert f) ≡ constant? f
unfolding constant? invert
constant-invert (leaf b) = refl
constant-invert (node f g) = ap₂ ◌&&◌ (same-invert f g) (constant-invert f)

terminal-invert : (f g : Truth) → terminal? (invert f) g ≡ terminal? f g
unfolding terminal?
terminal-invert f g =
    ap₂ ◌||◌ (ap (λ x. x || constant? g) (constant-invert f))
    (alike_sameness.symmetric (invert f) g ∙ alike-invert g f ∙ alike_sameness.symmetric g f)

depends-invert : (f g : Truth) → depends? (invert (node f g)) ≡ depends? (node f g)
unfolding depends? invert
depends-invert f g = ap not (same-invert f g)

pub steps-invert : (f g : Truth) → steps (invert f) g ≡ steps f g
unfolding steps calls invert
steps-invert (leaf a) g = refl
steps-invert (node a b) (leaf c) = refl
steps-invert (node a b) (node c d) =
    steps-node (invert a) (invert b) c d
    ∙ rw (terminal-invert (node a b) (node c d), depends-invert a b, steps-invert a c, steps-invert b d) (sym (steps-node a b c d))

pub steps-invert-right : (f g : Truth) → steps f (invert g) ≡ steps f g
steps-invert-right f g = steps-symmetric f (invert g) ∙ steps-invert g f ∙ steps-symmetric g f

-- Functions of m inputs take at most 2 ^ (m + 1) - 1 steps: one for each node of a binary tree of that depth.
pub steps-bound : {m : ℕ} {f g : Truth} → Perfect m f → Perfect m g → steps f g ≤ 2 ^ suc m - 1
unfolding steps calls
steps-bound whole whole = omega arith
steps-bound (halves {m = m} {f = a} {g = b} p q) (halves {f = c} {g = d} u v) =
    rw (steps-node a b c d) (go (terminal? (node a b) (node c d)) (depends? (node a b) || depends? (node c d)) (steps-bound p u) (steps-bound q v))
  where
    go : (x y : Bool) → steps a c ≤ 2 ^ suc m - 1 → steps b d ≤ 2 ^ suc m - 1
        → cond x 1 (cond y (suc (steps a c + steps b d)) (steps a c)) ≤ 2 ^ suc (suc m) - 1
    go true y h k = omega (arith, pow_pos m)
    go false true h k = omega (arith, pow_pos m)
    go false false h k = omega (arith, pow_pos m)

-- A function of one more input, behind the first k, on which it does not depend.
unfoldable pub widen : ℕ → Truth → Truth
widen zero f = node f f
widen (suc k) (leaf b) = leaf b
widen (suc k) (node f g) = node (widen k f) (widen k g)

pub value_widen : (f : Truth) (s : Setting) (x : Bool) (t : Setting) → value_at (widen (length s) f) (s ++ (x ∷ t)) ≡ value_at f (s ++ t)
unfolding widen value_at
value_widen f [] true t = refl
value_widen f [] false t = refl
value_widen (leaf b) (y ∷ s) x t = refl
value_widen (node f g) (true ∷ s) x t = value_widen g s x t
value_widen (node f g) (false ∷ s) x t = value_widen f s x t

same_widen : (k : ℕ) (f g : Truth) → same? (widen k f) (widen k g) ≡ same? f g
unfolding widen same?
same_widen zero f g = and_self (same? f g)
same_widen (suc k) (leaf a) (leaf b) = refl
same_widen (suc k) (leaf a) (node c d) = refl
same_widen (suc k) (node a b) (leaf c) = refl
same_widen (suc k) (node a b) (node c d) = ap₂ ◌&&◌ (same_widen k a c) (same_widen k b d)

widen_invert : (k : ℕ) (f : Truth) → invert (widen k f) ≡ widen k (invert f)
unfolding widen invert
widen_invert zero f = refl
widen_invert (suc k) (leaf b) = refl
widen_invert (suc k) (node f g) = ap₂ node (widen_invert k f) (widen_invert k g)

constant_widen : (k : ℕ) (f : Truth) → constant? (widen k f) ≡ constant? f
unfolding widen constant?
constant_widen zero f = rw (same-reflexive f)
constant_widen (suc k) (leaf b) = refl
constant_widen (suc k) (node f g) = ap₂ ◌&&◌ (same_widen k f g) (constant_widen k f)

terminal_widen : (k : ℕ) (f g : Truth) → terminal? (widen k f) (widen k g) ≡ terminal? f g
unfolding terminal? alike?
terminal_widen k f g =
    ap₂ ◌||◌ (ap₂ ◌||◌ (constant_widen k f) (constant_widen k g))
    (ap₂ ◌||◌ (same_widen k f g) (ap (same? (widen k f)) (widen_invert k g) ∙ same_widen k f (invert g)))

-- Inputs that neither function depends on do not change the steps.
pub steps_widen : (k : ℕ) (f g : Truth) → steps (widen k f) (widen k g) ≡ steps f g
unfolding widen depends? steps calls
steps_widen zero f g =
    steps-node f f g g
    ∙ rw (terminal_widen zero f g) (go (terminal? f g) refl)
  where
    go : (x : Bool) → terminal? f g ≡ x → cond x 1 (cond (depends? (node f f) || depends? (node g g)) (suc (steps f g + steps f g)) (steps f g)) ≡ steps f g
    go true h = sym (steps-terminal f g h)
    go false h = rw (independent f, independent g)
      where
        independent : (t : Truth) → depends? (node t t) ≡ false
        independent t = ap not (same-reflexive t)
steps_widen (suc k) (leaf a) g = refl
steps_widen (suc k) (node a b) (leaf c) = refl
steps_widen (suc k) (node a b) (node c d) =
    steps-node (widen k a) (widen k b) (widen k c) (widen k d)
    ∙ rw (terminal_widen (suc k) (node a b) (node c d), same_widen k a b, same_widen k c d, steps_widen k a c, steps_widen k b d) (sym (steps-node a b c d))
