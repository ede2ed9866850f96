-- Arithmetic of references.
use Prim.Native.Nat.{◌%◌, ◌*◌, ◌+◌, ◌/◌, ℕ}
use Rattle.bdd.specs.Diagram.{edge, inverse}
use mathlib.Core.Logic.{◌⊎◌, inl, inr}
use mathlib.Core.Path.{◌∙◌, ◌≡◌, sym}
use native.Mathlib.Decide.{ℕ_discrete}
use native.Mathlib.Omega.{arith}

pub edge_row : (c r : ℕ) → edge c r / 2 ≡ c / 2
unfolding edge
edge_row c r = omega arith

pub edge-bit : (c r : ℕ) → edge c r % 2 ≡ (c + r) % 2
unfolding edge
edge-bit c r = omega arith

pub edge_even : (c r : ℕ) → r % 2 ≡ 0 → edge c r ≡ c
unfolding edge
edge_even c r h = omega arith

pub edge_injective : (c d r : ℕ) → edge c r ≡ edge d r → c ≡ d
unfolding edge
edge_injective c d r h = omega arith

-- Two edges that are not inverted and lead to one reference follow references of one parity.
pub edge_parity : (c d r q : ℕ) → c % 2 ≡ 0 → d % 2 ≡ 0 → edge c r ≡ edge d q → r % 2 ≡ q % 2
unfolding edge
edge_parity c d r q hc hd h = omega arith

-- An edge that is not inverted keeps the parity of what it follows.
pub edge-plain : (c r : ℕ) → c % 2 ≡ 0 → r % 2 ≡ edge c r % 2
edge-plain c r h = go ∙ sym (edge-bit c r)
  where
    go : r % 2 ≡ (c + r) % 2
    go = omega arith

pub edge_same : (c r q : ℕ) → r % 2 ≡ q % 2 → edge c r ≡ edge c q
unfolding edge
edge_same c r q h = omega arith

-- A reference is its row and its parity.
pub reference-equal : (r q : ℕ) → r / 2 ≡ q / 2 → r % 2 ≡ q % 2 → r ≡ q
reference-equal r q a b = omega arith

pub edge-twice : (x a r : ℕ) → a % 2 ≡ r % 2 → edge (edge x a) r ≡ x
edge-twice x a r h =
    reference-equal (edge (edge x a) r) x (edge_row (edge x a) r ∙ edge_row x a) (edge-bit (edge x a) r ∙ go (edge x a) (edge-bit x a))
  where
    go : (e : ℕ) → e % 2 ≡ (x + a) % 2 → (e + r) % 2 ≡ x % 2
    go e k = omega arith

pub edge-inverse : (c r : ℕ) → edge c (inverse r) ≡ inverse (edge c r)
edge-inverse c r =
    reference-equal (edge c (inverse r)) (inverse (edge c r))
    (edge_row c (inverse r) ∙ sym (edge_row c r) ∙ sym (edge_row (edge c r) 1))
    (edge-bit c (inverse r) ∙ go (inverse r) (edge c r) (edge-bit r 1) (edge-bit c r) ∙ sym (edge-bit (edge c r) 1))
  where
    go : (e d : ℕ) → e % 2 ≡ (r + 1) % 2 → d % 2 ≡ (c + r) % 2 → (c + e) % 2 ≡ (d + 1) % 2
    go e d h k = omega arith

pub parity : (r : ℕ) → (r % 2 ≡ 0) ⊎ (r % 2 ≡ 1)
parity r = elim (ℕ_discrete (r % 2) 0) [ yes e ↦ inl e | no d ↦ inr (omega arith) ]

-- A reference of row i is twice i or the inverse of that.
pub row-reference : (r : ℕ) → (r ≡ r / 2 * 2) ⊎ (r ≡ inverse (r / 2 * 2))
unfolding edge
row-reference r = elim (ℕ_discrete (r % 2) 0) [ yes e ↦ inl (omega arith) | no d ↦ inr (omega arith) ]

-- Two references of one row are equal or inverse.
pub one-row : (r q : ℕ) → r / 2 ≡ q / 2 → (r ≡ q) ⊎ (r ≡ inverse q)
unfolding edge
one-row r q e = elim (ℕ_discrete r q) [ yes h ↦ inl h | no d ↦ inr (omega arith) ]

pub double_row : (i : ℕ) → i * 2 / 2 ≡ i
double_row i = omega arith

pub double_even : (i : ℕ) → i * 2 % 2 ≡ 0
double_even i = omega arith
