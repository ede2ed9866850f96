-- Values as the numbers 0 and 1 against truth values.
use Rattle.std.proofs.lemmas.Grind.{common_steps}
use Prim.Native.Nat.{◌*◌, ◌+◌, ◌-◌, ◌<◌, ◌≤◌, suc, zero, ℕ}
use Rattle.aig.proofs.LiteralLaws.{vertex-below}
use Rattle.aig.specs.Literal.{vertex_of}
use Rattle.aig.specs.Values.{Algebra}
use Rattle.evaluate_model.specs.Evaluate.{bit}
use Rattle.evaluate_model.specs.code.Values.{Bits, number_invert, number_literal, number_row, number_values}
use Rattle.table.proofs.LayoutLaws.{pairs-left}
use Rattle.table.proofs.MeaningLaws.{value-kept, values-good}
use Rattle.table.specs.Table.{pairs, row_at}
use Rattle.table.specs.Values.{Homomorphism, Pair, vertex_values}
use lib.ListN.{get_or-eq_default, get_or-map, drop, get_or, length, set, take}
use lib.Seq.{get_or-take, take-suc-set}
use mathlib.Core.Bool.{Bool, ◌&&◌, false, not, true}
use mathlib.Core.List.{List, map}
use mathlib.Core.Path.{◌∙◌, ◌≡◌, ap, refl, subst, sym}
use native.Mathlib.Decide.{dec_lt}
use native.Mathlib.Omega.{arith}

-- A number at most 1 is 0 or 1.
number-cases : (P : ℕ → Type 0) → P 0 → P 1 → (x : ℕ) → x ≤ 1 → P x
number-cases P p q zero h = p
number-cases P p q (suc zero) h = q
number-cases P p q (suc (suc x)) h = absurd (omega arith)

-- The numbers 0 and 1 obey the laws of folding.
pub numbers : Algebra (λ x. x ≤ 1) number_invert ◌*◌ 0
numbers = grind (arith, common_steps)

-- A truth value as a number: inversion is 1 - x, the AND is the product.
pub bit_numbers : Homomorphism not ◌&&◌ false number_invert ◌*◌ 0 bit
bit_numbers =
    record {
      keeps-invert = λ x. inverted x;
      keeps-both = λ x y. both x y;
      keeps_false = refl;
    }
  where
    inverted : (x : Bool) → bit (not x) ≡ number_invert (bit x)
    inverted true = refl
    inverted false = refl

    both : (x y : Bool) → bit (x && y) ≡ bit x * bit y
    both true true = refl
    both true false = refl
    both false true = refl
    both false false = refl

-- Truth values are 0 or 1.
pub bits_mapped : (bs : List Bool) → Bits (map bit bs)
bits_mapped bs v = rw (get_or-map bit bs v false) (bound (get_or bs v false))
  where
    bound : (b : Bool) → bit b ≤ 1
    bound true = omega arith
    bound false = omega arith

-- Where some values and rows come to the same as values 0 or 1 with their rows, they are 0 or 1 too.
pub bits_ahead : (us vs : List ℕ) (rs qs : List Pair) → number_values us rs ≡ number_values vs qs → Bits vs → Bits us
bits_ahead us vs rs qs e good v =
    elim (dec_lt v (length us)) [
      | yes h ↦ subst (λ (x : ℕ). x ≤ 1) (ap (λ (l : List ℕ). get_or l v 0) (sym e) ∙ value-kept number_invert ◌*◌ 0 us rs v 0 h)
          (values-good numbers vs qs good v)
      | no h ↦ (let le : length us ≤ v = omega arith in rw (get_or-eq_default us 0 le) (omega arith))
    ]

-- A literal's value is found from the vertices below a bound on it.
pub literal-taken : (n : ℕ) (vs : List ℕ) (r : ℕ) → r < 2 * n → number_literal (take n vs) r ≡ number_literal vs r
literal-taken n vs r h = rw (get_or-take n vs (vertex_of r) 0 (vertex-below r n h))

-- So is its vertex's value, which is 0 or 1 where theirs are.
pub vertex-bit : (n : ℕ) (vs : List ℕ) (r : ℕ) → r < 2 * n → Bits (take n vs) → get_or vs (vertex_of r) 0 ≤ 1
vertex-bit n vs r h good = grind (arith, common_steps)

-- One more row, the first being that of vertex v: its value is written at its vertex, and the rows after it are left.
pub values_step : (vs ws : List ℕ) (v n i x : ℕ) → v + i < length vs → i < n → x ≡ number_row (take (v + i) vs) (row_at ws (3 + 2 * i))
    → number_values (take (v + i) vs) (pairs (n - i) (drop (3 + 2 * i) ws))
    ≡ number_values (take (v + (i + 1)) (set vs (v + i) x)) (pairs (n - (i + 1)) (drop (3 + 2 * (i + 1)) ws))
unfolding vertex_values
values_step vs ws v n i x lv li e =
    let next : v + (i + 1) ≡ suc (v + i) = omega arith in
    rw (pairs-left 3 n i ws li, next, take-suc-set vs (v + i) x lv, e) refl

-- No row is left: the values are those written.
pub values_end : (vs ws : List ℕ) (v n i : ℕ) → n ≤ i → number_values (take v vs) (pairs (n - i) (drop (3 + 2 * i) ws)) ≡ take v vs
unfolding vertex_values pairs
values_end vs ws v n i h =
    let none : n - i ≡ 0 = omega arith in
    rw none refl

-- The value read for a literal of a row: it is that given the vertices below the row's own, and 0 or 1.
pub record Read (n : ℕ) (vs : List ℕ) (r x : ℕ) : Type 0 where
  pub value : x ≡ number_literal (take n vs) r
  pub bound : x ≤ 1

pub read : (n : ℕ) (vs : List ℕ) (r x : ℕ) → r < 2 * n → Bits (take n vs) → x ≡ number_literal vs r → Read n vs r x
read n vs r x h good e = grind (arith, common_steps)
