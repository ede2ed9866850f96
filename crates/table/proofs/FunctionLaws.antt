-- The functions of a graph against its values on each setting.
use Prim.Native.Nat.{◌*◌, ◌+◌, ◌<◌, ◌≤◌, suc, zero, ℕ}
use Rattle.aig.proofs.TruthLaws.{functions}
use Rattle.aig.proofs.ValuesLaws.{all-good}
use Rattle.aig.specs.Values.{AllGood, literal_value}
use Rattle.table.proofs.MeaningLaws.{length_values, literal-mapped, row_value_lem, value-kept, values-good, values-mapped, values_unique}
use Rattle.table.specs.Accepted.{Downward, RowBelow}
use Rattle.table.specs.Table.{Graph, first_functions, functions_of, inputs_from, output_function, output_value, outputs, values_on}
use Rattle.table.specs.Values.{Homomorphism, row_value, vertex_values}
use Rattle.truth.proofs.Values.{perfect-constant, perfect-input, value-conj, value-constant, value-input, value-invert}
use Rattle.truth.specs.Truth.{Perfect, Setting, Truth, conj, constantly, input, invert, value_at}
use lib.ListN.{drop, drop_of_length-le, get_or, length}
use lib.Seq.{drop-cons}
use mathlib.Core.Bool.{Bool, ◌&&◌, false, not}
use mathlib.Core.List.{List, ◌∷◌, map}
use mathlib.Core.Path.{◌∙◌, ◌≡◌, ap, ap₂, refl, subst, sym}
use native.Mathlib.Omega.{arith}

-- Taking the value on a setting keeps inversion, AND and false.
pub values-at : (n : ℕ) (s : Setting) → Homomorphism invert conj (constantly n false) not ◌&&◌ false (λ (f : Truth). value_at f s)
values-at n s =
    record { keeps-invert = λ f. value-invert f s; keeps-both = λ f g. value-conj f g s; keeps_false = value-constant n false s }

-- On a setting the functions from i on have the digits from i on.
inputs-values : (n i k : ℕ) (s : Setting) → length s ≡ n → i + k ≡ suc n → map (λ (f : Truth). value_at f s) (inputs_from n i k) ≡ drop i (false ∷ s)
unfolding inputs_from
inputs-values n i zero s h e =
    let le : length (false ∷ s) ≤ i = omega arith in
    sym (drop_of_length-le (false ∷ s) le)
inputs-values n i (suc k) s h e =
    let lt : i < length (false ∷ s) = omega arith in
    let ih = inputs-values n (suc i) k s h (omega arith) in
    rw (drop-cons (false ∷ s) i false lt) (ap₂ ◌∷◌ (value-input n i s h) ih)

module _ (g : Graph) (s : Setting) (h : length s ≡ g.inputs) where
  -- On a setting the functions of all vertices have the vertices' values.
  pub values-functions : map (λ (f : Truth). value_at f s) (functions_of g) ≡ values_on g s
  unfolding functions_of values_on first_functions
  values-functions =
      values-mapped (values-at g.inputs s) (inputs_from g.inputs 0 (suc g.inputs)) g.rows
      ∙ ap (λ (vs : List Bool). vertex_values not ◌&&◌ false vs g.rows)
      (inputs-values g.inputs 0 (suc g.inputs) s h (omega arith))

  -- On a setting the function of a literal has the literal's value,
  pub value-reference : (r : ℕ) → value_at (literal_value invert conj (constantly g.inputs false) (functions_of g) r) s
      ≡ literal_value not ◌&&◌ false (values_on g s) r
  value-reference r = literal-mapped (values-at g.inputs s) (functions_of g) r ∙ rw values-functions

  -- and that of an output the output's.
  pub value-output : (side k : ℕ) → value_at (output_function g side k) s ≡ output_value g side k s
  unfolding output_function output_value
  value-output side k = value-reference (get_or (outputs g side) k 0)

length_inputs : (n i k : ℕ) → length (inputs_from n i k) ≡ k
unfolding inputs_from
length_inputs n i zero = refl
length_inputs n i (suc k) = ap suc (length_inputs n (suc i) k)

perfect-inputs : (n i k v : ℕ) → v < k → Perfect n (get_or (inputs_from n i k) v (constantly n false))
unfolding inputs_from
perfect-inputs n i zero v h = absurd (omega arith)
perfect-inputs n i (suc k) zero h = perfect-input n i
perfect-inputs n i (suc k) (suc v) h = perfect-inputs n (suc i) k v (omega arith)

-- The constant and the inputs are as many as there are inputs and one.
pub length_first_functions : (n : ℕ) → length (first_functions n) ≡ suc n
unfolding first_functions
length_first_functions n = length_inputs n 0 (suc n)

-- They are functions of n inputs.
pub first_functions-perfect : (n : ℕ) → AllGood (Perfect n) (constantly n false) (first_functions n)
unfolding first_functions
first_functions-perfect n =
    all-good (Perfect n) (constantly n false) (perfect-constant n false) (inputs_from n 0 (suc n))
    (λ v h. perfect-inputs n 0 (suc n) v (omega (arith, length_inputs n 0 (suc n))))

inputs-at : (n i k v : ℕ) → v < k → get_or (inputs_from n i k) v (constantly n false) ≡ input n (i + v)
unfolding inputs_from
inputs-at n i zero v h = absurd (omega arith)
inputs-at n i (suc k) zero h = ap (input n) (omega arith)
inputs-at n i (suc k) (suc v) h = inputs-at n (suc i) k v (omega arith) ∙ ap (input n) (omega arith)

-- "vertices 1 to inputs are the inputs"
pub first_function : (n v : ℕ) → v < suc n → get_or (first_functions n) v (constantly n false) ≡ input n v
unfolding first_functions
first_function n v h = inputs-at n 0 (suc n) v h ∙ ap (input n) (omega arith)

-- "Vertex 0 is constant false".
pub first_function_false : (n : ℕ) → get_or (first_functions n) 0 (constantly n false) ≡ constantly n false
unfolding first_functions inputs_from input constantly
first_function_false zero = refl
first_function_false (suc n) = refl

module _ (g : Graph) where
  -- Every vertex has a function of the graph's inputs.
  pub functions-perfect : AllGood (Perfect g.inputs) (constantly g.inputs false) (functions_of g)
  unfolding functions_of
  functions-perfect = values-good (functions g.inputs) (first_functions g.inputs) g.rows (first_functions-perfect g.inputs)

  -- Vertex 0 has the constant false.
  pub function_false : get_or (functions_of g) 0 (constantly g.inputs false) ≡ constantly g.inputs false
  unfolding functions_of
  function_false =
      value-kept invert conj (constantly g.inputs false) (first_functions g.inputs) g.rows 0 (constantly g.inputs false)
      (omega (arith, length_first_functions g.inputs))
      ∙ first_function_false g.inputs

  -- The first vertices have the functions of the constant and the inputs.
  pub function_first : (v : ℕ) → v < suc g.inputs → get_or (functions_of g) v (constantly g.inputs false) ≡ input g.inputs v
  unfolding functions_of
  function_first v h =
      value-kept invert conj (constantly g.inputs false) (first_functions g.inputs) g.rows v (constantly g.inputs false)
      (omega (arith, length_first_functions g.inputs))
      ∙ first_function g.inputs v h

  -- There are as many functions as vertices.
  pub length_functions : length (functions_of g) ≡ suc g.inputs + length g.rows
  unfolding functions_of
  length_functions =
      length_values invert conj (constantly g.inputs false) (first_functions g.inputs) g.rows
      ∙ ap (λ (n : ℕ). n + length g.rows) (length_first_functions g.inputs)

  -- The function of row i's vertex is the conjunction of its literals' functions.
  pub function_row : Downward (1 + g.inputs) g.rows → (i : ℕ) → i < length g.rows
      → get_or (functions_of g) (1 + g.inputs + i) (constantly g.inputs false)
      ≡ row_value invert conj (constantly g.inputs false) (functions_of g) (get_or g.rows i (0, 0))
  unfolding functions_of
  function_row h i l =
      let n : length (first_functions g.inputs) ≡ 1 + g.inputs = length_first_functions g.inputs ∙ omega arith in
      let below = subst (λ (v : ℕ). RowBelow (2 * (v + i)) (get_or g.rows i (0, 0))) (sym n) (h i l) in
      ap (λ (v : ℕ). get_or (functions_of g) (v + i) (constantly g.inputs false)) (sym n)
      ∙ row_value_lem invert conj (constantly g.inputs false) (first_functions g.inputs) g.rows i l below

  -- Given functions of all vertices that begin with those of the constant and the inputs and agree with every row are the vertices' functions.
  pub functions_unique : (fs : List Truth) → Downward (1 + g.inputs) g.rows → length fs ≡ 1 + g.inputs + length g.rows
      → ((v : ℕ) → v < 1 + g.inputs → get_or fs v (constantly g.inputs false) ≡ input g.inputs v)
      → ((i : ℕ) → i < length g.rows
      → get_or fs (1 + g.inputs + i) (constantly g.inputs false)
      ≡ row_value invert conj (constantly g.inputs false) fs (get_or g.rows i (0, 0)))
      → functions_of g ≡ fs
  unfolding functions_of
  functions_unique fs down long first rows =
      let n : length (first_functions g.inputs) ≡ 1 + g.inputs = length_first_functions g.inputs ∙ omega arith in
      values_unique invert conj (constantly g.inputs false) (first_functions g.inputs) g.rows fs (rw n down) (omega arith)
      (λ v h. first v (omega arith) ∙ sym (first_function g.inputs v (omega arith)))
      (λ i h. rw n (rows i h))
