-- The values of a graph's vertices, over any domain: bits on one setting, or Boolean functions.
use Rattle.std.specs.Prelude.{ℕ, List, [], ◌++◌, ◌∷◌, ◌≡◌}
use Rattle.aig.specs.Values.{literal_value}

-- "two words a made vertex": its two literals. (RULES 4.1)
abbrev pub Pair : Type 0
Pair = ℕ × ℕ

module _ {A : Type 0} (invert : A → A) (both : A → A → A) (falsum : A) where
  -- "each row an `and`": the AND of the values of its two literals. (RULES 4.4)
  abbrev pub row_value : List A → Pair → A
  row_value vs r = both (literal_value invert both falsum vs r.0) (literal_value invert both falsum vs r.1)

  -- The values of the first vertices, and after them, upwards, the value of each row.
  unfoldable pub vertex_values : List A → List Pair → List A
  vertex_values vs [] = vs
  vertex_values vs (r ∷ rs) = vertex_values (vs ++ (row_value vs r ∷ [])) rs

-- A map between two domains that keeps inversion, AND and false.
pub record Homomorphism {A B : Type 0} (invert : A → A) (both : A → A → A) (falsum : A) (invert' : B → B) (both' : B → B → B) (falsum' : B)
    (h : A → B) : Type 0 where
  pub keeps-invert : (x : A) → h (invert x) ≡ invert' (h x)
  pub keeps-both : (x y : A) → h (both x y) ≡ both' (h x) (h y)
  pub keeps_false : h falsum ≡ falsum'
