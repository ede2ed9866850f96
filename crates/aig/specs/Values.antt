-- The value of a literal, over any domain: bits on one setting, or Boolean functions.
use Rattle.std.specs.Prelude.{ℕ, get_or, cond, List, ◌≡◌}
use Rattle.aig.specs.Literal.{inverted?, vertex_of}

module _ {A : Type 0} (invert : A → A) (both : A → A → A) (falsum : A) where
  -- The value of a literal, given the values of the vertices in the order of their numbers. (RULES 1.10)
  abbrev pub literal_value : List A → ℕ → A
  literal_value vs r = cond (inverted? r) (invert (get_or vs (vertex_of r) falsum)) (get_or vs (vertex_of r) falsum)

-- The values of all vertices are good.
abbrev pub AllGood : {A : Type 0} → (A → Type 0) → A → List A → Type 0
AllGood Good falsum vs = (v : ℕ) → Good (get_or vs v falsum)

-- The laws of inversion, AND and false that folding uses. They are asked of good values only: truth tables obey them where they have one depth.
pub record Algebra {A : Type 0} (Good : A → Type 0) (invert : A → A) (both : A → A → A) (falsum : A) : Type 0 where
  pub good_false : Good falsum
  pub good-invert : (x : A) → Good x → Good (invert x)
  pub good-both : (x y : A) → Good x → Good y → Good (both x y)
  pub invert-invert : (x : A) → Good x → invert (invert x) ≡ x
  pub both_comm : (x y : A) → Good x → Good y → both x y ≡ both y x
  pub both-self : (x : A) → Good x → both x x ≡ x
  pub both-inverse : (x : A) → Good x → both x (invert x) ≡ falsum
  pub both_false : (x : A) → Good x → both falsum x ≡ falsum
  pub both_true : (x : A) → Good x → both (invert falsum) x ≡ x
