-- The values of vertices over any domain: more rows, one row's value, a row replaced, and maps between domains.
use Rattle.std.proofs.lemmas.Grind.{common_steps}
use Prim.Native.Nat.{◌*◌, ◌+◌, ◌-◌, ◌<◌, suc, zero, ℕ}
use Rattle.aig.proofs.LiteralLaws.{vertex-below}
use Rattle.aig.proofs.ValuesLaws.{value-good}
use Rattle.aig.specs.Literal.{inverted?, vertex_of}
use Rattle.aig.specs.Values.{Algebra, AllGood, literal_value}
use Rattle.table.specs.Accepted.{Downward, RowBelow}
use Rattle.table.specs.Values.{Homomorphism, Pair, row_value, vertex_values}
use Rattle.std.proofs.lemmas.List.{map-append}
use lib.ListN.{get_or-append, get_or-map, drop, get_or, length, length-append, set, take}
use lib.Seq.{ext_get_or, get_or-append_seam, length-take-le, set_split, split_at}
use mathlib.Core.Bool.{Bool, cond, false, true}
use mathlib.Core.List.{List, [], ◌++◌, ◌∷◌, map}
use mathlib.Core.Path.{◌∙◌, ◌≡◌, ap, ap₂, refl, sym}
use native.Mathlib.Decide.{dec_lt}
use native.Mathlib.Omega.{arith}

module _ {A : Type 0} (invert : A → A) (both : A → A → A) (falsum : A) where
  -- The values of more rows are found from those of the rows before.
  pub values_append : (vs : List A) (rs qs : List Pair)
      → vertex_values invert both falsum vs (rs ++ qs) ≡ vertex_values invert both falsum (vertex_values invert both falsum vs rs) qs
  unfolding vertex_values
  values_append vs [] qs = refl
  values_append vs (r ∷ rs) qs = values_append (vs ++ (row_value invert both falsum vs r ∷ [])) rs qs

  -- Each row adds one value.
  pub length_values : (vs : List A) (rs : List Pair) → length (vertex_values invert both falsum vs rs) ≡ length vs + length rs
  unfolding vertex_values
  length_values vs [] = omega arith
  length_values vs (r ∷ rs) =
      omega (arith, length_values (vs ++ (row_value invert both falsum vs r ∷ [])) rs, length-append vs (row_value invert both falsum vs r ∷ []))

  -- Rows do not change the values before them.
  pub value-kept : (vs : List A) (rs : List Pair) (v : ℕ) (d : A) → v < length vs → get_or (vertex_values invert both falsum vs rs) v d ≡ get_or vs v d
  unfolding vertex_values
  value-kept vs [] v d h = refl
  value-kept vs (r ∷ rs) v d h =
      value-kept (vs ++ (row_value invert both falsum vs r ∷ [])) rs v d (omega (arith, length-append vs (row_value invert both falsum vs r ∷ [])))
      ∙ get_or-append vs (row_value invert both falsum vs r ∷ []) d v h

  -- Appended rows do not change the values of the vertices that were there.
  pub value_appended : (vs : List A) (rs qs : List Pair) (v : ℕ) (d : A) → v < length vs + length rs
      → get_or (vertex_values invert both falsum vs (rs ++ qs)) v d ≡ get_or (vertex_values invert both falsum vs rs) v d
  value_appended vs rs qs v d h =
      rw (values_append vs rs qs) (value-kept (vertex_values invert both falsum vs rs) qs v d (omega (arith, length_values vs rs)))

  pub literal_appended : (vs : List A) (rs qs : List Pair) (r : ℕ) → vertex_of r < length vs + length rs
      → literal_value invert both falsum (vertex_values invert both falsum vs (rs ++ qs)) r
      ≡ literal_value invert both falsum (vertex_values invert both falsum vs rs) r
  literal_appended vs rs qs r h = rw (value_appended vs rs qs (vertex_of r) falsum h)

  module _ (vs : List A) where
    -- A row after some rows has the value of its AND there.
    pub row_made : (rs : List Pair) (r : Pair) (qs : List Pair)
        → get_or (vertex_values invert both falsum vs (rs ++ r ∷ qs)) (length vs + length rs) falsum
        ≡ row_value invert both falsum (vertex_values invert both falsum vs rs) r
    unfolding vertex_values
    row_made rs r qs =
        let us : List A = vertex_values invert both falsum vs rs in
        let n : length us ≡ length vs + length rs = length_values vs rs in
        let x : A = row_value invert both falsum us r in
        rw (values_append vs rs (r ∷ qs), ← n)
        (value-kept (us ++ (x ∷ [])) qs (length us) falsum (omega (arith, length-append us (x ∷ []))) ∙ get_or-append_seam us x [] falsum)

    -- A row may be replaced by one whose AND has the same value given the values before it.
    pub row_replaced : (rs : List Pair) (r q : Pair) (qs : List Pair)
        → row_value invert both falsum (vertex_values invert both falsum vs rs) r ≡ row_value invert both falsum (vertex_values invert both falsum vs rs) q
        → vertex_values invert both falsum vs (rs ++ r ∷ qs) ≡ vertex_values invert both falsum vs (rs ++ q ∷ qs)
    unfolding vertex_values
    row_replaced rs r q qs e = rw (values_append vs rs (r ∷ qs), values_append vs rs (q ∷ qs), e) refl

    module _ (rs : List Pair) (i : ℕ) (h : i < length rs) where
      -- The literals below vertex i's have their values before its row is reached.
      pub literal_early : (r : ℕ) → r < 2 * (length vs + i)
          → literal_value invert both falsum (vertex_values invert both falsum vs rs) r
          ≡ literal_value invert both falsum (vertex_values invert both falsum vs (take i rs)) r
      literal_early r l =
          let n : length (take i rs) ≡ i = length-take-le i rs (omega arith) in
          let e : rs ≡ take i rs ++ get_or rs i (0, 0) ∷ drop (suc i) rs = split_at rs i (0, 0) h in
          ap (λ (l : List Pair). literal_value invert both falsum (vertex_values invert both falsum vs l) r) e
          ∙ literal_appended vs (take i rs) (get_or rs i (0, 0) ∷ drop (suc i) rs) r (rw n (vertex-below r (length vs + i) l))

      row_early : (r : Pair) → RowBelow (2 * (length vs + i)) r
          → row_value invert both falsum (vertex_values invert both falsum vs rs) r ≡ row_value invert both falsum (vertex_values invert both falsum vs (take i rs)) r
      row_early r l = ap₂ both (literal_early r.0 l.first) (literal_early r.1 l.second)

      -- The vertex of row i has the value of its AND, given the values of all vertices.
      pub row_value_lem : RowBelow (2 * (length vs + i)) (get_or rs i (0, 0))
          → get_or (vertex_values invert both falsum vs rs) (length vs + i) falsum
          ≡ row_value invert both falsum (vertex_values invert both falsum vs rs) (get_or rs i (0, 0))
      row_value_lem l =
          let n : length (take i rs) ≡ i = length-take-le i rs (omega arith) in
          let e : rs ≡ take i rs ++ get_or rs i (0, 0) ∷ drop (suc i) rs = split_at rs i (0, 0) h in
          ap₂ (λ (l : List Pair) (k : ℕ). get_or (vertex_values invert both falsum vs l) (length vs + k) falsum) e (sym n)
          ∙ row_made (take i rs) (get_or rs i (0, 0)) (drop (suc i) rs)
          ∙ sym (row_early (get_or rs i (0, 0)) l)

      -- Row i may be replaced by one below its vertex whose AND has the same value given the values of all vertices.
      pub row_set : (q : Pair) → RowBelow (2 * (length vs + i)) (get_or rs i (0, 0)) → RowBelow (2 * (length vs + i)) q
          → row_value invert both falsum (vertex_values invert both falsum vs rs) (get_or rs i (0, 0)) ≡ row_value invert both falsum (vertex_values invert both falsum vs rs) q
          → vertex_values invert both falsum vs (set rs i q) ≡ vertex_values invert both falsum vs rs
      row_set q l k e =
          rw (set_split rs i q h)
          (row_replaced (take i rs) q (get_or rs i (0, 0)) (drop (suc i) rs)
          (sym (row_early q k) ∙ sym e ∙ row_early (get_or rs i (0, 0)) l)
          ∙ ap (vertex_values invert both falsum vs) (sym (split_at rs i (0, 0) h)))

      -- So each operand may be replaced by one of equal value.
      pub operands_set : (q : Pair) → RowBelow (2 * (length vs + i)) (get_or rs i (0, 0)) → RowBelow (2 * (length vs + i)) q
          → literal_value invert both falsum (vertex_values invert both falsum vs rs) (get_or rs i (0, 0)).0
          ≡ literal_value invert both falsum (vertex_values invert both falsum vs rs) q.0
          → literal_value invert both falsum (vertex_values invert both falsum vs rs) (get_or rs i (0, 0)).1
          ≡ literal_value invert both falsum (vertex_values invert both falsum vs rs) q.1
          → vertex_values invert both falsum vs (set rs i q) ≡ vertex_values invert both falsum vs rs
      operands_set q l k e f = row_set q l k (ap₂ both e f)

  -- Given values of all vertices that begin with the first ones and agree with every row are the vertices' values.
  pub values_unique : (vs : List A) (rs : List Pair) (us : List A) → Downward (length vs) rs → length us ≡ length vs + length rs
      → ((v : ℕ) → v < length vs → get_or us v falsum ≡ get_or vs v falsum)
      → ((i : ℕ) → i < length rs → get_or us (length vs + i) falsum ≡ row_value invert both falsum us (get_or rs i (0, 0)))
      → vertex_values invert both falsum vs rs ≡ us
  values_unique vs rs us down long first rows =
      ext_get_or falsum ws us (length_values vs rs ∙ sym long) (λ v h. up_to (suc v) v (omega arith) (omega (arith, length_values vs rs)))
    where
      ws : List A
      ws = vertex_values invert both falsum vs rs

      up_to : (n v : ℕ) → v < n → v < length vs + length rs → get_or ws v falsum ≡ get_or us v falsum
      up_to zero v h l = absurd (omega arith)
      up_to (suc n) v h l =
          elim (dec_lt v (length vs)) [
            | yes k ↦ value-kept vs rs v falsum k ∙ sym (first v k)
            | no k ↦ later (λ r m. rw (up_to n (vertex_of r) (omega arith) (omega arith)) refl) (v - length vs) (omega arith) (omega arith)
          ]
        where
          later : ((r : ℕ) → r < 2 * v → literal_value invert both falsum ws r ≡ literal_value invert both falsum us r)
              → (i : ℕ) → i < length rs → length vs + i ≡ v → get_or ws v falsum ≡ get_or us v falsum
          later same i k e =
              let b = down i k in
              ap (λ (w : ℕ). get_or ws w falsum) (sym e)
              ∙ row_value_lem vs rs i k b
              ∙ ap₂ both (same (get_or rs i (0, 0)).0 (omega (arith, b.first))) (same (get_or rs i (0, 0)).1 (omega (arith, b.second)))
              ∙ sym (rows i k)
              ∙ ap (λ (w : ℕ). get_or us w falsum) e

-- Good values stay good.
module _ {A : Type 0} {Good : A → Type 0} {invert : A → A} {both : A → A → A} {falsum : A} (L : Algebra Good invert both falsum) where
  good_append : (vs : List A) (x : A) → AllGood Good falsum vs → Good x → AllGood Good falsum (vs ++ (x ∷ []))
  good_append vs x good g = grind (arith, common_steps)

  pub values-good : (vs : List A) (rs : List Pair) → AllGood Good falsum vs → AllGood Good falsum (vertex_values invert both falsum vs rs)
  unfolding vertex_values
  values-good vs [] good = good
  values-good vs (r ∷ rs) good =
      values-good (vs ++ (row_value invert both falsum vs r ∷ [])) rs
      (good_append vs _ good (L.good-both _ _ (value-good L vs good r.0) (value-good L vs good r.1)))

-- A map over two lists, one after the other, is the one over each.
pub map_append : {A B : Type 0} (h : A → B) (us vs : List A) → map h (us ++ vs) ≡ map h us ++ map h vs
map_append h us vs = map-append h us vs

-- A homomorphism keeps all values.
module _ {A B : Type 0} {invert : A → A} {both : A → A → A} {falsum : A} {invert' : B → B} {both' : B → B → B} {falsum' : B} {h : A → B}
    (H : Homomorphism invert both falsum invert' both' falsum' h) where
  pub literal-mapped : (vs : List A) (r : ℕ) → h (literal_value invert both falsum vs r) ≡ literal_value invert' both' falsum' (map h vs) r
  literal-mapped vs r =
      let e : h (get_or vs (vertex_of r) falsum) ≡ get_or (map h vs) (vertex_of r) falsum'
      = sym (get_or-map h vs (vertex_of r) falsum) ∙ ap (get_or (map h vs) (vertex_of r)) H.keeps_false
      in rw (← e) (go (inverted? r) (get_or vs (vertex_of r) falsum))
    where
      go : (b : Bool) (x : A) → h (cond b (invert x) x) ≡ cond b (invert' (h x)) (h x)
      go true x = H.keeps-invert x
      go false x = refl

  pub values-mapped : (vs : List A) (rs : List Pair) → map h (vertex_values invert both falsum vs rs) ≡ vertex_values invert' both' falsum' (map h vs) rs
  unfolding vertex_values
  values-mapped vs [] = refl
  values-mapped vs (r ∷ rs) =
      values-mapped (vs ++ (row_value invert both falsum vs r ∷ [])) rs
      ∙ ap (λ (us : List B). vertex_values invert' both' falsum' us rs)
      (map_append h vs (row_value invert both falsum vs r ∷ [])
      ∙ ap (λ (x : B). map h vs ++ (x ∷ [])) (H.keeps-both _ _ ∙ ap₂ both' (literal-mapped vs r.0) (literal-mapped vs r.1)))
