-- The gates of a file, over bits or functions: values of all vertices, and the ANDs that gates stand for.
use Prim.Native.Nat.{◌*◌, ◌+◌, ◌<◌, suc, ℕ}
use Rattle.aig.proofs.LiteralLaws.{vertex-below}
use Rattle.aig.specs.Literal.{vertex_of}
use Rattle.aig.specs.Values.{literal_value}
use Rattle.netlist_model.specs.Check.{ands_of}
use Rattle.netlist_model.specs.Meaning.{and_count, and_result, ands_from, gate_ands, gate_result, vertex_results}
use Rattle.netlist_model.specs.Netlist as netlist
use Rattle.netlist_model.specs.Netlist.{Downward, Gate}
use Rattle.netlist_model.specs.declared.Operation.TheVariants.{And, Or, Xor}
use Rattle.netlist_model.specs.declared.Operation.{Operation}
use lib.ListN.{get_or-append, get_or, length, length-append}
use lib.Seq.{get_or_at}
use mathlib.Core.List.{List, [], ◌++◌, ◌∷◌}
use mathlib.Core.Path.{◌∙◌, ◌≡◌, ap₂, refl, sym}
use native.Mathlib.Omega.{arith}

-- The gates after some others.
pub downward-after : (v : ℕ) (gs : List Gate) {hs : List Gate} → Downward v (gs ++ hs) → Downward (v + length gs) hs
downward-after v [] d = let z : v ≡ v + 0 = omega arith in rw z at d
downward-after v (g ∷ gs) (netlist.Downward.gate p q d) =
    let z : suc v + length gs ≡ v + suc (length gs) = omega arith in
    rw z at (downward-after (suc v) gs d)

module _ {A : Type 0} (inverse : A → A) (both : A → A → A) where
  -- A gate stands for as many ANDs as are counted.
  gate_ands_length : (op : Operation) (x y : A) → length (gate_ands inverse both op x y) ≡ ands_of op
  unfolding gate_ands
  gate_ands_length And x y = refl
  gate_ands_length Or x y = refl
  gate_ands_length Xor x y = refl

  -- The operands of the third AND of an exclusive or are the inversions of the results of the first two.
  pub third-and :
      (x y : A)
      → gate_ands inverse both Xor x y
      ≡ (x, inverse y) ∷ (inverse x, y) ∷ (inverse (and_result both (x, inverse y)), inverse (and_result both (inverse x, y))) ∷ []
  unfolding gate_ands
  third-and x y = refl

module _ {A : Type 0} (inverse : A → A) (both : A → A → A) (falsum : A) (operation : Operation → A → A → A) where
  abbrev pub results : List A → List Gate → List A
  results vs gs = vertex_results inverse both falsum operation vs gs

  abbrev pub ands : List A → List Gate → List (A × A)
  ands vs gs = ands_from inverse both falsum operation vs gs

  abbrev pub result : List A → Gate → A
  result vs g = gate_result inverse both falsum operation vs g

  -- The gates of two lists, one after the other.
  pub results_append : (vs : List A) (gs hs : List Gate) → results vs (gs ++ hs) ≡ results (results vs gs) hs
  unfolding vertex_results
  results_append vs [] hs = refl
  results_append vs (g ∷ gs) hs = results_append (vs ++ result vs g ∷ []) gs hs

  -- There are as many ANDs as are counted.
  pub ands_length : (vs : List A) (gs : List Gate) → length (ands vs gs) ≡ and_count gs
  unfolding ands_from and_count
  ands_length vs [] = refl
  ands_length vs (g ∷ gs) = rw (length-append, gate_ands_length, ands_length (vs ++ result vs g ∷ []) gs) refl

  -- There is a value for each vertex.
  pub results_length : (vs : List A) (gs : List Gate) → length (results vs gs) ≡ length vs + length gs
  unfolding vertex_results
  results_length vs [] = omega arith
  results_length vs (g ∷ gs) = results_length (vs ++ result vs g ∷ []) gs ∙ omega (arith, length-append vs (result vs g ∷ []))

  -- The gates keep the values of the vertices below them.
  pub results_keep : (vs : List A) (gs : List Gate) (v : ℕ) → v < length vs → get_or (results vs gs) v falsum ≡ get_or vs v falsum
  unfolding vertex_results
  results_keep vs [] v h = refl
  results_keep vs (g ∷ gs) v h =
      let x = result vs g in
      results_keep (vs ++ x ∷ []) gs v (omega (arith, length-append vs (x ∷ []))) ∙ get_or-append vs (x ∷ []) falsum v h

  -- And of the references to them.
  pub references-keep :
      (vs : List A) (gs : List Gate) (r : ℕ) → r < 2 * length vs
      → literal_value inverse both falsum (results vs gs) r ≡ literal_value inverse both falsum vs r
  references-keep vs gs r h = rw (results_keep vs gs (vertex_of r) (vertex-below r (length vs) h)) refl

  -- The first gate after some vertices has its result.
  next-result : (vs : List A) (g : Gate) (hs : List Gate) → get_or (results vs (g ∷ hs)) (length vs) falsum ≡ result vs g
  unfolding vertex_results
  next-result vs g hs =
      let x = result vs g in
      results_keep (vs ++ x ∷ []) hs (length vs) (omega (arith, length-append vs (x ∷ []))) ∙ get_or_at vs x [] falsum (length vs) refl

  -- It is the same among all vertices.
  downward-result :
      (vs : List A) (g : Gate) (hs : List Gate) → Downward (length vs) (g ∷ hs) → result vs g ≡ result (results vs (g ∷ hs)) g
  downward-result vs g hs (netlist.Downward.gate p q d) =
      sym (ap₂ (operation g.op) (references-keep vs (g ∷ hs) g.p p) (references-keep vs (g ∷ hs) g.q q))

  -- With references downwards, a gate has its operation's result of its references among all vertices.
  pub gate-result :
      (vs : List A) (gs : List Gate) (g : Gate) (hs : List Gate) → Downward (length vs) (gs ++ g ∷ hs)
      → get_or (results vs (gs ++ g ∷ hs)) (length vs + length gs) falsum ≡ result (results vs (gs ++ g ∷ hs)) g
  gate-result vs gs g hs d =
      rw (results_append vs gs (g ∷ hs), ← results_length vs gs)
      (next-result (results vs gs) g hs
      ∙ downward-result (results vs gs) g hs (rw (← results_length vs gs) at (downward-after (length vs) gs d)))
