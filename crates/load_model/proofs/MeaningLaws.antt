-- What literals of the graph mean, over any domain: gates, files and both files, by the values of the graph that is left in the end.
use Prim.Native.Nat.{◌*◌, ◌+◌, ◌<◌, ◌≤◌, suc, zero, ℕ}
use Rattle.aig.proofs.FoldLaws.{pair_operands, pair-unfolded}
use Rattle.aig.proofs.PairsLaws.{pair_map}
use Rattle.aig.proofs.ValuesLaws.{pair-means, to-means, value-literal, value-negate, value-onto}
use Rattle.aig.specs.Literal.{negate, vertex_of}
use Rattle.aig.specs.Values.{literal_value}
use Rattle.load_model.proofs.AskLaws.{Asked, ask_cases, first_word-kept, folded, found, holds-new, made, second_word-kept}
use Rattle.load_model.proofs.FromLaws.{from_append, from-none}
use Rattle.load_model.proofs.GateLaws.{after_gate-ready, after_gate, gates_step, literal_for-below, xor_one_lem, xor_three_lem, xor_two_lem, xor_one, xor_two}
use Rattle.load_model.proofs.GrownLaws.{grown-none, grown-one, grown-then}
use Rattle.load_model.proofs.RowLaws.{holds-made}
use Rattle.load_model.specs.Build.{Build, Built, Traced, ask_and, ask_gate, ask_gates, ask_xor, inverted, literal_for}
use Rattle.load_model.specs.code.From as origins
use Rattle.load_model.specs.code.Good.{Good}
use Rattle.load_model.specs.code.Grown.{Ready, Step, row_words}
use Rattle.load_model.specs.code.Valued.{Follows, Origin, StandsFor, Valuation, Valued, by_ands, operands_of}
use Rattle.netlist_model.specs.Meaning.{ands_from, from_ands, gate_ands, gate_result, vertex_results}
use Rattle.netlist_model.specs.Netlist.{Gate}
use Rattle.netlist_model.specs.declared.Operation.TheVariants.{And, Or, Xor}
use Rattle.netlist_model.specs.declared.Operation.{Operation}
use lib.ListN.{get_or, length, length-append}
use mathlib.Core.Bool.{false}
use mathlib.Core.List.{List, [], ◌++◌, ◌∷◌, map-append}
use mathlib.Core.Path.{◌∙◌, ◌≡◌, ap, ap₂, refl}
use native.Mathlib.Omega.{arith}

module _ {A : Type 0} {Sound : A → Type 0} {invert : A → A} {both : A → A → A} {falsum : A} {vs : List A}
    (val : Valuation Sound invert both falsum vs) where
  value : ℕ → A
  value r = literal_value invert both falsum vs r

  origin-none : {b c : Build} → c.words ≡ b.words → c.count ≡ b.count → (ands : List (A × A)) → Origin invert both falsum vs b c ands
  origin-none e n ands = record { rows = []; grown = grown-none e n; from = from-none ands }

  -- Rows after rows come from ANDs after ANDs.
  pub origin_then : {b c d : Build} {xs ys : List (A × A)} → Origin invert both falsum vs b c xs → Origin invert both falsum vs c d ys
      → Origin invert both falsum vs b d (xs ++ ys)
  origin_then {xs = xs} {ys} f g =
      record {
        rows = f.rows ++ g.rows;
        grown = grown-then f.grown g.grown;
        from = rw (map-append (operands_of invert both falsum vs) f.rows g.rows) (from_append f.from g.from);
      }

  -- What a literal of the graph means, and the ANDs that the rows come from.
  record Means (b : Build) (x : Built) (result : A) (ands : List (A × A)) : Type 0 where
    literal : literal_value invert both falsum vs x.literal ≡ result
    origin : Origin invert both falsum vs b x.build ands

  -- A vertex's own literal.
  pub value-vertex : (v : ℕ) → literal_value invert both falsum vs (2 * v) ≡ get_or vs v falsum
  value-vertex v =
      let e : 2 * v ≡ 2 * v + 0 = omega arith in
      ap (literal_value invert both falsum vs) e ∙ value-literal invert both falsum vs v false

  -- The values of more vertices are values of fewer.
  pub valued-before : {n k : ℕ} {b c : Build} → Good n b → Step n b k c → Valued invert both falsum vs n c → Valued invert both falsum vs n b
  valued-before {n} {k} {b} {c} g s w v h l =
      let fits : 2 * (v + 1) ≤ length b.words = omega (arith, g.sized) in
      let more : List ℕ = row_words s.rows in
      let e : c.words ≡ b.words ++ more = s.grown.words in
      w v h (omega (arith, s.grown.count))
      ∙ rw (e, first_word-kept b.words more v fits, second_word-kept b.words more v fits) refl

  -- An AND asked for has the value of the AND of its operands; its row, if it is made, comes from it.
  ask_means : {n : ℕ} {b : Build} (g : Good n b) (p q : ℕ) → Valued invert both falsum vs n (ask_and b p q).build
      → Means b (ask_and b p q) (both (value p) (value q)) ((value p, value q) ∷ [])
  unfolding value
  ask_means {n} {b} g p q w = go (ask_cases b p q) w
    where
      go : {x : Built} → Asked b p q x → Valued invert both falsum vs n x.build → Means b x (both (value p) (value q)) ((value p, value q) ∷ [])
      go (folded e) w =
          record { literal = to-means val.laws vs val.sound val.constant p q e; origin = origin-none refl refl ((value p, value q) ∷ []) }
      go (found {v = v} e f) w =
          record {
            literal =
                value-vertex v
                ∙ w v (holds-made g f.holds (pair-unfolded p q e).ordered) f.within
                ∙ ap₂ both (ap value f.holds.first) (ap value f.holds.second)
                ∙ pair-means val.laws vs val.sound val.constant p q e;
            origin = origin-none refl refl ((value p, value q) ∷ []);
          }
      go (made {x = x} {y = y} e unused) w =
          let h = holds-new b.words b.count x.0 y.0 g.sized in
          record {
            literal =
                value-vertex b.count
                ∙ w b.count (omega (arith, g.first)) (omega arith)
                ∙ ap₂ both (ap value h.first) (ap value h.second)
                ∙ pair-means val.laws vs val.sound val.constant p q e;
            origin =
                record {
                  rows = (x.0, y.0) ∷ [];
                  grown = grown-one refl refl;
                  from = origins.made (pair_map value (pair_operands p q e)) origins.none;
                };
          }

  value_not : (r : ℕ) → literal_value invert both falsum vs (negate r) ≡ invert (literal_value invert both falsum vs r)
  value_not r = value-negate val.laws vs val.sound r

  means-inverted : {b : Build} {x : Built} {result : A} {ands : List (A × A)} → Means b x result ands → Means b (inverted x) (invert result) ands
  means-inverted {x = x} m = record { literal = value_not x.literal ∙ ap invert m.literal; origin = m.origin }

  -- A gate has the value by the ANDs that it stands for, and its rows come from them.
  gate-means : {n : ℕ} {b : Build} (g : Good n b) (p q : ℕ) (hp : p < 2 * b.count) (hq : q < 2 * b.count) (op : Operation)
      → Valued invert both falsum vs n (ask_gate b op p q).build
      → Means b (ask_gate b op p q) (by_ands invert both falsum op (value p) (value q)) (gate_ands invert both op (value p) (value q))
  unfolding value ask_gate ask_xor from_ands gate_ands
  gate-means g p q hp hq And w = ask_means g p q w
  gate-means g p q hp hq Or w = means-inverted (rw (value_not p, value_not q) at (ask_means g (negate p) (negate q) w))
  gate-means {b = b} g p q hp hq Xor w =
      let two = xor_two_lem g p q hp hq in
      let w₂ = valued-before two.good (xor_three_lem g p q hp hq) w in
      let w₁ = valued-before (xor_one_lem g p q hp hq).good two w₂ in
      let m₁ = rw (value_not q) at (ask_means g p (negate q) w₁) in
      let m₂ = rw (value_not p) at (ask_means (xor_one_lem g p q hp hq).good (negate p) q w₂) in
      let m₃ = ask_means two.good (negate (xor_one b p q).literal) (negate (xor_two b p q).literal) w in
      let m = rw (value_not (xor_one b p q).literal ∙ ap invert m₁.literal, value_not (xor_two b p q).literal ∙ ap invert m₂.literal) at m₃ in
      means-inverted (record { literal = m.literal; origin = origin_then m₁.origin (origin_then m₂.origin m.origin) })

  -- Where a file's vertices have their values, so have its references.
  pub literal_for-means : {t : Traced} {us : List A} → Follows invert both falsum vs t us → (r : ℕ)
      → literal_value invert both falsum vs (literal_for t.literals r) ≡ literal_value invert both falsum us r
  literal_for-means {t} {us} f r =
      value-onto val.laws vs val.sound (get_or t.literals (vertex_of r) 0) r ∙ rw (f.each (vertex_of r)) refl

  more-each : (rs : List ℕ) (us : List A) (r : ℕ) (x : A) → length rs ≡ length us → ((i : ℕ) → value (get_or rs i 0) ≡ get_or us i falsum)
      → value r ≡ x → (i : ℕ) → value (get_or (rs ++ (r ∷ [])) i 0) ≡ get_or (us ++ (x ∷ [])) i falsum
  unfolding value
  more-each [] [] r x e h k zero = k
  more-each [] [] r x e h k (suc i) = val.constant
  more-each [] (u ∷ us) r x e h k i = absurd (omega arith)
  more-each (s ∷ rs) [] r x e h k i = absurd (omega arith)
  more-each (s ∷ rs) (u ∷ us) r x e h k zero = h 0
  more-each (s ∷ rs) (u ∷ us) r x e h k (suc i) = more-each rs us r x (omega arith) (λ j. h (suc j)) k i

  module _ (operation : Operation → A → A → A) (same : StandsFor invert both falsum operation) where
    after_gate-means : {n : ℕ} {t : Traced} {us : List A} → Ready n t → Follows invert both falsum vs t us → (x : Gate)
        → Valued invert both falsum vs n (after_gate t x).build
        → Means t.build (ask_gate t.build x.op (literal_for t.literals x.p) (literal_for t.literals x.q))
        (gate_result invert both falsum operation us x)
        (gate_ands invert both x.op (literal_value invert both falsum us x.p) (literal_value invert both falsum us x.q))
    unfolding value
    after_gate-means {t = t} {us} h f x w =
        let p = literal_for t.literals x.p in
        let q = literal_for t.literals x.q in
        let m = gate-means h.good p q (literal_for-below h x.p) (literal_for-below h x.q) x.op w in
        let y = literal_value invert both falsum us x.p in
        let z = literal_value invert both falsum us x.q in
        rw (literal_for-means f x.p, literal_for-means f x.q, ← same x.op y z) at m

    -- The gates of a file have their values, and their rows come from their ANDs.
    pub gates_mean : {n : ℕ} {t : Traced} {us : List A} → Ready n t → Follows invert both falsum vs t us → (gs : List Gate)
        → Valued invert both falsum vs n (ask_gates t gs).build
        → Follows invert both falsum vs (ask_gates t gs) (vertex_results invert both falsum operation us gs)
        × Origin invert both falsum vs t.build (ask_gates t gs).build (ands_from invert both falsum operation us gs)
    unfolding ask_gates vertex_results ands_from value
    gates_mean {n = n} {t = t} {us = us} h f [] w = (f, origin-none refl refl [])
    gates_mean {n = n} {t = t} {us = us} h f (x ∷ gs) w =
        let r = after_gate-ready h x in
        let m = after_gate-means h f x (valued-before r.good (gates_step r gs) w) in
        let y : A = gate_result invert both falsum operation us x in
        let next : Follows invert both falsum vs (after_gate t x) (us ++ (y ∷ [])) =
        record {
          count = simp length-append (ap (λ (k : ℕ). k + 1) f.count);
          each = more-each t.literals us _ y f.count f.each m.literal;
        } in
        let rest = gates_mean {n = n} {t = after_gate t x} {us = us ++ (y ∷ [])} r next gs w in
        (rest.0, origin_then m.origin rest.1)
