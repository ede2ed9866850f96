-- An AND asked for in the slices: the graph at their front is the definition's, and they hold a graph again.
use Rattle.std.specs.Prelude.{None, Some}
use Prim.Native.Nat.{◌*◌, ◌+◌, ◌<◌, suc, ℕ}
use Rattle.aig.proofs.FirstVertexLaws.{first_vertex-frame, found_at}
use Rattle.aig.proofs.IndexLaws.{enter-keeps, row_length}
use Rattle.aig.specs.Fold.{Unfolded, fold_of}
use Rattle.aig.specs.Literal.{lit, literal_of, negate}
use Rattle.aig.specs.Lookup.{entered, first_vertex, with_row}
use Rattle.aig.specs.declared.fold.Folded.TheVariants.{Pair, To}
use Rattle.aig.specs.declared.literal.Literal.{Literal}
use Rattle.load_model.proofs.AskLaws.{Asked, ask_cases, folded, found, made}
use Rattle.load_model.specs.Build.{Build, Built, ask_and, ask_gate, ask_xor, folded_or_not, found_or_made, inverted}
use Rattle.load_model.specs.Load.{max_vertices}
use Rattle.load_graph.specs.code.Slices.{Counted, Graph, build_of, built_of, counts_after}
use Rattle.load_graph.specs.declared.Counts.{Counts}
use Rattle.load_graph.specs.declared.Ended.TheVariants.{Folded, Found, Made}
use Rattle.load_graph.specs.declared.Ended.{Ended}
use Rattle.netlist_model.specs.Check.{ands_of}
use Rattle.netlist_model.specs.declared.Operation.TheVariants.{And, Or, Xor}
use Rattle.netlist_model.specs.declared.Operation.{Operation}
use Rattle.table.specs.Limits.{max_ands}
use lib.ListN.{length, length-set, set, take}
use lib.Seq.{get_or-take, take-suc-set}
use mathlib.Core.Bool.{false}
use mathlib.Core.List.{List, [], ◌++◌, ◌∷◌, append_assoc}
use mathlib.Core.Path.{◌∙◌, ◌≡◌, ap, refl}
use native.Mathlib.Omega.{arith}

-- The words of the vertices so far, and those of one more.
front-row : (pairs : List ℕ) (v p q : ℕ) → 2 * v + 1 < length pairs → take (2 * (v + 1)) (with_row pairs v p q) ≡ take (2 * v) pairs ++ (p ∷ q ∷ [])
front-row pairs v p q fits =
    let n : 2 * (v + 1) ≡ suc (2 * v + 1) = omega arith in
    let m : 2 * v + 1 ≡ suc (2 * v) = omega arith in
    let l : 2 * v + 1 < length (set pairs (2 * v) p) = rw (length-set pairs (2 * v) p) fits in
    ap (λ (k : ℕ). take k (with_row pairs v p q)) n
    ∙ take-suc-set (set pairs (2 * v) p) (2 * v + 1) q l
    ∙ ap (λ (k : ℕ). take k (set pairs (2 * v) p) ++ (q ∷ [])) m
    ∙ ap (λ (ws : List ℕ). ws ++ (q ∷ [])) (take-suc-set pairs (2 * v) p (omega arith))
    ∙ append_assoc (take (2 * v) pairs) (p ∷ []) (q ∷ [])

-- The literal of a vertex that is not inverted.
plain : (v : ℕ) → 2 * v + 0 ≡ 2 * v
plain v = omega arith

-- The first vertex with a pair is found among the words of the vertices so far.
front-first : (pairs : List ℕ) (p q n : ℕ) → first_vertex (take (2 * n) pairs) p q n ≡ first_vertex pairs p q n
front-first pairs p q n = first_vertex-frame pairs (take (2 * n) pairs) p q n (λ i h. get_or-take (2 * n) pairs i 0 h)

-- The counts keep their bounds.
counted-after : {c : Counts} → Counted c → (ended : Ended) → Counted (counts_after c ended)
counted-after k Folded = record { some = k.some; vertices = omega (arith, k.vertices); folded = omega (arith, k.folded); found = omega (arith, k.found) }
counted-after k Found = record { some = k.some; vertices = omega (arith, k.vertices); folded = omega (arith, k.folded); found = omega (arith, k.found) }
counted-after k Made = record { some = omega arith; vertices = omega (arith, k.vertices); folded = omega (arith, k.folded); found = omega (arith, k.found) }

module _ {pairs look : List ℕ} {c : Counts} (g : Graph pairs look c) (more : c.asked < max_ands) where
  -- There is room for one more vertex.
  pub room-below : c.vertices < max_vertices
  room-below = omega (arith, g.counted.vertices)

  pub row_fits : 2 * c.vertices + 1 < length pairs
  row_fits = omega (arith, g.long, room-below)

  module _ (p q : ℕ) {r : Literal} (e : fold_of p q ≡ To r) where
    -- An AND that folds.
    pub and_folded : built_of r pairs (counts_after c Folded) ≡ ask_and (build_of pairs c) p q
    unfolding ask_and folded_or_not
    and_folded = rw e refl

  module _ {p q : ℕ} (u : Unfolded p q) where
    -- The two literals of a pair differ.
    pub pair-apart : p ≡ q → ⊥
    pair-apart h = omega (arith, u.ordered)

    module _ {v : ℕ} (f : first_vertex pairs p q c.vertices ≡ Some v) where
      -- A vertex that is found is one of the graph.
      pub found_below : v < max_vertices
      found_below = omega (arith, room-below, (found_at pairs p q c.vertices v f).within)

      pub and_found : {r : Literal} → r ≡ lit (literal_of v false)
          → built_of r pairs (counts_after c Found) ≡ found_or_made (build_of pairs c) p q (first_vertex (take (2 * c.vertices) pairs) p q c.vertices)
      unfolding found_or_made
      and_found e = rw (e, front-first pairs p q c.vertices, f, plain v) refl

    module _ (f : first_vertex pairs p q c.vertices ≡ None) where
      pub made-graph : Graph (with_row pairs c.vertices p q) (entered look max_vertices c.vertices p q) (counts_after c Made)
      made-graph =
          record {
            counted = counted-after g.counted Made;
            index = enter-keeps p q g.index pair-apart f g.counted.some room-below row_fits;
            long = rw (row_length pairs c.vertices p q row_fits) g.long;
          }

      pub and-made : {r : Literal} → r ≡ lit (literal_of c.vertices false)
          → built_of r (with_row pairs c.vertices p q) (counts_after c Made)
          ≡ found_or_made (build_of pairs c) p q (first_vertex (take (2 * c.vertices) pairs) p q c.vertices)
      unfolding found_or_made
      and-made e = rw (e, front-first pairs p q c.vertices, f, front-row pairs c.vertices p q row_fits, plain c.vertices) refl

-- An AND that does not fold.
pub and-pair : (b : Build) (p q : ℕ) {x y : Literal} {r : Built} → fold_of p q ≡ Pair x y
    → r ≡ found_or_made b x.0 y.0 (first_vertex b.words x.0 y.0 b.count) → r ≡ ask_and b p q
unfolding ask_and folded_or_not
and-pair b p q e h = rw e h

-- Each AND is counted.
and_asked : (b : Build) (p q : ℕ) → (ask_and b p q).build.asked ≡ b.asked + 1
and_asked b p q = go (ask_cases b p q)
  where
    go : {x : Built} → Asked b p q x → x.build.asked ≡ b.asked + 1
    go (folded e) = refl
    go (found e f) = refl
    go (made e f) = refl

module _ (b : Build) (p q : ℕ) where
  pub asked-one : {x : Built} → x ≡ ask_and b p q → x.build.asked ≡ b.asked + 1
  asked-one e = ap (λ (x : Built). x.build.asked) e ∙ and_asked b p q

  -- The ANDs that a gate stands for, asked for one after the other.
  pub or-built :
      {x : Built} {not_p not_q : Literal} → not_p ≡ lit (negate p) → not_q ≡ lit (negate q) → x ≡ ask_and b not_p.0 not_q.0
      → inverted x ≡ ask_gate b Or p q
  unfolding ask_gate
  or-built np nq e = rw (np, nq) at (ap inverted e)

  pub xor_built :
      {one two three : Built} {not_p not_q not_one not_two : Literal}
      → not_q ≡ lit (negate q) → one ≡ ask_and b p not_q.0 → not_p ≡ lit (negate p) → two ≡ ask_and one.build not_p.0 q
      → not_one ≡ lit (negate one.literal) → not_two ≡ lit (negate two.literal) → three ≡ ask_and two.build not_one.0 not_two.0
      → inverted three ≡ ask_xor b p q
  unfolding ask_xor
  xor_built nq e np f n1 n2 g = rw (n1, n2, f, np, e, nq) at (ap inverted g)

-- The ANDs of a gate are counted.
pub gate-asked : (b : Build) (op : Operation) (p q : ℕ) → (ask_gate b op p q).build.asked ≡ b.asked + ands_of op
unfolding ask_gate ask_xor
gate-asked b And p q = and_asked b p q
gate-asked b Or p q = and_asked b (negate p) (negate q)
gate-asked b Xor p q =
    let one = ask_and b p (negate q) in
    let two = ask_and one.build (negate p) q in
    omega (
      arith,
      and_asked b p (negate q),
      and_asked one.build (negate p) q,
      and_asked two.build (negate one.literal) (negate two.literal),
    )
