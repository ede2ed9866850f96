-- One AND asked for: how it ends, and that the graph stays good.
use Rattle.std.specs.Prelude.{Option, None, Some}
use Prim.Native.Nat.{◌*◌, ◌+◌, ◌<◌, ◌≤◌, ℕ}
use Rattle.aig.proofs.FirstVertexLaws.{found_at, found_nothing}
use Rattle.aig.proofs.FoldLaws.{pair-below, pair-unfolded, to_below}
use Rattle.aig.specs.Fold.{Unfolded, fold_of}
use Rattle.aig.specs.Lookup.{First, HoldsRow, Unused, first_vertex, first_word, second_word}
use Rattle.aig.specs.declared.fold.Folded.TheVariants.{Pair, To}
use Rattle.aig.specs.declared.fold.Folded.{Folded}
use Rattle.aig.specs.declared.literal.Literal.{Literal}
use Rattle.load_model.proofs.GrownLaws.{grown-none, grown-one}
use Rattle.load_model.specs.Build.{Build, Built, ask_and, folded_or_not, found_or_made, when_folded, when_found, when_made}
use Rattle.load_model.specs.code.Good.{Good, Row}
use Rattle.load_model.specs.code.Grown.{Step}
use lib.ListN.{get_or-append, length, length-append}
use lib.Seq.{get_or-append-add, get_or_at}
use mathlib.Core.List.{List, [], ◌++◌, ◌∷◌}
use mathlib.Core.Path.{◌∙◌, ◌≡◌, refl, subst, sym}
use native.Mathlib.Decide.{dec_lt}
use native.Mathlib.Omega.{arith}

-- "Each AND asked for is folded, found or made."
pub data Asked (b : Build) (p q : ℕ) : Built → Type 0 where
  folded : {r : Literal} → fold_of p q ≡ To r → Asked b p q (when_folded b r.0)
  found : {x y : Literal} {v : ℕ} → fold_of p q ≡ Pair x y → First b.words x.0 y.0 b.count v → Asked b p q (when_found b v)
  made : {x y : Literal} → fold_of p q ≡ Pair x y → Unused b.words x.0 y.0 b.count → Asked b p q (when_made b x.0 y.0)

module _ (b : Build) (p q : ℕ) where
  -- It ends in one of the three ways.
  pub ask_cases : Asked b p q (ask_and b p q)
  unfolding ask_and folded_or_not found_or_made
  ask_cases = fold (fold_of p q) refl
    where
      look : (x y : Literal) (f : Option ℕ) → fold_of p q ≡ Pair x y → first_vertex b.words x.0 y.0 b.count ≡ f
          → Asked b p q (found_or_made b x.0 y.0 f)
      look x y (Some v) d e = found d (found_at b.words x.0 y.0 b.count v e)
      look x y None d e = made d (found_nothing b.words x.0 y.0 b.count e)

      fold : (f : Folded) → fold_of p q ≡ f → Asked b p q (folded_or_not b f)
      fold (To r) d = folded d
      fold (Pair x y) d = look x y (first_vertex b.words x.0 y.0 b.count) d refl

module _ (ws more : List ℕ) (v : ℕ) (fits : 2 * (v + 1) ≤ length ws) where
  -- Words after those of a vertex leave its first word,
  pub first_word-kept : first_word (ws ++ more) v ≡ first_word ws v
  first_word-kept = get_or-append ws more 0 (2 * v) (omega arith)

  -- its second word,
  pub second_word-kept : second_word (ws ++ more) v ≡ second_word ws v
  second_word-kept = get_or-append ws more 0 (2 * v + 1) (omega arith)

  -- the pair that it holds,
  pub holds_kept : {p q : ℕ} → HoldsRow ws v p q → HoldsRow (ws ++ more) v p q
  holds_kept h = record { first = first_word-kept ∙ h.first; second = second_word-kept ∙ h.second }

  -- and what it held before.
  pub holds-before : {p q : ℕ} → HoldsRow (ws ++ more) v p q → HoldsRow ws v p q
  holds-before h = record { first = sym first_word-kept ∙ h.first; second = sym second_word-kept ∙ h.second }

-- The words of the vertex that is made.
pub holds-new : (ws : List ℕ) (v p q : ℕ) → length ws ≡ 2 * v → HoldsRow (ws ++ (p ∷ q ∷ [])) v p q
holds-new ws v p q e =
    record {
      first = get_or_at ws p (q ∷ []) 0 (2 * v) e;
      second = rw (← e) (get_or-append-add ws (p ∷ q ∷ []) 1 0);
    }

-- No vertex below a bound has a pair that none had.
unused-kept : (ws more : List ℕ) (p q n : ℕ) → 2 * n ≤ length ws → Unused ws p q n → Unused (ws ++ more) p q n
unused-kept ws more p q n fits none v below h = none v below (holds-before ws more v (omega arith) h)

-- A row that holds its pair.
row-holds : {ws : List ℕ} {v p q : ℕ} → HoldsRow ws v p q → Unfolded p q → q < 2 * v → Unused ws p q v → Row ws v
row-holds h u d none =
    record { unfolded = rw (h.first, h.second) u; downward = rw h.second d; new = rw (h.first, h.second) none }

module _ {n : ℕ} {b : Build} (g : Good n b) where
  good-folded : (r : ℕ) → Good n (when_folded b r).build
  good-folded r = record { sized = g.sized; tally = omega (arith, g.tally); first = g.first; own = g.own; rows = g.rows }

  good-found : (v : ℕ) → Good n (when_found b v).build
  good-found v = record { sized = g.sized; tally = omega (arith, g.tally); first = g.first; own = g.own; rows = g.rows }

  good-made : {p q : ℕ} → Unfolded p q → q < 2 * b.count → Unused b.words p q b.count → Good n (when_made b p q).build
  good-made {p} {q} u below none =
      record {
        sized = rw (length-append b.words (p ∷ q ∷ [])) (omega (arith, g.sized));
        tally = omega (arith, g.tally);
        first = omega (arith, g.first);
        own = λ v h. holds_kept b.words (p ∷ q ∷ []) v (omega (arith, g.sized, g.first)) (g.own v h);
        rows = λ v h k. elim (dec_lt v b.count) [ yes l ↦ before v h l | no l ↦ subst (Row (b.words ++ (p ∷ q ∷ []))) (omega arith) here ];
      }
    where
      before : (v : ℕ) → n < v → v < b.count → Row (b.words ++ (p ∷ q ∷ [])) v
      before v h l =
          let r = g.rows v h l in
          let fits : 2 * (v + 1) ≤ length b.words = omega (arith, g.sized) in
          row-holds (holds_kept b.words (p ∷ q ∷ []) v fits (record { first = refl; second = refl })) r.unfolded r.downward
          (unused-kept b.words (p ∷ q ∷ []) _ _ v (omega arith) r.new)

      here : Row (b.words ++ (p ∷ q ∷ [])) b.count
      here =
          row-holds (holds-new b.words b.count p q g.sized) u below
          (unused-kept b.words (p ∷ q ∷ []) p q b.count (omega (arith, g.sized)) none)

module _ {n : ℕ} {b : Build} (g : Good n b) (p q : ℕ) (hp : p < 2 * b.count) (hq : q < 2 * b.count) where
  -- An AND asked for keeps the graph good, is counted, and adds a row or none.
  pub ask_step : Step n b 1 (ask_and b p q).build
  ask_step = go (ask_cases b p q)
    where
      go : {x : Built} → Asked b p q x → Step n b 1 x.build
      go (folded {r = r} e) = record { good = good-folded g r.0; asked = refl; rows = []; grown = grown-none refl refl }
      go (found {v = v} e f) = record { good = good-found g v; asked = refl; rows = []; grown = grown-none refl refl }
      go (made {x = x} {y = y} e none) =
          record {
            good = good-made g (pair-unfolded p q e) (pair-below p q (2 * b.count) e hp hq).1 none;
            asked = refl;
            rows = (x.0, y.0) ∷ [];
            grown = grown-one refl refl;
          }

  -- Its literal is that of a vertex of the graph.
  pub ask_below : (ask_and b p q).literal < 2 * (ask_and b p q).build.count
  ask_below = go (ask_cases b p q)
    where
      go : {x : Built} → Asked b p q x → x.literal < 2 * x.build.count
      go (folded e) = to_below p q (2 * b.count) e hp hq
      go (found e f) = omega (arith, f.within)
      go (made e none) = omega arith
