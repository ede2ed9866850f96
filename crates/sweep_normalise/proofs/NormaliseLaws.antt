-- One turn of normalising, and the pass from turn to turn.
use Prim.Native.Nat.{◌*◌, ◌+◌, ◌-◌, ◌<◌, ◌≤◌, suc, zero, ℕ}
use Rattle.aig.proofs.FoldLaws.{pair-unfolded}
use Rattle.aig.proofs.IndexLaws.{clear-starts, enter-keeps, equal-keeps}
use Rattle.aig.specs.Fold.{fold_of}
use Rattle.aig.specs.Literal.{lit, literal_of}
use Rattle.aig.specs.Lookup.{Indexed, cleared, entered, first_vertex, first_word, second_word, with_row}
use Rattle.aig.specs.declared.fold.Folded.TheVariants.{Pair}
use Rattle.aig.specs.declared.fold.Folded.{Folded}
use Rattle.aig.specs.declared.literal.Literal.{Literal}
use Rattle.std.specs.Prelude.{None, Some}
use Rattle.sweep_graph.specs.code.Graph.{Graph, Turn}
use Rattle.sweep_model.proofs.Settle.{normalised, tidy-first}
use Rattle.sweep_model.specs.Fit.{Downward}
use Rattle.sweep_model.specs.Normalise.{folded_row, found_row, normalise_from, normalise_row, resolve}
use lib.ListN.{length}
use mathlib.Core.Bool.{false}
use mathlib.Core.List.{List}
use mathlib.Core.Path.{◌∙◌, ◌≡◌, ap, ap₂, sym}
use native.Mathlib.Omega.{arith}

-- The number of a literal.
abbrev number : Literal → ℕ
number r = r.0

module _ {pairs look after : List ℕ} {v places : ℕ} (t : Turn pairs v look places) where
  -- A row of equal words needs no entry.
  pub equal-turn : (x : ℕ) → after ≡ with_row pairs v x x → Indexed after (v + 1) look places
  equal-turn x e = rw e (equal-keeps x t.indexed t.below t.room)

  -- A pair that a lower vertex has.
  pub found_turn :
      {r : Literal} (p q u : ℕ) → first_vertex pairs p q v ≡ Some u → r ≡ lit (literal_of u false) → after ≡ with_row pairs v r.0 r.0
      → (after ≡ found_row pairs v p q (first_vertex pairs p q v)) × Indexed after (v + 1) look places
  unfolding found_row
  found_turn {r} p q u found e written =
      let own : r.0 ≡ 2 * u = ap number e ∙ omega arith in
      (rw found (written ∙ ap (λ (x : ℕ). with_row pairs v x x) own), equal-turn r.0 written)

  -- A pair that no lower vertex has.
  pub entered-turn :
      {then : List ℕ} (p q : ℕ) → (p ≡ q → ⊥) → first_vertex pairs p q v ≡ None → after ≡ with_row pairs v p q → then ≡ entered look places v p q
      → (after ≡ found_row pairs v p q (first_vertex pairs p q v)) × Indexed after (v + 1) then places
  unfolding found_row
  entered-turn p q apart found written e =
      (rw found written, rw (written, e) (enter-keeps p q t.indexed apart found t.made t.below t.room))

-- The row of a vertex by what its resolved operands come to.
pub row-folds :
    (pairs : List ℕ) (v : ℕ) {x y : ℕ} {a b : Literal} {f : Folded} → x ≡ first_word pairs v → a ≡ lit (resolve pairs x) → y ≡ second_word pairs v
    → b ≡ lit (resolve pairs y) → f ≡ fold_of a.0 b.0 → normalise_row pairs v ≡ folded_row pairs v f
unfolding normalise_row
row-folds pairs v ex ea ey eb ef =
    ap (folded_row pairs v) (ap₂ fold_of (ap (resolve pairs) (sym ex) ∙ sym (ap number ea)) (ap (resolve pairs) (sym ey) ∙ sym (ap number eb)) ∙ sym ef)

-- A pair that is left has two different literals.
pub pair-apart : (a b : ℕ) {f : Folded} {p q : Literal} → f ≡ fold_of a b → f ≡ Pair p q → p.0 ≡ q.0 → ⊥
pair-apart a b e left same = omega (arith, (pair-unfolded a b (sym e ∙ left)).ordered)

-- The rows below vertex v are normalised, and the look-up holds them.
pub record Pass (first count : ℕ) (pairs₀ pairs look : List ℕ) (v : ℕ) : Type 0 where
  pub done : pairs ≡ normalise_from pairs₀ first (v - first)
  pub indexed : Indexed pairs v look count
  pub from : first ≤ v
  pub to : v ≤ count

-- One row more, at the end.
normalise-last : (rows : List ℕ) (v n : ℕ) → normalise_from rows v (suc n) ≡ normalise_row (normalise_from rows v n) (v + n)
unfolding normalise_from
normalise-last rows v zero = ap (normalise_row rows) (omega arith)
normalise-last rows v (suc n) =
    normalise-last (normalise_row rows v) (suc v) n ∙ ap (normalise_row (normalise_from (normalise_row rows v) (suc v) n)) (omega arith)

module _ {first count : ℕ} {pairs₀ : List ℕ} (g : Graph first count pairs₀) where
  -- The pass begins with an empty look-up.
  pub pass-begins :
      (look₀ : List ℕ) {look : List ℕ} → 2 * count ≤ length look₀ → look ≡ cleared look₀ count → Pass first count pairs₀ pairs₀ look first
  unfolding normalise_from
  pass-begins look₀ room e =
      let none : first - first ≡ 0 = omega arith in
      record {
        done = rw none;
        indexed =
            rw e
            (clear-starts pairs₀ first look₀ count (omega (arith, g.some_first, g.first-within)) g.first-within room
            (omega (arith, g.first-within, g.downward.long))
            (λ v h. (g.downward.own v h).first ∙ sym (g.downward.own v h).second));
        from = omega arith;
        to = g.first-within;
      }

  module _ {pairs look : List ℕ} {v : ℕ} (s : Pass first count pairs₀ pairs look v) where
    -- Each vertex has its turn.
    pub pass_turns : v < count → Turn pairs v look count
    pass_turns h =
        record {
          indexed = s.indexed;
          made = omega (arith, g.some_first, s.from);
          below = h;
          few = omega (arith, g.few);
          room = omega (arith, d.long);
          first_below = d.first_below v s.from h;
          second_below = d.second_below v s.from h;
        }
      where
        d : Downward first count pairs
        d =
            rw s.done
            (normalised g.some_first (v - first) first pairs₀ g.downward (tidy-first first pairs₀) (omega arith) (omega (arith, s.from))).downward

    -- And the pass goes on to the next.
    pub pass-goes-on :
        {look' : List ℕ} → v < count → Indexed (normalise_row pairs v) (v + 1) look' count
        → Pass first count pairs₀ (normalise_row pairs v) look' (v + 1)
    pass-goes-on h indexed =
        let at : first + (v - first) ≡ v = omega (arith, s.from) in
        let more : v + 1 - first ≡ suc (v - first) = omega (arith, s.from) in
        record {
          done = rw (more, normalise-last pairs₀ first (v - first), at) (ap (λ (l : List ℕ). normalise_row l v) s.done);
          indexed = indexed;
          from = omega (arith, s.from);
          to = omega arith;
        }

    -- At the end all rows are normalised.
    pub pass_ends : count ≤ v → pairs ≡ normalise_from pairs₀ first (count - first)
    pass_ends h =
        let e : v ≡ count = omega (arith, s.to) in
        rw (← e) s.done
