-- What a good graph says of its rows.
use Prim.Native.Nat.{◌+◌, ◌<◌, ◌≤◌, ℕ}
use Rattle.aig.specs.Lookup.{Entered, HoldsRow, first_word, second_word}
use Rattle.load_model.specs.Build.{Build}
use Rattle.load_model.specs.code.Good.{Good}
use mathlib.Core.Path.{◌∙◌, ◌≡◌, sym}
use native.Mathlib.Decide.{dec_lt}
use native.Mathlib.Omega.{arith}

module _ {n : ℕ} {b : Build} (g : Good n b) where
  -- A vertex whose words differ is a made one.
  pub entered-made : (v : ℕ) → Entered b.words v → n < v
  entered-made v e =
      elim (dec_lt n v) [ yes h ↦ h | no h ↦ (let o = g.own v (omega arith) in absurd (e (o.first ∙ sym o.second))) ]

  -- A vertex that holds a pair of different words is a made one.
  pub holds-made : {v p q : ℕ} → HoldsRow b.words v p q → p < q → n < v
  holds-made {v} h l = entered-made v (λ e. omega (arith, h.first, h.second))

  -- "no two rows hold the same pair"
  pub rows-differ : (u v : ℕ) → u < v → v < b.count → Entered b.words v
      → HoldsRow b.words u (first_word b.words v) (second_word b.words v) → ⊥
  rows-differ u v l k e h = (g.rows v (entered-made v e) k).new u l h

  -- So two vertices that hold one pair of different words are one vertex.
  pub rows-once : (u v : ℕ) → u < b.count → v < b.count → Entered b.words u
      → HoldsRow b.words v (first_word b.words u) (second_word b.words u) → u ≡ v
  rows-once u v hu hv e h =
      elim (dec_lt v u) [
        | yes l ↦ absurd (rows-differ v u l hu e h)
        | no d ↦ elim (dec_lt u v) [
          | yes l ↦ absurd (rows-differ u v l hv (λ f. e (sym h.first ∙ f ∙ h.second)) (record { first = sym h.first; second = sym h.second }))
          | no c ↦ omega arith
        ]
      ]

  -- "The ANDs .. counted before any folding" bound the vertices.
  pub count-bound : b.count ≤ 1 + n + b.asked
  count-bound = omega (arith, g.tally)
