-- The graph of the constant and the inputs, in the slices.
use Prim.Native.Nat.{◌*◌, ◌+◌, ◌<◌, ◌≤◌, ℕ}
use Rattle.aig.proofs.IndexLaws.{clear-starts}
use Rattle.aig.specs.Lookup.{cleared, first_word, own_words, second_word}
use Rattle.load_model.proofs.PairLaws.{empty-good}
use Rattle.load_model.specs.Build.{empty_build}
use Rattle.load_model.specs.Load.{max_vertices}
use Rattle.load_graph.specs.code.Slices.{Graph, build_of}
use Rattle.load_graph.specs.declared.Counts.{Counts}
use Rattle.table.specs.Limits.{max_inputs}
use Rattle.text.proofs.DecimalLaws.{written_length}
use Rattle.text.specs.Decimal.{written}
use lib.ListN.{get_or-append, drop, length}
use lib.Seq.{take_at}
use mathlib.Core.List.{List}
use mathlib.Core.Path.{◌∙◌, ◌≡◌, refl, sym}
use native.Mathlib.Omega.{arith}

-- No AND is asked for yet.
abbrev pub none_asked : ℕ → Counts
none_asked n = record { vertices = 1 + n; asked = 0; folded = 0; found = 0 }

module _ (pairs look : List ℕ) (n : ℕ) (few : n ≤ max_inputs) (long : 2 * max_vertices ≤ length pairs) (wide : 2 * max_vertices ≤ length look) where
  abbrev own : List ℕ
  own = own_words 0 (1 + n)

  own_length : length own ≡ 2 * (1 + n)
  unfolding empty_build
  own_length = (empty-good n).sized

  pub start_built : build_of (written pairs 0 own) (none_asked n) ≡ empty_build n
  unfolding empty_build written
  start_built = rw (take_at own (drop (0 + length own) pairs) (2 * (1 + n)) own_length) refl

  equal : (v : ℕ) → v < 1 + n → first_word (written pairs 0 own) v ≡ second_word (written pairs 0 own) v
  unfolding empty_build written
  equal v h =
      let rest = drop (0 + length own) pairs in
      let o = (empty-good n).own v h in
      get_or-append own rest 0 (2 * v) (omega (arith, own_length)) ∙ o.first ∙ sym o.second
      ∙ sym (get_or-append own rest 0 (2 * v + 1) (omega (arith, own_length)))

  pub start-graph : Graph (written pairs 0 own) (cleared look max_vertices) (none_asked n)
  start-graph =
      let l : length (written pairs 0 own) ≡ length pairs = written_length pairs 0 own (omega (arith, own_length)) in
      record {
        counted = record { some = omega arith; vertices = omega arith; folded = omega arith; found = omega arith };
        index = clear-starts (written pairs 0 own) (1 + n) look max_vertices (omega arith) (omega arith) wide (omega arith) equal;
        long = omega arith;
      }
