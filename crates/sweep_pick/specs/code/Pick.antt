-- "4. The waiting vertex of least size opens, lowest number on a tie.": by the words of stages and sizes. (RULES 6.4)
use Rattle.std.specs.Prelude.{◌*◌, ◌+◌, ◌<◌, suc, zero, ℕ, leb, length, cond, None, Option, Some, List, ◌≡◌}
use Rattle.aig.specs.Lookup.{first_word, second_word}
use Rattle.sweep_graph.specs.code.Stages.{word_stage}
use Rattle.sweep_model.specs.State.{waits?}

-- Vertex v, or the one picked of the later vertices where its size is less.
unfoldable pub lesser : List ℕ → ℕ → Option ℕ → ℕ
lesser diagrams v None = v
lesser diagrams v (Some w) = cond (leb (second_word diagrams v) (second_word diagrams w)) v w

-- What is picked from vertex v on, given what is picked of the later vertices.
unfoldable pub pick_here : List ℕ → List ℕ → ℕ → Option ℕ → Option ℕ
pick_here stages diagrams v later = cond (waits? (word_stage (first_word stages v))) (Some (lesser diagrams v later)) later

-- What is picked of n vertices from v on.
unfoldable pub least_from : List ℕ → List ℕ → ℕ → ℕ → Option ℕ
least_from stages diagrams v zero = None
least_from stages diagrams v (suc n) = pick_here stages diagrams v (least_from stages diagrams (suc v) n)

-- A picked vertex has its words.
abbrev pub Within : List ℕ → Option ℕ → Type 0
Within diagrams later = (w : ℕ) → later ≡ Some w → 2 * w + 1 < length diagrams
