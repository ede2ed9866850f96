-- Stages as words.
use Rattle.std.specs.Prelude.{◌*◌, suc, zero, ℕ, set, List, [], ◌∷◌}
use Rattle.aig.specs.Lookup.{first_word}
use Rattle.sweep_graph.specs.declared.stage.Stage.TheVariants as code
use Rattle.sweep_graph.specs.declared.stage.Stage as declared
use Rattle.sweep_model.specs.State.{Stage, again, bare, dropped, gone, opened, waiting}

-- The model's stage of one of the code.
abbrev pub staged : declared.Stage → Stage
staged code.Bare = bare
staged code.Waiting = waiting
staged code.Opened = opened
staged code.Again = again
staged code.Dropped = dropped
staged code.Gone = gone

-- The word of a stage.
abbrev pub stage_word : Stage → ℕ
stage_word bare = 0
stage_word waiting = 1
stage_word opened = 2
stage_word again = 3
stage_word dropped = 4
stage_word gone = 5

-- The stage of a word; there is none past the last, which counts as merged.
unfoldable pub word_stage : ℕ → Stage
word_stage zero = bare
word_stage (suc zero) = waiting
word_stage (suc (suc zero)) = opened
word_stage (suc (suc (suc zero))) = again
word_stage (suc (suc (suc (suc zero)))) = dropped
word_stage (suc (suc (suc (suc (suc w))))) = gone

-- The stage of a vertex, by its first word.
abbrev pub stage_in : List ℕ → ℕ → Stage
stage_in words v = word_stage (first_word words v)

-- The words with the stage of vertex v set: the first of its two.
abbrev pub with_stage : List ℕ → ℕ → ℕ → List ℕ
with_stage words v stage = set words (2 * v) stage

-- The stages of n vertices from v on.
unfoldable pub stages_from : List ℕ → ℕ → ℕ → List Stage
stages_from words v zero = []
stages_from words v (suc n) = word_stage (first_word words v) ∷ stages_from words (suc v) n

-- The stages of all vertices.
abbrev pub stages_of : List ℕ → ℕ → List Stage
stages_of words count = stages_from words 0 count
