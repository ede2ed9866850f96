-- A table that keeps the rules, word by word and with the rules' own numbers. (RULES 4.1, 4.3)
use Rattle.std.specs.Prelude.{◌*◌, ◌+◌, ◌<◌, ◌≤◌, ℕ, get_or, length, List}

-- Word n.
abbrev pub word : List ℕ → ℕ → ℕ
word ws n = get_or ws n 0

-- "inputs; made; outputs; two words a made vertex; the first file's output references; the second file's", "r's reference after the outputs", "0
-- to 64 inputs", "1 to 64 outputs", "6,144 ANDs", each reference "below twice its vertex's number (outputs: all vertices)", r's "as .. an
-- output". (RULES 2.1, 2.2, 4.1, 8.1)
pub record Fits (ws : List ℕ) : Type 0 where
  pub header : 3 ≤ length ws
  pub inputs : word ws 0 ≤ 64
  pub made : word ws 1 ≤ 6144
  pub some-output : 1 ≤ word ws 2
  pub outputs : word ws 2 ≤ 64
  pub whole : 3 + 2 * word ws 1 + 2 * word ws 2 + 1 ≤ length ws
  pub firsts : (i : ℕ) → i < word ws 1 → word ws (3 + 2 * i) < 2 * (1 + word ws 0 + i)
  pub seconds : (i : ℕ) → i < word ws 1 → word ws (3 + 2 * i + 1) < 2 * (1 + word ws 0 + i)
  pub references : (k : ℕ) → k < 2 * word ws 2 → word ws (3 + 2 * word ws 1 + k) < 2 * (1 + word ws 0 + word ws 1)
  pub constraint : word ws (3 + 2 * word ws 1 + 2 * word ws 2) < 2 * (1 + word ws 0 + word ws 1)
