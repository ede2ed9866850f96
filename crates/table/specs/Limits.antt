-- "Limits: file 65,536 bytes; 0 to 64 inputs; 0 to 4,096 gates a file; 1 to 64 outputs; 6,144 ANDs over both files" (RULES 2.1, 2.2)
use Rattle.std.specs.Prelude.{ℕ}

abbrev pub max_inputs : ℕ
max_inputs = 64

abbrev pub max_outputs : ℕ
max_outputs = 64

abbrev pub max_ands : ℕ
max_ands = 6144
