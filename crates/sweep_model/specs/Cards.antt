-- Bench cards on replies, of the sweep alone: tables of at most three inputs. (RULES 13.2, 13.3)
use Rattle.std.specs.Prelude.{suc, zero, ℕ, drop, get_or, length, false, true, List, [], ◌++◌, ◌∷◌, ◌≡◌}
use Rattle.aig.specs.Lookup.{first_word, own_words, second_word}
use Rattle.aig.specs.Values.{literal_value}
use Rattle.sweep_model.specs.State.{Limits, Problem}
use Rattle.sweep_model.specs.Sweep.{Result, Verdict, different, equal, sweep, undecided}
use Rattle.sweep_model.specs.declared.Cause.TheVariants.{Rows, Size, Steps}
use Rattle.truth.specs.Truth.{Truth, conj, constantly, input, invert}

-- The functions of n made vertices after others, by their rows.
unfoldable pub made_functions : ℕ → List Truth → ℕ → List ℕ → List Truth
made_functions inputs fs zero words = fs
made_functions inputs fs (suc n) words =
    made_functions inputs (fs ++ (conj (value (get_or words 0 0)) (value (get_or words 1 0)) ∷ [])) n (drop 2 words)
  where
    value : ℕ → Truth
    value r = literal_value invert conj (constantly inputs false) fs r

-- The constant and the inputs from vertex i on.
unfoldable pub first_functions : ℕ → ℕ → ℕ → List Truth
first_functions inputs i zero = []
first_functions inputs i (suc k) = input inputs i ∷ first_functions inputs (suc i) k

-- A comparison of two literals over the rows of so many made vertices.
abbrev pub card_problem : ℕ → ℕ → List ℕ → ℕ → ℕ → Limits → Problem
card_problem inputs made words left right limits =
    record {
      inputs = inputs;
      functions = made_functions inputs (first_functions inputs 0 (suc inputs)) made words;
      first = suc inputs;
      left = left;
      right = right;
      limits = limits;
    }

-- Verdict, rows, steps and rows added of a sweep.
pub record Told : Type 0 where
  pub verdict : Verdict
  pub rows : ℕ
  pub steps : ℕ
  pub added : ℕ

abbrev pub told : Result → Told
told a = record { verdict = a.verdict; rows = length a.left.book.store; steps = a.left.book.steps; added = a.added }

abbrev pub says : Verdict → ℕ → ℕ → ℕ → Told
says x rows steps added = record { verdict = x; rows = rows; steps = steps; added = added }

abbrev pub limits : ℕ → ℕ → ℕ → Limits
limits size rows steps = record { size = size; rows = rows; steps = steps }

abbrev pub answer : ℕ → ℕ → List ℕ → ℕ → ℕ → Limits → Result
answer inputs made words left right l = sweep (card_problem inputs made words left right l) (own_words 0 (suc inputs) ++ words)

-- "The and/or pair above": a AND b is vertex 3, the AND of their inversions vertex 4; outputs 6 and 9. (RULES 11.7, 13.3)
abbrev pub and_or : Limits → Result
and_or l = answer 2 2 (2 ∷ 4 ∷ 3 ∷ 5 ∷ []) 6 9 l

-- "`xor 2 4` output 6 against `or 2 4`, `and 2 4`, `and 6 9` output 10: made 6": outputs 11 and 16. (RULES 13.3)
abbrev pub xor_pair : Limits → Result
xor_pair l = answer 2 6 (2 ∷ 5 ∷ 3 ∷ 4 ∷ 7 ∷ 9 ∷ 3 ∷ 5 ∷ 2 ∷ 4 ∷ 13 ∷ 15 ∷ []) 11 16 l

-- Three inputs, `xor 2 6`, `and 4 8`, output 10, against output 2: vertex 7 is the AND, outputs 14 and 2. (RULES 13.3)
abbrev pub broken : Limits → Result
broken l = answer 3 4 (2 ∷ 7 ∷ 3 ∷ 6 ∷ 9 ∷ 11 ∷ 4 ∷ 13 ∷ []) 14 2 l

-- Three inputs, `and 2 4`, `xor 2 6`, `and 8 10`, output 12, against output 2: vertex 8 is the last AND, outputs 16 and 2. (RULES 13.3)
abbrev pub zero_first : Limits → Result
zero_first l = answer 3 5 (2 ∷ 4 ∷ 2 ∷ 7 ∷ 3 ∷ 6 ∷ 11 ∷ 13 ∷ 8 ∷ 15 ∷ []) 16 2 l

-- "limits 4,096 unless said" (RULES 13.1)
abbrev pub usual : Limits
usual = limits 4096 4096 4096

pub record SweepCards : Type 0 where
  -- "row limit 3 gives Rows at vertex 4, rows 3; step limit 5 gives Steps at vertex 4, steps 5, and 6 gives Different; size limit 1
  -- gives Size, rows 2, steps 6." (RULES 13.3)
  pub and_or_card : told (and_or usual) ≡ says (different (false ∷ true ∷ [])) 4 6 0
  pub and_or-rows : told (and_or (limits 4096 3 4096)) ≡ says (undecided (Rows 4)) 3 6 0
  pub and_or-steps : told (and_or (limits 4096 4096 5)) ≡ says (undecided (Steps 4)) 3 5 0
  pub and_or_six : told (and_or (limits 4096 4096 6)) ≡ says (different (false ∷ true ∷ [])) 4 6 0
  pub and_or-size : told (and_or (limits 1 4096 4096)) ≡ says (undecided Size) 2 6 0
  -- Row limit 1 is passed at an input, before any product. (RULES 13.3)
  pub and_or-input : told (and_or (limits 4096 1 4096)) ≡ says (undecided (Rows 2)) 1 0 0
  -- Row limits 8, 7 and 6 break vertex 7's product off after 2, 1 and no rows, and step limit 13 after 1. (RULES 13.3)
  pub broken_eight : told (broken (limits 4096 8 4096)) ≡ says (undecided (Rows 7)) 6 16 2
  pub broken_seven : told (broken (limits 4096 7 4096)) ≡ says (undecided (Rows 7)) 6 16 1
  pub broken_six : told (broken (limits 4096 6 4096)) ≡ says (undecided (Rows 7)) 6 13 0
  pub broken-steps : told (broken (limits 4096 4096 13)) ≡ says (undecided (Steps 7)) 6 13 1
  -- "It goes to the value 0 first, then to 1": the other way row limit 7 would give 16 steps, and step limit 16 one row added. (RULES 6.8, 13.3)
  pub zero_rows : told (zero_first (limits 4096 7 4096)) ≡ says (undecided (Rows 8)) 7 17 0
  pub zero_steps : told (zero_first (limits 4096 4096 16)) ≡ says (undecided (Steps 8)) 7 16 0
  -- "Equal, rows 7, steps 18; vertex 8's row becomes (11, 11)." (RULES 13.3)
  pub xor_pair_card : told (xor_pair usual) ≡ says equal 7 18 0
  pub xor_first : first_word (xor_pair usual).left.rows 8 ≡ 11
  pub xor_second : second_word (xor_pair usual).left.rows 8 ≡ 11
  -- "`and 2 4` output 6 against `or 3 5` output 7: .. Equal, rows 0, steps 0." (RULES 13.2)
  pub and_twice : told (answer 2 1 (2 ∷ 4 ∷ []) 6 6 usual) ≡ says equal 0 0 0
  -- "output 2 against 3, one input: Different, setting 0, rows 0." (RULES 13.2)
  pub inverse_wires : told (answer 1 0 [] 2 3 usual) ≡ says (different (false ∷ [])) 0 0 0
  -- "no inputs, 0 against 1: Different, empty setting." (RULES 13.2)
  pub no_inputs : told (answer 0 0 [] 0 1 usual) ≡ says (different []) 0 0 0
