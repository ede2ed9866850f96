-- What the rules claim of a comparison's reply, in terms of the files, the table as loaded, and what the comparison left. (RULES 12.3)
use Rattle.std.specs.Prelude.{◌+◌, ◌<◌, ℕ, eqb, drop, get_or, length, Bool, cond, false, true, List, [], ◌++◌, ◌∷◌, map, ◌≢◌, ◌≡◌}
use Rattle.compare_model.specs.Claims.{CountsKept, RowsKept}
use Rattle.compare_model.specs.Compare.{Given, Left, refusal_of, setting_bytes}
use Rattle.compare_model.specs.Said.{Said}
use Rattle.netlist_model.specs.Meaning.{allowed?, constraint_function, file_ands, file_function, file_value}
use Rattle.netlist_model.specs.Netlist.{Netlist}
use Rattle.netlist_model.specs.Pairing.{paired, setting_by_name}
use Rattle.sweep_model.specs.Claims.{And, and_function, and_steps, sum}
use Rattle.table.specs.Table.{constraint_of, inputs_from}
use Rattle.truth.specs.Parts.{size, together}
use Rattle.truth.specs.Settings.{number_of}
use Rattle.truth.specs.Truth.{Setting, constantly}

-- "Settings follow the first file's order, and a file's value means its value after this pairing.": output k of a side's file on a
-- setting. (RULES 1.10, 1.11)
unfoldable pub side_value : Netlist → Netlist → ℕ → ℕ → Setting → Bool
side_value d e side k s = cond (eqb side 1) (file_value d k s) (file_value e k (setting_by_name d e s))

-- "AND that the gates stand for": those of both files, the second with its inputs in the first file's order, on which parts and product steps
-- depend. (RULES 1.9, 1.11, 12.3)
unfoldable pub gates_ands : Netlist → Netlist → List And
gates_ands d e = file_ands d ++ file_ands (paired d e)

-- "Unless r is 1, the ANDs of r with the two outputs .., also among the ANDs of demand 3's last sentence": of output k. The word of the table as
-- loaded is meant. (RULES 6.9, 12.3)
unfoldable pub next_ands : List ℕ → Netlist → Netlist → ℕ → List And
next_ands loaded d e k =
    cond (eqb (constraint_of loaded) 1) []
    ((constraint_function d, file_function d k) ∷ (constraint_function d, file_function (paired d e) k) ∷ [])

-- The ANDs of a comparison of output k: those that the gates stand for, and these. (RULES 12.3)
abbrev pub compared_ands : List ℕ → Netlist → Netlist → ℕ → List And
compared_ands loaded d e k = gates_ands d e ++ next_ands loaded d e k

-- "Equal is then agreement on the allowed settings": those of the first file. (RULES 1.13, 12.2)
abbrev pub Agree : Netlist → Netlist → ℕ → Type 0
Agree d e k = (s : Setting) → length s ≡ d.inputs → allowed? d s ≡ true → side_value d e 1 k s ≡ side_value d e 2 k s

-- "a Different shows the first allowed setting that separates", in counting order, written to the front of the setting slice. (RULES 1.13, 7.2, 12.2)
pub record Separated (d e : Netlist) (k : ℕ) (before after : List ℕ) : Type 0 where
  pub setting : Setting
  pub digits : length setting ≡ d.inputs
  pub written : after ≡ setting_bytes setting ++ drop d.inputs before
  pub allowed : allowed? d setting ≡ true
  pub differ : side_value d e 1 k setting ≢ side_value d e 2 k setting
  pub first : (s : Setting) → length s ≡ d.inputs → allowed? d s ≡ true → number_of s < number_of setting → side_value d e 1 k s ≡ side_value d e 2 k s

-- "some AND that the gates stand for has more parts than the size limit": of the comparison of an output. (RULES 12.3)
pub record TooLarge (loaded : List ℕ) (d e : Netlist) (k limit : ℕ) : Type 0 where
  pub place : ℕ
  pub there : place < length (compared_ands loaded d e k)
  pub large : limit < size (and_function (get_or (compared_ands loaded d e k) place (constantly 0 false, constantly 0 false)))

-- "all inputs and those ANDs together have more parts than the row limit" (RULES 12.3)
abbrev pub TooManyParts : List ℕ → Netlist → Netlist → ℕ → ℕ → Type 0
TooManyParts loaded d e k limit = limit < together (inputs_from d.inputs 1 d.inputs ++ map and_function (compared_ands loaded d e k))

-- "those ANDs together take more product steps than the step limit" (RULES 12.3)
abbrev pub TooManySteps : List ℕ → Netlist → Netlist → ℕ → ℕ → Type 0
TooManySteps loaded d e k limit = limit < sum (map and_steps (compared_ands loaded d e k))

-- What is said of each reply: "unless it said Rows or Steps; after Steps they are the limit", "after Rows, [the rows added] and the rows reported
-- make the row limit". The steps after Rows are said by the marks (`ReplySays`). A refusal is said exactly where one of 10 to 15 applies.
-- (RULES 7.11, 9.3, 12.3)
abbrev pub ReplyKept : Netlist → Netlist → List ℕ → Given → Left → Said → Type 0
ReplyKept d e loaded given left (Said.refused n) =
    (refusal_of given ≡ n) × (n ≢ 0) × (left.table ≡ given.table) × (left.marks ≡ given.marks) × (left.setting ≡ given.setting)
ReplyKept d e loaded given left (Said.equal rows steps added) =
    (refusal_of given ≡ 0) × Agree d e given.output × CountsKept loaded given left rows steps added
ReplyKept d e loaded given left (Said.different rows steps added) =
    (refusal_of given ≡ 0) × Separated d e given.output given.setting left.setting × CountsKept loaded given left rows steps added
ReplyKept d e loaded given left (Said.size rows steps added) =
    (refusal_of given ≡ 0) × TooLarge loaded d e given.output given.limits.size × CountsKept loaded given left rows steps added
ReplyKept d e loaded given left (Said.rows v rows steps added) =
    (refusal_of given ≡ 0) × TooManyParts loaded d e given.output given.limits.rows × RowsKept loaded given left rows
    × (rows + added ≡ given.limits.rows)
ReplyKept d e loaded given left (Said.steps v rows steps added) =
    (refusal_of given ≡ 0) × TooManySteps loaded d e given.output given.limits.steps × RowsKept loaded given left rows
    × (steps ≡ given.limits.steps)
