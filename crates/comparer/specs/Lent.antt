-- The slices that compare is lent, and what it promises of them.
use Rattle.std.specs.Prelude.{ℕ, length, List, Result, ◌≢◌, ◌≡◌}
use Rattle.compare_model.specs.Compare.{CompareRoom, Given, Left, compared, limits_of, refusal_of}
use Rattle.compare_model.specs.Said.{Said, said_of}
use Rattle.compare_model.specs.declared.Lent.{Lent}
use Rattle.compare_model.specs.declared.Limits.{Limits as Asked}
use Rattle.refusal.specs.declared.Refusal.{Refusal}
use Rattle.sweep_model.specs.declared.Reply.{Reply}

-- The lists that the eight slices hold at one moment.
pub record Slices : Type 0 where
  pub table : List ℕ
  pub pairs : List ℕ
  pub look : List ℕ
  pub diagrams : List ℕ
  pub stages : List ℕ
  pub rows : List ℕ
  pub marks : List ℕ
  pub setting : List ℕ

abbrev pub holding : List ℕ → Lent → Slices
holding table lent =
    record {
      table = table;
      pairs = lent.pairs.now;
      look = lent.look.now;
      diagrams = lent.diagrams.now;
      stages = lent.stages.now;
      rows = lent.rows.now;
      marks = lent.marks.now;
      setting = lent.setting.now;
    }

-- The lengths of the five slices to work in.
abbrev pub room_in : Slices → CompareRoom
room_in s =
    record {
      pairs = length s.pairs;
      look = length s.look;
      diagrams = length s.diagrams;
      stages = length s.stages;
      rows = length s.rows;
    }

-- The arguments of compare.
abbrev pub given : ℕ → Asked → Slices → Given
given output limits s =
    record {
      table = s.table;
      output = output;
      limits = limits_of limits;
      room = room_in s;
      marks = s.marks;
      setting = s.setting;
    }

-- What it gives back, in the rules' terms, and what three of its slices then hold. (RULES 7.3, 8.1)
abbrev pub left : Said → List ℕ → List ℕ → List ℕ → Left
left said table marks setting = record { reply = said; table = table; marks = marks; setting = setting }

-- "refusals leaving all of them unchanged": the five slices to work in. (RULES 8.3)
pub record Unchanged (before after : Slices) : Type 0 where
  pub pairs : after.pairs ≡ before.pairs
  pub look : after.look ≡ before.look
  pub diagrams : after.diagrams ≡ before.diagrams
  pub stages : after.stages ≡ before.stages
  pub rows : after.rows ≡ before.rows

-- What compare gives back and leaves is the comparison of what it is given; a refusal leaves the slices to work in, too. (RULES 8.1, 8.3, 12.1)
pub record Compared (output : ℕ) (limits : Asked) (before after : Slices) (answer : Result Reply Refusal) : Type 0 where
  pub result : left (said_of answer) after.table after.marks after.setting ≡ compared (given output limits before)
  pub kept : refusal_of (given output limits before) ≢ 0 → Unchanged before after
