-- The slices that a comparison is lent beside the table.
use Rattle.std.specs.Prelude.{length, ◌≡◌}
use Rattle.compare_model.specs.Compare.{CompareRoom}
use Rattle.compare_model.specs.declared.Lengths.{Lengths}
use Rattle.compare_model.specs.declared.Lent.{Lent}

-- Their lengths. (RULES 8.2)
abbrev pub lengths_of : Lent → Lengths
lengths_of l =
    record {
      pairs = length l.pairs.now;
      look = length l.look.now;
      diagrams = length l.diagrams.now;
      stages = length l.stages.now;
      rows = length l.rows.now;
      marks = length l.marks.now;
      setting = length l.setting.now;
    }

-- The lengths of the five to work in. (RULES 8.2)
abbrev pub room_of : Lengths → CompareRoom
room_of l = record { pairs = l.pairs; look = l.look; diagrams = l.diagrams; stages = l.stages; rows = l.rows }

-- The slices are the same ones, each as long as it was. (RULES 8.3)
pub record SameSlices (before after : Lent) : Type 0 where
  pub pairs : after.pairs.ghost_name ≡ before.pairs.ghost_name
  pub look : after.look.ghost_name ≡ before.look.ghost_name
  pub diagrams : after.diagrams.ghost_name ≡ before.diagrams.ghost_name
  pub stages : after.stages.ghost_name ≡ before.stages.ghost_name
  pub rows : after.rows.ghost_name ≡ before.rows.ghost_name
  pub marks : after.marks.ghost_name ≡ before.marks.ghost_name
  pub setting : after.setting.ghost_name ≡ before.setting.ghost_name
  pub lengths : lengths_of after ≡ lengths_of before
