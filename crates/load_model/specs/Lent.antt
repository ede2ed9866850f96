-- The slices that load is lent: their lengths, and what a refusal leaves in them.
use Rattle.std.specs.Prelude.{ℕ, length, List, ◌≡◌}
use Rattle.load_model.specs.Load.{Answer, LoadRoom, accepted, refused}
use Rattle.load_model.specs.declared.Lengths.{Lengths}
use Rattle.load_model.specs.declared.Working as lent

-- The lengths of the table and the four working slices.
abbrev pub room_of : ℕ → ℕ → ℕ → ℕ → ℕ → LoadRoom
room_of table pairs look literals outputs =
    record { table = table; pairs = pairs; look = look; literals = literals; outputs = outputs }

-- The same, of the slices.
abbrev pub room_in : List ℕ → List ℕ → List ℕ → List ℕ → List ℕ → LoadRoom
room_in table pairs look literals outputs =
    room_of (length table) (length pairs) (length look) (length literals) (length outputs)

-- The lists that the four working slices hold.
pub record Working : Type 0 where
  pub pairs : List ℕ
  pub look : List ℕ
  pub literals : List ℕ
  pub outputs : List ℕ

abbrev pub working : List ℕ → List ℕ → List ℕ → List ℕ → Working
working pairs look literals outputs = record { pairs = pairs; look = look; literals = literals; outputs = outputs }

-- "refusals leaving all of them unchanged, and free are only the working slices" (RULES 8.3, 12.5)
abbrev pub Kept : Answer → Working → Working → Type 0
Kept (accepted x t) before after = Unit
Kept (refused k f n) before after = after ≡ before

-- The lengths of the lent slices, as the code has them. (RULES 8.2)
abbrev pub room_with : Lengths → LoadRoom
room_with r = room_of r.table r.pairs r.look r.literals r.outputs

-- The lists in the working slices that the code's struct of the same name holds. (RULES 8.2)
abbrev pub lists_in : lent.Working → Working
lists_in w = working w.pairs.now w.look.now w.literals.now w.outputs.now

-- The lengths of a table and of working slices that hold these lists. (RULES 8.2)
abbrev pub room_beside : List ℕ → Working → LoadRoom
room_beside table w = room_in table w.pairs w.look w.literals w.outputs

-- The slices are the same ones, each as long as it was. (RULES 8.2, 12.5)
pub record SameSlices (before after : lent.Working) : Type 0 where
  pub pairs : after.pairs.ghost_name ≡ before.pairs.ghost_name
  pub look : after.look.ghost_name ≡ before.look.ghost_name
  pub literals : after.literals.ghost_name ≡ before.literals.ghost_name
  pub outputs : after.outputs.ghost_name ≡ before.outputs.ghost_name
  pub long_pairs : length after.pairs.now ≡ length before.pairs.now
  pub long_look : length after.look.now ≡ length before.look.now
  pub long_literals : length after.literals.now ≡ length before.literals.now
  pub long_outputs : length after.outputs.now ≡ length before.outputs.now
