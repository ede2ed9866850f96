-- The tests in the order of their numbers.
use Rattle.std.proofs.Common.{sym}
use Rattle.table.proofs.AcceptedLaws.{well_formed}
use Rattle.table_refusal.proofs.check.Goals as goal

pub invariant_of-table : goal.invariant_of-table
invariant_of-table c = record { formed = well_formed _ (sym c.if-is_malformed.ensures) }
