-- The measure is the number printed, which is divided by ten at the call.
-- There is no loop: what the call stored, and the last digit after it, is the number stored.
use Rattle.text.proofs.decimal.+print.Given as goal

abbrev pub decreases-print : goal.decreases-print
decreases-print l = l.n
