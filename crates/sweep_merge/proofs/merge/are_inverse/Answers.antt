-- The two references decide; no loop.
use Rattle.std.proofs.Common.{refl}
use Rattle.sweep_state.specs.code.Meet.{inverse?}
use Rattle.sweep_merge.proofs.merge.are_inverse.Goals as goal

pub returns : goal.returns
unfolding inverse?
returns c = rw (c.first_word.ensures, c.first_word-2.ensures) refl
