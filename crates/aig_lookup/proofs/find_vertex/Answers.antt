use Rattle.aig_lookup.proofs.WalkLaws.{walk_ends, walk_finds}
use Rattle.std.proofs.Common.{sym, ◌∙◌, arith}
use Rattle.aig_lookup.proofs.find_vertex.Goals as goal

pub returns-then-has_pair : goal.returns-then-has_pair
returns-then-has_pair c =
    let at = c.loop-v in
    walk_finds c.requires.index c.requires.apart at.v (omega arith) at.invariant (sym c.has_pair.ensures ∙ c.if-has_pair.true)

pub returns : goal.returns
returns c =
    let at = c.loop-v in
    walk_ends c.requires.index c.requires.apart at.v (omega arith) at.invariant
