-- The tests decide, in the order of the definition; no loop.
use Rattle.std.proofs.Common.{Some, ap, refl}
use Rattle.sweep_look.proofs.look.look_at.Goals as goal
use Rattle.sweep_look.proofs.look.look_at.Goals.{else-is_drawn-via-else-is_drawn, else-is_drawn-via-then-is_drawn+else-is_drawn-2}
use Rattle.sweep_state.specs.code.Look.{seen_at}

pub returns-then-eq : goal.returns-then-eq
unfolding seen_at
returns-then-eq c = rw (← c.if-eq.ensures) refl

pub returns-then-eq-2 : goal.returns-then-eq-2
unfolding seen_at
returns-then-eq-2 c =
    let inverse = rw c.negated.ensures at c.if-eq-2.ensures in
    rw (← c.if-eq.ensures, ← inverse) refl

pub returns-then-is_drawn-2 : goal.returns-then-is_drawn-2
unfolding seen_at
returns-then-is_drawn-2 c =
    let other = rw c.negated.ensures at c.if-eq-2.ensures in
    rw (← c.if-eq.ensures, ← other, ← c.is_drawn.ensures, c.if-is_drawn.true, ← c.is_drawn-then-is_drawn.ensures, c.if-is_drawn-2.true)
    (ap Some c.compare.ensures)

pub returns : goal.returns
unfolding seen_at
returns c =
    let other = rw c.negated.ensures at c.if-eq-2.ensures in
    elim c.else-is_drawn.branch [
      | else-is_drawn-via-then-is_drawn+else-is_drawn-2 w ↦
          rw (← c.if-eq.ensures, ← other, ← c.is_drawn.ensures, w.if-is_drawn.true, ← w.is_drawn-then-is_drawn.ensures, w.if-is_drawn-2.false) refl
      | else-is_drawn-via-else-is_drawn w ↦ rw (← c.if-eq.ensures, ← other, ← c.is_drawn.ensures, w.if-is_drawn.false) refl
    ]
