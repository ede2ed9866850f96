use Prim.Native.Nat.{ℕ}
use Rattle.bdd_unique.proofs.ChainLaws.{walk_begins, walk_on}
use Rattle.bdd_unique.specs.code.Unique.{Is}
use borrow.Author.Tests.{eq-eqb}
use lib.Dec.{eqb}
use mathlib.Core.Bool.{◌&&◌, false, false≢true}
use mathlib.Core.List.{List}
use mathlib.Core.Path.{◌∙◌, ◌≡◌, sym}
use native.Mathlib.Omega.{arith}
use Rattle.bdd_unique.proofs.find.Goals as goal

-- Two rows that hold the same pass the test for equality.
different : {rows : List ℕ} {i k l m x y z : ℕ} → Is rows i k l m → false ≡ (eqb k x && (eqb l y && eqb m z)) → Is rows i x y z → ⊥
different {k = k} {l} {m} {x} {y} {z} I e J =
    false≢true (e ∙ rw (eq-eqb k x (sym I.level ∙ J.level), eq-eqb l y (sym I.low ∙ J.low), eq-eqb m z (sym I.high ∙ J.high)))

pub loop-i-init : goal.loop-i-init
loop-i-init c =
    let s = c.args.store.now in
    let b = c.bucket_of-b.ensures in
    walk_begins s.store.chains c.args.node.level c.args.node.low c.args.node.high (rw b.0 at b.1) c.head_of-i.result (rw b.0 at c.head_of-i.ensures.0)

pub loop-i-preserved : goal.loop-i-preserved
loop-i-preserved c =
    let at = c.loop-i in
    let n = c.args.node in
    walk_on c.args.store.now.store.chains n.level n.low n.high at.i at.invariant (omega arith) (different c.node_of.ensures.is c.if-eq.ensures) c.next_of-i.result c.next_of-i.ensures.0
