-- The bucket of the row is computed from its fields.
-- No loop.
use Prim.Native.Nat.{suc}
use Rattle.bdd.specs.code.Rows.{put}
use Rattle.bdd_unique.proofs.ChainLaws.{bucket-is}
use Rattle.bdd_unique.specs.code.Unique.{unlinked}
use mathlib.Core.Path.{◌∙◌, ap, ap₂, sym}
use native.Mathlib.Numerals.{add-one}
use native.Mathlib.Omega.{arith}
use Rattle.bdd_unique.proofs.unlink.Goals as goal

pub put_word-requires : goal.put_word-requires
put_word-requires c =
    (omega arith, omega (arith, c.bucket_of-b.ensures.1, c.requires.1.long), c.next_of-next.ensures.1)

pub returns : goal.returns
unfolding unlinked
returns c =
    let a = c.args in
    c.put_word.ensures
    ∙ ap₂ (λ b w. put a.rows.now 3 b w)
    (add-one c.bucket_of-b.result ∙ ap suc (c.bucket_of-b.ensures.0 ∙ sym (bucket-is a.rows.now a.limit a.i _ _ _ c.node_of.ensures.is)))
    c.next_of-next.ensures.0
