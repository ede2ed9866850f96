-- Demand 2, proved: what is said of every reply, by the table given.
use Rattle.compare_model.proofs.ClaimLaws.{reply-says}
use Rattle.compare_model.proofs.RefusalLaws.{passed}
use Rattle.compare_model.proofs.Since.{Since, since_compared, since_loaded, since_value}
use Rattle.compare_model.specs.Claims.{ReplySays}
use Rattle.compare_model.specs.Compare.{compared}
use Rattle.compare_model.specs.Demand2.{Demand2}
use mathlib.Core.Path.{subst}

-- Demand 2.
pub demand2 : Demand2
demand2 g h =
    let s : Since g.table g.table = since_loaded (passed g h).table in
    record {
      equal = λ rows steps added e. (subst (ReplySays g.table g (compared g)) e (reply-says g h s)).0;
      different = λ rows steps added e. (subst (ReplySays g.table g (compared g)) e (reply-says g h s)).0;
      values = since_value (since_compared g s);
    }
