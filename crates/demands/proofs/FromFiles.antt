-- Demand 3 and completeness from the contracts of load and compare.
use Rattle.demands.proofs.Complete.{complete}
use Rattle.demands.proofs.Demand3.{demand3}
use Rattle.demands.specs.Demand3.{Ran}
use Rattle.demands.specs.FromFiles.{FromFiles}
use Rattle.load_model.proofs.LoadLaws.{load-only, load-table}
use Rattle.load_model.specs.Load.{accepted, answer_of, load_result, table_of}
use Rattle.netlist_model.specs.Limits.{number_of_edition}
use Rattle.netlist_model.specs.Pairing.{paired}
use mathlib.Core.Path.{◌∙◌, ◌≡◌, ap, sym}

-- From the files' bytes.
pub from_files : FromFiles
from_files left right old loaded last room result said calls given table was-accepted ran =
    let edition = number_of_edition said.edition in
    let a : load_result left right room ≡ accepted edition said.tally = sym given ∙ ap answer_of was-accepted in
    let h = load-only left right room edition said.tally a in
    let t : loaded ≡ table_of h.first (paired h.first h.second) old = (rw given at table) ∙ load-table h old in
    let r : Ran (table_of h.first (paired h.first h.second) old) calls last = rw t at ran in
    record {
      first = h.first;
      second = h.second;
      first_read = h.first_read;
      second-read = h.second-read;
      holds = rw t (demand3 left right room edition said.tally h.first h.second old last calls a h.first_read h.second-read r);
      decides = rw t (complete left right room edition said.tally h.first h.second old last calls a h.first_read h.second-read r);
    }
