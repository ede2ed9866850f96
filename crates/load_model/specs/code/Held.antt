-- The netlist that an accepted file holds.
use Rattle.load_model.specs.declared.Accepted.{Accepted}
use Rattle.netlist_model.specs.Netlist.{Netlist}
use Rattle.netlist_model.specs.code.Accepted.{netlist_of}

abbrev pub netlist_held : Accepted → Netlist
netlist_held f = netlist_of f.file.now f.summary
