-- Three stores; no loop.
-- Each is inside the slice, since those before it keep its length.
use Rattle.load_pair.proofs.Copying.{header-written}
use Rattle.load_pair.proofs.layout.write_header.Goals as goal

pub returns : goal.returns
returns c = header-written _ _ _ _ c.requires
