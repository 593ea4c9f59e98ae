use Rattle.net_walk.proofs.Contacting.{no_contacts}
use Rattle.net_walk.proofs.contacts.find_contacts.Goals as goal
use Rattle.net_walk.specs.Walk.{place_of}

pub returns-in-None : goal.returns-in-None
returns-in-None g c =
    rw c.new.ensures.items (no_contacts (g.C.Cells.design c.args.cells.now) (g.C.Cells.wiring c.args.cells.now) (g.C.Cells.tables c.args.cells.now) (place_of c.args.one.now) (place_of c.args.other.now) c.in-None.ensures.none)
