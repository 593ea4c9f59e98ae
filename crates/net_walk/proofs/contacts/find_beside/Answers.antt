use Rattle.std.proofs.Common.{refl}
use Rattle.net_walk.proofs.Contacting.{beside_all}
use Rattle.net_walk.proofs.Walking.{near_close}
use Rattle.net_walk.proofs.contacts.find_beside.Goals as goal
use Rattle.net_walk.specs.Walk.{place_of}

pub relative-requires-clause-near : goal.relative-requires-clause-near
relative-requires-clause-near g c = near_close c.args.one.now.motion c.requires.close

pub relative-requires-clause-near_other : goal.relative-requires-clause-near_other
relative-requires-clause-near_other g c = near_close c.args.other.now.motion c.requires.close_too

pub returns-clause-is : goal.returns-clause-is
returns-clause-is g c =
    beside_all (g.C.Cells.design c.args.cells.now) (g.C.Cells.wiring c.args.cells.now) (g.C.Cells.tables c.args.cells.now) (place_of c.args.one.now) (place_of c.args.other.now) _ (record { one = refl; other = refl; motion = c.relative.ensures }) c.in_ok-contacts.ensures

pub returns-clause-lie : goal.returns-clause-lie
returns-clause-lie g c = record { one = refl; other = refl; motion = c.relative.ensures }
