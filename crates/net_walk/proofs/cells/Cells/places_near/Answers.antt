use Rattle.std.proofs.Common.{subst}
use Rattle.net_link_laws.specs.Places.{places_of}
use Rattle.net_walk.proofs.Numbering.{all_places}
use Rattle.net_walk.proofs.Walking.{as_long}
use Rattle.net_walk.proofs.cells.Cells.places_near.Goals as goal
use Rattle.net_walk.specs.Windows.{AreAllNumbers}

pub returns : goal.returns
returns g c =
    let d = g.Self.Cells.design c.args.self.now in
    let t = g.Self.Cells.tables c.args.self.now in
    let long = as_long c.places.result.now (places_of d c.args.cell) c.places.ensures.all in
    all_places d t c.args.cell c.args.window.now c.in_ok-all.all.items (subst (λ n. AreAllNumbers n c.in_ok-all.all.items) long c.in_ok-all.ensures)
