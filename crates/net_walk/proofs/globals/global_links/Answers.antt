use Rattle.std.proofs.Common.{length, refl}
use Rattle.net_link_laws.specs.Places.{places_of}
use Rattle.net_walk.proofs.Grounding.{any_to}
use Rattle.net_walk.proofs.globals.global_links.Goals as goal

pub ground_lines-requires-clause-lines : goal.ground_lines-requires-clause-lines
ground_lines-requires-clause-lines g c = λ k h l. (c.requires.lines k h).0 l

pub returns : goal.returns
returns g c =
    let d = g.C.Cells.design c.args.cells.now in
    let w = g.C.Cells.wiring c.args.cells.now in
    let t = g.C.Cells.tables c.args.cells.now in
    let cell = c.args.globals.now.cell in
    any_to d w t cell c.args.lines.now (length (places_of d cell)) c.args.out.now.items c.ground_lines.new.out.items c.join_placements.new.out.items refl c.requires.lines c.in_ok-ground_lines.ensures c.in_ok-join_placements.ensures
