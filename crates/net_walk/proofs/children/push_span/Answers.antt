use Rattle.net_walk.proofs.Spanning.{span_none, span_some}
use Rattle.net_walk.proofs.children.push_span.Goals as goal
use Rattle.net_walk.specs.Walk.{place_of}

pub returns-in-None : goal.returns-in-None
returns-in-None g c = span_none (g.C.Cells.design c.args.cells.now) (g.C.Cells.tables c.args.cells.now) (place_of c.args.element.now) c.args.number c.args.out.now.items c.in-None.ensures.none

pub returns-in_ok-push-in-Some : goal.returns-in_ok-push-in-Some
returns-in_ok-push-in-Some g c =
    rw c.in_ok-push-in-Some.ensures.items
    (span_some (g.C.Cells.design c.args.cells.now) (g.C.Cells.tables c.args.cells.now) (place_of c.args.element.now) c.args.number c.args.out.now.items c.in-Some.span c.grown.result c.in-Some.ensures.some c.grown.ensures)
