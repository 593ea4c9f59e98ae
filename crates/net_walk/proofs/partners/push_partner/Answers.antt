use Rattle.net_walk.proofs.Partnering.{apart, bare, no_partner, one_partner}
use Rattle.net_walk.proofs.partners.push_partner.Goals as goal

pub returns-then-not-may_touch : goal.returns-then-not-may_touch
returns-then-not-may_touch g c =
    let d = g.C.Cells.design c.args.cells.now in
    let t = g.C.Cells.tables c.args.cells.now in
    let cell = c.args.element.now.cell in
    no_partner d t cell c.args.conductors.now c.args.ones.now c.args.from c.args.span.now c.args.out.now.items (apart d t cell c.args.conductors.now c.args.ones.now c.args.span.now (c.may_touch.ensures c.if-not-may_touch.true))

pub returns-then-not-may_hold : goal.returns-then-not-may_hold
returns-then-not-may_hold g c =
    let d = g.C.Cells.design c.args.cells.now in
    let t = g.C.Cells.tables c.args.cells.now in
    let cell = c.args.element.now.cell in
    no_partner d t cell c.args.conductors.now c.args.ones.now c.args.from c.args.span.now c.args.out.now.items (bare d t cell c.args.conductors.now c.args.ones.now c.args.span.now (c.may_hold.ensures c.if-not-may_hold.true))

pub returns : goal.returns
returns g c = rw c.in_ok-push.ensures.items (one_partner (g.C.Cells.design c.args.cells.now) (g.C.Cells.tables c.args.cells.now) c.args.element.now.cell c.args.conductors.now c.args.ones.now c.args.from c.args.span.now c.args.out.now.items)
