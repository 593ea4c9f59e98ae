use Rattle.zone_phase.proofs.Rows.{rows_brought}
use Rattle.zone_phase.proofs.siblings.push_rows.Goals as goal

pub returns-clause-exact : goal.returns-clause-exact
returns-clause-exact c =
    rows_brought c.args.frame.now.design.now c.args.place.now c.args.frame.now.key c.args.window.now c.args.rows.ahead c.args.rows.back c.args.rows.count c.args.there.now.items c.push_around.new.there.items c.push_around-2.new.there.items c.requires.array.columns
    c.in_ok-push_around.ensures.exact c.in_ok-push_around-2.ensures.exact
