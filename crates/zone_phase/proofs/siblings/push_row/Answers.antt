use Rattle.zone_phase.proofs.Gathered.{row_brings}
use Rattle.zone_phase.proofs.siblings.push_row.Goals as goal

pub returns-clause-exact : goal.returns-clause-exact
returns-clause-exact c =
    row_brings c.args.frame.now.design.now c.args.place.now c.args.frame.now.key c.args.window.now
    c.args.there.now.items c.push_around.new.there.items c.push_around-2.new.there.items
    c.in_ok-push_around.ensures.exact c.in_ok-push_around-2.ensures.exact
