use Rattle.zone_phase.proofs.Gathered.{others_bring}
use Rattle.zone_phase.proofs.siblings.push_others.Goals as goal

pub returns-clause-exact : goal.returns-clause-exact
returns-clause-exact c =
    others_bring c.args.frame.now.design.now c.args.place.now c.args.frame.now.key c.args.window.now
    c.args.there.now.items c.push_rows.new.there.items c.push_rows-2.new.there.items c.push_row.new.there.items
    c.in_ok-push_rows.ensures.exact c.in_ok-push_rows-2.ensures.exact c.in_ok-push_row.ensures.exact
