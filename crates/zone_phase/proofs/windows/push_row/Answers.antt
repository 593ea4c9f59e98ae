use Rattle.std.proofs.Common.{◌^◌}
use Rattle.std.proofs.lemmas.List.Elements.{All-push}
use Rattle.geo_base.specs.Motions.{moved_square}
use Rattle.cell_graph.specs.Linked.{IsRectWithin, motion_at}
use Rattle.zone_phase.proofs.Pulling.{comes}
use Rattle.zone_phase.proofs.Covering.{row_window}
use Rattle.zone_phase.proofs.windows.push_row.Goals as goal

pub returns-in_ok-push-clause-within : goal.returns-in_ok-push-clause-within
returns-in_ok-push-clause-within c = rw c.in_ok-push.ensures.items (All-push (IsRectWithin (2 ^ 39)) c.args.out.now.items c.bounds-both.result c.requires.within c.bounds-both.ensures.near)

pub returns-in_ok-push-clause-covered : goal.returns-in_ok-push-clause-covered
returns-in_ok-push-clause-covered c = λ column q lt h.
    comes c.args.out.now.items c.push.new.self.items c.bounds-both.result (moved_square (motion_at c.args.place.now c.args.row column) q) c.in_ok-push.ensures.items
    (row_window c.args.place.now c.args.row column c.args.hull.now c.element_rect-first.result c.element_rect-last.result c.bounds-both.result q c.requires.hull.some lt c.element_rect-first.ensures.exact c.element_rect-last.ensures.exact c.bounds-both.ensures.first c.bounds-both.ensures.second h)
