use Rattle.std.proofs.Common.{◌^◌, arith, sym, subst}
use Rattle.std.proofs.lemmas.Int.{ints, clamps}
use Rattle.geo_base.specs.Rects.{IsInside, bounding_box}
use Rattle.geo_base.proofs.Meeting.{in_left, in_right}
use Rattle.cell_graph.specs.Linked.{IsRectWithin}
use Rattle.zone_phase.proofs.windows.bounds.Goals as goal

pub returns-clause-first : goal.returns-clause-first
returns-clause-first c = subst (IsInside c.args.a.now) (sym c.bounding_box.ensures) (in_left c.args.a.now c.args.b.now)

pub returns-clause-second : goal.returns-clause-second
returns-clause-second c = subst (IsInside c.args.b.now) (sym c.bounding_box.ensures) (in_right c.args.a.now c.args.b.now)
