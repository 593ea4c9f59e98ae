use Rattle.std.proofs.Common.{◌^◌, arith, sym, subst}
use Rattle.geo_base.specs.Rects.{IsRect}
use Rattle.cell_graph.specs.Linked.{HullIsSound, IsHull}
use Rattle.cell_graph.proofs.Bridge.{hull_sound}
use Rattle.cell_context.proofs.Visiting.{wider_rect}
use Rattle.layer_phase.proofs.Around.{grown_rect}
use Rattle.layer_phase.proofs.Leaves.{whole_looks}
use Rattle.layer_phase.proofs.looks.leaf_looks.Goals as goal

pub grown-wide-requires : goal.grown-wide-requires
grown-wide-requires c =
    let h : IsHull c.args.hull.now = subst HullIsSound c.requires.hull (hull_sound c.args.view.now.design.now c.args.cell c.sound.ensures) in
    wider_rect (2 ^ 36) (2 ^ 39) c.args.hull.now (omega arith) h.near

pub whole-requires : goal.whole-requires
whole-requires c =
    subst IsRect (sym c.grown-wide.ensures) (grown_rect c.args.view.now.reach c.args.hull.now (subst HullIsSound c.requires.hull (hull_sound c.args.view.now.design.now c.args.cell c.sound.ensures)).some)

pub returns : goal.returns
returns c =
    whole_looks c.args.view.now.reach c.args.view.now.design.now c.args.view.now.zones.now c.args.view.now.names.now c.args.view.now.members.now c.args.cell c.args.hull.now c.grown-wide.result c.in_ok-set.set c.requires.view.most c.sound.ensures c.requires.hull c.grown-wide.ensures c.requires.leaf c.in_ok-set.ensures
