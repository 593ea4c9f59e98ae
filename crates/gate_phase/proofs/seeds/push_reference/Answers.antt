use Rattle.std.proofs.Common.{◌∙◌, sym, subst}
use Rattle.cell_graph.specs.Linked.{HullIsSound}
use Rattle.cell_graph.proofs.Bridge.{hull_sound, lower, reference_at}
use Rattle.cell_context.proofs.Collecting.{near_array}
use Rattle.gate_phase.proofs.seeds.push_reference.Goals as goal

pub hull-requires : goal.hull-requires
hull-requires c = (lower c.args.at.now.site.design.now c.args.at.now.site.cell c.args.index c.args.place.now c.sound.ensures c.requires.there).0

pub push_part-requires-clause-near : goal.push_part-requires-clause-near
push_part-requires-clause-near c = near_array c.args.at.now.site.design.now c.args.at.now.site.cell c.args.index c.args.place.now c.sound.ensures c.requires.there

pub push_part-requires-clause-some : goal.push_part-requires-clause-some
push_part-requires-clause-some c = (reference_at c.args.at.now.site.design.now c.args.at.now.site.cell c.args.index c.args.place.now c.sound.ensures c.requires.there).2.columns

pub grown_hull-below-requires-clause-hull : goal.grown_hull-below-requires-clause-hull
grown_hull-below-requires-clause-hull c = subst HullIsSound (sym c.hull.ensures ∙ c.in-Some.is) (hull_sound c.args.at.now.site.design.now c.args.place.now.cell c.sound.ensures)

pub push_told-requires-clause-near : goal.push_told-requires-clause-near
push_told-requires-clause-near c = near_array c.args.at.now.site.design.now c.args.at.now.site.cell c.args.index c.args.place.now c.sound.ensures c.requires.there

pub push_told-requires-clause-some : goal.push_told-requires-clause-some
push_told-requires-clause-some c = (reference_at c.args.at.now.site.design.now c.args.at.now.site.cell c.args.index c.args.place.now c.sound.ensures c.requires.there).2.columns
