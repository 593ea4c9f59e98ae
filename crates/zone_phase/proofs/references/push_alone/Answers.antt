use Rattle.std.proofs.Common.{List, subst}
use Rattle.geo_base.specs.declared.shapes.Rect.{Rect}
use Rattle.cell_graph.specs.Linked.{cell_at, own_of}
use Rattle.cell_graph.proofs.Bridge.{reference_at}
use Rattle.cell_context.proofs.Collecting.{near_array, close_array}
use Rattle.zone_phase.specs.Pulls.{Adds, OnRectsIn}
use Rattle.zone_phase.proofs.Alone.{alone_adds}
use Rattle.zone_phase.proofs.references.push_alone.Goals as goal

pub push_among-requires-clause-near : goal.push_among-requires-clause-near
push_among-requires-clause-near c = near_array c.args.frame.now.design.now c.args.parent c.args.index c.args.place.now c.sound.ensures c.requires.reference.there

pub push_among-requires-clause-some : goal.push_among-requires-clause-some
push_among-requires-clause-some c = (reference_at c.args.frame.now.design.now c.args.parent c.args.index c.args.place.now c.sound.ensures c.requires.reference.there).2.columns

pub windows-requires-clause-close : goal.windows-requires-clause-close
windows-requires-clause-close c = close_array c.args.frame.now.design.now c.args.parent c.args.index c.args.place.now c.sound.ensures c.requires.reference.there

pub windows-requires-clause-some : goal.windows-requires-clause-some
windows-requires-clause-some c = (reference_at c.args.frame.now.design.now c.args.parent c.args.index c.args.place.now c.sound.ensures c.requires.reference.there).2.columns

pub push_own-requires-clause-near : goal.push_own-requires-clause-near
push_own-requires-clause-near c = near_array c.args.frame.now.design.now c.args.parent c.args.index c.args.place.now c.sound.ensures c.requires.reference.there

pub push_own-requires-clause-some : goal.push_own-requires-clause-some
push_own-requires-clause-some c = (reference_at c.args.frame.now.design.now c.args.parent c.args.index c.args.place.now c.sound.ensures c.requires.reference.there).2.columns

pub returns-clause-exact : goal.returns-clause-exact
returns-clause-exact c =
    alone_adds c.args.frame.now.design.now c.args.zone.now c.in_ok-list.list.items c.args.parent c.args.index c.args.frame.now.key c.args.place.now c.args.frame.now.grown
    c.args.out.now.items c.push_among.new.out.items c.push_own.new.out.items c.requires.alone c.in_ok-list.ensures.covered
    (subst (λ (l : List Rect). Adds c.args.place.now c.args.frame.now.grown (OnRectsIn l c.args.place.now c.args.zone.now) c.args.out.now.items c.push_among.new.out.items) c.deref.ensures.value c.in_ok-push_among.ensures.exact)
    (subst (λ (l : List Rect). Adds c.args.place.now c.args.frame.now.grown (OnRectsIn l c.args.place.now (own_of (cell_at c.args.frame.now.design.now c.args.parent) c.args.frame.now.key)) c.push_among.new.out.items c.push_own.new.out.items) c.deref-2.ensures.value c.in_ok-push_own.ensures.exact)
