use Rattle.std.proofs.lemmas.List.Elements.{All-append}
use Rattle.std.proofs.Common.{◌^◌, sym, subst, arith}
use Rattle.cell_graph.specs.Linked.{HullIsSound, IsFrame, IsHull}
use Rattle.cell_graph.proofs.Bridge.{hull_sound, lower, reference_at}
use Rattle.cell_graph.proofs.Growing.{grown_frame}
use Rattle.cell_context.specs.Visits.{IsVisited}
use Rattle.cell_context.specs.Over.{IsVisit}
use Rattle.cell_context.proofs.Collecting.{near_array, grown_has, visits_of}
use Rattle.cell_context.proofs.Visiting.{some_more, some_behind, wider_rect}
use Rattle.cell_context.proofs.flats.push_visits.Goals as goal

pub hull-requires : goal.hull-requires
hull-requires c = (lower c.args.search.now.design.now c.args.search.now.cell c.args.index c.args.place.now c.sound.ensures c.requires.there).0

pub push_elements-requires-clause-near : goal.push_elements-requires-clause-near
push_elements-requires-clause-near c = near_array c.args.search.now.design.now c.args.search.now.cell c.args.index c.args.place.now c.sound.ensures c.requires.there

pub push_elements-requires-clause-some : goal.push_elements-requires-clause-some
push_elements-requires-clause-some c = (reference_at c.args.search.now.design.now c.args.search.now.cell c.args.index c.args.place.now c.sound.ensures c.requires.there).2.columns

pub push_elements-requires-clause-hull : goal.push_elements-requires-clause-hull
push_elements-requires-clause-hull c = subst IsFrame (sym c.grown-wide.ensures) (grown_frame c.args.search.now.by c.in-Some.hull c.requires.search.by (subst HullIsSound (sym c.in-Some.ensures) (hull_sound c.args.search.now.design.now c.args.place.now.cell c.sound.ensures)))

pub grown-wide-requires : goal.grown-wide-requires
grown-wide-requires c =
    let h : IsHull c.in-Some.hull = subst HullIsSound (sym c.in-Some.ensures) (hull_sound c.args.search.now.design.now c.args.place.now.cell c.sound.ensures) in
    wider_rect (2 ^ 36) (2 ^ 39) c.in-Some.hull (omega arith) h.near

pub returns-in_ok-push_elements-clause-each : goal.returns-in_ok-push_elements-clause-each
returns-in_ok-push_elements-clause-each c =
    let adds = c.in_ok-push_elements.ensures {u = tt} in
    rw adds.behind (All-append (IsVisit c.args.search.now.by c.args.search.now.design.now c.args.search.now.cell c.args.search.now.skip c.args.search.now.window.now) c.args.out.now.items adds.more c.requires.each
    (visits_of c.args.search.now.by c.args.search.now.design.now c.args.search.now.cell c.args.index c.args.search.now.skip c.args.search.now.window.now c.in-Some.hull c.grown-wide.result c.args.place.now adds.more c.in-Some.ensures c.grown-wide.ensures c.requires.there c.requires.kept adds.each))

pub returns-in_ok-push_elements-clause-found : goal.returns-in_ok-push_elements-clause-found
returns-in_ok-push_elements-clause-found c = λ row column q step held met.
    let adds = c.in_ok-push_elements.ensures {u = tt} in
    rw adds.behind (some_behind (IsVisited c.args.place.now row column q) c.args.out.now.items adds.more
    (adds.found row column q (step.row_in, step.column_in) (record { inner = grown_has c.args.search.now.by _ c.in-Some.hull c.grown-wide.result q c.in-Some.ensures c.grown-wide.ensures held; outer = met })))

pub returns-in_ok-push_elements-clause-stay : goal.returns-in_ok-push_elements-clause-stay
returns-in_ok-push_elements-clause-stay c = λ row column p q h.
    let adds = c.in_ok-push_elements.ensures {u = tt} in
    rw adds.behind (some_more (IsVisited p row column q) c.args.out.now.items adds.more h)
