use Rattle.std.proofs.Common.{List, Some, arith, subst, sym, slice_index_or}
use Rattle.std.specs.List.{All}
use Rattle.cell_context.specs.declared.arrays.Visit.{Visit}
use Rattle.cell_context.specs.Over.{AreVisited, IsVisit}
use Rattle.cell_context.proofs.Collecting.{near_array, close_array}
use Rattle.cell_context.proofs.Gathering.{no_visit, visit_motion}
use Rattle.cell_context.proofs.Visiting.{up_to}
use Rattle.zone_phase.proofs.Nearing.{BringsVisit, all_near, put_each, put_more, seen_neighbour, visit_here}
use Rattle.zone_phase.proofs.neighbours.push_around.Goals as goal

pub element_rect-window-requires-clause-close : goal.element_rect-window-requires-clause-close
element_rect-window-requires-clause-close c = close_array c.args.used.now.design.now c.args.parent c.args.found.now.index c.args.place.now c.sound.ensures c.requires.there

pub element_rect-window-requires-clause-row : goal.element_rect-window-requires-clause-row
element_rect-window-requires-clause-row c = let e = c.requires.alone.0 in omega arith

pub element_rect-window-requires-clause-column : goal.element_rect-window-requires-clause-column
element_rect-window-requires-clause-column c = let e = c.requires.alone.1 in omega arith

pub push_neighbour-requires-clause-near : goal.push_neighbour-requires-clause-near
push_neighbour-requires-clause-near c = near_array c.args.used.now.design.now c.args.parent c.args.found.now.index c.args.place.now c.sound.ensures c.requires.there

pub push_neighbour-requires-clause-motion : goal.push_neighbour-requires-clause-motion
push_neighbour-requires-clause-motion c =
    let d = c.args.used.now.design.now in let w = c.element_rect-window.result in
    let each = subst (All (IsVisit 0 d c.args.parent (Some c.args.found.now.index) w)) (sym c.deref-visit-items.ensures.value) c.in_ok-visits.ensures.each in
    visit_motion 0 d c.args.parent (Some c.args.found.now.index) w _ c.sound.ensures (each c.loop-visit.visit-index no_visit c.loop-visit-test.true)

pub loop-visit-preserved : goal.loop-visit-preserved
loop-visit-preserved c =
    let d = c.args.used.now.design.now in let w = c.element_rect-window.result in let uses = c.args.used.now.uses.now in let place = c.args.place.now in
    let each = subst (All (IsVisit 0 d c.args.parent (Some c.args.found.now.index) w)) (sym c.deref-visit-items.ensures.value) c.in_ok-visits.ensures.each in
    let h = each c.loop-visit.visit-index no_visit c.loop-visit-test.true in
    let v = slice_index_or c.deref-visit-items.result.now c.loop-visit.visit-index no_visit in
    let old = c.loop-visit.memo.list.items in let new = c.push_neighbour.new.memo.list.items in
    let e = c.in_ok-push_neighbour.ensures in
    let is = seen_neighbour d uses c.args.found.now c.args.parent place w v e.0 c.sound.ensures c.requires.found c.requires.parent c.requires.there c.requires.alone h e.1 in
    record {
      each = put_each d uses old new e.0 e.2 is c.loop-visit.invariant.each;
      more = λ key q g. put_more d old new e.0 e.2 key q (c.loop-visit.invariant.more key q g);
      found = up_to (λ k. BringsVisit d place (slice_index_or c.deref-visit-items.result.now k no_visit) new) c.loop-visit.visit-index
          (λ k lt key q r a b. put_more d old new e.0 e.2 key q (c.loop-visit.invariant.found k lt key q r a b))
          (visit_here d uses old new place v e.0 e.2 is c.loop-visit.invariant.each e.1);
    }

pub returns-clause-all : goal.returns-clause-all
returns-clause-all c =
    let d = c.args.used.now.design.now in let w = c.element_rect-window.result in let index = c.args.found.now.index in
    all_near d c.args.parent index c.args.place.now c.args.grown.now w c.loop-visit.memo.list.items c.deref-visit-items.result.now no_visit c.sound.ensures c.requires.grown.some c.element_rect-window.ensures.exact
    (λ k lt. c.loop-visit.invariant.found k (let past = c.loop-visit-test.false in omega (arith, lt, past)))
    (subst (λ (l : List Visit). AreVisited 0 d c.args.parent (Some index) w l) (sym c.deref-visit-items.ensures.value) c.in_ok-visits.ensures.found)
