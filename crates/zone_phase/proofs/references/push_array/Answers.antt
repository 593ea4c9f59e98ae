use Rattle.std.proofs.Common.{◌≡◌, ℕ, List, Some, sym, subst}
use Rattle.geo_base.specs.declared.shapes.Rect.{Rect}
use Rattle.cell_graph.specs.Linked.{cell_at, hull_of}
use Rattle.cell_graph.proofs.Bridge.{reference_at, lower}
use Rattle.cell_context.proofs.Collecting.{near_array, close_array, is_hull}
use Rattle.zone_phase.specs.Pulls.{Adds, OnRectsIn, BesideIn}
use Rattle.zone_phase.proofs.Gathered.{reference_adds}
use Rattle.zone_phase.proofs.references.push_array.Goals as goal

pub push_among-requires-clause-near : goal.push_among-requires-clause-near
push_among-requires-clause-near c = near_array c.args.frame.now.design.now c.args.parent c.args.index c.args.place.now c.sound.ensures c.requires.reference.there

pub push_among-requires-clause-some : goal.push_among-requires-clause-some
push_among-requires-clause-some c = (reference_at c.args.frame.now.design.now c.args.parent c.args.index c.args.place.now c.sound.ensures c.requires.reference.there).2.columns

pub windows-requires-clause-close : goal.windows-requires-clause-close
windows-requires-clause-close c = close_array c.args.frame.now.design.now c.args.parent c.args.index c.args.place.now c.sound.ensures c.requires.reference.there

pub windows-requires-clause-some : goal.windows-requires-clause-some
windows-requires-clause-some c = (reference_at c.args.frame.now.design.now c.args.parent c.args.index c.args.place.now c.sound.ensures c.requires.reference.there).2.columns

pub push_beside-requires-clause-near : goal.push_beside-requires-clause-near
push_beside-requires-clause-near c = near_array c.args.frame.now.design.now c.args.parent c.args.index c.args.place.now c.sound.ensures c.requires.reference.there

pub push_beside-requires-clause-some : goal.push_beside-requires-clause-some
push_beside-requires-clause-some c = (reference_at c.args.frame.now.design.now c.args.parent c.args.index c.args.place.now c.sound.ensures c.requires.reference.there).2.columns

pub push_siblings-requires-clause-near : goal.push_siblings-requires-clause-near
push_siblings-requires-clause-near c = near_array c.args.frame.now.design.now c.args.parent c.args.index c.args.place.now c.sound.ensures c.requires.reference.there

pub push_siblings-requires-clause-array : goal.push_siblings-requires-clause-array
push_siblings-requires-clause-array c =
    let d = c.args.frame.now.design.now in let p = c.args.place.now in let hull = c.args.frame.now.hull in
    let at = c.requires.reference.there in
    let is = reference_at d c.args.parent c.args.index p c.sound.ensures at in
    let here : hull_of (cell_at d p.cell) ≡ Some hull = subst (λ (n : ℕ). hull_of (cell_at d n) ≡ Some hull) (sym c.requires.reference.here) c.requires.frame.hull in
    record {
      close = close_array d c.args.parent c.args.index p c.sound.ensures at;
      rows = is.2.rows;
      columns = is.2.columns;
      cell = (lower d c.args.parent c.args.index p c.sound.ensures at).0;
      hull = here;
      near = is_hull d p.cell hull c.sound.ensures (sym here);
    }

pub returns-clause-exact : goal.returns-clause-exact
returns-clause-exact c =
    reference_adds c.args.frame.now.design.now c.args.zone.now c.in_ok-list.list.items c.args.parent c.args.index c.args.frame.now.key c.args.place.now c.args.frame.now.grown
    c.args.out.now.items c.push_among.new.out.items c.push_beside.new.out.items c.push_siblings.new.out.items c.in_ok-list.ensures.covered
    (subst (λ (l : List Rect). Adds c.args.place.now c.args.frame.now.grown (OnRectsIn l c.args.place.now c.args.zone.now) c.args.out.now.items c.push_among.new.out.items) c.deref.ensures.value c.in_ok-push_among.ensures.exact)
    (subst (λ (l : List Rect). Adds c.args.place.now c.args.frame.now.grown (BesideIn l c.args.frame.now.design.now c.args.parent c.args.index c.args.frame.now.key c.args.place.now) c.push_among.new.out.items c.push_beside.new.out.items) c.deref-2.ensures.value c.in_ok-push_beside.ensures.exact)
    c.in_ok-push_siblings.ensures.exact
