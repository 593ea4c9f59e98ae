use Rattle.std.proofs.Common.{◌∙◌, ◌^◌, List, arith, refl, subst, sym}
use Rattle.std.specs.List.{All}
use Rattle.geo_base.specs.declared.shapes.Rect.{Rect}
use Rattle.cell_graph.specs.Linked.{IsRectWithin}
use Rattle.cell_context.proofs.Collecting.{is_hull, near_array, close_array}
use Rattle.deep_tables.specs.Entries.{downward_cell}
use Rattle.zone_phase.specs.Pulls.{Adds, OnRects}
use Rattle.zone_phase.proofs.Joining.{pieces_within}
use Rattle.zone_phase.proofs.Over.{bare_over, hulless_over, none_over, over_adds}
use Rattle.zone_phase.proofs.overs.push_over.Goals as goal

pub is_bare-requires : goal.is_bare-requires
is_bare-requires c = c.requires.neighbour.inside

pub hull-requires : goal.hull-requires
hull-requires c = c.requires.neighbour.inside

pub element_rect-window-requires-clause-close : goal.element_rect-window-requires-clause-close
element_rect-window-requires-clause-close c = let n = c.requires.neighbour in close_array c.args.design.now (downward_cell c.args.design.now n.found.job) n.found.index c.args.neighbour.now.place c.sound.ensures n.placed

pub element_rect-window-requires-clause-row : goal.element_rect-window-requires-clause-row
element_rect-window-requires-clause-row c = let e = c.requires.neighbour.apart.0 in omega arith

pub element_rect-window-requires-clause-column : goal.element_rect-window-requires-clause-column
element_rect-window-requires-clause-column c = let e = c.requires.neighbour.apart.1 in omega arith

pub push_brought-requires-clause-some : goal.push_brought-requires-clause-some
push_brought-requires-clause-some c = let e = c.requires.neighbour.single.1 in omega arith

pub push_brought-requires-clause-frame : goal.push_brought-requires-clause-frame
push_brought-requires-clause-frame c = is_hull c.args.design.now c.args.neighbour.now.other.cell c.in-Some.hull c.sound.ensures (sym c.in-Some.is ∙ c.hull.ensures)

pub push_onto-requires-clause-near : goal.push_onto-requires-clause-near
push_onto-requires-clause-near c = let n = c.requires.neighbour in near_array c.args.design.now (downward_cell c.args.design.now n.found.job) n.found.index c.args.neighbour.now.place c.sound.ensures n.placed

pub push_onto-requires-clause-some : goal.push_onto-requires-clause-some
push_onto-requires-clause-some c = let e = c.requires.neighbour.apart.1 in omega arith

pub push_onto-requires-clause-within : goal.push_onto-requires-clause-within
push_onto-requires-clause-within c =
    subst (λ (l : List Rect). All (IsRectWithin (2 ^ 39)) l) (sym c.deref.ensures.value) (pieces_within c.element_rect-window.result c.push_brought.new.there.items c.element_rect-window.ensures.near c.in_ok-push_brought-in-Some.ensures.pieces)

pub returns-then-is_bare-clause-exact : goal.returns-then-is_bare-clause-exact
returns-then-is_bare-clause-exact c =
    none_over c.args.design.now c.args.grown.now c.args.key c.args.neighbour.now c.args.out.now.items
    (λ q. bare_over c.args.design.now c.args.key c.args.neighbour.now q c.sound.ensures (c.if-is_bare.ensures.own refl) (c.if-is_bare.ensures.places refl))

pub returns-in-None-clause-exact : goal.returns-in-None-clause-exact
returns-in-None-clause-exact c =
    none_over c.args.design.now c.args.grown.now c.args.key c.args.neighbour.now c.args.out.now.items (λ q. hulless_over c.args.design.now c.args.key c.args.neighbour.now q c.sound.ensures (sym c.in-None.is ∙ c.hull.ensures))

pub returns-in_ok-push_onto-in-Some-clause-exact : goal.returns-in_ok-push_onto-in-Some-clause-exact
returns-in_ok-push_onto-in-Some-clause-exact c =
    let n = c.args.neighbour.now in
    over_adds c.args.design.now c.args.grown.now c.element_rect-window.result c.args.key n c.new-there.result.items c.push_brought.new.there.items c.args.out.now.items c.push_onto.new.out.items
    c.requires.neighbour.apart c.requires.grown.some c.element_rect-window.ensures.exact c.new-there.ensures.items c.in_ok-push_brought-in-Some.ensures.exact
    (subst (λ (l : List Rect). Adds n.place c.args.grown.now (OnRects n.place l) c.args.out.now.items c.push_onto.new.out.items) c.deref.ensures.value c.in_ok-push_onto-in-Some.ensures.exact)
