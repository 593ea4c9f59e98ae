use Rattle.std.proofs.Common.{◌∙◌, ◌++◌, List, arith, ap, subst, sym}
use Rattle.std.specs.List.{All}
use Rattle.std.proofs.lemmas.List.Elements.{All-append}
use Rattle.geo_base.specs.Rects.{IsRect}
use Rattle.geo_base.specs.declared.shapes.Rect.{Rect}
use Rattle.cell_graph.specs.Linked.{cell_at, hull_of}
use Rattle.cell_graph.proofs.Bridge.{hull_sound}
use Rattle.layer_phase.proofs.Owning.{own_here, own_near, held_behind, own_within, grows_left, own_none}
use Rattle.layer_phase.proofs.looks.push_near_own.Goals as goal

pub returns-then-view-eq0-clause-held : goal.returns-then-view-eq0-clause-held
returns-then-view-eq0-clause-held c = c.in_ok-push_all_own.ensures.held c.args.view.now.reach c.requires.held

pub returns-then-view-eq0-clause-brings : goal.returns-then-view-eq0-clause-brings
returns-then-view-eq0-clause-brings c =
    let t = c.if-view-eq0.true in
    own_here c.args.view.now.reach c.args.view.now.design.now c.args.view.now.names.now c.args.cell c.push_all_own.new.out.items (omega arith) c.in_ok-push_all_own.ensures.brings

pub sized-requires-clause-within : goal.sized-requires-clause-within
sized-requires-clause-within c =
    own_within (hull_of (cell_at c.args.view.now.design.now c.args.cell)) c.push_all_own-2.new.out.items c.in_ok-set.set (hull_sound c.args.view.now.design.now c.args.cell c.sound.ensures)
    (c.in_ok-push_all_own-2.ensures.held 0 (own_none (hull_of (cell_at c.args.view.now.design.now c.args.cell)) c.new-own.result.items c.new-own.ensures.items)) c.in_ok-set.ensures

pub returns-clause-rects : goal.returns-clause-rects
returns-clause-rects c =
    subst (All IsRect) (sym c.in_ok-extend_from_slice.ensures.items) (All-append IsRect c.args.out.now.items c.rects-rects-2.result.now c.requires.rects (subst (All IsRect) (sym c.rects-rects-2.ensures.list) c.rects-rects-2.ensures.sound))

pub returns-clause-held : goal.returns-clause-held
returns-clause-held c =
    held_behind c.args.view.now.reach (hull_of (cell_at c.args.view.now.design.now c.args.cell)) c.args.out.now.items c.push_all_own-2.new.out.items c.in_ok-set.set c.in_ok-wide.wide c.extend_from_slice.new.self.items c.requires.held
    (c.in_ok-push_all_own-2.ensures.held 0 (own_none (hull_of (cell_at c.args.view.now.design.now c.args.cell)) c.new-own.result.items c.new-own.ensures.items))
    c.rects-rects.ensures.sound c.in_ok-set.ensures c.in_ok-wide.ensures.squares
    (c.in_ok-extend_from_slice.ensures.items ∙ ap (λ (l : List Rect). c.args.out.now.items ++ l) c.rects-rects-2.ensures.list)

pub returns-clause-grows : goal.returns-clause-grows
returns-clause-grows c = grows_left c.args.out.now.items c.rects-rects-2.result.now c.extend_from_slice.new.self.items c.in_ok-extend_from_slice.ensures.items

pub returns-clause-brings : goal.returns-clause-brings
returns-clause-brings c =
    own_near c.args.view.now.reach c.args.view.now.design.now c.args.view.now.names.now c.args.cell c.args.out.now.items c.push_all_own-2.new.out.items c.in_ok-set.set c.in_ok-wide.wide c.extend_from_slice.new.self.items
    c.in_ok-push_all_own-2.ensures.brings c.in_ok-set.ensures c.in_ok-wide.ensures.squares
    (c.in_ok-extend_from_slice.ensures.items ∙ ap (λ (l : List Rect). c.args.out.now.items ++ l) c.rects-rects-2.ensures.list)
