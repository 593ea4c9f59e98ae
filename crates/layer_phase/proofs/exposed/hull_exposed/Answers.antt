use Rattle.std.proofs.Common.{◌≡◌, ◌∙◌, ◌+◌, ◌^◌, true, List, arith, length, sym, subst}
use Rattle.geo_base.specs.declared.shapes.Rect.{Rect}
use Rattle.rect_sets.specs.Rects.{covers}
use Rattle.sized_layers.specs.Sizes.{IsSetWithin}
use Rattle.layer_phase.specs.Looks.{HaveFlat}
use Rattle.cell_graph.specs.Linked.{IsFrame, IsHull, HullIsSound}
use Rattle.cell_graph.proofs.Bridge.{hull_sound}
use Rattle.cell_graph.proofs.Growing.{grown_frame}
use Rattle.cell_context.proofs.Visiting.{wider_rect}
use Rattle.layer_phase.proofs.Around.{grown_rect, grown_within, wider_set}
use Rattle.layer_phase.proofs.Exposing.{found}
use Rattle.layer_phase.proofs.Held.{rects_within}
use Rattle.layer_phase.proofs.exposed.hull_exposed.Goals as goal

pub twice_grown-wide-requires-clause-rect : goal.twice_grown-wide-requires-clause-rect
twice_grown-wide-requires-clause-rect c =
    let h : IsHull c.args.hull.now = subst HullIsSound c.requires.hull (hull_sound c.args.view.now.design.now c.args.cell c.sound.ensures) in
    wider_rect (2 ^ 36) (2 ^ 38) c.args.hull.now (omega arith) h.near

pub disturbed_in-requires-clause-window : goal.disturbed_in-requires-clause-window
disturbed_in-requires-clause-window c =
    let h : IsHull c.args.hull.now = subst HullIsSound c.requires.hull (hull_sound c.args.view.now.design.now c.args.cell c.sound.ensures) in
    let most = c.requires.view.most in
    subst IsFrame (sym c.twice_grown-wide.ensures) (record {
      some = grown_rect c.args.view.now.reach _ (grown_rect c.args.view.now.reach c.args.hull.now h.some);
      near = grown_within ((2 ^ 36) + c.args.view.now.reach) c.args.view.now.reach (2 ^ 37) _ (omega arith) (grown_within (2 ^ 36) c.args.view.now.reach ((2 ^ 36) + c.args.view.now.reach) c.args.hull.now (omega arith) h.near);
    })

pub twice_around-requires-clause-within : goal.twice_around-requires-clause-within
twice_around-requires-clause-within c = wider_set (2 ^ 37) (2 ^ 38) c.in_ok-places.places (omega arith) c.in_ok-places.ensures.within

pub push_all_flat-requires-clause-near : goal.push_all_flat-requires-clause-near
push_all_flat-requires-clause-near c =
    let most = c.requires.view.most in let n = c.args.view.now.reach in
    rects_within (2 ^ 39) c.set-there.result.now c.rects-near_rects.ensures.sound
    (subst (IsSetWithin (2 ^ 39)) (sym c.set-there.ensures) (wider_set (((2 ^ 37) + n) + n) (2 ^ 39) c.in_ok-near.near (omega arith) (c.in_ok-near.ensures.range (2 ^ 37) c.in_ok-places.ensures.within)))

pub grown-window-requires : goal.grown-window-requires
grown-window-requires c =
    let h : IsHull c.args.hull.now = subst HullIsSound c.requires.hull (hull_sound c.args.view.now.design.now c.args.cell c.sound.ensures) in
    wider_rect (2 ^ 36) (2 ^ 39) c.args.hull.now (omega arith) h.near

pub near_both-requires-clause-places : goal.near_both-requires-clause-places
near_both-requires-clause-places c = wider_set (2 ^ 37) (2 ^ 39) c.in_ok-places.places (omega arith) c.in_ok-places.ensures.within

pub near_both-requires-clause-flat : goal.near_both-requires-clause-flat
near_both-requires-clause-flat c = λ q e.
    let most = c.requires.view.most in let n = c.args.view.now.reach in
    wider_set (((2 ^ 37) + n) + n) (2 ^ 39) c.in_ok-near.near (omega arith) (c.in_ok-near.ensures.range (2 ^ 37) c.in_ok-places.ensures.within) q
    (subst (λ (l : List Rect). covers l q ≡ true) c.set-there.ensures (c.in_ok-push_all_flat.ensures.held q (sym (c.in_ok-flat.ensures q) ∙ e)))

pub near_both-requires-clause-window : goal.near_both-requires-clause-window
near_both-requires-clause-window c =
    let h : IsHull c.args.hull.now = subst HullIsSound c.requires.hull (hull_sound c.args.view.now.design.now c.args.cell c.sound.ensures) in
    let most = c.requires.view.most in
    subst IsFrame (sym c.grown-window.ensures) (grown_frame c.args.view.now.reach c.args.hull.now (omega arith) h)

pub returns-clause-exposed : goal.returns-clause-exposed
returns-clause-exposed c =
    let d = c.args.view.now.design.now in let names = c.args.view.now.names.now in let n = c.args.view.now.reach in
    let flat = subst (λ (l : List Rect). HaveFlat d names (length names) c.args.cell l c.push_all_flat.new.out.items) c.set-there.ensures c.in_ok-push_all_flat.ensures.flat in
    found n d c.args.view.now.zones.now names c.args.cell c.args.hull.now c.twice_grown-wide.result c.grown-window.result c.in_ok-places.places c.in_ok-near.near c.push_all_flat.new.out.items c.in_ok-flat.flat c.in_ok-set.set
    c.sound.ensures c.requires.hull c.twice_grown-wide.ensures c.grown-window.ensures c.in_ok-places.ensures.zones c.in_ok-near.ensures.squares flat c.in_ok-flat.ensures c.in_ok-set.ensures.both
