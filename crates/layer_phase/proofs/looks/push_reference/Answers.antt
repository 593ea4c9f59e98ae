use Rattle.std.proofs.Common.{◌≡◌, ◌∙◌, ◌^◌, arith, List, Some, true, sym, subst, slice_get}
use Rattle.cell_graph.specs.Grown.{IsInGrown}
use Rattle.cell_graph.specs.Linked.{HullIsSound, IsFrame, IsHull}
use Rattle.cell_graph.proofs.Growing.{grown_frame}
use Rattle.cell_context.proofs.Visiting.{wider_rect}
use Rattle.geo_base.specs.Rects.{has}
use Rattle.cell_graph.proofs.Bridge.{hull_sound, lower, reference_at}
use Rattle.cell_context.proofs.Collecting.{near_array}
use Rattle.std.specs.List.{All}
use Rattle.geo_base.specs.Near.{IsNearRect}
use Rattle.geo_base.specs.declared.shapes.Rect.{Rect}
use Rattle.rect_sets.specs.Rects.{covers}
use Rattle.layer_phase.specs.declared.exposed.Exposed.{Exposed}
use Rattle.layer_phase.proofs.Exposing.{exposed_held, list_at}
use Rattle.layer_phase.proofs.looks.push_reference.Goals as goal

pub hull-requires : goal.hull-requires
hull-requires c = (lower c.args.view.now.design.now c.requires.there.cell c.requires.there.index c.args.place.now c.sound.ensures c.requires.there.there).0

pub expose-requires-clause-cell : goal.expose-requires-clause-cell
expose-requires-clause-cell c = (lower c.args.view.now.design.now c.requires.there.cell c.requires.there.index c.args.place.now c.sound.ensures c.requires.there.there).0

pub push_set-requires-clause-near : goal.push_set-requires-clause-near
push_set-requires-clause-near c = near_array c.args.view.now.design.now c.requires.there.cell c.requires.there.index c.args.place.now c.sound.ensures c.requires.there.there

pub push_set-requires-clause-some : goal.push_set-requires-clause-some
push_set-requires-clause-some c = (reference_at c.args.view.now.design.now c.requires.there.cell c.requires.there.index c.args.place.now c.sound.ensures c.requires.there.there).2.columns

pub push_set-requires-clause-below : goal.push_set-requires-clause-below
push_set-requires-clause-below c =
    let most = c.requires.view.most in
    subst IsFrame (sym c.grown-wide.ensures) (grown_frame c.args.view.now.reach c.in-Some.below (omega arith) (subst HullIsSound (sym c.hull.ensures ∙ c.in-Some.is) (hull_sound c.args.view.now.design.now c.args.place.now.cell c.sound.ensures)))

pub grown-wide-requires : goal.grown-wide-requires
grown-wide-requires c =
    let h : IsHull c.in-Some.below = subst HullIsSound (sym c.hull.ensures ∙ c.in-Some.is) (hull_sound c.args.view.now.design.now c.args.place.now.cell c.sound.ensures) in
    wider_rect (2 ^ 36) (2 ^ 39) c.in-Some.below (omega arith) h.near

pub returns-in_ok-push_set-in-Some-clause-brings : goal.returns-in_ok-push_set-in-Some-clause-brings
returns-in_ok-push_set-in-Some-clause-brings c = λ row column s a b e met.
    let d = c.args.view.now.design.now in let z = c.args.view.now.zones.now in let names = c.args.view.now.names.now in let cell = c.args.place.now.cell in
    let lists = c.expose.new.memo.lists.items in let position = c.in_ok-position-in-Some.position in
    let found = c.in_ok-position-in-Some.ensures in
    let x = found.at.0 in
    let held : IsInGrown c.args.view.now.reach (Some c.in-Some.below) s = subst (λ o. IsInGrown c.args.view.now.reach o s) (sym c.hull.ensures ∙ c.in-Some.is) (exposed_held c.args.view.now.reach d z names cell s c.sound.ensures e) in
    let inner : has c.grown-wide.result s ≡ true = subst (λ r. has r s ≡ true) (sym c.grown-wide.ensures) held in
    let there = subst (λ (l : List Exposed). slice_get l position ≡ Some x) (sym c.deref.ensures.value) found.at.1 in
    let same = c.set_at-set.ensures x there in
    let covered = subst (λ (l : List Rect). covers l s ≡ true) (sym same) ((list_at c.args.view.now.reach d z names lists cell position x found.lists found.at found.at.1).0 s e) in
    c.in_ok-push_set-in-Some.ensures.brings row column s a b inner covered met

pub returns-in-None-clause-brings : goal.returns-in-None-clause-brings
returns-in-None-clause-brings c = λ row column s a b e met.
    absurd (subst (λ o. IsInGrown c.args.view.now.reach o s) (sym c.hull.ensures ∙ c.in-None.is) (exposed_held c.args.view.now.reach c.args.view.now.design.now c.args.view.now.zones.now c.args.view.now.names.now c.args.place.now.cell s c.sound.ensures e))

pub push_set-requires-clause-near_rects : goal.push_set-requires-clause-near_rects
push_set-requires-clause-near_rects c =
    let d = c.args.view.now.design.now in let z = c.args.view.now.zones.now in let names = c.args.view.now.names.now in let cell = c.args.place.now.cell in
    let lists = c.expose.new.memo.lists.items in let position = c.in_ok-position-in-Some.position in
    let found = c.in_ok-position-in-Some.ensures in
    let x = found.at.0 in
    let there = subst (λ (l : List Exposed). slice_get l position ≡ Some x) (sym c.deref.ensures.value) found.at.1 in
    subst (All IsNearRect) (sym (c.set_at-set.ensures x there)) (list_at c.args.view.now.reach d z names lists cell position x found.lists found.at found.at.1).1
