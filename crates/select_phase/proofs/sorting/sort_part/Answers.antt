use Rattle.std.proofs.Common.{◌++◌, List, refl, sym, ◌∙◌, ap, subst}
use Rattle.std.proofs.lemmas.Bool.{false≢true}
use Rattle.geo_base.specs.declared.shapes.Rect.{Rect}
use Rattle.rect_sets.specs.Rects.{IsCanonical}
use Rattle.gate_phase.specs.Site.{layout_at}
use Rattle.gate_phase.proofs.Results.{ok_is, on_ok}
use Rattle.select_phase.specs.Selections.{meant_at}
use Rattle.select_phase.proofs.OnePart.{goes_up, is_found, is_passed, with_rects}
use Rattle.select_phase.proofs.Readiness.{part_held, part_near, squares_parted, windows_near}
use Rattle.select_phase.proofs.sorting.sort_part.Goals as goal

pub close_to-requires : goal.close_to-requires
close_to-requires c = part_near c.args.site.now c.args.selection.now c.sound.ensures c.requires.ready c.args.part.now c.requires.part.0 c.requires.part.1

pub is_calm-requires-clause-held : goal.is_calm-requires-clause-held
is_calm-requires-clause-held c = part_held c.args.site.now c.args.selection.now c.sound.ensures c.requires.ready c.args.part.now c.requires.part.0 c.requires.part.1

pub is_calm-requires-clause-windows : goal.is_calm-requires-clause-windows
is_calm-requires-clause-windows c =
    windows_near c.args.site.now c.args.selection.now c.sound.ensures c.requires.ready c.args.part.now c.requires.part.0 c.requires.part.1 c.in_ok-close.close c.in_ok-close.ensures (subst IsCanonical c.close.view_is c.close.invariant)

pub returns-then-not-branch-clause-sorts : goal.returns-then-not-branch-clause-sorts
returns-then-not-branch-clause-sorts c =
    let site = c.args.site.now in let old = c.args.sorted.now in
    on_ok _ _ c.extend_from_slice.result
    (λ e. goes_up (layout_at site) (meant_at site c.args.selection.now) site.cell c.requires.ready.site.reached (squares_parted site c.args.selection.now c.sound.ensures c.requires.ready) c.args.part.now c.requires.part.0 c.requires.part.1
    old (record { chosen = old.chosen; rest = c.extend_from_slice.new.self }) (λ calm. false≢true (sym c.if-not-branch.true ∙ c.in_ok-is_calm.ensures.1 calm)) refl (e ∙ ap (λ (l : List Rect). old.rest.items ++ l) c.rects-rects.ensures.list)) (ok_is c.extend_from_slice.result c.extend_from_slice.new.self.items (old.rest.items ++ c.rects-rects.result.now) old.rest.items c.extend_from_slice.ensures.items)

pub returns-then-not-branch-clause-rects : goal.returns-then-not-branch-clause-rects
returns-then-not-branch-clause-rects c =
    let old = c.args.sorted.now in
    on_ok _ _ c.extend_from_slice.result
    (λ e. (c.requires.rects.0, with_rects old.rest.items c.args.part.now c.extend_from_slice.new.self.items (e ∙ ap (λ (l : List Rect). old.rest.items ++ l) c.rects-rects.ensures.list) c.requires.rects.1 c.rects-rects.ensures.sound)) (ok_is c.extend_from_slice.result c.extend_from_slice.new.self.items (old.rest.items ++ c.rects-rects.result.now) old.rest.items c.extend_from_slice.ensures.items)

pub is_chosen-requires-clause-windows : goal.is_chosen-requires-clause-windows
is_chosen-requires-clause-windows c =
    windows_near c.args.site.now c.args.selection.now c.sound.ensures c.requires.ready c.args.part.now c.requires.part.0 c.requires.part.1 c.in_ok-close.close c.in_ok-close.ensures (subst IsCanonical c.close.view_is c.close.invariant)

pub returns-then-branch-clause-sorts : goal.returns-then-branch-clause-sorts
returns-then-branch-clause-sorts c =
    let site = c.args.site.now in let old = c.args.sorted.now in
    let t = c.in_ok-is_chosen.ensures in
    on_ok _ _ c.extend_from_slice-then-branch.result
    (λ e. is_found (layout_at site) (meant_at site c.args.selection.now) site.cell c.requires.ready.site.reached (squares_parted site c.args.selection.now c.sound.ensures c.requires.ready) c.args.part.now c.requires.part.0 c.requires.part.1
    old (record { chosen = c.extend_from_slice-then-branch.new.self; rest = old.rest }) (c.in_ok-is_calm.ensures.0 c.if-not-branch.false) c.in_ok-close.close t.0 c.in_ok-close.ensures t.1 (t.2.0 c.if-branch.true)
    (e ∙ ap (λ (l : List Rect). old.chosen.items ++ l) c.rects-rects.ensures.list) refl) (ok_is c.extend_from_slice-then-branch.result c.extend_from_slice-then-branch.new.self.items (old.chosen.items ++ c.rects-rects.result.now) old.chosen.items c.extend_from_slice-then-branch.ensures.items)

pub returns-then-branch-clause-rects : goal.returns-then-branch-clause-rects
returns-then-branch-clause-rects c =
    let old = c.args.sorted.now in
    on_ok _ _ c.extend_from_slice-then-branch.result
    (λ e. (with_rects old.chosen.items c.args.part.now c.extend_from_slice-then-branch.new.self.items (e ∙ ap (λ (l : List Rect). old.chosen.items ++ l) c.rects-rects.ensures.list) c.requires.rects.0 c.rects-rects.ensures.sound, c.requires.rects.1)) (ok_is c.extend_from_slice-then-branch.result c.extend_from_slice-then-branch.new.self.items (old.chosen.items ++ c.rects-rects.result.now) old.chosen.items c.extend_from_slice-then-branch.ensures.items)

pub returns-clause-sorts : goal.returns-clause-sorts
returns-clause-sorts c =
    let site = c.args.site.now in let old = c.args.sorted.now in
    let t = c.in_ok-is_chosen.ensures in
    is_passed (layout_at site) (meant_at site c.args.selection.now) site.cell c.requires.ready.site.reached (squares_parted site c.args.selection.now c.sound.ensures c.requires.ready) c.args.part.now c.requires.part.0 c.requires.part.1
    old old (c.in_ok-is_calm.ensures.0 c.if-not-branch.false) c.in_ok-close.close t.0 c.in_ok-close.ensures t.1 (λ a. false≢true (sym c.if-branch.false ∙ t.2.1 a)) refl refl
