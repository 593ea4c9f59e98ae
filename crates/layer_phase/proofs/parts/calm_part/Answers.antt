use Rattle.std.proofs.Common.{◌≡◌, ◌∙◌, ◌^◌, true, arith, sym, subst}
use Rattle.std.proofs.lemmas.Bool.{and_parts}
use Rattle.geo_base.specs.Rects.{has, IsRect}
use Rattle.geo_base.specs.declared.shapes.Rect.{Rect}
use Rattle.rect_sets.specs.Rects.{covers}
use Rattle.cell_context.proofs.Visiting.{wider_rect}
use Rattle.layer_phase.specs.Around.{around}
use Rattle.layer_phase.proofs.Around.{around_part, cut_same, grown_rect}
use Rattle.layer_phase.proofs.Results.{if_ok}
use Rattle.layer_phase.proofs.parts.calm_part.Goals as goal

pub grown-wide-requires : goal.grown-wide-requires
grown-wide-requires c = wider_rect (2 ^ 37) (2 ^ 39) c.args.visit.now.window (omega arith) c.requires.window.near

pub disturbed_near-requires-clause-window : goal.disturbed_near-requires-clause-window
disturbed_near-requires-clause-window c = subst IsRect (sym c.grown-wide.ensures) (grown_rect c.args.reach c.args.visit.now.window c.requires.window.some)

pub cut_near-requires-clause-held : goal.cut_near-requires-clause-held
cut_near-requires-clause-held c = λ q e.
    let entry = c.requires.entry in
    subst (λ (r : Rect). has r q ≡ true) c.grown-wide.ensures ((and_parts (covers entry.0 q) (has c.grown-wide.result q) (sym (c.in_ok-there.ensures.zone entry.0 entry.1 q) ∙ e)).1)

pub returns : goal.returns
returns c =
    if_ok _ _ c.cut_near.result
    (λ r h v at s. h s ∙ cut_same (has c.args.visit.now.window s) (covers (around c.args.reach c.in_ok-there.there.items) s) (covers (around c.args.reach v) s)
    (λ inside. around_part c.args.reach v c.in_ok-there.there.items c.args.visit.now.window c.grown-wide.result s (c.in_ok-there.ensures.sound v at) c.in_ok-there.ensures.rects c.grown-wide.ensures (c.in_ok-there.ensures.zone v at) inside))
    c.cut_near.ensures
