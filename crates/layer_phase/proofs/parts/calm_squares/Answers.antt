use Rattle.std.proofs.Common.{◌≤◌, ◌++◌, List, arith, length, pos, sym, subst, ◌∙◌, ap}
use Rattle.std.specs.List.{All}
use Rattle.std.proofs.lemmas.List.Elements.{All-append}
use Rattle.std.proofs.lemmas.List.{take_all}
use Rattle.geo_base.specs.Rects.{IsRect}
use Rattle.geo_base.specs.declared.shapes.Rect.{Rect}
use Rattle.rect_sets.specs.Rects.{covers}
use Rattle.cell_context.proofs.Gathering.{pieces_rects}
use Rattle.layer_phase.specs.Keeps.{IsKeptBy}
use Rattle.layer_phase.proofs.Looking.{grow_by}
use Rattle.layer_phase.proofs.parts.calm_squares.Goals as goal

pub loop-rect-preserved : goal.loop-rect-preserved
loop-rect-preserved c =
    let z : Rect = record { x1 = pos 0; y1 = pos 0; x2 = pos 0; y2 = pos 0 } in
    let e = c.in_ok-extend_from_slice.ensures.items ∙ ap (λ (l : List Rect). c.loop-rect.out.items ++ l) c.deref.ensures.value in
    record {
      rects = subst (All IsRect) (sym e) (All-append IsRect c.loop-rect.out.items c.in_ok-more.more.items c.loop-rect.invariant.rects (pieces_rects _ c.in_ok-more.more.items c.in_ok-more.ensures.pieces));
      exact = grow_by (IsKeptBy c.args.reach c.args.work.now.design.now c.args.work.now.zones.now c.args.work.now.cell c.args.name) c.loop-rect.out.items c.in_ok-more.more.items c.extend_from_slice.new.self.items c.rects-rect-items.result.now c.loop-rect.rect-index z c.loop-rect-test.true e c.loop-rect.invariant.exact c.in_ok-more.ensures.exact;
    }

pub returns : goal.returns
returns c = λ q.
    let i = c.loop-rect.rect-index in let rects = c.rects-rect-items.result.now in
    let past : length rects ≤ i = (let end = c.loop-rect-test.false in omega arith) in
    let all = ap (λ (l : List Rect). covers l q) (take_all i rects past ∙ c.rects-rect-items.ensures.list) in
    let set = c.in_ok-set.ensures q in let exact = c.loop-rect.invariant.exact q in (
      (λ e. let h = exact.0 (sym set ∙ e) in (sym all ∙ h.0, h.1)),
      (λ h. set ∙ exact.1 (all ∙ h.0, h.1)),
    )
