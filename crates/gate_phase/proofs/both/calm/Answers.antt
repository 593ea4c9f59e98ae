use Rattle.std.proofs.Common.{◌∙◌, ◌++◌, ◌&&◌, ◌^◌, not, List, ap, sym, subst, arith}
use Rattle.std.specs.List.{All}
use Rattle.std.proofs.lemmas.List.Elements.{All-append}
use Rattle.geo_base.specs.Rects.{IsRect}
use Rattle.geo_base.specs.declared.shapes.Rect.{Rect}
use Rattle.rect_sets.specs.Rects.{covers}
use Rattle.cell_context.proofs.Collecting.{no_rect}
use Rattle.cell_graph.specs.Linked.{IsRectWithin}
use Rattle.gate_phase.specs.Indexes.{AreMetOf}
use Rattle.gate_phase.proofs.Calming.{AreStirring, calm_left, near_rects, stirring_all, stirring_more, stirring_none}
use Rattle.gate_phase.proofs.both.calm.Goals as goal

pub loop-rect-init : goal.loop-rect-init
loop-rect-init c = record {
  rects = subst (All IsRect) (sym c.new-stirred.ensures.items) (λ k r lt. absurd (let z : ⊥ = omega (arith, lt) in z));
  stirring = subst (AreStirring c.args.reach c.args.zone.now _) (sym c.new-stirred.ensures.items) (stirring_none c.args.reach c.args.zone.now c.rects-rect-items.result.now);
}

pub grown-requires : goal.grown-requires
grown-requires c =
    let near = near_rects c.args.set.now c.requires.set c.rects-rect-items.ensures.canonical in
    subst (All (IsRectWithin (2 ^ 39))) (sym c.rects-rect-items.ensures.list) near c.loop-rect.rect-index no_rect c.loop-rect-test.true

pub loop-rect-preserved : goal.loop-rect-preserved
loop-rect-preserved c =
    let old = c.loop-rect.stirred.items in let new = c.extend_from_slice.new.self.items in let more = c.in_ok-more.more.items in
    let is = c.in_ok-extend_from_slice.ensures.items ∙ ap (λ (l : List Rect). old ++ l) c.deref.ensures.value in
    let met = subst (λ (w : Rect). AreMetOf c.args.zone.now w more) c.grown.ensures c.in_ok-more.ensures.met in
    record {
      rects = subst (All IsRect) (sym is) (All-append IsRect old more c.loop-rect.invariant.rects c.in_ok-more.ensures.rects);
      stirring = stirring_more c.args.reach c.args.zone.now c.rects-rect-items.result.now old more new c.loop-rect.rect-index no_rect c.loop-rect-test.true is c.loop-rect.invariant.stirring met;
    }

pub rects_within_reach-requires-clause-within : goal.rects_within_reach-requires-clause-within
rects_within_reach-requires-clause-within c = λ q e. c.requires.zone q (c.loop-rect.invariant.stirring.sound q e)

pub combine_rects-requires-clause-b : goal.combine_rects-requires-clause-b
combine_rects-requires-clause-b c = subst (All IsRect) (sym c.deref-2.ensures.value) c.in_ok-near.ensures.some

pub returns : goal.returns
returns c =
    let set = c.args.set.now in let s = c.loop-rect.stirred.items in let near = c.in_ok-near.near.items in
    let are = stirring_all c.args.reach c.args.zone.now set c.rects-rect-items.result.now s c.loop-rect.rect-index c.rects-rect-items.ensures.list (omega arith) c.loop-rect.invariant.stirring in
    calm_left c.args.reach set c.args.zone.now s near c.in_ok-found.found are c.in_ok-near.ensures.squares
    (λ q. c.in_ok-found.ensures q ∙ ap (λ (l : List Rect). covers l q && not (covers c.deref-2.result.now q)) c.rects.ensures.list ∙ ap (λ (l : List Rect). covers set q && not (covers l q)) c.deref-2.ensures.value)
