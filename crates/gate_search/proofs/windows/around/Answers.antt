use Rattle.std.proofs.Common.{◌≡◌, ◌∙◌, ◌++◌, ap, sym, subst, arith, pos, List, []}
use Rattle.std.specs.List.{All}
use Rattle.geo_base.specs.Rects.{IsRect}
use Rattle.geo_base.specs.declared.shapes.Rect.{Rect}
use Rattle.gate_search.specs.Gather.{AreMet}
use Rattle.gate_search.proofs.Gathering.{met_none, met_more, met_all, right_more}
use Rattle.gate_search.proofs.windows.around.Goals as goal

pub loop-window-init : goal.loop-window-init
loop-window-init g c =
    let keeps = g.L.GateLayer.keeps c.args.layer.now in
    let none : All IsRect [] = λ k d lt. absurd (omega (arith, lt)) in
    record {
      met = subst (λ (l : List Rect). AreMet keeps [] l) (sym c.new-rects.ensures.items) (met_none keeps c.args.windows.now);
      right = subst (λ (l : List Rect). All IsRect l) (sym c.new-rects.ensures.items) none;
    }

pub loop-window-preserved : goal.loop-window-preserved
loop-window-preserved g c =
    let keeps = g.L.GateLayer.keeps c.args.layer.now in
    let zero : Rect = record { x1 = pos 0; y1 = pos 0; x2 = pos 0; y2 = pos 0 } in
    let all = c.loop-window.rects.items in
    let is : c.extend_from_slice.new.self.items ≡ all ++ c.in_ok-part.part = c.in_ok-extend_from_slice.ensures.items ∙ ap (λ (l : List Rect). all ++ l) c.rects.ensures.list in
    record {
      met = met_more keeps c.args.windows.now c.loop-window.window-index zero all c.in_ok-part.part c.extend_from_slice.new.self.items (omega arith) is c.loop-window.invariant.met c.in_ok-part.ensures;
      right = right_more all c.in_ok-part.part c.extend_from_slice.new.self.items is c.loop-window.invariant.right c.rects.ensures.sound;
    }

pub canon-requires : goal.canon-requires
canon-requires g c = c.loop-window.invariant.right

pub returns : goal.returns
returns g c =
    let keeps = g.L.GateLayer.keeps c.args.layer.now in
    met_all keeps c.args.windows.now c.loop-window.window-index c.loop-window.rects.items c.in_ok-set.set (omega arith) c.in_ok-set.ensures c.loop-window.invariant.met
