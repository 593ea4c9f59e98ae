use Rattle.std.proofs.Common.{subst, sym, ap, ◌∙◌, ◌++◌, List, arith}
use Rattle.std.specs.List.{All}
use Rattle.std.proofs.lemmas.List.Elements.{All-append}
use Rattle.geo_base.specs.declared.shapes.Rect.{Rect}
use Rattle.flat_layout.specs.Layers.{IsKept}
use Rattle.cell_graph.specs.Linked.{plain}
use Rattle.cell_context.proofs.Collecting.{no_rect}
use Rattle.gate_search.proofs.Gathering.{met_all, met_more, met_none}
use Rattle.gate_search.specs.Gather.{AreMet}
use Rattle.gate_phase.specs.Kept.{IsNearPiece}
use Rattle.gate_phase.proofs.kept.kept_in.Goals as goal

pub loop-window-init : goal.loop-window-init
loop-window-init c = record {
  near = subst (All IsNearPiece) (sym c.new-out.ensures.items) (λ k r lt. absurd (let z : ⊥ = omega (arith, lt) in z));
  met = λ x locals. let k = IsKept (plain c.args.design.now) c.args.cell x in subst (AreMet k _) (sym c.new-out.ensures.items) (met_none k c.args.windows.now);
}

pub loop-window-preserved : goal.loop-window-preserved
loop-window-preserved c =
    let old = c.loop-window.out.items in let new = c.extend_from_slice.new.self.items in let more = c.in_ok-more.more.items in
    let is = c.in_ok-extend_from_slice.ensures.items ∙ ap (λ (l : List Rect). old ++ l) c.deref.ensures.value in
    record {
      near = subst (All IsNearPiece) (sym is) (All-append IsNearPiece old more c.loop-window.invariant.near c.in_ok-more.ensures.near);
      met = λ x locals. met_more (IsKept (plain c.args.design.now) c.args.cell x) c.args.windows.now c.loop-window.window-index no_rect old more new c.loop-window-test.true is (c.loop-window.invariant.met x locals) (c.in_ok-more.ensures.exact x locals);
    }

pub canon-requires : goal.canon-requires
canon-requires c = λ k r lt. (c.loop-window.invariant.near k r lt).some

pub returns : goal.returns
returns c = λ x locals. met_all (IsKept (plain c.args.design.now) c.args.cell x) c.args.windows.now c.loop-window.window-index c.loop-window.out.items c.in_ok-set.set c.loop-window-test.false c.in_ok-set.ensures (c.loop-window.invariant.met x locals)
