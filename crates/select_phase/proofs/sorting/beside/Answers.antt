use Rattle.std.proofs.Common.{◌^◌, List, sym, subst}
use Rattle.std.specs.List.{All}
use Rattle.geo_base.specs.declared.shapes.Rect.{Rect}
use Rattle.flat_layout.specs.Layers.{IsKept}
use Rattle.cell_graph.specs.Linked.{IsRectWithin}
use Rattle.gate_phase.specs.Site.{layout_at}
use Rattle.gate_search.specs.Gather.{AreMet}
use Rattle.select_phase.specs.Selections.{meant_at}
use Rattle.select_phase.proofs.OnePart.{if_other}
use Rattle.select_phase.proofs.Readiness.{other_locals}
use Rattle.select_phase.proofs.sorting.beside.Goals as goal

pub kept_in-requires : goal.kept_in-requires
kept_in-requires c = record {
  cell = c.requires.ready.site.known;
  reached = c.requires.ready.site.reached;
  locals = ((meant_at c.args.site.now c.args.selection.now).other, other_locals c.args.site.now c.args.selection.now c.sound.ensures c.requires.ready);
  windows = subst (All (IsRectWithin (2 ^ 39))) (sym c.rects-windows.ensures.list) c.requires.windows;
}

pub returns : goal.returns
returns c =
    let x = meant_at c.args.site.now c.args.selection.now in
    let met = c.in_ok-kept.ensures x.other (other_locals c.args.site.now c.args.selection.now c.sound.ensures c.requires.ready) in
    if_other x.ask _ (subst (λ (l : List Rect). AreMet (IsKept (layout_at c.args.site.now) c.args.site.now.cell x.other) l c.in_ok-kept.kept) c.rects-windows.ensures.list met)
