use Rattle.std.proofs.Common.{◌++◌, ◌∷◌, [], List, sym, subst}
use Rattle.std.specs.List.{All}
use Rattle.geo_base.specs.Rects.{IsRect}
use Rattle.cell_graph.specs.declared.cells.OwnLayer.{OwnLayer}
use Rattle.gds_layout.specs.declared.piles.Pile.{Pile}
use Rattle.gds_layout.specs.Layering.{AreFilled}
use Rattle.gds_layout.specs.Piles.{rects_of}
use Rattle.gds_layout.proofs.Yielded.{one_yielded, next_of_all}
use Rattle.gds_layout.proofs.Layering.{filled_more}
use Rattle.gds_layout.proofs.layers.filled.Goals as goal

pub loop-pile-preserved : goal.loop-pile-preserved
loop-pile-preserved c =
    let inv = c.loop-pile.invariant in
    let steps = (c.in-Some.ensures {u = tt}).steps.0 in (
      one_yielded c.args.piles.items c.loop-pile.yielded c.next.new.self.rest.items c.loop-pile.pile-iterator.rest.items c.in-Some.pile inv.0 steps,
      subst (λ (ls : List OwnLayer). AreFilled (c.loop-pile.yielded ++ c.in-Some.pile ∷ []) ls) (sym c.in_ok-push.ensures.items)
          (filled_more c.loop-pile.yielded c.loop-pile.layers.items c.in-Some.pile c.in_ok-layer.layer inv.1 c.in_ok-layer.ensures),
    )

pub layer_of-requires : goal.layer_of-requires
layer_of-requires c =
    let inv = c.loop-pile.invariant in
    let steps = (c.in-Some.ensures {u = tt}).steps.0 in
    next_of_all (λ (p : Pile). All IsRect (rects_of p)) c.args.piles.items c.loop-pile.yielded c.next.new.self.rest.items c.loop-pile.pile-iterator.rest.items c.in-Some.pile c.requires inv.0 steps
