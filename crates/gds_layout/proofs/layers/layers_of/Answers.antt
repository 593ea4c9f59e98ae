use Rattle.std.proofs.Common.{List, map, subst}
use Rattle.gds_elements.specs.declared.library.RawShape.{RawShape}
use Rattle.gds_elements.specs.Reading.{shape_seen}
use Rattle.gds_layout.specs.Layering.{AreLaid}
use Rattle.gds_layout.proofs.Layering.{layered}
use Rattle.gds_layout.proofs.layers.layers_of.Goals as goal

pub returns : goal.returns
returns c =
    let piles = c.in_ok-piles.piles.items in
    layered (map shape_seen c.args.shapes.items) piles c.in_ok-layers.layers.items (subst (λ (ss : List RawShape). AreLaid (map shape_seen ss) piles) c.deref.ensures.value c.in_ok-piles.ensures) c.in_ok-layers.ensures
