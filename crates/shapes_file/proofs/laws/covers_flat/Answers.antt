use Rattle.shapes_file.proofs.Covered.{covers_flat}
use Rattle.shapes_file.proofs.laws.covers_flat.Goals as goal

pub returns : goal.returns
returns c = covers_flat c.layers.ensures.cover c.layers.ensures.top c.same_places.ensures c.layer_table.ensures.at c.canonical_rects.ensures c.outline_laws.ensures.upright
