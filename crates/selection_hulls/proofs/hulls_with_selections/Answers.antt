use Rattle.selection_hulls.proofs.Room.{room_law}
use Rattle.selection_hulls.proofs.hulls_with_selections.Goals as goal

pub returns : goal.returns
returns c = room_law c.canonical_rects.ensures
