-- Cells that structures draw, one after another.
use Rattle.std.proofs.Common.{List, [], ◌∷◌, ◌++◌}
use Rattle.cell_graph.specs.declared.drafts.CellDraft.{CellDraft}
use Rattle.gds_elements.specs.Meaning.{Cell}
use Rattle.gds_layout.specs.Drafts.{IsDraftOf, AreDraftsOf}

pub drafted_more : (cells : List Cell) (ds : List CellDraft) (c : Cell) (d : CellDraft) → AreDraftsOf cells ds → IsDraftOf c d → AreDraftsOf (cells ++ c ∷ []) (ds ++ d ∷ [])
drafted_more [] [] c d f h = (h, tt)
drafted_more (x ∷ cells) [] c d f h = absurd f
drafted_more [] (y ∷ ds) c d f h = absurd f
drafted_more (x ∷ cells) (y ∷ ds) c d f h = (f.0, drafted_more cells ds c d f.1 h)
