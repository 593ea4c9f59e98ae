use Rattle.std.proofs.Common.{◌≡◌, ◌+◌, [], length}
use Rattle.net_link_laws.specs.Places.{owned_before, nets_before, places_of}
use Rattle.view_shapes.proofs.Showing.{IsBefore, IsOfConductors, IsSoFar}
use Rattle.view_shapes.specs.Pieces.{AddsPieces}
use Rattle.view_shapes.specs.Shown.{called_by}
use Rattle.view_shapes.proofs.shown.+find_pieces.Given as goal

abbrev pub decreases-find_pieces : goal.decreases-find_pieces
decreases-find_pieces g l = g.C.Cells.height l.cells.now l.cell

abbrev pub invariant-layers : goal.invariant-layers
invariant-layers g l =
    (l.at ≡ owned_before (g.C.Cells.tables l.cells) l.cell l.conductor)
    × AddsPieces (IsOfConductors (g.C.Cells.tables l.cells) l.cell l.wanted l.conductor) [] l.out.items

abbrev pub invariant-children : goal.invariant-children
invariant-children g l =
    (l.at ≡ owned_before (g.C.Cells.tables l.cells) l.cell (length (g.C.Cells.wiring l.cells).conductors) + nets_before (g.C.Cells.tables l.cells) (places_of (g.C.Cells.design l.cells) l.cell) l.k)
    × AddsPieces (IsSoFar (g.C.Cells.design l.cells) (g.C.Cells.tables l.cells) (called_by l.called) l.cell l.wanted (IsBefore l.k)) [] l.out.items
