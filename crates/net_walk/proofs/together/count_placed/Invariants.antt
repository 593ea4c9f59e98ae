use Rattle.std.proofs.Common.{◌≡◌, ◌+◌}
use Rattle.net_link_laws.specs.Places.{nets_before, places_of}
use Rattle.net_walk.proofs.together.count_placed.Given as goal

abbrev pub invariant-loop-element : goal.invariant-loop-element
invariant-loop-element g l = l.count ≡ l.from + nets_before (g.C.Cells.tables l.cells) (places_of (g.C.Cells.design l.cells) l.cell) l.element-index
