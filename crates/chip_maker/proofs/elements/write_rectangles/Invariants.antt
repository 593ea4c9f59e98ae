use Rattle.std.proofs.Common.{◌≡◌, ◌++◌, map, length}
use Rattle.chip_maker.specs.Layout.{drawn, rect_of}
use Rattle.chip_maker.specs.Stream.{layer_bytes}
use Rattle.chip_maker.proofs.elements.write_rectangles.Given as goal

abbrev pub invariant-rectangles : goal.invariant-rectangles
invariant-rectangles l = l.out.items ++ layer_bytes (drawn l.number, map rect_of l.rest) ≡ l.initial.out.items ++ layer_bytes (drawn l.number, map rect_of l.corners)

abbrev pub decreases-rectangles : goal.decreases-rectangles
decreases-rectangles l = length l.rest
