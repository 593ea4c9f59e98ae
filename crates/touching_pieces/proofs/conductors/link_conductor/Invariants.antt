use Rattle.std.proofs.Common.{take}
use Rattle.touching_pieces.specs.Pairs.{AddsChains, AreInTouchOf}
use Rattle.touching_pieces.proofs.conductors.link_conductor.Given as goal

abbrev pub invariant-loop-join : goal.invariant-loop-join
invariant-loop-join l = AddsChains (AreInTouchOf (take l.join-index l.joins) l.pieces l.conductor) l.fn.out.items l.out.items
