use Rattle.std.proofs.Common.{take}
use Rattle.touching_pieces.specs.Crowds.{AddsFirsts}
use Rattle.touching_pieces.proofs.crowds.link_firsts.Given as goal

abbrev pub invariant-loop-one : goal.invariant-loop-one
invariant-loop-one l = AddsFirsts (take l.one-index l.ones) l.others l.fn.out.items l.out.items
