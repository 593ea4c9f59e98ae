use Rattle.std.proofs.Common.{◌<◌, ℕ, []}
use Rattle.touching_pieces.specs.Pairs.{AddsChains, AreInTouchOf}
use Rattle.touching_pieces.proofs.conductors.touching_links.Given as goal

abbrev pub invariant-loop-conductor : goal.invariant-loop-conductor
invariant-loop-conductor l = AddsChains (λ i j. (c : ℕ) × (c < l.conductor) × AreInTouchOf l.joins l.pieces c i j) [] l.out.items
