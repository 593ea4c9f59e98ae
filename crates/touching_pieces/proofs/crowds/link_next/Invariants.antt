use Rattle.std.proofs.Common.{◌≡◌, take}
use Rattle.touching_pieces.specs.Pairs.{IsAmong}
use Rattle.touching_pieces.specs.Touching.{AreTouching}
use Rattle.touching_pieces.specs.declared.pieces.Piece.{Piece}
use Rattle.touching_pieces.proofs.crowds.link_next.Given as goal

abbrev pub invariant-loop-other : goal.invariant-loop-other
invariant-loop-other l = (l.out.items ≡ l.fn.out.items) × ((q : Piece) → IsAmong q (take l.other-index l.others) → AreTouching l.one.rect q.rect → ⊥)
