use Rattle.std.proofs.Common.{take}
use Rattle.pin_phase.specs.Sets.{Adds}
use Rattle.pin_phase.proofs.Texting.{IsTold}
use Rattle.pin_phase.proofs.texts.tag_pieces.Given as goal

abbrev pub invariant-loop-piece : goal.invariant-loop-piece
invariant-loop-piece l = Adds (IsTold (take l.piece-index l.pieces) l.text) l.initial.tags l.tags
