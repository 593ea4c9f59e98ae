use Rattle.std.proofs.Common.{arith}
use Rattle.std.proofs.lemmas.Int.{ints}
use Rattle.rect_sets.specs.Moves.{shift}
use Rattle.rect_sets.proofs.Moving.{same_rect}
use Rattle.rect_sets.proofs.moves.shift.Goals as goal

pub returns : goal.returns
returns c = same_rect _ (shift c.args.m.now.dx c.args.m.now.dy c.args.rect.now) (omega (arith, ints)) (omega (arith, ints)) (omega (arith, ints)) (omega (arith, ints))
