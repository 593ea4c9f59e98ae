use Rattle.std.proofs.Common.{arith}
use Rattle.std.proofs.lemmas.Int.{ints}
use Rattle.rect_sets.proofs.Moving.{same_rect}
use Rattle.gate_shapes.specs.Borders.{grown_rect}
use Rattle.gate_shapes.proofs.border.grow.Goals as goal

pub returns : goal.returns
returns c = same_rect _ (grown_rect c.args.rect.now) (omega (arith, ints)) (omega (arith, ints)) (omega (arith, ints)) (omega (arith, ints))
