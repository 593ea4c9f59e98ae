use Rattle.std.proofs.Common.{arith}
use Rattle.std.proofs.lemmas.Int.{ints, clamps}
use Rattle.geo_base.proofs.Spans.{same_rect}
use Rattle.geo_base.proofs.shapes.Rect.bounding_box.Goals as goal

pub returns : goal.returns
returns c = same_rect _ _ (omega (arith, ints, clamps)) (omega (arith, ints, clamps)) (omega (arith, ints, clamps)) (omega (arith, ints, clamps))
