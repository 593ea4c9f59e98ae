use Rattle.std.proofs.Common.{arith, sym, ◌∙◌, pos, ◌-ℤ◌}
use Rattle.std.proofs.lemmas.Bool.{and_parts}
use Rattle.std.proofs.lemmas.Int.{ints}
use Rattle.geo_base.specs.Rects.{has}
use Rattle.geo_base.specs.declared.shapes.Rect.{Rect}
use Rattle.rect_sets.specs.Rects.{covers}
use Rattle.rect_sets.proofs.Moving.{near_within}
use Rattle.unit_tests.proofs.common.near_part.Goals as goal

pub returns : goal.returns
returns c =
    let w : Rect = record { x1 = pos 0 -ℤ pos 1099511627776; y1 = pos 0 -ℤ pos 1099511627776; x2 = pos 1099511627776; y2 = pos 1099511627776 } in
    near_within w c.in_ok-part.part
    (record {
      x1 = record { low = omega (arith, ints); high = omega (arith, ints) };
      y1 = record { low = omega (arith, ints); high = omega (arith, ints) };
      x2 = record { low = omega (arith, ints); high = omega (arith, ints) };
      y2 = record { low = omega (arith, ints); high = omega (arith, ints) };
    })
    (λ s e. (and_parts (covers c.args.set.now s) (has w s) (sym (c.in_ok-part.ensures s) ∙ e)).1)
