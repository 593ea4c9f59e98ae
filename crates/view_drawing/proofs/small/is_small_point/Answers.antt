use Rattle.std.proofs.Common.{rules, FitsSigned, w64}
use Rattle.std.proofs.lemmas.Int.{to_z-of_z}
use Rattle.view_drawing.proofs.small.is_small_point.Goals as goal

pub returns : goal.returns
returns c =
    let x : FitsSigned w64 c.args.p.x = search rules in
    let y : FitsSigned w64 c.args.p.y = search rules in
    let e = simp to_z-of_z at c.is_small_rect.ensures in (
      (λ t. let s = e.0 t in record { x = s.x1; y = s.y1 }),
      (λ s. e.1 (record { x1 = s.x; y1 = s.y; x2 = s.x; y2 = s.y })),
    )
