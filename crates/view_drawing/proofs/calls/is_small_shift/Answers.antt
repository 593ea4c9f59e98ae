use Rattle.std.proofs.Common.{rules, FitsSigned, w64}
use Rattle.std.proofs.lemmas.Int.{to_z-of_z}
use Rattle.view_drawing.proofs.calls.is_small_shift.Goals as goal

pub returns : goal.returns
returns c =
    let x : FitsSigned w64 c.args.motion.now.dx = search rules in
    let y : FitsSigned w64 c.args.motion.now.dy = search rules in
    let e = simp to_z-of_z at c.is_small_point.ensures in (
      (λ t. let s = e.0 t in record { dx = s.x; dy = s.y }),
      (λ s. e.1 (record { x = s.dx; y = s.dy })),
    )
