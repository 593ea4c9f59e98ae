use Rattle.std.proofs.Common.{rules, FitsSigned, w64}
use Rattle.std.proofs.lemmas.Int.{to_z-of_z}
use Rattle.pin_phase.proofs.corners.is_at.Goals as goal

pub returns-then-is_between : goal.returns-then-is_between
returns-then-is_between c =
    let ex : FitsSigned w64 c.args.at.x = search rules in let ey : FitsSigned w64 c.args.at.y = search rules in
    let x1 : FitsSigned w64 c.args.frame.now.x1 = search rules in let y1 : FitsSigned w64 c.args.frame.now.y1 = search rules in
    let x2 : FitsSigned w64 c.args.frame.now.x2 = search rules in let y2 : FitsSigned w64 c.args.frame.now.y2 = search rules in
    let x = simp to_z-of_z at c.is_between.ensures in let y = simp to_z-of_z at c.is_between-then-is_between.ensures in
    ((λ e. record { x = x.0 c.if-is_between.true; y = y.0 e }), (λ h. y.1 h.y))
