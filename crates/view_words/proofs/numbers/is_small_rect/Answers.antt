use Rattle.std.proofs.Common.{rules, refl, FitsSigned, w64}
use Rattle.std.proofs.lemmas.Int.{to_z-of_z}
use Rattle.view_words.proofs.numbers.is_small_rect.Goals as goal

pub returns : goal.returns
returns c =
    let x1 : FitsSigned w64 c.args.r.now.x1 = search rules in
    let y1 : FitsSigned w64 c.args.r.now.y1 = search rules in
    let x2 : FitsSigned w64 c.args.r.now.x2 = search rules in
    let y2 : FitsSigned w64 c.args.r.now.y2 = search rules in
    let a = simp to_z-of_z at c.if-not-is_small.ensures in
    let b = simp to_z-of_z at c.if-not-is_small-2.ensures in
    let d = simp to_z-of_z at c.if-not-is_small-3.ensures in
    let e = simp to_z-of_z at c.is_small-4.ensures in
    ((λ h. record { x1 = a.0 refl; y1 = b.0 refl; x2 = d.0 refl; y2 = e.0 h }), (λ h. e.1 h.y2))
