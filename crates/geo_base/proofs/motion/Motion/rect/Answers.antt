use Rattle.std.proofs.Common.{ap, ap₂, ◌∙◌, sym, subst, rules, FitsSigned, w64}
use Rattle.std.proofs.lemmas.Int.{to_z-of_z}
use Rattle.geo_base.specs.declared.shapes.Rect.{Rect}
use Rattle.geo_base.specs.Rects.{has, rect_between, IsRect}
use Rattle.geo_base.specs.Motions.{moved_square}
use Rattle.geo_base.proofs.Spans.{moved_rect-has, moved_rect-IsRect}
use Rattle.geo_base.proofs.motion.Motion.rect.Goals as goal

pub returns-clause-corners : goal.returns-clause-corners
returns-clause-corners c =
    let x1 : FitsSigned w64 c.args.r.x1 = search rules in let y1 : FitsSigned w64 c.args.r.y1 = search rules in
    let x2 : FitsSigned w64 c.args.r.x2 = search rules in let y2 : FitsSigned w64 c.args.r.y2 = search rules in
    let p = simp to_z-of_z at c.point-p.ensures.exact in let q = simp to_z-of_z at c.point-q.ensures.exact in
    c.between.ensures ∙ ap₂ rect_between p q

pub returns-clause-in_order : goal.returns-clause-in_order
returns-clause-in_order c = subst IsRect (sym (returns-clause-corners c)) (moved_rect-IsRect c.args.self.now c.args.r c.requires.in_order)

pub returns-clause-squares : goal.returns-clause-squares
returns-clause-squares c s =
    ap (λ (r : Rect). has r (moved_square c.args.self.now s)) (returns-clause-corners c) ∙ moved_rect-has c.args.self.now c.args.r s c.requires.in_order
