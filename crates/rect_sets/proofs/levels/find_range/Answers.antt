use Rattle.std.proofs.Common.{rules, ℤ, pos, FitsSigned, w64}
use Rattle.std.proofs.lemmas.Int.{to_z-of_z}
use Rattle.std.proofs.lemmas.List.Sorted.{answers_always}
use Rattle.geo_base.specs.declared.shapes.Rect.{Rect}
use Rattle.rect_sets.proofs.Ranging.{found_at, found_none}
use Rattle.rect_sets.proofs.levels.find_range.Goals as goal

pub returns-in-Ok-clause-some : goal.returns-in-Ok-clause-some
returns-in-Ok-clause-some c =
    let key : Rect → ℤ × ℤ = λ (r : Rect). (r.x1, r.x2) in
    let zero : Rect = record { x1 = pos 0; y1 = pos 0; x2 = pos 0; y2 = pos 0 } in
    let f1 : FitsSigned w64 c.args.rect.now.x1 = search rules in
    let f2 : FitsSigned w64 c.args.rect.now.x2 = search rules in
    let equal = c.in-Ok.ensures.position key (answers_always _ _ _ (λ f a r g h. search rules)) in
    found_at c.args.rects.now c.args.rect.now zero c.in-Ok.at _ _ (to_z-of_z w64 c.args.rect.now.x1 f1) (to_z-of_z w64 c.args.rect.now.x2 f2) c.in-Ok.ensures.bound (equal zero)

pub returns-in-Err-clause-none : goal.returns-in-Err-clause-none
returns-in-Err-clause-none c =
    let key : Rect → ℤ × ℤ = λ (r : Rect). (r.x1, r.x2) in
    let f1 : FitsSigned w64 c.args.rect.now.x1 = search rules in
    let f2 : FitsSigned w64 c.args.rect.now.x2 = search rules in
    let parted = c.in-Err.ensures.position key (answers_always _ _ _ (λ f a r g h. search rules)) in
    found_none c.args.rects.now c.args.rect.now c.in-Err.field-0 _ _ (to_z-of_z w64 c.args.rect.now.x1 f1) (to_z-of_z w64 c.args.rect.now.x2 f2) c.requires parted
