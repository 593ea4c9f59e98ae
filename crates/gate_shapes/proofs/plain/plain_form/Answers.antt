use Rattle.std.proofs.Common.{◌≡◌, ◌∙◌, sym, subst, arith, pos, List, length}
use Rattle.std.specs.List.{All}
use Rattle.geo_base.specs.Near.{IsNearRect}
use Rattle.geo_base.specs.declared.shapes.Rect.{Rect}
use Rattle.rect_sets.proofs.Moving.{near_rects}
use Rattle.gate_shapes.proofs.Courses.{level_form, upright_form}
use Rattle.gate_shapes.proofs.plain.plain_form.Goals as goal

abbrev nowhere : Rect
nowhere = record { x1 = pos 0; y1 = pos 0; x2 = pos 0; y2 = pos 0 }

pub form_between-requires : goal.form_between-requires
form_between-requires c = (subst (λ (l : List Rect). All IsNearRect l) (sym c.rects.ensures.list) (near_rects c.args.part.now c.rects.ensures.canonical c.requires)) 0 nowhere (omega arith)

pub returns-then-is_level : goal.returns-then-is_level
returns-then-is_level c =
    let a = c.args.around.now in
    let one : length c.rects.result.now ≡ 1 = omega arith in
    let two : length c.rects-2.result.now ≡ 2 = omega arith in
    level_form c.args.part.now a.ends.now c.rects.result.now c.rects-2.result.now a.on_ends.now a.on_gate.now a.on_bulk.now a.loose nowhere c.rects.ensures.list c.rects-2.ensures.list
    c.rects.ensures.sound c.rects-2.ensures.sound one two c.form_between.result (sym c.is_level.ensures ∙ c.if-is_level.true) c.form_between.ensures

pub form_between-requires-then-is_upright : goal.form_between-requires-then-is_upright
form_between-requires-then-is_upright c = (subst (λ (l : List Rect). All IsNearRect l) (sym c.rects.ensures.list) (near_rects c.args.part.now c.rects.ensures.canonical c.requires)) 0 nowhere (omega arith)

pub returns-then-is_upright : goal.returns-then-is_upright
returns-then-is_upright c =
    let a = c.args.around.now in
    let one : length c.rects.result.now ≡ 1 = omega arith in
    let two : length c.rects-2.result.now ≡ 2 = omega arith in
    upright_form c.args.part.now a.ends.now c.rects.result.now c.rects-2.result.now a.on_ends.now a.on_gate.now a.on_bulk.now a.loose nowhere c.rects.ensures.list c.rects-2.ensures.list
    c.rects.ensures.sound c.rects-2.ensures.sound one two c.form_between-then-is_upright.result (sym c.is_upright.ensures ∙ c.if-is_upright.true) c.form_between-then-is_upright.ensures
