use Rattle.std.proofs.Common.{◌≡◌, ◌+ℤ◌, ◌-ℤ◌, arith, w64, ap, sym, ◌∙◌}
use Rattle.std.proofs.lemmas.Int.{ints}
use mir.Val.{to_z, of_z}
use Rattle.poly_fill.specs.Fills.{low_of, high_of}
use Rattle.poly_fill.proofs.Widened.{rect_same, level_segment, upright_segment, along, near_value}
use Rattle.poly_fill.proofs.path.segment.Goals as goal

pub returns-then-a-b : goal.returns-then-a-b
returns-then-a-b c =
    let a = c.args.a in let b = c.args.b in
    let ax = near_value a.x c.requires.a.x in
    let bx = near_value b.x c.requires.b.x in
    let ay = near_value a.y c.requires.a.y in
    let by = near_value b.y c.requires.b.y in
    let begin = near_value c.args.begin c.requires.begin in
    let end = near_value c.args.end c.requires.end in
    let half = near_value c.args.half c.requires.half in
    let level : a.y ≡ b.y = sym ay ∙ ap (to_z w64) c.if-a-b.true ∙ by in
    let low : c.low_of.result ≡ low_of a.x b.x c.args.begin c.args.end = c.low_of.ensures ∙ along low_of _ _ _ _ _ _ _ _ ax bx begin end in
    let high : c.high_of.result ≡ high_of a.x b.x c.args.begin c.args.end = c.high_of.ensures ∙ along high_of _ _ _ _ _ _ _ _ ax bx begin end in
    let low_fits : to_z w64 (of_z w64 c.low_of.result) ≡ c.low_of.result = omega (arith, ints, c.low_of.type_inv) in
    let high_fits : to_z w64 (of_z w64 c.high_of.result) ≡ c.high_of.result = omega (arith, ints, c.high_of.type_inv) in
    let below : to_z w64 (of_z w64 (to_z w64 (of_z w64 a.y) -ℤ to_z w64 (of_z w64 c.args.half))) ≡ a.y -ℤ c.args.half = omega (arith, ints) in
    let above : to_z w64 (of_z w64 (to_z w64 (of_z w64 a.y) +ℤ to_z w64 (of_z w64 c.args.half))) ≡ a.y +ℤ c.args.half = omega (arith, ints) in
    rect_same _ _ _ _ _ _ _ _ (low_fits ∙ low) below (high_fits ∙ high) above ∙ sym (level_segment c.args.half c.args.begin c.args.end a b level)

pub returns-else-a-b : goal.returns-else-a-b
returns-else-a-b c =
    let a = c.args.a in let b = c.args.b in
    let ax = near_value a.x c.requires.a.x in
    let ay = near_value a.y c.requires.a.y in
    let by = near_value b.y c.requires.b.y in
    let begin = near_value c.args.begin c.requires.begin in
    let end = near_value c.args.end c.requires.end in
    let half = near_value c.args.half c.requires.half in
    let low : c.low_of-else-a-b.result ≡ low_of a.y b.y c.args.begin c.args.end = c.low_of-else-a-b.ensures ∙ along low_of _ _ _ _ _ _ _ _ ay by begin end in
    let high : c.high_of-else-a-b.result ≡ high_of a.y b.y c.args.begin c.args.end = c.high_of-else-a-b.ensures ∙ along high_of _ _ _ _ _ _ _ _ ay by begin end in
    let low_fits : to_z w64 (of_z w64 c.low_of-else-a-b.result) ≡ c.low_of-else-a-b.result = omega (arith, ints, c.low_of-else-a-b.type_inv) in
    let high_fits : to_z w64 (of_z w64 c.high_of-else-a-b.result) ≡ c.high_of-else-a-b.result = omega (arith, ints, c.high_of-else-a-b.type_inv) in
    let left : to_z w64 (of_z w64 (to_z w64 (of_z w64 a.x) -ℤ to_z w64 (of_z w64 c.args.half))) ≡ a.x -ℤ c.args.half = omega (arith, ints) in
    let right : to_z w64 (of_z w64 (to_z w64 (of_z w64 a.x) +ℤ to_z w64 (of_z w64 c.args.half))) ≡ a.x +ℤ c.args.half = omega (arith, ints) in
    rect_same _ _ _ _ _ _ _ _ left (low_fits ∙ low) right (high_fits ∙ high) ∙ sym (upright_segment c.args.half c.args.begin c.args.end a b (λ e. c.if-a-b.false (ap (of_z w64) e)))
