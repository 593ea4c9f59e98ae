-- One line more.
use Rattle.std.proofs.Common.{◌≡◌, ℕ, List, Option, length, get_or, ap, sym, ◌∙◌, arith}
use Rattle.std.specs.List.{sum_by}
use Rattle.geo_base.specs.declared.shapes.Rect.{Rect}
use Rattle.rule_text.specs.declared.rules.Output.{Output}
use Rattle.layout_shapes.specs.Written.{line_of, squares_of}
use Rattle.shapes_file.proofs.Sums.{in_room}
use Rattle.shapes_file.proofs.count.count_in_cell.Goals as goal

abbrev none : Output
none = record { layer = 0; key = record { layer = 0; datatype = 0 } }

pub overflow_add-count : goal.overflow_add-count
overflow_add-count c =
    let f : Output → ℕ = λ o. length (line_of c.args.layers.now c.args.cell o).1 in
    let items = c.deref-line-items.result.now in
    let room = in_room f items c.loop-line.line-index none c.loop-line-test.true in
    let here : f (get_or items c.loop-line.line-index none) ≡ length c.rects.result.now = ap (λ (v : Option (List Rect)). length (squares_of v)) c.local.ensures ∙ ap length (sym c.rects.ensures.list) in
    let total : sum_by f items ≡ sum_by f c.args.rules.now.outputs.items = ap (sum_by f) c.deref-line-items.ensures.value in
    let so_far = c.loop-line.invariant in
    let limit = c.requires.room in
    omega (arith, room, here, total, so_far, limit)
