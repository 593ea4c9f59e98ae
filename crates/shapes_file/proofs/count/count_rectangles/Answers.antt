-- One cell more.
use Rattle.std.proofs.Common.{arith}
use Rattle.rule_text.specs.Seen.{rules_seen}
use Rattle.shapes_file.specs.File.{count_in}
use Rattle.shapes_file.proofs.Sums.{in_room, one_more}
use Rattle.shapes_file.proofs.count.count_rectangles.Goals as goal

pub count_in_cell-count-requires-clause-room : goal.count_in_cell-count-requires-clause-room
count_in_cell-count-requires-clause-room c =
    let room = in_room (count_in c.args.layers.now (rules_seen c.args.rules.now)) c.args.cells.now c.loop-cell.cell-index 0 c.loop-cell-test.true in
    let limit = c.requires.room in
    omega (arith, room, limit)

pub overflow_add-count : goal.overflow_add-count
overflow_add-count c =
    let room = in_room (count_in c.args.layers.now (rules_seen c.args.rules.now)) c.args.cells.now c.loop-cell.cell-index 0 c.loop-cell-test.true in
    let so_far = c.loop-cell.invariant in
    let here = c.count_in_cell-count.ensures in
    let limit = c.requires.room in
    omega (arith, room, so_far, here, limit)

pub loop-cell-preserved : goal.loop-cell-preserved
loop-cell-preserved c =
    let more = one_more (count_in c.args.layers.now (rules_seen c.args.rules.now)) c.args.cells.now c.loop-cell.cell-index 0 c.loop-cell-test.true in
    let so_far = c.loop-cell.invariant in
    let here = c.count_in_cell-count.ensures in
    omega (arith, more, so_far, here)
