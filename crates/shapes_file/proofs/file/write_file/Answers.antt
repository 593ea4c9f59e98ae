-- What is counted in the cells' order.
use Rattle.std.proofs.Common.{List, ℕ, ap, sym, subst, ◌∙◌, length, arith}
use Rattle.std.specs.List.{All, sum_by}
use Rattle.layout_shapes.specs.Wide.{AreHeld}
use Rattle.layout_shapes.proofs.Fitting.{all_held}
use Rattle.rule_text.specs.Seen.{rules_seen}
use Rattle.shapes_file.specs.File.{count_in}
use Rattle.shapes_file.proofs.Counting.{made, room}
use Rattle.shapes_file.proofs.file.write_file.Goals as goal

pub count_rectangles-rectangles-requires-clause-held :
    goal.count_rectangles-rectangles-requires-clause-held
count_rectangles-rectangles-requires-clause-held c =
    let l = c.args.layout.now in
    let r = rules_seen c.args.rules.now in
    let table = c.args.layers.now in
    subst (λ (cells : List ℕ). All (AreHeld table r) cells) (sym c.order-order.ensures)
    (all_held c.layer_table.ensures.at l.design r table c.sound.ensures.order c.requires.rules c.requires.layers)

pub count_rectangles-rectangles-requires-clause-room :
    goal.count_rectangles-rectangles-requires-clause-room
count_rectangles-rectangles-requires-clause-room c =
    let l = c.args.layout.now in
    let r = rules_seen c.args.rules.now in
    let table = c.args.layers.now in
    let few = room l r table c.in_ok-text.text.items c.sound.ensures.order c.in_ok-text.ensures in
    let order = ap (λ (cells : List ℕ). sum_by (count_in table r) cells) c.order-order.ensures in
    let small = c.in_ok-text.text.small in
    let len = c.in_ok-text.text.ok.0 in
    omega (arith, few, order, small, len)

pub returns : goal.returns
returns c =
    let l = c.args.layout.now in
    let r = rules_seen c.args.rules.now in
    let table = c.args.layers.now in
    made l r table c.in_ok-text.text.items _ c.count_rectangles-rectangles.result c.sound.ensures.order c.requires.layers c.requires.narrow c.in_ok-text.ensures (ap length c.order-order.ensures)
    (c.count_rectangles-rectangles.ensures ∙ ap (λ (cells : List ℕ). sum_by (count_in table r) cells) c.order-order.ensures)
