-- The cells of the order are those that the top reaches.
use Rattle.std.proofs.Common.{ℕ, ◌<◌, List, length, sym, subst}
use Rattle.std.specs.List.{All}
use Rattle.cell_graph.specs.Linked.{plain}
use Rattle.rule_text.specs.Seen.{rules_seen}
use Rattle.layout_shapes.specs.Wide.{AreHeld, IsLeast, IsWideCell}
use Rattle.layout_shapes.proofs.Fitting.{all_held}
use Rattle.layout_shapes.proofs.Least.{first, all_inside}
use Rattle.layout_shapes.proofs.wide.wide_cell.Goals as goal

pub least_wide-requires-clause-inside : goal.least_wide-requires-clause-inside
least_wide-requires-clause-inside c =
    let d = c.args.layout.now.design in
    subst (λ (cells : List ℕ). All (λ k. k < length d.cells) cells) (sym c.order.ensures) (all_inside d c.sound.ensures.order)

pub least_wide-requires-clause-held : goal.least_wide-requires-clause-held
least_wide-requires-clause-held c =
    let r = rules_seen c.args.rules.now in let table = c.args.layers.now in
    subst (λ (cells : List ℕ). All (AreHeld table r) cells) (sym c.order.ensures)
    (all_held c.layer_table.ensures.at c.args.layout.now.design r table c.sound.ensures.order c.requires.rules c.requires.layers)

pub returns : goal.returns
returns c =
    let r = rules_seen c.args.rules.now in let table = c.args.layers.now in let d = c.args.layout.now.design in
    first d r table c.least_wide.result c.sound.ensures.order
    (subst (λ (cells : List ℕ). IsLeast (IsWideCell (plain d) r table) cells c.least_wide.result) c.order.ensures c.least_wide.ensures)
