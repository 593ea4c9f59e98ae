use Rattle.tile_index.proofs.Walks.{holds_range, holds_both, above_both}
use Rattle.std.proofs.Common.{◌≡◌, length, sym, subst, arith}
use Rattle.geo_base.specs.declared.shapes.Rect.{Rect}
use Rattle.tile_index.specs.Trees.{HoldsRange, IsAbove}
use Rattle.tile_index.proofs.tree.+grow.Goals as goal

pub push_node-requires-clause-hull : goal.push_node-requires-clause-hull
push_node-requires-clause-hull t c = holds_range c.args.entries.now c.args.from c.args.to c.hull_of-hull.result c.requires.inside c.hull_of-hull.ensures

pub returns-then-to-from-le-BUNCH-clause-holds : goal.returns-then-to-from-le-BUNCH-clause-holds
returns-then-to-from-le-BUNCH-clause-holds t c = holds_range c.args.entries.now c.args.from c.args.to c.hull_of-hull.result c.requires.inside c.hull_of-hull.ensures

pub push_node-requires-2-clause-above : goal.push_node-requires-2-clause-above
push_node-requires-2-clause-above t c =
    let size = c.args.nodes.now.ok.0 in
    let count : length c.args.nodes.now.items ≡ c.len-skip.result = omega arith in
    subst (λ n. IsAbove c.args.entries.now c.grow-2.new.nodes.items c.args.from c.args.to n) count
    (above_both c.args.entries.now c.args.from _ c.args.to c.args.nodes.now.items c.grow.new.nodes.items c.grow-2.new.nodes.items c.in_ok-late.ensures.grows c.in_ok-early.ensures.grows c.requires.next)

pub push_node-requires-2-clause-hull : goal.push_node-requires-2-clause-hull
push_node-requires-2-clause-hull t c =
    subst (λ (r : Rect). HoldsRange c.args.entries.now c.args.from c.args.to r) (sym c.bounding_box-hull.ensures)
    (holds_both c.args.entries.now c.args.from _ c.args.to c.in_ok-early.early c.in_ok-late.late c.in_ok-early.ensures.holds c.in_ok-late.ensures.holds)

pub returns-clause-holds : goal.returns-clause-holds
returns-clause-holds t c =
    subst (λ (r : Rect). HoldsRange c.args.entries.now c.args.from c.args.to r) (sym c.bounding_box-hull.ensures)
    (holds_both c.args.entries.now c.args.from _ c.args.to c.in_ok-early.early c.in_ok-late.late c.in_ok-early.ensures.holds c.in_ok-late.ensures.holds)
