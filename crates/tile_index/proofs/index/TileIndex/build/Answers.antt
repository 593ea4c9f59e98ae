use Rattle.std.proofs.Common.{List, sym, subst}
use Rattle.geo_base.specs.declared.shapes.Rect.{Rect}
use Rattle.tile_index.specs.declared.entries.Entry.{Entry}
use Rattle.tile_index.specs.Entries.{AreEntries}
use Rattle.tile_index.specs.Trees.{IsTree}
use Rattle.tile_index.proofs.Positions.{counts_same, rects_same}
use Rattle.tile_index.proofs.index.TileIndex.build.Goals as goal

pub tree_of-requires : goal.tree_of-requires
tree_of-requires c = rw (c.deref-2.ensures.value, c.deref-3.ensures.value) (counts_same c.args.rects.now c.in_ok-entries.entries.items c.in_ok-stops.stops.items (c.in_ok-entries.ensures {u = tt}) (c.in_ok-stops.ensures {u = tt}))

pub invariant_of-result : goal.invariant_of-result
invariant_of-result c =
    let entries = c.in_ok-entries.entries.items in
    let are = c.in_ok-entries.ensures {u = tt} in
    record {
      entries_are = subst (λ (rects : List Rect). AreEntries rects entries) (sym (rects_same c.args.rects.now entries are)) are;
      tree = subst (λ (es : List Entry). IsTree es c.in_ok-nodes.nodes.items) c.deref-2.ensures.value (c.in_ok-nodes.ensures {u = tt});
    }

pub returns : goal.returns
returns c = rects_same c.args.rects.now c.in_ok-entries.entries.items (c.in_ok-entries.ensures {u = tt})
