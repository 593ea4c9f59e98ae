use Rattle.std.proofs.Common.{◌≡◌, ◌++◌, map, take}
use Rattle.deep_tables.specs.Nets.{plain_item}
use Rattle.flat_layout.specs.Nets.{own_items}
use Rattle.net_phase.proofs.items.push_rects.Given as goal

abbrev pub invariant-loop-conductor : goal.invariant-loop-conductor
invariant-loop-conductor g l = map plain_item l.out.items ≡ map plain_item l.fn.out.items ++ own_items (g.C.Cells.tables l.cells) l.cell 0 (take l.conductor (g.C.Cells.wiring l.cells).conductors)
