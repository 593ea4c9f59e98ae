use Rattle.std.proofs.Common.{◌≡◌, ◌++◌, map, take}
use Rattle.deep_tables.specs.Nets.{plain_item}
use Rattle.flat_layout.specs.Nets.{child_items}
use Rattle.net_link_laws.specs.Places.{places_of}
use Rattle.net_phase.proofs.items.push_placed.Given as goal

abbrev pub invariant-loop-place : goal.invariant-loop-place
invariant-loop-place g l = map plain_item l.out.items ≡ map plain_item l.fn.out.items ++ child_items (g.C.Cells.tables l.cells) 0 (take l.place (places_of (g.C.Cells.design l.cells) l.cell))
