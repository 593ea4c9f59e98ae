use Rattle.std.proofs.Common.{◌≡◌}
use Rattle.net_link_laws.specs.Places.{owned_before}
use Rattle.net_walk.proofs.cells.Cells.first_place.Given as goal
use Rattle.net_walk.specs.Pairs.{first_of}

abbrev pub invariant-loop-conductor : goal.invariant-loop-conductor
invariant-loop-conductor g l = l.at ≡ owned_before (g.Self.Cells.tables l.self) l.cell l.conductor

abbrev pub invariant-loop-k : goal.invariant-loop-k
invariant-loop-k g l = l.at ≡ first_of (g.Self.Cells.design l.self) (g.Self.Cells.wiring l.self) (g.Self.Cells.tables l.self) l.cell l.k
