use Rattle.std.proofs.Common.{◌≡◌, length}
use Rattle.deep_tables.specs.Positions.{AreReversed}
use Rattle.deep_tables.proofs.table.positions_from_end.Given as goal

abbrev pub invariant-loop-k : goal.invariant-loop-k
invariant-loop-k l = record {
  count : length l.places.items ≡ l.count;
  places : AreReversed l.order l.k l.places.items;
}
