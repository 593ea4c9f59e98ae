use Rattle.std.proofs.Common.{length-set, ◌∙◌}
use Rattle.deep_tables.proofs.Placing.{reversed_more}
use Rattle.deep_tables.proofs.table.positions_from_end.Goals as goal

pub loop-k-preserved : goal.loop-k-preserved
loop-k-preserved c = let l = c.loop-k in record {
  count = length-set l.places.items _ _ ∙ l.invariant.count;
  places = reversed_more c.args.count l.k c.args.order.now l.places.items c.requires.numbers l.invariant.count c.loop-k-test.true l.invariant.places;
}
