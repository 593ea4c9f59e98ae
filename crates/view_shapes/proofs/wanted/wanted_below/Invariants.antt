use Rattle.view_shapes.specs.Wanted.{AreWantedBelow}
use Rattle.view_shapes.proofs.wanted.wanted_below.Given as goal

abbrev pub invariant-nets : goal.invariant-nets
invariant-nets l = AreWantedBelow l.net_of l.at l.b l.wanted l.called l.below.items
