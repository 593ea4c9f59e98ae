use Rattle.net_walk.proofs.Walking.{near_at}
use Rattle.net_walk.proofs.lyings.lying_of.Goals as goal

pub relative-motion-requires-clause-near : goal.relative-motion-requires-clause-near
relative-motion-requires-clause-near c = near_at c.args.elements.now c.args.one c.requires.close c.requires.one

pub relative-motion-requires-clause-near_other : goal.relative-motion-requires-clause-near_other
relative-motion-requires-clause-near_other c = near_at c.args.elements.now c.args.other c.requires.close c.requires.other
