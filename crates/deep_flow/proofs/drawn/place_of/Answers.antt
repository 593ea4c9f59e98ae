use Rattle.deep_flow.proofs.Few.{not_listed}
use Rattle.deep_flow.proofs.drawn.place_of.Goals as goal

pub returns : goal.returns
returns c = absurd (not_listed c.args.cells.now c.args.cell c.loop-i.i c.loop-i-test.false c.loop-i.invariant c.requires.listed)
