use Rattle.std.proofs.Common.{ap, ◌∙◌}
use Rattle.geo_base.specs.Motions.{moved_square}
use Rattle.zone_phase.proofs.neighbours.relative.Goals as goal

pub returns : goal.returns
returns c = record { squares = λ s. ap (moved_square c.args.other.now) (c.then.ensures.after.squares s) ∙ c.inverse.ensures.there.squares (moved_square c.args.one.now s) }
