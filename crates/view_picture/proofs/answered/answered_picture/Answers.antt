use Rattle.std.proofs.Common.{refl}
use Rattle.view_picture.proofs.answered.answered_picture.Goals as goal

pub place_all-requires : goal.place_all-requires
place_all-requires c = c.requires.drawings

pub returns-clause-picture : goal.returns-clause-picture
returns-clause-picture c = record { names = refl; regions = refl; drawings = c.in_ok-placed.ensures.placed }

pub returns-clause-small : goal.returns-clause-small
returns-clause-small c = record { drawings = c.in_ok-placed.ensures.small; regions = c.requires.regions }
