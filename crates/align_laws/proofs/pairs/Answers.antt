use Rattle.align_laws.proofs.OnePair.{one_pair}
use Rattle.align_laws.proofs.Sides.{one_partner, said, kept_from, aligned_sides, ordered}
use Rattle.align_laws.proofs.pairs.Goals as goal

pub returns : goal.returns
returns c = record { said = said; one_partner = one_partner; kept = kept_from; one_pair = one_pair; sides = aligned_sides; order = ordered }
