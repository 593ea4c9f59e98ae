use Rattle.view_joined.proofs.Covered.{cover_law}
use Rattle.view_joined.proofs.Paths.{motion_law}
use Rattle.view_joined.proofs.laws.joined_laws.Goals as goal

pub returns : goal.returns
returns c = record { motion = motion_law; cover = cover_law }
