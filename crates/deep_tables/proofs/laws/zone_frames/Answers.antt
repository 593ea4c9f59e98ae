use Rattle.deep_tables.proofs.Framing.{framed, framed_open}
use Rattle.deep_tables.proofs.laws.zone_frames.Goals as goal

pub returns : goal.returns
returns c = record { disturbed = framed; left = framed_open }
