use Rattle.merge_laws.proofs.Alike.{alike_law, alike_back_law}
use Rattle.merge_laws.proofs.Groups.{unlike_law}
use Rattle.merge_laws.proofs.Kept.{good_merged, sound_merged, normal_merged}
use Rattle.merge_laws.proofs.Sides.{merged_sides}
use Rattle.merge_laws.proofs.merging.Goals as goal

pub returns : goal.returns
returns c = record { alike = alike_law; alike_back = alike_back_law; unlike = unlike_law; sound = sound_merged; normal = normal_merged; good = good_merged; sides = merged_sides }
