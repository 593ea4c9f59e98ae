use Rattle.align_laws.proofs.Kept.{kept_alike, aligned_corresponds}
use Rattle.align_laws.proofs.OneAligned.{one_aligned, all_flattened}
use Rattle.align_laws.proofs.Soundness.{aligned_sound, aligned_fault, no_further}
use Rattle.align_laws.proofs.aligned.Goals as goal

pub returns : goal.returns
returns c = record { expansion = kept_alike; correspondence = aligned_corresponds; one = one_aligned; all_flattened = all_flattened; sound = aligned_sound; fault = aligned_fault; no_further = no_further }
