use Rattle.flat_laws.proofs.Calm.{calm_above, same_flat}
use Rattle.flat_laws.proofs.Paths.{law}
use Rattle.flat_laws.proofs.undisturbed.Goals as goal

pub returns : goal.returns
returns c = record { input = law; name = same_flat; calm = calm_above }
