use Rattle.flat_laws.proofs.Found.{kept_part, closed, parted}
use Rattle.flat_laws.proofs.Opens.{seed_open, parted_open}
use Rattle.flat_laws.proofs.Seeds.{reach, seed}
use Rattle.flat_laws.proofs.Through.{through, calm_through, test, below}
use Rattle.flat_laws.proofs.own_gates.Goals as goal

pub returns : goal.returns
returns c = record { reach = reach; seed = seed; through = through; calm = calm_through; test = test; below = below; part = kept_part; closed = closed; parted = parted; tabled_seed = seed_open; tabled = parted_open }
