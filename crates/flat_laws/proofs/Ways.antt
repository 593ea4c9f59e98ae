-- Both ways of keeping meet the laws.
use Rattle.flat_laws.specs.ShutLaws.{AreShutLaws, keeping}
use Rattle.flat_laws.proofs.Lone.{lone}
use Rattle.flat_laws.proofs.Shut.{shut_above, shut_fewer, shut_same, shut_still, shut_top}
use Rattle.flat_layout.specs.declared.way.Way.{Way}

pub shut_laws : (v : Way) → AreShutLaws (keeping v)
shut_laws v = record {
  input = shut_same v;
  above = shut_above v;
  top = shut_top v;
  fewer = shut_fewer v;
  still = shut_still v;
  lone = lone v;
}
