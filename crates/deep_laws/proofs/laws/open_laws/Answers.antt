use Rattle.deep_laws.proofs.Opens.{open_zone, bare, open_none, open_union, calm_by}
use Rattle.deep_laws.proofs.laws.open_laws.Goals as goal

pub returns : goal.returns
returns c = record { zone = open_zone; bare = bare; none = open_none; union = open_union; calm = calm_by }
