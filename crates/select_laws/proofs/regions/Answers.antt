use Rattle.select_laws.proofs.Kept.{kept_region}
use Rattle.select_laws.proofs.Once.{one_place, each_once, top_whole}
use Rattle.select_laws.proofs.regions.Goals as goal

pub returns : goal.returns
returns c = record { kept = kept_region; place = one_place; once = each_once; top = top_whole }
