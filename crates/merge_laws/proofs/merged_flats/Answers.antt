use Rattle.plain_netlist.specs.FlatLaws.{Passes}
use Rattle.plain_netlist.specs.Flats.{expanded}
use Rattle.merge_laws.proofs.Flats.{merged_same}
use Rattle.merge_laws.proofs.merged_flats.Goals as goal

pub returns : goal.returns
returns c = λ l r t u device net h. merged_same (expanded l t) (expanded r u) (Passes device) (Passes net) h
