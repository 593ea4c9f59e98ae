use Rattle.flat_laws.proofs.Count.{counts, good_in, one_sizes}
use Rattle.flat_laws.proofs.Formed.{kept_form, read_layers}
use Rattle.flat_laws.proofs.Kept.{kept_gate}
use Rattle.flat_laws.proofs.Once.{one_place, each_once, top_settled}
use Rattle.flat_laws.proofs.Terminals.{grounds, terminals}
use Rattle.flat_laws.proofs.gates.Goals as goal

pub returns : goal.returns
returns c = record { reads = read_layers; kept = kept_gate; form = kept_form; place = one_place; once = each_once; top = top_settled; terminals = terminals; ground = grounds; inside = good_in; count = counts; sizes = one_sizes }
