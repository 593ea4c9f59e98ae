use Rattle.net_model.proofs.CallLemmas.{calls_law, cycles_law}
use Rattle.net_model.proofs.calls.call_list_laws.Goals as goal

pub returns : goal.returns
returns c = record { calls = calls_law; cycles = cycles_law }
