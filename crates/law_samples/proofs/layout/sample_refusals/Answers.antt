use Rattle.law_samples.proofs.layout.Wrong.{child_nets, exchanged_wrong, further_wrong, long_call_wrong, other_name_wrong, second_copy}
use Rattle.law_samples.proofs.layout.sample_refusals.Goals as goal

pub returns : goal.returns
returns c = record { nets = child_nets; copy = second_copy; call = long_call_wrong; name = other_name_wrong; further = further_wrong; exchanged = exchanged_wrong }
