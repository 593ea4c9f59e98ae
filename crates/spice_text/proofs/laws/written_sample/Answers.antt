use Rattle.spice_text.proofs.SampleLemmas.{sample_law}
use Rattle.spice_text.proofs.laws.written_sample.Goals as goal

pub returns : goal.returns
returns c = sample_law c.call_list_laws.ensures
