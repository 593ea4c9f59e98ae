use Rattle.flat_laws.proofs.OneNet.{regions}
use Rattle.law_samples.proofs.layout.Right.{right}
use Rattle.law_samples.specs.Sample.{sample_design, sample_wiring, sample_tables, sample_level}
use Rattle.law_samples.proofs.layout.sample_nets.Goals as goal

pub returns : goal.returns
returns c = record { tables = right; regions = regions sample_design sample_wiring sample_tables sample_level right }
