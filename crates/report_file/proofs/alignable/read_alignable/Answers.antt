use Rattle.report_file.proofs.Aligning as lemma
use Rattle.report_file.proofs.alignable.read_alignable.Goals as goal

pub returns : goal.returns
returns c = lemma.read_alignable
