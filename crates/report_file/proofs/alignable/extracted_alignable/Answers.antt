use Rattle.report_file.proofs.Aligning as lemma
use Rattle.report_file.proofs.alignable.extracted_alignable.Goals as goal

pub returns : goal.returns
returns c = lemma.extracted_alignable c.sound_netlist.ensures.good
