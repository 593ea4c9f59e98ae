use Rattle.report_file.proofs.Combined as lemma
use Rattle.report_file.proofs.alignable.combined_alignable.Goals as goal

pub returns : goal.returns
returns c = record { alignable = lemma.combined_alignable c.merging.ensures.sound c.merging.ensures.normal; order = lemma.combined_order }
