use Rattle.report_file.proofs.Matched as lemma
use Rattle.report_file.proofs.laws.matched_report.Goals as goal

pub returns : goal.returns
returns c = lemma.matched_report c.combined_alignable.ensures.alignable c.sound_netlist.ensures.good c.pairs.ensures.order c.flat_layouts.ensures.expands c.pair_answers.ensures.tops
