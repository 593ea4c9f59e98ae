use Rattle.report_file.proofs.Exact as lemma
use Rattle.report_file.proofs.laws.exact_report.Goals as goal

pub returns : goal.returns
returns c = lemma.exact_report
    (record {
      alignable = c.combined_alignable.ensures.alignable;
      flat = c.flat_layouts.ensures.expands;
      sides = c.pairs.ensures.sides;
      order = c.pairs.ensures.order;
      together = c.answers.ensures.together;
      one = c.answers.ensures.one;
      kept = c.pair_answers.ensures.kept;
    })
