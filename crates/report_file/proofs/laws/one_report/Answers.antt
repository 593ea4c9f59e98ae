use Rattle.report_file.proofs.One as lemma
use Rattle.report_file.proofs.laws.one_report.Goals as goal

pub returns : goal.returns
returns c = lemma.one_report
    (record {
      one_partner = c.pairs.ensures.one_partner;
      one_pair = c.pairs.ensures.one_pair;
      sides = c.pairs.ensures.sides;
      order = c.pairs.ensures.order;
      together = c.answers.ensures.together;
      one_answer = c.answers.ensures.one;
      longest = c.alone_lines.ensures.longest;
      lines = c.alone_lines.ensures.apart;
      alone = c.alone_lines.ensures.alone;
    }) c.verdicts.ensures.one_run
