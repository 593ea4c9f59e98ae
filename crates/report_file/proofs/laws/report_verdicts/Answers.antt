use Rattle.report_file.proofs.Verdicts as lemma
use Rattle.report_file.proofs.laws.report_verdicts.Goals as goal

pub returns : goal.returns
returns c =
    let sides = c.pairs.ensures.sides in
    let order = c.pairs.ensures.order in
    let one = c.verdicts.ensures.one_run in
    record {
      bad = lemma.bad_gate one;
      uneven = lemma.uneven_pair one c.device_counts.ensures;
      carried = lemma.carried_pair sides order c.pair_answers.ensures.carried;
      kept = lemma.kept_pair sides order c.pair_answers.ensures.kept;
      undecided = lemma.undecided sides order one c.verdicts.ensures.undecided;
    }
