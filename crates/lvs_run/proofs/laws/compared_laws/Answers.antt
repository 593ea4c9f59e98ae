use Rattle.lvs_run.proofs.Judged.{match_law, verdicts_law}
use Rattle.lvs_run.proofs.laws.compared_laws.Goals as goal

pub returns : goal.returns
returns c =
    let pairs = c.report_verdicts.ensures in
    record {
      verdicts = verdicts_law c.combined_alignable.ensures.alignable c.flat_netlist.ensures c.verdicts.ensures.one_run pairs.uneven pairs.carried pairs.kept pairs.undecided c.exact_report.ensures c.as_before.ensures c.matching.ensures;
      matched = match_law c.flat_netlist.ensures c.matched_report.ensures;
    }
