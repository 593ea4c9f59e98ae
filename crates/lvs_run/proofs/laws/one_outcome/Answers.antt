use Rattle.lvs_run.proofs.MadeChips.{chip_told}
use Rattle.lvs_run.proofs.OneAnswer.{one_answer}
use Rattle.lvs_run.proofs.laws.one_outcome.Goals as goal

pub returns : goal.returns
returns c = record {
  outcome = one_answer c.laws.ensures.meaning c.laws.ensures.fault c.run_layouts.ensures.apart c.run_layouts.ensures.fault c.one_file.ensures.file c.one_file.ensures.wide c.one_file.ensures.none c.one_netlist.ensures.netlist c.one_netlist.ensures.order c.run_layouts.ensures.layout c.written_laws.ensures.one c.written_laws.ensures.no_fault c.one_report.ensures c.combined_alignable.ensures.alignable;
  chip = chip_told;
}
