use Rattle.run_layout.proofs.Runs.{fits, no_fault, one_fault, one_run}
use Rattle.run_layout.proofs.laws.run_layouts.Goals as goal

pub returns : goal.returns
returns c = record {
  layout = one_run c.one_layout.ensures.layout c.stages.ensures.turn c.staged.ensures.alike;
  apart = no_fault c.one_layout.ensures.layout c.one_layout.ensures.apart;
  fault = one_fault c.one_layout.ensures.layout c.one_layout.ensures.apart c.one_layout.ensures.fault;
  fits = fits c.staged.ensures.fits;
}
