use Rattle.netlist_turn.proofs.ScaleText.{area_written_is, product_is, squared_is, written_is}
use Rattle.netlist_turn.proofs.laws.scale_laws.Goals as goal

pub returns-clause-product : goal.returns-clause-product
returns-clause-product c = product_is

pub returns-clause-written : goal.returns-clause-written
returns-clause-written c = written_is

pub returns-clause-squared : goal.returns-clause-squared
returns-clause-squared c = squared_is

pub returns-clause-written_area : goal.returns-clause-written_area
returns-clause-written_area c = area_written_is
