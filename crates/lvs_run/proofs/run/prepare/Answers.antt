use Rattle.lvs_run.proofs.Chosen.{stops_as}
use Rattle.lvs_run.proofs.run.prepare.Goals as goal

pub returns-in-Ok-Chip-clause-stops : goal.returns-in-Ok-Chip-clause-stops
returns-in-Ok-Chip-clause-stops g c = stops_as c.chip_output.result _ c.in-Ok-Chip.field-0 c.in-Ok-Chip.task _ c.in-Ok-Chip.field-0-is c.in-Ok-Chip.ensures.found c.chip_output.ensures.stops
