use Rattle.deep_tables.specs.Gates.{gates_of}
use Rattle.pin_phase.specs.Links.{lists_of}
use Rattle.pin_phase.proofs.Linking.{AreLinksTo}
use Rattle.pin_phase.proofs.links.find_links.Given as goal

abbrev pub invariant-loop-job : goal.invariant-loop-job
invariant-loop-job g l = AreLinksTo l.design (g.C.Cells.tables l.cells) (gates_of l.gates) l.job (lists_of l.lists.items)
