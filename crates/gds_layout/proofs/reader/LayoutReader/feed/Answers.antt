use Rattle.std.proofs.Common.{ℕ, List, subst}
use Rattle.gds_elements.specs.Faults.{FirstFault}
use Rattle.gds_layout.proofs.reader.LayoutReader.feed.Goals as goal

pub returns-clause-tells : goal.returns-clause-tells
returns-clause-tells c = λ number index offset other h.
    c.in_ok-feed.ensures.tells number index offset other (subst (λ (ws : List ℕ). FirstFault ws number index offset) c.take_cells-cells.ensures.fed h)
