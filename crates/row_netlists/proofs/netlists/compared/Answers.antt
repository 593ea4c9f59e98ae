use Rattle.row_netlists.proofs.netlists.compared.Goals as goal

pub compare-requires-clause-narrow : goal.compare-requires-clause-narrow
compare-requires-clause-narrow g c κs within = λ on. (c.in_ok-layout.ensures.narrow on, c.in_ok-schematic.ensures.narrow on)
