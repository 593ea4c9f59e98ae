use Rattle.pin_phase.specs.Tagged.{IsGlobalTag}
use Rattle.pin_phase.proofs.Added.{AtItem, First}
use Rattle.pin_phase.specs.Sets.{Adds}
use Rattle.pin_phase.proofs.texts.tag_globals.Given as goal

abbrev pub invariant-loop-global : goal.invariant-loop-global
invariant-loop-global g l = Adds (First (AtItem (IsGlobalTag (g.C.Cells.design l.cells) (g.C.Cells.tables l.cells) l.cell) (g.C.Cells.wiring l.cells).globals) l.global) l.initial.tags l.tags
