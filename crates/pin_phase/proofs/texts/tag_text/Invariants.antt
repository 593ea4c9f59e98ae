use Rattle.pin_phase.specs.Tagged.{IsLineTag}
use Rattle.pin_phase.proofs.Added.{AtItem, First}
use Rattle.pin_phase.specs.Sets.{Adds}
use Rattle.pin_phase.proofs.texts.tag_text.Given as goal

abbrev pub invariant-loop-line : goal.invariant-loop-line
invariant-loop-line g l = Adds (First (AtItem (λ i line. IsLineTag (g.C.Cells.design l.cells) (g.C.Cells.tables l.cells) l.cell l.text line) l.lines) l.line-index) l.initial.tags l.tags
