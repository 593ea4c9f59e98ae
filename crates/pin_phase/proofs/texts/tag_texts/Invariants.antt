use Rattle.pin_phase.specs.Tagged.{IsRawTag}
use Rattle.pin_phase.proofs.Added.{AtItem, First}
use Rattle.pin_phase.specs.Sets.{Adds}
use Rattle.pin_phase.proofs.texts.tag_texts.Given as goal

abbrev pub invariant-loop-text : goal.invariant-loop-text
invariant-loop-text g l = Adds (First (AtItem (λ i text. IsRawTag (g.C.Cells.design l.cells) (g.C.Cells.tables l.cells) l.cell l.lines text) l.texts) l.text-index) l.initial.tags l.tags
