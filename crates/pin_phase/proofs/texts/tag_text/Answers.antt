use Rattle.std.proofs.Common.{◌<◌, get_or, length, arith}
use Rattle.net_phase.proofs.Listing.{any_default}
use Rattle.pin_phase.specs.Tagged.{IsLineTag}
use Rattle.pin_phase.specs.declared.lines.TextLine.{TextLine}
use Rattle.pin_phase.proofs.Added.{item_more, items_all}
use Rattle.pin_phase.proofs.texts.tag_text.Goals as goal

abbrev no_line : TextLine
no_line = record { key = record { layer = 0; datatype = 0 }; conductor = 0 }

pub loop-line-preserved : goal.loop-line-preserved
loop-line-preserved g c =
    let d = g.C.Cells.design c.args.cells.now in let t = g.C.Cells.tables c.args.cells.now in
    let lines = c.args.lines.now in let n = c.loop-line.line-index in
    let lt : n < length lines = omega arith in
    item_more (λ i line. IsLineTag d t c.args.cell c.args.text.now line) lines n (get_or lines n no_line) c.args.tags.now c.loop-line.tags c.tag_line.new.tags lt (any_default lines n no_line (get_or lines n no_line) lt) c.loop-line.invariant c.in_ok-tag_line.ensures

pub returns : goal.returns
returns g c =
    let d = g.C.Cells.design c.args.cells.now in let t = g.C.Cells.tables c.args.cells.now in
    items_all (λ i line. IsLineTag d t c.args.cell c.args.text.now line) c.args.lines.now c.loop-line.line-index c.args.tags.now c.loop-line.tags (omega arith) c.loop-line.invariant
