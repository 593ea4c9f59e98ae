use Rattle.std.proofs.Common.{arith}
use Rattle.pin_phase.specs.Tagged.{IsRawTag}
use Rattle.pin_phase.proofs.Added.{item_more, items_all}
use Rattle.pin_phase.proofs.texts.tag_texts.Goals as goal

pub loop-text-preserved : goal.loop-text-preserved
loop-text-preserved g c =
    let d = g.C.Cells.design c.args.cells.now in let t = g.C.Cells.tables c.args.cells.now in
    item_more (λ i text. IsRawTag d t c.args.cell c.args.lines.now text) c.args.texts.now c.loop-text.text-index c.text-item.result c.args.tags.now c.loop-text.tags c.tag_text.new.tags (omega arith) c.text-item.is c.loop-text.invariant c.in_ok-tag_text.ensures

pub returns : goal.returns
returns g c =
    let d = g.C.Cells.design c.args.cells.now in let t = g.C.Cells.tables c.args.cells.now in
    items_all (λ i text. IsRawTag d t c.args.cell c.args.lines.now text) c.args.texts.now c.loop-text.text-index c.args.tags.now c.loop-text.tags (omega arith) c.loop-text.invariant
