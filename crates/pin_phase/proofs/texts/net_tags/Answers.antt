use Rattle.std.proofs.Common.{ℕ, subst}
use Rattle.pin_phase.specs.Sets.{HaveNone}
use Rattle.pin_phase.proofs.Naming.{all_tags}
use Rattle.pin_phase.proofs.texts.net_tags.Goals as goal

pub returns : goal.returns
returns g c =
    let d = g.C.Cells.design c.args.cells.now in let w = g.C.Cells.wiring c.args.cells.now in let t = g.C.Cells.tables c.args.cells.now in
    all_tags d w t c.args.cell c.args.texts.now c.args.lines.now c.requires.texts c.requires.lines c.in_ok-tags.tags c.tag_texts.new.tags c.tag_globals.new.tags
    (subst (λ (n : ℕ). HaveNone n c.in_ok-tags.tags) c.count.ensures c.in_ok-tags.ensures) c.in_ok-tag_texts.ensures c.in_ok-tag_globals.ensures
