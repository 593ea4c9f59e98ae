use Rattle.std.proofs.Common.{sym, ◌∙◌}
use Rattle.gds_elements.proofs.element.Element.next.Goals as goal

pub returns-then-is_start : goal.returns-then-is_start
returns-then-is_start c = λ before form h. c.open.ensures.opened (sym c.is_start.ensures ∙ c.if-is_start.true) before form c.args.body.now
