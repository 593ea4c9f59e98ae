use Rattle.std.proofs.Common.{List, subst, sym}
use Rattle.view_drawing.proofs.Placing.{all_one}
use Rattle.view_netlist.specs.Drawing.{AreAllSmall, IsSmallDrawing, plain_drawing}
use Rattle.view_netlist.specs.declared.drawing.Drawing.{Drawing}
use Rattle.view_picture.proofs.drawings.keep.Goals as goal

pub returns-clause-small : goal.returns-clause-small
returns-clause-small c h = subst (λ (l : List Drawing). AreAllSmall l) (sym c.in_ok-push.ensures.items) (all_one (λ (d : Drawing). IsSmallDrawing (plain_drawing d)) c.args.out.now.items c.args.drawing h c.requires)
