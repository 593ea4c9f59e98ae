use Rattle.std.proofs.Common.{◌++◌, ◌∙◌, List, ap}
use Rattle.geo_base.specs.declared.shapes.Rect.{Rect}
use Rattle.layer_phase.proofs.Held.{own_held}
use Rattle.layer_phase.proofs.Results.{ok_is, on_ok}
use Rattle.layer_phase.proofs.looks.push_own.Goals as goal

pub returns-in-Input-clause-held : goal.returns-in-Input-clause-held
returns-in-Input-clause-held c = λ n h.
    on_ok _ _ c.extend_from_slice.result
    (λ e. own_held n c.args.design.now c.args.cell c.in-Input.key c.args.out.now.items c.extend_from_slice.new.self.items c.sound.ensures
    (e ∙ ap (λ (l : List Rect). c.args.out.now.items ++ l) (c.rects.ensures.list ∙ c.own.ensures)) h)
    (ok_is c.extend_from_slice.result c.extend_from_slice.new.self.items (c.args.out.now.items ++ c.rects.result.now) c.args.out.now.items c.extend_from_slice.ensures.items)
