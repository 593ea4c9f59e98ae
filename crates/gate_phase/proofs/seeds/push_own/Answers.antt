use Rattle.std.proofs.Common.{◌++◌, ◌∙◌, List, subst, sym}
use Rattle.std.specs.List.{All}
use Rattle.geo_base.specs.Rects.{IsRect}
use Rattle.geo_base.specs.declared.shapes.Rect.{Rect}
use Rattle.gate_phase.proofs.Bringing.{more_pieces, own_pieces}
use Rattle.gate_phase.proofs.Results.{ok_is, on_ok}
use Rattle.gate_phase.proofs.seeds.push_own.Goals as goal

pub returns-in-Input-clause-pieces : goal.returns-in-Input-clause-pieces
returns-in-Input-clause-pieces c =
    let rects = c.rects.result.now in
    on_ok _ _ c.extend_from_slice.result
    (λ e. more_pieces c.args.plane.now c.args.out.now.items rects c.extend_from_slice.new.self.items e c.requires.pieces
    (own_pieces c.args.design.now c.args.cell c.in-Input.key rects c.args.plane.now c.sound.ensures c.requires.plane (c.rects.ensures.list ∙ c.own.ensures) (subst (λ (l : List Rect). All IsRect l) (sym c.rects.ensures.list) c.rects.ensures.sound)))
    (ok_is c.extend_from_slice.result c.extend_from_slice.new.self.items (c.args.out.now.items ++ rects) c.args.out.now.items c.extend_from_slice.ensures.items)
