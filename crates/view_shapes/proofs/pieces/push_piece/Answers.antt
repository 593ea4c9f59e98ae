use Rattle.std.proofs.Common.{List, sym, subst}
use Rattle.view_shapes.specs.declared.pieces.Piece.{Piece}
use Rattle.view_shapes.specs.Pieces.{AddsPieces, IsOfRect}
use Rattle.view_shapes.proofs.Adding.{added_one}
use Rattle.view_shapes.proofs.pieces.push_piece.Goals as goal

pub returns : goal.returns
returns c =
    let p : Piece = record { conductor = c.args.conductor; net = c.args.net; rect = c.args.rect } in
    subst (λ (ps : List Piece). AddsPieces (IsOfRect c.args.conductor c.args.net c.args.rect) c.args.out.now.items ps) (sym c.in_ok-push.ensures.items) (added_one c.args.out.now.items p c.requires)
