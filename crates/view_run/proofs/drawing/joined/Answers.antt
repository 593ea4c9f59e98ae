use Rattle.std.proofs.Common.{List, map, subst}
use Rattle.std.proofs.lemmas.Result.{err_from_is_err_and}
use Rattle.net_model.specs.Rows.{plain_circuit}
use Rattle.view_drawing.proofs.Fars.{err_as}
use Rattle.net_model.specs.declared.netlist.Circuit.{Circuit}
use Rattle.part_origins.specs.Made.{plain_all}
use Rattle.view_picture.specs.Picture.{IsJoinedPicture}
use Rattle.view_run.proofs.drawing.joined.Goals as goal

pub returns-clause-picture : goal.returns-clause-picture
returns-clause-picture c =
    let drawn = c.args.drawn in
    let o = c.in_ok-origins in
    record {
      origins = plain_all o.origins;
      have = o.ensures;
      joined = subst (λ (cs : List Circuit). IsJoinedPicture c.args.layout.now.design c.args.rules.now.names.items drawn.cells.items drawn.names.items drawn.sketch.drawings.items (plain_all o.origins) (map plain_circuit cs) c.in_ok-made.made) c.as_slice-lefts.ensures.value c.in_ok-made.ensures.picture;
    }

pub returns-in_err-made-clause-far : goal.returns-in_err-made-clause-far
returns-in_err-made-clause-far c =
    let e = err_from_is_err_and c.from_residual-in_err-made.result c.from_residual-in_err-made.ensures.1 in
    let o = c.in_ok-origins in
    rw (e.1, e.2) (λ s. record { origins = plain_all o.origins; have = o.ensures; far = c.in_err-made.ensures.far (err_as _ _ s) })
