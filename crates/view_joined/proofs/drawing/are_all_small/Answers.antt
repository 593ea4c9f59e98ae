use Rattle.std.proofs.Common.{◌≡◌, ◌-◌, inr, List, ◌∷◌, length, take, drop, sym, subst, rules}
use Rattle.std.specs.Global.{Vec}
use Rattle.std.specs.List.{All}
use Rattle.std.proofs.lemmas.List.Elements.{All-cons}
use Rattle.view_drawing.proofs.Placing.{front_is}
use Rattle.view_netlist.specs.Drawing.{AreSmallShapes}
use Rattle.view_netlist.specs.declared.drawing.Shape.{Shape}
use Rattle.flat_layout.specs.Layout.{Some_of}
use Rattle.view_joined.specs.Far.{HasFarShape}
use Rattle.view_joined.specs.Nets.{shape_lists}
use Rattle.view_joined.proofs.drawing.are_all_small.Goals as goal

pub nets-preserved : goal.nets-preserved
nets-preserved c =
    let rest = c.nets.rest.now in
    let first = c.shapes-item.result in
    let after = take (length rest - 1) (drop 1 rest) in
    let e : rest ≡ first ∷ after = front_is rest first c.in-len1-up.len_at_least c.shapes-item.is in
    let there : AreSmallShapes c.deref.result.now = c.are_small.ensures.small (search rules) in
    let one : AreSmallShapes first.items = subst (λ (z : List Shape). AreSmallShapes z) c.deref.ensures.value there in (
      (λ small. c.nets.invariant.0 (subst (λ (z : List (Vec Shape)). All AreSmallShapes (shape_lists z)) (sym e) (All-cons AreSmallShapes first.items (shape_lists after) one small))),
      (λ far. c.nets.invariant.1 (subst (λ (z : List (Vec Shape)). Some_of HasFarShape (shape_lists z)) (sym e) (inr far))),
    )
