use Rattle.std.proofs.Common.{List, subst, sym}
use Rattle.view_netlist.specs.Drawing.{AreSmallPlaces, IsSmallPoint}
use Rattle.view_netlist.specs.declared.drawing.DevicePlace.{DevicePlace}
use Rattle.view_drawing.proofs.Placing.{all_one}
use Rattle.view_drawing.proofs.devices.keep_place.Goals as goal

pub returns-clause-small : goal.returns-clause-small
returns-clause-small c h = subst (λ (l : List DevicePlace). AreSmallPlaces l) (sym c.in_ok-push.ensures.items) (all_one (λ (p : DevicePlace). IsSmallPoint p.at) c.args.out.now.items c.args.place h c.requires)
