use Rattle.std.proofs.Common.{◌≡◌, ◌++◌, length, map}
use Rattle.std.specs.Global.{Vec}
use Rattle.view_netlist.specs.declared.drawing.Shape.{Shape}
use Rattle.view_run.specs.Places.{net_point}
use Rattle.view_run.proofs.places.net_points.Given as goal

abbrev pub invariant-nets : goal.invariant-nets
invariant-nets l = l.points.items ++ map net_point (map (λ (s : Vec Shape). s.items) l.rest) ≡ map net_point (map (λ (s : Vec Shape). s.items) l.nets)

abbrev pub decreases-nets : goal.decreases-nets
decreases-nets l = length l.rest
