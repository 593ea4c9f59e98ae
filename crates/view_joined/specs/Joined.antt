-- What is drawn of an aligned circuit.
use Rattle.std.specs.Prelude.{◌≡◌, ℕ, List, []}
use Rattle.geo_base.specs.declared.motion.Motion.{Motion}
use Rattle.part_origins.specs.Inside.{PlainInside}
use Rattle.part_origins.specs.Made.{PlainOrigins}
use Rattle.view_drawing.specs.Devices.{Area}
use Rattle.view_netlist.specs.Drawing.{Drawn, drawn_of}
use Rattle.view_netlist.specs.declared.drawing.Drawing.{Drawing}
use Rattle.view_joined.specs.Devices.{AreJoinedDevices}
use Rattle.view_joined.specs.Nets.{AreJoined}
use Rattle.view_joined.specs.Spots.{AreCallMotions, AreMotions}

-- all nets, devices and calls of the circuits inside it, each circuit moved by its motion
pub record IsJoinedDrawing (x : PlainInside) (o : PlainOrigins) (drawings : List Drawing)
    (count : ℕ) (areas : List Area) (v : Drawn) : Type 0 where
  pub motions : List Motion
  pub moved : AreMotions x.spots drawings [] x.spots motions
  pub hull : v.hull ≡ (drawn_of drawings o.circuit).hull
  pub nets : AreJoined x.spots motions drawings o.nets count v.nets
  pub devices : AreJoinedDevices x.spots drawings motions areas o.devices v.devices
  pub calls : AreCallMotions x.spots drawings motions o.calls v.calls
