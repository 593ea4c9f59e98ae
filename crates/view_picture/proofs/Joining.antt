-- What is drawn of aligned circuits stays right while regions are added.
use Rattle.std.proofs.Common.{inl, inr, ◌≡◌, ℕ, List, [], ◌∷◌, ◌++◌, Option, Some, None, length, refl, slice_get, subst, sym, append_assoc, append-nil}
use Rattle.flat_layout.specs.Layout.{Some_of}
use Rattle.geo_base.specs.declared.motion.Motion.{Motion}
use Rattle.part_origins.specs.Inside.{PlainInside, PlainSpot}
use Rattle.part_origins.specs.Made.{PlainOrigins}
use Rattle.part_origins.specs.declared.inside.Part.{Part}
use Rattle.plain_netlist.specs.Netlist.{Circuit}
use Rattle.view_drawing.proofs.Placing.{added_twice, none_added}
use Rattle.view_drawing.specs.Devices.{AddsRegions, Area, AreSmallRegions}
use Rattle.view_joined.proofs.Growing.{still_moved}
use Rattle.view_joined.specs.Devices.{AreJoinedDevices}
use Rattle.view_joined.specs.Joined.{IsJoinedDrawing}
use Rattle.view_netlist.specs.Drawing.{AreAllSmall, Drawn}
use Rattle.view_netlist.specs.declared.drawing.DevicePlace.{DevicePlace}
use Rattle.view_netlist.specs.declared.drawing.Drawing.{Drawing}
use Rattle.view_joined.proofs.Small.{longer, stood_before}
use Rattle.view_joined.specs.Devices.{HaveRegions, IsFarDevice, IsFarMoved}
use Rattle.view_joined.specs.Far.{Call, Device, JoinsFar, Net, Spot}
use Rattle.view_picture.specs.Far.{HasFarJoined, IsFarOf}
use Rattle.view_picture.specs.Picture.{AreAllJoined, IsJoinedIn, IsJoinedOf, plain_drawings}

still_devices : (spots : List PlainSpot) (ds : List Drawing) (ms : List Motion) (a b : List Area) (parts : List Part) (qs : List DevicePlace) → AddsRegions a b → AreJoinedDevices spots ds ms a parts qs → AreJoinedDevices spots ds ms b parts qs
still_devices spots ds ms a b [] [] adds h = h
still_devices spots ds ms a b [] (q ∷ qs) adds h = absurd h
still_devices spots ds ms a b (c ∷ cs) [] adds h = h
still_devices spots ds ms a b (c ∷ cs) (q ∷ qs) adds h = ((h.0.0, h.0.1, still_moved _ h.0.0 q a b adds h.0.2), still_devices spots ds ms a b cs qs adds h.1)

still_drawing : (x : PlainInside) (o : PlainOrigins) (ds : List Drawing) (count : ℕ) (a b : List Area) (v : Drawn) → AddsRegions a b → IsJoinedDrawing x o ds count a v → IsJoinedDrawing x o ds count b v
still_drawing x o ds count a b v adds h = record {
  motions = h.motions;
  moved = h.moved;
  hull = h.hull;
  nets = h.nets;
  devices = still_devices x.spots ds h.motions a b o.devices v.devices adds h.devices;
  calls = h.calls;
}

still_of : (x : Option PlainInside) (ds : List Drawing) (o : PlainOrigins) (c : Circuit) (a b : List Area) (v : Drawn) → AddsRegions a b → IsJoinedOf x ds o c a v → IsJoinedOf x ds o c b v
still_of None ds o c a b v adds h = h
still_of (Some x) ds o c a b v adds h = still_drawing x o ds (length c.nets) a b v adds h

still_in : (xs : List PlainInside) (ds : List Drawing) (o : PlainOrigins) (c : Circuit) (a b : List Area) (v : Drawn) → AddsRegions a b → IsJoinedIn xs ds o c a v → IsJoinedIn xs ds o c b v
still_in xs ds o c a b v adds h = still_of (slice_get xs o.circuit) ds o c a b v adds h

-- what is drawn has its region among the first ones still
pub regions_too : (a b : List Area) (ds : List Drawing) → AddsRegions a b → HaveRegions a ds → HaveRegions b ds
regions_too a b ds adds h circuit device p at = longer a b p.region adds (h circuit device p at)

-- and what is too far by more regions is too far by these
devices_before : (spots : List PlainSpot) (ds : List Drawing) (ms : List Motion) (a b : List Area) → AddsRegions a b → HaveRegions a ds → (parts : List Part)
    → Some_of (IsFarDevice spots ds ms b) parts → Some_of (IsFarDevice spots ds ms a) parts
devices_before spots ds ms a b adds have [] h = h
devices_before spots ds ms a b adds have (c ∷ cs) (inl h) =
    let moved = h.2 in
    inl (h.0, h.1, (moved.0, stood_before a b h.0.region moved.0 adds (have _ _ h.0 h.1) moved.1, moved.2))
devices_before spots ds ms a b adds have (c ∷ cs) (inr h) = inr (devices_before spots ds ms a b adds have cs h)

far_before : (x : PlainInside) (o : PlainOrigins) (ds : List Drawing) (a b : List Area) → AddsRegions a b → HaveRegions a ds → JoinsFar x o ds b → JoinsFar x o ds a
far_before x o ds a b adds have (Spot h) = Spot h
far_before x o ds a b adds have (Net ms moved q t is h) = Net ms moved q t is h
far_before x o ds a b adds have (Call ms moved h) = Call ms moved h
far_before x o ds a b adds have (Device ms moved h) = Device ms moved (devices_before x.spots ds ms a b adds have o.devices h)

pub far_of_before : (x : Option PlainInside) (o : PlainOrigins) (ds : List Drawing) (a b : List Area) → AddsRegions a b → HaveRegions a ds → IsFarOf x ds b o → IsFarOf x ds a o
far_of_before None o ds a b adds have h = h
far_of_before (Some x) o ds a b adds have h = far_before x o ds a b adds have h

module _ (xs : List PlainInside) (ds : List Drawing) where
  -- what is drawn of the circuits that are left stands behind what was drawn before
  abbrev pub JoinsOn : List Area → List PlainOrigins → List Circuit → List Drawn → List PlainOrigins → List Circuit → Type 0
  JoinsOn now os cs out all_os all_cs = (rs : List Area) (vs : List Drawn) → AddsRegions now rs → AreAllJoined xs ds os cs rs vs → AreAllJoined xs ds all_os all_cs rs (out ++ vs)

  pub record JoinedSoFar (old now : List Area) (os : List PlainOrigins) (cs : List Circuit) (out : List Drawing) (all_os : List PlainOrigins) (all_cs : List Circuit) : Type 0 where
    pub added : AddsRegions old now
    pub small_regions : AreSmallRegions now
    pub small : AreAllSmall out
    pub far : HasFarJoined xs os ds old → HasFarJoined xs all_os ds old
    pub goes : JoinsOn now os cs (plain_drawings out) all_os all_cs

  pub joins_next : (now new : List Area) (o : PlainOrigins) (os : List PlainOrigins) (c : Circuit) (cs : List Circuit) (v : Drawn) (out : List Drawn) (all_os : List PlainOrigins) (all_cs : List Circuit)
      → AddsRegions now new → IsJoinedIn xs ds o c new v → JoinsOn now (o ∷ os) (c ∷ cs) out all_os all_cs → JoinsOn new os cs (out ++ v ∷ []) all_os all_cs
  joins_next now new o os c cs v out all_os all_cs added is h rs vs adds l =
      let one = still_in xs ds o c new rs v adds is in
      subst (λ (z : List Drawn). AreAllJoined xs ds all_os all_cs rs z) (sym (append_assoc out (v ∷ []) vs))
      (h rs (v ∷ vs) (added_twice now new rs added adds) (one, l))

  ends : (now : List Area) (out : List Drawn) (all_os : List PlainOrigins) (all_cs : List Circuit) → AreAllJoined xs ds all_os all_cs now (out ++ []) → AreAllJoined xs ds all_os all_cs now out
  ends now out all_os all_cs h = subst (λ (z : List Drawn). AreAllJoined xs ds all_os all_cs now z) (append-nil out) h

  pub joins_end : (now : List Area) (os : List PlainOrigins) (cs : List Circuit) (out : List Drawn) (all_os : List PlainOrigins) (all_cs : List Circuit) → cs ≡ [] → JoinsOn now os cs out all_os all_cs → AreAllJoined xs ds all_os all_cs now out
  joins_end now os cs out all_os all_cs e h =
      ends now out all_os all_cs (h now [] (none_added now) (subst (λ (l : List Circuit). AreAllJoined xs ds os l now []) (sym e) (no_circuits os)))
    where
      no_circuits : (os : List PlainOrigins) → AreAllJoined xs ds os [] now []
      no_circuits [] = refl
      no_circuits (o ∷ os) = refl

  pub joins_short : (now : List Area) (os : List PlainOrigins) (cs : List Circuit) (out : List Drawn) (all_os : List PlainOrigins) (all_cs : List Circuit) → os ≡ [] → JoinsOn now os cs out all_os all_cs → AreAllJoined xs ds all_os all_cs now out
  joins_short now os cs out all_os all_cs e h =
      ends now out all_os all_cs (h now [] (none_added now) (subst (λ (l : List PlainOrigins). AreAllJoined xs ds l cs now []) (sym e) (no_origins cs)))
    where
      no_origins : (cs : List Circuit) → AreAllJoined xs ds [] cs now []
      no_origins [] = refl
      no_origins (c ∷ cs) = refl
