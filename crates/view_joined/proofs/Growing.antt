-- The places of devices, one after the other, while regions are added.
use Rattle.std.proofs.Common.{inr, ◌≡◌, ◌-◌, ◌≤◌, List, [], ◌∷◌, ◌++◌, length, take, drop, get_or, subst, sym, append_assoc, append-nil, ap, map, arith}
use Rattle.std.proofs.lemmas.List.{take_all}
use Rattle.std.proofs.lemmas.List.Elements.{All-nil, All-push}
use Rattle.flat_layout.specs.Layout.{Some_of}
use Rattle.geo_base.specs.declared.motion.Motion.{Motion}
use Rattle.part_origins.specs.Inside.{PlainSpot}
use Rattle.part_origins.specs.declared.inside.Part.{Part}
use Rattle.view_netlist.specs.Drawing.{AreSmallPlaces, IsSmallPoint}
use Rattle.view_netlist.specs.declared.drawing.DevicePlace.{DevicePlace}
use Rattle.view_netlist.specs.declared.drawing.Drawing.{Drawing}
use Rattle.view_drawing.specs.Devices.{AddsRegions, AreSmallRegions, Area, seen_from}
use Rattle.view_drawing.proofs.Placing.{added_twice, none_added, still_listed}
use Rattle.view_joined.specs.Devices.{AreJoinedDevices, IsFarDevice, IsJoinedDevice, IsMovedPlace, moved_rects}

pub still_moved : (m : Motion) (p q : DevicePlace) (a b : List Area) → AddsRegions a b → IsMovedPlace m p a q → IsMovedPlace m p b q
still_moved m p q a b adds h = record {
  area = h.area;
  of = still_listed a b p.region h.area.class h.area.rects adds h.of;
  at = h.at;
  region = still_listed a b q.region h.area.class (map (seen_from q.at) (moved_rects m p.at h.area.rects)) adds h.region;
}

module _ (spots : List PlainSpot) (drawings : List Drawing) (motions : List Motion) where
  pub record SoFar (old now : List Area) (all : List Part) (out : List DevicePlace) (rest : List Part) : Type 0 where
    pub added : AddsRegions old now
    pub small : AreSmallRegions now
    pub places : AreSmallPlaces out
    pub far : Some_of (IsFarDevice spots drawings motions old) rest → Some_of (IsFarDevice spots drawings motions old) all
    pub then : (new : List Area) → AddsRegions now new → (qs : List DevicePlace) → AreJoinedDevices spots drawings motions new rest qs → AreJoinedDevices spots drawings motions new all (out ++ qs)

  pub begin : (old : List Area) (all : List Part) → AreSmallRegions old → SoFar old old all [] all
  begin old all h = record { added = none_added old; small = h; places = All-nil (λ (p : DevicePlace). IsSmallPoint p.at); far = λ g. g; then = λ new adds qs g. g }

  pub more : (old now next : List Area) (all : List Part) (out : List DevicePlace) (c : Part) (rest : List Part) (q : DevicePlace) → SoFar old now all out (c ∷ rest) → AddsRegions now next → AreSmallRegions next → IsSmallPoint q.at
      → IsJoinedDevice spots drawings motions next c q → SoFar old next all (out ++ q ∷ []) rest
  more old now next all out c rest q h adds small at is = record {
    added = added_twice old now next h.added adds;
    small = small;
    places = All-push (λ (p : DevicePlace). IsSmallPoint p.at) out q h.places at;
    far = λ g. h.far (inr g);
    then = λ new behind qs g.
        subst (λ (z : List DevicePlace). AreJoinedDevices spots drawings motions new all z) (sym (append_assoc out (q ∷ []) qs))
        (h.then new (added_twice now next new adds behind) (q ∷ qs) ((is.0, is.1, still_moved _ is.0 q next new behind is.2), g));
  }

  pub ends : (old now : List Area) (all : List Part) (out : List DevicePlace) (rest : List Part) → SoFar old now all out rest → AreJoinedDevices spots drawings motions now rest [] → AreJoinedDevices spots drawings motions now all out
  ends old now all out rest h last = subst (λ (z : List DevicePlace). AreJoinedDevices spots drawings motions now all z) (append-nil out) (h.then now (none_added now) [] last)

pub first_of : {A : Type 0} (xs : List A) (d : A) → 1 ≤ length xs → xs ≡ get_or xs 0 d ∷ take (length xs - 1) (drop 1 xs)
first_of [] d h = absurd (omega (arith, h))
first_of {A = A} (y ∷ ys) d h =
    let whole : take (length (y ∷ ys) - 1) ys ≡ ys = take_all (length (y ∷ ys) - 1) ys (omega arith) in
    ap (λ (zs : List A). y ∷ zs) (sym whole)
