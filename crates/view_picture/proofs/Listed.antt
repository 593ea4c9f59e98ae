-- Devices that are drawn have their regions in the list.
use Rattle.std.proofs.Common.{◌≡◌, ◌<◌, ℕ, zero, suc, List, [], ◌∷◌, Option, Some, None, get_or, length, map, slice_get, subst, sym}
use Rattle.std.proofs.lemmas.Option.{none-some, same_Some, slice_get_within}
use Rattle.deep_tables.specs.Circuits.{value_of}
use Rattle.deep_tables.specs.Entries.{entry}
use Rattle.deep_tables.specs.declared.gates.Gate.{Gate}
use Rattle.device_merge.specs.Parts.{places_of}
use Rattle.flat_layout.specs.Nets.{Tables}
use Rattle.merge_laws.specs.Grouped.{groups}
use Rattle.plain_netlist.specs.Netlist.{Circuit, DeviceRow}
use Rattle.view_drawing.specs.Devices.{Area, ArePlaces, good_of}
use Rattle.view_drawing.specs.Drawn.{items_in}
use Rattle.view_drawing.specs.declared.source.Source.{Source}
use Rattle.view_joined.specs.Devices.{HaveRegions}
use Rattle.view_labels.specs.Labels.{shown_cell}
use Rattle.view_shapes.specs.ReadLaws.{Called}
use Rattle.view_netlist.specs.Drawing.{Drawn, blank}
use Rattle.view_netlist.specs.declared.drawing.DevicePlace.{DevicePlace}
use Rattle.view_netlist.specs.declared.drawing.Drawing.{Drawing}
use Rattle.view_picture.specs.Picture.{AreAllDrawn, IsDrawnAs, IsDrawnIn, IsDrawnOf, Cell, Other, plain_drawings}
use Rattle.view_picture.specs.Parts.{AreDevicePlaces, Merged, Others, Same, before, first_place, first_places}

abbrev Listed : List Area → Drawn → Type 0
Listed areas v = (j : ℕ) (p : DevicePlace) → slice_get v.devices j ≡ Some p → p.region < length areas

none_at : {A : Type 0} (j : ℕ) (x : A) → slice_get [] j ≡ Some x → ⊥
none_at j x e = none-some x e

nothing : (areas : List Area) (v : Drawn) → v ≡ blank → Listed areas v
nothing areas v e j p at = absurd (none_at j p (subst (λ (w : Drawn). slice_get w.devices j ≡ Some p) e at))

placed : (areas : List Area) (gates : List Gate) (rows : List DeviceRow) (ps : List DevicePlace) → ArePlaces areas gates rows ps → (j : ℕ) (p : DevicePlace) → slice_get ps j ≡ Some p → p.region < length areas
placed areas [] rows ps h j p at = absurd (none_at j p (subst (λ (l : List DevicePlace). slice_get l j ≡ Some p) h at))
placed areas (g ∷ gs) [] ps h j p at = absurd (none_at j p (subst (λ (l : List DevicePlace). slice_get l j ≡ Some p) h at))
placed areas (g ∷ gs) (r ∷ rs) [] h j p at = absurd h
placed areas (g ∷ gs) (r ∷ rs) (q ∷ ps) h zero p at =
    subst (λ (z : DevicePlace). z.region < length areas) (same_Some q p at) (slice_get_within areas q.region _ h.0.region)
placed areas (g ∷ gs) (r ∷ rs) (q ∷ ps) h (suc j) p at = placed areas gs rs ps h.1 j p at

-- the places of the first of lists are among all
abbrev HaveListed : List Area → List DevicePlace → Type 0
HaveListed areas ps = (j : ℕ) (p : DevicePlace) → slice_get ps j ≡ Some p → p.region < length areas

one_of : (areas : List Area) (all : List DevicePlace) (ks : List ℕ) (p : DevicePlace) → HaveListed areas all → first_place all ks ≡ Some p → p.region < length areas
one_of areas all [] p h at = absurd (let z : ⊥ = cc in z)
one_of areas all (k ∷ ks) p h at = h k p at

before_of : (areas : List Area) (o : Option DevicePlace) (ps : List DevicePlace) → ((p : DevicePlace) → o ≡ Some p → p.region < length areas) → HaveListed areas ps → HaveListed areas (before o ps)
before_of areas None ps f h j p at = absurd (none_at j p at)
before_of areas (Some q) ps f h zero p at = f p (let e : q ≡ p = same_Some q p at in cc)
before_of areas (Some q) ps f h (suc j) p at = h j p at

firsts_of : (areas : List Area) (all : List DevicePlace) (lists : List (List ℕ)) → HaveListed areas all → HaveListed areas (first_places all lists)
firsts_of areas all [] h = λ j p at. absurd (none_at j p at)
firsts_of areas all (ks ∷ more) h = before_of areas (first_place all ks) (first_places all more) (λ p e. one_of areas all ks p h e) (firsts_of areas all more h)

chosen : (areas : List Area) (rows others : List DeviceRow) (all places : List DevicePlace) → HaveListed areas all → AreDevicePlaces rows others all places → HaveListed areas places
chosen areas rows others all places h (Same e is) = subst (HaveListed areas) (sym is) h
chosen areas rows others all places h (Merged e is) = subst (HaveListed areas) (sym is) (firsts_of areas all (map places_of (groups others)) h)
chosen areas rows others all places h (Others e f is) = λ j p at. absurd (none_at j p (subst (λ (l : List DevicePlace). slice_get l j ≡ Some p) is at))

of_as : (s : Source) (t : Tables) (called : Called) (shown : List ℕ) (cell : ℕ) (left c : Circuit) (areas : List Area) (v : Drawn) → IsDrawnAs s t called shown cell left c areas v → Listed areas v
of_as s t called shown cell left c areas v (Other o e) = nothing areas v e
of_as s t called shown cell left c areas v (Cell r w is places e) = chosen areas left.devices c.devices w.devices v.devices (placed areas (good_of (items_in (entry s.gates.now cell))) c.devices w.devices is.devices) places

of_found : (s : Source) (t : Tables) (called : Called) (shown : List ℕ) (cell : ℕ) (found : Option Circuit) (left : Circuit) (areas : List Area) (v : Drawn) → IsDrawnOf s t called shown cell found left areas v → Listed areas v
of_found s t called shown cell None left areas v h = nothing areas v h
of_found s t called shown cell (Some c) left areas v h = of_as s t called shown cell left c areas v h

of_in : (s : Source) (t : Tables) (called : Called) (shown : List ℕ) (cell : Option ℕ) (left : Circuit) (areas : List Area) (v : Drawn) → IsDrawnIn s t called shown cell left areas v → Listed areas v
of_in s t called shown None left areas v h = nothing areas v h
of_in s t called shown (Some cell) left areas v h = of_found s t called shown cell (value_of s.circuits.now cell).circuit left areas v h

of_all : (s : Source) (t : Tables) (called : Called) (cells : List ℕ) (texts : List (List ℕ)) (shown : List ℕ) (cs : List Circuit) (areas : List Area) (vs : List Drawn)
    → AreAllDrawn s t called cells texts shown cs areas vs → (k : ℕ) → Listed areas (get_or vs k blank)
of_all s t called cells texts shown [] areas [] h k = no_drawing k
  where
    no_drawing : (n : ℕ) → Listed areas (get_or [] n blank)
    no_drawing zero = λ j p at. absurd (none_at j p at)
    no_drawing (suc n) = λ j p at. absurd (none_at j p at)
of_all s t called cells texts shown [] areas (v ∷ vs) h k = absurd cc
of_all s t called cells texts shown (c ∷ cs) areas [] h k = absurd h
of_all s t called cells texts shown (c ∷ cs) areas (v ∷ vs) h zero = of_in s t called shown (shown_cell cells texts c) c areas v h.0
of_all s t called cells texts shown (c ∷ cs) areas (v ∷ vs) h (suc k) = of_all s t called cells texts shown cs areas vs h.1 k

pub regions_listed : (s : Source) (t : Tables) (called : Called) (cells : List ℕ) (texts : List (List ℕ)) (shown : List ℕ) (cs : List Circuit) (areas : List Area) (ds : List Drawing)
    → AreAllDrawn s t called cells texts shown cs areas (plain_drawings ds) → HaveRegions areas ds
regions_listed s t called cells texts shown cs areas ds h circuit device p at = of_all s t called cells texts shown cs areas (plain_drawings ds) h circuit device p at
