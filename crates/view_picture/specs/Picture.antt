-- What is drawn of a layout's circuits as they are compared.
use Rattle.std.specs.Prelude.{◌≡◌, ℕ, List, [], ◌∷◌, Option, Some, None, length, map, slice_get}
use Rattle.cell_graph.specs.Linked.{Linked, plain}
use Rattle.deep_tables.specs.Circuits.{value_of}
use Rattle.deep_tables.specs.Nets.{AreRightNets}
use Rattle.flat_layout.specs.Layout.{IsReached}
use Rattle.flat_layout.specs.Nets.{Tables}
use Rattle.part_origins.specs.Inside.{PlainInside}
use Rattle.part_origins.specs.Made.{AllOrigins, PlainOrigins}
use Rattle.plain_netlist.specs.Netlist.{Circuit}
use Rattle.rule_layers.specs.Meaning.{wiring_of}
use Rattle.rule_text.specs.Seen.{rules_seen}
use Rattle.rule_text.specs.declared.rules.LayerRule.{LayerRule}
use Rattle.spice_text.specs.Needs.{first_seen}
use Rattle.view_drawing.specs.Devices.{Area, areas_of}
use Rattle.view_drawing.specs.Drawn.{AreAllThere, AreListsOf, IsCellDrawn, listed_tables}
use Rattle.view_drawing.specs.declared.source.Source.{Source}
use Rattle.view_file.specs.Regions.{class_in}
use Rattle.view_file.specs.declared.layout.Picture.{Picture}
use Rattle.view_file.specs.declared.regions.Region.{Region}
use Rattle.view_joined.specs.Joined.{IsJoinedDrawing}
use Rattle.view_shapes.specs.ReadLaws.{Called}
use Rattle.view_netlist.specs.Drawing.{Drawn, blank, plain_drawing}
use Rattle.view_netlist.specs.declared.drawing.DevicePlace.{DevicePlace}
use Rattle.view_netlist.specs.declared.drawing.Drawing.{Drawing}
use Rattle.view_labels.specs.Labels.{labels_of, layer_names, numbers_of, shown_cell}
use Rattle.view_labels.specs.Same.{AreSameRows}
use Rattle.view_picture.specs.Parts.{AreDevicePlaces}
use Rattle.view_picture.specs.declared.drawings.Given.{Given}
use Rattle.view_picture.specs.declared.drawings.Sketch.{Sketch}

-- the same with its devices at other places
abbrev pub with_devices : List DevicePlace → Drawn → Drawn
with_devices places v =
    record { hull = v.hull; nets = v.nets; devices = places; calls = v.calls }

-- what is drawn of a circuit whose cell has this one: nothing, unless it has its rows; then all of
-- the cell, with the places of the circuit's own devices
pub data IsDrawnAs (s : Source) (t : Tables) (called : Called) (shown : List ℕ) (cell : ℕ)
    (left c : Circuit) (areas : List Area) (v : Drawn) : Type 0 where
  Other : (AreSameRows shown left c → ⊥) → v ≡ blank
      → IsDrawnAs s t called shown cell left c areas v
  Cell : AreSameRows shown left c → (w : Drawn) → IsCellDrawn s t called cell c areas w
      → AreDevicePlaces left.devices c.devices w.devices v.devices
      → v ≡ with_devices v.devices w → IsDrawnAs s t called shown cell left c areas v

-- the same of a cell that may have no circuit
abbrev pub IsDrawnOf : Source → Tables → Called → List ℕ → ℕ → Option Circuit → Circuit
    → List Area → Drawn → Type 0
IsDrawnOf s t called shown cell None left areas v = v ≡ blank
IsDrawnOf s t called shown cell (Some c) left areas v =
    IsDrawnAs s t called shown cell left c areas v

-- of a circuit without a cell nothing is drawn
abbrev pub IsDrawnIn : Source → Tables → Called → List ℕ → Option ℕ → Circuit → List Area → Drawn
    → Type 0
IsDrawnIn s t called shown None left areas v = v ≡ blank
IsDrawnIn s t called shown (Some cell) left areas v =
    IsDrawnOf s t called shown cell (value_of s.circuits.now cell).circuit left areas v

-- each of these circuits by its cell
abbrev pub AreAllDrawn : Source → Tables → Called → List ℕ → List (List ℕ) → List ℕ → List Circuit
    → List Area → List Drawn → Type 0
AreAllDrawn s t called cells texts shown [] areas vs = vs ≡ []
AreAllDrawn s t called cells texts shown (c ∷ cs) areas [] = ⊥
AreAllDrawn s t called cells texts shown (c ∷ cs) areas (v ∷ vs) =
    IsDrawnIn s t called shown (shown_cell cells texts c) c areas v
    × AreAllDrawn s t called cells texts shown cs areas vs

-- of an aligned circuit the joined drawing of the circuits inside it; nothing of one from none
abbrev pub IsJoinedOf : Option PlainInside → List Drawing → PlainOrigins → Circuit → List Area
    → Drawn → Type 0
IsJoinedOf None ds o c areas v = v ≡ blank
IsJoinedOf (Some x) ds o c areas v = IsJoinedDrawing x o ds (length c.nets) areas v

abbrev pub IsJoinedIn : List PlainInside → List Drawing → PlainOrigins → Circuit → List Area → Drawn
    → Type 0
IsJoinedIn xs ds o c areas v = IsJoinedOf (slice_get xs o.circuit) ds o c areas v

-- each of these aligned circuits by its origins, as far as there are any
abbrev pub AreAllJoined : List PlainInside → List Drawing → List PlainOrigins → List Circuit
    → List Area → List Drawn → Type 0
AreAllJoined xs ds os [] areas vs = vs ≡ []
AreAllJoined xs ds [] (c ∷ cs) areas vs = vs ≡ []
AreAllJoined xs ds (o ∷ os) (c ∷ cs) areas [] = ⊥
AreAllJoined xs ds (o ∷ os) (c ∷ cs) areas (v ∷ vs) =
    IsJoinedIn xs ds o c areas v × AreAllJoined xs ds os cs areas vs

-- what is drawn of a circuit that is answered as another one, with as many nets and calls: all of
-- it, with the places of the other's devices
pub record IsPlacedAs (answered left : Circuit) (d v : Drawn) : Type 0 where
  pub places : AreDevicePlaces answered.devices left.devices d.devices v.devices
  pub rest : v ≡ with_devices v.devices d

-- so of each of these circuits, as far as something is drawn
abbrev pub AreAllPlaced : List Circuit → List Circuit → List Drawn → List Drawn → Type 0
AreAllPlaced answered lefts [] vs = vs ≡ []
AreAllPlaced [] lefts (d ∷ ds) vs = vs ≡ []
AreAllPlaced (a ∷ ms) [] (d ∷ ds) vs = vs ≡ []
AreAllPlaced (a ∷ ms) (c ∷ cs) (d ∷ ds) [] = ⊥
AreAllPlaced (a ∷ ms) (c ∷ cs) (d ∷ ds) (v ∷ vs) =
    IsPlacedAs a c d v × AreAllPlaced ms cs ds vs

-- the regions of a picture
abbrev pub shown_area : Region → Area
shown_area r = record { class = class_in r; rects = r.rects.items }

abbrev pub shown_areas : List Region → List Area
shown_areas regions = map shown_area regions

abbrev pub plain_drawings : List Drawing → List Drawn
plain_drawings ds = map plain_drawing ds

-- what is drawn of each circuit of a netlist by its cell; these are the names of the cells' circuits
pub record AreDrawn (s : Source) (t : Tables) (called : Called) (cells : List ℕ)
    (names : List (List ℕ)) (written : List Circuit) (v : Sketch) : Type 0 where
  pub by_cells : AreAllDrawn s t called cells (first_seen [] names)
      (numbers_of (first_seen [] names) written) written (areas_of v.regions.regions.items)
      (plain_drawings v.drawings.items)

-- the names of layers and circuits, and what is drawn of each aligned circuit, joined from what is
-- drawn of the circuits that were aligned
pub record IsJoinedPicture (d : Linked) (rules : List LayerRule) (cells : List ℕ)
    (names : List (List ℕ)) (drawn : List Drawing) (o : AllOrigins) (lefts : List Circuit)
    (p : Picture) : Type 0 where
  pub layers : p.names.layers.items ≡ layer_names rules
  pub circuits : p.names.circuits.items ≡ labels_of d cells (first_seen [] names) lefts
  pub drawings : AreAllJoined o.insides drawn o.circuits lefts (shown_areas p.regions.items)
      (plain_drawings p.drawings.items)

-- the picture of aligned circuits, joined from what is drawn of the written ones by their cells
pub record IsPicture (s : Source) (t : Tables) (called : Called) (cells : List ℕ)
    (names : List (List ℕ)) (written : List Circuit) (o : AllOrigins) (lefts : List Circuit)
    (p : Picture) : Type 0 where
  pub sketch : Sketch
  pub drawn : AreDrawn s t called cells names written sketch
  pub joined : IsJoinedPicture s.design.now s.rules.now.names.items cells names
      sketch.drawings.items o lefts p

-- a cell that the top reaches
abbrev pub IsReachedIn : Given → ℕ → Type 0
IsReachedIn g cell = IsReached (plain g.source.design.now) cell

-- the lists are those of right tables, and the cells are reached
pub record IsDrawable (g : Given) : Type 0 where
  pub right : AreRightNets (plain g.source.design.now)
      (wiring_of (rules_seen g.source.rules.now)) (listed_tables g.lists.now)
  pub entries : AreAllThere g.source
  pub lists : AreListsOf g.source g.lists.now
  pub cells : (k cell : ℕ) → slice_get g.cells.now k ≡ Some cell → IsReachedIn g cell

-- the picture of aligned circuits as they are answered: the same with the places of their devices
pub record IsAnsweredPicture (answered lefts : List Circuit) (p q : Picture) : Type 0 where
  pub names : q.names ≡ p.names
  pub regions : q.regions ≡ p.regions
  pub drawings : AreAllPlaced answered lefts (plain_drawings p.drawings.items)
      (plain_drawings q.drawings.items)
