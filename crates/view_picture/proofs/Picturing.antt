-- What is drawn of circuits stays right while regions are added.
use Rattle.std.proofs.Common.{◌≡◌, ℕ, zero, suc, arith, List, [], ◌∷◌, ◌++◌, Option, Some, None, refl, subst, sym, append_assoc, append-nil}
use Rattle.deep_tables.specs.Circuits.{value_of}
use Rattle.deep_tables.specs.Entries.{entry}
use Rattle.flat_layout.specs.Nets.{Tables}
use Rattle.plain_netlist.specs.Netlist.{Circuit}
use Rattle.view_drawing.proofs.Placing.{added_twice, none_added, still_places}
use Rattle.view_drawing.specs.Devices.{AddsRegions, Area, AreSmallRegions, good_of}
use Rattle.view_drawing.specs.Drawn.{IsCellDrawn, items_in}
use Rattle.view_drawing.specs.declared.source.Source.{Source}
use Rattle.view_labels.specs.Labels.{shown_cell}
use Rattle.view_shapes.specs.ReadLaws.{Called}
use Rattle.view_netlist.specs.Drawing.{AreAllSmall, Drawn}
use Rattle.view_netlist.specs.declared.drawing.Drawing.{Drawing}
use Rattle.view_file.specs.declared.regions.Region.{Region}
use Rattle.view_words.specs.Numbers.{IsSmallRect}
use Rattle.std.specs.List.{All}
use Rattle.view_picture.specs.Picture.{shown_area, shown_areas, AreAllDrawn, plain_drawings, IsDrawnAs, IsDrawnIn, IsDrawnOf, Cell, Other}

still_cell : (s : Source) (t : Tables) (called : Called) (cell : ℕ) (c : Circuit) (a b : List Area) (v : Drawn) → AddsRegions a b → IsCellDrawn s t called cell c a v → IsCellDrawn s t called cell c b v
still_cell s t called cell c a b v h l = record {
  hull = l.hull;
  count = l.count;
  nets = l.nets;
  devices = still_places a b (good_of (items_in (entry s.gates.now cell))) c.devices v.devices h l.devices;
  calls = l.calls;
}

still_as : (s : Source) (t : Tables) (called : Called) (shown : List ℕ) (cell : ℕ) (left c : Circuit) (a b : List Area) (v : Drawn) → AddsRegions a b → IsDrawnAs s t called shown cell left c a v → IsDrawnAs s t called shown cell left c b v
still_as s t called shown cell left c a b v h (Other o e) = Other o e
still_as s t called shown cell left c a b v h (Cell r w is places e) = Cell r w (still_cell s t called cell c a b w h is) places e

still_of : (s : Source) (t : Tables) (called : Called) (shown : List ℕ) (cell : ℕ) (found : Option Circuit) (left : Circuit) (a b : List Area) (v : Drawn) → AddsRegions a b → IsDrawnOf s t called shown cell found left a v → IsDrawnOf s t called shown cell found left b v
still_of s t called shown cell None left a b v h e = e
still_of s t called shown cell (Some c) left a b v h e = still_as s t called shown cell left c a b v h e

still_in : (s : Source) (t : Tables) (called : Called) (shown : List ℕ) (cell : Option ℕ) (left : Circuit) (a b : List Area) (v : Drawn) → AddsRegions a b → IsDrawnIn s t called shown cell left a v → IsDrawnIn s t called shown cell left b v
still_in s t called shown None left a b v h e = e
still_in s t called shown (Some cell) left a b v h e = still_of s t called shown cell (value_of s.circuits.now cell).circuit left a b v h e

-- what is drawn of the circuits that are left stands behind what was drawn before
abbrev pub Goes : Source → Tables → Called → List ℕ → List (List ℕ) → List ℕ → List Area → List Circuit → List Drawn → List Circuit → Type 0
Goes s t called cells texts shown now rest out all = (rs : List Area) (vs : List Drawn) → AddsRegions now rs → AreAllDrawn s t called cells texts shown rest rs vs → AreAllDrawn s t called cells texts shown all rs (out ++ vs)

pub goes_none : (s : Source) (t : Tables) (called : Called) (cells : List ℕ) (texts : List (List ℕ)) (shown : List ℕ) (now : List Area) (all : List Circuit) → Goes s t called cells texts shown now all [] all
goes_none s t called cells texts shown now all rs vs a h = h

pub goes_on : (s : Source) (t : Tables) (called : Called) (cells : List ℕ) (texts : List (List ℕ)) (shown : List ℕ) (now new : List Area) (c : Circuit) (rest : List Circuit) (v : Drawn) (out : List Drawn) (all : List Circuit)
    → AddsRegions now new → IsDrawnIn s t called shown (shown_cell cells texts c) c new v
    → Goes s t called cells texts shown now (c ∷ rest) out all → Goes s t called cells texts shown new rest (out ++ v ∷ []) all
goes_on s t called cells texts shown now new c rest v out all added is h rs vs a l =
    let one = still_in s t called shown (shown_cell cells texts c) c new rs v a is in
    subst (λ (l : List Drawn). AreAllDrawn s t called cells texts shown all rs l) (sym (append_assoc out (v ∷ []) vs))
    (h rs (v ∷ vs) (added_twice now new rs added a) (one, l))

pub goes_end : (s : Source) (t : Tables) (called : Called) (cells : List ℕ) (texts : List (List ℕ)) (shown : List ℕ) (now : List Area) (rest : List Circuit) (out : List Drawn) (all : List Circuit)
    → rest ≡ [] → Goes s t called cells texts shown now rest out all → AreAllDrawn s t called cells texts shown all now out
goes_end s t called cells texts shown now rest out all e h =
    subst (λ (l : List Drawn). AreAllDrawn s t called cells texts shown all now l) (append-nil out)
    (h now [] (none_added now) (subst (λ (l : List Circuit). AreAllDrawn s t called cells texts shown l now []) (sym e) refl))

pub record DrawnSoFar (s : Source) (t : Tables) (called : Called) (cells : List ℕ) (texts : List (List ℕ)) (shown : List ℕ) (old now : List Area) (rest : List Circuit) (out : List Drawing) (all : List Circuit) : Type 0 where
  pub added : AddsRegions old now
  pub small_regions : AreSmallRegions old → AreSmallRegions now
  pub small : AreAllSmall out
  pub goes : Goes s t called cells texts shown now rest (plain_drawings out) all

-- the rectangles of a picture's regions reach less than 2^30 from the origin
pub small_areas : (rs : List Region) → AreSmallRegions (shown_areas rs) → All (λ (r : Region). All IsSmallRect r.rects.items) rs
small_areas [] h k d lt = absurd (omega arith)
small_areas (r ∷ rs) h zero d lt = h zero (shown_area d) (omega arith)
small_areas (r ∷ rs) h (suc k) d lt = small_areas rs (λ j e near. h (suc j) e (omega (arith, near))) k d (omega (arith, lt))

pub none_small : (rs : List Area) → rs ≡ [] → AreSmallRegions rs
none_small [] e k d lt = absurd (omega arith)
none_small (r ∷ rs) e k d lt = absurd cc
