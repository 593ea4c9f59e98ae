-- The written cells as cells of a layout, with the numbers that they have in the text.
use Rattle.std.proofs.Common.{◌≡◌, ℕ, zero, suc, List, [], ◌∷◌, ◌++◌, map, Option, Some, None, slice_get, refl, sym, ap, ap₂, subst, ◌∙◌}
use Rattle.base_laws.proofs.Items.{map_from, map_to}
use Rattle.std.proofs.lemmas.List.{map-append, append-nil}
use Rattle.geo_base.specs.declared.layer.LayerKey.{LayerKey}
use Rattle.geo_base.specs.declared.shapes.Rect.{Rect}
use Rattle.flat_layout.specs.Arrays.{Reference, place_at, row_places, array_places, places_of}
use Rattle.flat_layout.specs.Layout as flat
use Rattle.flat_layout.specs.Layout.{IsPlaced}
use Rattle.flat_layout.specs.declared.way.Way.TheVariants.{Disturbed}
use Rattle.gds_elements.specs.Meaning.{Ref}
use Rattle.gds_shapes.specs.References.{reference_read}
use Rattle.cell_graph.specs.Linked.{Linked, plain, plain_cell, cell_at, places_at, reference}
use Rattle.cell_graph.specs.declared.cells.CellPart.{CellPart}
use Rattle.cell_graph.specs.declared.cells.Place.{Place}
use Rattle.cell_graph.proofs.Bridge.{part_of}
use Rattle.rule_text.specs.Rules.{Rules}
use Rattle.deep_tables.specs.declared.layers.CellLayers.{CellLayers}
use Rattle.layout_shapes.specs.Writable.{PlacesLaw, placing}
use Rattle.layout_shapes.specs.Written.{line_of, name_of, ref_of}
use Rattle.shapes_file.proofs.Lists.{position}

-- ---- the design

abbrev pub layer_drawn : LayerKey × List Rect → flat.Layer
layer_drawn l = record { key = l.0; rects = l.1 }

-- a reference that was read, by the number that its cell has among those written
abbrev pub array_drawn : Linked → List ℕ → Place → Reference
array_drawn d ks p = placing (position ks p.cell) (reference_read (ref_of d p))

abbrev pub cell_drawn : Linked → Rules → List (Option CellLayers) → List ℕ → ℕ → flat.Cell
cell_drawn d r table ks k = record {
  name = name_of (cell_at d k);
  layers = map layer_drawn (map (line_of table k) r.outputs);
  texts = [];
  places = places_of (map (array_drawn d ks) (places_at (cell_at d k)));
}

abbrev pub design_drawn : Linked → Rules → List (Option CellLayers) → List ℕ → flat.Design
design_drawn d r table ks = record { cells = map (cell_drawn d r table ks) ks; top = position ks d.top; way = Disturbed }

-- ---- placements with other numbers

abbrev pub renumbered : List ℕ → flat.Place → flat.Place
renumbered ks p = record { cell = position ks p.cell; motion = p.motion }

row_is : (ks : List ℕ) (c : ℕ) (r : Ref) (row column n : ℕ) → row_places (placing (position ks c) r) row column n ≡ map (renumbered ks) (row_places (placing c r) row column n)
row_is ks c r row column zero = refl
row_is ks c r row column (suc n) = ap (λ (ps : List flat.Place). place_at (placing (position ks c) r) row column ∷ ps) (row_is ks c r row (suc column) n)

array_is : (ks : List ℕ) (c : ℕ) (r : Ref) (row n : ℕ) → array_places (placing (position ks c) r) row n ≡ map (renumbered ks) (array_places (placing c r) row n)
array_is ks c r row zero = refl
array_is ks c r row (suc n) =
    ap₂ (λ (a b : List flat.Place). a ++ b) (row_is ks c r row 0 r.columns) (array_is ks c r (suc row) n)
    ∙ sym (map-append (renumbered ks) (row_places (placing c r) row 0 r.columns) (array_places (placing c r) (suc row) n))

-- the first reference, then the others
apart : (a : Reference) (bs : List Reference) → places_of (a ∷ bs) ≡ places_of (a ∷ []) ++ places_of bs
apart a bs = ap (λ (ps : List flat.Place). ps ++ places_of bs) (sym (append-nil (array_places a 0 a.rows)))

first_is : PlacesLaw → (d : Linked) (ks : List ℕ) (p : Place) → places_of (array_drawn d ks p ∷ []) ≡ map (renumbered ks) (places_of (reference p ∷ []))
first_is law d ks p =
    let r = reference_read (ref_of d p) in
    ap (λ (ps : List flat.Place). ps ++ []) (array_is ks p.cell r 0 r.rows)
    ∙ sym (map-append (renumbered ks) (array_places (placing p.cell r) 0 r.rows) [])
    ∙ ap (map (renumbered ks)) (law d p)

all_are : PlacesLaw → (d : Linked) (ks : List ℕ) (ps : List Place) → places_of (map (array_drawn d ks) ps) ≡ map (renumbered ks) (places_of (map reference ps))
all_are law d ks [] = refl
all_are law d ks (p ∷ ps) =
    apart (array_drawn d ks p) (map (array_drawn d ks) ps)
    ∙ ap₂ (λ (a b : List flat.Place). a ++ b) (first_is law d ks p) (all_are law d ks ps)
    ∙ sym (map-append (renumbered ks) (places_of (reference p ∷ [])) (places_of (map reference ps)))
    ∙ ap (map (renumbered ks)) (sym (apart (reference p) (map reference ps)))

-- ---- the layout's placements and those of the written cells

placed_plain : (d : Linked) (k n : ℕ) (x : flat.Place) → slice_get (places_of (map reference (places_at (cell_at d k)))) n ≡ Some x → IsPlaced (plain d) k n x
placed_plain d k n x = at (cell_at d k) refl
  where
    at : (o : Option CellPart) → cell_at d k ≡ o → slice_get (places_of (map reference (places_at o))) n ≡ Some x → IsPlaced (plain d) k n x
    at None e f = let g : None ≡ Some x = f in absurd (let z : ⊥ = cc in z)
    at (Some c) e f = (plain_cell c, map_to plain_cell d.cells k c e, f)

pub placed_down : PlacesLaw → (d : Linked) (r : Rules) (table : List (Option CellLayers)) (ks : List ℕ) (i k n : ℕ) (p : flat.Place) → slice_get ks i ≡ Some k → IsPlaced (design_drawn d r table ks) i n p
    → (x : flat.Place) × IsPlaced (plain d) k n x × (renumbered ks x ≡ p)
placed_down law d r table ks i k n p at h =
    let here = map_to (cell_drawn d r table ks) ks i k at in
    let same : h.0 ≡ cell_drawn d r table ks k = (let e : Some h.0 ≡ Some (cell_drawn d r table ks k) = sym h.1 ∙ here in cc) in
    let there : slice_get (cell_drawn d r table ks k).places n ≡ Some p = subst (λ (c : flat.Cell). slice_get c.places n ≡ Some p) same h.2 in
    let renamed = subst (λ (ps : List flat.Place). slice_get ps n ≡ Some p) (all_are law d ks (places_at (cell_at d k))) there in
    let m = map_from (renumbered ks) (places_of (map reference (places_at (cell_at d k)))) n p renamed in
    (m.0, placed_plain d k n m.0 m.1, m.2)

pub placed_up : PlacesLaw → (d : Linked) (r : Rules) (table : List (Option CellLayers)) (ks : List ℕ) (i k n : ℕ) (x : flat.Place) → slice_get ks i ≡ Some k → IsPlaced (plain d) k n x
    → IsPlaced (design_drawn d r table ks) i n (renumbered ks x)
placed_up law d r table ks i k n x at h =
    let m = part_of d k h.0 h.1 in
    let places : slice_get (places_of (map reference m.0.places.items)) n ≡ Some x = subst (λ (c : flat.Cell). slice_get c.places n ≡ Some x) (sym m.2) h.2 in
    let there : slice_get (places_of (map reference (places_at (cell_at d k)))) n ≡ Some x = subst (λ (o : Option CellPart). slice_get (places_of (map reference (places_at o))) n ≡ Some x) (sym m.1) places in
    let renamed = map_to (renumbered ks) (places_of (map reference (places_at (cell_at d k)))) n x there in (
      cell_drawn d r table ks k,
      map_to (cell_drawn d r table ks) ks i k at,
      subst (λ (ps : List flat.Place). slice_get ps n ≡ Some (renumbered ks x)) (sym (all_are law d ks (places_at (cell_at d k)))) renamed,
    )
