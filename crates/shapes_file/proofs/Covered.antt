-- The written text covers the flat layout.
use Rattle.std.proofs.Common.{◌≡◌, ◌≢◌, ◌↔◌, ℕ, List, [], ◌∷◌, map, Option, Some, slice_get, refl, ap}
use Rattle.std.specs.List.{All, AllByRecursion as ByRecursion}
use Rattle.std.proofs.lemmas.List.Elements.{All-from_recursion}
use Rattle.geo_base.specs.declared.layer.LayerKey.{LayerKey}
use Rattle.geo_base.specs.declared.shapes.Square.{Square}
use Rattle.rect_sets.specs.Rects.{CanonicalLaw}
use Rattle.poly_fill.specs.Outlines.{UprightLaw}
use Rattle.flat_layout.specs.Layers.{InFlat}
use Rattle.flat_layout.specs.Layout.{InFlatInput, IsHeight, IsReached}
use Rattle.flat_laws.specs.LayerLaws.{CoverLaw, TopKeptLaw}
use Rattle.cell_graph.specs.Linked.{Linked, plain, cell_at, height_at}
use Rattle.cell_graph.proofs.Bridge.{all_at}
use Rattle.gds_elements.specs.Meaning.{Cell}
use Rattle.gds_layout.specs.declared.layout.Layout.{Layout}
use Rattle.gds_shapes.specs.Accepted.{cell_read, library_read}
use Rattle.rule_text.specs.declared.rules.Output.{Output}
use Rattle.rule_text.specs.Rules.{Rules}
use Rattle.rule_text.specs.Sound.{IsSound}
use Rattle.deep_tables.specs.Layers.{AreLayers, LayerAtLaw}
use Rattle.deep_tables.specs.declared.layers.CellLayers.{CellLayers}
use Rattle.layout_shapes.specs.Writable.{PlacesLaw}
use Rattle.layout_shapes.specs.Written.{AreReached, drawn, heading_of, name_of}
use Rattle.shapes_file.specs.Flat.{CoversFlatLaw, formula_at}
use Rattle.shapes_file.proofs.Lists.{position}
use Rattle.shapes_file.proofs.Drawn.{design_drawn}
use Rattle.shapes_file.proofs.Walked.{same_placements, walk_down, walk_up, written_at}
use Rattle.shapes_file.proofs.Held.{held, line_down, own_is}
use Rattle.shapes_file.proofs.Hierarchy.{hierarchy}

top_reached : (d : Linked) → IsReached (plain d) d.top
top_reached d = record { path = []; leads = refl }

-- the squares on an output line's layer, seen from the top, are the flat squares of its name
line : CoverLaw → TopKeptLaw → PlacesLaw → LayerAtLaw → (d : Linked) (r : Rules) (table : List (Option CellLayers)) (ks : List ℕ) (k : ℕ) (o : Output) (q : Square) → IsHeight (plain d) (height_at d) → IsSound r
    → AreLayers (plain d) r table → AreReached d ks → slice_get r.outputs k ≡ Some o
    → InFlatInput (design_drawn d r table ks) (position ks d.top) o.key q ↔ InFlat (plain d) d.top (formula_at r o.layer) q
line cover kept places at d r table ks k o q height sound are reached here =
    let x = formula_at r o.layer in
    let covered = cover (plain d) (height_at d) x height (λ cell s in_reach is_kept. (held at d r table cell k o sound are in_reach here).local.parted s is_kept) d.top q (top_reached d) in
    let whole = kept (plain d) (height_at d) x q height in
    let first = written_at d ks d.top reached (top_reached d) in (
      (λ h.
          let w = walk_down places d r table ks h.path (position ks d.top) d.top h.end h.square q reached first h.takes in
          let local = (own_is at d r table ks h.end w.0 k o h.square sound are reached w.1 here).0 h.own in
          whole.0 (covered.0 (record { path = h.path; end = w.0; square = h.square; takes = w.2; here = local }))),
      (λ f.
          let c = covered.1 (whole.1 f) in
          let w = walk_up places d r table ks c.path (position ks d.top) d.top c.end c.square q reached first c.takes in
          record { path = c.path; end = w.0; square = c.square; takes = w.2; own = (own_is at d r table ks w.0 c.end k o c.square sound are reached w.1 here).1 c.here }),
    )

-- on other layers there is none
other : PlacesLaw → (d : Linked) (r : Rules) (table : List (Option CellLayers)) (ks : List ℕ) (key : LayerKey) (q : Square) → AreReached d ks → All (λ o. o.key ≢ key) r.outputs
    → InFlatInput (design_drawn d r table ks) (position ks d.top) key q → ⊥
other places d r table ks key q reached none h =
    let first = written_at d ks d.top reached (top_reached d) in
    let w = walk_down places d r table ks h.path (position ks d.top) d.top h.end h.square q reached first h.takes in
    let on = line_down d r table ks h.end w.0 key h.square w.1 h.own in
    let away : on.line.key ≢ key = all_at (λ o. o.key ≢ key) r.outputs on.number on.line none on.at in
    away on.on_key

names : (l : Layout) (r : Rules) (table : List (Option CellLayers)) (ks : List ℕ) → map (λ (c : Cell). c.name) (map cell_read (map (drawn l r table) ks)) ≡ map (λ k. name_of (cell_at l.design k)) ks
names l r table [] = refl
names l r table (k ∷ ks) = ap (λ (ns : List (List ℕ)). name_of (cell_at l.design k) ∷ ns) (names l r table ks)

texts : (l : Layout) (r : Rules) (table : List (Option CellLayers)) (ks : List ℕ) → All (λ (c : Cell). c.texts ≡ []) (map cell_read (map (drawn l r table) ks))
texts l r table ks = All-from_recursion (λ (c : Cell). c.texts ≡ []) (map cell_read (map (drawn l r table) ks)) (each ks)
  where
    each : (xs : List ℕ) → ByRecursion (λ (c : Cell). c.texts ≡ []) (map cell_read (map (drawn l r table) xs))
    each [] = tt
    each (x ∷ xs) = (refl, each xs)

pub covers_flat : CoverLaw → TopKeptLaw → PlacesLaw → LayerAtLaw → CanonicalLaw → UprightLaw → CoversFlatLaw
covers_flat cover kept places at canonical upright l r text cells rectangles fits sound file =
    let w = file.written in
    let design = design_drawn l.design r file.table w.cells in
    record {
      written = library_read (heading_of l.header) (map (drawn l r file.table) w.cells);
      accepted = w.accepted;
      units = refl;
      cells = w.cells;
      reached = w.reached;
      names = names l r file.table w.cells;
      texts = texts l r file.table w.cells;
      design = design;
      hierarchy = hierarchy canonical at upright l r file.table w.cells fits sound file.layers w.reached;
      placements = λ i k n p at. same_placements places l.design r file.table w.cells i k n p w.reached at;
      held = λ i k there n o here q. own_is at l.design r file.table w.cells i k n o q sound file.layers w.reached there here;
      lines = λ k o here q. line cover kept places at l.design r file.table w.cells k o q fits.heights sound file.layers w.reached here;
      others = λ key none q h. other places l.design r file.table w.cells key q w.reached none h;
    }
