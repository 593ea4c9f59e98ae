-- The written structures as the cells of a layout.
use Rattle.std.proofs.Common.{◌≡◌, ◌↔◌, ℕ, suc, Bool, true, false, cond, List, [], ◌∷◌, map, length, Option, Some, None, slice_get, refl, sym, ap, subst, ◌∙◌}
use Rattle.base_laws.proofs.Items.{map_from, map_to}
use Rattle.std.specs.List.{All, AllByRecursion as ByRecursion}
use Rattle.geo_base.specs.Rects.{IsRect}
use Rattle.geo_base.specs.declared.layer.LayerKey.{LayerKey}
use Rattle.geo_base.specs.declared.shapes.Rect.{Rect}
use Rattle.geo_base.specs.declared.shapes.Square.{Square}
use Rattle.rect_sets.specs.Rects.{CanonicalLaw}
use Rattle.poly_fill.specs.Outlines.{UprightLaw}
use Rattle.flat_layout.specs.Arrays.{place_at}
use Rattle.flat_layout.specs.Layout as flat
use Rattle.flat_layout.specs.Layout.{IsOwn, IsReached, Some_of}
use Rattle.flat_laws.proofs.Cover.{reached_below}
use Rattle.cell_graph.specs.Linked.{Linked, plain, cell_at, places_at, reference}
use Rattle.cell_graph.specs.declared.cells.CellPart.{CellPart}
use Rattle.cell_graph.specs.declared.cells.Place.{Place}
use Rattle.cell_graph.proofs.Bridge.{all_at, placed_of}
use Rattle.gds_elements.specs.Meaning.{Cell, Ref, single}
use Rattle.gds_layout.specs.Shapes.{shapes_cover}
use Rattle.gds_layout.specs.declared.layout.Layout.{Layout}
use Rattle.gds_shapes.specs.Accepted.{cell_read, library_read}
use Rattle.gds_shapes.specs.References.{FitsReference, is_single, reference_read}
use Rattle.rule_text.specs.declared.rules.Output.{Output}
use Rattle.rule_text.specs.Rules.{Rules}
use Rattle.rule_text.specs.Sound.{IsSound}
use Rattle.deep_tables.specs.Layers.{AreLayers, LayerAtLaw}
use Rattle.deep_tables.specs.declared.layers.CellLayers.{CellLayers}
use Rattle.layout_shapes.specs.Writable.{FitsStream, HaveOwnNames, IsWritable}
use Rattle.layout_shapes.specs.Written.{AreReached, drawn, heading_of, line_of, name_of, ref_of, squares_of}
use Rattle.shapes_file.specs.Flat.{AreArrays, HasNoRepeat, IsHierarchyOf, IsNamed}
use Rattle.shapes_file.proofs.Lists.{each_all, once_rising, position}
use Rattle.shapes_file.proofs.Drawn.{array_drawn, cell_drawn, design_drawn}
use Rattle.shapes_file.proofs.Walked.{reached_at, written_at}
use Rattle.shapes_file.proofs.Held.{IsOn, held}
use Rattle.shapes_file.proofs.Outlined.{drawn_covers}

-- ---- structures by their numbers

-- what a cell is read as
abbrev pub structure_of : Layout → Rules → List (Option CellLayers) → ℕ → Cell
structure_of l r table k = cell_read (drawn l r table k)

abbrev pub structures : Layout → Rules → List (Option CellLayers) → List ℕ → List Cell
structures l r table ks = map cell_read (map (drawn l r table) ks)

pub structure_at : (l : Layout) (r : Rules) (table : List (Option CellLayers)) (ks : List ℕ) (i k : ℕ) → slice_get ks i ≡ Some k → slice_get (structures l r table ks) i ≡ Some (structure_of l r table k)
structure_at l r table ks i k at = map_to cell_read (map (drawn l r table) ks) i (drawn l r table k) (map_to (drawn l r table) ks i k at)

pub number_at : (l : Layout) (r : Rules) (table : List (Option CellLayers)) (ks : List ℕ) (i : ℕ) (c : Cell) → slice_get (structures l r table ks) i ≡ Some c → (k : ℕ) × (slice_get ks i ≡ Some k) × (structure_of l r table k ≡ c)
number_at l r table ks i c e =
    let x = map_from cell_read (map (drawn l r table) ks) i c e in
    let k = map_from (drawn l r table) ks i x.0 x.1 in
    (k.0, k.1, ap cell_read k.2 ∙ x.2)

named_at : (l : Layout) (r : Rules) (table : List (Option CellLayers)) (ks : List ℕ) (k : ℕ) → AreReached l.design ks → IsReached (plain l.design) k
    → IsNamed (structures l r table ks) (name_of (cell_at l.design k)) (position ks k)
named_at l r table ks k are reached = record {
  cell = structure_of l r table k;
  there = structure_at l r table ks (position ks k) k (written_at l.design ks k are reached);
  named = refl;
}

once : (l : Layout) (r : Rules) (table : List (Option CellLayers)) (ks : List ℕ) → HaveOwnNames l.design → AreReached l.design ks → HasNoRepeat (structures l r table ks)
once l r table ks names are name i j a b =
    let m = number_at l r table ks i a.cell a.there in
    let n = number_at l r table ks j b.cell b.there in
    let e : name_of (cell_at l.design m.0) ≡ name_of (cell_at l.design n.0) = ap (λ (c : Cell). c.name) m.2 ∙ a.named ∙ sym b.named ∙ sym (ap (λ (c : Cell). c.name) n.2) in
    let same = names m.0 n.0 (reached_at l.design ks i m.0 are m.1) (reached_at l.design ks j n.0 are n.1) e in
    once_rising ks i j n.0 are.ascending (subst (λ (k : ℕ). slice_get ks i ≡ Some k) same m.1) n.1

-- ---- references

read_name : (r : Ref) → (reference_read r).cell ≡ r.cell
read_name r = by_test (is_single r)
  where
    by_test : (b : Bool) → (cond b (single r.cell r.motion) r).cell ≡ r.cell
    by_test true = refl
    by_test false = refl

-- a reference of a reached cell places a reached cell
placed_reached : (l : Layout) (k i : ℕ) (p : Place) → IsWritable l → IsReached (plain l.design) k → slice_get (places_at (cell_at l.design k)) i ≡ Some p → IsReached (plain l.design) p.cell
placed_reached l k i p writable reached = at (cell_at l.design k) refl
  where
    at : (o : Option CellPart) → cell_at l.design k ≡ o → slice_get (places_at o) i ≡ Some p → IsReached (plain l.design) p.cell
    at None e f = absurd (let g : None ≡ Some p = f in let z : ⊥ = cc in z)
    at (Some c) e f =
        let fits = all_at (λ p. FitsReference (ref_of l.design p)) c.places.items i p (writable.each k c e).refs f in
        let here : slice_get (places_at (cell_at l.design k)) i ≡ Some p = subst (λ (o : Option CellPart). slice_get (places_at o) i ≡ Some p) (sym e) f in
        let placed = placed_of l.design k i 0 0 p (record { there = here; row_in = fits.rows.some; column_in = fits.columns.some }) in
        reached_below (plain l.design) k _ (place_at (reference p) 0 0) reached placed

arrays : (cells : List Cell) (d : Linked) (ks : List ℕ) (ps : List Place) → ((i : ℕ) (p : Place) → slice_get ps i ≡ Some p → IsNamed cells (name_of (cell_at d p.cell)) (position ks p.cell))
    → AreArrays cells (map reference_read (map (ref_of d) ps)) (map (array_drawn d ks) ps)
arrays cells d ks [] named = tt
arrays cells d ks (p ∷ ps) named = (
  (position ks p.cell, subst (λ (name : List ℕ). IsNamed cells name (position ks p.cell)) (sym (read_name (ref_of d p))) (named 0 p refl), refl),
  arrays cells d ks ps (λ i x e. named (suc i) x e),
)

-- ---- squares

rects : CanonicalLaw → LayerAtLaw → (d : Linked) (r : Rules) (table : List (Option CellLayers)) (k n : ℕ) (o : Output) → IsSound r → AreLayers (plain d) r table → IsReached (plain d) k → slice_get r.outputs n ≡ Some o
    → All IsRect (line_of table k o).1
rects canonical law d r table k n o sound are reached at =
    let h = held law d r table k n o sound are reached at in
    let list : (line_of table k o).1 ≡ h.rects = ap squares_of h.there in
    subst (λ (rs : List Rect). All IsRect rs) (sym list) (canonical h.rects h.local.canonical)

lines_all : (table : List (Option CellLayers)) (k : ℕ) (os : List Output) → ByRecursion (λ o. All IsRect (line_of table k o).1) os → ByRecursion (λ l. All IsRect l.1) (map (line_of table k) os)
lines_all table k [] h = tt
lines_all table k (o ∷ os) h = (h.0, lines_all table k os h.1)

own : CanonicalLaw → LayerAtLaw → UprightLaw → (l : Layout) (r : Rules) (table : List (Option CellLayers)) (ks : List ℕ) (i k : ℕ) (key : LayerKey) (q : Square) → IsSound r → AreLayers (plain l.design) r table → AreReached l.design ks
    → slice_get ks i ≡ Some k → IsOwn (design_drawn l.design r table ks) i key q ↔ (shapes_cover (structure_of l r table k).shapes key q ≡ true)
own canonical law upright l r table ks i k key q sound are reached at =
    let d = l.design in
    let sound_rects = lines_all table k r.outputs (each_all (λ o. All IsRect (line_of table k o).1) r.outputs (λ n o e. rects canonical law d r table k n o sound are (reached_at d ks i k reached at) e)) in
    let same = drawn_covers upright (map (line_of table k) r.outputs) key q sound_rects in
    let here = map_to (cell_drawn d r table ks) ks i k at in (
      (λ h.
          let c : h.0 ≡ cell_drawn d r table ks k = (let e : Some h.0 ≡ Some (cell_drawn d r table ks k) = sym h.1 ∙ here in cc) in
          let some : Some_of (IsOn key q) (cell_drawn d r table ks k).layers = subst (λ (c : flat.Cell). Some_of (IsOn key q) c.layers) c h.2 in
          same.0 some),
      (λ e. (cell_drawn d r table ks k, here, same.1 e)),
    )

-- ---- the whole

pub hierarchy : CanonicalLaw → LayerAtLaw → UprightLaw → (l : Layout) (r : Rules) (table : List (Option CellLayers)) (ks : List ℕ) → FitsStream l → IsSound r
    → AreLayers (plain l.design) r table → AreReached l.design ks
    → IsHierarchyOf (library_read (heading_of l.header) (map (drawn l r table) ks)) (name_of (cell_at l.design l.design.top)) (design_drawn l.design r table ks)
hierarchy canonical law upright l r table ks fits sound are reached =
    let d = l.design in
    let part : (i : ℕ) (k : ℕ) (f : flat.Cell) → slice_get ks i ≡ Some k → slice_get (map (cell_drawn d r table ks) ks) i ≡ Some f → cell_drawn d r table ks k ≡ f = λ i k f at e. (let g : Some (cell_drawn d r table ks k) ≡ Some f = sym (map_to (cell_drawn d r table ks) ks i k at) ∙ e in cc) in
    record {
      once = once l r table ks fits.names reached;
      count = counts ks;
      names = λ i c f e g.
          let k = number_at l r table ks i c e in
          let p = part i k.0 f k.1 g in
          sym (ap (λ (x : flat.Cell). x.name) p) ∙ ap (λ (x : Cell). x.name) k.2;
      places = λ i c f e g.
          let k = number_at l r table ks i c e in
          let p = part i k.0 f k.1 g in
          let ps = places_at (cell_at d k.0) in
          let all = arrays (structures l r table ks) d ks ps (λ n x h. named_at l r table ks x.cell reached (placed_reached l k.0 n x fits.room (reached_at d ks i k.0 reached k.1) h)) in (
            map (array_drawn d ks) ps,
            subst (λ (x : Cell). AreArrays (structures l r table ks) x.refs (map (array_drawn d ks) ps)) k.2 all,
            sym (ap (λ (x : flat.Cell). x.places) p),
          );
      own = λ i c key q e.
          let k = number_at l r table ks i c e in
          subst (λ (x : Cell). IsOwn (design_drawn d r table ks) i key q ↔ (shapes_cover x.shapes key q ≡ true)) k.2 (own canonical law upright l r table ks i k.0 key q sound are reached k.1);
      top = named_at l r table ks d.top reached (record { path = []; leads = refl });
    }
  where
    counts : (xs : List ℕ) → length (map (cell_drawn l.design r table ks) xs) ≡ length (map cell_read (map (drawn l r table) xs))
    counts [] = refl
    counts (x ∷ xs) = ap suc (counts xs)
