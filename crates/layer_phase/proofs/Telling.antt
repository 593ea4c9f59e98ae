-- A right table tells what placed cells keep.
use Rattle.std.proofs.Common.{◌≡◌, ◌↔◌, ℕ, false, List, Option, Some, sym, ◌∙◌, ap, subst, slice_get}
use Rattle.geo_base.specs.declared.shapes.Rect.{Rect}
use Rattle.geo_base.specs.Motions.{moved_square}
use Rattle.geo_base.specs.declared.shapes.Square.{Square}
use Rattle.rect_sets.specs.Rects.{covers, IsCanonical}
use Rattle.flat_layout.specs.Arrays.{place_at}
use Rattle.flat_layout.specs.Layers.{Formula, inputs, reach, IsCalmAt}
use Rattle.flat_layout.specs.Layout as flat
use Rattle.flat_layout.specs.Layout.{IsReached}
use Rattle.flat_laws.proofs.Cover.{reached_below}
use Rattle.cell_graph.specs.declared.cells.Place.{Place}
use Rattle.cell_graph.specs.Linked.{Linked, IsStep, hull_of, cell_at, plain, reference}
use Rattle.cell_graph.proofs.Bridge.{hull_sound, step_of, placed_of}
use Rattle.deep_tables.specs.declared.zones.CellZones.{CellZones}
use Rattle.deep_tables.specs.Frames.{IsFramedOpen, IsInGrown}
use Rattle.deep_tables.proofs.Framing.{framed_open}
use Rattle.deep_tables.proofs.Reading.{zone_at, zone_entry}
use Rattle.deep_tables.specs.Zones.{AreZones}
use Rattle.rule_layers.specs.Formulas.{formulas, zone_margin}
use Rattle.rule_text.specs.Rules.{Rules}
use Rattle.layer_phase.specs.Around.{around}
use Rattle.layer_phase.specs.Parts.{IsFromCalmHull}
use Rattle.layer_phase.specs.Keeps.{HaveEntries, IsKeptBy, IsZoneAt}
use Rattle.layer_phase.specs.Bridge.{KeptLaw}
use Rattle.layer_phase.proofs.Around.{rects_of}
use Rattle.layer_phase.proofs.Stirring.{calm_around}

reached_step : (d : Linked) (cell i row column : ℕ) (p : Place) → IsReached (plain d) cell → IsStep d cell i row column p → IsReached (plain d) p.cell
reached_step d cell i row column p reached step = reached_below (plain d) cell _ (place_at (reference p) row column) reached (placed_of d cell i row column p step)

one_entry : (z : List (Option CellZones)) (cell name : ℕ) (v w : List Rect) → IsZoneAt z cell name v → IsZoneAt z cell name w → v ≡ w
one_entry z cell name v w h g = let e : Some v ≡ Some w = sym h ∙ g in cc

-- a right table has the entries of all placed cells for each name
pub entries : (d : Linked) (r : Rules) (z : List (Option CellZones)) (x : Formula) (cell name : ℕ) → AreZones (plain d) r z → IsReached (plain d) cell → slice_get (formulas r.names) name ≡ Some x → HaveEntries d z cell name
entries d r z x cell name right reached named i row column p step = zone_entry (plain d) r z p.cell name x right (reached_step d cell i row column p reached step) named

pub kept : KeptLaw
kept d r z x cell name sound hulls right reached named asked twice = record {
  entries = λ i row column p step. let e = at p.cell (reached_step d cell i row column p reached step) in (e.0, e.1);
  zones = λ k p placed. let e = at p.cell (reached_below (plain d) cell k p reached placed) in (e.0, e.2, e.3);
  kept = λ q. (to q, from q);
}
  where
    at : (e : ℕ) → IsReached (plain d) e → (zone : List Rect) × IsZoneAt z e name zone × IsFramedOpen (zone_margin r.names) d (inputs x) e zone × IsCanonical zone
    at e there =
        let h = zone_at (plain d) r z e name x right there named asked in
        (h.0, h.1, (framed_open d (inputs x) (zone_margin r.names) e h.0 (hulls e there) h.2.canonical).0 h.2, h.2.canonical)

    calm_by : (e : ℕ) (zone : List Rect) (s : Square) → IsFramedOpen (zone_margin r.names) d (inputs x) e zone → IsCanonical zone → IsInGrown (reach x) (hull_of (cell_at d e)) s
        → (covers (around (reach x) zone) s ≡ false) ↔ IsCalmAt (plain d) (inputs x) (reach x) e s
    calm_by e zone s frame canonical inner = calm_around (reach x) (zone_margin r.names) d (inputs x) e zone s twice frame (rects_of zone canonical) (hull_sound d e sound) inner

    to : (q : Square) → IsKeptBy (reach x) d z cell name q → IsFromCalmHull d x cell q
    to q h =
        let e = at h.from.cell (reached_step d cell h.index h.row h.column h.from reached h.step) in
        let same : e.0 ≡ h.entry = one_entry z h.from.cell name e.0 h.entry e.1 h.at in
        let off : covers (around (reach x) e.0) h.square ≡ false = subst (λ (v : List Rect). covers (around (reach x) v) h.square ≡ false) (sym same) h.off in
        let is = calm_by h.from.cell e.0 h.square e.2 e.3 h.held in
        record {
          number = _;
          place = place_at (reference h.from) h.row h.column;
          square = h.square;
          placed = placed_of d cell h.index h.row h.column h.from h.step;
          held = h.held;
          calm = is.0 off;
          image = h.image;
        }

    from : (q : Square) → IsFromCalmHull d x cell q → IsKeptBy (reach x) d z cell name q
    from q h =
        let t = step_of d cell h.number h.place h.placed in
        let e = at t.from.cell (reached_step d cell t.index t.row t.column t.from reached t.step) in
        let calm : IsCalmAt (plain d) (inputs x) (reach x) t.from.cell h.square = subst (λ (y : flat.Place). IsCalmAt (plain d) (inputs x) (reach x) y.cell h.square) t.is h.calm in
        let held : IsInGrown (reach x) (hull_of (cell_at d t.from.cell)) h.square = subst (λ (y : flat.Place). IsInGrown (reach x) (hull_of (cell_at d y.cell)) h.square) t.is h.held in
        let is = calm_by t.from.cell e.0 h.square e.2 e.3 held in
        record {
          index = t.index;
          row = t.row;
          column = t.column;
          from = t.from;
          step = t.step;
          square = h.square;
          held = held;
          entry = e.0;
          at = e.1;
          off = is.1 calm;
          image = ap (λ (y : flat.Place). moved_square y.motion h.square) (sym t.is) ∙ h.image;
        }
