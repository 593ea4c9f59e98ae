-- What is kept close to a settled gate is what is flat there.
use Rattle.std.proofs.Common.{◌≡◌, ◌↔◌, ℕ, ◌<◌, Bool, true, false, List, Option, Some, None, length, refl, sym, subst}
use Rattle.geo_base.specs.declared.shapes.Rect.{Rect}
use Rattle.geo_base.specs.declared.shapes.Square.{Square}
use Rattle.flat_layout.specs.Gates.{Alone, Beside, Form, Geometry, InGate, IsGateOrRing, IsReadBy, IsSettled, Rule, form_of, gate_sheet, geometry, ground, sheets}
use Rattle.flat_layout.specs.Gates as flat
use Rattle.flat_layout.specs.Parts.{IsCloseTo, Sheets}
use Rattle.flat_layout.specs.Layers.{Formula, InFlat, IsKept}
use Rattle.flat_layout.specs.Layout.{Design}
use Rattle.flat_layout.specs.Regions.{Wiring, formula}
use Rattle.flat_layout.specs.declared.cause.GateCause.TheVariants.{Groups, OffGate, OffSd, NoBulk, NoLength}
use Rattle.flat_laws.proofs.Terminals.{keep}
use Rattle.gate_search.specs.Gather.{AreMet}
use Rattle.gate_shapes.specs.LookLaws.{IsExactNear, IsExactOn}
use Rattle.gate_shapes.specs.Sets.{in_set}
use Rattle.gate_shapes.specs.Shapes.{IsShape, IsShapeAlone, IsShapeBy, sheets_of}
use Rattle.gate_shapes.specs.declared.shape.GateShape.{GateShape}
use Rattle.gate_shapes.specs.declared.shape.GateShape.TheVariants.{Good, Bad}
use Rattle.gate_shapes.proofs.Groups.{around_self}
use Rattle.gate_shapes.proofs.Looking.{look, shape}
use Rattle.rule_text.specs.Rules.{Rules}
use Rattle.gate_phase.specs.Devices.{AreKnownEnds}
use Rattle.gate_phase.specs.Indexes.{LayersOf}
use Rattle.gate_phase.specs.Kept.{HasLocals}
use Rattle.gate_phase.specs.Shape.{IsGatePart, IsGateSheet}
use Rattle.plain_netlist.specs.declared.kinds.DeviceKind.{DeviceKind}
use Rattle.plain_netlist.specs.declared.kinds.DeviceKind.TheVariants.{Mos4, ResistorWithBulk, Diode}
use Rattle.gate_phase.proofs.Telling.{kept_flat}

-- close to a settled gate the cell keeps exactly the flat squares of what the rule reads
pub exact_near : (d : Design) (g : Geometry) (cell : ℕ) (s : Square) (part close set : List Rect) (x : Formula) → IsGatePart d g cell s part close → IsReadBy g x → AreMet (IsKept d cell x) close set
    → (q : Square) → IsGateOrRing d g cell s q → in_set set q ↔ InFlat d cell x q
exact_near d g cell s part close set x is read met q c = (
  (λ e. kept_flat d cell x q (met.sound q e)),
  (λ f. met.complete q (keep d g cell x q read (is.settled.calm q c) f) ((is.are_close q).1 (record { square = c.square; in_part = (is.squares c.square).1 c.in_part; around = c.around }))),
)

-- and in a settled gate alone
pub exact_at : (d : Design) (g : Geometry) (cell : ℕ) (s : Square) (part set : List Rect) (x : Formula) → IsSettled d g cell s → ((q : Square) → in_set part q ↔ InGate d g cell s q) → IsReadBy g x → AreMet (IsKept d cell x) part set
    → (q : Square) → InGate d g cell s q → in_set set q ↔ InFlat d cell x q
exact_at d g cell s part set x settled is read met q i = (
  (λ e. kept_flat d cell x q (met.sound q e)),
  (λ f. met.complete q (keep d g cell x q read (settled.calm q (record { square = q; in_part = i; around = around_self q })) f) ((is q).1 i)),
)

-- what a gate must lie on
pub gate_exact : (k : DeviceKind) (d : Design) (g : Geometry) (cell : ℕ) (s : Square) (part close sheet : List Rect) (x : Formula) → IsGatePart d g cell s part close → IsReadBy g x → IsGateSheet k (IsKept d cell x) close part sheet
    → (q : Square) → InGate d g cell s q → in_set sheet q ↔ gate_sheet k (InFlat d cell x) q
gate_exact Mos4 d g cell s part close sheet x is read met q i = exact_near d g cell s part close sheet x is read met q (record { square = q; in_part = i; around = around_self q })
gate_exact ResistorWithBulk d g cell s part close sheet x is read same q i = ((λ e. tt), (λ u. subst (λ (l : List Rect). in_set l q) (sym same) ((is.squares q).1 i)))
gate_exact Diode d g cell s part close sheet x is read same q i = ((λ e. tt), (λ u. subst (λ (l : List Rect). in_set l q) (sym same) ((is.squares q).1 i)))

-- a device has groups beside its regions exactly where its kind has
pub has_groups : (r : Rules) (k : DeviceKind) (o : Option ℕ) (a : ℕ) → AreKnownEnds r k o → o ≡ Some a → (form_of k ≡ Beside) × (a < length r.names)
has_groups r Mos4 None a h e = absurd h
has_groups r Mos4 (Some b) a h e = let same : b ≡ a = cc in (refl, subst (λ n. n < length r.names) same h)
has_groups r ResistorWithBulk None a h e = absurd h
has_groups r ResistorWithBulk (Some b) a h e = let same : b ≡ a = cc in (refl, subst (λ n. n < length r.names) same h)
has_groups r Diode None a h e = absurd (let z : ⊥ = cc in z)
has_groups r Diode (Some b) a h e = absurd h

pub has_none : (r : Rules) (k : DeviceKind) (o : Option ℕ) → AreKnownEnds r k o → o ≡ None → form_of k ≡ Alone
has_none r Mos4 None h e = absurd h
has_none r Mos4 (Some b) h e = absurd (let z : ⊥ = cc in z)
has_none r ResistorWithBulk None h e = absurd h
has_none r ResistorWithBulk (Some b) h e = absurd (let z : ⊥ = cc in z)
has_none r Diode None h e = refl
has_none r Diode (Some b) h e = absurd h

-- the shape by the form
pub as_form : (form : Form) (g : Sheets) (part : Square → Type 0) (x : GateShape) → form ≡ Beside → IsShape g part x → IsShapeBy form g part x
as_form form g part x e h = subst (λ (f : Form). IsShapeBy f g part x) (sym e) h

pub as_alone : (form : Form) (g : Sheets) (part : Square → Type 0) (x : GateShape) → form ≡ Alone → IsShapeAlone g part x → IsShapeBy form g part x
as_alone form g part x e h = subst (λ (f : Form). IsShapeBy f g part x) (sym e) h

-- what windows tell of a name, a set of the same rectangles tells
pub met_close : (d : Design) (layers : LayersOf) (cell name : ℕ) (windows close set : List Rect) → windows ≡ close → ((x : Formula) → HasLocals d layers name x → AreMet (IsKept d cell x) windows set)
    → (x : Formula) → HasLocals d layers name x → AreMet (IsKept d cell x) close set
met_close d layers cell name windows close set e h x has = subst (λ (l : List Rect). AreMet (IsKept d cell x) l set) e (h x has)

-- and of one name as of the same one
pub met_named : (d : Design) (layers : LayersOf) (cell name other : ℕ) (close set : List Rect) → other ≡ name → ((x : Formula) → HasLocals d layers name x → AreMet (IsKept d cell x) close set)
    → (x : Formula) → HasLocals d layers other x → AreMet (IsKept d cell x) close set
met_named d layers cell name other close set e h x has = h x (subst (λ (n : ℕ). HasLocals d layers n x) e has)

-- sets that differ only in what no one asks for judge a part alike
unasked : (g : Sheets) (set : Square → Type 0) (part : Square → Type 0) (v : GateShape) → (g.loose → ⊥) → IsShape g part v
    → IsShape (record { ends = g.ends; on_ends = g.on_ends; on_gate = g.on_gate; on_bulk = set; free = g.free; loose = g.loose }) part v
unasked g set part (Good f) tight v = record {
  source = v.source;
  drain = v.drain;
  form = record {
    groups = v.form.groups;
    wide = v.form.wide;
    long = v.form.long;
    some = v.form.some;
    gate_on = v.form.gate_on;
    ends_on = v.form.ends_on;
    bulk_on = λ z. absurd (tight z);
  };
  least_source = v.least_source;
  least_drain = v.least_drain;
  order = v.order;
}
unasked g set part (Bad (Groups n)) tight v = v
unasked g set part (Bad OffGate) tight v = v
unasked g set part (Bad OffSd) tight v = v
unasked g set part (Bad NoBulk) tight (e, f, k, on, at, open_, off) = absurd (tight open_)
unasked g set part (Bad NoLength) tight (e, f, k, on, at, bulk, none) = (e, f, k, on, at, (λ z. absurd (tight z)), none)

-- what is found by lists of which that of the bulk's conductor counts where it has no global
pub look_where_loose : (d : Design) (w : Wiring) (u : Rule) (cell : ℕ) (s : Square) (part ends on_ends on_gate on_bulk : List Rect) (loose : Bool) (v : GateShape) → ((q : Square) → in_set part q ↔ InGate d (geometry w u) cell s q)
    → IsExactNear d w u cell s ends u.sd → IsExactNear d w u cell s on_ends (formula w u.ts) → IsExactOn d w u cell s on_gate (gate_sheet u.kind (InFlat d cell (formula w u.tg)))
    → (loose ≡ true → IsExactNear d w u cell s on_bulk (formula w u.tb)) → (loose ≡ true) ↔ (ground w u ≡ None)
    → IsShape (sheets_of ends on_ends on_gate on_bulk loose) (in_set part) v → IsShape (sheets d w u cell) (InGate d (geometry w u) cell s) v
look_where_loose d w u cell s part ends on_ends on_gate on_bulk true v same ends_are on_ends_are on_gate_are on_bulk_are loose_is h =
    look d w u cell s part ends on_ends on_gate on_bulk true v
    (record { part_is = same; ends_are = ends_are; on_ends_are = on_ends_are; on_gate_are = on_gate_are; on_bulk_are = on_bulk_are refl; loose_is = loose_is }) h
look_where_loose d w u cell s part ends on_ends on_gate on_bulk false v same ends_are on_ends_are on_gate_are on_bulk_are loose_is h =
    let P = in_set part in let bulk = InFlat d cell (formula w u.tb) in let g = sheets_of ends on_ends on_gate on_bulk false in
    let near : (name : Formula) (rects : List Rect) → IsExactNear d w u cell s rects name → (q : Square) → IsCloseTo P q → in_set rects q ↔ InFlat d cell name q =
    λ name rects exact q c. exact q (record { square = c.square; in_part = (same c.square).0 c.in_part; around = c.around }) in
    shape P (InGate d (geometry w u) cell s) same (record { ends = g.ends; on_ends = g.on_ends; on_gate = g.on_gate; on_bulk = bulk; free = g.free; loose = g.loose }) (sheets d w u cell)
    (near u.sd ends ends_are) (near (formula w u.ts) on_ends on_ends_are) (λ q p. on_gate_are q ((same q).0 p)) (λ q p. ((λ z. z), (λ z. z))) loose_is v
    (unasked g bulk P v (λ e. let f : false ≡ true = e in let z : ⊥ = cc in z) h)
