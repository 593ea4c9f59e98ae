-- What the tables have of a selection's own name is what the cell leaves of its regions.
use Rattle.std.proofs.Common.{◌≡◌, ℕ, ◌+◌, ◌≤◌, List, Option, Some, get_or, sym, ◌∙◌, ap, arith}
use Rattle.std.proofs.lemmas.Option.{get_or_from_slice_get}
use Rattle.std.proofs.Math.Nat.{le-max_left}
use Rattle.flat_layout.specs.Layers.{Binary, Empty, reach}
use Rattle.flat_layout.specs.Layout.{IsReached}
use Rattle.geo_base.specs.declared.layer.Op.TheVariants.{And}
use Rattle.geo_base.specs.declared.shapes.Rect.{Rect}
use Rattle.geo_base.specs.declared.shapes.Square.{Square}
use Rattle.cell_graph.specs.Linked.{Linked, IsSound, cell_at, hull_of, plain}
use Rattle.cell_graph.proofs.Growing.{wider_grown}
use Rattle.rule_text.specs.Reaches.{reaches}
use Rattle.rule_text.specs.Rules.{Rules}
use Rattle.rule_layers.specs.Formulas.{formulas, zone_margin}
use Rattle.rule_layers.proofs.Reaching.{reach_in}
use Rattle.deep_tables.specs.Frames.{IsFramedOpen}
use Rattle.deep_tables.specs.Zones.{AreZones, zone_of}
use Rattle.deep_tables.specs.declared.zones.CellZones.{CellZones}
use Rattle.deep_tables.specs.declared.zones.ZoneKey.TheVariants.{Layer}
use Rattle.deep_tables.proofs.Framing.{framed_open}
use Rattle.deep_tables.proofs.Reading.{zone_at}
use Rattle.gate_phase.specs.Own.{IsHeldPart}
use Rattle.gate_phase.proofs.Reaching.{name_reach}
use Rattle.gate_phase.proofs.Seeding.{flat_grown}
use Rattle.gate_shapes.specs.Sets.{in_set}
use Rattle.select_laws.specs.Rest.{IsCandidate}
use Rattle.select_laws.specs.Selects.{Select, sight}
use Rattle.select_laws.proofs.Choice.{reads_region}
use Rattle.select_laws.proofs.Rest.{to_flat}
use Rattle.rule_stages.specs.Selections.{IsKnown, select_of}
use Rattle.rule_text.specs.declared.rules.SelectRule.{SelectRule}

pub sight_zone : (d : Linked) (r : Rules) (z : List (Option CellZones)) (cell : ℕ) (s : SelectRule) → IsSound d → AreZones (plain d) r z → IsReached (plain d) cell → IsKnown (formulas r.names) s
    → (zone : List Rect) × (zone_of z cell (Layer s.name) ≡ Some zone) × IsFramedOpen (zone_margin r.names) d (sight (select_of (formulas r.names) s)).keys cell zone
sight_zone d r z cell s sound right reached known =
    let x = select_of (formulas r.names) s in
    let h = zone_at (plain d) r z cell s.name (Binary And x.region x.other) right reached known.both tt in
    (h.0, h.1, (framed_open d (sight x).keys (zone_margin r.names) cell h.0 (sound.hulls.each cell) h.2.canonical).0 h.2)

pub both_reach : (r : Rules) (s : SelectRule) → IsKnown (formulas r.names) s → reach (get_or (formulas r.names) s.name Empty) ≡ (sight (select_of (formulas r.names) s)).reach
both_reach r s known =
    let x = select_of (formulas r.names) s in
    ap reach (get_or_from_slice_get (formulas r.names) s.name (Binary And x.region x.other) Empty known.both)

pub sight_margin : (r : Rules) (s : SelectRule) → IsKnown (formulas r.names) s → ((sight (select_of (formulas r.names) s)).reach + 1) + (sight (select_of (formulas r.names) s)).reach ≤ zone_margin r.names
sight_margin r s known = let e = both_reach r s known in let most = reach_in r.names s.name in omega (arith, e, most)

pub sight_reach : (r : Rules) (ns : List ℕ) (s : SelectRule) → ns ≡ reaches r.names → IsKnown (formulas r.names) s → (sight (select_of (formulas r.names) s)).reach ≡ get_or ns s.name 0
sight_reach r ns s is known = sym (both_reach r s known) ∙ name_reach r ns s.name is

-- candidates lie in the grown hull
pub candidates_held : (d : Linked) (x : Select) (cell : ℕ) (part : List Rect) → IsSound d → IsReached (plain d) cell → ((q : Square) → in_set part q → IsCandidate (plain d) x.joint (sight x) cell q) → IsHeldPart (sight x).reach d cell part
candidates_held d x cell part sound reached all q e =
    wider_grown (reach x.region) (sight x).reach (hull_of (cell_at d cell)) q (le-max_left (reach x.region) (reach x.other))
    (flat_grown d x.region cell q sound (to_flat (plain d) x.joint (sight x) (reads_region x) cell reached q (all q e)))
