-- What the cell leaves for the names of a region.
use Rattle.std.proofs.Common.{◌≡◌, ℕ, ◌<◌, List, [], Option, Some, length, slice_get, arith}
use Rattle.std.proofs.lemmas.Option.{slice_get-get_or}
use Rattle.flat_layout.specs.Layers.{Binary, Empty, Formula, Input, Sized, inputs}
use Rattle.flat_layout.specs.Layout.{IsReached}
use Rattle.cell_graph.specs.Linked.{IsSound, Linked, plain}
use Rattle.rule_text.specs.Rules.{Rules}
use Rattle.rule_text.specs.Seen.{rules_seen}
use Rattle.rule_text.specs.declared.rules.RuleSet.{RuleSet}
use Rattle.rule_layers.specs.Formulas.{formulas, zone_margin}
use Rattle.rule_layers.specs.Reads.{IsRead}
use Rattle.deep_tables.specs.Zones.{AreZones, IsAsked}
use Rattle.deep_tables.specs.declared.zones.CellZones.{CellZones}
use Rattle.deep_tables.proofs.Framing.{framed_open}
use Rattle.deep_tables.proofs.Reading.{zone_at}
use Rattle.gate_phase.specs.Both.{IsReadyRegion, IsOpenFor}
use Rattle.gate_phase.specs.Devices.{IsKnownRegion}
use Rattle.gate_phase.specs.Layer.{formula_of}
use Rattle.gate_phase.specs.declared.device.Region.{Region}
use Rattle.gate_phase.specs.declared.device.Region.TheVariants.{One, Both}
use Rattle.gate_phase.proofs.Marking.{count_behind}

-- a name that a device rule reads is asked
asked : (r : Rules) (i : ℕ) (x : Formula) → IsRead r.names r.devices r.more i → IsAsked r i x
asked r i (Input key) h = h
asked r i Empty h = h
asked r i (Binary op a b) h = tt
asked r i (Sized by a) h = tt

stirred : (d : Linked) (r : RuleSet) (z : List (Option CellZones)) (cell name : ℕ) → IsSound d → AreZones (plain d) (rules_seen r) z → IsReached (plain d) cell → name < length r.names.items → IsRead r.names.items r.devices.items r.more.items name → IsOpenFor d r z cell name
stirred d r z cell name sound right reached lt read =
    let x = formula_of r name in
    let at : slice_get (formulas r.names.items) name ≡ Some x = slice_get-get_or (formulas r.names.items) name Empty (let n = count_behind [] r.names.items in omega (arith, lt, n)) in
    let h = zone_at (plain d) (rules_seen r) z cell name x right reached at (asked (rules_seen r) name x read) in
    let frame = (framed_open d (inputs x) (zone_margin r.names.items) cell h.0 (sound.hulls.each cell) h.2.canonical).0 h.2 in
    record { zone = h.0; is = h.1; framed = frame }

pub ready_region : (d : Linked) (r : RuleSet) (z : List (Option CellZones)) (cell : ℕ) (g : Region) → IsSound d → AreZones (plain d) (rules_seen r) z → IsReached (plain d) cell → IsKnownRegion (rules_seen r) g → IsReadyRegion d r z cell g
ready_region d r z cell (One a) sound right reached h = h
ready_region d r z cell (Both a b) sound right reached h = (h.0, h.1, stirred d r z cell a sound right reached h.0 h.2, stirred d r z cell b sound right reached h.1 h.3)
