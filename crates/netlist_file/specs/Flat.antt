-- What a netlist file shows of the flat layout: read as SPICE and expanded from its last circuit,
-- it is the netlist of the flat layout.
use Rattle.std.specs.Prelude.{◌≡◌, ◌↔◌, ℕ, suc, List, [], None, Some, length, slice_get}
use Rattle.cell_graph.specs.Linked.{plain}
use Rattle.deep_flow.specs.Bad.{class_at}
use Rattle.deep_tables.specs.declared.gates.BadGate.{BadGate}
use Rattle.flat_layout.specs.Circuits.{IsCircuitCell}
use Rattle.flat_layout.specs.Expanded.{AreTablesRight, CircuitTables}
use Rattle.flat_layout.specs.Gates.{IsBadGate, Rule}
use Rattle.flat_layout.specs.GateTables.{GateSquare}
use Rattle.flat_layout.specs.Layers.{InFlat}
use Rattle.flat_layout.specs.Layout.{Design, Takes}
use Rattle.flat_layout.specs.Nets.{Tables}
use Rattle.flat_layout.specs.Regions.{Wiring}
use Rattle.gds_layout.specs.declared.layout.Layout.{Layout}
use Rattle.geo_base.specs.declared.shapes.Square.{Square}
use Rattle.headline_laws.specs.FlatNetlist.{AreOneGate, flat_netlist, IsFlatGateOf}
use Rattle.headline_laws.specs.FlatNetlist.{IsFlatRegionOf}
use Rattle.netlist_file.specs.File.{IsNetlistFile}
use Rattle.plain_netlist.specs.Flats.{Corresponds, expanded}
use Rattle.plain_netlist.specs.Lists.{IsListed}
use Rattle.plain_netlist.specs.Netlist.{Netlist}
use Rattle.rule_layers.specs.Meaning.{device_rules, wiring_of}
use Rattle.rule_text.specs.Rules.{Rules}
use Rattle.rule_text.specs.Sound.{IsSound}
use Rattle.spice_text.specs.Means.{Means}
use Rattle.flat_layout.specs.declared.cause.GateCause.{GateCause}

-- a gate of the flat top, by one of its squares, that is bad for this cause
pub record IsBadFlatGate (d : Design) (w : Wiring) (rules : List Rule) (a : GateSquare)
    (cause : GateCause) : Type 0 where
  pub rule : Rule
  pub is : slice_get rules a.rule ≡ Some rule
  pub in_flat : InFlat d d.top rule.gate a.square
  pub bad : IsBadGate d w rule d.top a.square cause

-- a bad gate is told as this one: its class, as the rule file writes it, its cause, and, along some
-- path of placements, one of its squares
pub record IsToldAs (d : Design) (w : Wiring) (r : Rules) (a : GateSquare) (why : GateCause)
    (b : BadGate) : Type 0 where
  pub class : b.class ≡ class_at r a.rule
  pub cause : b.cause ≡ why
  pub path : List ℕ
  pub square : Square
  pub takes : Takes d d.top path b.cell b.least square
  pub one : AreOneGate d w (device_rules r) a (record { rule = a.rule; square = square })

-- each bad gate of the flat top is told
abbrev pub AreAllTold : Design → Wiring → Rules → List BadGate → Type 0
AreAllTold d w r bad = (a : GateSquare) (why : GateCause) → IsBadFlatGate d w (device_rules r) a why
    → (b : BadGate) × IsListed b bad × IsToldAs d w r a why b

-- and nothing else is
abbrev pub AreAllBad : Design → Wiring → Rules → List BadGate → Type 0
AreAllBad d w r bad = (b : BadGate) → IsListed b bad → (a : GateSquare) × (why : GateCause)
    × IsBadFlatGate d w (device_rules r) a why × IsToldAs d w r a why b

abbrev pub HasNoBadGate : Design → Wiring → List Rule → Type 0
HasNoBadGate d w rules = (a : GateSquare) (cause : GateCause) → IsBadFlatGate d w rules a cause → ⊥

-- The text means this netlist, and no other. Its circuits are those of the cells that the layout's
-- top reaches, by the cells' own nets, gates and pins, and the last of them is the top's. This one
-- expands to the netlist of the flat layout: its devices correspond one to one to the good gates of
-- the flat top, and their nets to the regions of the flat top. The bad gates of the flat top are
-- told, and nothing else.
pub record ShowsFlat (l : Layout) (r : Rules) (text : List ℕ) (nl : Netlist) (top : ℕ)
    (bad : List BadGate) : Type 0 where
  pub means : Means None text nl
  pub only : (other : Netlist) → Means None text other → other ≡ nl
  pub last : suc top ≡ length nl.circuits
  pub nets : Tables
  pub circuits : CircuitTables
  pub level : ℕ → ℕ
  pub right : AreTablesRight (plain l.design) (wiring_of r) nets circuits nl (device_rules r)
      l.header.unit_pm level
  pub top_is : IsCircuitCell circuits.cells top (plain l.design).top
  pub same : Corresponds (expanded nl top)
      (flat_netlist (plain l.design) (wiring_of r) (device_rules r) l.header.unit_pm)
      (IsFlatGateOf (plain l.design) (wiring_of r) circuits nl top (device_rules r))
      (IsFlatRegionOf (plain l.design) (wiring_of r) nets circuits nl top)
  pub told : AreAllTold (plain l.design) (wiring_of r) r bad
  pub all_bad : AreAllBad (plain l.design) (wiring_of r) r bad
  pub no_bad : (bad ≡ []) ↔ HasNoBadGate (plain l.design) (wiring_of r) (device_rules r)

-- so it is of each layout, for each sound rule set
abbrev pub ShowsFlatLaw : Type 0
ShowsFlatLaw = (l : Layout) (r : Rules) (nl : Netlist) (top : ℕ) (bad : List BadGate)
    (text : List ℕ) → IsSound r → IsNetlistFile l r nl top bad text → ShowsFlat l r text nl top bad
