-- The nodes of a good gate's terminals, each held by a net.
use Rattle.std.specs.Prelude.{◌≡◌, ℕ, ◌<◌, List, [], ◌∷◌, Option, Some, None, length}
use Rattle.geo_base.specs.declared.shapes.Square.{Square}
use Rattle.flat_layout.specs.Gates.{Rule, anode_ground, ground}
use Rattle.flat_layout.specs.GateTables.{GateRow}
use Rattle.flat_layout.specs.Layout.{Design}
use Rattle.flat_layout.specs.Nets.{NetHolds, Tables}
use Rattle.flat_layout.specs.Regions.{At, Ground, Node, Wiring}
use Rattle.plain_netlist.specs.declared.kinds.DeviceKind.{DeviceKind}
use Rattle.plain_netlist.specs.declared.kinds.DeviceKind.TheVariants.{Mos4, ResistorWithBulk, Diode}
use Rattle.plain_netlist.specs.Devices.{AreEndsJoined, AreJoined, Both, Ends, NoEnds}
use Rattle.net_model.specs.Rows.{ends_in, others_in}
use Rattle.gate_shapes.specs.declared.shape.GateForm.{GateForm}
use Rattle.gate_phase.specs.Own.{IsUnitNear}
use Rattle.gate_phase.specs.declared.bulks.Grounds.{Grounds}
use Rattle.gate_phase.specs.declared.device.Device.{Device}

-- the globals at a rule's ends and at its bulk
pub record RuleGrounds : Type 0 where
  pub ends : Option ℕ
  pub bulk : Option ℕ

abbrev pub grounds_seen : Grounds → RuleGrounds
grounds_seen g = record { ends = g.ends; bulk = g.bulk }

abbrev pub grounds_by : Wiring → Rule → RuleGrounds
grounds_by w u = record { ends = anode_ground w u; bulk = ground w u }

-- the node of a region on a conductor: the conductor's global, or the region's least square on it
abbrev pub region_node : ℕ → Square → Option ℕ → Node
region_node c least None = At c least
region_node c least (Some g) = Ground g

-- the nodes of the ends, by the squares of their groups, and of the other terminals
abbrev pub end_nodes : DeviceKind → ℕ → GateForm → Ends Node
end_nodes Mos4 ts f = Both (At ts f.source) (At ts f.drain)
end_nodes ResistorWithBulk ts f = Both (At ts f.source) (At ts f.drain)
end_nodes Diode ts f = NoEnds

abbrev pub other_nodes : DeviceKind → (ts tg tb : ℕ) → RuleGrounds → Square → List Node
other_nodes Mos4 ts tg tb g s = At tg s ∷ region_node tb s g.bulk ∷ []
other_nodes ResistorWithBulk ts tg tb g s = region_node tb s g.bulk ∷ []
other_nodes Diode ts tg tb g s = region_node ts s g.ends ∷ region_node tb s g.bulk ∷ []

-- the kind and the conductors of the terminals are those of the rule
pub record IsOfRule (u : Rule) (x : Device) : Type 0 where
  pub kind : u.kind ≡ x.kind
  pub ts : u.ts ≡ x.ts
  pub tg : u.tg ≡ x.tg
  pub tb : u.tb ≡ x.tb

-- some net of the cell holds a near square of the conductor
pub record IsHeldSquare (d : Design) (w : Wiring) (t : Tables) (cell c : ℕ) (s : Square) : Type 0
  where
    pub known : c < length w.conductors
    pub near : IsUnitNear s
    pub held : (x : ℕ) × NetHolds d t cell x (At c s)

-- the conductor's global is one, or some net holds the region's least square on the conductor
abbrev pub IsHeldRegion : Design → Wiring → Tables → ℕ → ℕ → Square → Option ℕ → Type 0
IsHeldRegion d w t cell c least None = IsHeldSquare d w t cell c least
IsHeldRegion d w t cell c least (Some g) = g < length w.globals

-- the least squares of its groups are held, where a device lies between such
abbrev pub AreHeldEnds : DeviceKind → Design → Wiring → Tables → ℕ → ℕ → GateForm → Type 0
AreHeldEnds Mos4 d w t cell c f = IsHeldSquare d w t cell c f.source
    × IsHeldSquare d w t cell c f.drain
AreHeldEnds ResistorWithBulk d w t cell c f = IsHeldSquare d w t cell c f.source
    × IsHeldSquare d w t cell c f.drain
AreHeldEnds Diode d w t cell c f = Unit {0}

-- the least square is held: a transistor's on its gate, a diode's on its anode
abbrev pub IsHeldLeast : Design → Wiring → Tables → Device → DeviceKind → ℕ → RuleGrounds → Square
    → Type 0
IsHeldLeast d w t x Mos4 cell g least = IsHeldSquare d w t cell x.tg least
IsHeldLeast d w t x ResistorWithBulk cell g least = Unit {0}
IsHeldLeast d w t x Diode cell g least = IsHeldRegion d w t cell x.ts least g.ends

-- and each device's on its bulk
pub record AreHeld (d : Design) (w : Wiring) (t : Tables) (x : Device) (cell : ℕ) (g : RuleGrounds)
    (least : Square) (f : GateForm) : Type 0 where
  pub ends : AreHeldEnds x.kind d w t cell x.ts f
  pub own : IsHeldLeast d w t x x.kind cell g least
  pub bulk : IsHeldRegion d w t cell x.tb least g.bulk

-- the sizes of the gate with the nets of its terminals
abbrev pub row_of : DeviceKind → GateForm → List ℕ → GateRow
row_of kind f nets = record {
  kind = kind;
  twice_w = f.twice_w;
  twice_l = f.twice_l;
  ends = ends_in kind nets;
  others = others_in kind nets;
}

-- these nets, in the order of a netlist's text, hold the nodes
pub record HoldNodes (d : Design) (t : Tables) (x : Device) (cell : ℕ) (g : RuleGrounds)
    (least : Square) (f : GateForm) (nets : List ℕ) : Type 0 where
  pub ends : AreEndsJoined (NetHolds d t cell) (ends_in x.kind nets) (end_nodes x.kind x.ts f)
  pub others : AreJoined (NetHolds d t cell) (others_in x.kind nets)
      (other_nodes x.kind x.ts x.tg x.tb g least)
