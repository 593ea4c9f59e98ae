-- The terminals of a settled good gate are held by nets of its cell.
use Rattle.std.proofs.Common.{◌≡◌, ℕ, Option, Some, None, slice_get, refl, sym, ap, subst, arith}
use Rattle.cell_graph.proofs.Bridge.{heights}
use Rattle.cell_graph.specs.Linked.{IsSound, Linked, cell_at, height_at, hull_of, plain}
use Rattle.cell_graph.proofs.Bridge.{hull_sound}
use Rattle.deep_tables.specs.Nets.{AreRightNets}
use Rattle.flat_laws.proofs.OneNet.{regions}
use Rattle.flat_laws.proofs.Terminals.{grounds, terminals}
use Rattle.flat_layout.specs.Gates.{InGate, IsTerminalNode, Rule, anode_ground, form_of, geometry, ground, sheets}
use Rattle.flat_layout.specs.Layout.{IsReached}
use Rattle.flat_layout.specs.Nets.{AreTables, Tables}
use Rattle.flat_layout.specs.Regions.{At, IsNode, Node, Wiring, formula, ground_of, kept}
use Rattle.geo_base.specs.declared.shapes.Square.{Square}
use Rattle.gate_shapes.specs.Shapes.{IsShapeBy}
use Rattle.gate_shapes.specs.declared.shape.GateForm.{GateForm}
use Rattle.gate_shapes.specs.declared.shape.GateShape.{GateShape}
use Rattle.gate_shapes.specs.declared.shape.GateShape.TheVariants.{Bad, Good}
use Rattle.net_link_laws.proofs.Held.{conductor}
use Rattle.net_link_laws.specs.Laws.{AreNetsUnder}
use Rattle.plain_netlist.specs.declared.kinds.DeviceKind.{DeviceKind}
use Rattle.plain_netlist.specs.declared.kinds.DeviceKind.TheVariants.{Mos4, ResistorWithBulk, Diode}
use Rattle.plain_netlist.specs.Devices.{First, HasEnds, Other, Second, Terminal}
use Rattle.rule_layers.proofs.Wired.{known}
use Rattle.rule_layers.specs.Meaning.{wiring_of}
use Rattle.rule_text.specs.Rules.{Rules}
use Rattle.flat_layout.specs.Layers.{reach}
use Rattle.rule_text.specs.Sound as rules
use Rattle.table_laws.proofs.Tabled.{reached_under}
use Rattle.table_laws.proofs.Tabled as tabled
use Rattle.gate_phase.specs.Judged.{IsHeldShape}
use Rattle.gate_phase.specs.Own.{IsOwnGate}
use Rattle.gate_phase.specs.Terminals.{AreHeld, AreHeldEnds, IsHeldLeast, IsHeldRegion, IsHeldSquare, IsOfRule, RuleGrounds, end_nodes, grounds_by, other_nodes, region_node}
use Rattle.gate_phase.specs.declared.device.Device.{Device}
use Rattle.gate_phase.proofs.RowsOf.{HasNodes, nodes_of}
use Rattle.gate_phase.specs.declared.own.OwnGate.{OwnGate}
use Rattle.gate_phase.proofs.Holding.{grown_unit}
use Rattle.gate_phase.proofs.Keeping.{kept_grown}
use Rattle.gate_phase.proofs.Reaching.{conductor_most}

module _ (d : Linked) (r : Rules) (t : Tables) (sound : IsSound d) (ruled : rules.IsSound r) (right : AreRightNets (plain d) (wiring_of r) t) (cell : ℕ) (reached : IsReached (plain d) cell) where
  abbrev w : Wiring
  w = wiring_of r

  tables : AreTables (plain d) w t (height_at d)
  tables = (tabled.tables (plain d) w t (height_at d) (heights d sound) right.own right.nets).0

  -- the nets of each cell below are right
  pub nets_under : AreNetsUnder (plain d) w t cell
  nets_under e under = tables.nets e (reached_under (plain d) cell e reached under)

  held_square : (c : ℕ) (s : Square) → IsNode w (kept (plain d) w cell) (At c s) → IsHeldSquare (plain d) w t cell c s
  held_square c s is =
      let x = (regions (plain d) w t (height_at d) tables cell reached).complete (At c s) is in
      record { known = conductor (plain d) w t cell x.0 c s nets_under x.1; near = grown_unit (reach (formula w c)) (hull_of (cell_at d cell)) s (let most = conductor_most r c ruled in omega (arith, most)) (hull_sound d cell sound) (kept_grown d cell (formula w c) s sound is); held = x }

  at_held : (a c : ℕ) (s : Square) → a ≡ c → IsNode w (kept (plain d) w cell) (At a s) → IsHeldSquare (plain d) w t cell c s
  at_held a c s same is = held_square c s (subst (λ k. IsNode w (kept (plain d) w cell) (At k s)) same is)

  region_held : (a c : ℕ) (s : Square) (o : Option ℕ) → a ≡ c → ground_of a w.grounds ≡ o → IsNode w (kept (plain d) w cell) (region_node a s (ground_of a w.grounds)) → IsHeldRegion (plain d) w t cell c s o
  region_held a c s None same is node = at_held a c s same (subst (λ (p : Option ℕ). IsNode w (kept (plain d) w cell) (region_node a s p)) is node)
  region_held a c s (Some g) same is node = known r a g is

  ends_held : (k : DeviceKind) (u : Rule) (c : ℕ) (f : GateForm) → u.ts ≡ c → ((a b : Node) → HasEnds a b (end_nodes k u.ts f) → IsNode w (kept (plain d) w cell) a × IsNode w (kept (plain d) w cell) b) → AreHeldEnds k (plain d) w t cell c f
  ends_held Mos4 u c f same h = let p = h (At u.ts f.source) (At u.ts f.drain) (refl, refl) in (at_held u.ts c f.source same p.0, at_held u.ts c f.drain same p.1)
  ends_held ResistorWithBulk u c f same h = let p = h (At u.ts f.source) (At u.ts f.drain) (refl, refl) in (at_held u.ts c f.source same p.0, at_held u.ts c f.drain same p.1)
  ends_held Diode u c f same h = tt

  abbrev AreOthersNodes : DeviceKind → Rule → Square → Type 0
  AreOthersNodes k u s = (place : ℕ) (m : Node) → slice_get (other_nodes k u.ts u.tg u.tb (grounds_by w u) s) place ≡ Some m → IsNode w (kept (plain d) w cell) m

  least_held : (k : DeviceKind) (u : Rule) (x : Device) (g : RuleGrounds) (s : Square) → IsOfRule u x → grounds_by w u ≡ g → AreOthersNodes k u s → IsHeldLeast (plain d) w t x k cell g s
  least_held Mos4 u x g s of is h = at_held u.tg x.tg s of.tg (h 0 (At u.tg s) refl)
  least_held ResistorWithBulk u x g s of is h = tt
  least_held Diode u x g s of is h = region_held u.ts x.ts s g.ends of.ts (ap (λ (b : RuleGrounds). b.ends) is) (h 0 (region_node u.ts s (anode_ground w u)) refl)

  bulk_node : (k : DeviceKind) (u : Rule) (s : Square) → AreOthersNodes k u s → IsNode w (kept (plain d) w cell) (region_node u.tb s (ground w u))
  bulk_node Mos4 u s h = h 1 (region_node u.tb s (ground w u)) refl
  bulk_node ResistorWithBulk u s h = h 0 (region_node u.tb s (ground w u)) refl
  bulk_node Diode u s h = h 1 (region_node u.tb s (ground w u)) refl

  module _ (u : Rule) (x : Device) (of : IsOfRule u x) (y : OwnGate) (own : IsOwnGate (plain d) w u cell y) (f : GateForm) (n : HasNodes u.kind (plain d) w u cell y.least f) where
    node : (place : Terminal) (m : Node) → IsTerminalNode (plain d) w u cell y.least n.sides place m → IsNode w (kept (plain d) w cell) m
    node place m is =
        (terminals (plain d) w u cell y.least n.sides f.twice_w f.twice_l place m m reached own.listed.settled n.good
        (λ g e. let c = grounds (plain d) w u cell y.least n.sides place g (subst (λ z. IsTerminalNode (plain d) w u cell y.least n.sides place z) (sym e) is) in known r c.0 g c.1) is is).0

    others : AreOthersNodes u.kind u y.least
    others place m e = node (Other place) m (n.others place m e)

    ends : (a b : Node) → HasEnds a b (end_nodes u.kind u.ts f) → IsNode w (kept (plain d) w cell) a × IsNode w (kept (plain d) w cell) b
    ends a b h = let p = n.ends a b h in (node First a p.0, node Second b p.1)

    held_form : (g : RuleGrounds) → grounds_by w u ≡ g → AreHeld (plain d) w t x cell g y.least f
    held_form g is = record {
      ends = subst (λ k. AreHeldEnds k (plain d) w t cell x.ts f) of.kind (ends_held u.kind u x.ts f of.ts ends);
      own = subst (λ k. IsHeldLeast (plain d) w t x k cell g y.least) of.kind (least_held u.kind u x g y.least of is others);
      bulk = region_held u.tb x.tb y.least g.bulk of.tb (ap (λ (b : RuleGrounds). b.bulk) is) (bulk_node u.kind u y.least others);
    }

  by_shape : (u : Rule) (x : Device) (g : RuleGrounds) → IsOfRule u x → grounds_by w u ≡ g → (y : OwnGate) → IsOwnGate (plain d) w u cell y → (shape : GateShape) → IsShapeBy (form_of u.kind) (sheets (plain d) w u cell) (InGate (plain d) (geometry w u) cell y.least) shape
      → IsHeldShape (plain d) w t x cell g y.least shape
  by_shape u x g of is y own (Good f) shape = held_form u x of y own f (nodes_of (plain d) w u cell y.least u.kind f shape own.least) g is
  by_shape u x g of is y own (Bad c) shape = tt

  -- so what the terminals of an own gate ask is met
  pub held_shape : (u : Rule) (x : Device) (g : RuleGrounds) → IsOfRule u x → grounds_by w u ≡ g → (y : OwnGate) → IsOwnGate (plain d) w u cell y → IsHeldShape (plain d) w t x cell g y.least y.shape
  held_shape u x g of is y own = by_shape u x g of is y own y.shape own.shape
