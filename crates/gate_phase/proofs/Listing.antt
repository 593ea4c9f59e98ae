-- The regions of a cell's list, one device rule after the other.
use Rattle.std.proofs.Common.{◌≡◌, ◌↔◌, ℕ, zero, suc, ◌+◌, ◌++◌, true, List, [], ◌∷◌, Some, map, slice_get, length, append-nil, append_assoc, refl, sym, ◌∙◌, ap, subst}
use Rattle.std.proofs.lemmas.Option.{none-some}
use Rattle.geo_base.specs.declared.shapes.Rect.{Rect}
use Rattle.geo_base.specs.declared.shapes.Square.{Square}
use Rattle.rect_sets.specs.Rects.{covers}
use Rattle.flat_layout.specs.Gates.{InGate, Rule, geometry}
use Rattle.flat_layout.specs.GateTables as gates
use Rattle.flat_layout.specs.GateTables.{GateEntry, Verdict, counted_device}
use Rattle.flat_layout.specs.Layout.{Design, IsReached}
use Rattle.flat_layout.specs.Nets.{NetHolds, Tables}
use Rattle.flat_layout.specs.Regions.{Node, Wiring}
use Rattle.plain_netlist.proofs.Rows.{over_wider}
use Rattle.cell_graph.specs.Linked.{IsSound, Linked, height_at, plain}
use Rattle.cell_graph.proofs.Bridge.{heights}
use Rattle.rule_layers.specs.Meaning.{device_rules, more_rule, mos_rules, wiring_of}
use Rattle.rule_text.specs.Rules.{Rules}
use Rattle.deep_tables.specs.Gates.{AreCellGates, AreMosCellGates, HasArea, plain_gate}
use Rattle.deep_tables.specs.Nets.{AreRightNets}
use Rattle.deep_tables.specs.declared.gates.CellGates.{CellGates}
use Rattle.deep_tables.specs.declared.gates.Gate.{Gate}
use Rattle.deep_tables.proofs.Agreeing.{held_alike, one_tables}
use Rattle.gate_shapes.specs.declared.shape.GateShape.{GateShape}
use Rattle.gate_shapes.specs.declared.shape.GateShape.TheVariants.{Bad, Good}
use Rattle.gate_phase.specs.Judged.{AreGatesOf, AreRuleGates, GoOn, IsGateOf}
use Rattle.gate_phase.specs.Own.{AreOwnGates}
use Rattle.gate_phase.specs.Rows.{AreEntriesOf, AreGatesTo, IsVerdictOf, node_device}
use Rattle.gate_phase.specs.Terminals.{IsOfRule, RuleGrounds, grounds_by}
use Rattle.gate_phase.specs.declared.device.Device.{Device}
use Rattle.gate_phase.specs.declared.own.OwnGate.{OwnGate}
use Rattle.gate_phase.proofs.Judging.{entries_of, own_at}
use Rattle.gate_phase.proofs.Numbering.{one_rule}
use Rattle.gate_phase.proofs.Prefix.{front_law}
use Rattle.gate_phase.proofs.RuleLists.{gate_lists}

-- over other right nets they are right too
entries_along : (d : Design) (w : Wiring) (s t : Tables) (u : Rule) (n cell : ℕ) (own : List OwnGate) (es : List GateEntry) → ((x : ℕ) (m : Node) → NetHolds d s cell x m → NetHolds d t cell x m) → AreEntriesOf d w s u n cell own es → AreEntriesOf d w t u n cell own es
entries_along d w s t u n cell own es holds h = record { count = h.count; at = h.at; verdicts = λ i x e a b. along x.least x.shape e.verdict (h.verdicts i x e a b) }
  where
    along : (q : Square) (shape : GateShape) (v : Verdict) → IsVerdictOf d w s u cell q shape v → IsVerdictOf d w t u cell q shape v
    along q (Good f) v (row, e, k) = (row, e, over_wider (NetHolds d s cell) (NetHolds d t cell) holds (counted_device u row) (node_device w u q f) k)
    along q (Bad c) v e = e

module _ (d : Linked) (r : Rules) (s : Tables) (x : Device) (g : RuleGrounds) (n cell : ℕ) (u : Rule) (own : List OwnGate) (v : List Gate) (sound : IsSound d) (right : AreRightNets (plain d) (wiring_of r) s) (reached : IsReached (plain d) cell)
    (there : slice_get (device_rules r) n ≡ Some u) (of_rule : IsOfRule u x) (is : grounds_by (wiring_of r) u ≡ g) (are : AreOwnGates (plain d) (wiring_of r) u cell own) (of : AreGatesOf (IsGateOf (plain d) (wiring_of r) s x g n cell) own v) where
  has_area : (i : ℕ) (y : Gate) → slice_get v i ≡ Some y → HasArea (plain d) r cell y
  has_area i y e z at q =
      let o = own_at (IsGateOf (plain d) (wiring_of r) s x g n cell) own v of i y e in
      let same : z ≡ u = one_rule (slice_get (device_rules r) n) z u (subst (λ k. slice_get (device_rules r) k ≡ Some z) o.2.device at) there in
      let mine = (are.each i o.0 o.1).area q in
      subst (λ (w : Rule). (covers y.area q ≡ true) ↔ InGate (plain d) (geometry (wiring_of r) w) cell y.least q) (sym same)
      (subst (λ (p : Square). (covers y.area q ≡ true) ↔ InGate (plain d) (geometry (wiring_of r) u) cell p q) (sym o.2.least)
      (subst (λ (a : List Rect). (covers a q ≡ true) ↔ InGate (plain d) (geometry (wiring_of r) u) cell o.0.least q) (sym o.2.area) mine))

  pub rule_all : AreRuleGates (plain d) r u n cell v
  rule_all = record {
    own = own;
    are_own = are;
    entries = λ t rt.
        let holds : (k : ℕ) (m : Node) → NetHolds (plain d) s cell k m → NetHolds (plain d) t cell k m =
        λ k m. held_alike (plain d) (wiring_of r) s t (height_at d) cell k m (heights d sound) right rt reached (one_tables d (wiring_of r) s t sound right rt cell reached).nets in
        entries_along (plain d) (wiring_of r) s t u n cell own (map plain_gate v) holds (entries_of (plain d) (wiring_of r) s x g n cell u own v of_rule is of);
    areas = has_area;
  }

map_both : {A B : Type 0} (f : A → B) (xs ys : List A) → map f (xs ++ ys) ≡ map f xs ++ map f ys
map_both f [] ys = refl
map_both f (x ∷ xs) ys = ap (λ l. f x ∷ l) (map_both f xs ys)

each_both : {A : Type 0} (P : A → Type 0) (xs ys : List A) → ((i : ℕ) (x : A) → slice_get xs i ≡ Some x → P x) → ((i : ℕ) (x : A) → slice_get ys i ≡ Some x → P x) → (i : ℕ) (x : A) → slice_get (xs ++ ys) i ≡ Some x → P x
each_both P [] ys f g i x e = g i x e
each_both P (z ∷ xs) ys f g zero x e = f 0 x e
each_both P (z ∷ xs) ys f g (suc i) x e = each_both P xs ys (λ k y h. f (suc k) y h) g i x e

pub go_none : (d : Design) (r : Rules) (cell n : ℕ) → GoOn d r cell n n []
go_none d r cell n = record {
  entries = λ t before right h. subst (λ (l : List Gate). AreGatesTo d (wiring_of r) t (device_rules r) n cell (map plain_gate l)) (sym (append-nil before)) h;
  areas = λ i x e. absurd (none-some x e);
}

-- with those of one rule more
pub go_more : (d : Design) (r : Rules) (cell from n : ℕ) (u : Rule) (old new : List Gate) → slice_get (device_rules r) n ≡ Some u → GoOn d r cell from n old → AreRuleGates d r u n cell new → GoOn d r cell from (n + 1) (old ++ new)
go_more d r cell from n u old new at go more = record {
  entries = λ t before right h.
      let behind = map_both plain_gate (before ++ old) new in
      let one = append_assoc before old new in
      subst (λ (l : List GateEntry). AreGatesTo d (wiring_of r) t (device_rules r) (n + 1) cell l) (sym behind ∙ ap (λ (l : List Gate). map plain_gate l) one)
      (gate_lists.next d (wiring_of r) t (device_rules r) n cell u more.own (map plain_gate (before ++ old)) (map plain_gate new) (go.entries t before right h) at more.are_own (more.entries t right));
  areas = each_both (HasArea d r cell) old new go.areas more.areas;
}

-- with those up to a further number
pub go_both : (d : Design) (r : Rules) (cell from middle to : ℕ) (one other : List Gate) → GoOn d r cell from middle one → GoOn d r cell middle to other → GoOn d r cell from to (one ++ other)
go_both d r cell from middle to one other go on = record {
  entries = λ t before right h.
      subst (λ (l : List Gate). AreGatesTo d (wiring_of r) t (device_rules r) to cell (map plain_gate l)) (append_assoc before one other)
      (on.entries t (before ++ one) right (go.entries t before right h));
  areas = each_both (HasArea d r cell) one other go.areas on.areas;
}

-- the transistors of a cell are those of the first rules
pub mos_cell : (d : Design) (r : Rules) (cell to : ℕ) (v : CellGates) → to ≡ length (mos_rules r) → GoOn d r cell 0 to v.gates.items → AreMosCellGates d r cell v
mos_cell d r cell to v e go = record {
  gates = λ t right.
      (front_law d (wiring_of r) t (mos_rules r) (map (more_rule r) r.more) cell (map plain_gate v.gates.items)).0
      (subst (λ k. AreGatesTo d (wiring_of r) t (device_rules r) k cell (map plain_gate v.gates.items)) e (go.entries t [] right (gate_lists.none d (wiring_of r) t (device_rules r) cell)));
  areas = go.areas;
}

-- and with those of all rules behind them they are the cell's
pub all_cell : (d : Design) (r : Rules) (cell from to : ℕ) (front all : CellGates) (v : List Gate) → from ≡ length (mos_rules r) → to ≡ length (device_rules r) → AreMosCellGates d r cell front → GoOn d r cell from to v → all.gates.items ≡ front.gates.items ++ v
    → AreCellGates d r cell all
all_cell d r cell from to front all v first last h go is = record {
  gates = λ t right.
      let w = wiring_of r in
      let before = (front_law d w t (mos_rules r) (map (more_rule r) r.more) cell (map plain_gate front.gates.items)).1 (h.gates t right) in
      let whole = go.entries t front.gates.items right (subst (λ k. AreGatesTo d w t (device_rules r) k cell (map plain_gate front.gates.items)) (sym first) before) in
      subst (λ (l : List Gate). gates.AreGates d w t (device_rules r) cell (map plain_gate l)) (sym is)
      (gate_lists.all d w t (device_rules r) cell (map plain_gate (front.gates.items ++ v)) (subst (λ k. AreGatesTo d w t (device_rules r) k cell (map plain_gate (front.gates.items ++ v))) last whole));
  areas = subst (λ (l : List Gate). (i : ℕ) (x : Gate) → slice_get l i ≡ Some x → HasArea d r cell x) (sym is) (each_both (HasArea d r cell) front.gates.items v h.areas go.areas);
}
