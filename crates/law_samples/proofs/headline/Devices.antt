-- The two devices of the flat layout.
use Rattle.std.proofs.Common.{◌≡◌, ◌⊎◌, inl, inr, ℕ, zero, suc, [], ◌∷◌, refl, sym, ◌∙◌, ap, subst, arith}
use Rattle.std.proofs.lemmas.Option.{same_Some}
use Rattle.flat_layout.specs.GateTables.{GateSquare}
use Rattle.flat_layout.specs.Gates.{IsGoodGate, IsTerminalNode, Region, Rule, Sides, TwoGroups}
use Rattle.flat_layout.specs.Layers.{InFlat}
use Rattle.flat_layout.specs.Regions.{At, Ground, Node}
use Rattle.law_samples.proofs.layout.Columns.{column_above, only_at, poly_above}
use Rattle.law_samples.proofs.layout.Lone.{edge_to, form, gate_at, gate_self, group_self, InG, InS, left_at, right_at}
use Rattle.law_samples.proofs.layout.Right.{none_some}
use Rattle.law_samples.proofs.layout.Sides as sides
use Rattle.law_samples.specs.Transistors.{at, gate_design, gate_rules, gate_wiring, nmos, rule}
use Rattle.headline_laws.specs.FlatNetlist.{IsFlatDevice}
use Rattle.law_samples.specs.Matched.{TwoDevicesLaw}
use Rattle.geo_base.specs.declared.shapes.Square.{Square}
use Rattle.plain_netlist.specs.declared.kinds.DeviceKind.TheVariants.{Mos4}
use Rattle.plain_netlist.specs.Devices.{Both, First, IsAt, Other, Row, Second, Terminal}

abbrev spot : ℕ → GateSquare
spot x = record { rule = 0; square = at x }

abbrev Device : GateSquare → Type 0
Device g = (row : Row Node) × IsFlatDevice gate_design gate_wiring gate_rules 1000 g row

abbrev device_on : ℕ → Row Node
device_on m = record {
  kind = Mos4;
  class = nmos;
  sizes = 1000000 ∷ 1000000 ∷ [];
  ends = Both (At 0 (left_at m)) (At 0 (right_at m));
  others = At 1 (gate_at m) ∷ Ground 0 ∷ [];
}

nodes : (m : ℕ) → InG 1 (gate_at m) → (t : Terminal) (n : Node) → IsAt t (device_on m) n → IsTerminalNode gate_design gate_wiring rule 1 (gate_at m) (TwoGroups (edge_to m (left_at m)) (edge_to m (right_at m))) t n
nodes m gate First n (other, (e, f)) = (left_at m, group_self 1 (gate_at m) (left_at m), sym e)
nodes m gate Second n (other, (e, f)) = (right_at m, group_self 1 (gate_at m) (right_at m), sym f)
nodes m gate (Other zero) n e = (gate_at m, gate_self 1 (gate_at m) (gate_at m) gate refl, same_Some (At 1 (gate_at m)) n e)
nodes m gate (Other (suc zero)) n e = inl (0, refl, same_Some (Ground 0) n e)
nodes m gate (Other (suc (suc j))) n e = none_some n e

-- a gate between two sides is a device
device : (m : ℕ) → InG 1 (gate_at m) → InS 1 (left_at m) → InS 1 (right_at m) → Device (record { rule = 0; square = gate_at m })
device m gate left right = (
  device_on m,
  record {
    rule = rule;
    is = refl;
    sides = TwoGroups (edge_to m (left_at m)) (edge_to m (right_at m));
    twice_w = 2;
    twice_l = 2;
    good = form 1 m gate left right;
    kind = refl;
    class = refl;
    sizes = refl;
    formed = record { ends = refl; others = refl; sizes = refl };
    nodes = nodes m gate;
  },
)

last_gate : InG 1 (at 3)
last_gate = (column_above 0 1 3 (omega arith) (omega arith) (inr (inl refl)), poly_above)

same_spot : (g : GateSquare) (x : ℕ) → g.rule ≡ 0 → g.square ≡ at x → g ≡ spot x
same_spot g x r e = ap (λ (k : ℕ). let v : GateSquare = record { rule = k; square = g.square } in v) r ∙ ap (λ (q : Square). let v : GateSquare = record { rule = 0; square = q } in v) e

-- a good transistor's square is one of the gates' layer
on_gate : (s : Square) (sides : Sides) (w l : ℕ) → IsGoodGate gate_design gate_wiring rule 1 s sides w l → InFlat gate_design 1 rule.gate s
on_gate s Region w l good = absurd good
on_gate s (TwoGroups e f) w l good = (good.groups.each e (inl refl)).border.inside.from

out : (g : GateSquare) → Device g → (g ≡ spot 1) ⊎ (g ≡ spot 3)
out g (row, h) =
    let one = only_at rule h.rule g.rule h.is in
    let good = subst (λ (r : Rule). IsGoodGate gate_design gate_wiring r 1 g.square h.sides h.twice_w h.twice_l) one.1 h.good in
    elim (sides.gates_odd 1 g.square (on_gate g.square h.sides h.twice_w h.twice_l good)) [
      | inl e ↦ inl (same_spot g 1 one.0 e)
      | inr (top, e) ↦ inr (same_spot g 3 one.0 e)
    ]

into : (g : GateSquare) → (g ≡ spot 1) ⊎ (g ≡ spot 3) → Device g
into g (inl e) = subst Device (sym e) (device 0 sides.across_gate sides.across_left sides.across_right)
into g (inr e) = subst Device (sym e) (device 1 last_gate sides.across_right sides.last_side)

pub two_devices : TwoDevicesLaw
two_devices g = (out g, into g)
