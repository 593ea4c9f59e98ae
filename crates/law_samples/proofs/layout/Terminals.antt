-- The netlist of the design with transistors, written out.
use Rattle.std.proofs.Common.{◌≡◌, ◌⊎◌, ◌↔◌, inl, inr, ℕ, zero, suc, List, [], ◌∷◌, Option, Some, None, slice_get, refl, sym, ◌∙◌, ap, subst, arith}
use Rattle.std.proofs.lemmas.Option.{same_Some}
use Rattle.geo_base.specs.declared.shapes.Square.{Square}
use Rattle.flat_laws.proofs.Climb.{parts}
use Rattle.flat_laws.proofs.Flat.{flat_regions}
use Rattle.flat_laws.proofs.OneNet.{regions}
use Rattle.flat_layout.specs.Expanded.{IsPartOfNet, ShowsNode}
use Rattle.flat_layout.specs.Nets.{Own, Child, Global, NetHolds}
use Rattle.flat_layout.specs.Regions.{Node, At, Ground, IsNode, InOneRegion, kept, flat}
use Rattle.law_samples.proofs.layout.Columns.{only_at, placed_here, moved_column, top_reached, poly_at, parent_poly, poly_above}
use Rattle.law_samples.proofs.layout.Listing.{each_of_four}
use Rattle.law_samples.proofs.layout.Right.{none_some}
use Rattle.law_samples.proofs.layout.Sides.{top_sides, across_left, across_right, last_side, top_kept}
use Rattle.law_samples.proofs.layout.Whole.{right}
use Rattle.law_samples.proofs.layout.Wires.{node_of, shows, net_at, one_node, wired, net_node, net_has}
use Rattle.law_samples.specs.Expansion.{IsAcrossDevice, IsChildDevice, node_at, top_net, flat_nodes}
use Rattle.law_samples.specs.Sample.{sample_level}
use Rattle.law_samples.specs.Transistors.{mirror_place, at, gate_design, gate_wiring, gate_tables, gate_rules, gate_circuits, row_on, child_circuit, parent_circuit, gate_netlist}
use Rattle.plain_netlist.specs.Devices.{terminal_nets}
use Rattle.plain_netlist.specs.Lists.{IsListed}
use Rattle.plain_netlist.specs.Netlist.{DeviceRow, CallRow, Circuit, IsCall, IsDevice, IsPin, Slot, slot, InOneNet, HasDevice, IsTerminal, IsOnPin}

child_device : (i : ℕ) (row : DeviceRow) → IsDevice gate_netlist 0 i row → (i ≡ 0) × (row ≡ row_on 3 2 0 1)
child_device i row (c, is, e) = only_at (row_on 3 2 0 1) row i (subst (λ (k : Circuit). slice_get k.devices i ≡ Some row) (sym (same_Some _ _ is)) e)

parent_device : (i : ℕ) (row : DeviceRow) → IsDevice gate_netlist 1 i row → (i ≡ 0) × (row ≡ row_on 3 2 0 1)
parent_device i row (c, is, e) = only_at (row_on 3 2 0 1) row i (subst (λ (k : Circuit). slice_get k.devices i ≡ Some row) (sym (same_Some _ _ is)) e)

abbrev call : CallRow
call = record { circuit = 0; nets = 0 ∷ (1 ∷ []) }

one_call : (k : ℕ) (row : CallRow) → IsCall gate_netlist 1 k row → (k ≡ 0) × (row ≡ call)
one_call k row (c, is, e) = only_at call row k (subst (λ (j : Circuit). slice_get j.calls k ≡ Some row) (sym (same_Some _ _ is)) e)

no_call : (k : ℕ) (row : CallRow) → IsCall gate_netlist 0 k row → ⊥
no_call k row (c, is, e) = none_some row (subst (λ (j : Circuit). slice_get j.calls k ≡ Some row) (sym (same_Some _ _ is)) e)

called : (k : ℕ) (row : CallRow) → IsCall gate_netlist 1 k row → row.circuit ≡ 0
called k row h = ap (λ (j : CallRow). j.circuit) (one_call k row h).1

device_out : (path : List ℕ) (i : ℕ) (row : DeviceRow) → HasDevice gate_netlist 1 path i row → IsAcrossDevice path i row ⊎ IsChildDevice path i row
device_out [] i row h = let d = parent_device i row h in inl (refl, d.0, d.1)
device_out (k ∷ []) i row (c, is, h) =
    let d = child_device i row (subst (λ n. IsDevice gate_netlist n i row) (called k c is) h) in
    inr (ap (λ (j : ℕ). j ∷ []) (one_call k c is).0, d.0, d.1)
device_out (k ∷ (j ∷ js)) i row (c, is, h) = absurd (no_call j h.0 (subst (λ n. IsCall gate_netlist n j h.0) (called k c is) h.1))

pub device_in : (path : List ℕ) (i : ℕ) (row : DeviceRow) → IsAcrossDevice path i row ⊎ IsChildDevice path i row → HasDevice gate_netlist 1 path i row
device_in path i row (inl (e, f, g)) =
    let h : HasDevice gate_netlist 1 [] 0 (row_on 3 2 0 1) = (parent_circuit, refl, refl) in
    subst (λ (k : List ℕ). HasDevice gate_netlist 1 k i row) (sym e) (subst (λ j. HasDevice gate_netlist 1 [] j row) (sym f) (subst (HasDevice gate_netlist 1 [] 0) (sym g) h))
device_in path i row (inr (e, f, g)) =
    let h : HasDevice gate_netlist 1 (0 ∷ []) 0 (row_on 3 2 0 1) = (call, (parent_circuit, refl, refl), (child_circuit, refl, refl)) in
    subst (λ (k : List ℕ). HasDevice gate_netlist 1 k i row) (sym e) (subst (λ j. HasDevice gate_netlist 1 (0 ∷ []) j row) (sym f) (subst (HasDevice gate_netlist 1 (0 ∷ []) 0) (sym g) h))

pub devices : (path : List ℕ) (i : ℕ) (row : DeviceRow) → HasDevice gate_netlist 1 path i row ↔ (IsAcrossDevice path i row ⊎ IsChildDevice path i row)
devices path i row = (device_out path i row, device_in path i row)

-- what a terminal's net is and shows
pub record Ends (path : List ℕ) (net : ℕ) : Type 0 where
  pub node : Option ℕ
  pub is : node_at path net ≡ node_of node
  pub there : slice_get (shows 1) (top_net path net) ≡ Some node
  pub back : top_net path net ≡ net_at 1 node
  pub climbs : IsPartOfNet gate_design gate_tables gate_circuits 1 path net (top_net path net)
  pub sees : ShowsNode gate_design gate_tables gate_circuits 1 path net (node_of node)

abbrev IsOnRow : ℕ → Type 0
IsOnRow net = IsListed net (terminal_nets (row_on 3 2 0 1))

across_drain : Ends [] 0
across_drain = record { node = Some 2; is = refl; there = refl; back = refl; climbs = refl; sees = (3, refl, net_has 1 3 3 (Child 0 1) (Some 2) (record { listed = refl; numbered = refl }) refl) }

across_gate : Ends [] 2
across_gate = record { node = Some 1; is = refl; there = refl; back = refl; climbs = refl; sees = (1, refl, net_has 1 1 1 (Own 1 0) (Some 1) (record { listed = refl; numbered = refl }) refl) }

across_source : Ends [] 3
across_source = record { node = Some 0; is = refl; there = refl; back = refl; climbs = refl; sees = (0, refl, net_has 1 0 0 (Own 0 0) (Some 0) (record { listed = refl; numbered = refl }) refl) }

across_bulk : Ends [] 1
across_bulk = record { node = None; is = refl; there = refl; back = refl; climbs = refl; sees = (5, refl, net_has 1 5 6 (Global 0) None (record { listed = refl; numbered = refl }) refl) }

across_ends : (net : ℕ) → IsOnRow net → Ends [] net
across_ends = each_of_four (Ends []) 0 2 3 1 across_drain across_gate across_source across_bulk

child_drain : Ends (0 ∷ []) 0
child_drain = record {
  node = Some 2;
  is = refl;
  there = refl;
  back = refl;
  climbs = (0, mirror_place, refl, placed_here, 1, refl, (3, record { listed = refl; numbered = refl }));
  sees = (0, mirror_place, refl, placed_here, At 0 (at 2), (1, refl, net_has 0 1 1 (Own 0 1) (Some 2) (record { listed = refl; numbered = refl }) refl), ap (At 0) (moved_column mirror_place 2 2 refl refl));
}

child_gate : Ends (0 ∷ []) 2
child_gate = record {
  node = Some 3;
  is = refl;
  there = refl;
  back = refl;
  climbs = (0, mirror_place, refl, placed_here, 2, refl, (4, record { listed = refl; numbered = refl }));
  sees = (0, mirror_place, refl, placed_here, At 1 (at 1), (2, refl, net_has 0 2 2 (Own 1 0) (Some 1) (record { listed = refl; numbered = refl }) refl), ap (At 1) (moved_column mirror_place 1 3 refl refl));
}

child_source : Ends (0 ∷ []) 3
child_source = record {
  node = Some 4;
  is = refl;
  there = refl;
  back = refl;
  climbs = (0, mirror_place, refl, placed_here, 0, refl, (2, record { listed = refl; numbered = refl }));
  sees = (0, mirror_place, refl, placed_here, At 0 (at 0), (0, refl, net_has 0 0 0 (Own 0 0) (Some 0) (record { listed = refl; numbered = refl }) refl), ap (At 0) (moved_column mirror_place 0 4 refl refl));
}

child_bulk : Ends (0 ∷ []) 1
child_bulk = record {
  node = None;
  is = refl;
  there = refl;
  back = refl;
  climbs = (0, mirror_place, refl, placed_here, 3, refl, (5, record { listed = refl; numbered = refl }));
  sees = (0, mirror_place, refl, placed_here, Ground 0, (3, refl, net_has 0 3 3 (Global 0) None (record { listed = refl; numbered = refl }) refl), refl);
}

child_ends : (net : ℕ) → IsOnRow net → Ends (0 ∷ []) net
child_ends = each_of_four (Ends (0 ∷ [])) 0 2 3 1 child_drain child_gate child_source child_bulk

ends_of : (path : List ℕ) (net i : ℕ) (row : DeviceRow) → IsAcrossDevice path i row ⊎ IsChildDevice path i row → IsListed net (terminal_nets row) → Ends path net
ends_of path net i row (inl (e, f, g)) h = subst (λ (k : List ℕ). Ends k net) (sym e) (across_ends net (subst (λ (r : DeviceRow). IsListed net (terminal_nets r)) g h))
ends_of path net i row (inr (e, f, g)) h = subst (λ (k : List ℕ). Ends k net) (sym e) (child_ends net (subst (λ (r : DeviceRow). IsListed net (terminal_nets r)) g h))

ends : (a : Slot) → IsTerminal gate_netlist 1 a → Ends a.path a.net
ends a h = ends_of a.path a.net h.device h.row (device_out a.path h.device h.row h.has) h.on

pub sees : (a : Slot) → IsTerminal gate_netlist 1 a → ShowsNode gate_design gate_tables gate_circuits 1 a.path a.net (node_at a.path a.net)
sees a h = let s = ends a h in subst (ShowsNode gate_design gate_tables gate_circuits 1 a.path a.net) (sym s.is) s.sees

pub climbs : (a : Slot) → IsTerminal gate_netlist 1 a → IsPartOfNet gate_design gate_tables gate_circuits 1 a.path a.net (top_net a.path a.net)
climbs a h = (ends a h).climbs

pub one_number : (a b : Slot) → IsTerminal gate_netlist 1 a → IsTerminal gate_netlist 1 b → InOneNet gate_netlist 1 a b ↔ (top_net a.path a.net ≡ top_net b.path b.net)
one_number a b h g = parts gate_design gate_wiring gate_tables gate_circuits gate_netlist gate_rules 1000 sample_level right 1 1 top_reached refl a b (top_net a.path a.net) (top_net b.path b.net) h g (climbs a h) (climbs b g)

pub one_net : (a b : Slot) → IsTerminal gate_netlist 1 a → IsTerminal gate_netlist 1 b → InOneNet gate_netlist 1 a b ↔ (node_at a.path a.net ≡ node_at b.path b.net)
one_net a b h g =
    let s = ends a h in
    let t = ends b g in
    let same = one_number a b h g in (
      (λ joined. s.is ∙ ap node_of (same_Some _ _ (sym s.there ∙ ap (slice_get (shows 1)) (same.0 joined) ∙ t.there)) ∙ sym t.is),
      (λ e. same.1 (s.back ∙ ap (net_at 1) (one_node s.node t.node (sym s.is ∙ e ∙ t.is)) ∙ sym t.back)),
    )

-- the pins are drain and bulk of the transistor across both
pin_net : (a : ℕ) → IsOnRow a → IsTerminal gate_netlist 1 (slot [] a)
pin_net a on = record { device = 0; row = row_on 3 2 0 1; has = (parent_circuit, refl, refl); on = on }

pin_two : (i n : ℕ) → IsPin gate_netlist 1 i n → (n ≡ 0) ⊎ (n ≡ 1)
pin_two i n (c, is, e) = two i (subst (λ (k : Circuit). slice_get k.pins i ≡ Some n) (sym (same_Some _ _ is)) e)
  where
    two : (i : ℕ) → slice_get (0 ∷ (1 ∷ [])) i ≡ Some n → (n ≡ 0) ⊎ (n ≡ 1)
    two zero e = inl (sym (same_Some _ _ e))
    two (suc zero) e = inr (sym (same_Some _ _ e))
    two (suc (suc i)) e = none_some n e

pub on_pin : (a : Slot) → IsTerminal gate_netlist 1 a → IsOnPin gate_netlist 1 a ↔ ((node_at a.path a.net ≡ Ground 0) ⊎ (node_at a.path a.net ≡ At 0 (at 2)))
on_pin a h = (
  (λ (i, n, pin, joined). elim (pin_two i n pin) [
    | inl e ↦ inr ((one_net a (slot [] 0) h (pin_net 0 (inl refl))).0 (subst (λ k. InOneNet gate_netlist 1 a (slot [] k)) e joined))
    | inr e ↦ inl ((one_net a (slot [] 1) h (pin_net 1 (inr (inr (inr (inl refl)))))).0 (subst (λ k. InOneNet gate_netlist 1 a (slot [] k)) e joined))
  ]),
  (λ e. elim e [
    | inl f ↦ (1, 1, (parent_circuit, refl, refl), (one_net a (slot [] 1) h (pin_net 1 (inr (inr (inr (inl refl)))))).1 f)
    | inr f ↦ (0, 0, (parent_circuit, refl, refl), (one_net a (slot [] 0) h (pin_net 0 (inl refl))).1 f)
  ]),
)

abbrev InTop : Node → Type 0
InTop = IsNode gate_wiring (flat gate_design gate_wiring 1)

side_listed : (q : Square) → (q ≡ at 0) ⊎ ((q ≡ at 2) ⊎ (q ≡ at 4)) → IsListed (At 0 q) flat_nodes
side_listed q (inl e) = inl (ap (At 0) e)
side_listed q (inr (inl e)) = inr (inr (inl (ap (At 0) e)))
side_listed q (inr (inr e)) = inr (inr (inr (inr (inl (ap (At 0) e)))))

gate_listed : (cell : ℕ) (q : Square) → (q ≡ at 1) ⊎ ((cell ≡ 1) × (q ≡ at 3)) → IsListed (At 1 q) flat_nodes
gate_listed cell q (inl e) = inr (inl (ap (At 1) e))
gate_listed cell q (inr (one, e)) = inr (inr (inr (inl (ap (At 1) e))))

node_listed : (n : Node) → InTop n → IsListed n flat_nodes
node_listed (At zero q) h = side_listed q (top_sides q h)
node_listed (At (suc zero) q) h = gate_listed 1 q (poly_at 1 q h)
node_listed (At (suc (suc zero)) q) h = absurd h
node_listed (At (suc (suc (suc c))) q) h = absurd h
node_listed (Ground g) h = let z : g ≡ 0 = omega arith in inr (inr (inr (inr (inr (inl (ap Ground z))))))

listed_node : (n : Node) → IsListed n flat_nodes → InTop n
listed_node n (inl e) = subst InTop (sym e) across_left
listed_node n (inr (inl e)) = subst InTop (sym e) parent_poly
listed_node n (inr (inr (inl e))) = subst InTop (sym e) across_right
listed_node n (inr (inr (inr (inl e)))) = subst InTop (sym e) poly_above
listed_node n (inr (inr (inr (inr (inl e))))) = subst InTop (sym e) last_side
listed_node n (inr (inr (inr (inr (inr (inl e)))))) = subst InTop (sym e) (omega arith)
listed_node n (inr (inr (inr (inr (inr (inr k)))))) = absurd k

pub nodes : (n : Node) → InTop n ↔ IsListed n flat_nodes
nodes n = (node_listed n, listed_node n)

-- the top keeps all that is flat
top_kept_node : (n : Node) → InTop n → IsNode gate_wiring (kept gate_design gate_wiring 1) n
top_kept_node (At zero q) h = top_kept q h
top_kept_node (At (suc zero) q) h = h
top_kept_node (At (suc (suc zero)) q) h = absurd h
top_kept_node (At (suc (suc (suc c))) q) h = absurd h
top_kept_node (Ground g) h = h

held : (n : Node) → InTop n → (x : ℕ) × NetHolds gate_design gate_tables 1 x n
held n h = (regions gate_design gate_wiring gate_tables sample_level wired 1 top_reached).complete n (top_kept_node n h)

pub one_region : (m n : Node) → InTop m → InTop n → InOneRegion gate_wiring (flat gate_design gate_wiring 1) m n ↔ (m ≡ n)
one_region m n h g =
    let a = held m h in
    let b = held n g in
    let s = net_node 1 a.0 m (omega arith) a.1 in
    let t = net_node 1 b.0 n (omega arith) b.1 in
    let same = (flat_regions gate_design gate_wiring gate_tables sample_level wired a.0 b.0 m n a.1 b.1).1 in (
      (λ way. s.1 ∙ ap node_of (same_Some _ _ (sym s.3 ∙ ap (slice_get (shows 1)) (same.1 way) ∙ t.3)) ∙ sym t.1),
      (λ e. same.0 (s.2 ∙ ap (net_at 1) (one_node s.0 t.0 (sym s.1 ∙ e ∙ t.1)) ∙ sym t.2)),
    )
