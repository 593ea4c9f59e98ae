-- Why wrong variants aren't right.
use Rattle.std.proofs.Common.{◌≡◌, inl, inr, ℕ, zero, suc, List, [], ◌∷◌, ◌++◌, Some, slice_get, length, refl, sym, ◌∙◌, ap, subst, arith}
use Rattle.std.proofs.lemmas.Int.{ints}
use Rattle.std.proofs.lemmas.Option.{same_Some}
use Rattle.std.specs.List.{All}
use Rattle.geo_base.specs.Rects.{IsRect}
use Rattle.geo_base.specs.declared.shapes.Rect.{Rect}
use Rattle.geo_base.specs.declared.shapes.Square.{Square}
use Rattle.rect_sets.proofs.Single.{few_canonical}
use Rattle.flat_layout.specs.Gates.{Sides, TwoGroups, Region, IsGoodGate, IsSourceFirst, IsTerminalNode}
use Rattle.flat_layout.specs.GateTables.{GateEntry, IsGateRow, counted_device}
use Rattle.flat_layout.specs.Layout.{IsReached}
use Rattle.flat_layout.specs.Nets.{AreListed, IsItemLink, IsOf, Item, NetHolds, Own, run}
use Rattle.flat_layout.specs.Plane.{IsSquareBefore}
use Rattle.flat_layout.specs.Regions.{At, Node}
use Rattle.law_samples.proofs.layout.Columns.{only_at, placed_here}
use Rattle.law_samples.proofs.layout.Lone.{group_is}
use Rattle.law_samples.proofs.layout.Right.{none_some, right}
use Rattle.law_samples.proofs.layout.Sides as sides
use Rattle.law_samples.proofs.layout.Wires.{net_node, node_of, shows}
use Rattle.law_samples.specs.Refused.{ChildNetsLaw, copied_tables, ExchangedLaw, FurtherCircuitLaw, long_call, LongCallLaw, named, OtherNameLaw, SecondCopyLaw}
use Rattle.law_samples.specs.Sample.{child_rect, nets_of, parent, place, sample_design, sample_tables, sample_wiring}
use Rattle.law_samples.specs.Transistors.{at, entry, gate_design, gate_on, gate_tables, gate_wiring, mirror_place, rule}
use Rattle.plain_netlist.proofs.Links.{stays}
use Rattle.plain_netlist.specs.Lists.{IsListed}
use Rattle.plain_netlist.specs.Devices.{Terminal, First, Second, IsAt}
use Rattle.table_laws.proofs.Tabled.{one_own}

child_reached : IsReached sample_design 0
child_reached = record { path = 0 ∷ []; leads = (place, (parent, refl, refl), refl) }

one_net : (net i : ℕ) (item : Item) → IsOf (nets_of 0) net i item → (net ≡ 0) × (Own 0 0 ≡ item)
one_net net zero item h = let e = h.listed in let f = h.numbered in ((let g : net ≡ 0 = cc in g), (let g : Own 0 0 ≡ item = cc in g))
one_net net (suc i) item h = none_some item h.listed

one_of : (i x : ℕ) → slice_get (0 ∷ []) i ≡ Some x → x ≡ 0
one_of i x e = (only_at 0 x i e).1

all_child : All IsRect (child_rect ∷ [])
all_child zero d lt = record { wide = omega (arith, ints); high = omega (arith, ints) }
all_child (suc k) d lt = absurd (omega arith)

listed : AreListed sample_design sample_wiring sample_tables 0 0
listed = record { own = right.own 0 0 child_reached; canonical = few_canonical (child_rect ∷ []) all_child (omega arith) }

pub child_nets : ChildNetsLaw
child_nets t h =
    let e : child_rect ∷ [] ≡ t.own 0 0 = one_own sample_design sample_wiring sample_tables t 0 0 listed (h.own 0 0 ([], refl)) in
    record {
      items = ap (λ (l : List Rect). (run (Own 0) 0 (length l) ++ []) ++ []) e;
      numbers = refl;
      joined = λ i j a b x y k g. let s = one_net x i a k in let u = one_net y j b g in ((λ m. stays (IsItemLink sample_design sample_wiring t 0) a b (sym s.1 ∙ u.1)), (λ way. s.0 ∙ sym u.0));
      below = λ i x k. let z = one_of i x k in omega arith;
      used = λ x lt. let z : x ≡ 0 = omega arith in (0, ap Some (sym z));
      earlier = λ i x y k lt. let z = one_of i x k in absurd (omega arith);
    }

pub second_copy : SecondCopyLaw
second_copy = (
  listed,
  (λ h.
      let e : child_rect ∷ [] ≡ child_rect ∷ (child_rect ∷ []) = one_own sample_design sample_wiring sample_tables copied_tables 0 0 listed h in
      let f : ◌≡◌ {A = ℕ} 1 2 = ap (λ (l : List Rect). length l) e in
      absurd (omega arith)),
)

pub long_call_wrong : LongCallLaw
long_call_wrong h =
    let c = h.circuits.each 1 1 long_call refl refl in
    let e = (c.has_calls.each 0 0 mirror_place _ refl placed_here refl).count in
    absurd (omega arith)

pub other_name_wrong : OtherNameLaw
other_name_wrong name other h =
    let c = h.circuits.each 1 1 (named name) refl refl in
    other (sym (same_Some _ _ c.has_name))

pub further_wrong : FurtherCircuitLaw
further_wrong x h = let e = h.circuits.count in absurd (omega arith)

-- what the source and the drain are of an exchanged row
source_square : (n : Node) (q : Square) (x y net : ℕ) → At 0 q ≡ n → NetHolds gate_design gate_tables 0 net n → slice_get (shows 0) net ≡ Some (Some x) → q ≡ at x
source_square n q x y net e holds is =
    let s = net_node 0 net n (omega arith) holds in
    let same : s.0 ≡ Some x = same_Some _ _ (sym s.3 ∙ is) in
    ap square_of (e ∙ s.1 ∙ ap node_of same)
  where
    square_of : Node → Square
    square_of (At c q) = q
    square_of n = at 0

not_first : (row : IsGateRow gate_design gate_wiring gate_tables rule 0 (at 1) (gate_on 1 2 0 3)) → ⊥
not_first row = by row.sides row.good row.first row.nets
  where
    not : IsSquareBefore (at 2) (at 0) → ⊥
    not (inl h) = omega (arith, ints)
    not (inr (e, h)) = omega (arith, ints)

    by : (sides : Sides) → IsGoodGate gate_design gate_wiring rule 0 (at 1) sides 2 2 → IsSourceFirst gate_design gate_wiring rule 0 (at 1) sides
        → ((t : Terminal) (x : ℕ) → IsAt t (counted_device rule (gate_on 1 2 0 3)) x → (n : Node) × IsTerminalNode gate_design gate_wiring rule 0 (at 1) sides t n × NetHolds gate_design gate_tables 0 x n) → ⊥
    by Region good first nets = good
    by (TwoGroups e f) good (p, in_first, before) nets =
        let (n, (q, in_source, x), holds) = nets First 1 (0, (refl, refl)) in
        let (m, (r, in_drain, y), held) = nets Second 0 (1, (refl, refl)) in
        let two : q ≡ at 2 = source_square n q 2 0 1 x holds refl in
        let zero_is : r ≡ at 0 = source_square m r 0 0 0 y held refl in
        let first : p ≡ at 2 = sym (group_is 0 0 e.outer p sides.child_gate in_first) ∙ group_is 0 0 e.outer q sides.child_gate in_source ∙ two in
        let less : IsSquareBefore (at 2) (at 0) = subst (λ z. IsSquareBefore z (at 0)) first (subst (λ z. IsSquareBefore p z) zero_is (before r in_drain)) in
        not less

gate_child : IsReached gate_design 0
gate_child = record { path = 0 ∷ []; leads = (mirror_place, placed_here, refl) }

pub exchanged_wrong : ExchangedLaw
exchanged_wrong g nl is h =
    let x = (h.gates 0 gate_child).each (entry (gate_on 1 2 0 3)) (subst (λ (v : List GateEntry). IsListed (entry (gate_on 1 2 0 3)) v) (sym is) (inl refl)) in
    let same = (only_at rule x.rule 0 x.is).1 in
    not_first (subst (λ r. IsGateRow gate_design gate_wiring gate_tables r 0 (at 1) (gate_on 1 2 0 3)) same x.verdict)
