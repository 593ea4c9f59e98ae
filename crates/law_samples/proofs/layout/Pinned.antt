-- Which nets of the design with transistors are drawn, and which are pins.
use Rattle.std.proofs.Common.{◌≡◌, ◌⊎◌, ◌↔◌, inl, inr, ℕ, zero, suc, ◌<◌, true, false, List, [], ◌∷◌, Option, Some, None, slice_get, refl, sym, ◌∙◌, ap, subst, arith}
use Rattle.std.proofs.lemmas.Int.{ints}
use Rattle.std.proofs.lemmas.Option.{same_Some}
use Rattle.geo_base.specs.declared.shapes.Square.{Square}
use Rattle.flat_layout.specs.Circuits.{IsDrawn, IsDrawnBelow}
use Rattle.flat_layout.specs.GateTables.{GateRow, GoodGate, gate_nets}
use Rattle.flat_layout.specs.Layout.{Cell, HasText, Some_of, Text}
use Rattle.flat_layout.specs.Nets.{Item, Child, Global, IsOf, NetHolds}
use Rattle.flat_layout.specs.Pins.{HasGate, IsMarked, IsMarkedNet, IsNetOf, IsPinNet, IsTextOn, IsUsed, IsUsedAbove}
use Rattle.flat_layout.specs.Plane.{IsCorner}
use Rattle.flat_layout.specs.Regions.{Node, At, Ground}
use Rattle.law_samples.proofs.layout.Columns.{only_at, one_place, lower_cell, placed_here, no_place, top_reached}
use Rattle.law_samples.proofs.layout.Listing.{each_of_four}
use Rattle.law_samples.proofs.layout.Right.{none_some}
use Rattle.law_samples.proofs.layout.Wires.{node_of, parity, net_at, net_node, net_has}
use Rattle.law_samples.specs.Transistors.{at, drain_text, parent, mirror_place, gate_design, gate_wiring, nets_of, gate_tables, child_gate, across_gate, gates_of, pins_of, drawn_of}
use Rattle.plain_netlist.specs.Lists.{IsListed}

-- a good gate in column 1
abbrev pub good : GateRow → GoodGate
good row = record { at = record { rule = 0; square = at 1 }; row = row }

pub not_true : {B : Type 0} → Some false ≡ Some true → B
not_true e = absurd (let z : ⊥ = cc in z)

-- a gate's terminals are drawn
pub gate_drawn : (cell x : ℕ) → HasGate gates_of cell x → IsDrawn drawn_of cell x
gate_drawn zero x (i, gate, e, on) =
    each_of_four (IsDrawn drawn_of 0) 1 2 0 3 refl refl refl refl x (subst (λ (g : GoodGate). IsListed x (gate_nets g.row)) (only_at (good child_gate) gate i e).1 on)
gate_drawn (suc zero) x (i, gate, e, on) =
    each_of_four (IsDrawn drawn_of 1) 3 1 0 5 refl refl refl refl x (subst (λ (g : GoodGate). IsListed x (gate_nets g.row)) (only_at (good across_gate) gate i e).1 on)
gate_drawn (suc (suc n)) x (i, gate, e, on) = none_some gate e

pub drawn_gate : (cell x : ℕ) → IsDrawn drawn_of cell x → HasGate gates_of cell x
drawn_gate zero zero h = (0, good child_gate, refl, inr (inr (inl refl)))
drawn_gate zero (suc zero) h = (0, good child_gate, refl, inl refl)
drawn_gate zero (suc (suc zero)) h = (0, good child_gate, refl, inr (inl refl))
drawn_gate zero (suc (suc (suc zero))) h = (0, good child_gate, refl, inr (inr (inr (inl refl))))
drawn_gate zero (suc (suc (suc (suc x)))) h = none_some true h
drawn_gate (suc zero) zero h = (0, good across_gate, refl, inr (inr (inl refl)))
drawn_gate (suc zero) (suc zero) h = (0, good across_gate, refl, inr (inl refl))
drawn_gate (suc zero) (suc (suc zero)) h = not_true h
drawn_gate (suc zero) (suc (suc (suc zero))) h = (0, good across_gate, refl, inl refl)
drawn_gate (suc zero) (suc (suc (suc (suc zero)))) h = not_true h
drawn_gate (suc zero) (suc (suc (suc (suc (suc zero))))) h = (0, good across_gate, refl, inr (inr (inr (inl refl))))
drawn_gate (suc zero) (suc (suc (suc (suc (suc (suc x)))))) h = none_some true h
drawn_gate (suc (suc n)) x h = none_some true h

-- the parent's net of each net of the child
abbrev above : List ℕ
above = 2 ∷ (3 ∷ (4 ∷ (5 ∷ [])))

pub child_net : (k b i x : ℕ) → IsOf (nets_of 1) x i (Child k b) → slice_get above b ≡ Some x
child_net k b zero x h = let e = h.listed in absurd (let z : ⊥ = cc in z)
child_net k b (suc zero) x h = let e = h.listed in absurd (let z : ⊥ = cc in z)
child_net k b (suc (suc zero)) x h = let e = h.listed in let f : 0 ≡ b = cc in subst (λ j. slice_get above j ≡ Some x) f h.numbered
child_net k b (suc (suc (suc zero))) x h = let e = h.listed in let f : 1 ≡ b = cc in subst (λ j. slice_get above j ≡ Some x) f h.numbered
child_net k b (suc (suc (suc (suc zero)))) x h = let e = h.listed in let f : 2 ≡ b = cc in subst (λ j. slice_get above j ≡ Some x) f h.numbered
child_net k b (suc (suc (suc (suc (suc zero))))) x h = let e = h.listed in let f : 3 ≡ b = cc in subst (λ j. slice_get above j ≡ Some x) f h.numbered
child_net k b (suc (suc (suc (suc (suc (suc zero)))))) x h = let e = h.listed in absurd (let z : ⊥ = cc in z)
child_net k b (suc (suc (suc (suc (suc (suc (suc i))))))) x h = none_some (Child k b) h.listed

below_drawn : (u x : ℕ) → slice_get above u ≡ Some x → IsPinNet pins_of 0 u → IsDrawn drawn_of 0 u → IsDrawn drawn_of 1 x
below_drawn zero x e pin drawn = not_true pin
below_drawn (suc zero) x e pin drawn = subst (IsDrawn drawn_of 1) (same_Some _ _ e) refl
below_drawn (suc (suc zero)) x e pin drawn = not_true pin
below_drawn (suc (suc (suc zero))) x e pin drawn = subst (IsDrawn drawn_of 1) (same_Some _ _ e) refl
below_drawn (suc (suc (suc (suc u)))) x e pin drawn = none_some x e

pub drawn_from : (cell x : ℕ) → cell < 2 → IsDrawnBelow gate_design gate_tables pins_of drawn_of cell x → IsDrawn drawn_of cell x
drawn_from zero x lt h = absurd (no_place 0 h.number h.place refl h.placed)
drawn_from (suc zero) x lt h =
    let low = lower_cell 1 h.number h.place h.placed in
    below_drawn h.net x (child_net h.number h.net h.is_of.0 x h.is_of.1) (subst (λ k. IsPinNet pins_of k h.net) low h.is_pin) (subst (λ k. IsDrawn drawn_of k h.net) low h.is_drawn)
drawn_from (suc (suc n)) x lt h = absurd (omega arith)

-- the one text
pub only_text : (cell : ℕ) (text : Text) → HasText gate_design cell text → (cell ≡ 1) × (text ≡ drain_text)
only_text zero text (c, e, h) = absurd (subst (λ (x : Cell). Some_of (λ t. t ≡ text) x.texts) (sym (same_Some _ _ e)) h)
only_text (suc zero) text (c, e, h) = elim (subst (λ (x : Cell). Some_of (λ t. t ≡ text) x.texts) (sym (same_Some _ _ e)) h) [ inl same ↦ (refl, sym same) | inr n ↦ absurd n ]
only_text (suc (suc n)) text (c, e, h) = none_some c e

abbrev square_of : Node → Square
square_of (At c q) = q
square_of (Ground g) = at 0

abbrev conductor_of : Node → ℕ
conductor_of (At c q) = c
conductor_of (Ground g) = 0

at_corner : (x : ℕ) → 0 ≡ parity x → IsCorner drain_text.at (at x) → x ≡ 2
at_corner x even h = elim h.x [
  | inl e ↦ omega (arith, ints)
  | inr e ↦ let one : x ≡ 1 = omega (arith, ints) in let odd : parity x ≡ 1 = ap parity one in absurd (omega arith)
]

-- it names the side in column 2
on_text : (c : ℕ) (text : Text) (q : Square) (x : ℕ) → IsTextOn gate_design gate_wiring 1 c q text → At c q ≡ node_of (Some x) → x ≡ 2
on_text c text q x on e =
    let is : text ≡ drain_text = (only_text 1 text on.has).1 in
    let square : q ≡ at x = ap square_of e in
    let conductor : c ≡ parity x = ap conductor_of e in
    elim on.line [
      | inl (k, zero_is) ↦ at_corner x (zero_is ∙ conductor) (subst (λ (t : Text). IsCorner t.at (at x)) is (subst (λ z. IsCorner text.at z) square on.corner))
      | inr n ↦ absurd n
    ]

-- only nets with the global or the text are marked
abbrev pub IsMarkable : ℕ → ℕ → Type 0
IsMarkable cell x = (x ≡ net_at cell None) ⊎ ((cell ≡ 1) × (x ≡ 3))

text_above : (c x : ℕ) (q : Square) (text : Text) (s : Option ℕ) → IsTextOn gate_design gate_wiring 1 c q text → At c q ≡ node_of s → x ≡ net_at 1 s → x ≡ 3
text_above c x q text None on e f = cc
text_above c x q text (Some y) on e f = f ∙ ap (λ k. net_at 1 (Some k)) (on_text c text q y on e)

pub text_net : (cell c x : ℕ) (q : Square) (text : Text) → cell < 2 → NetHolds gate_design gate_tables cell x (At c q) → IsTextOn gate_design gate_wiring cell c q text → (cell ≡ 1) × (x ≡ 3)
text_net cell c x q text lt h on =
    let one : cell ≡ 1 = (only_text cell text on.has).0 in
    let s = net_node cell x (At c q) lt h in
    (one, text_above c x q text s.0 (subst (λ k. IsTextOn gate_design gate_wiring k c q text) one on) s.1 (s.2 ∙ ap (λ k. net_at k s.0) one))

pub global_net : (cell x g : ℕ) → cell < 2 → NetHolds gate_design gate_tables cell x (Ground g) → x ≡ net_at cell None
global_net cell x g lt h = let s = net_node cell x (Ground g) lt h in of_node s.0 s.1 s.2
  where
    of_node : (s : Option ℕ) → Ground g ≡ node_of s → x ≡ net_at cell s → x ≡ net_at cell None
    of_node None e f = f
    of_node (Some y) e f = absurd (let z : ⊥ = cc in z)

marked_at : (cell x : ℕ) (n : Node) → cell < 2 → NetHolds gate_design gate_tables cell x n → IsMarked gate_design gate_wiring cell n → IsMarkable cell x
marked_at cell x (At c q) lt h m = inr (text_net cell c x q m.0 lt h m.1)
marked_at cell x (Ground g) lt h m = inl (global_net cell x g lt h)

marked_net : (cell x : ℕ) → cell < 2 → IsMarkedNet gate_design gate_wiring gate_tables cell x → IsMarkable cell x
marked_net cell x lt h = marked_at cell x h.node lt h.holds h.marked

-- the nets of the child's first transistor alone have one item in the parent
one_item : (x i : ℕ) (a : Item) → IsOf (nets_of 1) x i a → (x ≡ 2 → a ≡ Child 0 0) × (x ≡ 4 → a ≡ Child 0 2)
one_item x zero a h = let f : 0 ≡ x = same_Some _ _ h.numbered in ((λ e. absurd (omega arith)), (λ e. absurd (omega arith)))
one_item x (suc zero) a h = let f : 1 ≡ x = same_Some _ _ h.numbered in ((λ e. absurd (omega arith)), (λ e. absurd (omega arith)))
one_item x (suc (suc zero)) a h = let f : 2 ≡ x = same_Some _ _ h.numbered in ((λ e. sym (same_Some _ _ h.listed)), (λ e. absurd (omega arith)))
one_item x (suc (suc (suc zero))) a h = let f : 3 ≡ x = same_Some _ _ h.numbered in ((λ e. absurd (omega arith)), (λ e. absurd (omega arith)))
one_item x (suc (suc (suc (suc zero)))) a h = let f : 4 ≡ x = same_Some _ _ h.numbered in ((λ e. absurd (omega arith)), (λ e. sym (same_Some _ _ h.listed)))
one_item x (suc (suc (suc (suc (suc zero))))) a h = let f : 5 ≡ x = same_Some _ _ h.numbered in ((λ e. absurd (omega arith)), (λ e. absurd (omega arith)))
one_item x (suc (suc (suc (suc (suc (suc zero)))))) a h = let f : 5 ≡ x = same_Some _ _ h.numbered in ((λ e. absurd (omega arith)), (λ e. absurd (omega arith)))
one_item x (suc (suc (suc (suc (suc (suc (suc i))))))) a h = none_some a h.listed

unused_side : IsUsed gate_tables gates_of pins_of 1 (Child 0 0) 2 → ⊥
unused_side (inl (other, differs, is)) = differs ((one_item 2 is.0 other is.1).0 refl)
unused_side (inr (inl g)) = not_true (gate_drawn 1 2 g)
unused_side (inr (inr pin)) = not_true pin

unused_gate : IsUsed gate_tables gates_of pins_of 1 (Child 0 2) 4 → ⊥
unused_gate (inl (other, differs, is)) = differs ((one_item 4 is.0 other is.1).1 refl)
unused_gate (inr (inl g)) = not_true (gate_drawn 1 4 g)
unused_gate (inr (inr pin)) = not_true pin

-- what is used above is used by the one placement
record IsUsedThere (b x : ℕ) : Type 0 where
  net : slice_get above b ≡ Some x
  used : IsUsed gate_tables gates_of pins_of 1 (Child 0 b) x

used_there : (b cell k x : ℕ) → cell ≡ 1 → k ≡ 0 → IsNetOf (nets_of cell) (Child k b) x → IsUsed gate_tables gates_of pins_of cell (Child k b) x → IsUsedThere b x
used_there b cell k x e f is used =
    let is_one : IsNetOf (nets_of 1) (Child k b) x = subst (λ j. IsNetOf (nets_of j) (Child k b) x) e is in
    record {
      net = child_net k b is_one.0 x is_one.1;
      used = subst (λ j. IsUsed gate_tables gates_of pins_of 1 (Child j b) x) f (subst (λ j. IsUsed gate_tables gates_of pins_of j (Child k b) x) e used);
    }

used_by : (b : ℕ) (h : IsUsedAbove gate_design gate_tables gates_of pins_of 0 b) → IsUsedThere b h.net
used_by b h = let one = one_place h.parent h.number h.place h.placed in used_there b h.parent h.number h.net one.0 one.1 h.is_of h.used

side_unused : IsUsedAbove gate_design gate_tables gates_of pins_of 0 0 → ⊥
side_unused h = let u = used_by 0 h in let e : 2 ≡ h.net = same_Some _ _ u.net in unused_side (subst (λ j. IsUsed gate_tables gates_of pins_of 1 (Child 0 0) j) (sym e) u.used)

gate_unused : IsUsedAbove gate_design gate_tables gates_of pins_of 0 2 → ⊥
gate_unused h = let u = used_by 2 h in let e : 4 ≡ h.net = same_Some _ _ u.net in unused_gate (subst (λ j. IsUsed gate_tables gates_of pins_of 1 (Child 0 2) j) (sym e) u.used)

top_unused : (b : ℕ) → IsUsedAbove gate_design gate_tables gates_of pins_of 1 b → ⊥
top_unused b h = let low = lower_cell h.parent h.number h.place h.placed in let e = h.here in absurd (omega arith)

used_side : IsUsedAbove gate_design gate_tables gates_of pins_of 0 1
used_side = record { parent = 1; number = 0; place = mirror_place; net = 3; reached = top_reached; placed = placed_here; here = refl; is_of = (3, record { listed = refl; numbered = refl }); used = inr (inl (0, good across_gate, refl, inl refl)) }

child_marked : IsMarkedNet gate_design gate_wiring gate_tables 0 3
child_marked = record { node = Ground 0; holds = net_has 0 3 3 (Global 0) None (record { listed = refl; numbered = refl }) refl; marked = tt }

top_marked : IsMarkedNet gate_design gate_wiring gate_tables 1 5
top_marked = record { node = Ground 0; holds = net_has 1 5 6 (Global 0) None (record { listed = refl; numbered = refl }) refl; marked = tt }

-- the text stands on the side in column 2
pub drain_on : IsTextOn gate_design gate_wiring 1 0 (at 2) drain_text
drain_on = record { has = (parent, refl, inl refl); line = inl (refl, refl); corner = record { x = inl refl; y = inl refl } }

pub drain_holds : NetHolds gate_design gate_tables 1 3 (At 0 (at 2))
drain_holds = net_has 1 3 3 (Child 0 1) (Some 2) (record { listed = refl; numbered = refl }) refl

top_named : IsMarkedNet gate_design gate_wiring gate_tables 1 3
top_named = record { node = At 0 (at 2); holds = drain_holds; marked = (drain_text, drain_on) }

abbrev IsWanted : ℕ → ℕ → Type 0
IsWanted cell b = IsMarkedNet gate_design gate_wiring gate_tables cell b ⊎ IsUsedAbove gate_design gate_tables gates_of pins_of cell b

top_plain : (b : ℕ) → b < 5 → (b ≡ 3 → ⊥) → IsWanted 1 b → ⊥
top_plain b lt not (inl m) = elim (marked_net 1 b (omega arith) m) [ inl e ↦ absurd (omega arith) | inr (one, e) ↦ not e ]
top_plain b lt not (inr u) = top_unused b u

side_plain : IsWanted 0 0 → ⊥
side_plain (inl m) = elim (marked_net 0 0 (omega arith) m) [ inl e ↦ absurd (omega arith) | inr (e, f) ↦ absurd (omega arith) ]
side_plain (inr u) = side_unused u

gate_plain : IsWanted 0 2 → ⊥
gate_plain (inl m) = elim (marked_net 0 2 (omega arith) m) [ inl e ↦ absurd (omega arith) | inr (e, f) ↦ absurd (omega arith) ]
gate_plain (inr u) = gate_unused u

pub pins : (cell b : ℕ) → b < (gate_tables.nets cell).count → IsPinNet pins_of cell b ↔ IsWanted cell b
pins zero zero lt = ((λ h. not_true h), (λ h. absurd (side_plain h)))
pins zero (suc zero) lt = ((λ h. inr used_side), (λ h. refl))
pins zero (suc (suc zero)) lt = ((λ h. not_true h), (λ h. absurd (gate_plain h)))
pins zero (suc (suc (suc zero))) lt = ((λ h. inl child_marked), (λ h. refl))
pins zero (suc (suc (suc (suc b)))) lt = absurd (omega arith)
pins (suc zero) zero lt = ((λ h. not_true h), (λ h. absurd (top_plain 0 (omega arith) (λ e. absurd (omega arith)) h)))
pins (suc zero) (suc zero) lt = ((λ h. not_true h), (λ h. absurd (top_plain 1 (omega arith) (λ e. absurd (omega arith)) h)))
pins (suc zero) (suc (suc zero)) lt = ((λ h. not_true h), (λ h. absurd (top_plain 2 (omega arith) (λ e. absurd (omega arith)) h)))
pins (suc zero) (suc (suc (suc zero))) lt = ((λ h. inl top_named), (λ h. refl))
pins (suc zero) (suc (suc (suc (suc zero)))) lt = ((λ h. not_true h), (λ h. absurd (top_plain 4 (omega arith) (λ e. absurd (omega arith)) h)))
pins (suc zero) (suc (suc (suc (suc (suc zero))))) lt = ((λ h. inl top_marked), (λ h. refl))
pins (suc zero) (suc (suc (suc (suc (suc (suc b)))))) lt = absurd (omega arith)
pins (suc (suc n)) b lt = absurd (omega arith)
