-- The devices of the layout whose body is shrunk: one square, with an end left and right of it.
use Rattle.std.proofs.Common.{◌≡◌, ◌⊎◌, ◌↔◌, inl, inr, ℕ, zero, suc, ◌<◌, List, [], ◌∷◌, Some, slice_get, length, pos, negsuc, ◌+ℤ◌, refl, sym, ◌∙◌, ap, subst, arith}
use Rattle.std.proofs.lemmas.Int.{ints}
use Rattle.std.proofs.lemmas.Option.{same_Some}
use Rattle.geo_base.specs.declared.layer.LayerKey.{LayerKey}
use Rattle.geo_base.specs.declared.shapes.Square.{Square}
use Rattle.flat_laws.proofs.Once.{top_settled}
use Rattle.flat_laws.proofs.Squares.{same_square}
use Rattle.flat_layout.specs.Gates.{gate_inputs, gate_reach, Geometry, IsGoodGate, IsListedGate, IsTerminalNode, Rule}
use Rattle.flat_layout.specs.GateTables.{GateSquare}
use Rattle.flat_layout.specs.Layers.{InFlat, Input}
use Rattle.flat_layout.specs.Layout.{Cell, InFlatInput, IsOwn, IsPlaced, Layer, Place, Some_of, Takes}
use Rattle.flat_layout.specs.Parts.{AreGroupsOf, Edge, InGroupOf, InPart, InSideOf, IsBorderOf, IsLongOf, IsStep, IsWideOf, Region, Sides, TwoGroups}
use Rattle.flat_layout.specs.Plane.{AreWithin, IsIn, SharesEdge}
use Rattle.flat_layout.specs.Regions.{At, Ground, Node}
use Rattle.law_samples.proofs.layout.Right.{none_some}
use Rattle.law_samples.specs.Shrunk.{body_rect, diode_row, diode_rule, IsDevice, left, left_rect, middle, resistor_row, resistor_rule, right, right_rect, shrunk, ShrunkDevicesLaw, ShrunkLaw, small_cell, small_design, small_wiring, spot}
use Rattle.law_samples.specs.Transistors.{key_of}
use Rattle.plain_netlist.proofs.Links.{stays}
use Rattle.plain_netlist.specs.Chains.{IsChain}
use Rattle.plain_netlist.specs.Devices.{First, IsAt, Other, Row, Second, Terminal}
use Rattle.plain_netlist.specs.Lists.{AreApart, IsListed}

-- ---- what is drawn

unplaced : (cell k : ℕ) (p : Place) → IsPlaced small_design cell k p → ⊥
unplaced zero k p (c, e, f) =
    let g : c ≡ small_cell = cc in
    let h : slice_get small_cell.places k ≡ Some p = subst (λ (x : Cell). slice_get x.places k ≡ Some p) g f in none_some p h
unplaced (suc n) k p (c, e, f) = none_some c e

here_by : (key : LayerKey) (q : Square) (path : List ℕ) (end : ℕ) (s : Square) → Takes small_design 0 path end s q → IsOwn small_design end key s → IsOwn small_design 0 key q
here_by key q [] end s (e, f) own = subst (λ (n : ℕ). IsOwn small_design n key q) (sym e) (subst (IsOwn small_design end key) f own)
here_by key q (k ∷ ks) end s (p, placed, r, rest, e) own = absurd (unplaced 0 k p placed)

abbrev Covers : ℕ → Square → List Layer → Type 0
Covers c q layers = Some_of (λ (l : Layer). (l.key ≡ key_of c) × Some_of (IsIn q) l.rects) layers

-- only the cell itself is flat in it
here : (c : ℕ) (q : Square) → InFlatInput small_design 0 (key_of c) q → Covers c q small_cell.layers
here c q h =
    let own = here_by (key_of c) q h.path h.end h.square h.takes h.own in
    let g : own.0 ≡ small_cell = sym (same_Some small_cell own.0 own.1) in
    subst (λ (k : Cell). Covers c q k.layers) g own.2

drawn : (c : ℕ) (q : Square) → Covers c q small_cell.layers → InFlatInput small_design 0 (key_of c) q
drawn c q h = record { path = []; end = 0; square = q; takes = (refl, refl); own = (small_cell, refl, h) }

one_key : (a b : ℕ) → key_of a ≡ key_of b → a ≡ b
one_key a b e = ap (λ (k : LayerKey). k.layer) e

body_of : (q : Square) → Covers 0 q small_cell.layers → IsIn q body_rect
body_of q (inl (e, inl i)) = i
body_of q (inl (e, inr n)) = absurd n
body_of q (inr (inl (e, i))) = let f = one_key 1 0 e in absurd (omega arith)
body_of q (inr (inr n)) = absurd n

ends_of : (q : Square) → Covers 1 q small_cell.layers → IsIn q left_rect ⊎ IsIn q right_rect
ends_of q (inl (e, i)) = let f = one_key 0 1 e in absurd (omega arith)
ends_of q (inr (inl (e, inl i))) = inl i
ends_of q (inr (inl (e, inr (inl i)))) = inr i
ends_of q (inr (inl (e, inr (inr n)))) = absurd n
ends_of q (inr (inr n)) = absurd n

abbrev Body : Square → Type 0
Body = InFlat small_design 0 (Input (key_of 0))

abbrev Ends : Square → Type 0
Ends = InFlat small_design 0 (Input (key_of 1))

body_on : (q : Square) → IsIn q body_rect → Body q
body_on q i = drawn 0 q (inl (refl, inl i))

left_on : Ends left
left_on = drawn 1 left (inr (inl (refl, inl (omega (arith, ints), omega (arith, ints), omega (arith, ints), omega (arith, ints)))))

right_on : Ends right
right_on = drawn 1 right (inr (inl (refl, inr (inl (omega (arith, ints), omega (arith, ints), omega (arith, ints), omega (arith, ints))))))

in_left : (q : Square) → IsIn q left_rect → q ≡ left
in_left q (a, b, c, d) = same_square q left (omega (arith, ints)) (omega (arith, ints))

in_right : (q : Square) → IsIn q right_rect → q ≡ right
in_right q (a, b, c, d) = same_square q right (omega (arith, ints)) (omega (arith, ints))

two_ends : (q : Square) → Ends q → (q ≡ left) ⊎ (q ≡ right)
two_ends q h = elim (ends_of q (here 1 q h)) [ inl i ↦ inl (in_left q i) | inr i ↦ inr (in_right q i) ]

-- ---- what stays of the body

abbrev Shrunk : Square → Type 0
Shrunk = InFlat small_design 0 shrunk

around_middle : (z : Square) → AreWithin 1 z middle → IsIn z body_rect
around_middle z near =
    let a = near.left in
    let b = near.right in
    let c = near.low in
    let d = near.high in (omega (arith, ints), omega (arith, ints), omega (arith, ints), omega (arith, ints))

middle_stays : Shrunk middle
middle_stays = λ z near. body_on z (around_middle z near)

between : (q p r : Square) → p.x +ℤ pos 1 ≡ q.x → p.y +ℤ pos 1 ≡ q.y → r.x ≡ q.x +ℤ pos 1 → r.y ≡ q.y +ℤ pos 1 → IsIn p body_rect → IsIn r body_rect → q ≡ middle
between q p r e f g h (a, b, c, d) (i, j, k, l) = same_square q middle (omega (arith, ints)) (omega (arith, ints))

is_middle : (q : Square) → Shrunk q → q ≡ middle
is_middle q h =
    let p : Square = record { x = q.x +ℤ negsuc 0; y = q.y +ℤ negsuc 0 } in
    let r : Square = record { x = q.x +ℤ pos 1; y = q.y +ℤ pos 1 } in
    between q p r (omega (arith, ints)) (omega (arith, ints)) refl refl
    (body_of p (here 0 p (h p (record { left = omega (arith, ints); right = omega (arith, ints); low = omega (arith, ints); high = omega (arith, ints) }))))
    (body_of r (here 0 r (h r (record { left = omega (arith, ints); right = omega (arith, ints); low = omega (arith, ints); high = omega (arith, ints) }))))

abbrev Part : Square → Type 0
Part = InPart Shrunk middle

beside_self : SharesEdge middle middle → ⊥
beside_self (inl (e, inl f)) = absurd (omega (arith, ints))
beside_self (inl (e, inr f)) = absurd (omega (arith, ints))
beside_self (inr (e, inl f)) = absurd (omega (arith, ints))
beside_self (inr (e, inr f)) = absurd (omega (arith, ints))

part_chain : (via : List Square) (q : Square) → IsChain (IsStep Shrunk) middle via q → middle ≡ q
part_chain [] q e = e
part_chain (x ∷ xs) q (step, rest) = absurd (beside_self (subst (λ (k : Square). SharesEdge middle k) (is_middle x step.to) step.edge))

part_is : (q : Square) → Part q → middle ≡ q
part_is q h = part_chain h.joined.via q h.joined.chain

part_has : Part middle
part_has = record { from = middle_stays; joined = stays (IsStep Shrunk) middle middle refl }

-- ---- listed once

abbrev geo : List LayerKey → ℕ → Geometry
geo keys reach = record { region = shrunk; keys = keys; reach = reach }

listed_middle : (keys : List LayerKey) (reach : ℕ) → IsListedGate small_design (geo keys reach) 0 middle
listed_middle keys reach = record {
  settled = top_settled small_design (geo keys reach) (λ n. 0) (λ cell k p placed. absurd (unplaced cell k p placed)) middle middle_stays;
  new = λ below. unplaced 0 below.number below.place below.placed;
}

listed : (keys : List LayerKey) (reach : ℕ) (q : Square) → IsListedGate small_design (geo keys reach) 0 q ↔ (q ≡ middle)
listed keys reach q = (λ h. is_middle q h.settled.is, λ e. subst (IsListedGate small_design (geo keys reach) 0) (sym e) (listed_middle keys reach))

pub shrunk_alone : ShrunkLaw
shrunk_alone = (
  λ q. (is_middle q, λ e. subst Shrunk (sym e) middle_stays),
  listed (gate_inputs small_wiring resistor_rule) (gate_reach small_wiring resistor_rule),
  listed (gate_inputs small_wiring diode_rule) (gate_reach small_wiring diode_rule),
)

-- ---- its edges

abbrev up : Square
up = record { x = pos 1; y = pos 2 }

abbrev down : Square
down = record { x = pos 1; y = pos 0 }

abbrev edge : Square → Edge
edge q = record { inner = middle; outer = q }

edge_is : (e : Edge) (q : Square) → middle ≡ e.inner → e.outer ≡ q → e ≡ edge q
edge_is e q a b = ap (λ (v : Square). let k : Edge = record { inner = v; outer = e.outer } in k) (sym a) ∙ ap edge b

abbrev sides : List Edge
sides = edge left ∷ edge right ∷ []

abbrev others : List Edge
others = edge up ∷ edge down ∷ []

abbrev all : List Edge
all = edge left ∷ edge right ∷ others

beside : (q : Square) → SharesEdge middle q → (q ≡ left) ⊎ ((q ≡ right) ⊎ ((q ≡ up) ⊎ (q ≡ down)))
beside q (inl (e, inl f)) = inr (inr (inl (same_square q up (sym e) (omega (arith, ints)))))
beside q (inl (e, inr f)) = inr (inr (inr (same_square q down (sym e) (omega (arith, ints)))))
beside q (inr (e, inl f)) = inr (inl (same_square q right (omega (arith, ints)) (sym e)))
beside q (inr (e, inr f)) = inl (same_square q left (omega (arith, ints)) (sym e))

border : (q : Square) → (middle ≡ q → ⊥) → SharesEdge middle q → IsBorderOf Part (edge q)
border q other shares = record { inside = part_has; outside = λ h. other (part_is q h); edge = shares }

left_border : IsBorderOf Part (edge left)
left_border = border left (λ e. let f = ap (λ (k : Square). k.x) e in absurd (omega (arith, ints))) (inr (refl, inr (omega (arith, ints))))

right_border : IsBorderOf Part (edge right)
right_border = border right (λ e. let f = ap (λ (k : Square). k.x) e in absurd (omega (arith, ints))) (inr (refl, inl (omega (arith, ints))))

up_border : IsBorderOf Part (edge up)
up_border = border up (λ e. let f = ap (λ (k : Square). k.y) e in absurd (omega (arith, ints))) (inl (refl, inl (omega (arith, ints))))

down_border : IsBorderOf Part (edge down)
down_border = border down (λ e. let f = ap (λ (k : Square). k.y) e in absurd (omega (arith, ints))) (inl (refl, inr (omega (arith, ints))))

listed_by : (e : Edge) → middle ≡ e.inner → (e.outer ≡ left) ⊎ ((e.outer ≡ right) ⊎ ((e.outer ≡ up) ⊎ (e.outer ≡ down))) → IsListed e all
listed_by e g (inl f) = inl (edge_is e left g f)
listed_by e g (inr (inl f)) = inr (inl (edge_is e right g f))
listed_by e g (inr (inr (inl f))) = inr (inr (inl (edge_is e up g f)))
listed_by e g (inr (inr (inr f))) = inr (inr (inr (inl (edge_is e down g f))))

border_listed : (e : Edge) → IsBorderOf Part e → IsListed e all
border_listed e b =
    let g = part_is e.inner b.inside in
    listed_by e g (beside e.outer (subst (λ (k : Square). SharesEdge k e.outer) (sym g) b.edge))

listed_border : (e : Edge) → IsListed e all → IsBorderOf Part e
listed_border e (inl f) = subst (IsBorderOf Part) (sym f) left_border
listed_border e (inr (inl f)) = subst (IsBorderOf Part) (sym f) right_border
listed_border e (inr (inr (inl f))) = subst (IsBorderOf Part) (sym f) up_border
listed_border e (inr (inr (inr (inl f)))) = subst (IsBorderOf Part) (sym f) down_border
listed_border e (inr (inr (inr (inr n)))) = absurd n

-- no two of these squares are one
outer : (a b : Square) → edge a ≡ edge b → a ≡ b
outer a b e = ap (λ (k : Edge). k.outer) e

left_right : left ≡ right → ⊥
left_right e = let f = ap (λ (k : Square). k.x) e in absurd (omega (arith, ints))

left_of : (q : Square) → q.x ≡ pos 1 → left ≡ q → ⊥
left_of q x e = let f = ap (λ (k : Square). k.x) e in absurd (omega (arith, ints))

right_of : (q : Square) → q.x ≡ pos 1 → right ≡ q → ⊥
right_of q x e = let f = ap (λ (k : Square). k.x) e in absurd (omega (arith, ints))

up_down : up ≡ down → ⊥
up_down e = let f = ap (λ (k : Square). k.y) e in absurd (omega (arith, ints))

others_apart : AreApart others
others_apart = ((λ l. elim l [ inl e ↦ up_down (outer up down e) | inr n ↦ n ]), ((λ l. l), tt))

sides_apart : AreApart sides
sides_apart = ((λ l. elim l [ inl e ↦ left_right (outer left right e) | inr n ↦ n ]), ((λ l. l), tt))

right_other : IsListed (edge right) others → ⊥
right_other (inl e) = right_of up refl (outer right up e)
right_other (inr (inl e)) = right_of down refl (outer right down e)
right_other (inr (inr n)) = n

left_other : IsListed (edge left) (edge right ∷ others) → ⊥
left_other (inl e) = left_right (outer left right e)
left_other (inr (inl e)) = left_of up refl (outer left up e)
left_other (inr (inr (inl e))) = left_of down refl (outer left down e)
left_other (inr (inr (inr n))) = n

all_apart : AreApart all
all_apart = (left_other, (right_other, others_apart))

-- ---- two of them lead to the ends

abbrev Wide : Edge → Type 0
Wide = IsWideOf Part Ends

abbrev Long : Edge → Type 0
Long = IsLongOf Part Ends

wide_listed : (e : Edge) → Wide e → IsListed e sides
wide_listed e h =
    let g = part_is e.inner h.border.inside in
    elim (two_ends e.outer h.sd) [ inl f ↦ inl (edge_is e left g f) | inr f ↦ inr (inl (edge_is e right g f)) ]

listed_wide : (e : Edge) → IsListed e sides → Wide e
listed_wide e (inl f) = subst Wide (sym f) (record { border = left_border; sd = left_on })
listed_wide e (inr (inl f)) = subst Wide (sym f) (record { border = right_border; sd = right_on })
listed_wide e (inr (inr n)) = absurd n

no_end : (q : Square) → q.x ≡ pos 1 → Ends q → ⊥
no_end q x h = elim (two_ends q h) [ inl e ↦ left_of q x (sym e) | inr e ↦ right_of q x (sym e) ]

long_by : (e : Edge) → (Ends e.outer → ⊥) → IsListed e all → IsListed e others
long_by e other (inl f) = absurd (other (subst Ends (sym (ap (λ (k : Edge). k.outer) f)) left_on))
long_by e other (inr (inl f)) = absurd (other (subst Ends (sym (ap (λ (k : Edge). k.outer) f)) right_on))
long_by e other (inr (inr l)) = l

long_listed : (e : Edge) → Long e → IsListed e others
long_listed e h = long_by e h.other (border_listed e h.border)

listed_long : (e : Edge) → IsListed e others → Long e
listed_long e (inl f) = subst Long (sym f) (record { border = up_border; other = no_end up refl })
listed_long e (inr (inl f)) = subst Long (sym f) (record { border = down_border; other = no_end down refl })
listed_long e (inr (inr n)) = absurd n

-- ---- each end is a group of one square

abbrev Group : Square → Square → Type 0
Group = InGroupOf Part Ends

far : (p q : Square) → p.y ≡ q.y → (p.x +ℤ pos 1 ≡ q.x → ⊥) → (q.x +ℤ pos 1 ≡ p.x → ⊥) → SharesEdge p q → ⊥
far p q e a b (inl (x, inl f)) = absurd (omega (arith, ints))
far p q e a b (inl (x, inr f)) = absurd (omega (arith, ints))
far p q e a b (inr (y, inl f)) = a f
far p q e a b (inr (y, inr f)) = b f

ends_apart : (p q : Square) → (p ≡ left) ⊎ (p ≡ right) → (q ≡ left) ⊎ (q ≡ right) → SharesEdge p q → ⊥
ends_apart p q (inl e) (inl f) h = far left left refl (λ g. absurd (omega (arith, ints))) (λ g. absurd (omega (arith, ints))) (subst (λ (k : Square). SharesEdge left k) f (subst (λ (k : Square). SharesEdge k q) e h))
ends_apart p q (inl e) (inr f) h = far left right refl (λ g. absurd (omega (arith, ints))) (λ g. absurd (omega (arith, ints))) (subst (λ (k : Square). SharesEdge left k) f (subst (λ (k : Square). SharesEdge k q) e h))
ends_apart p q (inr e) (inl f) h = far right left refl (λ g. absurd (omega (arith, ints))) (λ g. absurd (omega (arith, ints))) (subst (λ (k : Square). SharesEdge right k) f (subst (λ (k : Square). SharesEdge k q) e h))
ends_apart p q (inr e) (inr f) h = far right right refl (λ g. absurd (omega (arith, ints))) (λ g. absurd (omega (arith, ints))) (subst (λ (k : Square). SharesEdge right k) f (subst (λ (k : Square). SharesEdge k q) e h))

group_chain : (p : Square) (via : List Square) (q : Square) → IsChain (IsStep (InSideOf Part Ends)) p via q → p ≡ q
group_chain p [] q e = e
group_chain p (x ∷ xs) q (step, rest) = absurd (ends_apart p x (two_ends p step.from.sd) (two_ends x step.to.sd) step.edge)

group_is : (p q : Square) → Group p q → p ≡ q
group_is p q h = group_chain p h.via q h.chain

group_self : (p : Square) → Group p p
group_self p = stays (IsStep (InSideOf Part Ends)) p p refl

one_side : (a b : Edge) → IsListed a sides → IsListed b sides → a.outer ≡ b.outer → a ≡ b
one_side a b (inl e) (inl f) g = e ∙ sym f
one_side a b (inl e) (inr (inl f)) g = absurd (left_right (sym (ap (λ (k : Edge). k.outer) e) ∙ g ∙ ap (λ (k : Edge). k.outer) f))
one_side a b (inr (inl e)) (inl f) g = absurd (left_right (sym (ap (λ (k : Edge). k.outer) f) ∙ sym g ∙ ap (λ (k : Edge). k.outer) e))
one_side a b (inr (inl e)) (inr (inl f)) g = e ∙ sym f
one_side a b (inl e) (inr (inr n)) g = absurd n
one_side a b (inr (inl e)) (inr (inr n)) g = absurd n
one_side a b (inr (inr n)) l g = absurd n

groups : AreGroupsOf Part Ends sides
groups = record {
  each = listed_wide;
  found = λ a h. (a, wide_listed a h, group_self a.outer);
  one = λ a b k l r. one_side a b k l (group_is a.outer b.outer r);
  apart = sides_apart;
}

-- ---- the devices

abbrev two : Sides
two = TwoGroups (edge left) (edge right)

end_on : (q : Square) → Group left q ⊎ Group right q → Ends q
end_on q (inl h) = subst Ends (group_is left q h) left_on
end_on q (inr h) = subst Ends (group_is right q h) right_on

good_resistor : IsGoodGate small_design small_wiring resistor_rule 0 middle two 2 2
good_resistor = record {
  groups = groups;
  wide = record { all = sides; apart = sides_apart; each = λ a. (wide_listed a, listed_wide a); count = refl };
  long = record { all = others; apart = others_apart; each = λ a. (long_listed a, listed_long a); count = refl };
  some = omega arith;
  gate_on = λ q h. tt;
  ends_on = end_on;
  bulk_on = λ e. absurd (let z : ⊥ = cc in z);
}

middle_body : Body middle
middle_body = body_on middle (omega (arith, ints), omega (arith, ints), omega (arith, ints), omega (arith, ints))

good_diode : IsGoodGate small_design small_wiring diode_rule 0 middle Region 1 8
good_diode = record {
  area = record {
    all = middle ∷ [];
    apart = ((λ l. l), tt);
    each = λ a. (λ h. inl (sym (part_is a h)), λ l. elim l [ inl e ↦ subst Part (sym e) part_has | inr n ↦ absurd n ]);
    count = refl;
  };
  some = omega arith;
  edges = 4;
  border = record { all = all; apart = all_apart; each = λ a. (border_listed a, listed_border a); count = refl };
  twice = refl;
  ends_on = λ free q h. subst Body (part_is q h) middle_body;
  bulk_on = λ e. absurd (let z : ⊥ = cc in z);
}

resistor_nodes : (t : Terminal) (n : Node) → IsAt t resistor_row n → IsTerminalNode small_design small_wiring resistor_rule 0 middle two t n
resistor_nodes First n (other, (e, f)) = (left, group_self left, sym e)
resistor_nodes Second n (other, (e, f)) = (right, group_self right, sym f)
resistor_nodes (Other zero) n e = inl (0, refl, same_Some (Ground 0) n e)
resistor_nodes (Other (suc j)) n e = none_some n e

diode_nodes : (t : Terminal) (n : Node) → IsAt t diode_row n → IsTerminalNode small_design small_wiring diode_rule 0 middle Region t n
diode_nodes First n (other, h) = absurd h
diode_nodes Second n (other, h) = absurd h
diode_nodes (Other zero) n e = inr (refl, (middle, part_has, same_Some (At 1 middle) n e))
diode_nodes (Other (suc zero)) n e = inl (0, refl, same_Some (Ground 0) n e)
diode_nodes (Other (suc (suc j))) n e = none_some n e

resistor : IsDevice (spot 0) resistor_row
resistor = record {
  rule = resistor_rule;
  is = refl;
  sides = two;
  twice_w = 2;
  twice_l = 2;
  good = good_resistor;
  kind = refl;
  class = refl;
  sizes = refl;
  formed = record { ends = refl; others = refl; sizes = refl };
  nodes = resistor_nodes;
}

diode : IsDevice (spot 1) diode_row
diode = record {
  rule = diode_rule;
  is = refl;
  sides = Region;
  twice_w = 1;
  twice_l = 8;
  good = good_diode;
  kind = refl;
  class = refl;
  sizes = refl;
  formed = record { ends = refl; others = refl; sizes = refl };
  nodes = diode_nodes;
}

-- a good region has a square of the shrunk body
some_listed : (xs : List Square) → 0 < length xs → (x : Square) × IsListed x xs
some_listed [] lt = absurd (omega arith)
some_listed (x ∷ xs) lt = (x, inl refl)

resistor_on : (s : Square) (v : Sides) (w l : ℕ) → IsGoodGate small_design small_wiring resistor_rule 0 s v w l → Shrunk s
resistor_on s Region w l good = absurd good
resistor_on s (TwoGroups e f) w l good = (good.groups.each e (inl refl)).border.inside.from

diode_on : (s : Square) (v : Sides) (w l : ℕ) → IsGoodGate small_design small_wiring diode_rule 0 s v w l → Shrunk s
diode_on s (TwoGroups e f) w l good = absurd good
diode_on s Region w l good =
    let some : 0 < length good.area.all = subst (λ (n : ℕ). 0 < n) (sym good.area.count) good.some in
    let one = some_listed good.area.all some in ((good.area.each one.0).1 one.1).from

one_of : (n : ℕ) (u : Rule) (s : Square) (v : Sides) (w l : ℕ) → slice_get (resistor_rule ∷ diode_rule ∷ []) n ≡ Some u → IsGoodGate small_design small_wiring u 0 s v w l → ((n ≡ 0) ⊎ (n ≡ 1)) × (s ≡ middle)
one_of zero u s v w l e good = (inl refl, is_middle s (resistor_on s v w l (subst (λ (r : Rule). IsGoodGate small_design small_wiring r 0 s v w l) (sym (same_Some resistor_rule u e)) good)))
one_of (suc zero) u s v w l e good = (inr refl, is_middle s (diode_on s v w l (subst (λ (r : Rule). IsGoodGate small_design small_wiring r 0 s v w l) (sym (same_Some diode_rule u e)) good)))
one_of (suc (suc n)) u s v w l e good = none_some u e

same_spot : (g : GateSquare) (k : ℕ) → g.rule ≡ k → g.square ≡ middle → g ≡ spot k
same_spot g k r e = ap (λ (n : ℕ). let v : GateSquare = record { rule = n; square = g.square } in v) r ∙ ap (λ (q : Square). let v : GateSquare = record { rule = k; square = q } in v) e

two_devices : (g : GateSquare) (row : Row Node) → IsDevice g row → (g ≡ spot 0) ⊎ (g ≡ spot 1)
two_devices g row h =
    let one = one_of g.rule h.rule g.square h.sides h.twice_w h.twice_l h.is h.good in
    elim one.0 [ inl e ↦ inl (same_spot g 0 e one.1) | inr e ↦ inr (same_spot g 1 e one.1) ]

pub shrunk_devices : ShrunkDevicesLaw
shrunk_devices = (resistor, diode, two_devices)
