-- The tables of nets of the design with transistors are right: each net holds one square, or the global.
use Rattle.std.proofs.Common.{◌≡◌, ◌↔◌, inl, inr, ℕ, zero, suc, ◌+◌, ◌<◌, ◌≤◌, List, [], ◌∷◌, Option, Some, None, slice_get, refl, sym, ◌∙◌, ap, subst, arith}
use Rattle.std.proofs.lemmas.Int.{ints}
use Rattle.std.proofs.lemmas.Option.{same_Some}
use Rattle.flat_laws.proofs.Squares.{touch_same}
use Rattle.flat_layout.specs.Layers.{IsLocal}
use Rattle.flat_layout.specs.Layout.{Place}
use Rattle.flat_layout.specs.Nets.{Item, Own, Child, Global, IsOf, HoldsAt, ItemHolds, NetHolds, IsItem, IsItemLink, AreNets, AreOwn, AreTables}
use Rattle.flat_layout.specs.Plane.{IsIn}
use Rattle.flat_layout.specs.Regions.{Node, At, Ground, Touches, moved, formula}
use Rattle.law_samples.proofs.layout.Columns.{no_place, one_place, lower_cell, placed_here, levels, reached_two, moved_column, in_unit, unit_in, one_column, rect_column, column_rect}
use Rattle.law_samples.proofs.layout.Listing.{each_at}
use Rattle.law_samples.proofs.layout.Right.{none_some}
use Rattle.law_samples.proofs.layout.Sides.{local_held, held_local, kept_parted}
use Rattle.law_samples.specs.Sample.{sample_level}
use Rattle.law_samples.specs.Transistors.{at, unit_rect, own_of, mirror_place, gate_design, gate_wiring, nets_of, gate_tables, held}
use Rattle.plain_netlist.proofs.Links.{single}
use Rattle.plain_netlist.specs.Chains.{Reaches, IsChain}
use Rattle.plain_netlist.specs.Lists.{IsListed}

-- even columns belong to conductor 0, odd ones to conductor 1
abbrev pub parity : ℕ → ℕ
parity zero = 0
parity (suc zero) = 1
parity (suc (suc n)) = parity n

-- a column's square, or the global
abbrev pub node_of : Option ℕ → Node
node_of None = Ground 0
node_of (Some x) = At (parity x) (at x)

-- of each net of a cell, what it holds
abbrev pub shows : ℕ → List (Option ℕ)
shows zero = Some 0 ∷ (Some 2 ∷ (Some 1 ∷ (None ∷ [])))
shows (suc zero) = Some 0 ∷ (Some 1 ∷ (Some 4 ∷ (Some 2 ∷ (Some 3 ∷ (None ∷ [])))))
shows (suc (suc n)) = []

-- and the net of each
abbrev pub net_at : ℕ → Option ℕ → ℕ
net_at zero None = 3
net_at zero (Some zero) = 0
net_at zero (Some (suc zero)) = 2
net_at zero (Some (suc (suc x))) = 1
net_at (suc n) None = 5
net_at (suc n) (Some zero) = 0
net_at (suc n) (Some (suc zero)) = 1
net_at (suc n) (Some (suc (suc zero))) = 3
net_at (suc n) (Some (suc (suc (suc zero)))) = 4
net_at (suc n) (Some (suc (suc (suc (suc x))))) = 2

abbrev pub H : ℕ → Item → Node → Type 0
H cell = ItemHolds gate_design gate_tables cell

abbrev pub I : ℕ → Item → Type 0
I cell = IsItem gate_design gate_wiring gate_tables cell

abbrev L : ℕ → Item → Item → Type 0
L cell = IsItemLink gate_design gate_wiring gate_tables cell

pub record Shown (cell net : ℕ) (a : Item) : Type 0 where
  pub node : Option ℕ
  pub item : I cell a
  pub holds : H cell a (node_of node)
  pub there : slice_get (shows cell) net ≡ Some node
  pub back : net ≡ net_at cell node

fit : (cell x net : ℕ) (a b : Item) → Shown cell x a → Some a ≡ Some b → Some x ≡ Some net → Shown cell net b
fit cell x net a b s e f = subst (λ k. Shown cell k b) (same_Some _ _ f) (subst (λ k. Shown cell x k) (same_Some _ _ e) s)

own_holds : (cell c r x : ℕ) → slice_get (own_of cell c) r ≡ Some (unit_rect x) → H cell (Own c r) (At c (at x))
own_holds cell c r x e = record { depth = 0; holds = (at x, unit_rect x, e, unit_in x, refl) }

global_shown : (cell net : ℕ) → slice_get (shows cell) net ≡ Some None → net ≡ net_at cell None → Shown cell net (Global 0)
global_shown cell net e f = record { node = None; item = omega arith; holds = record { depth = 0; holds = refl }; there = e; back = f }

low_shown : (net i : ℕ) (a : Item) → IsOf (nets_of 0) net i a → Shown 0 net a
low_shown net zero a h = fit 0 0 net (Own 0 0) a (record { node = Some 0; item = (omega arith, omega arith); holds = own_holds 0 0 0 0 refl; there = refl; back = refl }) h.listed h.numbered
low_shown net (suc zero) a h = fit 0 1 net (Own 0 1) a (record { node = Some 2; item = (omega arith, omega arith); holds = own_holds 0 0 1 2 refl; there = refl; back = refl }) h.listed h.numbered
low_shown net (suc (suc zero)) a h = fit 0 2 net (Own 1 0) a (record { node = Some 1; item = (omega arith, omega arith); holds = own_holds 0 1 0 1 refl; there = refl; back = refl }) h.listed h.numbered
low_shown net (suc (suc (suc zero))) a h = fit 0 3 net (Global 0) a (global_shown 0 3 refl refl) h.listed h.numbered
low_shown net (suc (suc (suc (suc i)))) a h = none_some a h.listed

child_holds : (b i c r x y : ℕ) → IsOf (nets_of 0) b i (Own c r) → slice_get (own_of 0 c) r ≡ Some (unit_rect x) → x + y ≡ 4 → H 1 (Child 0 b) (At c (at y))
child_holds b i c r x y is e sum = record { depth = 1; holds = (mirror_place, placed_here, i, Own c r, is, At c (at x), (at x, unit_rect x, e, unit_in x, refl), ap (At c) (moved_column mirror_place x y refl sum)) }

child_item : (b : ℕ) → b < 4 → I 1 (Child 0 b)
child_item b lt = (mirror_place, placed_here, lt)

top_shown : (net i : ℕ) (a : Item) → IsOf (nets_of 1) net i a → Shown 1 net a
top_shown net zero a h = fit 1 0 net (Own 0 0) a (record { node = Some 0; item = (omega arith, omega arith); holds = own_holds 1 0 0 0 refl; there = refl; back = refl }) h.listed h.numbered
top_shown net (suc zero) a h = fit 1 1 net (Own 1 0) a (record { node = Some 1; item = (omega arith, omega arith); holds = own_holds 1 1 0 1 refl; there = refl; back = refl }) h.listed h.numbered
top_shown net (suc (suc zero)) a h = fit 1 2 net (Child 0 0) a (record { node = Some 4; item = child_item 0 (omega arith); holds = child_holds 0 0 0 0 0 4 (record { listed = refl; numbered = refl }) refl refl; there = refl; back = refl }) h.listed h.numbered
top_shown net (suc (suc (suc zero))) a h = fit 1 3 net (Child 0 1) a (record { node = Some 2; item = child_item 1 (omega arith); holds = child_holds 1 1 0 1 2 2 (record { listed = refl; numbered = refl }) refl refl; there = refl; back = refl }) h.listed h.numbered
top_shown net (suc (suc (suc (suc zero)))) a h = fit 1 4 net (Child 0 2) a (record { node = Some 3; item = child_item 2 (omega arith); holds = child_holds 2 2 1 0 1 3 (record { listed = refl; numbered = refl }) refl refl; there = refl; back = refl }) h.listed h.numbered
top_shown net (suc (suc (suc (suc (suc zero))))) a h = fit 1 5 net (Child 0 3) a (record { node = None; item = child_item 3 (omega arith); holds = record { depth = 1; holds = (mirror_place, placed_here, 3, Global 0, record { listed = refl; numbered = refl }, Ground 0, refl, refl) }; there = refl; back = refl }) h.listed h.numbered
top_shown net (suc (suc (suc (suc (suc (suc zero)))))) a h = fit 1 5 net (Global 0) a (global_shown 1 5 refl refl) h.listed h.numbered
top_shown net (suc (suc (suc (suc (suc (suc (suc i))))))) a h = none_some a h.listed

pub shown : (cell net i : ℕ) (a : Item) → IsOf (nets_of cell) net i a → Shown cell net a
shown zero net i a h = low_shown net i a h
shown (suc zero) net i a h = top_shown net i a h
shown (suc (suc n)) net i a h = none_some a h.listed

parity_two : (x : ℕ) → parity x < 2
parity_two zero = omega arith
parity_two (suc zero) = omega arith
parity_two (suc (suc n)) = parity_two n

parity_step : (x : ℕ) → parity x ≡ parity (suc x) → ⊥
parity_step zero e = absurd (omega arith)
parity_step (suc zero) e = absurd (omega arith)
parity_step (suc (suc n)) e = parity_step n e

column_parity : (cell c x : ℕ) → IsListed x (held cell c) → c ≡ parity x
column_parity zero zero x (inl e) = ap parity (sym e)
column_parity zero zero x (inr (inl e)) = ap parity (sym e)
column_parity zero zero x (inr (inr n)) = absurd n
column_parity zero (suc zero) x (inl e) = ap parity (sym e)
column_parity zero (suc zero) x (inr n) = absurd n
column_parity zero (suc (suc c)) x h = absurd h
column_parity (suc zero) zero x (inl e) = ap parity (sym e)
column_parity (suc zero) zero x (inr n) = absurd n
column_parity (suc zero) (suc zero) x (inl e) = ap parity (sym e)
column_parity (suc zero) (suc zero) x (inr n) = absurd n
column_parity (suc zero) (suc (suc c)) x h = absurd h
column_parity (suc (suc n)) c x h = absurd h

not_grounded : (x : ℕ) → Touches gate_wiring (node_of (Some x)) (Ground 0) → ⊥
not_grounded x (inl h) = let lt = parity_two x in let e = h.0 in absurd (omega arith)
not_grounded x (inr n) = absurd n

-- nodes that touch are one
pub touching : (s u : Option ℕ) → Touches gate_wiring (node_of s) (node_of u) → s ≡ u
touching None None h = refl
touching (Some x) None h = absurd (not_grounded x h)
touching None (Some x) h = absurd (not_grounded x h)
touching (Some x) (Some y) (inr n, near) = absurd n
touching (Some x) (Some y) (inl j, inl e) = ap Some (one_column x y e)
touching (Some x) (Some y) (inl j, inr (inl (ex, inl ey))) = absurd (omega (arith, ints))
touching (Some x) (Some y) (inl j, inr (inl (ex, inr ey))) = absurd (omega (arith, ints))
touching (Some x) (Some y) (inl j, inr (inr (ey, inl ex))) = let e : suc x ≡ y = omega (arith, ints) in absurd (parity_step x (j ∙ ap parity (sym e)))
touching (Some x) (Some y) (inl j, inr (inr (ey, inr ex))) = let e : suc y ≡ x = omega (arith, ints) in absurd (parity_step y (sym j ∙ ap parity (sym e)))

pub one_node : (s u : Option ℕ) → node_of s ≡ node_of u → s ≡ u
one_node s u e = touching s u (subst (λ k. Touches gate_wiring (node_of s) k) e (touch_same gate_wiring (node_of s)))

-- what an item holds
abbrev pub NodeIs : ℕ → Item → Option ℕ → Type 0
NodeIs cell (Own c r) s = (x : ℕ) × (slice_get (own_of cell c) r ≡ Some (unit_rect x)) × (s ≡ Some x)
NodeIs cell (Child k b) s = (u : Option ℕ) × (slice_get (shows 0) b ≡ Some u) × (moved mirror_place.motion (node_of u) ≡ node_of s)
NodeIs cell (Global g) s = s ≡ None

pub record Seen (cell : ℕ) (a : Item) (n : Node) : Type 0 where
  pub node : Option ℕ
  pub is : n ≡ node_of node
  pub of : NodeIs cell a node

unit_column : (x y : ℕ) → unit_rect x ≡ unit_rect y → x ≡ y
unit_column x y e = one_column x y (in_unit (at x) y (subst (λ k. IsIn (at x) k) e (unit_in x)))

one_of : (cell : ℕ) (a : Item) (s u : Option ℕ) → NodeIs cell a s → NodeIs cell a u → s ≡ u
one_of cell (Own c r) s u h g = h.2 ∙ ap Some (unit_column h.0 g.0 (same_Some _ _ (sym h.1 ∙ g.1))) ∙ sym g.2
one_of cell (Child k b) s u h g = one_node s u (sym h.2 ∙ ap (λ j. moved mirror_place.motion (node_of j)) (same_Some _ _ (sym h.1 ∙ g.1)) ∙ g.2)
one_of cell (Global g) s u h k = h ∙ sym k

seen_own : (cell c r : ℕ) (n : Node) → HoldsAt gate_design gate_tables 0 cell (Own c r) n → Seen cell (Own c r) n
seen_own cell c r n (q, rect, e, i, f) =
    let s = rect_column (held cell c) r rect e in
    let g : q ≡ at s.0 = in_unit q s.0 (subst (λ k. IsIn q k) s.2 i) in
    record {
      node = Some s.0;
      is = sym f ∙ ap (At c) g ∙ ap (λ k. At k (at s.0)) (column_parity cell c s.0 s.1);
      of = (s.0, e ∙ ap Some s.2, refl);
    }

seen_global : (cell g : ℕ) (n : Node) → g < 1 → Ground g ≡ n → Seen cell (Global g) n
seen_global cell g n lt e = let z : g ≡ 0 = omega arith in record { node = None; is = sym e ∙ ap Ground z; of = refl }

seen_low : (depth : ℕ) (a : Item) (n : Node) → I 0 a → HoldsAt gate_design gate_tables depth 0 a n → Seen 0 a n
seen_low zero (Own c r) n item h = seen_own 0 c r n h
seen_low zero (Child k b) n item h = absurd h
seen_low zero (Global g) n item h = seen_global 0 g n item h
seen_low (suc depth) (Own c r) n item h = absurd h
seen_low (suc depth) (Child k b) n item h = absurd (no_place 0 k h.0 refl h.1)
seen_low (suc depth) (Global g) n item h = absurd h

-- what the child's nets hold, seen in the parent
lifted : (b : ℕ) (u : Option ℕ) → slice_get (shows 0) b ≡ Some u → (s : Option ℕ) × (moved mirror_place.motion (node_of u) ≡ node_of s)
lifted = each_at (λ b u. (s : Option ℕ) × (moved mirror_place.motion (node_of u) ≡ node_of s)) (shows 0) ((Some 4, refl), ((Some 2, refl), ((Some 3, refl), ((None, refl), tt))))

moved_as : (p : Place) (n : Node) → p ≡ mirror_place → moved p.motion n ≡ moved mirror_place.motion n
moved_as p n e = ap (λ (k : Place). moved k.motion n) e

seen_child : (depth k b : ℕ) (n : Node) → HoldsAt gate_design gate_tables (suc depth) 1 (Child k b) n → Seen 1 (Child k b) n
seen_child depth k b n (p, placed, i, item, is, m, h, e) =
    let low = lower_cell 1 k p placed in
    let is_low : IsOf (nets_of 0) b i item = subst (λ j. IsOf (nets_of j) b i item) low is in
    let h_low : HoldsAt gate_design gate_tables depth 0 item m = subst (λ j. HoldsAt gate_design gate_tables depth j item m) low h in
    let s = low_shown b i item is_low in
    let v = seen_low depth item m s.item h_low in
    let u = seen_low s.holds.depth item (node_of s.node) s.item s.holds.holds in
    let same : v.node ≡ s.node = one_of 0 item v.node u.node v.of u.of ∙ sym (one_node s.node u.node u.is) in
    let m_is : m ≡ node_of s.node = v.is ∙ ap node_of same in
    let t = lifted b s.node s.there in
    record { node = t.0; is = sym e ∙ ap (moved p.motion) m_is ∙ moved_as p (node_of s.node) (one_place 1 k p placed).2 ∙ t.1; of = (s.node, s.there, t.1) }

pub seen : (cell : ℕ) (a : Item) (n : Node) → cell < 2 → I cell a → H cell a n → Seen cell a n
seen zero a n lt item h = seen_low h.depth a n item h.holds
seen (suc zero) a n lt item h = at_top h.depth a item h.holds
  where
    at_top : (depth : ℕ) (b : Item) → I 1 b → HoldsAt gate_design gate_tables depth 1 b n → Seen 1 b n
    at_top zero (Own c r) item h = seen_own 1 c r n h
    at_top zero (Child k b) item h = absurd h
    at_top zero (Global g) item h = seen_global 1 g n item h
    at_top (suc depth) (Own c r) item h = absurd h
    at_top (suc depth) (Child k b) item h = seen_child depth k b n h
    at_top (suc depth) (Global g) item h = absurd h
seen (suc (suc n)) a m lt item h = absurd (omega arith)

-- a chain's ends hold one node
way : (cell : ℕ) (a b : Item) (via : List Item) (s : Option ℕ) → cell < 2 → I cell a → IsChain (L cell) a via b → H cell a (node_of s) → H cell b (node_of s)
way cell a b [] s lt item e h = subst (λ k. H cell k (node_of s)) e h
way cell a b (x ∷ xs) s lt item (l, rest) h =
    let u = seen cell a (node_of s) lt item h in
    let v = seen cell a l.one lt item l.held in
    let z = seen cell x l.other lt l.to l.others in
    let e : s ≡ v.node = one_node s u.node u.is ∙ one_of cell a u.node v.node u.of v.of in
    let f : v.node ≡ z.node = touching v.node z.node (subst (λ k. Touches gate_wiring (node_of v.node) k) z.is (subst (λ k. Touches gate_wiring k l.other) v.is l.touch)) in
    way cell x b xs s lt l.to rest (subst (H cell x) (z.is ∙ ap node_of (sym (e ∙ f))) l.others)

abbrev IsLow : ℕ → ℕ → ℕ → Type 0
IsLow n i x = (x ≤ i) × (x < n)

low_nets : (i x : ℕ) → slice_get (nets_of 0).net_of i ≡ Some x → IsLow 4 i x
low_nets = each_at (IsLow 4) (nets_of 0).net_of ((omega arith, omega arith), ((omega arith, omega arith), ((omega arith, omega arith), ((omega arith, omega arith), tt))))

top_nets : (i x : ℕ) → slice_get (nets_of 1).net_of i ≡ Some x → IsLow 6 i x
top_nets = each_at (IsLow 6) (nets_of 1).net_of ((omega arith, omega arith), ((omega arith, omega arith), ((omega arith, omega arith), ((omega arith, omega arith), ((omega arith, omega arith), ((omega arith, omega arith), ((omega arith, omega arith), tt)))))))

low_first : (x : ℕ) → x < 4 → slice_get (nets_of 0).net_of x ≡ Some x
low_first zero small = refl
low_first (suc zero) small = refl
low_first (suc (suc zero)) small = refl
low_first (suc (suc (suc zero))) small = refl
low_first (suc (suc (suc (suc x)))) small = absurd (omega arith)

top_first : (x : ℕ) → x < 6 → slice_get (nets_of 1).net_of x ≡ Some x
top_first zero small = refl
top_first (suc zero) small = refl
top_first (suc (suc zero)) small = refl
top_first (suc (suc (suc zero))) small = refl
top_first (suc (suc (suc (suc zero)))) small = refl
top_first (suc (suc (suc (suc (suc zero))))) small = refl
top_first (suc (suc (suc (suc (suc (suc x)))))) small = absurd (omega arith)

joined : (cell : ℕ) → cell < 2 → (i j : ℕ) (a b : Item) (x y : ℕ) → IsOf (nets_of cell) x i a → IsOf (nets_of cell) y j b → (x ≡ y) ↔ Reaches (L cell) a b
joined cell lt i j a b x y h g =
    let s = shown cell x i a h in
    let t = shown cell y j b g in
    let linked : x ≡ y → L cell a b = λ e.
    let f : s.node ≡ t.node = same_Some _ _ (sym s.there ∙ ap (slice_get (shows cell)) e ∙ t.there) in
    record { from = s.item; to = t.item; one = node_of s.node; other = node_of t.node; held = s.holds; others = t.holds; touch = subst (λ k. Touches gate_wiring (node_of s.node) (node_of k)) f (touch_same gate_wiring (node_of s.node)) } in
    let same : Reaches (L cell) a b → x ≡ y = λ r.
    let u = seen cell b (node_of s.node) lt t.item (way cell a b r.via s.node lt s.item r.chain s.holds) in
    let v = seen cell b (node_of t.node) lt t.item t.holds in
    let f : s.node ≡ t.node = one_node s.node u.node u.is ∙ one_of cell b u.node v.node u.of v.of ∙ sym (one_node t.node v.node v.is) in
    s.back ∙ ap (net_at cell) f ∙ sym t.back in
    ((λ e. single (L cell) a b (linked e)), same)

nets : (cell : ℕ) → cell < 2 → AreNets gate_design gate_wiring gate_tables cell (nets_of cell)
nets zero lt = record {
  items = refl;
  numbers = refl;
  joined = joined 0 lt;
  below = λ i x e. (low_nets i x e).1;
  used = λ x small. (x, low_first x small);
  earlier = λ i x y e less. let z = low_nets i x e in let a = z.0 in let b = z.1 in (y, (omega arith), low_first y (omega arith));
}
nets (suc zero) lt = record {
  items = refl;
  numbers = refl;
  joined = joined 1 lt;
  below = λ i x e. (top_nets i x e).1;
  used = λ x small. (x, top_first x small);
  earlier = λ i x y e less. let z = top_nets i x e in let a = z.0 in let b = z.1 in (y, (omega arith), top_first y (omega arith));
}
nets (suc (suc n)) lt = absurd (omega arith)

own_right : (cell c : ℕ) → cell < 2 → AreOwn gate_design gate_wiring gate_tables cell c
own_right cell c lt = record {
  local = λ r rect q e i.
      let s = rect_column (held cell c) r rect e in
      subst (IsLocal gate_design cell (formula gate_wiring c)) (sym (in_unit q s.0 (subst (λ k. IsIn q k) s.2 i))) (held_local cell c s.0 s.1);
  found = λ q h.
      let s = local_held cell c q lt h in
      let t = column_rect s.0 (held cell c) s.1 in
      (t.0, unit_rect s.0, t.1, subst (λ k. IsIn k (unit_rect s.0)) (sym s.2) (unit_in s.0));
  filled = λ r rect e. let s = rect_column (held cell c) r rect e in (at s.0, subst (λ k. IsIn (at s.0) k) (sym s.2) (unit_in s.0));
}

pub wired : AreTables gate_design gate_wiring gate_tables sample_level
wired = record {
  lower = levels.lower;
  parted = λ cell c q reached h. kept_parted cell c q (reached_two cell reached) h;
  own = λ cell c reached. own_right cell c (reached_two cell reached);
  nets = λ cell reached. nets cell (reached_two cell reached);
}

-- a net holds one node
pub net_node : (cell net : ℕ) (n : Node) → cell < 2 → NetHolds gate_design gate_tables cell net n → (s : Option ℕ) × (n ≡ node_of s) × (net ≡ net_at cell s) × (slice_get (shows cell) net ≡ Some s)
net_node cell net n lt h =
    let s = shown cell net h.index h.item h.is_of in
    let u = seen cell h.item n lt s.item h.holds in
    let v = seen cell h.item (node_of s.node) lt s.item s.holds in
    let f : u.node ≡ s.node = one_of cell h.item u.node v.node u.of v.of ∙ sym (one_node s.node v.node v.is) in
    (s.node, u.is ∙ ap node_of f, s.back, s.there)

pub net_has : (cell net i : ℕ) (a : Item) (s : Option ℕ) → IsOf (nets_of cell) net i a → slice_get (shows cell) net ≡ Some s → NetHolds gate_design gate_tables cell net (node_of s)
net_has cell net i a s h e =
    let v = shown cell net i a h in
    record { index = i; item = a; is_of = h; holds = subst (λ k. H cell a (node_of k)) (same_Some _ _ (sym v.there ∙ e)) v.holds }
