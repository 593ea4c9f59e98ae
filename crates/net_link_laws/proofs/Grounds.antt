-- Links to globals stand for all links by globals.
use Rattle.std.proofs.Common.{◌≡◌, inl, inr, ℕ, zero, ◌<◌, [], Some, slice_get, get_or, length, pos, refl, sym, ◌∙◌, ap, subst}
use Rattle.std.proofs.lemmas.Option.{slice_get_within, slice_get-get_or}
use Rattle.flat_laws.proofs.Items.{items_sound, items_complete}
use Rattle.flat_laws.proofs.Squares.{touch_back}
use Rattle.flat_layout.specs.Layout.{Place, Design}
use Rattle.flat_layout.specs.Nets.{Item, Own, Child, Global, CellNets, Tables, IsOf, ItemHolds, NetHolds, IsItem, IsItemLink, AreNets, AreRightBelow}
use Rattle.flat_layout.specs.Regions.{Wiring, Node, At, Ground, Touches, IsGrounded, moved}
use Rattle.geo_base.specs.declared.shapes.Rect.{Rect}
use Rattle.net_link_laws.proofs.Held.{no_square, no_global, global_held, own_held, own_holds, child_held, child_holds, known}
use Rattle.net_link_laws.specs.Found.{IsOnGlobal, IsGlobalLink, IsFoundLink}
use Rattle.net_link_laws.specs.Laws.{FoundLaw}
use Rattle.plain_netlist.proofs.Links.{stays, single, both, back, along}
use Rattle.plain_netlist.specs.Chains.{Reaches}

-- the node touches the global
abbrev IsTied : Wiring → Node → ℕ → Type 0
IsTied w (At c q) g = IsGrounded w c g
IsTied w (Ground h) g = h ≡ g

tied_touches : (w : Wiring) (n : Node) (g : ℕ) → IsTied w n g → Touches w n (Ground g)
tied_touches w (At c q) g h = h
tied_touches w (Ground h) g e = e

tied_unmoved : (w : Wiring) (p : Place) (m n : Node) (g : ℕ) → moved p.motion m ≡ n → IsTied w n g → IsTied w m g
tied_unmoved w p (At c q) n g e h = subst (λ i. IsTied w i g) (sym e) h
tied_unmoved w p (Ground k) n g e h = subst (λ i. IsTied w i g) (sym e) h

-- the net that holds a node tied to a global is the global's
on_global_net : (d : Design) (w : Wiring) (t : Tables) (cell x g : ℕ) (n : Node) → AreNets d w t cell (t.nets cell) → g < length w.globals → NetHolds d t cell x n → IsTied w n g → (i : ℕ) × IsOf (t.nets cell) x i (Global g)
on_global_net d w t cell x g n nets lt h tied =
    let v : CellNets = t.nets cell in
    let there = items_complete d w t cell v nets (Global g) lt in
    let within = slice_get_within v.items there.0 (Global g) there.1 in
    let enough : there.0 < length v.net_of = rw nets.numbers within in
    let y = get_or v.net_of there.0 0 in
    let numbered : slice_get v.net_of there.0 ≡ Some y = slice_get-get_or v.net_of there.0 0 enough in
    let is : IsOf v y there.0 (Global g) = record { listed = there.1; numbered = numbered } in
    let link : IsItemLink d w t cell h.item (Global g) = record {
      from = items_sound d w t cell v nets h.index h.item h.is_of.listed;
      to = lt;
      one = n;
      other = Ground g;
      held = h.holds;
      others = record { depth = zero; holds = refl };
      touch = tied_touches w n g tied;
    } in
    let same : x ≡ y = (nets.joined h.index there.0 h.item (Global g) x y h.is_of is).1 (single (IsItemLink d w t cell) h.item (Global g) link) in
    (there.0, subst (λ i. IsOf v i there.0 (Global g)) (sym same) is)

module _ (d : Design) (w : Wiring) (t : Tables) (cell : ℕ) (right : AreRightBelow d w t cell) where
  abbrev L : Item → Item → Type 0
  L = IsItemLink d w t cell

  abbrev G : Item → Item → Type 0
  G = IsFoundLink d w t cell

  found_back : (a b : Item) → G a b → G b a
  found_back a b (inl s) =
      let turned = touch_back w (At s.one s.p) (At s.other s.q) (s.joined, s.near) in
      inl (record { from = s.to; to = s.from; one = s.other; other = s.one; p = s.q; q = s.p; held = s.others; others = s.held; joined = turned.0; near = turned.1 })
  found_back a b (inr (inl g)) = inr (inr g)
  found_back a b (inr (inr g)) = inr (inl g)

  link_back : (a b : Item) → L a b → L b a
  link_back a b l = record { from = l.to; to = l.from; one = l.other; other = l.one; held = l.others; others = l.held; touch = touch_back w l.one l.other l.touch }

  on_own : (c r g : ℕ) (n : Node) → ItemHolds d t cell (Own c r) n → IsTied w n g → IsOnGlobal d w t cell (Own c r) g
  on_own c r g (At e p) h tied = subst (λ i. IsGrounded w i g) (sym (own_held d t cell c r e p h).same) tied
  on_own c r g (Ground k) h tied = absurd (no_global d t cell c r k h)

  on_child : (k x g : ℕ) (n : Node) → g < length w.globals → ItemHolds d t cell (Child k x) n → IsTied w n g → IsOnGlobal d w t cell (Child k x) g
  on_child k x g n lt h tied =
      let f = child_held d t cell k x n h in
      let node = f.2.node in
      let one = on_global_net d w t f.0.cell x g node (right.nets k f.0.cell f.0 f.1 ([], refl)) lt f.2.holds (tied_unmoved w f.0 node n g f.2.image tied) in
      (f.0, f.1, one.0, one.1)

  is_global : (k g : ℕ) (n : Node) → ItemHolds d t cell (Global k) n → IsTied w n g → k ≡ g
  is_global k g (At c p) h tied = absurd (no_square d t cell k c p h)
  is_global k g (Ground i) h tied = global_held d t cell k i h ∙ tied

  to_global : (item : Item) (n : Node) (g : ℕ) → IsItem d w t cell item → g < length w.globals → ItemHolds d t cell item n → IsTied w n g → Reaches G item (Global g)
  to_global (Own c r) n g is lt h tied = single G (Own c r) (Global g) (inr (inl (record { from = is; global = g; known = lt; is = refl; on = on_own c r g n h tied })))
  to_global (Child k x) n g is lt h tied = single G (Child k x) (Global g) (inr (inl (record { from = is; global = g; known = lt; is = refl; on = on_child k x g n lt h tied })))
  to_global (Global k) n g is lt h tied = stays G (Global k) (Global g) (ap Global (is_global k g n h tied))

  by_global : (a b : Item) (m n : Node) (g : ℕ) → g < length w.globals → IsItem d w t cell a → IsItem d w t cell b → ItemHolds d t cell a m → ItemHolds d t cell b n → IsTied w m g → IsTied w n g → Reaches G a b
  by_global a b m n g lt is is_too h k tied tied_too = both G a (Global g) b (to_global a m g is lt h tied) (back G found_back b (Global g) (to_global b n g is_too lt k tied_too))

  by_nodes : (a b : Item) (m n : Node) → IsItem d w t cell a → IsItem d w t cell b → ItemHolds d t cell a m → ItemHolds d t cell b n → Touches w m n → Reaches G a b
  by_nodes a b (At c p) (At e q) is is_too h k touch = single G a b (inl (record { from = is; to = is_too; one = c; other = e; p = p; q = q; held = h; others = k; joined = touch.0; near = touch.1 }))
  by_nodes a b (At c p) (Ground g) is is_too h k touch = by_global a b (At c p) (Ground g) g (known d w t k.depth cell b (Ground g) right.nets is_too k.holds) is is_too h k touch refl
  by_nodes a b (Ground g) (At c p) is is_too h k touch = by_global a b (Ground g) (At c p) g (known d w t h.depth cell a (Ground g) right.nets is h.holds) is is_too h k refl touch
  by_nodes a b (Ground g) (Ground i) is is_too h k touch = by_global a b (Ground g) (Ground i) g (known d w t h.depth cell a (Ground g) right.nets is h.holds) is is_too h k refl (sym touch)

  abbrev no_rect : Rect
  no_rect = record { x1 = pos 0; y1 = pos 0; x2 = pos 0; y2 = pos 0 }

  global_link : (a : Item) (g : ℕ) → IsItem d w t cell a → g < length w.globals → IsOnGlobal d w t cell a g → L a (Global g)
  global_link (Own c r) g is lt on =
      let rect = get_or (t.own cell c) r no_rect in
      let there : slice_get (t.own cell c) r ≡ Some rect = slice_get-get_or (t.own cell c) r no_rect is.1 in
      let f = (right.own cell c ([], refl)).own.filled r rect there in
      record { from = is; to = lt; one = At c f.0; other = Ground g; held = own_holds d t cell c r rect f.0 there f.1; others = record { depth = zero; holds = refl }; touch = on }
  global_link (Child k x) g is lt on =
      let net : NetHolds d t on.0.cell x (Ground g) = record { index = on.2; item = Global g; is_of = on.3; holds = record { depth = zero; holds = refl } } in
      record { from = is; to = lt; one = Ground g; other = Ground g; held = child_holds d t cell k x on.0 (Ground g) (Ground g) on.1 net refl; others = record { depth = zero; holds = refl }; touch = refl }
  global_link (Global k) g is lt on = absurd on

  global_reach : (a b : Item) → IsGlobalLink d w t cell a b → Reaches L a b
  global_reach a b h = subst (λ i. Reaches L a i) (sym h.is) (single L a (Global h.global) (global_link a h.global h.from h.known h.on))

  pub found_reach : (a b : Item) → G a b → Reaches L a b
  found_reach a b (inl s) = single L a b (record { from = s.from; to = s.to; one = At s.one s.p; other = At s.other s.q; held = s.held; others = s.others; touch = (s.joined, s.near) })
  found_reach a b (inr (inl g)) = global_reach a b g
  found_reach a b (inr (inr g)) = back L link_back b a (global_reach b a g)

pub found_links : FoundLaw
found_links d w t cell right a b = (
  along (G d w t cell right) (L d w t cell right) (λ i. i) (found_reach d w t cell right) a b,
  along (L d w t cell right) (G d w t cell right) (λ i. i) (λ x y l. by_nodes d w t cell right x y l.one l.other l.from l.to l.held l.others l.touch) a b,
)
