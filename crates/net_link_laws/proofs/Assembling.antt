-- The kinds of found links are all.
use Rattle.std.proofs.Common.{◌≡◌, inl, inr, ℕ, List, [], ◌∷◌, refl, sym, ap, subst}
use Rattle.std.proofs.Math.Decide.{ℕ_discrete}
use Rattle.flat_laws.proofs.Items.{items_sound}
use Rattle.flat_laws.proofs.Squares.{touch_back}
use Rattle.flat_layout.specs.Layout.{Design, Place, IsPlaced}
use Rattle.flat_layout.specs.Nets.{Item, Own, Child, Global, Tables, IsItemLink, AreNets, AreRightBelow, items_of}
use Rattle.flat_layout.specs.Regions.{Wiring, At}
use Rattle.link_classes.specs.Classes.{IsLinked}
use Rattle.link_classes.specs.declared.classes.Link.{Link}
use Rattle.net_link_laws.proofs.Grounds.{found_reach}
use Rattle.net_link_laws.proofs.Held.{no_square}
use Rattle.net_link_laws.proofs.Looking.{contact_links, near_unmoved}
use Rattle.net_link_laws.proofs.Numbering.{one_place, apart_items}
use Rattle.net_link_laws.specs.Found.{Stands, IsSquareLink, AreItemLinks, AreAllFound}
use Rattle.net_link_laws.specs.Laws.{AllLaw}
use Rattle.net_link_laws.specs.Windows.{AreInContact}
use Rattle.plain_netlist.proofs.Links.{stays, single}
use Rattle.touching_pieces.proofs.Chains.{one_back}
use Rattle.touching_pieces.specs.Pairs.{AreOne}

pub square_back : (d : Design) (w : Wiring) (t : Tables) (cell : ℕ) (a b : Item) → IsSquareLink d w t cell a b → IsSquareLink d w t cell b a
square_back d w t cell a b s =
    let turned = touch_back w (At s.one s.p) (At s.other s.q) (s.joined, s.near) in
    record { from = s.to; to = s.from; one = s.other; other = s.one; p = s.q; q = s.p; held = s.others; others = s.held; joined = turned.0; near = turned.1 }

-- two nets of one placement that touch are one
pub one_child : (d : Design) (w : Wiring) (t : Tables) (p : Place) (x y : ℕ) → AreNets d w t p.cell (t.nets p.cell) → AreInContact d w t p p x y → x ≡ y
one_child d w t p x y nets h =
    let v = t.nets p.cell in
    let link : IsItemLink d w t p.cell h.held.item h.others.item = record {
      from = items_sound d w t p.cell v nets h.held.index h.held.item h.held.is_of.listed;
      to = items_sound d w t p.cell v nets h.others.index h.others.item h.others.is_of.listed;
      one = At h.c h.m;
      other = At h.e h.n;
      held = h.held.holds;
      others = h.others.holds;
      touch = (h.joined, near_unmoved p.motion h.m h.n h.near);
    } in
    (nets.joined h.held.index h.others.index h.held.item h.others.item x y h.held.is_of h.others.is_of).1 (single (IsItemLink d w t p.cell) h.held.item h.others.item link)

module _ (d : Design) (w : Wiring) (t : Tables) (cell : ℕ) (links : List Link) (right : AreRightBelow d w t cell) (all : AreAllFound d w t cell links) where
  same_placement : (i j k x y : ℕ) → Stands d w t cell i (Child k x) → Stands d w t cell j (Child k y) → IsSquareLink d w t cell (Child k x) (Child k y) → AreOne links i j
  same_placement i j k x y h g s =
      let p = s.from.0 in
      let placed : IsPlaced d cell k p = s.from.1 in
      let contact = (contact_links d w t cell k x k y p p placed placed s.from s.to).0 s in
      let e : x ≡ y = one_child d w t p x y (right.nets k p.cell p placed ([], refl)) contact in
      stays (IsLinked links) i j (one_place (items_of d w t cell) i j (Child k y) (apart_items d w t cell) (subst (λ n. Stands d w t cell i (Child k n)) e h) g)

  squares : (i j : ℕ) (a b : Item) → Stands d w t cell i a → Stands d w t cell j b → IsSquareLink d w t cell a b → AreOne links i j
  squares i j (Own c r) (Own e s) h g l = all.own i j c r e s h g l
  squares i j (Own c r) (Child k x) h g l = all.beside i j c r k x h g l
  squares i j (Child k x) (Own c r) h g l = one_back links j i (all.beside j i c r k x g h (square_back d w t cell (Child k x) (Own c r) l))
  squares i j (Child k x) (Child m y) h g l = elim (ℕ_discrete k m) [
    | yes e ↦
        let same : Child m x ≡ Child k x = ap (λ n. Child n x) (sym e) in
        same_placement i j m x y (subst (λ n. Stands d w t cell i (Child n x)) e h) g (subst (λ n. IsSquareLink d w t cell (Child n x) (Child m y)) e l)
    | no n ↦ all.children i j k x m y n h g l
  ]
  squares i j (Global a) b h g l = absurd (no_square d t cell a l.one l.p l.held)
  squares i j (Own c r) (Global b) h g l = absurd (no_square d t cell b l.other l.q l.others)
  squares i j (Child k x) (Global b) h g l = absurd (no_square d t cell b l.other l.q l.others)

  pub item_links : AreItemLinks d w t cell links
  item_links = record {
    each = λ i j h. let f = all.each i j h in (f.0, f.1, f.2, f.3, found_reach d w t cell right f.0 f.1 f.4);
    found = λ i j a b h g l. elim l [
      | inl s ↦ squares i j a b h g s
      | inr m ↦ elim m [ inl o ↦ all.globals i j a b h g o | inr o ↦ one_back links j i (all.globals j i b a g h o) ]
    ];
  }

pub all_found : AllLaw
all_found d w t cell links right all = item_links d w t cell links right all
