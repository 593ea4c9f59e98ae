-- What items and nets hold.
use Rattle.std.proofs.Common.{◌≡◌, ℕ, zero, suc, ◌<◌, [], ◌∷◌, Some, slice_get, length, refl, subst}
use Rattle.flat_layout.specs.Layout.{Place, Design, IsPlaced}
use Rattle.flat_layout.specs.Nets.{Item, Own, Child, Global, Tables, HoldsAt, ItemHolds, NetHolds, IsItem, IsItemLink, AreNets, IsUnder}
use Rattle.flat_layout.specs.Plane.{IsIn}
use Rattle.flat_layout.specs.Regions.{Wiring, Node, At, Ground, moved}
use Rattle.flat_laws.proofs.Items.{items_sound}
use Rattle.flat_laws.proofs.Paths.{same_place}
use Rattle.geo_base.specs.Motions.{moved_square}
use Rattle.geo_base.specs.declared.shapes.Rect.{Rect}
use Rattle.geo_base.specs.declared.shapes.Square.{Square}
use Rattle.net_link_laws.specs.Laws.{OneNetLaw, ConductorLaw}
use Rattle.plain_netlist.proofs.Links.{stays}

-- what a cell's own rectangle holds
pub record OwnHolds (t : Tables) (cell c r e : ℕ) (p : Square) : Type 0 where
  pub rect : Rect
  pub listed : slice_get (t.own cell c) r ≡ Some rect
  pub inside : IsIn p rect
  pub same : c ≡ e

own_at : (d : Design) (t : Tables) (cell c r e : ℕ) (p : Square) (depth : ℕ) → HoldsAt d t depth cell (Own c r) (At e p) → OwnHolds t cell c r e p
own_at d t cell c r e p zero h =
    let f : At c h.0 ≡ At e p = h.4 in
    let square : h.0 ≡ p = cc in
    record { rect = h.1; listed = h.2; inside = subst (λ s. IsIn s h.1) square h.3; same = cc }
own_at d t cell c r e p (suc depth) h = absurd h

pub own_held : (d : Design) (t : Tables) (cell c r e : ℕ) (p : Square) → ItemHolds d t cell (Own c r) (At e p) → OwnHolds t cell c r e p
own_held d t cell c r e p h = own_at d t cell c r e p h.depth h.holds

pub own_holds : (d : Design) (t : Tables) (cell c r : ℕ) (rect : Rect) (p : Square) → slice_get (t.own cell c) r ≡ Some rect → IsIn p rect → ItemHolds d t cell (Own c r) (At c p)
own_holds d t cell c r rect p e h = record { depth = zero; holds = (p, rect, e, h, refl) }

no_square_at : (d : Design) (t : Tables) (cell g c : ℕ) (q : Square) (depth : ℕ) → HoldsAt d t depth cell (Global g) (At c q) → ⊥
no_square_at d t cell g c q zero h = let f : Ground g ≡ At c q = h in cc
no_square_at d t cell g c q (suc k) h = h

pub no_square : (d : Design) (t : Tables) (cell g c : ℕ) (q : Square) → ItemHolds d t cell (Global g) (At c q) → ⊥
no_square d t cell g c q h = no_square_at d t cell g c q h.depth h.holds

no_global_at : (d : Design) (t : Tables) (cell c r g : ℕ) (depth : ℕ) → HoldsAt d t depth cell (Own c r) (Ground g) → ⊥
no_global_at d t cell c r g zero h = let f : At c h.0 ≡ Ground g = h.4 in cc
no_global_at d t cell c r g (suc k) h = h

pub no_global : (d : Design) (t : Tables) (cell c r g : ℕ) → ItemHolds d t cell (Own c r) (Ground g) → ⊥
no_global d t cell c r g h = no_global_at d t cell c r g h.depth h.holds

global_at : (d : Design) (t : Tables) (cell g h : ℕ) (depth : ℕ) → HoldsAt d t depth cell (Global g) (Ground h) → g ≡ h
global_at d t cell g h zero e = let f : Ground g ≡ Ground h = e in cc
global_at d t cell g h (suc k) e = absurd e

pub global_held : (d : Design) (t : Tables) (cell g h : ℕ) → ItemHolds d t cell (Global g) (Ground h) → g ≡ h
global_held d t cell g h k = global_at d t cell g h k.depth k.holds

-- what a placed cell's net holds, by one placement
pub record ChildHolds (d : Design) (t : Tables) (p : Place) (x : ℕ) (n : Node) : Type 0 where
  pub node : Node
  pub holds : NetHolds d t p.cell x node
  pub image : moved p.motion node ≡ n

child_at : (d : Design) (t : Tables) (cell k x : ℕ) (n : Node) (depth : ℕ) → HoldsAt d t depth cell (Child k x) n → (p : Place) × IsPlaced d cell k p × ChildHolds d t p x n
child_at d t cell k x n zero h = absurd h
child_at d t cell k x n (suc depth) h = (h.0, h.1, record { node = h.5; holds = record { index = h.2; item = h.3; is_of = h.4; holds = record { depth = depth; holds = h.6 } }; image = h.7 })

pub child_held : (d : Design) (t : Tables) (cell k x : ℕ) (n : Node) → ItemHolds d t cell (Child k x) n → (p : Place) × IsPlaced d cell k p × ChildHolds d t p x n
child_held d t cell k x n h = child_at d t cell k x n h.depth h.holds

pub child_held_at : (d : Design) (t : Tables) (cell k x : ℕ) (p : Place) (n : Node) → IsPlaced d cell k p → ItemHolds d t cell (Child k x) n → ChildHolds d t p x n
child_held_at d t cell k x p n placed h =
    let f = child_held d t cell k x n h in
    subst (λ (r : Place). ChildHolds d t r x n) (same_place d cell k f.0 p f.1 placed) f.2

pub child_holds : (d : Design) (t : Tables) (cell k x : ℕ) (p : Place) (m n : Node) → IsPlaced d cell k p → NetHolds d t p.cell x m → moved p.motion m ≡ n → ItemHolds d t cell (Child k x) n
child_holds d t cell k x p m n placed h e = record { depth = suc h.holds.depth; holds = (p, placed, h.index, h.item, h.is_of, m, h.holds.holds, e) }

-- of a square of a conductor
pub record SquareBelow (d : Design) (t : Tables) (p : Place) (x c : ℕ) (q : Square) : Type 0 where
  pub square : Square
  pub holds : NetHolds d t p.cell x (At c square)
  pub image : moved_square p.motion square ≡ q

square_at : (d : Design) (t : Tables) (p : Place) (x c : ℕ) (q : Square) (n : Node) → NetHolds d t p.cell x n → moved p.motion n ≡ At c q → SquareBelow d t p x c q
square_at d t p x c q (At e m) h is =
    let f : At e (moved_square p.motion m) ≡ At c q = is in
    let same : e ≡ c = cc in
    record { square = m; holds = subst (λ i. NetHolds d t p.cell x (At i m)) same h; image = cc }
square_at d t p x c q (Ground g) h is = let f : Ground g ≡ At c q = is in cc

pub square_below : (d : Design) (t : Tables) (p : Place) (x c : ℕ) (q : Square) → ChildHolds d t p x (At c q) → SquareBelow d t p x c q
square_below d t p x c q h = square_at d t p x c q h.node h.holds h.image

-- an item is in one net
pub one_net : OneNetLaw
one_net d w t cell v item x y nets h g = (nets.joined h.0 g.0 item item x y h.1 g.1).1 (stays (IsItemLink d w t cell) item item refl)

-- nets below a placed cell
pub under_placed : (d : Design) (w : Wiring) (t : Tables) (cell k : ℕ) (p : Place) → IsPlaced d cell k p → ((e : ℕ) → IsUnder d cell e → AreNets d w t e (t.nets e)) → (e : ℕ) → IsUnder d p.cell e → AreNets d w t e (t.nets e)
under_placed d w t cell k p placed nets e u = nets e (k ∷ u.0, (p, placed, u.1))

-- what nodes may be: squares of known conductors, and known globals
abbrev pub IsKnown : Wiring → Node → Type 0
IsKnown w (At c q) = c < length w.conductors
IsKnown w (Ground g) = g < length w.globals

known_back : (w : Wiring) (p : Place) (m n : Node) → moved p.motion m ≡ n → IsKnown w m → IsKnown w n
known_back w p (At c q) n e h = subst (λ i. IsKnown w i) e h
known_back w p (Ground g) n e h = subst (λ i. IsKnown w i) e h

pub known : (d : Design) (w : Wiring) (t : Tables) (depth cell : ℕ) (item : Item) (n : Node) → ((k e : ℕ) (p : Place) → IsPlaced d cell k p → IsUnder d p.cell e → AreNets d w t e (t.nets e)) → IsItem d w t cell item → HoldsAt d t depth cell item n → IsKnown w n
known d w t zero cell (Own c r) n nets is h = subst (λ i. IsKnown w i) h.4 is.0
known d w t zero cell (Child k b) n nets is h = absurd h
known d w t zero cell (Global g) n nets is h = subst (λ i. IsKnown w i) h is
known d w t (suc depth) cell (Own c r) n nets is h = absurd h
known d w t (suc depth) cell (Child k b) n nets is h =
    let there = nets k h.0.cell h.0 h.1 ([], refl) in
    let item = items_sound d w t h.0.cell (t.nets h.0.cell) there h.2 h.3 h.4.listed in
    known_back w h.0 h.5 n h.7 (known d w t depth h.0.cell h.3 h.5 (λ j e q placed u. nets k e h.0 h.1 (j ∷ u.0, (q, placed, u.1))) item h.6)
known d w t (suc depth) cell (Global g) n nets is h = absurd h

pub conductor : ConductorLaw
conductor d w t cell x c q nets h =
    known d w t h.holds.depth cell h.item (At c q) (λ k e p placed u. under_placed d w t cell k p placed nets e u)
    (items_sound d w t cell (t.nets cell) (nets cell ([], refl)) h.index h.item h.is_of.listed) h.holds.holds
