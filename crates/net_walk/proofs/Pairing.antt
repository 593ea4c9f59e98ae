-- The links of a pair of placements.
use Rattle.std.proofs.Common.{◌≡◌, ◌⊎◌, inl, inr, ℕ, ◌+◌, List, [], ◌∷◌, ◌++◌, Some, slice_get, length, refl, ◌∙◌, ap, subst, arith}
use Rattle.flat_laws.proofs.Items.{placed_at}
use Rattle.flat_layout.specs.Layout.{Design, Place}
use Rattle.flat_layout.specs.Nets.{Item, Child, Tables, ItemHolds, IsItem, AreRightBelow, items_of}
use Rattle.flat_layout.specs.Regions.{Wiring, At}
use Rattle.geo_base.specs.Motions.{moved_square}
use Rattle.geo_base.specs.declared.shapes.Rect.{Rect}
use Rattle.geo_base.specs.declared.shapes.Square.{Square}
use Rattle.net_link_laws.proofs.Held.{child_holds, conductor}
use Rattle.net_link_laws.proofs.Looking.{contact_links, hulls}
use Rattle.net_walk.proofs.Insides.{common_inside, near_inside, rect_of}
use Rattle.net_walk.specs.Walk.{IsSpan, HasNoSquare}
use Rattle.geo_base.specs.Rects.{IsRect, common, grown}
use Rattle.net_link_laws.proofs.Standing.{child_place}
use Rattle.net_link_laws.specs.Found.{IsSquareLink}
use Rattle.link_classes.specs.Classes.{IsLinked}
use Rattle.link_classes.specs.declared.classes.Link.{Link}
use Rattle.net_link_laws.specs.Places.{owned_before, nets_before, places_of}
use Rattle.net_walk.specs.Pairs.{first_of, ArePairLinks, PairLaw, AddsPair, AreNeverNear, IsWindowFor}
use Rattle.net_walk.specs.Seen.{IsSeen, IsSeenOfTwo}
use Rattle.touching_pieces.proofs.Chains.{one_on}

-- an item of a cell that holds a square
pub record HoldsSquare (d : Design) (w : Wiring) (t : Tables) (cell i c : ℕ) (q : Square) : Type 0 where
  pub item : Item
  pub stands : slice_get (items_of d w t cell) i ≡ Some item
  pub is : IsItem d w t cell item
  pub holds : ItemHolds d t cell item (At c q)

pub seen_item : (d : Design) (w : Wiring) (t : Tables) (cell k : ℕ) (p : Place) (window : Rect) (n c i : ℕ) (q : Square) → AreRightBelow d w t cell → slice_get (places_of d cell) k ≡ Some p → IsSeen d t p window (first_of d w t cell k) n c i q
    → HoldsSquare d w t cell i c q
seen_item d w t cell k p window n c i q right there s =
    let placed = placed_at d cell k p there in
    let nets = right.nets k p.cell p placed ([], refl) in
    let lt = nets.below s.holds.index s.net s.holds.is_of.numbered in
    let z : owned_before t cell (length w.conductors) + (nets_before t (places_of d cell) k + s.net) ≡ first_of d w t cell k + s.net = omega arith in
    let stands : slice_get (items_of d w t cell) i ≡ Some (Child k s.net) = subst (λ j. slice_get (items_of d w t cell) j ≡ Some (Child k s.net)) (z ∙ s.item) (child_place d w t cell k s.net p there lt) in
    record { item = Child k s.net; stands = stands; is = (p, placed, lt); holds = child_holds d t cell k s.net p (At c s.square) (At c q) placed s.holds (ap (At c) s.image) }

pub pair : PairLaw
pair d w t cell k l p q window joins links right there there_too enough same h =
    let n = length w.conductors in
    let placed = placed_at d cell k p there in
    let placed_too = placed_at d cell l q there_too in
    let item : (c i : ℕ) (s : Square) → IsSeenOfTwo d t window n p (first_of d w t cell k) q (first_of d w t cell l) c i s → HoldsSquare d w t cell i c s = λ c i s o. elim o [
      | inl a ↦ seen_item d w t cell k p window n c i s right there a
      | inr b ↦ seen_item d w t cell l q window n c i s right there_too b
    ] in
    record {
      each = λ i j g.
          let near = h.each i j g in
          let a = item near.c i near.p near.over in
          let b = item near.e j near.q near.over_too in
          let link : IsSquareLink d w t cell a.item b.item = record {
            from = a.is;
            to = b.is;
            one = near.c;
            other = near.e;
            p = near.p;
            q = near.q;
            held = a.holds;
            others = b.holds;
            joined = (same near.c near.e).0 near.joined;
            near = near.near;
          } in
          (a.item, b.item, a.stands, b.stands, link);
      found = λ x y g.
          let m = (contact_links d w t cell k x l y p q placed placed_too g.from g.to).0 g in
          let both = enough m.c m.e x y m.m m.n m.held m.others m.near in
          let known = conductor d w t p.cell x m.c m.m (λ e u. right.nets k e p placed u) m.held in
          let known_too = conductor d w t q.cell y m.e m.n (λ e u. right.nets l e q placed_too u) m.others in
          let one : IsSeen d t p window (first_of d w t cell k) n m.c (first_of d w t cell k + x) (moved_square p.motion m.m) = record { known = known; net = x; square = m.m; holds = m.held; item = refl; image = refl; within = both.0 } in
          let two : IsSeen d t q window (first_of d w t cell l) n m.e (first_of d w t cell l + y) (moved_square q.motion m.n) = record { known = known_too; net = y; square = m.n; holds = m.others; item = refl; image = refl; within = both.1 } in
          h.found (first_of d w t cell k + x) (first_of d w t cell l + y) (record { c = m.c; e = m.e; p = moved_square p.motion m.m; q = moved_square q.motion m.n; joined = (same m.c m.e).1 m.joined; over = inl one; over_too = inr two; near = m.near });
    }

pub linked_left : (ls ms : List Link) (i j : ℕ) → IsLinked ls i j → IsLinked (ls ++ ms) i j
linked_left [] ms i j h = absurd h
linked_left (l ∷ ls) ms i j (inl h) = inl h
linked_left (l ∷ ls) ms i j (inr h) = inr (linked_left ls ms i j h)

pub linked_right : (ls ms : List Link) (i j : ℕ) → IsLinked ms i j → IsLinked (ls ++ ms) i j
linked_right [] ms i j h = h
linked_right (l ∷ ls) ms i j h = inr (linked_right ls ms i j h)

pub linked_either : (ls ms : List Link) (i j : ℕ) → IsLinked (ls ++ ms) i j → IsLinked ls i j ⊎ IsLinked ms i j
linked_either [] ms i j h = inr h
linked_either (l ∷ ls) ms i j (inl h) = inl (inl h)
linked_either (l ∷ ls) ms i j (inr h) = elim (linked_either ls ms i j h) [ inl a ↦ inl (inr a) | inr b ↦ inr b ]

pub pair_added : (d : Design) (w : Wiring) (t : Tables) (cell k l : ℕ) (old links : List Link) → ArePairLinks d w t cell k l links → AddsPair d w t cell k l old (old ++ links)
pair_added d w t cell k l old links h = record {
  kept = linked_left old links;
  each = λ i j g. elim (linked_either old links i j g) [ inl a ↦ inl a | inr b ↦ inr (h.each i j b) ];
  found = λ x y g. one_on links (old ++ links) (linked_right old links) (first_of d w t cell k + x) (first_of d w t cell l + y) (h.found x y g);
}

pub pair_none : (d : Design) (w : Wiring) (t : Tables) (cell k l : ℕ) (p q : Place) (old : List Link) → slice_get (places_of d cell) k ≡ Some p → slice_get (places_of d cell) l ≡ Some q → AreNeverNear d t p q → AddsPair d w t cell k l old old
pair_none d w t cell k l p q old there there_too none = record {
  kept = λ i j h. h;
  each = λ i j h. inl h;
  found = λ x y g.
      let m = (contact_links d w t cell k x l y p q (placed_at d cell k p there) (placed_at d cell l q there_too) g.from g.to).0 g in
      absurd (none m.c m.e x y m.m m.n m.held m.others m.near);
}

pub window_for : (d : Design) (t : Tables) (p q : Place) (r s : Rect) → IsSpan d t p r → IsSpan d t q s → IsRect (common (grown 1 r) (grown 1 s)) → IsWindowFor d t p q (common (grown 1 r) (grown 1 s))
window_for d t p q r s h g is = record { near = near_inside (common (grown 1 r) (grown 1 s)) (grown 1 s) (common_inside (grown 1 r) (grown 1 s) is) g.near; enough = hulls d t p q r s h.all g.all }

pub window_none : (d : Design) (t : Tables) (p q : Place) (r s : Rect) → IsSpan d t p r → IsSpan d t q s → (IsRect (common (grown 1 r) (grown 1 s)) → ⊥) → AreNeverNear d t p q
window_none d t p q r s h g not c e x y m n held others near =
    let both = hulls d t p q r s h.all g.all c e x y m n held others near in
    not (rect_of (common (grown 1 r) (grown 1 s)) (moved_square p.motion m) both.0)

pub never_left : (d : Design) (t : Tables) (p q : Place) → HasNoSquare d t p.cell → AreNeverNear d t p q
never_left d t p q none c e x y m n held others near = none c x m held

pub never_right : (d : Design) (t : Tables) (p q : Place) → HasNoSquare d t q.cell → AreNeverNear d t p q
never_right d t p q none c e x y m n held others near = none e y n others
