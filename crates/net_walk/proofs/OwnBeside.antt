-- Links of a rectangle of a cell and a placement.
use Rattle.std.proofs.Common.{◌≡◌, inl, inr, ℕ, ◌+◌, ◌<◌, List, [], ◌∷◌, Some, slice_get, length, refl, sym, subst}
use Rattle.flat_laws.proofs.Items.{placed_at}
use Rattle.flat_layout.specs.Layout.{Design, Place}
use Rattle.flat_layout.specs.Nets.{Own, Tables, ItemHolds, items_of}
use Rattle.flat_layout.specs.Plane.{IsIn, IsNear}
use Rattle.flat_layout.specs.Regions.{At}
use Rattle.geo_base.specs.Motions.{moved_square}
use Rattle.geo_base.specs.Rects.{IsRect, grown}
use Rattle.geo_base.specs.declared.shapes.Rect.{Rect}
use Rattle.geo_base.specs.declared.shapes.Square.{Square}
use Rattle.net_link_laws.proofs.Held.{own_held, own_holds, child_held_at, square_below, conductor}
use Rattle.net_link_laws.proofs.Looking.{near_grown, same_rect}
use Rattle.net_link_laws.proofs.Standing.{own_place}
use Rattle.net_link_laws.specs.Found.{IsSquareLink}
use Rattle.net_link_laws.specs.Places.{owned_before}
use Rattle.net_walk.proofs.Pairing.{HoldsSquare, seen_item}
use Rattle.net_walk.proofs.Seeing.{piece_seen, seen_both}
use Rattle.net_walk.specs.Beside.{IsBesideSeen, BesidePairLaw}
use Rattle.net_walk.specs.Pairs.{first_of}
use Rattle.net_walk.specs.Seen.{AddsSeen, IsJoinedSeen, IsSeen}
use Rattle.touching_pieces.specs.Pairs.{AreJoined}
use Rattle.touching_pieces.specs.declared.conductors.Joined.{Joined}
use Rattle.touching_pieces.specs.declared.pieces.Piece.{Piece}

own_holds_at : (d : Design) (t : Tables) (cell c r e : ℕ) (rect : Rect) (q : Square) → slice_get (t.own cell c) r ≡ Some rect → IsIn q rect → c ≡ e → ItemHolds d t cell (Own c r) (At e q)
own_holds_at d t cell c r e rect q there inside same = subst (λ k. ItemHolds d t cell (Own c r) (At k q)) same (own_holds d t cell c r rect q there inside)

pub beside_seen : (d : Design) (t : Tables) (joins : List Joined) (rect : Rect) (conductor item n : ℕ) (p : Place) (at : ℕ) (new : List Piece) → IsRect rect → AddsSeen (IsJoinedSeen d t joins conductor p (grown 1 rect) at n) (record { conductor = conductor; rect = rect; item = item } ∷ []) new
    → AddsSeen (IsBesideSeen d t joins rect conductor item n p at) [] new
beside_seen d t joins rect conductor item n p at new is h =
    let o : Piece = record { conductor = conductor; rect = rect; item = item } in
    seen_both (λ c i q. (conductor ≡ c) × (item ≡ i) × IsIn q rect) (IsJoinedSeen d t joins conductor p (grown 1 rect) at n) (IsBesideSeen d t joins rect conductor item n p at) [] (o ∷ []) new (piece_seen o [] is) h (λ c i q. ((λ k. k), (λ k. k)))

pub beside_known : (d : Design) (t : Tables) (joins : List Joined) (rect : Rect) (conductor item n : ℕ) (p : Place) (at : ℕ) → conductor < n → (c i : ℕ) (q : Square) → IsBesideSeen d t joins rect conductor item n p at c i q → c < n
beside_known d t joins rect e item n p at lt c i q (inl h) = subst (λ k. k < n) h.0 lt
beside_known d t joins rect e item n p at lt c i q (inr h) = h.1.known

pub beside_pair : BesidePairLaw
beside_pair d w t cell c r k p rect joins links right is there at_place same h =
    let n = length w.conductors in
    let placed = placed_at d cell k p at_place in
    let stands : slice_get (items_of d w t cell) (owned_before t cell c + r) ≡ Some (Own c r) = own_place d w t cell c r is.0 is.1 in
    let item : (e i : ℕ) (s : Square) → IsBesideSeen d t joins rect c (owned_before t cell c + r) n p (first_of d w t cell k) e i s → HoldsSquare d w t cell i e s = λ e i s o. elim o [
      | inl a ↦ record {
        item = Own c r;
        stands = subst (λ j. slice_get (items_of d w t cell) j ≡ Some (Own c r)) a.1 stands;
        is = is;
        holds = own_holds_at d t cell c r e rect s there a.2 a.0;
      }
      | inr b ↦ seen_item d w t cell k p (grown 1 rect) n e i s right at_place b.1
    ] in
    record {
      each = λ i j g.
          let near = h.each i j g in
          let a = item near.c i near.p near.over in
          let b = item near.e j near.q near.over_too in
          let link : IsSquareLink d w t cell a.item b.item = record {
            from = a.is;
            to = b.is;
            one = near.c;
            other = near.e;
            p = near.p;
            q = near.q;
            held = a.holds;
            others = b.holds;
            joined = (same near.c near.e).0 near.joined;
            near = near.near;
          } in
          (a.item, b.item, a.stands, b.stands, link);
      found = λ x l.
          let a = own_held d t cell c r l.one l.p l.held in
          let b = square_below d t p x l.other l.q (child_held_at d t cell k x p (At l.other l.q) placed l.others) in
          let inside : IsIn l.p rect = subst (λ (s : Rect). IsIn l.p s) (same_rect (t.own cell c) r a.rect rect a.listed there) a.inside in
          let near : IsNear l.p (moved_square p.motion b.square) = subst (λ (s : Square). IsNear l.p s) (sym b.image) l.near in
          let within = near_grown rect l.p (moved_square p.motion b.square) inside near in
          let known = conductor d w t p.cell x l.other b.square (λ e u. right.nets k e p placed u) b.holds in
          let two : IsSeen d t p (grown 1 rect) (first_of d w t cell k) n l.other (first_of d w t cell k + x) (moved_square p.motion b.square) = record { known = known; net = x; square = b.square; holds = b.holds; item = refl; image = refl; within = within } in
          h.found (owned_before t cell c + r) (first_of d w t cell k + x)
          (record { c = l.one; e = l.other; p = l.p; q = moved_square p.motion b.square; joined = (same l.one l.other).1 l.joined; over = inl (a.same, refl, inside); over_too = inr (subst (λ k. AreJoined joins k l.other) (sym a.same) ((same l.one l.other).1 l.joined), two); near = near });
    }
