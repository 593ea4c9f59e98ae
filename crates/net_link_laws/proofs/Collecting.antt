-- Pieces of a cell's nets are its own rectangles and images of pieces of the cells that it places.
use Rattle.std.proofs.Common.{◌≡◌, ◌⊎◌, inl, inr, ℕ, List, Some, slice_get, sym, ap, subst}
use Rattle.flat_layout.specs.Layout.{Design}
use Rattle.flat_layout.specs.Nets.{Item, Own, Child, Global, Tables, ItemHolds, NetHolds}
use Rattle.flat_layout.specs.Plane.{IsIn}
use Rattle.flat_layout.specs.Regions.{At}
use Rattle.geo_base.specs.Motions.{moved_square}
use Rattle.geo_base.specs.declared.shapes.Rect.{Rect}
use Rattle.geo_base.specs.declared.shapes.Square.{Square}
use Rattle.net_link_laws.proofs.Held.{no_square, own_held, own_holds, child_held, child_holds, square_below}
use Rattle.net_link_laws.specs.declared.piece.NetPiece.{NetPiece}
use Rattle.net_link_laws.specs.Collected.{IsOver, IsInNet, IsOverOwn, IsOverChild, IsCollectedBelow}
use Rattle.net_link_laws.specs.Laws.{CollectLaw}

module _ (d : Design) (t : Tables) (cell c : ℕ) (window : Rect) (below : ℕ → List NetPiece) (seen : IsCollectedBelow d t cell c window below) where
  own_each : (x : ℕ) (q : Square) → IsOverOwn t cell c window x q → IsIn q window × NetHolds d t cell x (At c q)
  own_each x q h = (h.within, record { index = h.in_net.0; item = Own c h.number; is_of = h.in_net.1; holds = own_holds d t cell c h.number h.rect q h.listed h.inside })

  child_each : (x : ℕ) (q : Square) → IsOverChild d t cell window below x q → IsIn q window × NetHolds d t cell x (At c q)
  child_each x q h = elim (seen h.number h.place h.placed) [
    | inl s ↦
        let there = (s.2.each h.net h.square h.over).1 in (
          h.within,
          record { index = h.in_net.0; item = Child h.number h.net; is_of = h.in_net.1; holds = child_holds d t cell h.number h.net h.place (At c h.square) (At c q) h.placed there (ap (At c) h.image) },
        )
    | inr s ↦ absurd (subst (λ (l : List NetPiece). IsOver l h.net h.square) s.0 h.over)
  ]

  item_found : (item : Item) (x : ℕ) (q : Square) → IsIn q window → IsInNet (t.nets cell) item x → ItemHolds d t cell item (At c q) → IsOverOwn t cell c window x q ⊎ IsOverChild d t cell window below x q
  item_found (Own e r) x q within net h =
      let o = own_held d t cell e r c q h in
      inl (record {
        number = r;
        rect = o.rect;
        listed = subst (λ i. slice_get (t.own cell i) r ≡ Some o.rect) o.same o.listed;
        in_net = subst (λ i. IsInNet (t.nets cell) (Own i r) x) o.same net;
        inside = o.inside;
        within = within;
      })
  item_found (Child k b) x q within net h =
      let f = child_held d t cell k b (At c q) h in
      let s = square_below d t f.0 b c q f.2 in
      let image_in : IsIn (moved_square f.0.motion s.square) window = subst (λ (r : Square). IsIn r window) (sym s.image) within in
      elim (seen k f.0 f.1) [
        | inl y ↦ inr (record { number = k; place = f.0; net = b; square = s.square; placed = f.1; in_net = net; over = y.2.found b s.square (y.1 b s.square s.holds image_in) s.holds; image = s.image; within = within })
        | inr y ↦ absurd (y.1 b s.square s.holds image_in)
      ]
  item_found (Global g) x q within net h = absurd (no_square d t cell g c q h)

pub collected : CollectLaw
collected d t cell c window below pieces seen are = record {
  each = λ x q h. elim ((are x q).0 h) [ inl o ↦ own_each d t cell c window below seen x q o | inr o ↦ child_each d t cell c window below seen x q o ];
  found = λ x q within h. (are x q).1 (item_found d t cell c window below seen h.item x q within (h.index, h.is_of) h.holds);
}
