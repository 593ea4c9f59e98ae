-- Squares that touch are found in windows.
use Rattle.std.proofs.Common.{◌≡◌, inl, inr, ℕ, List, Some, slice_get, ℤ, ◌≤ℤ◌, ◌<ℤ◌, refl, sym, subst, arith}
use Rattle.std.specs.Int.{int_min, int_max}
use Rattle.std.proofs.lemmas.Int.{ints}
use Rattle.flat_laws.proofs.Squares.{near_back, near_moved}
use Rattle.flat_laws.proofs.Moves.{edges}
use Rattle.flat_laws.proofs.Paths.{moved_square-injective}
use Rattle.flat_layout.specs.Nets.{NetHolds}
use Rattle.flat_layout.specs.Plane.{IsIn, IsNear}
use Rattle.flat_layout.specs.Regions.{At, IsJoined}
use Rattle.geo_base.specs.Motions.{moved_square}
use Rattle.geo_base.specs.declared.motion.Motion.{Motion}
use Rattle.geo_base.specs.declared.shapes.Rect.{Rect}
use Rattle.geo_base.specs.declared.shapes.Square.{Square}
use Rattle.net_link_laws.proofs.Held.{own_held, own_holds, child_held_at, child_holds, square_below, conductor}
use Rattle.net_link_laws.specs.Laws.{OwnLaw, BesideLaw, ContactLaw, AlikeLaw, ChildrenLaw, HullLaw}
use Rattle.geo_base.specs.Rects.{grown, common}

pub own_links : OwnLaw
own_links d w t cell c r e s is is_too = (
  (λ l.
      let a = own_held d t cell c r l.one l.p l.held in
      let b = own_held d t cell e s l.other l.q l.others in
      record {
        rect = a.rect;
        second = b.rect;
        listed = a.listed;
        listed_too = b.listed;
        joined = subst (λ i. IsJoined w i e) (sym a.same) (subst (λ i. IsJoined w l.one i) (sym b.same) l.joined);
        p = l.p;
        q = l.q;
        in_one = a.inside;
        in_other = b.inside;
        near = l.near;
      }),
  (λ h. record {
    from = is;
    to = is_too;
    one = c;
    other = e;
    p = h.p;
    q = h.q;
    held = own_holds d t cell c r h.rect h.p h.listed h.in_one;
    others = own_holds d t cell e s h.second h.q h.listed_too h.in_other;
    joined = h.joined;
    near = h.near;
  }),
)

pub in_grown : (r : Rect) (p : Square) → IsIn p r → IsIn p (grown 1 r)
in_grown r p (a, b, c, e) = (omega (arith, ints), omega (arith, ints), omega (arith, ints), omega (arith, ints))

pub near_grown : (r : Rect) (p q : Square) → IsIn p r → IsNear p q → IsIn q (grown 1 r)
near_grown r p q h (inl e) = subst (λ (s : Square). IsIn s (grown 1 r)) e (in_grown r p h)
near_grown r p q (a, b, c, e) (inr (inl (x, inl y))) = (omega (arith, ints), omega (arith, ints), omega (arith, ints), omega (arith, ints))
near_grown r p q (a, b, c, e) (inr (inl (x, inr y))) = (omega (arith, ints), omega (arith, ints), omega (arith, ints), omega (arith, ints))
near_grown r p q (a, b, c, e) (inr (inr (y, inl x))) = (omega (arith, ints), omega (arith, ints), omega (arith, ints), omega (arith, ints))
near_grown r p q (a, b, c, e) (inr (inr (y, inr x))) = (omega (arith, ints), omega (arith, ints), omega (arith, ints), omega (arith, ints))

pub same_rect : (rects : List Rect) (r : ℕ) (a b : Rect) → slice_get rects r ≡ Some a → slice_get rects r ≡ Some b → a ≡ b
same_rect rects r a b h g = cc

pub beside_links : BesideLaw
beside_links d w t cell c r k x p rect pieces is placed is_child there seen = (
  (λ l.
      let a = own_held d t cell c r l.one l.p l.held in
      let b = square_below d t p x l.other l.q (child_held_at d t cell k x p (At l.other l.q) placed l.others) in
      let inside : IsIn l.p rect = subst (λ (s : Rect). IsIn l.p s) (same_rect (t.own cell c) r a.rect rect a.listed there) a.inside in
      let near : IsNear l.p (moved_square p.motion b.square) = subst (λ (s : Square). IsNear l.p s) (sym b.image) l.near in
      let joined : IsJoined w c l.other = subst (λ i. IsJoined w i l.other) (sym a.same) l.joined in
      let s = seen l.other joined in
      record {
        rect = rect;
        listed = there;
        other = l.other;
        joined = joined;
        p = l.p;
        m = b.square;
        inside = inside;
        over = s.2.found x b.square (s.1 x b.square b.holds (near_grown rect l.p (moved_square p.motion b.square) inside near)) b.holds;
        near = near;
      }),
  (λ h.
      let s = seen h.other h.joined in
      record {
        from = is;
        to = is_child;
        one = c;
        other = h.other;
        p = h.p;
        q = moved_square p.motion h.m;
        held = own_holds d t cell c r h.rect h.p h.listed h.inside;
        others = child_holds d t cell k x p (At h.other h.m) (At h.other (moved_square p.motion h.m)) placed (s.2.each x h.m h.over).1 refl;
        joined = h.joined;
        near = h.near;
      }),
)

pub contact_links : ContactLaw
contact_links d w t cell k x l y p q placed placed_too is is_too = (
  (λ h.
      let a = square_below d t p x h.one h.p (child_held_at d t cell k x p (At h.one h.p) placed h.held) in
      let b = square_below d t q y h.other h.q (child_held_at d t cell l y q (At h.other h.q) placed_too h.others) in
      record {
        c = h.one;
        e = h.other;
        joined = h.joined;
        m = a.square;
        n = b.square;
        held = a.holds;
        others = b.holds;
        near = subst (λ (s : Square). IsNear s (moved_square q.motion b.square)) (sym a.image) (subst (λ (s : Square). IsNear h.p s) (sym b.image) h.near);
      }),
  (λ h. record {
    from = is;
    to = is_too;
    one = h.c;
    other = h.e;
    p = moved_square p.motion h.m;
    q = moved_square q.motion h.n;
    held = child_holds d t cell k x p (At h.c h.m) (At h.c (moved_square p.motion h.m)) placed h.held refl;
    others = child_holds d t cell l y q (At h.e h.n) (At h.e (moved_square q.motion h.n)) placed_too h.others refl;
    joined = h.joined;
    near = h.near;
  }),
)

pub near_unmoved : (o : Motion) (p q : Square) → IsNear (moved_square o p) (moved_square o q) → IsNear p q
near_unmoved o p q (inl e) = inl (moved_square-injective o p q e)
near_unmoved o p q (inr h) = inr ((edges o p q).0 h)

pub alike : AlikeLaw
alike d w t o p q r s x y h = (
  (λ k. record {
    c = k.c;
    e = k.e;
    joined = k.joined;
    m = k.m;
    n = k.n;
    held = subst (λ i. NetHolds d t i x (At k.c k.m)) (sym h.one) k.held;
    others = subst (λ i. NetHolds d t i y (At k.e k.n)) (sym h.other) k.others;
    near =
        let near : IsNear (moved_square o (moved_square p.motion k.m)) (moved_square o (moved_square q.motion k.n)) = near_moved o (moved_square p.motion k.m) (moved_square q.motion k.n) k.near in
        subst (λ (v : Square). IsNear v (moved_square s.motion k.n)) (sym (h.moves_one k.m)) (subst (λ (v : Square). IsNear (moved_square o (moved_square p.motion k.m)) v) (sym (h.moves_other k.n)) near);
  }),
  (λ k. record {
    c = k.c;
    e = k.e;
    joined = k.joined;
    m = k.m;
    n = k.n;
    held = subst (λ i. NetHolds d t i x (At k.c k.m)) h.one k.held;
    others = subst (λ i. NetHolds d t i y (At k.e k.n)) h.other k.others;
    near =
        let near : IsNear (moved_square o (moved_square p.motion k.m)) (moved_square o (moved_square q.motion k.n)) =
        subst (λ (v : Square). IsNear v (moved_square o (moved_square q.motion k.n))) (h.moves_one k.m) (subst (λ (v : Square). IsNear (moved_square r.motion k.m) v) (h.moves_other k.n) k.near) in
        near_unmoved o (moved_square p.motion k.m) (moved_square q.motion k.n) near;
  }),
)

pub children_links : ChildrenLaw
children_links d w t x y p q window pieces others nets nets_too enough seen seen_too = (
  (λ h.
      let both = enough h.c h.e x y h.m h.n h.held h.others h.near in
      let known = conductor d w t p.cell x h.c h.m nets h.held in
      let known_too = conductor d w t q.cell y h.e h.n nets_too h.others in
      let one = seen h.c known in
      let two = seen_too h.e known_too in
      record {
        c = h.c;
        e = h.e;
        known = known;
        known_too = known_too;
        joined = h.joined;
        m = h.m;
        n = h.n;
        over = one.2.found x h.m (one.1 x h.m h.held both.0) h.held;
        over_too = two.2.found y h.n (two.1 y h.n h.others both.1) h.others;
        near = h.near;
      }),
  (λ h.
      let one = seen h.c h.known in
      let two = seen_too h.e h.known_too in
      record { c = h.c; e = h.e; joined = h.joined; m = h.m; n = h.n; held = (one.2.each x h.m h.over).1; others = (two.2.each y h.n h.over_too).1; near = h.near }),
)

over_max : (a b x : ℤ) → a ≤ℤ x → b ≤ℤ x → int_max a b ≤ℤ x
over_max a b x h g = grind (arith, ints)

under_min : (a b x : ℤ) → x <ℤ a → x <ℤ b → x <ℤ int_min a b
under_min a b x h g = grind (arith, ints)

in_common : (r s : Rect) (p : Square) → IsIn p r → IsIn p s → IsIn p (common r s)
in_common r s p h g = (over_max r.x1 s.x1 p.x h.0 g.0, under_min r.x2 s.x2 p.x h.1 g.1, over_max r.y1 s.y1 p.y h.2 g.2, under_min r.y2 s.y2 p.y h.3 g.3)

pub hulls : HullLaw
hulls d t p q one other hull hull_too c e x y m n h g near =
    let a = moved_square p.motion m in
    let b = moved_square q.motion n in
    let in_one = hull c x m h in
    let in_other = hull_too e y n g in (
      in_common (grown 1 one) (grown 1 other) a (in_grown one a in_one) (near_grown other b a in_other (near_back a b near)),
      in_common (grown 1 one) (grown 1 other) b (near_grown one a b in_one near) (in_grown other b in_other),
    )
