-- Pieces that are added to a list.
use Rattle.std.proofs.Common.{◌≡◌, ◌⊎◌, ◌↔◌, inl, inr, ℕ, zero, suc, ◌+◌, ◌<◌, List, [], ◌∷◌, ◌++◌, Some, slice_get, get_or, length, take, pos, refl, sym, ap, ◌∙◌, subst, arith}
use Rattle.std.proofs.Math.Decide.{ℕ_discrete}
use Rattle.std.proofs.Math.Seq.{take-length}
use Rattle.std.proofs.lemmas.List.{get_or_default, take_more}
use Rattle.std.proofs.lemmas.Option.{slice_get-get_or}
use Rattle.flat_layout.specs.Plane.{IsIn}
use Rattle.geo_base.specs.Motions.{moved_square}
use Rattle.geo_base.specs.Rects.{has, IsRect, common}
use Rattle.geo_base.specs.declared.motion.Motion.{Motion}
use Rattle.geo_base.specs.declared.shapes.Rect.{Rect}
use Rattle.geo_base.specs.declared.shapes.Square.{Square}
use Rattle.net_link_laws.specs.Collected.{IsOver}
use Rattle.net_link_laws.specs.declared.piece.NetPiece.{NetPiece}
use Rattle.net_walk.proofs.Insides.{in_common, common_in, rect_of, common_inside, all_in, in_inside, moved_in, from_in}
use Rattle.net_walk.specs.Walk.{IsInside, AreInside, AddsPieces, IsClipped, IsOfOwn, IsOfOwnAt, IsOfMoved, AreListed}
use Rattle.net_walk.specs.Windows.{AreOwnNear}

over_left : (ps qs : List NetPiece) (x : ℕ) (q : Square) → IsOver ps x q → IsOver (ps ++ qs) x q
over_left [] qs x q h = absurd h
over_left (p ∷ ps) qs x q (inl h) = inl h
over_left (p ∷ ps) qs x q (inr h) = inr (over_left ps qs x q h)

over_right : (ps qs : List NetPiece) (x : ℕ) (q : Square) → IsOver qs x q → IsOver (ps ++ qs) x q
over_right [] qs x q h = h
over_right (p ∷ ps) qs x q h = inr (over_right ps qs x q h)

over_either : (ps qs : List NetPiece) (x : ℕ) (q : Square) → IsOver (ps ++ qs) x q → IsOver ps x q ⊎ IsOver qs x q
over_either [] qs x q h = inr h
over_either (p ∷ ps) qs x q (inl h) = inl (inl h)
over_either (p ∷ ps) qs x q (inr h) = elim (over_either ps qs x q h) [ inl a ↦ inl (inr a) | inr b ↦ inr b ]

inside_last : (w : Rect) (ps : List NetPiece) (p : NetPiece) → AreInside w ps → IsInside p.rect w → AreInside w (ps ++ p ∷ [])
inside_last w [] p h g = (g, tt)
inside_last w (x ∷ ps) p h g = (h.0, inside_last w ps p h.1 g)

pub added_none : (w : Rect) (R : ℕ → Square → Type 0) (ps : List NetPiece) → ((x : ℕ) (q : Square) → R x q → ⊥) → AddsPieces w R ps ps
added_none w R ps none = record { over = λ x q. ((λ h. inl h), (λ h. elim h [ inl a ↦ a | inr b ↦ absurd (none x q b) ])); inside = λ h. h }

pub added_one : (w : Rect) (R : ℕ → Square → Type 0) (ps : List NetPiece) (p : NetPiece) → IsInside p.rect w → ((x : ℕ) (q : Square) → R x q ↔ ((p.net ≡ x) × IsIn q p.rect)) → AddsPieces w R ps (ps ++ p ∷ [])
added_one w R ps p in_w same = record {
  over = λ x q. (
    (λ h. elim (over_either ps (p ∷ []) x q h) [ inl a ↦ inl a | inr b ↦ inr (elim b [ inl k ↦ (same x q).1 k | inr k ↦ absurd k ]) ]),
    (λ h. elim h [ inl a ↦ over_left ps (p ∷ []) x q a | inr b ↦ over_right ps (p ∷ []) x q (inl ((same x q).0 b)) ]),
  );
  inside = λ h. inside_last w ps p h in_w;
}

pub added_both : (w : Rect) (R S T : ℕ → Square → Type 0) (old mid new : List NetPiece) → AddsPieces w R old mid → AddsPieces w S mid new → ((x : ℕ) (q : Square) → T x q ↔ (R x q ⊎ S x q)) → AddsPieces w T old new
added_both w R S T old mid new h g same = record {
  over = λ x q. (
    (λ k. elim ((g.over x q).0 k) [
      | inl m ↦ elim ((h.over x q).0 m) [ inl o ↦ inl o | inr r ↦ inr ((same x q).1 (inl r)) ]
      | inr s ↦ inr ((same x q).1 (inr s))
    ]),
    (λ k. (g.over x q).1 (elim k [
      | inl o ↦ inl ((h.over x q).1 (inl o))
      | inr t ↦ elim ((same x q).0 t) [ inl r ↦ inl ((h.over x q).1 (inr r)) | inr s ↦ inr s ]
    ])),
  );
  inside = λ k. g.inside (h.inside k);
}

-- the part of a rectangle in the window

pub clipped_some : (w rect : Rect) (net : ℕ) (ps : List NetPiece) → IsRect (common rect w) → AddsPieces w (IsClipped w net rect) ps (ps ++ record { net = net; rect = common rect w } ∷ [])
clipped_some w rect net ps h =
    let p : NetPiece = record { net = net; rect = common rect w } in
    added_one w (IsClipped w net rect) ps p (common_inside rect w h)
    (λ x q. ((λ k. (k.0, in_common rect w q k.1 k.2)), (λ k. let both = common_in rect w q k.1 in (k.0, both.0, both.1))))

pub clipped_none : (w rect : Rect) (net : ℕ) (ps : List NetPiece) → (IsRect (common rect w) → ⊥) → AddsPieces w (IsClipped w net rect) ps ps
clipped_none w rect net ps not = added_none w (IsClipped w net rect) ps (λ x q k. not (rect_of (common rect w) q (in_common rect w q k.1 k.2)))

-- own rectangles

abbrev pub nowhere : Rect
nowhere = record { x1 = pos 0; y1 = pos 0; x2 = pos 0; y2 = pos 0 }

-- of the rectangle at a position
pub own_at : (w : Rect) (own : List Rect) (net_of : List ℕ) (at r : ℕ) (old new : List NetPiece) → r < length own → at + r < length net_of
    → AddsPieces w (IsClipped w (get_or net_of (at + r) 0) (get_or own r nowhere)) old new → AddsPieces w (IsOfOwnAt w own net_of at r) old new
own_at w own net_of at r old new lt less h =
    let rect = get_or own r nowhere in
    let net = get_or net_of (at + r) 0 in
    let there : slice_get own r ≡ Some rect = slice_get-get_or own r nowhere lt in
    let its : slice_get net_of (at + r) ≡ Some net = slice_get-get_or net_of (at + r) 0 less in
    added_both w (IsClipped w net rect) (λ x q. ⊥) (IsOfOwnAt w own net_of at r) old new new h (added_none w (λ x q. ⊥) new (λ x q e. e))
    (λ x q. (
      (λ k.
          let same : k.0 ≡ rect = let f : Some k.0 ≡ Some rect = sym k.1 ∙ there in cc in
          let number : net ≡ x = let f : Some net ≡ Some x = sym its ∙ k.2 in cc in
          inl (number, subst (λ (v : Rect). IsIn q v) same k.3, k.4)),
      (λ k. elim k [ inl a ↦ (rect, there, its ∙ ap Some a.0, a.1, a.2) | inr b ↦ absurd b ]),
    ))

-- of those at the first n positions of a list
abbrev pub IsOfNear : Rect → List Rect → List ℕ → ℕ → List ℕ → ℕ → ℕ → Square → Type 0
IsOfNear w own net_of at near n x q = (j : ℕ) × IsOfOwnAt w own net_of at (get_or near j 0) x q × (j < n)

pub near_none : (w : Rect) (own : List Rect) (net_of : List ℕ) (at : ℕ) (near : List ℕ) (ps : List NetPiece) → AddsPieces w (IsOfNear w own net_of at near 0) ps ps
near_none w own net_of at near ps = added_none w (IsOfNear w own net_of at near 0) ps (λ x q h. let lt = h.2 in absurd (omega arith))

pub near_more : (w : Rect) (own : List Rect) (net_of : List ℕ) (at : ℕ) (near : List ℕ) (n : ℕ) (old mid new : List NetPiece) → AddsPieces w (IsOfNear w own net_of at near n) old mid
    → AddsPieces w (IsOfOwnAt w own net_of at (get_or near n 0)) mid new → AddsPieces w (IsOfNear w own net_of at near (n + 1)) old new
near_more w own net_of at near n old mid new h g =
    added_both w (IsOfNear w own net_of at near n) (IsOfOwnAt w own net_of at (get_or near n 0)) (IsOfNear w own net_of at near (n + 1)) old mid new h g
    (λ x q. (
      (λ k. elim (ℕ_discrete k.0 n) [
        | yes e ↦ inr (subst (λ i. IsOfOwnAt w own net_of at (get_or near i 0) x q) e k.1)
        | no m ↦ let before = k.2 in inl (k.0, k.1, omega arith)
      ]),
      (λ k. elim k [
        | inl a ↦ let before = a.2 in (a.0, a.1, omega arith)
        | inr b ↦ (n, b, omega arith)
      ]),
    ))

-- where the list has all that share a square with the window, those are all
pub near_all : (w : Rect) (own : List Rect) (net_of : List ℕ) (at : ℕ) (near : List ℕ) (n : ℕ) (old new : List NetPiece) → AreOwnNear own w near → n ≡ length near
    → AddsPieces w (IsOfNear w own net_of at near n) old new → AddsPieces w (IsOfOwn w own net_of at (length own)) old new
near_all w own net_of at near n old new are e h =
    added_both w (IsOfNear w own net_of at near n) (λ x q. ⊥) (IsOfOwn w own net_of at (length own)) old new new h (added_none w (λ x q. ⊥) new (λ x q f. f))
    (λ x q. (
      (λ k.
          let c = are.all k.0 k.2 q k.3 k.5 k.6 in
          let is : get_or near c.0 0 ≡ k.0 = get_or_default near c.0 0 k.0 c.1 ∙ c.2 in
          inl (c.0, subst (λ i. IsOfOwnAt w own net_of at i x q) (sym is) (k.2, k.3, k.4, k.5, k.6), subst (λ m. c.0 < m) (sym e) c.1)),
      (λ k. elim k [
        | inl a ↦
            let o = a.1 in
            (get_or near a.0 0, are.inside a.0 (subst (λ m. a.0 < m) e a.2), o.0, o.1, o.2, o.3, o.4)
        | inr b ↦ absurd b
      ]),
    ))

-- images of pieces

pub image_added : (w inner image : Rect) (m : Motion) (p : NetPiece) (net_of : List ℕ) (at : ℕ) (ps : List NetPiece) → at + p.net < length net_of → IsRect image → IsInside p.rect inner
    → ((s : Square) → IsIn s inner → IsIn (moved_square m s) w) → ((s : Square) → has image (moved_square m s) ≡ has p.rect s)
    → AddsPieces w (IsOfMoved m (p ∷ []) net_of at) ps (ps ++ record { net = get_or net_of (at + p.net) 0; rect = image } ∷ [])
image_added w inner image m p net_of at ps less is inside into same =
    let net = get_or net_of (at + p.net) 0 in
    let its : slice_get net_of (at + p.net) ≡ Some net = slice_get-get_or net_of (at + p.net) 0 less in
    let one : NetPiece = record { net = net; rect = image } in
    let in_w : IsInside image w = all_in image w is (λ q h.
    let f = from_in m p.rect image same q h in
    subst (λ (v : Square). IsIn v w) f.2 (into f.0 (in_inside p.rect inner f.0 inside f.1))) in
    added_one w (IsOfMoved m (p ∷ []) net_of at) ps one in_w
    (λ x q. (
      (λ k. elim k.2 [
        | inl o ↦
            let two : slice_get net_of (at + p.net) ≡ Some x = subst (λ i. slice_get net_of (at + i) ≡ Some x) (sym o.0) k.3 in
            let number : net ≡ x = let f : Some net ≡ Some x = sym its ∙ two in cc in
            (number, subst (λ (v : Square). IsIn v image) k.4 (moved_in m p.rect image same k.1 o.1))
        | inr o ↦ absurd o
      ]),
      (λ k. let f = from_in m p.rect image same q k.1 in (p.net, f.0, inl (refl, f.1), its ∙ ap Some k.0, f.2)),
    ))

pub moved_none : (w : Rect) (m : Motion) (net_of : List ℕ) (at : ℕ) (ps : List NetPiece) → AddsPieces w (IsOfMoved m [] net_of at) ps ps
moved_none w m net_of at ps = added_none w (IsOfMoved m [] net_of at) ps (λ x q h. absurd h.2)

moved_more : (w : Rect) (m : Motion) (cs bs : List NetPiece) (net_of : List ℕ) (at : ℕ) (old mid new : List NetPiece) → AddsPieces w (IsOfMoved m cs net_of at) old mid → AddsPieces w (IsOfMoved m bs net_of at) mid new
    → AddsPieces w (IsOfMoved m (cs ++ bs) net_of at) old new
moved_more w m cs bs net_of at old mid new h g =
    added_both w (IsOfMoved m cs net_of at) (IsOfMoved m bs net_of at) (IsOfMoved m (cs ++ bs) net_of at) old mid new h g
    (λ x q. (
      (λ k. elim (over_either cs bs k.0 k.1 k.2) [ inl a ↦ inl (k.0, k.1, a, k.3, k.4) | inr b ↦ inr (k.0, k.1, b, k.3, k.4) ]),
      (λ k. elim k [ inl a ↦ (a.0, a.1, over_left cs bs a.0 a.1 a.2, a.3, a.4) | inr b ↦ (b.0, b.1, over_right cs bs b.0 b.1 b.2, b.3, b.4) ]),
    ))

abbrev pub no_piece : NetPiece
no_piece = record { net = 0; rect = nowhere }

pub moved_at : (w : Rect) (m : Motion) (ps : List NetPiece) (k : ℕ) (net_of : List ℕ) (at : ℕ) (old mid new : List NetPiece) → k < length ps → AddsPieces w (IsOfMoved m (take k ps) net_of at) old mid
    → AddsPieces w (IsOfMoved m (get_or ps k no_piece ∷ []) net_of at) mid new → AddsPieces w (IsOfMoved m (take (k + 1) ps) net_of at) old new
moved_at w m ps k net_of at old mid new lt h g = subst (λ (l : List NetPiece). AddsPieces w (IsOfMoved m l net_of at) old new) (sym (take_more ps k no_piece lt)) (moved_more w m (take k ps) (get_or ps k no_piece ∷ []) net_of at old mid new h g)

pub moved_all : (w : Rect) (m : Motion) (ps : List NetPiece) (k : ℕ) (net_of : List ℕ) (at : ℕ) (old new : List NetPiece) → k ≡ length ps → AddsPieces w (IsOfMoved m (take k ps) net_of at) old new → AddsPieces w (IsOfMoved m ps net_of at) old new
moved_all w m ps k net_of at old new e h = subst (λ (l : List NetPiece). AddsPieces w (IsOfMoved m l net_of at) old new) (ap (λ n. take n ps) e ∙ take-length ps) h

pub listed_at : (long at : ℕ) (ps : List NetPiece) (k : ℕ) → AreListed long at ps → k < length ps → AreListed long at (get_or ps k no_piece ∷ [])
listed_at long at [] k h lt = absurd (omega arith)
listed_at long at (p ∷ ps) zero h lt = (h.0, tt)
listed_at long at (p ∷ ps) (suc k) h lt = listed_at long at ps k h.1 (omega arith)

pub inside_at : (w : Rect) (ps : List NetPiece) (k : ℕ) → AreInside w ps → k < length ps → IsInside (get_or ps k no_piece).rect w
inside_at w [] k h lt = absurd (omega arith)
inside_at w (p ∷ ps) zero h lt = h.0
inside_at w (p ∷ ps) (suc k) h lt = inside_at w ps k h.1 (omega arith)
