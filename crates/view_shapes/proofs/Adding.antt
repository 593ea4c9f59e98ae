-- Pieces that are added to a list.
use Rattle.std.proofs.Common.{◌≡◌, ◌⊎◌, ◌↔◌, inl, inr, ℕ, ◌+◌, ◌<◌, Bool, true, false, List, [], ◌∷◌, ◌++◌, Some, slice_get, get_or, length, pos, refl, sym, ap, ◌∙◌, subst, arith, zero, suc, take}
use Rattle.std.proofs.Math.Decide.{ℕ_discrete}
use Rattle.std.proofs.lemmas.Option.{slice_get-get_or, same_Some}
use Rattle.std.proofs.lemmas.List.{take_more}
use Rattle.std.proofs.Math.Seq.{take-length}
use Rattle.flat_layout.specs.Plane.{IsIn}
use Rattle.geo_base.specs.Motions.{moved_square}
use Rattle.geo_base.specs.Near.{IsNearRect}
use Rattle.geo_base.specs.Rects.{has, IsRect}
use Rattle.geo_base.specs.declared.motion.Motion.{Motion}
use Rattle.geo_base.specs.declared.shapes.Rect.{Rect}
use Rattle.geo_base.specs.declared.shapes.Square.{Square}
use Rattle.net_walk.proofs.Insides.{moved_in, from_in}
use Rattle.net_walk.specs.Held.{IsMarked}
use Rattle.net_walk.specs.Walk.{HaveArea}
use Rattle.view_shapes.specs.declared.pieces.Piece.{Piece}
use Rattle.view_shapes.specs.Pieces.{IsOver, AreNear, AreProper, AddsPieces, IsOfRect, IsOfOwnAt, IsOfOwn, IsOfMoved, AreListed}

over_left : (ps qs : List Piece) (c x : ℕ) (q : Square) → IsOver ps c x q → IsOver (ps ++ qs) c x q
over_left [] qs c x q h = absurd h
over_left (p ∷ ps) qs c x q (inl h) = inl h
over_left (p ∷ ps) qs c x q (inr h) = inr (over_left ps qs c x q h)

over_right : (ps qs : List Piece) (c x : ℕ) (q : Square) → IsOver qs c x q → IsOver (ps ++ qs) c x q
over_right [] qs c x q h = h
over_right (p ∷ ps) qs c x q h = inr (over_right ps qs c x q h)

over_either : (ps qs : List Piece) (c x : ℕ) (q : Square) → IsOver (ps ++ qs) c x q → IsOver ps c x q ⊎ IsOver qs c x q
over_either [] qs c x q h = inr h
over_either (p ∷ ps) qs c x q (inl h) = inl (inl h)
over_either (p ∷ ps) qs c x q (inr h) = elim (over_either ps qs c x q h) [ inl a ↦ inl (inr a) | inr b ↦ inr b ]

proper_last : (ps : List Piece) (p : Piece) → AreProper ps → IsRect p.rect → AreProper (ps ++ p ∷ [])
proper_last [] p h r = (r, tt)
proper_last (x ∷ ps) p h r = (h.0, proper_last ps p h.1 r)

pub added_none : (R : ℕ → ℕ → Square → Type 0) (ps : List Piece) → ((c x : ℕ) (q : Square) → R c x q → ⊥) → AddsPieces R ps ps
added_none R ps none = record { over = λ c x q. ((λ h. inl h), (λ h. elim h [ inl a ↦ a | inr b ↦ absurd (none c x q b) ])); proper = λ h. h }

-- one piece more
pub added_one : (ps : List Piece) (p : Piece) → IsRect p.rect → AddsPieces (IsOfRect p.conductor p.net p.rect) ps (ps ++ p ∷ [])
added_one ps p is = record {
  over = λ c x q. (
    (λ h. elim (over_either ps (p ∷ []) c x q h) [ inl a ↦ inl a | inr b ↦ inr (elim b [ inl k ↦ k | inr k ↦ absurd k ]) ]),
    (λ h. elim h [ inl a ↦ over_left ps (p ∷ []) c x q a | inr b ↦ over_right ps (p ∷ []) c x q (inl b) ]),
  );
  proper = λ h. proper_last ps p h is;
}

-- what is added in two steps
pub added_both : (R S T : ℕ → ℕ → Square → Type 0) (old mid new : List Piece) → AddsPieces R old mid → AddsPieces S mid new → ((c x : ℕ) (q : Square) → T c x q ↔ (R c x q ⊎ S c x q)) → AddsPieces T old new
added_both R S T old mid new h g same = record {
  over = λ c x q. (
    (λ k. elim ((g.over c x q).0 k) [
      | inl m ↦ elim ((h.over c x q).0 m) [ inl o ↦ inl o | inr r ↦ inr ((same c x q).1 (inl r)) ]
      | inr s ↦ inr ((same c x q).1 (inr s))
    ]),
    (λ k. (g.over c x q).1 (elim k [
      | inl o ↦ inl ((h.over c x q).1 (inl o))
      | inr t ↦ elim ((same c x q).0 t) [ inl r ↦ inl ((h.over c x q).1 (inr r)) | inr s ↦ inr s ]
    ])),
  );
  proper = λ k. g.proper (h.proper k);
}

-- the same by another name
pub added_as : (R T : ℕ → ℕ → Square → Type 0) (old new : List Piece) → AddsPieces R old new → ((c x : ℕ) (q : Square) → T c x q ↔ R c x q) → AddsPieces T old new
added_as R T old new h same = record {
  over = λ c x q. (
    (λ k. elim ((h.over c x q).0 k) [ inl o ↦ inl o | inr r ↦ inr ((same c x q).1 r) ]),
    (λ k. (h.over c x q).1 (elim k [ inl o ↦ inl o | inr t ↦ inr ((same c x q).0 t) ])),
  );
  proper = h.proper;
}

abbrev pub nowhere : Rect
nowhere = record { x1 = pos 0; y1 = pos 0; x2 = pos 0; y2 = pos 0 }

-- the rectangle at a position, in a wanted net
pub own_at : (own : List Rect) (conductor : ℕ) (net_of : List ℕ) (at : ℕ) (wanted : List Bool) (r : ℕ) (old new : List Piece) → r < length own → at + r < length net_of
    → get_or wanted (get_or net_of (at + r) 0) false ≡ true → AddsPieces (IsOfRect conductor (get_or net_of (at + r) 0) (get_or own r nowhere)) old new
    → AddsPieces (IsOfOwnAt own conductor net_of at wanted r) old new
own_at own conductor net_of at wanted r old new lt less is h =
    let rect = get_or own r nowhere in
    let net = get_or net_of (at + r) 0 in
    let there : slice_get own r ≡ Some rect = slice_get-get_or own r nowhere lt in
    let its : slice_get net_of (at + r) ≡ Some net = slice_get-get_or net_of (at + r) 0 less in
    added_as (IsOfRect conductor net rect) (IsOfOwnAt own conductor net_of at wanted r) old new h
    (λ c x q. (
      (λ k. (k.0, same_Some net x (sym its ∙ k.3), subst (λ (v : Rect). IsIn q v) (same_Some k.1 rect (sym k.2 ∙ there)) k.5)),
      (λ k. (k.0, rect, there, its ∙ ap (λ n. Some n) k.1, subst (λ n. IsMarked wanted n) k.1 is, k.2)),
    ))

-- none of a net that isn't wanted
pub own_not : (own : List Rect) (conductor : ℕ) (net_of : List ℕ) (at : ℕ) (wanted : List Bool) (r : ℕ) (old : List Piece) → at + r < length net_of
    → get_or wanted (get_or net_of (at + r) 0) false ≡ false → AddsPieces (IsOfOwnAt own conductor net_of at wanted r) old old
own_not own conductor net_of at wanted r old less is =
    let net = get_or net_of (at + r) 0 in
    let its : slice_get net_of (at + r) ≡ Some net = slice_get-get_or net_of (at + r) 0 less in
    added_none (IsOfOwnAt own conductor net_of at wanted r) old
    (λ c x q k.
    let marked : get_or wanted x false ≡ true = k.4 in
    let here : get_or wanted net false ≡ true = subst (λ n. get_or wanted n false ≡ true) (sym (same_Some net x (sym its ∙ k.3))) marked in
    let f : true ≡ false = sym here ∙ is in cc)

pub own_none : (own : List Rect) (conductor : ℕ) (net_of : List ℕ) (at : ℕ) (wanted : List Bool) (ps : List Piece) → AddsPieces (IsOfOwn own conductor net_of at wanted 0) ps ps
own_none own conductor net_of at wanted ps = added_none (IsOfOwn own conductor net_of at wanted 0) ps (λ c x q h. let lt = h.1 in absurd (omega arith))

-- one position more
pub own_more : (own : List Rect) (conductor : ℕ) (net_of : List ℕ) (at : ℕ) (wanted : List Bool) (n : ℕ) (old mid new : List Piece) → AddsPieces (IsOfOwn own conductor net_of at wanted n) old mid
    → AddsPieces (IsOfOwnAt own conductor net_of at wanted n) mid new → AddsPieces (IsOfOwn own conductor net_of at wanted (n + 1)) old new
own_more own conductor net_of at wanted n old mid new h g =
    added_both (IsOfOwn own conductor net_of at wanted n) (IsOfOwnAt own conductor net_of at wanted n) (IsOfOwn own conductor net_of at wanted (n + 1)) old mid new h g
    (λ c x q. (
      (λ k. elim (ℕ_discrete k.0 n) [
        | yes e ↦ inr (subst (λ i. IsOfOwnAt own conductor net_of at wanted i c x q) e k.2)
        | no m ↦ let before = k.1 in inl (k.0, omega arith, k.2)
      ]),
      (λ k. elim k [
        | inl a ↦ let before = a.1 in (a.0, omega arith, a.2)
        | inr b ↦ (n, omega arith, b)
      ]),
    ))

pub area_at : (own : List Rect) (r : ℕ) → HaveArea own → r < length own → IsRect (get_or own r nowhere)
area_at [] r h lt = absurd (omega arith)
area_at (x ∷ own) zero h lt = h.0
area_at (x ∷ own) (suc r) h lt = area_at own r h.1 (omega arith)

-- images of pieces

-- the image of one, in the net that stands that far behind a place
pub image_as : (m : Motion) (p : Piece) (image : Rect) (net_of : List ℕ) (at : ℕ) (old new : List Piece) → at + p.net < length net_of
    → ((s : Square) → has image (moved_square m s) ≡ has p.rect s) → AddsPieces (IsOfRect p.conductor (get_or net_of (at + p.net) 0) image) old new
    → AddsPieces (IsOfMoved m (p ∷ []) net_of at) old new
image_as m p image net_of at old new less same h =
    let net = get_or net_of (at + p.net) 0 in
    let its : slice_get net_of (at + p.net) ≡ Some net = slice_get-get_or net_of (at + p.net) 0 less in
    added_as (IsOfRect p.conductor net image) (IsOfMoved m (p ∷ []) net_of at) old new h
    (λ c x q. (
      (λ k. elim k.2 [
        | inl o ↦
            let two : slice_get net_of (at + p.net) ≡ Some x = subst (λ i. slice_get net_of (at + i) ≡ Some x) (sym o.1) k.3 in
            (o.0, same_Some net x (sym its ∙ two), subst (λ (v : Square). IsIn v image) k.4 (moved_in m p.rect image same k.1 o.2))
        | inr o ↦ absurd o
      ]),
      (λ k. let f = from_in m p.rect image same q k.2 in (p.net, f.0, inl (k.0, refl, f.1), its ∙ ap (λ n. Some n) k.1, f.2)),
    ))

pub moved_none : (m : Motion) (net_of : List ℕ) (at : ℕ) (ps : List Piece) → AddsPieces (IsOfMoved m [] net_of at) ps ps
moved_none m net_of at ps = added_none (IsOfMoved m [] net_of at) ps (λ c x q h. absurd h.2)

moved_more : (m : Motion) (cs bs : List Piece) (net_of : List ℕ) (at : ℕ) (old mid new : List Piece) → AddsPieces (IsOfMoved m cs net_of at) old mid → AddsPieces (IsOfMoved m bs net_of at) mid new
    → AddsPieces (IsOfMoved m (cs ++ bs) net_of at) old new
moved_more m cs bs net_of at old mid new h g =
    added_both (IsOfMoved m cs net_of at) (IsOfMoved m bs net_of at) (IsOfMoved m (cs ++ bs) net_of at) old mid new h g
    (λ c x q. (
      (λ k. elim (over_either cs bs c k.0 k.1 k.2) [ inl a ↦ inl (k.0, k.1, a, k.3, k.4) | inr b ↦ inr (k.0, k.1, b, k.3, k.4) ]),
      (λ k. elim k [ inl a ↦ (a.0, a.1, over_left cs bs c a.0 a.1 a.2, a.3, a.4) | inr b ↦ (b.0, b.1, over_right cs bs c b.0 b.1 b.2, b.3, b.4) ]),
    ))

abbrev pub no_piece : Piece
no_piece = record { conductor = 0; net = 0; rect = nowhere }

pub moved_at : (m : Motion) (ps : List Piece) (k : ℕ) (net_of : List ℕ) (at : ℕ) (old mid new : List Piece) → k < length ps → AddsPieces (IsOfMoved m (take k ps) net_of at) old mid
    → AddsPieces (IsOfMoved m (get_or ps k no_piece ∷ []) net_of at) mid new → AddsPieces (IsOfMoved m (take (k + 1) ps) net_of at) old new
moved_at m ps k net_of at old mid new lt h g = subst (λ (l : List Piece). AddsPieces (IsOfMoved m l net_of at) old new) (sym (take_more ps k no_piece lt)) (moved_more m (take k ps) (get_or ps k no_piece ∷ []) net_of at old mid new h g)

pub moved_all : (m : Motion) (ps : List Piece) (k : ℕ) (net_of : List ℕ) (at : ℕ) (old new : List Piece) → k ≡ length ps → AddsPieces (IsOfMoved m (take k ps) net_of at) old new → AddsPieces (IsOfMoved m ps net_of at) old new
moved_all m ps k net_of at old new e h = subst (λ (l : List Piece). AddsPieces (IsOfMoved m l net_of at) old new) (ap (λ n. take n ps) e ∙ take-length ps) h

pub listed_at : (long at : ℕ) (ps : List Piece) (k : ℕ) → AreListed long at ps → k < length ps → at + (get_or ps k no_piece).net < long
listed_at long at [] k h lt = absurd (omega arith)
listed_at long at (p ∷ ps) zero h lt = h.0
listed_at long at (p ∷ ps) (suc k) h lt = listed_at long at ps k h.1 (omega arith)

pub near_at : (ps : List Piece) (k : ℕ) → AreNear ps → k < length ps → IsNearRect (get_or ps k no_piece).rect × IsRect (get_or ps k no_piece).rect
near_at [] k h lt = absurd (omega arith)
near_at (p ∷ ps) zero h lt = (h.0, h.1)
near_at (p ∷ ps) (suc k) h lt = near_at ps k h.2 (omega arith)
