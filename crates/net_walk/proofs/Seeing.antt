-- Pieces of a placed cell's nets as the cell sees them.
use Rattle.std.proofs.Common.{◌≡◌, ◌⊎◌, ◌↔◌, inl, inr, ℕ, zero, suc, ◌+◌, ◌<◌, ◌≤◌, List, [], ◌∷◌, ◌++◌, get_or, length, take, refl, sym, ap, ◌∙◌, subst, arith}
use Rattle.std.proofs.Math.Decide.{ℕ_discrete}
use Rattle.std.proofs.Math.Seq.{take-length}
use Rattle.std.proofs.lemmas.Int.{ints}
use Rattle.std.proofs.lemmas.List.{take_more}
use Rattle.flat_layout.specs.Layout.{Design, Place, Some_of}
use Rattle.flat_layout.specs.Nets.{Tables, NetHolds, AreNets}
use Rattle.flat_layout.specs.Plane.{IsIn}
use Rattle.flat_layout.specs.Regions.{Wiring, At}
use Rattle.geo_base.specs.Motions.{moved_square}
use Rattle.geo_base.specs.Rects.{has, IsRect}
use Rattle.geo_base.specs.declared.motion.Motion.{Motion}
use Rattle.geo_base.specs.declared.shapes.Rect.{Rect}
use Rattle.geo_base.specs.declared.shapes.Square.{Square}
use Rattle.net_link_laws.specs.Collected.{IsOver, AreCollected}
use Rattle.net_link_laws.specs.declared.piece.NetPiece.{NetPiece}
use Rattle.net_walk.proofs.Adding.{no_piece}
use Rattle.net_walk.proofs.Insides.{moved_in, from_in}
use Rattle.net_walk.specs.Seen.{HaveSquares, AreLinksOver, IsPieceOver, AddsSeen, IsSeenOf, IsSeen, IsSeenAt, IsSeenWhere, IsLineSeen, IsJoinedSeen, IsSeenOfTwo, JoinsTwo, HaveItems}
use Rattle.net_walk.specs.Walk.{AreInside, IsPart, HasNoPart}
use Rattle.link_classes.specs.declared.classes.Link.{Link}
use Rattle.touching_pieces.specs.Pairs.{AreJoined, AreLinksOf, AreOf, IsAmong}
use Rattle.touching_pieces.specs.Touching.{AreTouching}
use Rattle.touching_pieces.specs.declared.conductors.Joined.{Joined}
use Rattle.touching_pieces.specs.declared.pieces.Piece.{Piece}

over_left : (ps qs : List Piece) (c i : ℕ) (q : Square) → IsPieceOver ps c i q → IsPieceOver (ps ++ qs) c i q
over_left [] qs c i q h = absurd h
over_left (p ∷ ps) qs c i q (inl h) = inl h
over_left (p ∷ ps) qs c i q (inr h) = inr (over_left ps qs c i q h)

over_right : (ps qs : List Piece) (c i : ℕ) (q : Square) → IsPieceOver qs c i q → IsPieceOver (ps ++ qs) c i q
over_right [] qs c i q h = h
over_right (p ∷ ps) qs c i q h = inr (over_right ps qs c i q h)

over_either : (ps qs : List Piece) (c i : ℕ) (q : Square) → IsPieceOver (ps ++ qs) c i q → IsPieceOver ps c i q ⊎ IsPieceOver qs c i q
over_either [] qs c i q h = inr h
over_either (p ∷ ps) qs c i q (inl h) = inl (inl h)
over_either (p ∷ ps) qs c i q (inr h) = elim (over_either ps qs c i q h) [ inl a ↦ inl (inr a) | inr b ↦ inr b ]

split_over : (cs bs : List NetPiece) (x : ℕ) (q : Square) → IsOver (cs ++ bs) x q → IsOver cs x q ⊎ IsOver bs x q
split_over [] bs x q h = inr h
split_over (p ∷ ps) bs x q (inl h) = inl (inl h)
split_over (p ∷ ps) bs x q (inr h) = elim (split_over ps bs x q h) [ inl a ↦ inl (inr a) | inr b ↦ inr b ]

left_over : (cs bs : List NetPiece) (x : ℕ) (q : Square) → IsOver cs x q → IsOver (cs ++ bs) x q
left_over [] bs x q h = absurd h
left_over (p ∷ ps) bs x q (inl h) = inl h
left_over (p ∷ ps) bs x q (inr h) = inr (left_over ps bs x q h)

right_over : (cs bs : List NetPiece) (x : ℕ) (q : Square) → IsOver bs x q → IsOver (cs ++ bs) x q
right_over [] bs x q h = h
right_over (p ∷ ps) bs x q h = inr (right_over ps bs x q h)

filled_last : (ps : List Piece) (p : Piece) → HaveSquares ps → IsRect p.rect → HaveSquares (ps ++ p ∷ [])
filled_last [] p h g = (g, tt)
filled_last (x ∷ ps) p h g = (h.0, filled_last ps p h.1 g)

pub seen_none : (R : ℕ → ℕ → Square → Type 0) (ps : List Piece) → ((c i : ℕ) (q : Square) → R c i q → ⊥) → AddsSeen R ps ps
seen_none R ps none = record { over = λ c i q. ((λ h. inl h), (λ h. elim h [ inl a ↦ a | inr b ↦ absurd (none c i q b) ])); filled = λ h. h }

pub seen_both : (R S T : ℕ → ℕ → Square → Type 0) (old mid new : List Piece) → AddsSeen R old mid → AddsSeen S mid new → ((c i : ℕ) (q : Square) → T c i q ↔ (R c i q ⊎ S c i q)) → AddsSeen T old new
seen_both R S T old mid new h g same = record {
  over = λ c i q. (
    (λ k. elim ((g.over c i q).0 k) [
      | inl m ↦ elim ((h.over c i q).0 m) [ inl o ↦ inl o | inr r ↦ inr ((same c i q).1 (inl r)) ]
      | inr s ↦ inr ((same c i q).1 (inr s))
    ]),
    (λ k. (g.over c i q).1 (elim k [
      | inl o ↦ inl ((h.over c i q).1 (inl o))
      | inr t ↦ elim ((same c i q).0 t) [ inl r ↦ inl ((h.over c i q).1 (inr r)) | inr s ↦ inr s ]
    ])),
  );
  filled = λ k. g.filled (h.filled k);
}

pub one_seen : (m : Motion) (p : NetPiece) (conductor at : ℕ) (image : Rect) (ps : List Piece) → IsRect image → ((s : Square) → has image (moved_square m s) ≡ has p.rect s)
    → AddsSeen (IsSeenOf m (p ∷ []) conductor at) ps (ps ++ record { conductor = conductor; rect = image; item = at + p.net } ∷ [])
one_seen m p conductor at image ps is same =
    let o : Piece = record { conductor = conductor; rect = image; item = at + p.net } in
    record {
      over = λ c i q. (
        (λ h. elim (over_either ps (o ∷ []) c i q h) [
          | inl a ↦ inl a
          | inr b ↦ elim b [
            | inl k ↦ let f = from_in m p.rect image same q k.2 in inr (k.0, p.net, f.0, inl (refl, f.1), k.1, f.2)
            | inr k ↦ absurd k
          ]
        ]),
        (λ h. elim h [
          | inl a ↦ over_left ps (o ∷ []) c i q a
          | inr b ↦ elim b.3 [
            | inl k ↦ over_right ps (o ∷ []) c i q (inl (b.0, ap (λ n. at + n) k.0 ∙ b.4, subst (λ (v : Square). IsIn v image) b.5 (moved_in m p.rect image same b.2 k.1)))
            | inr k ↦ absurd k
          ]
        ]),
      );
      filled = λ h. filled_last ps o h is;
    }

pub seen_at : (m : Motion) (ps : List NetPiece) (k conductor at : ℕ) (old mid new : List Piece) → k < length ps → AddsSeen (IsSeenOf m (take k ps) conductor at) old mid → AddsSeen (IsSeenOf m (get_or ps k no_piece ∷ []) conductor at) mid new
    → AddsSeen (IsSeenOf m (take (k + 1) ps) conductor at) old new
seen_at m ps k conductor at old mid new lt h g =
    let bs = take k ps in
    let cs = get_or ps k no_piece ∷ [] in
    let now : AddsSeen (IsSeenOf m (bs ++ cs) conductor at) old new = seen_both (IsSeenOf m bs conductor at) (IsSeenOf m cs conductor at) (IsSeenOf m (bs ++ cs) conductor at) old mid new h g
    (λ c i q. (
      (λ s. elim (split_over bs cs s.1 s.2 s.3) [ inl a ↦ inl (s.0, s.1, s.2, a, s.4, s.5) | inr b ↦ inr (s.0, s.1, s.2, b, s.4, s.5) ]),
      (λ s. elim s [ inl a ↦ (a.0, a.1, a.2, left_over bs cs a.1 a.2 a.3, a.4, a.5) | inr b ↦ (b.0, b.1, b.2, right_over bs cs b.1 b.2 b.3, b.4, b.5) ]),
    )) in
    subst (λ (l : List NetPiece). AddsSeen (IsSeenOf m l conductor at) old new) (sym (take_more ps k no_piece lt)) now

pub seen_all : (m : Motion) (ps : List NetPiece) (k conductor at : ℕ) (old new : List Piece) → k ≡ length ps → AddsSeen (IsSeenOf m (take k ps) conductor at) old new → AddsSeen (IsSeenOf m ps conductor at) old new
seen_all m ps k conductor at old new e h = subst (λ (l : List NetPiece). AddsSeen (IsSeenOf m l conductor at) old new) (ap (λ n. take n ps) e ∙ take-length ps) h

pub nothing_seen : (m : Motion) (conductor at : ℕ) (ps : List Piece) → AddsSeen (IsSeenOf m [] conductor at) ps ps
nothing_seen m conductor at ps = seen_none (IsSeenOf m [] conductor at) ps (λ c i q h. h.3)

pub items_at : (at : ℕ) (ps : List NetPiece) (k : ℕ) → HaveItems at ps → k < length ps → HaveItems at (get_or ps k no_piece ∷ [])
items_at at [] k h lt = absurd (omega arith)
items_at at (p ∷ ps) zero h lt = (h.0, tt)
items_at at (p ∷ ps) (suc k) h lt = items_at at ps k h.1 (omega arith)

pub seen_same : (R S : ℕ → ℕ → Square → Type 0) (old new : List Piece) → AddsSeen R old new → ((c i : ℕ) (q : Square) → R c i q ↔ S c i q) → AddsSeen S old new
seen_same R S old new h same = record {
  over = λ c i q. (
    (λ k. elim ((h.over c i q).0 k) [ inl a ↦ inl a | inr b ↦ inr ((same c i q).0 b) ]),
    (λ k. (h.over c i q).1 (elim k [ inl a ↦ inl a | inr b ↦ inr ((same c i q).1 b) ])),
  );
  filled = h.filled;
}

-- lines that join two conductors

abbrev pub no_line : Joined
no_line = record { first = 0; second = 0 }

some_split : (P : Joined → Type 0) (ls : List Joined) (l : Joined) → Some_of P (ls ++ l ∷ []) → Some_of P ls ⊎ P l
some_split P [] l (inl h) = inr h
some_split P [] l (inr h) = absurd h
some_split P (x ∷ ls) l (inl h) = inl (inl h)
some_split P (x ∷ ls) l (inr h) = elim (some_split P ls l h) [ inl a ↦ inl (inr a) | inr b ↦ inr b ]

some_left : (P : Joined → Type 0) (ls : List Joined) (l : Joined) → Some_of P ls → Some_of P (ls ++ l ∷ [])
some_left P [] l h = absurd h
some_left P (x ∷ ls) l (inl h) = inl h
some_left P (x ∷ ls) l (inr h) = inr (some_left P ls l h)

some_last : (P : Joined → Type 0) (ls : List Joined) (l : Joined) → P l → Some_of P (ls ++ l ∷ [])
some_last P [] l h = inl h
some_last P (x ∷ ls) l h = inr (some_last P ls l h)

pub joined_split : (ls : List Joined) (l : Joined) (c e : ℕ) → AreJoined (ls ++ l ∷ []) c e → AreJoined ls c e ⊎ JoinsTwo l c e
joined_split ls l c e (inl h) = inl (inl h)
joined_split ls l c e (inr h) = elim (some_split (λ m. JoinsTwo m c e) ls l h) [ inl a ↦ inl (inr a) | inr b ↦ inr b ]

pub joined_left : (ls : List Joined) (l : Joined) (c e : ℕ) → AreJoined ls c e → AreJoined (ls ++ l ∷ []) c e
joined_left ls l c e (inl h) = inl h
joined_left ls l c e (inr h) = inr (some_left (λ m. JoinsTwo m c e) ls l h)

pub joined_last : (ls : List Joined) (l : Joined) (c e : ℕ) → JoinsTwo l c e → AreJoined (ls ++ l ∷ []) c e
joined_last ls l c e h = inr (some_last (λ m. JoinsTwo m c e) ls l h)

-- conductor after conductor; or of those that are joined to one, line after line
module _ (d : Design) (t : Tables) (p : Place) (window : Rect) (at : ℕ) where
  fewer : (n c i : ℕ) (q : Square) → (c ≡ n → ⊥) → IsSeen d t p window at (n + 1) c i q → IsSeen d t p window at n c i q
  fewer n c i q not s = let lt = s.known in record { known = (let less : c < n = omega (arith, lt, not) in less); net = s.net; square = s.square; holds = s.holds; item = s.item; image = s.image; within = s.within }

  wider : (n c i : ℕ) (q : Square) → IsSeen d t p window at n c i q → IsSeen d t p window at (n + 1) c i q
  wider n c i q s = let lt = s.known in record { known = (let less : c < n + 1 = omega (arith, lt) in less); net = s.net; square = s.square; holds = s.holds; item = s.item; image = s.image; within = s.within }

  pub conductor_seen : (n : ℕ) (old mid new : List Piece) → AddsSeen (IsSeen d t p window at n) old mid → AddsSeen (IsSeenAt d t p window at n) mid new → AddsSeen (IsSeen d t p window at (n + 1)) old new
  conductor_seen n old mid new h g =
      seen_both (IsSeen d t p window at n) (IsSeenAt d t p window at n) (IsSeen d t p window at (n + 1)) old mid new h g
      (λ c i q. (
        (λ s. elim (ℕ_discrete c n) [ yes e ↦ inr (sym e, s) | no m ↦ inl (fewer n c i q m s) ]),
        (λ s. elim s [ inl a ↦ wider n c i q a | inr b ↦ b.1 ]),
      ))

  known_by : (m n c i : ℕ) (q : Square) → c < n → IsSeen d t p window at m c i q → IsSeen d t p window at n c i q
  known_by m n c i q lt s = record { known = lt; net = s.net; square = s.square; holds = s.holds; item = s.item; image = s.image; within = s.within }

  next_known : (n c : ℕ) → n ≡ c → c < n + 1
  next_known n c e = omega (arith, e)

  pub where_seen : (one k other n : ℕ) (old new : List Piece) → one ≡ k → other < n → AddsSeen (IsSeenAt d t p window at other) old new → AddsSeen (IsSeenWhere d t one k other p window at n) old new
  where_seen one k other n old new e lt h =
      seen_same (IsSeenAt d t p window at other) (IsSeenWhere d t one k other p window at n) old new h
      (λ c i q. (
        (λ s. (e, s.0, known_by (other + 1) n c i q (subst (λ m. m < n) s.0 lt) s.1)),
        (λ s. (s.1, known_by n (other + 1) c i q (next_known other c s.1) s.2)),
      ))

  pub where_apart : (one k other n : ℕ) (ps : List Piece) → (one ≡ k → ⊥) → AddsSeen (IsSeenWhere d t one k other p window at n) ps ps
  where_apart one k other n ps not = seen_none (IsSeenWhere d t one k other p window at n) ps (λ c i q h. not h.0)

  pub where_none : (one k other n : ℕ) (ps : List Piece) → (other < n → ⊥) → AddsSeen (IsSeenWhere d t one k other p window at n) ps ps
  where_none one k other n ps not = seen_none (IsSeenWhere d t one k other p window at n) ps (λ c i q h. not (subst (λ m. m < n) (sym h.1) h.2.known))

  pub line_seen : (l : Joined) (k n : ℕ) (old mid new : List Piece) → AddsSeen (IsSeenWhere d t l.first k l.second p window at n) old mid → AddsSeen (IsSeenWhere d t l.second k l.first p window at n) mid new
      → AddsSeen (IsLineSeen d t l k p window at n) old new
  line_seen l k n old mid new h g =
      seen_both (IsSeenWhere d t l.first k l.second p window at n) (IsSeenWhere d t l.second k l.first p window at n) (IsLineSeen d t l k p window at n) old mid new h g
      (λ c i q. (
        (λ s. elim s.0 [ inl e ↦ inl (e.0, e.1, s.1) | inr e ↦ inr (e.1, e.0, s.1) ]),
        (λ s. elim s [ inl a ↦ (inl (a.0, a.1), a.2) | inr b ↦ (inr (b.1, b.0), b.2) ]),
      ))

  pub itself_seen : (k n : ℕ) (old new : List Piece) → AddsSeen (IsSeenWhere d t k k k p window at n) old new → AddsSeen (IsJoinedSeen d t [] k p window at n) old new
  itself_seen k n old new h =
      seen_same (IsSeenWhere d t k k k p window at n) (IsJoinedSeen d t [] k p window at n) old new h
      (λ c i q. ((λ s. (inl s.1, s.2)), (λ s. elim s.0 [ inl e ↦ (refl, e, s.1) | inr m ↦ absurd m ])))

  pub line_more : (ls : List Joined) (m : ℕ) (nil : Joined) (k n : ℕ) (old mid new : List Piece) → m < length ls → AddsSeen (IsJoinedSeen d t (take m ls) k p window at n) old mid
      → AddsSeen (IsLineSeen d t (get_or ls m nil) k p window at n) mid new → AddsSeen (IsJoinedSeen d t (take (m + 1) ls) k p window at n) old new
  line_more ls m nil k n old mid new lt h g =
      let xs = take m ls in
      let l = get_or ls m nil in
      let now : AddsSeen (IsJoinedSeen d t (xs ++ l ∷ []) k p window at n) old new = seen_both (IsJoinedSeen d t xs k p window at n) (IsLineSeen d t l k p window at n) (IsJoinedSeen d t (xs ++ l ∷ []) k p window at n) old mid new h g
      (λ c i q. (
        (λ s. elim (joined_split xs l k c s.0) [ inl a ↦ inl (a, s.1) | inr b ↦ inr (b, s.1) ]),
        (λ s. elim s [ inl a ↦ (joined_left xs l k c a.0, a.1) | inr b ↦ (joined_last xs l k c b.0, b.1) ]),
      )) in
      subst (λ (v : List Joined). AddsSeen (IsJoinedSeen d t v k p window at n) old new) (sym (take_more ls m nil lt)) now

  pub lines_all : (ls : List Joined) (m k n : ℕ) (old new : List Piece) → m ≡ length ls → AddsSeen (IsJoinedSeen d t (take m ls) k p window at n) old new → AddsSeen (IsJoinedSeen d t ls k p window at n) old new
  lines_all ls m k n old new e h = subst (λ (v : List Joined). AddsSeen (IsJoinedSeen d t v k p window at n) old new) (ap (λ x. take x ls) e ∙ take-length ls) h

  module _ (joins : List Joined) (k : ℕ) where
    pub no_part_joined : (n : ℕ) (ps : List Piece) → HasNoPart d t p window → AddsSeen (IsJoinedSeen d t joins k p window at n) ps ps
    no_part_joined n ps none = seen_none (IsJoinedSeen d t joins k p window at n) ps (λ c i q h. none c h.1.net h.1.square h.1.holds (subst (λ (v : Square). IsIn v window) (sym h.1.image) h.1.within))

module _ (d : Design) (w : Wiring) (t : Tables) (p : Place) (window inner : Rect) (at : ℕ) (nets : AreNets d w t p.cell (t.nets p.cell)) (part : IsPart d t p window inner) where
  abbrev S : ℕ → ℕ → ℕ → Square → Type 0
  S n = IsSeen d t p window at n

  pub no_conductor : (ps : List Piece) → AddsSeen (S 0) ps ps
  no_conductor ps = seen_none (S 0) ps (λ c i q h. let lt = h.known in absurd (omega arith))

  -- what was collected of a conductor is what is seen of it
  pub of_one : (n : ℕ) (below : List NetPiece) (old new : List Piece) → AreCollected d t p.cell n inner below → AddsSeen (IsSeenOf p.motion below n at) old new → AddsSeen (IsSeenAt d t p window at n) old new
  of_one n below old new seen h =
      seen_same (IsSeenOf p.motion below n at) (IsSeenAt d t p window at n) old new h
      (λ c i q. (
        (λ b.
            let held = seen.each b.1 b.2 b.3 in
            let e = b.0 in (
              e,
              record {
                known = (let less : c < n + 1 = omega (arith, e) in less);
                net = b.1;
                square = b.2;
                holds = subst (λ k. NetHolds d t p.cell b.1 (At k b.2)) b.0 held.1;
                item = b.4;
                image = b.5;
                within = subst (λ (v : Square). IsIn v window) b.5 (part.inside b.2 held.0);
              },
            )),
        (λ a.
            let s = a.1 in
            let held : NetHolds d t p.cell s.net (At n s.square) = subst (λ k. NetHolds d t p.cell s.net (At k s.square)) (sym a.0) s.holds in
            let image : IsIn (moved_square p.motion s.square) window = subst (λ (v : Square). IsIn v window) (sym s.image) s.within in
            (a.0, s.net, s.square, seen.found s.net s.square (part.all n s.net s.square held image) held, s.item, s.image)),
      ))

  have : (n : ℕ) (below ps : List NetPiece) → AreCollected d t p.cell n inner below → at + (t.nets p.cell).count ≤ 4294967296 → ((x : ℕ) (q : Square) → IsOver ps x q → IsOver below x q) → AreInside inner ps → HaveItems at ps
  have n below [] seen room f h = tt
  have n below (o ∷ ps) seen room f h =
      let q : Square = record { x = o.rect.x1; y = o.rect.y1 } in
      let wide = h.0.rect.wide in
      let high = h.0.rect.high in
      let inside : IsIn q o.rect = (omega (arith, ints), wide, omega (arith, ints), high) in
      let held = (seen.each o.net q (f o.net q (inl (refl, inside)))).1 in
      let lt = nets.below held.index o.net held.is_of.numbered in
      (omega (arith, lt, room), have n below ps seen room (λ x v g. f x v (inr g)) h.1)

  pub have_items : (n : ℕ) (below : List NetPiece) → AreCollected d t p.cell n inner below → AreInside inner below → at + (t.nets p.cell).count ≤ 4294967296 → HaveItems at below
  have_items n below seen inside room = have n below below seen room (λ x q g. g) inside

pub no_part_seen : (d : Design) (t : Tables) (p : Place) (window : Rect) (at n : ℕ) (ps : List Piece) → HasNoPart d t p window → AddsSeen (IsSeen d t p window at n) ps ps
no_part_seen d t p window at n ps none = seen_none (IsSeen d t p window at n) ps (λ c i q h. none c h.net h.square h.holds (subst (λ (v : Square). IsIn v window) (sym h.image) h.within))

-- links over pieces

over_of : (ps : List Piece) (p : Piece) (q : Square) → IsAmong p ps → IsIn q p.rect → IsPieceOver ps p.conductor p.item q
over_of [] p q h g = absurd h
over_of (x ∷ ps) p q (inl e) g = inl (ap (λ (y : Piece). y.conductor) (sym e), ap (λ (y : Piece). y.item) (sym e), subst (λ (y : Piece). IsIn q y.rect) e g)
over_of (x ∷ ps) p q (inr h) g = inr (over_of ps p q h g)

piece_of : (ps : List Piece) (c i : ℕ) (q : Square) → IsPieceOver ps c i q → (p : Piece) × IsAmong p ps × (p.conductor ≡ c) × (p.item ≡ i) × IsIn q p.rect
piece_of [] c i q h = absurd h
piece_of (x ∷ ps) c i q (inl h) = (x, inl refl, h.0, h.1, h.2)
piece_of (x ∷ ps) c i q (inr h) = let f = piece_of ps c i q h in (f.0, inr f.1, f.2, f.3, f.4)

filled_of : (ps : List Piece) (p : Piece) → HaveSquares ps → IsAmong p ps → IsRect p.rect
filled_of [] p h g = absurd g
filled_of (x ∷ ps) p h (inl e) = subst (λ (y : Piece). IsRect y.rect) (sym e) h.0
filled_of (x ∷ ps) p h (inr g) = filled_of ps p h.1 g

module _ (R : ℕ → ℕ → Square → Type 0) (pieces : List Piece) (seen : AddsSeen R [] pieces) where
  into : (c i : ℕ) (q : Square) → IsPieceOver pieces c i q → R c i q
  into c i q h = elim ((seen.over c i q).0 h) [ inl a ↦ absurd a | inr b ↦ b ]

  -- each piece is of a known conductor
  pub known_pieces : (n : ℕ) → ((c i : ℕ) (q : Square) → R c i q → c < n) → AreOf n pieces
  known_pieces n known p h =
      let r = filled_of pieces p (seen.filled tt) h in
      let wide = r.wide in
      let high = r.high in
      let q : Square = record { x = p.rect.x1; y = p.rect.y1 } in
      let inside : IsIn q p.rect = (omega (arith, ints), wide, omega (arith, ints), high) in
      known p.conductor p.item q (into p.conductor p.item q (over_of pieces p q h inside))

  pub links_over : (joins : List Joined) (links : List Link) → AreLinksOf joins pieces links → AreLinksOver joins R links
  links_over joins links h = record {
    each = λ i j k.
        let t = h.each i j k in
        let p = t.touching.one in
        let q = t.touching.other in
        record {
          c = t.one.conductor;
          e = t.other.conductor;
          p = p;
          q = q;
          joined = t.joined;
          over = subst (λ n. R t.one.conductor n p) t.from (into t.one.conductor t.one.item p (over_of pieces t.one p t.in_ones t.touching.in_one));
          over_too = subst (λ n. R t.other.conductor n q) t.to (into t.other.conductor t.other.item q (over_of pieces t.other q t.in_others t.touching.in_other));
          near = t.touching.near;
        };
    found = λ i j k.
        let a = piece_of pieces k.c i k.p ((seen.over k.c i k.p).1 (inr k.over)) in
        let b = piece_of pieces k.e j k.q ((seen.over k.e j k.q).1 (inr k.over_too)) in
        let touching : AreTouching a.0.rect b.0.rect = record { one = k.p; other = k.q; in_one = a.4; in_other = b.4; near = k.near } in
        h.found i j (record {
          one = a.0;
          other = b.0;
          in_ones = a.1;
          in_others = b.1;
          joined = subst (λ n. AreJoined joins n b.0.conductor) (sym a.2) (subst (λ n. AreJoined joins k.c n) (sym b.2) k.joined);
          touching = touching;
          from = a.3;
          to = b.3;
        });
  }

pub two_seen : (d : Design) (t : Tables) (window : Rect) (n : ℕ) (one : Place) (at : ℕ) (other : Place) (other_at : ℕ) (mid new : List Piece) → AddsSeen (IsSeen d t one window at n) [] mid → AddsSeen (IsSeen d t other window other_at n) mid new
    → AddsSeen (IsSeenOfTwo d t window n one at other other_at) [] new
two_seen d t window n one at other other_at mid new h g =
    seen_both (IsSeen d t one window at n) (IsSeen d t other window other_at n) (IsSeenOfTwo d t window n one at other other_at) [] mid new h g (λ c i q. ((λ k. k), (λ k. k)))

pub two_known : (d : Design) (t : Tables) (window : Rect) (n : ℕ) (one : Place) (at : ℕ) (other : Place) (other_at c i : ℕ) (q : Square) → IsSeenOfTwo d t window n one at other other_at c i q → c < n
two_known d t window n one at other other_at c i q (inl h) = h.known
two_known d t window n one at other other_at c i q (inr h) = h.known

pub piece_seen : (o : Piece) (ps : List Piece) → IsRect o.rect → AddsSeen (λ c i q. (o.conductor ≡ c) × (o.item ≡ i) × IsIn q o.rect) ps (ps ++ o ∷ [])
piece_seen o ps is = record {
  over = λ c i q. (
    (λ h. elim (over_either ps (o ∷ []) c i q h) [ inl a ↦ inl a | inr b ↦ inr (elim b [ inl k ↦ k | inr k ↦ absurd k ]) ]),
    (λ h. elim h [ inl a ↦ over_left ps (o ∷ []) c i q a | inr b ↦ over_right ps (o ∷ []) c i q (inl b) ]),
  );
  filled = λ h. filled_last ps o h is;
}
