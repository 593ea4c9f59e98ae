-- Pairs of placements that may touch.
use Rattle.std.proofs.Common.{◌≡◌, ◌⊎◌, inl, inr, ℕ, ◌+◌, ◌<◌, ◌≤◌, List, [], ◌∷◌, ◌++◌, Some, slice_get, get_or, length, take, refl, sym, ◌∙◌, ap, subst, arith}
use Rattle.std.proofs.Math.Decide.{ℕ_discrete}
use Rattle.std.proofs.Math.Seq.{take-length}
use Rattle.std.proofs.lemmas.List.{take_more}
use Rattle.flat_layout.specs.Layout.{Design, Place}
use Rattle.flat_layout.specs.Nets.{Child, Tables, items_of}
use Rattle.flat_layout.specs.Plane.{IsIn}
use Rattle.flat_layout.specs.Regions.{Wiring}
use Rattle.geo_base.specs.Motions.{moved_square}
use Rattle.geo_base.specs.declared.shapes.Rect.{Rect}
use Rattle.link_classes.specs.Classes.{IsLinked, IsOf, AreInRange}
use Rattle.link_classes.specs.declared.classes.Link.{Link}
use Rattle.net_link_laws.proofs.Assembling.{square_back}
use Rattle.touching_pieces.proofs.Chains.{one_back, one_on}
use Rattle.net_link_laws.proofs.Looking.{hulls}
use Rattle.net_link_laws.proofs.Standing.{items_long, nets_under}
use Rattle.net_link_laws.specs.Found.{IsSquareLink}
use Rattle.net_link_laws.specs.Places.{places_of}
use Rattle.net_link_laws.specs.Windows.{AreInContact}
use Rattle.geo_base.specs.Rects.{grown}
use Rattle.net_walk.proofs.Insides.{common_in}
use Rattle.net_walk.specs.Pairs.{first_of, IsSpanPiece, AddsSpan, AreSpanPieces, AddsPair, AddsPairs}
use Rattle.net_walk.specs.Walk.{IsSpan, HasNoSquare}
use Rattle.touching_pieces.specs.Pairs.{IsAmong, AreInTouch, AreOne, AddsTouching}
use Rattle.touching_pieces.specs.Touching.{AreTouching}
use Rattle.touching_pieces.specs.declared.pieces.Piece.{Piece}

among_left : (ps qs : List Piece) (p : Piece) → IsAmong p ps → IsAmong p (ps ++ qs)
among_left [] qs p h = absurd h
among_left (x ∷ ps) qs p (inl e) = inl e
among_left (x ∷ ps) qs p (inr h) = inr (among_left ps qs p h)

among_right : (ps qs : List Piece) (p : Piece) → IsAmong p qs → IsAmong p (ps ++ qs)
among_right [] qs p h = h
among_right (x ∷ ps) qs p h = inr (among_right ps qs p h)

among_either : (ps qs : List Piece) (p : Piece) → IsAmong p (ps ++ qs) → IsAmong p ps ⊎ IsAmong p qs
among_either [] qs p h = inr h
among_either (x ∷ ps) qs p (inl e) = inl (inl e)
among_either (x ∷ ps) qs p (inr h) = elim (among_either ps qs p h) [ inl a ↦ inl (inr a) | inr b ↦ inr b ]

pub span_none : (d : Design) (t : Tables) (p : Place) (number : ℕ) (ps : List Piece) → HasNoSquare d t p.cell → AddsSpan d t p number ps ps
span_none d t p number ps none = record { kept = λ o h. h; each = λ o h. inl h; found = inl none }

pub span_some : (d : Design) (t : Tables) (p : Place) (number : ℕ) (ps : List Piece) (span rect : Rect) → IsSpan d t p span → rect ≡ grown 1 span → AddsSpan d t p number ps (ps ++ record { conductor = 0; rect = rect; item = number } ∷ [])
span_some d t p number ps span rect is e =
    let o : Piece = record { conductor = 0; rect = rect; item = number } in
    let one : IsSpanPiece d t p number o = record { item = refl; span = span; is = is; rect = e } in
    record {
      kept = λ q h. among_left ps (o ∷ []) q h;
      each = λ q h. elim (among_either ps (o ∷ []) q h) [
        | inl a ↦ inl a
        | inr b ↦ inr (elim b [ inl same ↦ subst (λ (v : Piece). IsSpanPiece d t p number v) (sym same) one | inr none ↦ absurd none ])
      ];
      found = inr (o, among_right ps (o ∷ []) o (inl refl), one);
    }

pub no_spans : (d : Design) (t : Tables) (cell : ℕ) → AreSpanPieces d t cell 0 []
no_spans d t cell = record { each = λ o h. absurd h; found = λ k p lt there. absurd (omega arith) }

pub spans_more : (d : Design) (t : Tables) (cell n : ℕ) (p : Place) (old new : List Piece) → slice_get (places_of d cell) n ≡ Some p → AreSpanPieces d t cell n old → AddsSpan d t p n old new → AreSpanPieces d t cell (n + 1) new
spans_more d t cell n p old new there h g = record {
  each = λ o m. elim (g.each o m) [
    | inl a ↦ h.each o a
    | inr b ↦
        let e : slice_get (places_of d cell) o.item ≡ Some p = subst (λ i. slice_get (places_of d cell) i ≡ Some p) (sym b.item) there in
        (p, e, record { item = refl; span = b.span; is = b.is; rect = b.rect })
  ];
  found = λ k q lt at. elim (ℕ_discrete k n) [
    | yes e ↦
        let here : slice_get (places_of d cell) n ≡ Some q = subst (λ i. slice_get (places_of d cell) i ≡ Some q) e at in
        let same : p ≡ q = cc in
        elim g.found [
          | inl none ↦ inl (subst (λ (v : Place). HasNoSquare d t v.cell) same none)
          | inr o ↦ inr (o.0, o.1, record { item = o.2.item ∙ sym e; span = o.2.span; is = subst (λ (v : Place). IsSpan d t v o.2.span) same o.2.is; rect = o.2.rect })
        ]
    | no m ↦ elim (h.found k q (omega arith) at) [ inl none ↦ inl none | inr o ↦ inr (o.0, g.kept o.0 o.1, o.2) ]
  ];
}

abbrev pub no_link : Link
no_link = record { one = 0; other = 0 }

pub linked_cut : (ls : List Link) (l : Link) (i j : ℕ) → IsLinked (ls ++ l ∷ []) i j → IsLinked ls i j ⊎ IsOf l i j
linked_cut [] l i j (inl h) = inr h
linked_cut [] l i j (inr h) = absurd h
linked_cut (m ∷ ls) l i j (inl h) = inl (inl h)
linked_cut (m ∷ ls) l i j (inr h) = elim (linked_cut ls l i j h) [ inl a ↦ inl (inr a) | inr b ↦ inr b ]

pub no_pairs : (d : Design) (w : Wiring) (t : Tables) (cell : ℕ) (ls : List Link) → AddsPairs d w t cell [] ls ls
no_pairs d w t cell ls = record { kept = λ i j h. h; each = λ i j h. inl h; found = λ k l x y h s. absurd h }

of_pair : (d : Design) (w : Wiring) (t : Tables) (cell : ℕ) (pair : Link) (mid new : List Link) → AddsPair d w t cell pair.one pair.other mid new → (k l x y : ℕ) → pair.one ≡ k → pair.other ≡ l → IsSquareLink d w t cell (Child k x) (Child l y)
    → AreOne new (first_of d w t cell k + x) (first_of d w t cell l + y)
of_pair d w t cell pair mid new g k l x y e f s =
    let h : AddsPair d w t cell k l mid new = subst (λ i. AddsPair d w t cell i l mid new) e (subst (λ j. AddsPair d w t cell pair.one j mid new) f g) in
    h.found x y s

pub pairs_more : (d : Design) (w : Wiring) (t : Tables) (cell : ℕ) (pairs : List Link) (n : ℕ) (o : Link) (old mid new : List Link) → n < length pairs → AddsPairs d w t cell (take n pairs) old mid
    → AddsPair d w t cell (get_or pairs n o).one (get_or pairs n o).other mid new → AddsPairs d w t cell (take (n + 1) pairs) old new
pairs_more d w t cell pairs n o old mid new lt h g =
    let pair = get_or pairs n o in
    let ls = take n pairs in
    let now : AddsPairs d w t cell (ls ++ pair ∷ []) old new = record {
      kept = λ i j k. g.kept i j (h.kept i j k);
      each = λ i j k. elim (g.each i j k) [ inl a ↦ h.each i j a | inr b ↦ inr b ];
      found = λ k l x y m s. elim (linked_cut ls pair k l m) [
        | inl a ↦ one_on mid new g.kept (first_of d w t cell k + x) (first_of d w t cell l + y) (h.found k l x y a s)
        | inr b ↦ elim b [
          | inl e ↦ of_pair d w t cell pair mid new g k l x y e.0 e.1 s
          | inr e ↦ one_back new (first_of d w t cell l + y) (first_of d w t cell k + x) (of_pair d w t cell pair mid new g l k y x e.0 e.1 (square_back d w t cell (Child k x) (Child l y) s))
        ]
      ];
    } in
    subst (λ (l : List Link). AddsPairs d w t cell l old new) (sym (take_more pairs n o lt)) now

-- a piece of a placement, where it has squares
abbrev pub HasPiece : Design → Tables → Place → ℕ → List Piece → Type 0
HasPiece d t p i spans = HasNoSquare d t p.cell ⊎ ((o : Piece) × IsAmong o spans × IsSpanPiece d t p i o)

pub meet : (d : Design) (w : Wiring) (t : Tables) (cell : ℕ) (p q : Place) (spans : List Piece) (pairs : List Link) → AddsTouching spans spans [] pairs → (i j x y : ℕ) → (i ≡ j → ⊥) → HasPiece d t p i spans → HasPiece d t q j spans → AreInContact d w t p q x y
    → IsLinked pairs i j
meet d w t cell p q spans pairs touching i j x y not f g m =
    let a = elim f as (λ _. (o : Piece) × IsAmong o spans × IsSpanPiece d t p i o) [ inl none ↦ absurd (none m.c x m.m m.held) | inr o ↦ o ] in
    let b = elim g as (λ _. (o : Piece) × IsAmong o spans × IsSpanPiece d t q j o) [ inl none ↦ absurd (none m.e y m.n m.others) | inr o ↦ o ] in
    let both = hulls d t p q a.2.span b.2.span a.2.is.all b.2.is.all m.c m.e x y m.m m.n m.held m.others m.near in
    let square = moved_square p.motion m.m in
    let inside = common_in (grown 1 a.2.span) (grown 1 b.2.span) square both.0 in
    let touch : AreTouching a.0.rect b.0.rect = record {
      one = square;
      other = square;
      in_one = subst (λ (r : Rect). IsIn square r) (sym a.2.rect) inside.0;
      in_other = subst (λ (r : Rect). IsIn square r) (sym b.2.rect) inside.1;
      near = inl refl;
    } in
    let in_touch : AreInTouch spans spans i j = record { one = a.0; other = b.0; in_ones = a.1; in_others = b.1; touching = touch; from = a.2.item; to = b.2.item } in
    elim (touching.found i j in_touch) [ inl e ↦ absurd (not e) | inr l ↦ l ]

pub pairs_all : (d : Design) (w : Wiring) (t : Tables) (cell : ℕ) (pairs : List Link) (k : ℕ) (old new : List Link) → k ≡ length pairs → AddsPairs d w t cell (take k pairs) old new → AddsPairs d w t cell pairs old new
pairs_all d w t cell pairs k old new e h = subst (λ (l : List Link). AddsPairs d w t cell l old new) (ap (λ i. take i pairs) e ∙ take-length pairs) h

-- pairs of numbers below a count
pub in_range : (n : ℕ) (ls : List Link) → ((i j : ℕ) → IsLinked ls i j → (i < n) × (j < n)) → AreInRange n ls
in_range n [] f = tt
in_range n (l ∷ ls) f = let h = f l.one l.other (inl (inl (refl, refl))) in (h.0, h.1, in_range n ls (λ i j m. f i j (inr m)))

-- a placed cell's nets stand within the list
pub child_room : (d : Design) (w : Wiring) (t : Tables) (cell k : ℕ) (p : Place) → slice_get (places_of d cell) k ≡ Some p → first_of d w t cell k + (t.nets p.cell).count ≤ length (items_of d w t cell)
child_room d w t cell k p there = let e = items_long d w t cell in let u = nets_under t (places_of d cell) k p there in omega (arith, e, u)
