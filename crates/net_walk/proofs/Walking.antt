-- What a walk has collected, placement after placement.
use Rattle.std.proofs.Common.{◌≡◌, ◌⊎◌, inl, inr, ℕ, zero, suc, ◌+◌, ◌<◌, ◌≤◌, ◌-◌, List, [], ◌∷◌, Some, slice_get, get_or, length, map, pos, refl, sym, ap, ◌∙◌, subst, arith}
use Rattle.std.proofs.Math.Decide.{ℕ_discrete}
use Rattle.std.proofs.lemmas.List.{get_or_default}
use Rattle.std.proofs.lemmas.Option.{slice_get_within, slice_get-get_or}
use Rattle.flat_laws.proofs.Items.{placed_at, at_placed, items_sound}
use Rattle.flat_layout.specs.Layout.{Design, Place, IsPlaced}
use Rattle.flat_layout.specs.Nets.{Item, Own, Child, Global, Tables, ItemHolds, NetHolds, AreNets, items_of}
use Rattle.flat_layout.specs.Plane.{IsIn}
use Rattle.flat_layout.specs.Regions.{Wiring, At}
use Rattle.geo_base.specs.Motions.{moved_square}
use Rattle.geo_base.specs.Near.{IsNearMotion}
use Rattle.std.proofs.lemmas.Int.{ints}
use Rattle.geo_base.specs.declared.motion.Motion.{Motion}
use Rattle.geo_base.specs.declared.motion.Turn.TheVariants.{R0}
use Rattle.geo_base.specs.declared.shapes.Rect.{Rect}
use Rattle.geo_base.specs.declared.shapes.Square.{Square}
use Rattle.net_link_laws.proofs.Held.{under_placed, no_square, own_held, own_holds, child_held_at, child_holds, square_below, one_net}
use Rattle.net_link_laws.proofs.Standing.{own_place, child_place, items_long, nets_under, owned_under}
use Rattle.net_link_laws.specs.Collected.{IsOver, AreCollected, IsInNet}
use Rattle.net_link_laws.specs.Laws.{AreNetsUnder}
use Rattle.net_link_laws.specs.Places.{owned_before, nets_before, places_of}
use Rattle.net_link_laws.specs.declared.piece.NetPiece.{NetPiece}
use Rattle.net_walk.proofs.Adding.{added_none, added_both}
use Rattle.net_walk.specs.Walk.{place_of, AreInside, AddsPieces, AreClose, AreListed, IsClose, IsCollection, IsOfOwn, IsOfMoved, IsPart, HasNoPart}
use Rattle.net_walk.specs.Windows.{ArePlacesNear}
use Rattle.net_walk.specs.declared.cells.Element.{Element}

-- an item of the cell itself, or of one of these placements
abbrev pub IsAmong : (ℕ → Type 0) → Item → Type 0
IsAmong S (Own c r) = Unit {0}
IsAmong S (Child k b) = S k
IsAmong S (Global g) = ⊥

-- a square in the window, held by such an item of the net
pub record IsSoFar (d : Design) (t : Tables) (cell c : ℕ) (window : Rect) (S : ℕ → Type 0) (x : ℕ) (q : Square) : Type 0 where
  pub within : IsIn q window
  pub item : Item
  pub in_net : IsInNet (t.nets cell) item x
  pub among : IsAmong S item
  pub holds : ItemHolds d t cell item (At c q)

-- one placement more
pub record IsNext (k : ℕ) (S T : ℕ → Type 0) : Type 0 where
  pub grows : (j : ℕ) → S j → T j
  pub splits : (j : ℕ) → T j → S j ⊎ (j ≡ k)
  pub here : T k

pub among_more : (k : ℕ) (S T : ℕ → Type 0) (item : Item) → IsNext k S T → IsAmong S item → IsAmong T item
among_more k S T (Own c r) next h = tt
among_more k S T (Child j b) next h = next.grows j h
among_more k S T (Global g) next h = h

-- the placements of the first numbers of a list
abbrev pub IsVisited : List ℕ → ℕ → ℕ → Type 0
IsVisited near n k = (i : ℕ) × (i < n) × (get_or near i 0 ≡ k)

pub visited_next : (near : List ℕ) (i k : ℕ) → get_or near i 0 ≡ k → IsNext k (IsVisited near i) (IsVisited near (i + 1))
visited_next near i k e = record {
  grows = λ j h. (h.0, (let before = h.1 in omega arith), h.2);
  splits = λ j h. elim (ℕ_discrete h.0 i) [
    | yes same ↦ inr (sym h.2 ∙ ap (λ n. get_or near n 0) same ∙ e)
    | no n ↦ inl (h.0, (let before = h.1 in omega arith), h.2)
  ];
  here = (i, (let lt : i < i + 1 = omega arith in lt), e);
}

-- the placements of a list of elements
abbrev pub no_element : Element
no_element = record { cell = 0; motion = record { turn = R0; dx = pos 0; dy = pos 0 } }

at_map : (es : List Element) (k : ℕ) → k < length es → slice_get (map place_of es) k ≡ Some (place_of (get_or es k no_element))
at_map [] k lt = absurd (omega arith)
at_map (e ∷ es) zero lt = refl
at_map (e ∷ es) (suc k) lt = at_map es k (omega arith)

long_map : (es : List Element) → length (map place_of es) ≡ length es
long_map [] = refl
long_map (e ∷ es) = let h = long_map es in omega (arith, h)

pub owned_step : (t : Tables) (cell c n : ℕ) → c < n → owned_before t cell c + length (t.own cell c) ≤ owned_before t cell n
owned_step t cell c n lt =
    let split : (k : ℕ) × (suc c + k ≡ n) = (n - suc c, omega arith) in
    let h = owned_under t cell (suc c) split.0 in
    let e = ap (owned_before t cell) split.1 in
    omega (arith, h, e)

module _ (d : Design) (w : Wiring) (t : Tables) (cell : ℕ) (nets : AreNets d w t cell (t.nets cell)) where
  -- the net of the item at a place
  pub net_at : (i x : ℕ) (item : Item) → slice_get (items_of d w t cell) i ≡ Some item → slice_get (t.nets cell).net_of i ≡ Some x → IsInNet (t.nets cell) item x
  net_at i x item h g = (i, record { listed = subst (λ (l : List Item). slice_get l i ≡ Some item) (sym nets.items) h; numbered = g })

  pub at_net : (i x : ℕ) (item : Item) → slice_get (items_of d w t cell) i ≡ Some item → IsInNet (t.nets cell) item x → slice_get (t.nets cell).net_of i ≡ Some x
  at_net i x item h g =
      let within : i < length (items_of d w t cell) = slice_get_within (items_of d w t cell) i item h in
      let same : length (t.nets cell).net_of ≡ length (items_of d w t cell) = nets.numbers ∙ ap (λ (l : List Item). length l) nets.items in
      let enough : i < length (t.nets cell).net_of = omega arith in
      let y = get_or (t.nets cell).net_of i 0 in
      let numbered : slice_get (t.nets cell).net_of i ≡ Some y = slice_get-get_or (t.nets cell).net_of i 0 enough in
      let is : y ≡ x = one_net d w t cell (t.nets cell) item y x nets (net_at i y item h numbered) g in
      numbered ∙ ap Some is

  net_long : length (t.nets cell).net_of ≡ owned_before t cell (length w.conductors) + (nets_before t (places_of d cell) (length (places_of d cell)) + length w.globals)
  net_long = nets.numbers ∙ ap (λ (l : List Item). length l) nets.items ∙ items_long d w t cell

  -- the places of own rectangles lie in the list
  pub own_fits : (c : ℕ) → c < length w.conductors → owned_before t cell c + length (t.own cell c) ≤ length (t.nets cell).net_of
  own_fits c lt = let long = net_long in let h = owned_step t cell c (length w.conductors) lt in omega (arith, long, h)

  pub owned_fits : owned_before t cell (length w.conductors) ≤ length (t.nets cell).net_of
  owned_fits = let long = net_long in omega (arith, long)

  -- and those of a placed cell's nets
  pub child_fits : (k : ℕ) (p : Place) → slice_get (places_of d cell) k ≡ Some p → (owned_before t cell (length w.conductors) + nets_before t (places_of d cell) k) + (t.nets p.cell).count ≤ length (t.nets cell).net_of
  child_fits k p h = let long = net_long in let u = nets_under t (places_of d cell) k p h in omega (arith, long, u)

  module _ (c : ℕ) (window : Rect) (known : c < length w.conductors) where
    abbrev OwnPart : ℕ → Square → Type 0
    OwnPart = IsOfOwn window (t.own cell c) (t.nets cell).net_of (owned_before t cell c) (length (t.own cell c))

    own_from : (S : ℕ → Type 0) (x : ℕ) (q : Square) → OwnPart x q → IsSoFar d t cell c window S x q
    own_from S x q k = record {
      within = k.6;
      item = Own c k.0;
      in_net = net_at (owned_before t cell c + k.0) x (Own c k.0) (own_place d w t cell c k.0 known k.1) k.4;
      among = tt;
      holds = own_holds d t cell c k.0 k.2 q k.3 k.5;
    }

    own_to : (S : ℕ → Type 0) → ((k : ℕ) → S k → ⊥) → (x : ℕ) (q : Square) → IsIn q window → (item : Item) → IsInNet (t.nets cell) item x → IsAmong S item → ItemHolds d t cell item (At c q) → OwnPart x q
    own_to S none x q within (Own e r) net among h =
        let o = own_held d t cell e r c q h in
        let listed : slice_get (t.own cell c) r ≡ Some o.rect = subst (λ i. slice_get (t.own cell i) r ≡ Some o.rect) o.same o.listed in
        let lt = slice_get_within (t.own cell c) r o.rect listed in
        let its : IsInNet (t.nets cell) (Own c r) x = subst (λ i. IsInNet (t.nets cell) (Own i r) x) o.same net in
        (r, lt, o.rect, listed, at_net (owned_before t cell c + r) x (Own c r) (own_place d w t cell c r known lt) its, o.inside, within)
    own_to S none x q within (Child k b) net among h = absurd (none k among)
    own_to S none x q within (Global g) net among h = absurd among

    pub own_first : (S : ℕ → Type 0) → ((k : ℕ) → S k → ⊥) → (old new : List NetPiece) → AddsPieces window OwnPart old new → AddsPieces window (IsSoFar d t cell c window S) old new
    own_first S none old new h =
        added_both window OwnPart (λ x q. ⊥) (IsSoFar d t cell c window S) old new new h (added_none window (λ x q. ⊥) new (λ x q e. e))
        (λ x q. ((λ k. inl (own_to S none x q k.within k.item k.in_net k.among k.holds)), (λ k. elim k [ inl a ↦ own_from S x q a | inr b ↦ absurd b ])))

    so_far_more : (k : ℕ) (S T : ℕ → Type 0) → IsNext k S T → (x : ℕ) (q : Square) → IsSoFar d t cell c window S x q → IsSoFar d t cell c window T x q
    so_far_more k S T next x q h = record { within = h.within; item = h.item; in_net = h.in_net; among = among_more k S T h.item next h.among; holds = h.holds }

    -- of the next placement, or of those before
    so_far_split : (k : ℕ) (S T : ℕ → Type 0) → IsNext k S T → (x : ℕ) (q : Square) → IsIn q window → (item : Item) → IsInNet (t.nets cell) item x → IsAmong T item → ItemHolds d t cell item (At c q)
        → IsSoFar d t cell c window S x q ⊎ ((b : ℕ) × IsInNet (t.nets cell) (Child k b) x × ItemHolds d t cell (Child k b) (At c q))
    so_far_split k S T next x q within (Own e r) net among h = inl (record { within = within; item = Own e r; in_net = net; among = tt; holds = h })
    so_far_split k S T next x q within (Child j b) net among h = elim (next.splits j among) [
      | inl s ↦ inl (record { within = within; item = Child j b; in_net = net; among = s; holds = h })
      | inr e ↦ inr (b, subst (λ i. IsInNet (t.nets cell) (Child i b) x) e net, subst (λ i. ItemHolds d t cell (Child i b) (At c q)) e h)
    ]
    so_far_split k S T next x q within (Global g) net among h = absurd among

    module _ (k : ℕ) (p : Place) (there : slice_get (places_of d cell) k ≡ Some p) (nets_too : AreNets d w t p.cell (t.nets p.cell)) where
      abbrev at : ℕ
      at = owned_before t cell (length w.conductors) + nets_before t (places_of d cell) k

      placed : IsPlaced d cell k p
      placed = placed_at d cell k p there

      pub net_below : (b : ℕ) (m : Square) → NetHolds d t p.cell b (At c m) → b < (t.nets p.cell).count
      net_below b m h = nets_too.below h.index b h.is_of.numbered

      pub child_at : (b : ℕ) → b < (t.nets p.cell).count → slice_get (items_of d w t cell) (at + b) ≡ Some (Child k b)
      child_at b lt =
          let z : owned_before t cell (length w.conductors) + (nets_before t (places_of d cell) k + b) ≡ at + b = omega arith in
          subst (λ i. slice_get (items_of d w t cell) i ≡ Some (Child k b)) z (child_place d w t cell k b p there lt)

      pub child_none : (S T : ℕ → Type 0) → IsNext k S T → (old new : List NetPiece) → HasNoPart d t p window → AddsPieces window (IsSoFar d t cell c window S) old new → AddsPieces window (IsSoFar d t cell c window T) old new
      child_none S T next old new none h =
          added_both window (IsSoFar d t cell c window S) (λ x q. ⊥) (IsSoFar d t cell c window T) old new new h (added_none window (λ x q. ⊥) new (λ x q e. e))
          (λ x q. (
            (λ s. elim (so_far_split k S T next x q s.within s.item s.in_net s.among s.holds) [
              | inl a ↦ inl a
              | inr b ↦
                  let m = square_below d t p b.0 c q (child_held_at d t cell k b.0 p (At c q) placed b.2) in
                  absurd (none c b.0 m.square m.holds (subst (λ (v : Square). IsIn v window) (sym m.image) s.within))
            ]),
            (λ s. elim s [ inl a ↦ so_far_more k S T next x q a | inr b ↦ absurd b ]),
          ))

      module _ (inner : Rect) (below : List NetPiece) (part : IsPart d t p window inner) (seen : AreCollected d t p.cell c inner below) where
        child_from : (S T : ℕ → Type 0) → IsNext k S T → (x : ℕ) (q : Square) → IsOfMoved p.motion below (t.nets cell).net_of at x q → IsSoFar d t cell c window T x q
        child_from S T next x q h =
            let held = seen.each h.0 h.1 h.2 in
            record {
              within = subst (λ (v : Square). IsIn v window) h.4 (part.inside h.1 held.0);
              item = Child k h.0;
              in_net = net_at (at + h.0) x (Child k h.0) (child_at h.0 (net_below h.0 h.1 held.1)) h.3;
              among = next.here;
              holds = child_holds d t cell k h.0 p (At c h.1) (At c q) placed held.1 (ap (At c) h.4);
            }

        child_to : (x : ℕ) (q : Square) (b : ℕ) → IsIn q window → IsInNet (t.nets cell) (Child k b) x → ItemHolds d t cell (Child k b) (At c q) → IsOfMoved p.motion below (t.nets cell).net_of at x q
        child_to x q b within net h =
            let m = square_below d t p b c q (child_held_at d t cell k b p (At c q) placed h) in
            let image : IsIn (moved_square p.motion m.square) window = subst (λ (v : Square). IsIn v window) (sym m.image) within in
            (b, m.square, seen.found b m.square (part.all c b m.square m.holds image) m.holds, at_net (at + b) x (Child k b) (child_at b (net_below b m.square m.holds)) net, m.image)

        pub child_more : (S T : ℕ → Type 0) → IsNext k S T → (old mid new : List NetPiece) → AddsPieces window (IsSoFar d t cell c window S) old mid → AddsPieces window (IsOfMoved p.motion below (t.nets cell).net_of at) mid new → AddsPieces window (IsSoFar d t cell c window T) old new
        child_more S T next old mid new h g =
            added_both window (IsSoFar d t cell c window S) (IsOfMoved p.motion below (t.nets cell).net_of at) (IsSoFar d t cell c window T) old mid new h g
            (λ x q. (
              (λ s. elim (so_far_split k S T next x q s.within s.item s.in_net s.among s.holds) [ inl a ↦ inl a | inr b ↦ inr (child_to x q b.0 s.within b.1 b.2) ]),
              (λ s. elim s [ inl a ↦ so_far_more k S T next x q a | inr b ↦ child_from S T next x q b ]),
            ))

        listed : (ps : List NetPiece) → ((x : ℕ) (q : Square) → IsOver ps x q → IsOver below x q) → AreInside inner ps → AreListed (length (t.nets cell).net_of) at ps
        listed [] f h = tt
        listed (o ∷ ps) f h =
            let q : Square = record { x = o.rect.x1; y = o.rect.y1 } in
            let wide = h.0.rect.wide in
            let high = h.0.rect.high in
            let inside : IsIn q o.rect = (omega (arith, ints), wide, omega (arith, ints), high) in
            let held = seen.each o.net q (f o.net q (inl (refl, inside))) in
            let lt = net_below o.net q held.1 in
            let fits = child_fits k p there in
            (omega (arith, lt, fits), listed ps (λ x v g. f x v (inr g)) h.1)

        pub below_listed : AreInside inner below → AreListed (length (t.nets cell).net_of) at below
        below_listed h = listed below (λ x q g. g) h

    -- all placements

    all_among : (near : List ℕ) → ArePlacesNear d t cell window near → (x : ℕ) (item : Item) → IsInNet (t.nets cell) item x → (q : Square) → IsIn q window → ItemHolds d t cell item (At c q)
        → IsAmong (IsVisited near (length near)) item
    all_among near are x (Own e r) net q within h = tt
    all_among near are x (Child k b) net q within h =
        let is = items_sound d w t cell (t.nets cell) nets net.0 (Child k b) net.1.listed in
        let there = at_placed d cell k is.0 is.1 in
        elim (are.all k is.0 there) [
          | inl none ↦
              let m = square_below d t is.0 b c q (child_held_at d t cell k b is.0 (At c q) is.1 h) in
              absurd (none c b m.square m.holds (subst (λ (v : Square). IsIn v window) (sym m.image) within))
          | inr at ↦ (at.0, at.1, get_or_default near at.0 0 k at.1 ∙ at.2)
        ]
    all_among near are x (Global g) net q within h = absurd (no_square d t cell g c q h)

    pub all_collected : (near : List ℕ) (n : ℕ) (out : List NetPiece) → ArePlacesNear d t cell window near → n ≡ length near → AddsPieces window (IsSoFar d t cell c window (IsVisited near n)) [] out → IsCollection d t cell c window out
    all_collected near n out are e h = record {
      collected = record {
        each = λ x q o. elim ((h.over x q).0 o) [
          | inl a ↦ absurd a
          | inr s ↦ (s.within, record { index = s.in_net.0; item = s.item; is_of = s.in_net.1; holds = s.holds })
        ];
        found = λ x q within net.
            let among = all_among near are x net.item (net.index, net.is_of) q within net.holds in
            (h.over x q).1 (inr (record { within = within; item = net.item; in_net = (net.index, net.is_of); among = subst (λ i. IsAmong (IsVisited near i) net.item) (sym e) among; holds = net.holds }));
      };
      inside = h.inside tt;
    }

pub element_at : (es : List Element) (ps : List Place) (k : ℕ) → map place_of es ≡ ps → k < length es → slice_get ps k ≡ Some (place_of (get_or es k no_element))
element_at es ps k e lt = subst (λ (l : List Place). slice_get l k ≡ Some (place_of (get_or es k no_element))) e (at_map es k lt)

pub as_long : (es : List Element) (ps : List Place) → map place_of es ≡ ps → length es ≡ length ps
as_long es ps e = sym (long_map es) ∙ ap (λ (l : List Place). length l) e

pub close_at : (es : List Element) (k : ℕ) → AreClose es → k < length es → IsClose (get_or es k no_element).motion
close_at [] k h lt = absurd (omega arith)
close_at (e ∷ es) zero h lt = h.0
close_at (e ∷ es) (suc k) h lt = close_at es k h.1 (omega arith)

pub near_close : (m : Motion) → IsClose m → IsNearMotion m
near_close m h =
    let a = h.dx.low in let b = h.dx.high in let c = h.dy.low in let d = h.dy.high in record {
      dx = record { low = omega (arith, ints); high = omega (arith, ints) };
      dy = record { low = omega (arith, ints); high = omega (arith, ints) };
    }

pub near_at : (es : List Element) (k : ℕ) → AreClose es → k < length es → IsNearMotion (get_or es k no_element).motion
near_at es k h lt = near_close (get_or es k no_element).motion (close_at es k h lt)

-- what is known of a placement whose element was read
pub record IsElement (d : Design) (w : Wiring) (t : Tables) (cell : ℕ) (es : List Element) (k : ℕ) : Type 0 where
  pub inside : k < length es
  pub known : k < length (places_of d cell)
  pub there : slice_get (places_of d cell) k ≡ Some (place_of (get_or es k no_element))
  pub placed : IsPlaced d cell k (place_of (get_or es k no_element))
  pub under : AreNetsUnder d w t (get_or es k no_element).cell
  pub nets : AreNets d w t (get_or es k no_element).cell (t.nets (get_or es k no_element).cell)

pub element_of : (d : Design) (w : Wiring) (t : Tables) (cell : ℕ) (es : List Element) (k : ℕ) → AreNetsUnder d w t cell → map place_of es ≡ places_of d cell → k < length es → IsElement d w t cell es k
element_of d w t cell es k nets all lt =
    let p : Place = place_of (get_or es k no_element) in
    let there : slice_get (places_of d cell) k ≡ Some p = element_at es (places_of d cell) k all lt in
    let placed : IsPlaced d cell k p = placed_at d cell k p there in
    let under : AreNetsUnder d w t p.cell = under_placed d w t cell k p placed nets in
    record { inside = lt; known = slice_get_within (places_of d cell) k p there; there = there; placed = placed; under = under; nets = under p.cell ([], refl) }

-- and of one that a window finds
pub near_element : (d : Design) (w : Wiring) (t : Tables) (cell : ℕ) (window : Rect) (read near : List ℕ) (es : List Element) (i : ℕ) → AreNetsUnder d w t cell → read ≡ near
    → ArePlacesNear d t cell window near → map place_of es ≡ places_of d cell → i < length read → IsElement d w t cell es (get_or read i 0)
near_element d w t cell window read near es i nets is are all lt =
    let known = (subst (ArePlacesNear d t cell window) (sym is) are).inside i lt in
    element_of d w t cell es (get_or read i 0) nets all (subst (λ n. get_or read i 0 < n) (sym (as_long es (places_of d cell) all)) known)

-- the places of own rectangles lie in the list that was read
pub own_read : (d : Design) (w : Wiring) (t : Tables) (cell c : ℕ) (net_of : List ℕ) → AreNetsUnder d w t cell → c < length w.conductors → net_of ≡ (t.nets cell).net_of
    → owned_before t cell c + length (t.own cell c) ≤ length net_of
own_read d w t cell c net_of nets known is = rw is (own_fits d w t cell (nets cell ([], refl)) c known)

pub next_fits : (t : Tables) (cell k n m : ℕ) (own : List Rect) (at : ℕ) → m ≡ n → k < m → own ≡ t.own cell k → at ≡ owned_before t cell k → owned_before t cell n ≤ 4294967295 → at + length own ≤ 4294967295
next_fits t cell k n m own at is lt owns here room =
    let h = owned_step t cell k n (omega (arith, is, lt)) in
    let long = ap (λ (l : List Rect). length l) owns in
    omega (arith, h, long, here, room)
