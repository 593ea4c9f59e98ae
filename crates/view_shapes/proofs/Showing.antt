-- What is shown of a cell's wanted nets, conductor after conductor and placement after placement.
use Rattle.std.proofs.Common.{◌≡◌, ◌⊎◌, ◌↔◌, inl, inr, ℕ, ◌+◌, ◌<◌, ◌≤◌, Bool, true, false, not, ◌&&◌, List, [], ◌∷◌, Some, slice_get, get_or, length, map, refl, sym, ap, ◌∙◌, subst, arith}
use Rattle.std.proofs.Math.Decide.{ℕ_discrete}
use Rattle.std.proofs.lemmas.Bool.{false≢true}
use Rattle.std.proofs.lemmas.Int.{ints}
use Rattle.std.proofs.lemmas.Option.{slice_get_within, get_or_from_slice_get}
use Rattle.flat_laws.proofs.Items.{placed_at, at_placed, items_sound}
use Rattle.flat_laws.proofs.Paths.{same_place}
use Rattle.flat_layout.specs.Layout.{Design, Place, IsPlaced}
use Rattle.flat_layout.specs.Nets.{Item, Own, Child, Global, Tables, ItemHolds, NetHolds, AreNets, items_of}
use Rattle.flat_layout.specs.Plane.{IsIn}
use Rattle.flat_layout.specs.Regions.{Wiring, At}
use Rattle.geo_base.specs.declared.shapes.Square.{Square}
use Rattle.net_link_laws.proofs.Held.{no_square, own_held, own_holds, child_held_at, child_holds, square_below, under_placed}
use Rattle.net_link_laws.proofs.Standing.{own_place, child_place}
use Rattle.net_link_laws.specs.Collected.{IsInNet}
use Rattle.net_link_laws.specs.Laws.{AreNetsUnder}
use Rattle.net_link_laws.specs.Places.{owned_before, nets_before, places_of}
use Rattle.net_walk.proofs.Walking.{IsAmong, IsNext, among_more, net_at, at_net, as_long, child_fits, element_at, no_element}
use Rattle.net_walk.specs.Held.{IsMarked}
use Rattle.net_walk.specs.Walk.{place_of}
use Rattle.net_walk.specs.declared.cells.Element.{Element}
use Rattle.view_shapes.specs.ReadLaws.{Called, IsShown, NetShows}
use Rattle.view_shapes.proofs.Adding.{added_none, added_both, added_as}
use Rattle.view_shapes.specs.Pieces.{IsOver, AreNear, AreListed, AddsPieces, IsOfOwn, IsOfOwnAt, IsOfMoved}
use Rattle.view_shapes.specs.Shown.{IsShownWanted}
use Rattle.view_shapes.specs.Wanted.{AreWantedBelow}
use Rattle.view_shapes.specs.declared.pieces.Piece.{Piece}

-- a square that such an item of a wanted net holds, and that is shown
pub record IsSoFar (d : Design) (t : Tables) (called : Called) (cell : ℕ) (wanted : List Bool) (S : ℕ → Type 0) (c x : ℕ) (q : Square) : Type 0 where
  pub marked : IsMarked wanted x
  pub item : Item
  pub in_net : IsInNet (t.nets cell) item x
  pub among : IsAmong S item
  pub shown : IsShown d called cell item
  pub holds : ItemHolds d t cell item (At c q)

-- the placements before one
abbrev pub IsBefore : ℕ → ℕ → Type 0
IsBefore n k = k < n

pub before_next : (n : ℕ) → IsNext n (IsBefore n) (IsBefore (n + 1))
before_next n = record {
  grows = λ j lt. let h : j < n + 1 = omega (arith, lt) in h;
  splits = λ j lt. elim (ℕ_discrete j n) [ yes e ↦ inr e | no m ↦ inl (let h : j < n = omega arith in h) ];
  here = let h : n < n + 1 = omega arith in h;
}

-- of the own rectangles of the first n conductors
abbrev pub IsOfConductors : Tables → ℕ → List Bool → ℕ → ℕ → ℕ → Square → Type 0
IsOfConductors t cell wanted n c x q =
    (e : ℕ) × (e < n) × IsOfOwn (t.own cell e) e (t.nets cell).net_of (owned_before t cell e) wanted (length (t.own cell e)) c x q

pub conductors_none : (t : Tables) (cell : ℕ) (wanted : List Bool) (ps : List Piece) → AddsPieces (IsOfConductors t cell wanted 0) ps ps
conductors_none t cell wanted ps = added_none (IsOfConductors t cell wanted 0) ps (λ c x q h. let lt = h.1 in absurd (omega arith))

-- one conductor more
pub conductors_more : (t : Tables) (cell : ℕ) (wanted : List Bool) (n : ℕ) (old mid new : List Piece) → AddsPieces (IsOfConductors t cell wanted n) old mid
    → AddsPieces (IsOfOwn (t.own cell n) n (t.nets cell).net_of (owned_before t cell n) wanted (length (t.own cell n))) mid new → AddsPieces (IsOfConductors t cell wanted (n + 1)) old new
conductors_more t cell wanted n old mid new h g =
    let R : ℕ → ℕ → ℕ → Square → Type 0 = λ e c x q. IsOfOwn (t.own cell e) e (t.nets cell).net_of (owned_before t cell e) wanted (length (t.own cell e)) c x q in
    added_both (IsOfConductors t cell wanted n) (R n) (IsOfConductors t cell wanted (n + 1)) old mid new h g
    (λ c x q. (
      (λ k. elim (ℕ_discrete k.0 n) [
        | yes e ↦ inr (subst (λ i. R i c x q) e k.2)
        | no m ↦ let before = k.1 in inl (k.0, omega arith, k.2)
      ]),
      (λ k. elim k [
        | inl a ↦ let before = a.1 in (a.0, omega arith, a.2)
        | inr b ↦ (n, omega arith, b)
      ]),
    ))

both_true : (u v : Bool) → (u && not v) ≡ true → (u ≡ true) × (v ≡ false)
both_true true true h = absurd (false≢true h)
both_true true false h = (refl, refl)
both_true false v h = absurd (false≢true h)

true_both : (u v : Bool) → u ≡ true → v ≡ false → (u && not v) ≡ true
true_both u v e f = ap (λ a. a && not v) e ∙ ap (λ b. true && not b) f

-- what a net shows, it holds
pub shows_holds : (d : Design) (t : Tables) (called : Called) (cell c x : ℕ) (q : Square) → NetShows d t called cell x (At c q) → NetHolds d t cell x (At c q)
shows_holds d t called cell c x q s = record { index = s.index; item = s.item; is_of = s.is_of; holds = s.holds }

all_shown : (d : Design) (called : Called) (cell : ℕ) (item : Item) → ((e b : ℕ) → called e b ≡ false) → IsShown d called cell item
all_shown d called cell (Own c r) none = tt
all_shown d called cell (Child k b) none = λ p placed. none p.cell b
all_shown d called cell (Global g) none = tt

-- without calls it shows what it holds
pub holds_shows : (d : Design) (t : Tables) (called : Called) (cell c x : ℕ) (q : Square) → ((e b : ℕ) → called e b ≡ false) → NetHolds d t cell x (At c q) → NetShows d t called cell x (At c q)
holds_shows d t called cell c x q none h = record { index = h.index; item = h.item; is_of = h.is_of; shown = all_shown d called cell h.item none; holds = h.holds }

module _ (d : Design) (w : Wiring) (t : Tables) (cell : ℕ) (nets : AreNets d w t cell (t.nets cell)) (called : Called) (wanted : List Bool) where
  own_from : (S : ℕ → Type 0) (c x : ℕ) (q : Square) → IsOfConductors t cell wanted (length w.conductors) c x q → IsSoFar d t called cell wanted S c x q
  own_from S c x q k =
      let e = k.0 in
      let o : IsOfOwn (t.own cell e) e (t.nets cell).net_of (owned_before t cell e) wanted (length (t.own cell e)) c x q = k.2 in
      let r = o.0 in
      let a : IsOfOwnAt (t.own cell e) e (t.nets cell).net_of (owned_before t cell e) wanted r c x q = o.2 in
      record {
        marked = a.4;
        item = Own e r;
        in_net = net_at d w t cell nets (owned_before t cell e + r) x (Own e r) (own_place d w t cell e r k.1 o.1) a.3;
        among = tt;
        shown = tt;
        holds = subst (λ i. ItemHolds d t cell (Own e r) (At i q)) a.0 (own_holds d t cell e r a.1 q a.2 a.5);
      }

  own_to : (S : ℕ → Type 0) → ((k : ℕ) → S k → ⊥) → (c x : ℕ) (q : Square) → IsMarked wanted x → (item : Item) → IsInNet (t.nets cell) item x → IsAmong S item → ItemHolds d t cell item (At c q)
      → IsOfConductors t cell wanted (length w.conductors) c x q
  own_to S none c x q marked (Own e r) net among h =
      let o = own_held d t cell e r c q h in
      let lt = slice_get_within (t.own cell e) r o.rect o.listed in
      let is = items_sound d w t cell (t.nets cell) nets net.0 (Own e r) net.1.listed in
      let stands = own_place d w t cell e r is.0 lt in
      let a : IsOfOwnAt (t.own cell e) e (t.nets cell).net_of (owned_before t cell e) wanted r c x q = (o.same, o.rect, o.listed, at_net d w t cell nets (owned_before t cell e + r) x (Own e r) stands net, marked, o.inside) in
      let all : IsOfOwn (t.own cell e) e (t.nets cell).net_of (owned_before t cell e) wanted (length (t.own cell e)) c x q = (r, lt, a) in
      (e, is.0, all)
  own_to S none c x q marked (Child k b) net among h = absurd (none k among)
  own_to S none c x q marked (Global g) net among h = absurd among

  -- the cell's own rectangles alone
  pub own_first : (old new : List Piece) → AddsPieces (IsOfConductors t cell wanted (length w.conductors)) old new → AddsPieces (IsSoFar d t called cell wanted (IsBefore 0)) old new
  own_first old new h =
      added_as (IsOfConductors t cell wanted (length w.conductors)) (IsSoFar d t called cell wanted (IsBefore 0)) old new h
      (λ c x q. (
        (λ s. own_to (IsBefore 0) (λ k lt. absurd (omega (arith, lt))) c x q s.marked s.item s.in_net s.among s.holds),
        (λ k. own_from (IsBefore 0) c x q k),
      ))

  so_far_more : (k : ℕ) (S T : ℕ → Type 0) → IsNext k S T → (c x : ℕ) (q : Square) → IsSoFar d t called cell wanted S c x q → IsSoFar d t called cell wanted T c x q
  so_far_more k S T next c x q h = record { marked = h.marked; item = h.item; in_net = h.in_net; among = among_more k S T h.item next h.among; shown = h.shown; holds = h.holds }

  -- of the next placement, or of those before
  so_far_split : (k : ℕ) (S T : ℕ → Type 0) → IsNext k S T → (c x : ℕ) (q : Square) → IsMarked wanted x → (item : Item) → IsInNet (t.nets cell) item x → IsAmong T item → IsShown d called cell item
      → ItemHolds d t cell item (At c q)
      → IsSoFar d t called cell wanted S c x q ⊎ ((b : ℕ) × IsInNet (t.nets cell) (Child k b) x × IsShown d called cell (Child k b) × ItemHolds d t cell (Child k b) (At c q))
  so_far_split k S T next c x q marked (Own e r) net among shown h = inl (record { marked = marked; item = Own e r; in_net = net; among = tt; shown = tt; holds = h })
  so_far_split k S T next c x q marked (Child j b) net among shown h = elim (next.splits j among) [
    | inl s ↦ inl (record { marked = marked; item = Child j b; in_net = net; among = s; shown = shown; holds = h })
    | inr e ↦ inr (b, subst (λ i. IsInNet (t.nets cell) (Child i b) x) e net, subst (λ i. IsShown d called cell (Child i b)) e shown, subst (λ i. ItemHolds d t cell (Child i b) (At c q)) e h)
  ]
  so_far_split k S T next c x q marked (Global g) net among shown h = absurd among

  module _ (k : ℕ) (p : Place) (there : slice_get (places_of d cell) k ≡ Some p) (nets_too : AreNets d w t p.cell (t.nets p.cell)) (at : ℕ)
      (here : at ≡ owned_before t cell (length w.conductors) + nets_before t (places_of d cell) k) (marks below : List Bool)
      (same : (b : ℕ) → called p.cell b ≡ get_or marks b false) (are : AreWantedBelow (t.nets cell).net_of at (t.nets p.cell).count wanted marks below) where
    placed : IsPlaced d cell k p
    placed = placed_at d cell k p there

    net_below : (c b : ℕ) (m : Square) → NetHolds d t p.cell b (At c m) → b < (t.nets p.cell).count
    net_below c b m h = nets_too.below h.index b h.is_of.numbered

    stands : (b : ℕ) → b < (t.nets p.cell).count → slice_get (items_of d w t cell) (at + b) ≡ Some (Child k b)
    stands b lt =
        let z : owned_before t cell (length w.conductors) + (nets_before t (places_of d cell) k + b) ≡ at + b = omega (arith, here) in
        subst (λ i. slice_get (items_of d w t cell) i ≡ Some (Child k b)) z (child_place d w t cell k b p there lt)

    -- a net of the placed cell is wanted where its net is, but not where it is called
    wanted_from : (b x : ℕ) → b < (t.nets p.cell).count → slice_get (t.nets cell).net_of (at + b) ≡ Some x → IsMarked below b → IsMarked wanted x × (called p.cell b ≡ false)
    wanted_from b x lt e h =
        let net : get_or (t.nets cell).net_of (at + b) 0 ≡ x = get_or_from_slice_get (t.nets cell).net_of (at + b) x 0 e in
        let both = both_true (get_or wanted (get_or (t.nets cell).net_of (at + b) 0) false) (get_or marks b false) (sym (are.each b lt) ∙ h) in
        (subst (λ n. IsMarked wanted n) net both.0, same b ∙ both.1)

    wanted_to : (b x : ℕ) → b < (t.nets p.cell).count → slice_get (t.nets cell).net_of (at + b) ≡ Some x → IsMarked wanted x → called p.cell b ≡ false → IsMarked below b
    wanted_to b x lt e h none =
        let net : get_or (t.nets cell).net_of (at + b) 0 ≡ x = get_or_from_slice_get (t.nets cell).net_of (at + b) x 0 e in
        are.each b lt ∙ true_both (get_or wanted (get_or (t.nets cell).net_of (at + b) 0) false) (get_or marks b false) (subst (λ n. IsMarked wanted n) (sym net) h) (sym (same b) ∙ none)

    -- the mark of the net that a square of the placed cell comes from
    mark_of : (c x b : ℕ) (m : Square) → IsMarked wanted x → IsShown d called cell (Child k b) → IsInNet (t.nets cell) (Child k b) x → NetHolds d t p.cell b (At c m) → IsMarked below b
    mark_of c x b m marked shown net h =
        let lt = net_below c b m h in
        wanted_to b x lt (at_net d w t cell nets (at + b) x (Child k b) (stands b lt) net) marked (shown p placed)

    -- nothing comes from below where no net is wanted there
    pub child_none : (old new : List Piece) → ((b : ℕ) → IsMarked below b → ⊥) → AddsPieces (IsSoFar d t called cell wanted (IsBefore k)) old new → AddsPieces (IsSoFar d t called cell wanted (IsBefore (k + 1))) old new
    child_none old new none h =
        added_as (IsSoFar d t called cell wanted (IsBefore k)) (IsSoFar d t called cell wanted (IsBefore (k + 1))) old new h
        (λ c x q. (
          (λ s. elim (so_far_split k (IsBefore k) (IsBefore (k + 1)) (before_next k) c x q s.marked s.item s.in_net s.among s.shown s.holds) [
            | inl a ↦ a
            | inr b ↦
                let m = square_below d t p b.0 c q (child_held_at d t cell k b.0 p (At c q) placed b.3) in
                absurd (none b.0 (mark_of c x b.0 m.square s.marked b.2 b.1 m.holds))
          ]),
          (λ s. so_far_more k (IsBefore k) (IsBefore (k + 1)) (before_next k) c x q s),
        ))

    module _ (none : Called) (pieces : List Piece) (no_call : (e b : ℕ) → none e b ≡ false) (seen : (c b : ℕ) (m : Square) → IsOver pieces c b m ↔ IsShownWanted d t none p.cell below c b m) where
      child_from : (c x : ℕ) (q : Square) → IsOfMoved p.motion pieces (t.nets cell).net_of at c x q → IsSoFar d t called cell wanted (IsBefore (k + 1)) c x q
      child_from c x q h =
          let s = (seen c h.0 h.1).0 h.2 in
          let held = shows_holds d t none p.cell c h.0 h.1 s.1 in
          let lt = net_below c h.0 h.1 held in
          let is = wanted_from h.0 x lt h.3 s.0 in
          record {
            marked = is.0;
            item = Child k h.0;
            in_net = net_at d w t cell nets (at + h.0) x (Child k h.0) (stands h.0 lt) h.3;
            among = (before_next k).here;
            shown = λ r its. subst (λ (v : Place). called v.cell h.0 ≡ false) (same_place d cell k p r placed its) is.1;
            holds = child_holds d t cell k h.0 p (At c h.1) (At c q) placed held (ap (At c) h.4);
          }

      child_to : (c x : ℕ) (q : Square) (b : ℕ) → IsMarked wanted x → IsInNet (t.nets cell) (Child k b) x → IsShown d called cell (Child k b) → ItemHolds d t cell (Child k b) (At c q)
          → IsOfMoved p.motion pieces (t.nets cell).net_of at c x q
      child_to c x q b marked net shown h =
          let m = square_below d t p b c q (child_held_at d t cell k b p (At c q) placed h) in
          let lt = net_below c b m.square m.holds in
          let is = mark_of c x b m.square marked shown net m.holds in
          (b, m.square, (seen c b m.square).1 (is, holds_shows d t none p.cell c b m.square no_call m.holds), at_net d w t cell nets (at + b) x (Child k b) (stands b lt) net, m.image)

      pub child_more : (old mid new : List Piece) → AddsPieces (IsSoFar d t called cell wanted (IsBefore k)) old mid → AddsPieces (IsOfMoved p.motion pieces (t.nets cell).net_of at) mid new
          → AddsPieces (IsSoFar d t called cell wanted (IsBefore (k + 1))) old new
      child_more old mid new h g =
          added_both (IsSoFar d t called cell wanted (IsBefore k)) (IsOfMoved p.motion pieces (t.nets cell).net_of at) (IsSoFar d t called cell wanted (IsBefore (k + 1))) old mid new h g
          (λ c x q. (
            (λ s. elim (so_far_split k (IsBefore k) (IsBefore (k + 1)) (before_next k) c x q s.marked s.item s.in_net s.among s.shown s.holds) [ inl a ↦ inl a | inr b ↦ inr (child_to c x q b.0 s.marked b.1 b.2 b.3) ]),
            (λ s. elim s [ inl a ↦ so_far_more k (IsBefore k) (IsBefore (k + 1)) (before_next k) c x q a | inr b ↦ child_from c x q b ]),
          ))

      listed : (ps : List Piece) → ((c x : ℕ) (q : Square) → IsOver ps c x q → IsOver pieces c x q) → AreNear ps → AreListed (length (t.nets cell).net_of) at ps
      listed [] f h = tt
      listed (o ∷ ps) f h =
          let q : Square = record { x = o.rect.x1; y = o.rect.y1 } in
          let wide = h.1.wide in
          let high = h.1.high in
          let inside : IsIn q o.rect = (omega (arith, ints), wide, omega (arith, ints), high) in
          let s = (seen o.conductor o.net q).0 (f o.conductor o.net q (inl (refl, refl, inside))) in
          let lt = net_below o.conductor o.net q (shows_holds d t none p.cell o.conductor o.net q s.1) in
          let fits = child_fits d w t cell nets k p there in
          (omega (arith, lt, fits, here), listed ps (λ c x v g. f c x v (inr g)) h.2)

      -- their nets stand in the list
      pub below_listed : AreNear pieces → AreListed (length (t.nets cell).net_of) at pieces
      below_listed h = listed pieces (λ c x q g. g) h

  all_among : (c x : ℕ) (q : Square) (item : Item) → IsInNet (t.nets cell) item x → ItemHolds d t cell item (At c q) → IsAmong (IsBefore (length (places_of d cell))) item
  all_among c x q (Own e r) net h = tt
  all_among c x q (Child k b) net h =
      let is = items_sound d w t cell (t.nets cell) nets net.0 (Child k b) net.1.listed in
      slice_get_within (places_of d cell) k is.0 (at_placed d cell k is.0 is.1)
  all_among c x q (Global g) net h = absurd (no_square d t cell g c q h)

  -- all placements
  pub all_shown_there : (out : List Piece) → AddsPieces (IsSoFar d t called cell wanted (IsBefore (length (places_of d cell)))) [] out → (c x : ℕ) (q : Square) → IsOver out c x q ↔ IsShownWanted d t called cell wanted c x q
  all_shown_there out h c x q = (
    (λ o. elim ((h.over c x q).0 o) [
      | inl a ↦ absurd a
      | inr s ↦ (s.marked, record { index = s.in_net.0; item = s.item; is_of = s.in_net.1; shown = s.shown; holds = s.holds })
    ]),
    (λ k.
        let marked : IsMarked wanted x = k.0 in
        let s : NetShows d t called cell x (At c q) = k.1 in
        (h.over c x q).1 (inr (record { marked = marked; item = s.item; in_net = (s.index, s.is_of); among = all_among c x q s.item (s.index, s.is_of) s.holds; shown = s.shown; holds = s.holds }))),
  )

-- placement k, whose cell has its nets, which have room among the parent's
pub record IsChild (d : Design) (w : Wiring) (t : Tables) (cell k : ℕ) (p : Place) : Type 0 where
  pub nets : AreNets d w t cell (t.nets cell)
  pub there : slice_get (places_of d cell) k ≡ Some p
  pub placed : IsPlaced d cell k p
  pub under : AreNetsUnder d w t p.cell
  pub nets_too : AreNets d w t p.cell (t.nets p.cell)
  pub fits : (owned_before t cell (length w.conductors) + nets_before t (places_of d cell) k) + (t.nets p.cell).count
      ≤ length (t.nets cell).net_of

module _ (d : Design) (w : Wiring) (t : Tables) (cell k : ℕ) (es : List Element) (are : AreNetsUnder d w t cell)
    (all : map place_of es ≡ places_of d cell) where
  pub child_at : k < length es → IsChild d w t cell k (place_of (get_or es k no_element))
  child_at lt =
      let p : Place = place_of (get_or es k no_element) in
      let nets = are cell ([], refl) in
      let there = element_at es (places_of d cell) k all lt in
      let placed = placed_at d cell k p there in
      let under = under_placed d w t cell k p placed are in record {
        nets = nets;
        there = there;
        placed = placed;
        under = under;
        nets_too = under p.cell ([], refl);
        fits = child_fits d w t cell nets k p there;
      }

  pub shown_there : (called : Called) (wanted : List Bool) (out : List Piece) → k ≡ length es
      → AddsPieces (IsSoFar d t called cell wanted (IsBefore k)) [] out → (c x : ℕ) (q : Square) → IsOver out c x q ↔ IsShownWanted d t called cell wanted c x q
  shown_there called wanted out end h =
      all_shown_there d w t cell (are cell ([], refl)) called wanted out
      (subst (λ (n : ℕ). AddsPieces (IsSoFar d t called cell wanted (IsBefore n)) [] out) (end ∙ as_long es (places_of d cell) all) h)
