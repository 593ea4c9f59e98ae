-- Contacts of two placed cells, and their replay as links of a cell's items.
use Rattle.std.proofs.Common.{◌≡◌, true, false, nat_lt, if◌then◌else◌, ◌⊎◌, ◌↔◌, inl, inr, ℕ, zero, suc, ◌+◌, ◌-◌, ◌<◌, ◌≤◌, List, [], ◌∷◌, ◌++◌, Some, slice_get, get_or, length, take, refl, sym, ◌∙◌, ap, subst, arith}
use Rattle.std.proofs.Math.Seq.{take-length}
use Rattle.std.proofs.lemmas.Bool.{le-ltb, lt-ltb}
use Rattle.std.proofs.lemmas.List.{take_more}
use Rattle.flat_laws.proofs.Items.{placed_at}
use Rattle.flat_layout.specs.Layout.{Design, IsPlaced, Place}
use Rattle.flat_layout.specs.Nets.{AreRightBelow, Child, NetHolds, Tables, items_of}
use Rattle.flat_layout.specs.Plane.{IsNear}
use Rattle.flat_layout.specs.Regions.{At, IsJoined, Wiring}
use Rattle.geo_base.specs.Motions.{moved_square}
use Rattle.geo_base.specs.declared.shapes.Rect.{Rect}
use Rattle.geo_base.specs.declared.shapes.Square.{Square}
use Rattle.link_classes.specs.Classes.{IsLinked}
use Rattle.link_classes.specs.declared.classes.Link.{Link}
use Rattle.net_link_laws.proofs.Assembling.{one_child, square_back}
use Rattle.net_link_laws.proofs.Held.{conductor}
use Rattle.net_link_laws.proofs.Looking.{contact_links}
use Rattle.net_link_laws.proofs.Standing.{child_place}
use Rattle.net_link_laws.specs.Found.{IsSquareLink}
use Rattle.net_link_laws.specs.Laws.{AreNetsUnder}
use Rattle.net_link_laws.specs.Places.{nets_before, owned_before, places_of}
use Rattle.net_link_laws.specs.Windows.{AreInContact, IsEnoughFor}
use Rattle.net_walk.proofs.Alikes.{same_contacts}
use Rattle.net_walk.proofs.Pairing.{linked_left, linked_right}
use Rattle.net_walk.proofs.Spanning.{linked_cut, no_link}
use Rattle.net_walk.specs.Contacts.{AddsAcross, AreContacts, IsAcross, IsBeside, IsFromTo, IsReplayed, LieSo}
use Rattle.net_walk.specs.Pairs.{AddsPair, AreNeverNear, first_of}
use Rattle.net_walk.specs.Seen.{AreLinksOver, AreNearOver, IsSeen, IsSeenOfTwo}
use Rattle.net_walk.specs.declared.contacts.Beside.{Beside}
use Rattle.plain_netlist.proofs.Links.{along, single, stays}
use Rattle.plain_netlist.specs.Chains.{Reaches}
use Rattle.touching_pieces.proofs.Chains.{one_back, one_of}
use Rattle.touching_pieces.proofs.Links.{added_both, added_none, added_one, linked_back}
use Rattle.touching_pieces.specs.Pairs.{AddsLinks, AreJoined, AreOne}
use Rattle.touching_pieces.specs.declared.conductors.Joined.{Joined}

-- ---- lists of contacts

pub from_left : (ls : List Link) (l : Link) (x y : ℕ) → IsFromTo ls x y → IsFromTo (ls ++ l ∷ []) x y
from_left [] l x y h = absurd h
from_left (m ∷ ls) l x y (inl e) = inl e
from_left (m ∷ ls) l x y (inr h) = inr (from_left ls l x y h)

pub from_last : (ls : List Link) (l : Link) (x y : ℕ) → l.one ≡ x → l.other ≡ y → IsFromTo (ls ++ l ∷ []) x y
from_last [] l x y e f = inl (e, f)
from_last (m ∷ ls) l x y e f = inr (from_last ls l x y e f)

pub from_cut : (ls : List Link) (l : Link) (x y : ℕ) → IsFromTo (ls ++ l ∷ []) x y → IsFromTo ls x y ⊎ ((l.one ≡ x) × (l.other ≡ y))
from_cut [] l x y (inl e) = inr e
from_cut [] l x y (inr h) = absurd h
from_cut (m ∷ ls) l x y (inl e) = inl (inl e)
from_cut (m ∷ ls) l x y (inr h) = elim (from_cut ls l x y h) [ inl a ↦ inl (inr a) | inr b ↦ inr b ]

pub from_at : (ls : List Link) (k : ℕ) (o : Link) → k < length ls → IsFromTo ls (get_or ls k o).one (get_or ls k o).other
from_at [] k o lt = absurd (omega (arith, lt))
from_at (l ∷ ls) zero o lt = inl (refl, refl)
from_at (l ∷ ls) (suc k) o lt = inr (from_at ls k o (omega (arith, lt)))

-- ---- across a count

-- the link, or its other way round, leads across
pub across_there : (l : Link) (count : ℕ) (old : List Link) (one other : ℕ) → (l.one ≡ one) → (l.other ≡ other) → one < count → count ≤ other → AddsAcross l count old (old ++ record { one = one; other = other - count } ∷ [])
across_there l count old one other e f lt le = λ x y.
    let m : Link = record { one = one; other = other - count } in (
      (λ h. elim (from_cut old m x y h) [
        | inl a ↦ inl a
        | inr b ↦
            let b0 = b.0 in let b1 = b.1 in
            let less : x < count = omega (arith, b0, lt) in
            let first : l.one ≡ x = e ∙ b0 in
            let second : l.other ≡ count + y = omega (arith, f, b1, le) in
            inr (less, inl (first, second))
      ]),
      (λ h. elim h [
        | inl a ↦ from_left old m x y a
        | inr b ↦
            let less = b.0 in
            elim b.1 [
              | inl s ↦ (let s0 = s.0 in let s1 = s.1 in from_last old m x y (sym e ∙ s0) (omega (arith, f, s1)))
              | inr s ↦ (let s0 = s.0 in let s1 = s.1 in absurd (omega (arith, e, s0, lt)))
            ]
      ]),
    )

pub across_back : (l : Link) (count : ℕ) (old : List Link) (one other : ℕ) → (l.other ≡ one) → (l.one ≡ other) → one < count → count ≤ other → AddsAcross l count old (old ++ record { one = one; other = other - count } ∷ [])
across_back l count old one other e f lt le = λ x y.
    let m : Link = record { one = one; other = other - count } in (
      (λ h. elim (from_cut old m x y h) [
        | inl a ↦ inl a
        | inr b ↦
            let b0 = b.0 in let b1 = b.1 in
            let less : x < count = omega (arith, b0, lt) in
            let first : l.other ≡ x = e ∙ b0 in
            let second : l.one ≡ count + y = omega (arith, f, b1, le) in
            inr (less, inr (second, first))
      ]),
      (λ h. elim h [
        | inl a ↦ from_left old m x y a
        | inr b ↦
            let less = b.0 in
            elim b.1 [
              | inl s ↦ (let s0 = s.0 in let s1 = s.1 in absurd (omega (arith, e, s1, lt)))
              | inr s ↦ (let s0 = s.0 in let s1 = s.1 in from_last old m x y (sym e ∙ s1) (omega (arith, f, s0)))
            ]
      ]),
    )

-- what the first n links say across
abbrev pub SaysAcross : List Link → ℕ → ℕ → List Link → Type 0
SaysAcross links n count out = (x y : ℕ) → IsFromTo out x y ↔ IsAcross (take n links) count x y

pub none_across : (links : List Link) (count : ℕ) → SaysAcross links 0 count []
none_across links count = λ x y. ((λ h. absurd h), (λ h. h.1))

pub more_across : (links : List Link) (n count : ℕ) (old new : List Link) → n < length links → SaysAcross links n count old → AddsAcross (get_or links n no_link) count old new → SaysAcross links (n + 1) count new
more_across links n count old new lt h g =
    let ls = take n links in
    let l = get_or links n no_link in
    let now : (x y : ℕ) → IsFromTo new x y ↔ IsAcross (ls ++ l ∷ []) count x y = λ x y. (
      (λ k. elim ((g x y).0 k) [
        | inl a ↦ (let b = (h x y).0 a in (b.0, linked_left ls (l ∷ []) x (count + y) b.1))
        | inr b ↦ (b.0, linked_right ls (l ∷ []) x (count + y) (inl b.1))
      ]),
      (λ k. elim (linked_cut ls l x (count + y) k.1) [
        | inl a ↦ (g x y).1 (inl ((h x y).1 (k.0, a)))
        | inr b ↦ (g x y).1 (inr (k.0, b))
      ]),
    ) in
    subst (λ (m : List Link). (x y : ℕ) → IsFromTo new x y ↔ IsAcross m count x y) (sym (take_more links n no_link lt)) now

pub all_across : (links : List Link) (n count : ℕ) (out : List Link) → n ≡ length links → SaysAcross links n count out → (x y : ℕ) → IsFromTo out x y ↔ IsAcross links count x y
all_across links n count out e h = subst (λ (m : List Link). (x y : ℕ) → IsFromTo out x y ↔ IsAcross m count x y) (ap (λ i. take i links) e ∙ take-length links) h

-- ---- contacts of two placed cells

module _ (d : Design) (w : Wiring) (t : Tables) (p q : Place) (nets : AreNetsUnder d w t p.cell) (nets_too : AreNetsUnder d w t q.cell) where
  pub first_below : (c x : ℕ) (m : Square) → NetHolds d t p.cell x (At c m) → x < (t.nets p.cell).count
  first_below c x m h = (nets p.cell ([], refl)).below h.index x h.is_of.numbered

  pub second_below : (c x : ℕ) (m : Square) → NetHolds d t q.cell x (At c m) → x < (t.nets q.cell).count
  second_below c x m h = (nets_too q.cell ([], refl)).below h.index x h.is_of.numbered

  -- squares that are near, of conductors that are joined, are of nets in contact
  contact_of : (window : Rect) (joins : List Joined) (r s : Place) (n at other_at i j : ℕ) (R : ℕ → ℕ → Square → Type 0) → ((c e : ℕ) → AreJoined joins c e ↔ IsJoined w c e) → (near : AreNearOver joins R i j)
      → (one : IsSeen d t r window at n near.c i near.p) → (two : IsSeen d t s window other_at n near.e j near.q) → AreInContact d w t r s one.net two.net
  contact_of window joins r s n at other_at i j R same near one two = record {
    c = near.c;
    e = near.e;
    joined = (same near.c near.e).0 near.joined;
    m = one.square;
    n = two.square;
    held = one.holds;
    others = two.holds;
    near = subst (λ (v : Square). IsNear v (moved_square s.motion two.square)) (sym one.image) (subst (λ (v : Square). IsNear near.p v) (sym two.image) near.near);
  }

  module _ (window : Rect) (joins : List Joined) (count : ℕ) (links contacts : List Link) (enough : IsEnoughFor d t p q window) (same : (c e : ℕ) → AreJoined joins c e ↔ IsJoined w c e) (is : count ≡ (t.nets p.cell).count)
      (over : AreLinksOver joins (IsSeenOfTwo d t window (length w.conductors) p 0 q count) links) (list : (x y : ℕ) → IsFromTo contacts x y ↔ IsAcross links count x y) where
    abbrev Two : ℕ → ℕ → Square → Type 0
    Two = IsSeenOfTwo d t window (length w.conductors) p 0 q count

    low : (c i : ℕ) (v : Square) → IsSeen d t p window 0 (length w.conductors) c i v → i < count
    low c i v s = let e = s.item in let b = first_below c s.net s.square s.holds in omega (arith, e, b, is)

    high : (c i : ℕ) (v : Square) → IsSeen d t q window count (length w.conductors) c i v → count ≤ i
    high c i v s = let e = s.item in omega (arith, e)

    contact_each : (x y : ℕ) → IsFromTo contacts x y → AreInContact d w t p q x y
    contact_each x y h =
        let a = (list x y).0 h in
        let lt = a.0 in
        let near = over.each x (count + y) a.1 in
        let one : IsSeen d t p window 0 (length w.conductors) near.c x near.p = elim near.over [ inl s ↦ s | inr s ↦ absurd (let b = high near.c x near.p s in let z : ⊥ = omega (arith, b, lt) in z) ] in
        let two : IsSeen d t q window count (length w.conductors) near.e (count + y) near.q = elim near.over_too [ inl s ↦ absurd (let b = low near.e (count + y) near.q s in let z : ⊥ = omega (arith, b) in z) | inr s ↦ s ] in
        let one_item = one.item in
        let two_item = two.item in
        let net : one.net ≡ x = omega (arith, one_item) in
        let net_too : two.net ≡ y = omega (arith, two_item) in
        subst (λ u. AreInContact d w t p q u y) net (subst (λ u. AreInContact d w t p q one.net u) net_too (contact_of window joins p q (length w.conductors) 0 count x (count + y) Two same near one two))

    -- where the item of a number stands when nets stand from other places on
    module _ (at other_at : ℕ) where
      abbrev S : ℕ → ℕ → Type 0
      S = λ i j. IsReplayed contacts at other_at i j ⊎ IsReplayed contacts at other_at j i

      abbrev place : ℕ → ℕ
      place i = if nat_lt i count then at + i else other_at + (i - count)

      place_low : (i : ℕ) → i < count → place i ≡ at + i
      place_low i lt = let e : nat_lt i count ≡ true = lt-ltb i count lt in rw e refl

      place_high : (i : ℕ) → count ≤ i → place i ≡ other_at + (i - count)
      place_high i le = let e : nat_lt i count ≡ false = le-ltb i count le in rw e refl

      across_step : (a b : ℕ) → a < count → count ≤ b → IsLinked links a b → IsReplayed contacts at other_at (place a) (place b)
      across_step a b lt le h =
          let z : b ≡ count + (b - count) = omega (arith, le) in
          let from : IsFromTo contacts a (b - count) = (list a (b - count)).1 (lt, subst (λ u. IsLinked links a u) z h) in
          (a, b - count, from, sym (place_low a lt), sym (place_high b le))

      same_step : (a b : ℕ) → a ≡ b → Reaches S (place a) (place b)
      same_step a b e = stays S (place a) (place b) (ap place e)

      step : (a b : ℕ) → IsLinked links a b → Reaches S (place a) (place b)
      step a b h =
          let near = over.each a b h in
          elim near.over [
            | inl s ↦ elim near.over_too [
              | inl r ↦
                  let e = s.item in
                  let f = r.item in
                  let one : s.net ≡ r.net = one_child d w t p s.net r.net (nets p.cell ([], refl)) (contact_of window joins p p (length w.conductors) 0 0 a b Two same near s r) in
                  same_step a b (omega (arith, e, f, one))
              | inr r ↦ single S (place a) (place b) (inl (across_step a b (low near.c a near.p s) (high near.e b near.q r) h))
            ]
            | inr s ↦ elim near.over_too [
              | inl r ↦ single S (place a) (place b) (inr (across_step b a (low near.e b near.q r) (high near.c a near.p s) (linked_back links a b h)))
              | inr r ↦
                  let e = s.item in
                  let f = r.item in
                  let one : s.net ≡ r.net = one_child d w t q s.net r.net (nets_too q.cell ([], refl)) (contact_of window joins q q (length w.conductors) count count a b Two same near s r) in
                  same_step a b (omega (arith, e, f, one))
            ]
          ]

      contact_found : (x y : ℕ) → AreInContact d w t p q x y → Reaches S (at + x) (other_at + y)
      contact_found x y k =
          let both = enough k.c k.e x y k.m k.n k.held k.others k.near in
          let known = conductor d w t p.cell x k.c k.m nets k.held in
          let known_too = conductor d w t q.cell y k.e k.n nets_too k.others in
          let b = first_below k.c x k.m k.held in
          let lt : x < count = omega (arith, b, is) in
          let le : count ≤ count + y = omega arith in
          let z : 0 + x ≡ x = omega arith in
          let one : IsSeen d t p window 0 (length w.conductors) k.c x (moved_square p.motion k.m) = record { known = known; net = x; square = k.m; holds = k.held; item = z; image = refl; within = both.0 } in
          let two : IsSeen d t q window count (length w.conductors) k.e (count + y) (moved_square q.motion k.n) = record { known = known_too; net = y; square = k.n; holds = k.others; item = refl; image = refl; within = both.1 } in
          let way = over.found x (count + y) (record { c = k.c; e = k.e; p = moved_square p.motion k.m; q = moved_square q.motion k.n; joined = (same k.c k.e).1 k.joined; over = inl one; over_too = inr two; near = k.near }) in
          let moved : Reaches S (place x) (place (count + y)) = along (IsLinked links) S place step x (count + y) way in
          let f : count + y - count ≡ y = omega arith in
          let end : place (count + y) ≡ other_at + y = place_high (count + y) le ∙ ap (λ u. other_at + u) f in
          subst (λ u. Reaches S u (other_at + y)) (place_low x lt) (subst (λ u. Reaches S (place x) u) end moved)

    -- links in a window that is enough, the other's nets counted from the first one's count on, say
    -- across that what is in contact
    pub window_contacts : AreContacts d w t p q contacts
    window_contacts = record { each = contact_each; found = λ x y k at other_at. contact_found at other_at x y k }

pub no_contacts : (d : Design) (w : Wiring) (t : Tables) (p q : Place) → AreNeverNear d t p q → AreContacts d w t p q []
no_contacts d w t p q none = record { each = λ x y h. absurd h; found = λ x y k at other_at. absurd (none k.c k.e x y k.m k.n k.held k.others k.near) }

-- contacts of one pair are those of each that lies so
pub beside_all : (d : Design) (w : Wiring) (t : Tables) (p q : Place) (b : Beside) → LieSo p q b → AreContacts d w t p q b.contacts.items → IsBeside d w t b
beside_all d w t p q b lie are = λ r s so.
    let alike : (x y : ℕ) → AreInContact d w t p q x y ↔ AreInContact d w t r s x y = λ x y. same_contacts d w t p q r s b.motion x y (so.one ∙ sym lie.one) (so.other ∙ sym lie.other) lie.motion so.motion in
    record { each = λ x y h. (alike x y).0 (are.each x y h); found = λ x y k. are.found x y ((alike x y).1 k) }

-- ---- their replay

pub none_replayed : (contacts : List Link) (at other_at : ℕ) (ls : List Link) → AddsLinks (IsReplayed (take 0 contacts) at other_at) ls ls
none_replayed contacts at other_at ls = added_none (IsReplayed (take 0 contacts) at other_at) ls (λ i j h. absurd h.2)

pub more_replayed : (contacts : List Link) (n at other_at : ℕ) (old mid : List Link) → n < length contacts → AddsLinks (IsReplayed (take n contacts) at other_at) old mid
    → AddsLinks (IsReplayed (take (n + 1) contacts) at other_at) old (mid ++ record { one = at + (get_or contacts n no_link).one; other = other_at + (get_or contacts n no_link).other } ∷ [])
more_replayed contacts n at other_at old mid lt h =
    let ls = take n contacts in
    let l = get_or contacts n no_link in
    let R = IsReplayed ls at other_at in
    let S : ℕ → ℕ → Type 0 = λ i j. (at + l.one ≡ i) × (other_at + l.other ≡ j) in
    let T = IsReplayed (ls ++ l ∷ []) at other_at in
    let g : AddsLinks S mid (mid ++ record { one = at + l.one; other = other_at + l.other } ∷ []) = added_one S mid (at + l.one) (other_at + l.other) (refl, refl) (λ i j e. e) in
    let now : AddsLinks T old (mid ++ record { one = at + l.one; other = other_at + l.other } ∷ []) =
    added_both R S T old mid (mid ++ record { one = at + l.one; other = other_at + l.other } ∷ []) h g
    (λ i j r. (r.0, r.1, from_left ls l r.0 r.1 r.2, r.3, r.4))
    (λ i j s. (l.one, l.other, from_last ls l l.one l.other refl refl, s.0, s.1))
    (λ i j r. elim (from_cut ls l r.0 r.1 r.2) [
      | inl a ↦ inl (r.0, r.1, a, r.3, r.4)
      | inr b ↦ inr (ap (λ k. at + k) b.0 ∙ r.3, ap (λ k. other_at + k) b.1 ∙ r.4)
    ]) in
    subst (λ (m : List Link). AddsLinks (IsReplayed m at other_at) old (mid ++ record { one = at + l.one; other = other_at + l.other } ∷ [])) (sym (take_more contacts n no_link lt)) now

pub all_replayed : (contacts : List Link) (n at other_at : ℕ) (old new : List Link) → n ≡ length contacts → AddsLinks (IsReplayed (take n contacts) at other_at) old new → AddsLinks (IsReplayed contacts at other_at) old new
all_replayed contacts n at other_at old new e h = subst (λ (m : List Link). AddsLinks (IsReplayed m at other_at) old new) (ap (λ i. take i contacts) e ∙ take-length contacts) h

-- contacts replayed behind the places of two placements' first nets are the links of the pair
pub replayed_pair : (d : Design) (w : Wiring) (t : Tables) (cell k l : ℕ) (p q : Place) (contacts : List Link) (at other_at : ℕ) (old new : List Link) → AreRightBelow d w t cell → slice_get (places_of d cell) k ≡ Some p → slice_get (places_of d cell) l ≡ Some q
    → AreContacts d w t p q contacts → at ≡ first_of d w t cell k → other_at ≡ first_of d w t cell l → AddsLinks (IsReplayed contacts at other_at) old new → AddsPair d w t cell k l old new
replayed_pair d w t cell k l p q contacts at other_at old new right there there_too are is is_too h = record {
  kept = h.kept;
  each = λ i j m. elim (h.each i j m) [
    | inl a ↦ inl a
    | inr b ↦ inr (elim b [
      | inl r ↦ (let s = square r.0 r.1 r.2 in (Child k r.0, Child l r.1, at_one i r.0 r.1 r.2 r.3, at_other j r.0 r.1 r.2 r.4, s))
      | inr r ↦ (let s = square r.0 r.1 r.2 in (Child l r.1, Child k r.0, at_other i r.0 r.1 r.2 r.4, at_one j r.0 r.1 r.2 r.3, square_back d w t cell (Child k r.0) (Child l r.1) s))
    ])
  ];
  found = λ x y s.
      let m = (contact_links d w t cell k x l y p q placed placed_too s.from s.to).0 s in
      let way : AreOne new (at + x) (other_at + y) = along (λ i j. IsReplayed contacts at other_at i j ⊎ IsReplayed contacts at other_at j i) (IsLinked new) (λ v. v) (λ i j e. elim e [
        | inl a ↦ one_of new i j (h.found i j a)
        | inr b ↦ one_back new j i (one_of new j i (h.found j i b))
      ]) (at + x) (other_at + y) (are.found x y m at other_at) in
      subst (λ u. AreOne new u (first_of d w t cell l + y)) (ap (λ n. n + x) is) (subst (λ u. AreOne new (at + x) u) (ap (λ n. n + y) is_too) way);
}
  where
    placed : IsPlaced d cell k p
    placed = placed_at d cell k p there

    placed_too : IsPlaced d cell l q
    placed_too = placed_at d cell l q there_too

    below : (x y : ℕ) → IsFromTo contacts x y → (x < (t.nets p.cell).count) × (y < (t.nets q.cell).count)
    below x y f =
        let m = are.each x y f in (
          first_below d w t p q (λ e u. right.nets k e p placed u) (λ e u. right.nets l e q placed_too u) m.c x m.m m.held,
          second_below d w t p q (λ e u. right.nets k e p placed u) (λ e u. right.nets l e q placed_too u) m.e y m.n m.others,
        )

    square : (x y : ℕ) → IsFromTo contacts x y → IsSquareLink d w t cell (Child k x) (Child l y)
    square x y f =
        let b = below x y f in
        (contact_links d w t cell k x l y p q placed placed_too (p, placed, b.0) (q, placed_too, b.1)).1 (are.each x y f)

    at_one : (i x y : ℕ) → IsFromTo contacts x y → at + x ≡ i → slice_get (items_of d w t cell) i ≡ Some (Child k x)
    at_one i x y f e =
        let z : owned_before t cell (length w.conductors) + (nets_before t (places_of d cell) k + x) ≡ first_of d w t cell k + x = omega arith in
        subst (λ n. slice_get (items_of d w t cell) n ≡ Some (Child k x)) (z ∙ ap (λ n. n + x) (sym is) ∙ e) (child_place d w t cell k x p there (below x y f).0)

    at_other : (j x y : ℕ) → IsFromTo contacts x y → other_at + y ≡ j → slice_get (items_of d w t cell) j ≡ Some (Child l y)
    at_other j x y f e =
        let z : owned_before t cell (length w.conductors) + (nets_before t (places_of d cell) l + y) ≡ first_of d w t cell l + y = omega arith in
        subst (λ n. slice_get (items_of d w t cell) n ≡ Some (Child l y)) (z ∙ ap (λ n. n + y) (sym is_too) ∙ e) (child_place d w t cell l y q there_too (below x y f).1)
