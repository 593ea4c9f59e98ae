-- Pairs of own rectangles and placements, conductor by conductor.
use Rattle.std.proofs.Common.{◌≡◌, ◌⊎◌, inl, inr, ℕ, ◌+◌, ◌<◌, ◌≤◌, List, [], ◌∷◌, ◌++◌, Some, slice_get, get_or, length, take, refl, sym, ◌∙◌, ap, subst, arith}
use Rattle.std.proofs.Math.Decide.{ℕ_discrete}
use Rattle.std.proofs.Math.Seq.{take-length}
use Rattle.std.proofs.lemmas.List.{take_more}
use Rattle.std.proofs.lemmas.Option.{slice_get_within}
use Rattle.flat_laws.proofs.Items.{at_placed}
use Rattle.flat_layout.specs.Layout.{Design, Place}
use Rattle.flat_layout.specs.Nets.{Own, Child, Tables}
use Rattle.flat_layout.specs.Plane.{IsIn, IsNear}
use Rattle.flat_layout.specs.Regions.{Wiring, At, IsJoined}
use Rattle.geo_base.specs.declared.shapes.Rect.{Rect}
use Rattle.geo_base.specs.declared.shapes.Square.{Square}
use Rattle.link_classes.specs.Classes.{IsLinked}
use Rattle.link_classes.specs.declared.classes.Link.{Link}
use Rattle.net_link_laws.proofs.Held.{own_held, child_held_at, square_below}
use Rattle.net_link_laws.proofs.Looking.{near_grown}
use Rattle.net_link_laws.specs.Found.{IsSquareLink}
use Rattle.net_link_laws.specs.Places.{owned_before, places_of}
use Rattle.geo_base.specs.Rects.{grown}
use Rattle.net_walk.proofs.Besides.{item_below, no_part}
use Rattle.net_walk.proofs.Holding.{one_last, one_left}
use Rattle.net_walk.proofs.Placing.{among_at, at_among, of_rect, rect_at}
use Rattle.net_walk.proofs.Seeing.{joined_split, no_line}
use Rattle.net_walk.specs.Beside.{ArePairsBeside}
use Rattle.net_walk.specs.Held.{IsOneOf}
use Rattle.net_walk.specs.Owned.{rect_pieces}
use Rattle.net_walk.specs.Pairs.{AreSpanPieces, IsSpanPiece}
use Rattle.net_walk.specs.Partners.{AddsPartner, AddsPartners, ArePartnerPieces, ArePartners, IsPartner, Keeps, TouchNone, counted_from}
use Rattle.net_walk.specs.Seen.{JoinsTwo}
use Rattle.net_walk.specs.Walk.{HasNone}
use Rattle.touching_pieces.proofs.Links.{among_either, among_left, among_right}
use Rattle.touching_pieces.specs.Pairs.{AddsTouching, AreInTouch, AreJoined, IsAmong}
use Rattle.touching_pieces.specs.Touching.{AreTouching}
use Rattle.touching_pieces.specs.declared.conductors.Joined.{Joined}
use Rattle.touching_pieces.specs.declared.pieces.Piece.{Piece}

-- ---- the conductors that are joined to one

pub where_pushed : (old : List ℕ) (other : ℕ) → Keeps old (old ++ other ∷ [])
where_pushed old other e h = one_left old (other ∷ []) e h

pub line_pushed : (l : Joined) (c : ℕ) (mid new : List ℕ) → (l.first ≡ c → IsOneOf mid l.second) → Keeps mid new → (l.second ≡ c → IsOneOf new l.first) → (e : ℕ) → JoinsTwo l c e → IsOneOf new e
line_pushed l c mid new first keeps second e (inl h) = subst (IsOneOf new) h.1 (keeps l.second (first h.0))
line_pushed l c mid new first keeps second e (inr h) = subst (IsOneOf new) h.0 (second h.1)

pub itself_tied : (c e : ℕ) → AreJoined [] c e → IsOneOf (c ∷ []) e
itself_tied c e (inl same) = subst (IsOneOf (c ∷ [])) same (one_last [] c)
itself_tied c e (inr none) = absurd none

pub line_tied : (ls : List Joined) (m c : ℕ) (old new : List ℕ) → m < length ls → ((e : ℕ) → AreJoined (take m ls) c e → IsOneOf old e) → Keeps old new → ((e : ℕ) → JoinsTwo (get_or ls m no_line) c e → IsOneOf new e)
    → (e : ℕ) → AreJoined (take (m + 1) ls) c e → IsOneOf new e
line_tied ls m c old new lt had keeps found e h = elim (joined_split (take m ls) (get_or ls m no_line) c e (subst (λ (v : List Joined). AreJoined v c e) (take_more ls m no_line lt) h)) [
  | inl a ↦ keeps e (had e a)
  | inr b ↦ found e b
]

pub all_tied : (ls : List Joined) (m c : ℕ) (out : List ℕ) → m ≡ length ls → ((e : ℕ) → AreJoined (take m ls) c e → IsOneOf out e) → (e : ℕ) → AreJoined ls c e → IsOneOf out e
all_tied ls m c out end h e j = h e (subst (λ (v : List Joined). AreJoined v c e) (sym (ap (λ i. take i ls) end ∙ take-length ls)) j)

-- ---- placements that may hold something

module _ (d : Design) (t : Tables) where
  pub none_yet : (cell : ℕ) (cs : List ℕ) (i : ℕ) → i < 0 → HasNone d t cell (get_or cs i 0)
  none_yet cell cs i lt = absurd (omega (arith, lt))

  pub none_more : (cell : ℕ) (cs : List ℕ) (n : ℕ) → ((i : ℕ) → i < n → HasNone d t cell (get_or cs i 0)) → HasNone d t cell (get_or cs n 0) → (i : ℕ) → i < n + 1 → HasNone d t cell (get_or cs i 0)
  none_more cell cs n h last i lt = elim (ℕ_discrete i n) [
    | yes e ↦ subst (λ k. HasNone d t cell (get_or cs k 0)) (sym e) last
    | no m ↦ h i (omega (arith, lt, m))
  ]

  pub none_of : (cell : ℕ) (cs : List ℕ) (n : ℕ) → n ≡ length cs → ((i : ℕ) → i < n → HasNone d t cell (get_or cs i 0)) → (e : ℕ) → IsOneOf cs e → HasNone d t cell e
  none_of cell cs n end h e o = let lt = o.1 in subst (HasNone d t cell) o.2 (h o.0 (omega (arith, lt, end)))

  pub apart : (cell : ℕ) (cs : List ℕ) (ones : List Piece) (o : Piece) → TouchNone ones o.rect → IsPartner d t cell cs ones o → ⊥
  apart cell cs ones o none is = none is.one is.in_ones is.touching

  pub bare : (cell : ℕ) (cs : List ℕ) (ones : List Piece) (o : Piece) → ((e : ℕ) → IsOneOf cs e → HasNone d t cell e) → IsPartner d t cell cs ones o → ⊥
  bare cell cs ones o none is = none is.conductor is.listed is.net is.square.0 is.square.1

  pub no_partner : (cell : ℕ) (cs : List ℕ) (ones : List Piece) (from : ℕ) (o : Piece) (ls : List Piece) → (IsPartner d t cell cs ones o → ⊥) → AddsPartner d t cell cs ones from o ls ls
  no_partner cell cs ones from o ls none = record { kept = λ v h. h; each = λ v h. inl h; found = λ is. absurd (none is) }

  pub one_partner : (cell : ℕ) (cs : List ℕ) (ones : List Piece) (from : ℕ) (o : Piece) (ls : List Piece) → AddsPartner d t cell cs ones from o ls (ls ++ counted_from from o ∷ [])
  one_partner cell cs ones from o ls =
      let new = counted_from from o in
      record {
        kept = λ v h. among_left ls (new ∷ []) v h;
        each = λ v h. elim (among_either ls (new ∷ []) v h) [
          | inl a ↦ inl a
          | inr b ↦ elim b [ inl e ↦ inr e | inr none ↦ absurd none ]
        ];
        found = λ is. among_right ls (new ∷ []) new (inl refl);
      }

  pub no_pieces : (cell : ℕ) (cs : List ℕ) (ones : List Piece) (from : ℕ) (ps : List Piece) → ArePartnerPieces d t cell cs ones from (take 0 ps) []
  no_pieces cell cs ones from ps = record { each = λ v h. absurd h; found = λ o p h at is. absurd h }

  pub pieces_more : (cell : ℕ) (cs : List ℕ) (ones : List Piece) (from : ℕ) (ps : List Piece) (m : ℕ) (q : Place) (old new : List Piece) → m < length ps → slice_get (places_of d cell) (get_or ps m no_part).item ≡ Some q
      → ArePartnerPieces d t cell cs ones from (take m ps) old → AddsPartner d t q.cell cs ones from (get_or ps m no_part) old new → ArePartnerPieces d t cell cs ones from (take (m + 1) ps) new
  pieces_more cell cs ones from ps m q old new lt there h g =
      let l = get_or ps m no_part in
      let xs = take m ps in
      let now : ArePartnerPieces d t cell cs ones from (xs ++ l ∷ []) new = record {
        each = λ v k. elim (g.each v k) [
          | inl a ↦ let r = h.each v a in (r.0, among_left xs (l ∷ []) r.0 r.1, r.2)
          | inr e ↦ (l, among_right xs (l ∷ []) l (inl refl), e)
        ];
        found = λ o p k at is. elim (among_either xs (l ∷ []) o k) [
          | inl a ↦ g.kept (counted_from from o) (h.found o p a at is)
          | inr b ↦ elim b [
            | inl same ↦
                let here : slice_get (places_of d cell) l.item ≡ Some p = subst (λ (v : Piece). slice_get (places_of d cell) v.item ≡ Some p) same at in
                let place : p ≡ q = (let f : Some p ≡ Some q = sym here ∙ there in cc) in
                let there_too : IsPartner d t q.cell cs ones o = subst (λ (v : Place). IsPartner d t v.cell cs ones o) place is in
                subst (λ (v : Piece). IsAmong (counted_from from v) new) (sym same) (g.found (subst (λ (v : Piece). IsPartner d t q.cell cs ones v) same there_too))
            | inr none ↦ absurd none
          ]
        ];
      } in
      subst (λ (v : List Piece). ArePartnerPieces d t cell cs ones from v new) (sym (take_more ps m no_part lt)) now

  pub pieces_all : (cell : ℕ) (cs : List ℕ) (ones : List Piece) (from : ℕ) (ps : List Piece) (m : ℕ) (out : List Piece) → m ≡ length ps → ArePartnerPieces d t cell cs ones from (take m ps) out → ArePartnerPieces d t cell cs ones from ps out
  pieces_all cell cs ones from ps m out e h = subst (λ (v : List Piece). ArePartnerPieces d t cell cs ones from v out) (ap (λ i. take i ps) e ∙ take-length ps) h

-- ---- rectangles that touch none

pub none_touch_more : (ps : List Piece) (m : ℕ) (r : Rect) → m < length ps → TouchNone (take m ps) r → (AreTouching (get_or ps m no_part).rect r → ⊥) → TouchNone (take (m + 1) ps) r
none_touch_more ps m r lt h last o k = elim (among_either (take m ps) (get_or ps m no_part ∷ []) o (subst (λ (v : List Piece). IsAmong o v) (take_more ps m no_part lt) k)) [
  | inl a ↦ h o a
  | inr b ↦ elim b [ inl same ↦ subst (λ (v : Piece). AreTouching v.rect r → ⊥) (sym same) last | inr none ↦ absurd none ]
]

pub none_touch : (ps : List Piece) (m : ℕ) (r : Rect) → m ≡ length ps → TouchNone (take m ps) r → TouchNone ps r
none_touch ps m r e h = subst (λ (v : List Piece). TouchNone v r) (ap (λ i. take i ps) e ∙ take-length ps) h

-- ---- pairs of one conductor

near_back : (p q : Square) → IsNear p q → IsNear q p
near_back p q (inl e) = inl (sym e)
near_back p q (inr (inl (e, inl f))) = inr (inl (sym e, inr f))
near_back p q (inr (inl (e, inr f))) = inr (inl (sym e, inl f))
near_back p q (inr (inr (e, inl f))) = inr (inr (sym e, inr f))
near_back p q (inr (inr (e, inr f))) = inr (inr (sym e, inl f))

pairs_beside : (from places : ℕ) (ls : List Link) → ((i j : ℕ) → IsLinked ls i j → (((i < from) × (from ≤ j) × (j < from + places)) ⊎ ((j < from) × (from ≤ i) × (i < from + places)))) → ArePairsBeside from places ls
pairs_beside from places [] f = tt
pairs_beside from places (l ∷ ls) f = (f l.one l.other (inl (inl (refl, refl))), pairs_beside from places ls (λ i j m. f i j (inr m)))

pub no_own : (d : Design) (w : Wiring) (t : Tables) (cell from c : ℕ) (ls : List Link) → length (t.own cell c) ≡ 0 → AddsPartners d w t cell from c ls ls
no_own d w t cell from c ls none = record { kept = λ i j h. h; each = λ i j h. inl h; found = λ r k x s. let lt = s.from.1 in absurd (omega (arith, lt, none)) }

module _ (d : Design) (w : Wiring) (t : Tables) (cell from c : ℕ) (known : c < length w.conductors) (same : from ≡ owned_before t cell (length w.conductors))
    (ones spans partners : List Piece) (own : ones ≡ rect_pieces c (owned_before t cell c) (t.own cell c)) (are : AreSpanPieces d t cell (length (places_of d cell)) spans)
    (cs : List ℕ) (tied : (e : ℕ) → IsJoined w c e → IsOneOf cs e) (pieces : ArePartnerPieces d t cell cs ones from spans partners) (old new : List Link) (touching : AddsTouching ones partners old new) where
  in_touch_of : (i j : ℕ) → AreInTouch ones partners i j → (i < from) × (from ≤ j) × (j < from + length (places_of d cell))
  in_touch_of i j h =
      let first = owned_before t cell c in
      let at = at_among ones h.one h.in_ones in
      let here : slice_get (rect_pieces c first (t.own cell c)) at.0 ≡ Some h.one = subst (λ (l : List Piece). slice_get l at.0 ≡ Some h.one) own at.1 in
      let its = of_rect t cell c first (t.own cell c) 0 at.0 h.one here in
      let item = its.2 in
      let within = slice_get_within (t.own cell c) at.0 h.one.rect its.1 in
      let below = item_below w t cell c at.0 known within in
      let one = h.from in
      let o = pieces.each h.other h.in_others in
      let number : h.other.item ≡ o.0.item + from = ap (λ (p : Piece). p.item) o.2 in
      let f = are.each o.0 o.1 in
      let lt = slice_get_within (places_of d cell) o.0.item f.0 f.1 in
      let two = h.to in
      (omega (arith, item, below, one, same), omega (arith, number, two), omega (arith, number, two, lt))

  meet : (r k x : ℕ) → IsSquareLink d w t cell (Own c r) (Child k x) → IsLinked new (owned_before t cell c + r) (from + k)
  meet r k x s =
      let first = owned_before t cell c in
      let p = s.to.0 in
      let there = at_placed d cell k p s.to.1 in
      let rect = own_held d t cell c r s.one s.p s.held in
      let o : Piece = record { conductor = c; rect = rect.rect; item = first + r } in
      let at : slice_get ones r ≡ Some o = subst (λ (l : List Piece). slice_get l r ≡ Some o) (sym own) (rect_at c first (t.own cell c) r rect.rect rect.listed) in
      let held = square_below d t p x s.other s.q (child_held_at d t cell k x p (At s.other s.q) s.to.1 s.others) in
      let a = elim (are.found k p (slice_get_within (places_of d cell) k p there) there) as (λ _. (v : Piece) × IsAmong v spans × IsSpanPiece d t p k v) [ inl none ↦ absurd (none s.other x held.square held.holds) | inr v ↦ v ] in
      let number = a.2.item in
      let standing : slice_get (places_of d cell) a.0.item ≡ Some p = subst (λ i. slice_get (places_of d cell) i ≡ Some p) (sym number) there in
      let inside : IsIn s.q a.2.span = subst (λ v. IsIn v a.2.span) held.image (a.2.is.all s.other x held.square held.holds) in
      let near : IsNear s.q s.p = near_back s.p s.q s.near in
      let close : IsIn s.p (grown 1 a.2.span) = near_grown a.2.span s.q s.p inside near in
      let touch : AreTouching o.rect a.0.rect = record { one = s.p; other = s.p; in_one = rect.inside; in_other = subst (λ (v : Rect). IsIn s.p v) (sym a.2.rect) close; near = inl refl } in
      let is : IsPartner d t p.cell cs ones a.0 = record {
        one = o;
        in_ones = among_at ones r o at;
        touching = touch;
        conductor = s.other;
        listed = tied s.other (subst (λ i. IsJoined w i s.other) (sym rect.same) s.joined);
        net = x;
        square = (held.square, held.holds);
      } in
      let partner : IsAmong (counted_from from a.0) partners = pieces.found a.0 p a.1 standing is in
      let to : (counted_from from a.0).item ≡ from + k = omega (arith, number) in
      let in_touch : AreInTouch ones partners (first + r) (from + k) = record { one = o; other = counted_from from a.0; in_ones = among_at ones r o at; in_others = partner; touching = touch; from = refl; to = to } in
      let below = item_below w t cell c r s.from.0 s.from.1 in
      elim (touching.found (first + r) (from + k) in_touch) [ inl e ↦ absurd (let z : ⊥ = omega (arith, e, below, same) in z) | inr l ↦ l ]

  pub partners_added : AddsPartners d w t cell from c old new
  partners_added = record {
    kept = touching.kept;
    each = λ i j m. elim (touching.each i j m) [
      | inl a ↦ inl a
      | inr b ↦ inr (elim b [ inl h ↦ inl (in_touch_of i j h) | inr h ↦ inr (in_touch_of j i h) ])
    ];
    found = meet;
  }

-- ---- and of all

pub no_pairs : (d : Design) (w : Wiring) (t : Tables) (cell from : ℕ) → ArePartners d w t cell from 0 []
no_pairs d w t cell from = record { each = λ i j h. absurd h; found = λ c r k x lt s. absurd (omega (arith, lt)) }

pub pairs_more : (d : Design) (w : Wiring) (t : Tables) (cell from c : ℕ) (old new : List Link) → ArePartners d w t cell from c old → AddsPartners d w t cell from c old new → ArePartners d w t cell from (c + 1) new
pairs_more d w t cell from c old new h g = record {
  each = λ i j m. elim (g.each i j m) [ inl a ↦ h.each i j a | inr b ↦ b ];
  found = λ e r k x lt s. elim (ℕ_discrete e c) [
    | yes is ↦ subst (λ n. IsLinked new (owned_before t cell n + r) (from + k)) (sym is) (g.found r k x (subst (λ n. IsSquareLink d w t cell (Own n r) (Child k x)) is s))
    | no m ↦ g.kept (owned_before t cell e + r) (from + k) (h.found e r k x (omega (arith, lt, m)) s)
  ];
}

pub beside_of : (d : Design) (w : Wiring) (t : Tables) (cell from n : ℕ) (pairs : List Link) → ArePartners d w t cell from n pairs → ArePairsBeside from (length (places_of d cell)) pairs
beside_of d w t cell from n pairs h = pairs_beside from (length (places_of d cell)) pairs h.each
