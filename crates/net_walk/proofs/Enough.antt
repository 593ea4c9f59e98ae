-- Links of placements that lead, and of those that stand alike to these, are links of all.
use Rattle.std.proofs.Common.{◌≡◌, ◌==◌, inl, inr, ℕ, ◌+◌, ◌<◌, List, [], Some, slice_get, get_or, length, map, refl, sym, ◌∙◌, ap, subst, arith}
use Rattle.std.specs.List.{filter}
use Rattle.std.proofs.Math.Decide.{ℕ_discrete}
use Rattle.std.proofs.lemmas.Bool.{eq-eqb}
use Rattle.std.proofs.lemmas.Option.{slice_get-map, slice_get_within}
use Rattle.std.specs.Prelude.{option_map}
use Rattle.flat_laws.proofs.Items.{at_placed, placed_at}
use Rattle.flat_layout.specs.Layout.{Design, Place}
use Rattle.flat_layout.specs.Nets.{Child, Tables}
use Rattle.flat_layout.specs.Regions.{Wiring}
use Rattle.link_classes.specs.Classes.{AreInRange, IsLinked}
use Rattle.link_classes.specs.declared.classes.Link.{Link}
use Rattle.net_link_laws.proofs.Assembling.{square_back}
use Rattle.net_link_laws.proofs.Looking.{contact_links}
use Rattle.net_link_laws.specs.Found.{IsSquareLink}
use Rattle.net_link_laws.specs.Places.{places_of}
use Rattle.net_link_laws.specs.Windows.{AreInContact}
use Rattle.net_walk.proofs.Spanning.{HasPiece, in_range, meet}
use Rattle.net_walk.proofs.Walking.{as_long}
use Rattle.net_walk.specs.Leaders.{AreLeaders, IsFollower}
use Rattle.net_walk.specs.Pairs.{AddsChildren, AddsPairs, AreEnoughPairs, AreSpanPieces, first_of}
use Rattle.net_walk.specs.Walk.{place_of}
use Rattle.net_walk.specs.declared.cells.Element.{Element}
use Rattle.touching_pieces.proofs.Chains.{one_back, one_by, one_of}
use Rattle.touching_pieces.proofs.Links.{among_of, among_to}
use Rattle.touching_pieces.specs.Pairs.{AddsLinks, AddsTouching, AreInTouch, AreOne, IsAmong}
use Rattle.touching_pieces.specs.declared.pieces.Piece.{Piece}

-- the pieces of placements that lead themselves
abbrev pub leading_of : List ℕ → List Piece → List Piece
leading_of ls all = filter (λ p. get_or ls p.item 0 == p.item) all

-- the first contact's nets touch themselves
alone : (d : Design) (w : Wiring) (t : Tables) (p q : Place) (x y : ℕ) → AreInContact d w t p q x y → AreInContact d w t p p x x
alone d w t p q x y m = record { c = m.c; e = m.c; joined = inl refl; m = m.m; n = m.m; held = m.held; others = m.held; near = inl refl }

alone_too : (d : Design) (w : Wiring) (t : Tables) (p q : Place) (x y : ℕ) → AreInContact d w t p q x y → AreInContact d w t q q y y
alone_too d w t p q x y m = record { c = m.e; e = m.e; joined = inl refl; m = m.n; n = m.n; held = m.others; others = m.others; near = inl refl }

module _ (d : Design) (w : Wiring) (t : Tables) (cell : ℕ) (es : List Element) (ls : List ℕ) (all : List Piece) (touching led : List Link) (all_es : map place_of es ≡ places_of d cell) (leaders : AreLeaders es (length es) ls)
    (spans : AreSpanPieces d t cell (length (places_of d cell)) all) (touch : AddsTouching (leading_of ls all) (leading_of ls all) [] touching) (follow : AddsLinks (IsFollower ls (length ls)) touching led) where
  lead : ℕ → ℕ
  lead k = get_or ls k 0

  -- a placement among the elements
  within : (k : ℕ) (p : Place) → slice_get (places_of d cell) k ≡ Some p → k < length es
  within k p at = let lt = slice_get_within (places_of d cell) k p at in let long = as_long es (places_of d cell) all_es in omega (arith, lt, long)

  -- what leads it stands there too
  at_lead : (k : ℕ) (p : Place) → slice_get (places_of d cell) k ≡ Some p → slice_get (places_of d cell) (lead k) ≡ Some p
  unfolding lead
  at_lead k p at =
      let h = leaders.each k (within k p at) in
      let read : (i : ℕ) → slice_get (places_of d cell) i ≡ option_map place_of (slice_get es i) = λ i. ap (λ (l : List Place). slice_get l i) (sym all_es) ∙ slice_get-map place_of es i in
      read (get_or ls k 0) ∙ ap (option_map place_of) h.alike ∙ sym (read k) ∙ at

  -- a link of squares by a contact
  linked : (k x l y : ℕ) (p q : Place) → slice_get (places_of d cell) k ≡ Some p → slice_get (places_of d cell) l ≡ Some q → x < (t.nets p.cell).count → y < (t.nets q.cell).count → AreInContact d w t p q x y → IsSquareLink d w t cell (Child k x) (Child l y)
  linked k x l y p q at at_too lt lt_too m =
      let placed = placed_at d cell k p at in let placed_too = placed_at d cell l q at_too in
      (contact_links d w t cell k x l y p q placed placed_too (p, placed, lt) (q, placed_too, lt_too)).1 m

  -- the piece of what leads a placement
  piece : (k : ℕ) (p : Place) → slice_get (places_of d cell) k ≡ Some p → HasPiece d t p (lead k) (leading_of ls all)
  unfolding lead
  piece k p at =
      let l = get_or ls k 0 in
      let there : slice_get (places_of d cell) l ≡ Some p = at_lead k p at in
      elim (spans.found l p (slice_get_within (places_of d cell) l p there) there) [
        | inl none ↦ inl none
        | inr o ↦
            let e : get_or ls o.0.item 0 ≡ o.0.item = subst (λ i. get_or ls i 0 ≡ i) (sym o.2.item) (leaders.each k (within k p at)).leads in
            inr (o.0, among_to (λ (r : Piece). get_or ls r.item 0 == r.item) all o.0 o.1 (eq-eqb (get_or ls o.0.item 0) o.0.item e), o.2)
      ]

  -- pairs are of placements
  touching_range : (i j : ℕ) → AreInTouch (leading_of ls all) (leading_of ls all) i j → (i < length (places_of d cell)) × (j < length (places_of d cell))
  touching_range i j h = (of_piece h.one i h.in_ones h.from, of_piece h.other j h.in_others h.to)
    where
      of_piece : (o : Piece) (k : ℕ) → IsAmong o (leading_of ls all) → o.item ≡ k → k < length (places_of d cell)
      of_piece o k m e =
          let f = spans.each o (among_of (λ (r : Piece). get_or ls r.item 0 == r.item) all o m).0 in
          subst (λ i. i < length (places_of d cell)) e (slice_get_within (places_of d cell) o.item f.0 f.1)

  follower_range : (i j : ℕ) → IsFollower ls (length ls) i j → (i < length (places_of d cell)) × (j < length (places_of d cell))
  follower_range i j h =
      let long = as_long es (places_of d cell) all_es in let many = leaders.long in
      let lt = h.0 in
      let under : j < length es = omega (arith, lt, many) in
      let known = (leaders.each j under).known in let e = h.1 in
      (omega (arith, long, many, known, e), omega (arith, long, under))

  led_at : (i j : ℕ) → IsLinked led i j → (i < length (places_of d cell)) × (j < length (places_of d cell))
  led_at i j h = elim (follow.each i j h) [
    | inl a ↦ elim (touch.each i j a) [
      | inl z ↦ absurd z
      | inr b ↦ elim b [ inl c ↦ touching_range i j c | inr c ↦ let r = touching_range j i c in (r.1, r.0) ]
    ]
    | inr b ↦ elim b [ inl c ↦ follower_range i j c | inr c ↦ let r = follower_range j i c in (r.1, r.0) ]
  ]

  pub led_range : AreInRange (length (places_of d cell)) led
  led_range = in_range (length (places_of d cell)) led led_at

  module _ (pairs : List Link) (once : AddsLinks (IsLinked led) [] pairs) (old new : List Link) (adds : AddsPairs d w t cell pairs old new) where
    -- a pair that is linked among all is one of the pairs
    kept : (i j : ℕ) → (i ≡ j → ⊥) → IsLinked led i j → IsLinked pairs i j
    kept i j not h = elim (once.found i j h) [ inl e ↦ absurd (not e) | inr m ↦ m ]

    -- a placement and what leads it
    led_pair : (k : ℕ) (p : Place) → slice_get (places_of d cell) k ≡ Some p → (lead k ≡ k → ⊥) → IsLinked pairs (lead k) k
    unfolding lead
    led_pair k p at not =
        let lt = within k p at in let long = leaders.long in
        kept (get_or ls k 0) k not (elim (follow.found (get_or ls k 0) k (omega (arith, lt, long), refl)) [ inl e ↦ absurd (not e) | inr m ↦ m ])

    place : ℕ → ℕ → ℕ
    place k x = first_of d w t cell k + x

    -- a net of a placement and that of what leads it
    to_lead : (k x : ℕ) (p : Place) → slice_get (places_of d cell) k ≡ Some p → x < (t.nets p.cell).count → AreInContact d w t p p x x → AreOne new (place (lead k) x) (place k x)
    unfolding place
    to_lead k x p at lt m = elim (ℕ_discrete (lead k) k) [
      | yes e ↦ one_of new (first_of d w t cell (lead k) + x) (first_of d w t cell k + x) (inl (ap (λ i. first_of d w t cell i + x) e))
      | no not ↦ adds.found (lead k) k x x (led_pair k p at not) (linked (lead k) x k x p p (at_lead k p at) at lt lt m)
    ]

    -- of two that one placement leads
    both_led : (k x l y : ℕ) (p q : Place) → slice_get (places_of d cell) k ≡ Some p → slice_get (places_of d cell) l ≡ Some q → x < (t.nets p.cell).count → y < (t.nets q.cell).count → AreInContact d w t p q x y → (k ≡ l → ⊥) → lead k ≡ lead l → AreOne new (place k x) (place l y)
    unfolding place
    both_led k x l y p q at at_too lt lt_too m apart e = elim (ℕ_discrete (lead l) l) [
      | no not ↦
          let there : slice_get (places_of d cell) (lead l) ≡ Some p = subst (λ i. slice_get (places_of d cell) i ≡ Some p) e (at_lead k p at) in
          let up : AreOne new (first_of d w t cell (lead l) + x) (first_of d w t cell k + x) = subst (λ i. AreOne new (first_of d w t cell i + x) (first_of d w t cell k + x)) e (to_lead k x p at lt (alone d w t p q x y m)) in
          one_by new (first_of d w t cell k + x) (first_of d w t cell (lead l) + x) (first_of d w t cell l + y) (one_back new (first_of d w t cell (lead l) + x) (first_of d w t cell k + x) up)
          (adds.found (lead l) l x y (led_pair l q at_too not) (linked (lead l) x l y p q there at_too lt lt_too m))
      | yes s ↦
          let up : lead k ≡ l = e ∙ s in
          let pair : IsLinked pairs l k = subst (λ i. IsLinked pairs i k) up (led_pair k p at (λ f. apart (sym f ∙ up))) in
          one_back new (first_of d w t cell l + y) (first_of d w t cell k + x) (adds.found l k y x pair (square_back d w t cell (Child k x) (Child l y) (linked k x l y p q at at_too lt lt_too m)))
    ]

    -- of two that different ones lead
    apart_led : (k x l y : ℕ) (p q : Place) → slice_get (places_of d cell) k ≡ Some p → slice_get (places_of d cell) l ≡ Some q → x < (t.nets p.cell).count → y < (t.nets q.cell).count → AreInContact d w t p q x y → (lead k ≡ lead l → ⊥) → AreOne new (place k x) (place l y)
    unfolding place
    apart_led k x l y p q at at_too lt lt_too m not =
        let pair = kept (lead k) (lead l) not (follow.kept (lead k) (lead l) (meet d w t cell p q (leading_of ls all) touching touch (lead k) (lead l) x y not (piece k p at) (piece l q at_too) m)) in
        let across = adds.found (lead k) (lead l) x y pair (linked (lead k) x (lead l) y p q (at_lead k p at) (at_lead l q at_too) lt lt_too m) in
        let up = one_back new (first_of d w t cell (lead k) + x) (first_of d w t cell k + x) (to_lead k x p at lt (alone d w t p q x y m)) in
        let down = to_lead l y q at_too lt_too (alone_too d w t p q x y m) in
        one_by new (first_of d w t cell k + x) (first_of d w t cell (lead k) + x) (first_of d w t cell l + y) up
        (one_by new (first_of d w t cell (lead k) + x) (first_of d w t cell (lead l) + y) (first_of d w t cell l + y) across down)

    children : AddsChildren d w t cell old new
    unfolding place
    children = record {
      kept = adds.kept;
      each = adds.each;
      found = λ k l x y apart s.
          let p = s.from.0 in let q = s.to.0 in
          let at = at_placed d cell k p s.from.1 in let at_too = at_placed d cell l q s.to.1 in
          let m = (contact_links d w t cell k x l y p q s.from.1 s.to.1 s.from s.to).0 s in
          elim (ℕ_discrete (lead k) (lead l)) [
            | yes e ↦ both_led k x l y p q at at_too s.from.2 s.to.2 m apart e
            | no not ↦ apart_led k x l y p q at at_too s.from.2 s.to.2 m not
          ];
    }

  pair_at : (pairs : List Link) → AddsLinks (IsLinked led) [] pairs → (i j : ℕ) → IsLinked pairs i j → (i < length (places_of d cell)) × (j < length (places_of d cell))
  pair_at pairs once i j h = elim (once.each i j h) [
    | inl z ↦ absurd z
    | inr b ↦ elim b [ inl c ↦ led_at i j c | inr c ↦ let r = led_at j i c in (r.1, r.0) ]
  ]

  pub enough : (pairs : List Link) → AddsLinks (IsLinked led) [] pairs → AreEnoughPairs d w t cell pairs
  enough pairs once = record { range = in_range (length (places_of d cell)) pairs (pair_at pairs once); all = children pairs once }
