-- Links of a rectangle that covers all squares of a placement's nets.
use Rattle.std.proofs.Common.{◌≡◌, ◌↔◌, inl, inr, ℕ, ◌+◌, ◌<◌, take, List, [], ◌∷◌, ◌++◌, Some, slice_get, get_or, length, refl, sym, ◌∙◌, ap, subst, arith}
use Rattle.std.proofs.Math.Seq.{take-length}
use Rattle.std.proofs.lemmas.List.{take_more}
use Rattle.std.proofs.lemmas.Option.{slice_get_within}
use Rattle.flat_laws.proofs.Items.{placed_at}
use Rattle.flat_layout.specs.Layout.{Design, IsPlaced}
use Rattle.flat_layout.specs.Nets.{Child, NetHolds, Own, Tables, items_of}
use Rattle.flat_layout.specs.Regions.{At}
use Rattle.geo_base.specs.Motions.{moved_square}
use Rattle.geo_base.specs.declared.shapes.Square.{Square}
use Rattle.link_classes.specs.declared.classes.Link.{Link}
use Rattle.net_link_laws.proofs.Assembling.{square_back}
use Rattle.net_link_laws.proofs.Held.{child_held_at, child_holds, conductor, own_held, own_holds, square_below}
use Rattle.net_link_laws.proofs.Standing.{child_place, own_place}
use Rattle.net_link_laws.specs.Found.{IsSquareLink}
use Rattle.touching_pieces.proofs.Chains.{one_of}
use Rattle.net_link_laws.specs.Places.{nets_before, owned_before, places_of}
use Rattle.net_walk.proofs.Seeing.{joined_last, joined_left, joined_split}
use Rattle.net_walk.proofs.Walking.{IsVisited, visited_next}
use Rattle.net_walk.specs.Held.{HasSquare, IsOneOf}
use Rattle.net_walk.specs.Pairs.{first_of}
use Rattle.net_walk.specs.Whole.{IsHeldLink, IsLineLink, IsListLink, IsWhereLink, IsWholeLink, WholeLaw}
use Rattle.touching_pieces.proofs.Links.{added_both, added_none, added_one, added_same}
use Rattle.touching_pieces.specs.Pairs.{AddsLinks, AreJoined, AreOne}
use Rattle.touching_pieces.specs.declared.conductors.Joined.{Joined}

pub whole : WholeLaw
whole d w t cell k o p joins old new right is there same hull h = record {
  kept = h.kept;
  each = λ i j m. elim (h.each i j m) [
    | inl a ↦ inl a
    | inr b ↦ inr (elim b [
      | inl r ↦ (Own o.conductor is.number, Child k r.3.1, own_at i r.3.0, child_at j r.3.1 r.0 r.3.2.0 r.3.2.1 r.3.3, square r.0 r.3.1 r.3.2.0 r.2 r.3.2.1)
      | inr r ↦ (
        Child k r.3.1,
        Own o.conductor is.number,
        child_at i r.3.1 r.0 r.3.2.0 r.3.2.1 r.3.3,
        own_at j r.3.0,
        square_back d w t cell (Own o.conductor is.number) (Child k r.3.1) (square r.0 r.3.1 r.3.2.0 r.2 r.3.2.1),
      )
    ])
  ];
  found = λ c r x e f s.
      let b = square_below d t p x s.other s.q (child_held_at d t cell k x p (At s.other s.q) placed s.others) in
      let own = own_held d t cell c r s.one s.p s.held in
      let joined : AreJoined joins o.conductor s.other = subst (λ a. AreJoined joins a s.other) (sym own.same ∙ sym e) ((same s.one s.other).1 s.joined) in
      let known = conductor d w t p.cell x s.other b.square (λ m u. right.nets k m p placed u) b.holds in
      let link : IsWholeLink d t joins o.item o.conductor p.cell (first_of d w t cell k) (length w.conductors) o.item (first_of d w t cell k + x) = (s.other, known, joined, (refl, x, (b.square, b.holds), refl)) in
      subst (λ i. AreOne new i (first_of d w t cell k + x)) f (one_of new o.item (first_of d w t cell k + x) (h.found o.item (first_of d w t cell k + x) link));
}
  where
    placed : IsPlaced d cell k p
    placed = placed_at d cell k p there

    below : (e x : ℕ) (q : Square) → NetHolds d t p.cell x (At e q) → x < (t.nets p.cell).count
    below e x q held = (right.nets k p.cell p placed ([], refl)).below held.index x held.is_of.numbered

    own_at : (i : ℕ) → o.item ≡ i → slice_get (items_of d w t cell) i ≡ Some (Own o.conductor is.number)
    own_at i e = subst (λ n. slice_get (items_of d w t cell) n ≡ Some (Own o.conductor is.number)) (is.place ∙ e) (own_place d w t cell o.conductor is.number is.known (slice_get_within (t.own cell o.conductor) is.number o.rect is.listed))

    child_at : (j x e : ℕ) (q : Square) → NetHolds d t p.cell x (At e q) → first_of d w t cell k + x ≡ j → slice_get (items_of d w t cell) j ≡ Some (Child k x)
    child_at j x e q held f =
        let z : owned_before t cell (length w.conductors) + (nets_before t (places_of d cell) k + x) ≡ first_of d w t cell k + x = omega arith in
        subst (λ n. slice_get (items_of d w t cell) n ≡ Some (Child k x)) (z ∙ f) (child_place d w t cell k x p there (below e x q held))

    square : (e x : ℕ) (q : Square) → AreJoined joins o.conductor e → NetHolds d t p.cell x (At e q) → IsSquareLink d w t cell (Own o.conductor is.number) (Child k x)
    square e x q joined held = record {
      from = (is.known, slice_get_within (t.own cell o.conductor) is.number o.rect is.listed);
      to = (p, placed, below e x q held);
      one = o.conductor;
      other = e;
      p = moved_square p.motion q;
      q = moved_square p.motion q;
      held = own_holds d t cell o.conductor is.number o.rect (moved_square p.motion q) is.listed (hull e x q held);
      others = child_holds d t cell k x p (At e q) (At e (moved_square p.motion q)) placed held refl;
      joined = (same o.conductor e).0 joined;
      near = inl refl;
    }

-- ---- links to the numbers of a list

abbrev pub IsFirstLink : ℕ → List ℕ → ℕ → ℕ → ℕ → ℕ → Type 0
IsFirstLink item nets n at i j = (item ≡ i) × (x : ℕ) × IsVisited nets n x × (at + x ≡ j)

pub no_first : (item : ℕ) (nets : List ℕ) (at : ℕ) (ls : List Link) → AddsLinks (IsFirstLink item nets 0 at) ls ls
no_first item nets at ls = added_none (IsFirstLink item nets 0 at) ls (λ i j h. let lt = h.2.1 in absurd (omega (arith, lt)))

pub first_more : (item : ℕ) (nets : List ℕ) (n at : ℕ) (old mid : List Link) → AddsLinks (IsFirstLink item nets n at) old mid
    → AddsLinks (IsFirstLink item nets (n + 1) at) old (mid ++ record { one = item; other = at + get_or nets n 0 } ∷ [])
first_more item nets n at old mid h =
    let b = get_or nets n 0 in
    let new = mid ++ record { one = item; other = at + b } ∷ [] in
    let S : ℕ → ℕ → Type 0 = λ i j. (item ≡ i) × (at + b ≡ j) in
    let next = visited_next nets n b refl in
    let g : AddsLinks S mid new = added_one S mid item (at + b) (refl, refl) (λ i j e. e) in
    added_both (IsFirstLink item nets n at) S (IsFirstLink item nets (n + 1) at) old mid new h g
    (λ i j r. (r.0, r.1, next.grows r.1 r.2, r.3))
    (λ i j s. (s.0, b, next.here, s.1))
    (λ i j r. elim (next.splits r.1 r.2) [ inl a ↦ inl (r.0, r.1, a, r.3) | inr e ↦ inr (r.0, ap (λ k. at + k) (sym e) ∙ r.3) ])

pub first_all : (item : ℕ) (nets : List ℕ) (n at : ℕ) (old new : List Link) → n ≡ length nets → AddsLinks (IsFirstLink item nets n at) old new → AddsLinks (IsListLink item nets at) old new
first_all item nets n at old new e h = subst (λ k. AddsLinks (IsFirstLink item nets k at) old new) e h

pub list_held : (d : Design) (t : Tables) (item cell c at : ℕ) (nets : List ℕ) (old new : List Link) → ((x : ℕ) → IsOneOf nets x ↔ HasSquare d t cell c x) → AddsLinks (IsListLink item nets at) old new → AddsLinks (IsHeldLink d t item cell c at) old new
list_held d t item cell c at nets old new is h =
    added_same (IsListLink item nets at) (IsHeldLink d t item cell c at) old new h
    (λ i j. ((λ r. (r.0, r.1, (is r.1).0 r.2, r.3)), (λ r. (r.0, r.1, (is r.1).1 r.2, r.3))))

-- ---- line after line
module _ (d : Design) (t : Tables) (item c cell at : ℕ) where
  pub where_linked : (one other n : ℕ) (old new : List Link) → one ≡ c → other < n → AddsLinks (IsHeldLink d t item cell other at) old new → AddsLinks (IsWhereLink d t item one c other cell at n) old new
  where_linked one other n old new e lt h = added_same (IsHeldLink d t item cell other at) (IsWhereLink d t item one c other cell at n) old new h (λ i j. ((λ r. (e, lt, r)), (λ r. r.2)))

  pub where_apart : (one other n : ℕ) (ls : List Link) → (one ≡ c → ⊥) → AddsLinks (IsWhereLink d t item one c other cell at n) ls ls
  where_apart one other n ls not = added_none (IsWhereLink d t item one c other cell at n) ls (λ i j h. absurd (not h.0))

  pub where_none : (one other n : ℕ) (ls : List Link) → (other < n → ⊥) → AddsLinks (IsWhereLink d t item one c other cell at n) ls ls
  where_none one other n ls not = added_none (IsWhereLink d t item one c other cell at n) ls (λ i j h. absurd (not h.1))

  pub line_linked : (l : Joined) (n : ℕ) (old mid new : List Link) → AddsLinks (IsWhereLink d t item l.first c l.second cell at n) old mid → AddsLinks (IsWhereLink d t item l.second c l.first cell at n) mid new
      → AddsLinks (IsLineLink d t l item c cell at n) old new
  line_linked l n old mid new h g =
      added_both (IsWhereLink d t item l.first c l.second cell at n) (IsWhereLink d t item l.second c l.first cell at n) (IsLineLink d t l item c cell at n) old mid new h g
      (λ i j r. (l.second, r.1, inl (r.0, refl), r.2))
      (λ i j s. (l.first, s.1, inr (refl, s.0), s.2))
      (λ i j r. elim r.2 [
        | inl e ↦ inl (e.0, subst (λ m. m < n) (sym e.1) r.1, subst (λ m. IsHeldLink d t item cell m at i j) (sym e.1) r.3)
        | inr e ↦ inr (e.1, subst (λ m. m < n) (sym e.0) r.1, subst (λ m. IsHeldLink d t item cell m at i j) (sym e.0) r.3)
      ])

  pub itself_linked : (n : ℕ) (old new : List Link) → AddsLinks (IsWhereLink d t item c c c cell at n) old new → AddsLinks (IsWholeLink d t [] item c cell at n) old new
  itself_linked n old new h =
      added_same (IsWhereLink d t item c c c cell at n) (IsWholeLink d t [] item c cell at n) old new h
      (λ i j. (
        (λ r. (c, r.1, inl refl, r.2)),
        (λ r. elim r.2 [
          | inl e ↦ (refl, subst (λ m. m < n) (sym e) r.1, subst (λ m. IsHeldLink d t item cell m at i j) (sym e) r.3)
          | inr m ↦ absurd m
        ]),
      ))

  pub line_more : (ls : List Joined) (m : ℕ) (nil : Joined) (n : ℕ) (old mid new : List Link) → m < length ls → AddsLinks (IsWholeLink d t (take m ls) item c cell at n) old mid
      → AddsLinks (IsLineLink d t (get_or ls m nil) item c cell at n) mid new → AddsLinks (IsWholeLink d t (take (m + 1) ls) item c cell at n) old new
  line_more ls m nil n old mid new lt h g =
      let xs = take m ls in
      let l = get_or ls m nil in
      let now : AddsLinks (IsWholeLink d t (xs ++ l ∷ []) item c cell at n) old new = added_both (IsWholeLink d t xs item c cell at n) (IsLineLink d t l item c cell at n) (IsWholeLink d t (xs ++ l ∷ []) item c cell at n) old mid new h g
      (λ i j r. (r.0, r.1, joined_left xs l c r.0 r.2, r.3))
      (λ i j s. (s.0, s.1, joined_last xs l c s.0 s.2, s.3))
      (λ i j r. elim (joined_split xs l c r.0 r.2) [ inl a ↦ inl (r.0, r.1, a, r.3) | inr b ↦ inr (r.0, r.1, b, r.3) ]) in
      subst (λ (v : List Joined). AddsLinks (IsWholeLink d t v item c cell at n) old new) (sym (take_more ls m nil lt)) now

  pub lines_all : (ls : List Joined) (m n : ℕ) (old new : List Link) → m ≡ length ls → AddsLinks (IsWholeLink d t (take m ls) item c cell at n) old new → AddsLinks (IsWholeLink d t ls item c cell at n) old new
  lines_all ls m n old new e h = subst (λ (v : List Joined). AddsLinks (IsWholeLink d t v item c cell at n) old new) (ap (λ x. take x ls) e ∙ take-length ls) h
