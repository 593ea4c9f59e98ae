-- Own rectangles and placements that may touch.
use Rattle.std.proofs.Common.{◌≡◌, ◌⊎◌, inl, inr, ℕ, zero, suc, ◌+◌, ◌-◌, ◌<◌, ◌≤◌, min, max, List, [], ◌∷◌, ◌++◌, Some, slice_get, get_or, length, take, refl, sym, ◌∙◌, ap, subst, arith}
use Rattle.std.proofs.Math.Seq.{take-length}
use Rattle.std.proofs.lemmas.List.{take_more}
use Rattle.std.proofs.lemmas.Option.{slice_get-get_or}
use Rattle.flat_layout.specs.Layout.{Design}
use Rattle.flat_layout.specs.Nets.{Own, Child, Tables}
use Rattle.flat_layout.specs.Regions.{Wiring}
use Rattle.link_classes.specs.Classes.{IsLinked, IsOf}
use Rattle.link_classes.specs.declared.classes.Link.{Link}
use Rattle.net_link_laws.proofs.Held.{own_held}
use Rattle.net_link_laws.specs.Found.{IsSquareLink}
use Rattle.touching_pieces.proofs.Chains.{one_on}
use Rattle.touching_pieces.specs.Pairs.{AreOne}
use Rattle.net_link_laws.specs.Places.{owned_before}
use Rattle.net_walk.proofs.Adding.{nowhere}
use Rattle.net_walk.proofs.Pairing.{linked_left, linked_right, linked_either}
use Rattle.net_walk.proofs.Placing.{among_at, piece_at, pieces_long}
use Rattle.net_walk.proofs.Spanning.{linked_cut}
use Rattle.net_walk.proofs.Walking.{owned_step}
use Rattle.net_walk.specs.Beside.{AddsBeside, AddsPairsBeside, AddsPieceBeside, AreBesideLinks, ArePairsBeside, IsPairBeside}
use Rattle.net_walk.specs.Owned.{IsOwnPiece, owned_pieces}
use Rattle.net_walk.specs.Pairs.{first_of}
use Rattle.touching_pieces.specs.Pairs.{IsAmong}
use Rattle.touching_pieces.specs.declared.pieces.Piece.{Piece}

abbrev pub no_part : Piece
no_part = record { conductor = 0; rect = nowhere; item = 0 }

pub piece_among : (ps : List Piece) (k : ℕ) → k < length ps → IsAmong (get_or ps k no_part) ps
piece_among ps k lt = among_at ps k (get_or ps k no_part) (slice_get-get_or ps k no_part lt)

-- of one piece

pub piece_added : (d : Design) (w : Wiring) (t : Tables) (cell n : ℕ) (o : Piece) (k : ℕ) (old links : List Link) → (is : IsOwnPiece t cell n o) → AreBesideLinks d w t cell o.conductor is.number k links → AddsPieceBeside d w t cell o k old (old ++ links)
piece_added d w t cell n o k old links is h = record {
  kept = linked_left old links;
  each = λ i j g. elim (linked_either old links i j g) [ inl a ↦ inl a | inr b ↦ inr (h.each i j b) ];
  found = λ c r x e f s.
      let at = is.place in
      let first = ap (owned_before t cell) e in
      let same : is.number ≡ r = omega (arith, at, first, f) in
      let link : IsSquareLink d w t cell (Own o.conductor is.number) (Child k x) = subst (λ i. IsSquareLink d w t cell (Own i is.number) (Child k x)) (sym e) (subst (λ i. IsSquareLink d w t cell (Own c i) (Child k x)) (sym same) s) in
      let one = one_on links (old ++ links) (linked_right old links) (owned_before t cell o.conductor + is.number) (first_of d w t cell k + x) (h.found x link) in
      let place : owned_before t cell o.conductor + is.number ≡ owned_before t cell c + r = omega (arith, at, f) in
      subst (λ i. AreOne (old ++ links) i (first_of d w t cell k + x)) place one;
}

-- of a pair

pub pair_numbers : (from places one other : ℕ) → (((one < from) × (from ≤ other) × (other < from + places)) ⊎ ((other < from) × (from ≤ one) × (one < from + places)))
    → (min one other < from) × (from ≤ max one other) × (max one other < from + places)
pair_numbers from places one other (inl h) = let a = h.0 in let b = h.1 in let c = h.2 in (omega arith, omega arith, omega arith)
pair_numbers from places one other (inr h) = let a = h.0 in let b = h.1 in let c = h.2 in (omega arith, omega arith, omega arith)

pair_is : (one other i j from : ℕ) → i < from → from ≤ j → (((one ≡ i) × (other ≡ j)) ⊎ ((one ≡ j) × (other ≡ i))) → (min one other ≡ i) × (max one other ≡ j)
pair_is one other i j from lt le (inl h) = let a = h.0 in let b = h.1 in (omega (arith, a, b), omega (arith, a, b))
pair_is one other i j from lt le (inr h) = let a = h.0 in let b = h.1 in (omega (arith, a, b), omega (arith, a, b))

-- the place of a rectangle's item lies among those of all
pub item_below : (w : Wiring) (t : Tables) (cell c r : ℕ) → c < length w.conductors → r < length (t.own cell c) → owned_before t cell c + r < owned_before t cell (length w.conductors)
item_below w t cell c r known lt = let h = owned_step t cell c (length w.conductors) known in omega (arith, h)

pub one_pair : (d : Design) (w : Wiring) (t : Tables) (cell places : ℕ) (pieces : List Piece) (pair : Link) (old new : List Link) → pieces ≡ owned_pieces t cell (length w.conductors) → IsPairBeside (length pieces) places pair
    → AddsPieceBeside d w t cell (get_or pieces (min pair.one pair.other) no_part) (max pair.one pair.other - length pieces) old new → AddsPairsBeside d w t cell (length pieces) (pair ∷ []) old new
one_pair d w t cell places pieces pair old new e is h = record {
  kept = h.kept;
  each = h.each;
  found = λ c r k x m s. elim m [ inl a ↦ to_find c r k x a s | inr none ↦ absurd none ];
}
  where
    to_find : (c r k x : ℕ) → IsOf pair (owned_before t cell c + r) (length pieces + k) → IsSquareLink d w t cell (Own c r) (Child k x) → AreOne new (owned_before t cell c + r) (first_of d w t cell k + x)
    to_find c r k x of s =
        let n = length w.conductors in
        let from = length pieces in
        let item = min pair.one pair.other in
        let number = max pair.one pair.other - from in
        let o = get_or pieces item no_part in
        let long : from ≡ owned_before t cell n = ap (λ (l : List Piece). length l) e ∙ pieces_long t cell n in
        let below = item_below w t cell c r s.from.0 s.from.1 in
        let lt : owned_before t cell c + r < from = omega (arith, below, long) in
        let le : from ≤ from + k = omega arith in
        let both = pair_is pair.one pair.other (owned_before t cell c + r) (from + k) from lt le of in
        let a = both.0 in
        let b = both.1 in
        let num : number ≡ k = omega (arith, b) in
        let within : item < from = omega (arith, a, lt) in
        let there : slice_get (owned_pieces t cell n) item ≡ Some o = subst (λ (l : List Piece). slice_get l item ≡ Some o) e (slice_get-get_or pieces item no_part within) in
        let rect = own_held d t cell c r s.one s.p s.held in
        let at = piece_at t cell n c r rect.rect s.from.0 rect.listed in
        let p : Piece = record { conductor = c; rect = rect.rect; item = owned_before t cell c + r } in
        let here : slice_get (owned_pieces t cell n) item ≡ Some p = subst (λ i. slice_get (owned_pieces t cell n) i ≡ Some p) (sym a) at in
        let same : o ≡ p = (let f : Some o ≡ Some p = sym there ∙ here in cc) in
        let g : AddsPieceBeside d w t cell p k old new = subst (λ (v : Piece). AddsPieceBeside d w t cell v k old new) same (subst (λ i. AddsPieceBeside d w t cell o i old new) num h) in
        g.found c r x refl refl s

pub some_pair : (d : Design) (w : Wiring) (t : Tables) (cell places item number : ℕ) (pieces : List Piece) (pair : Link) (old new : List Link) → pieces ≡ owned_pieces t cell (length w.conductors) → IsPairBeside (length pieces) places pair
    → item ≡ min pair.one pair.other → number ≡ max pair.one pair.other - length pieces → AddsPieceBeside d w t cell (get_or pieces item no_part) number old new → AddsPairsBeside d w t cell (length pieces) (pair ∷ []) old new
some_pair d w t cell places item number pieces pair old new e is a b h =
    one_pair d w t cell places pieces pair old new e is (subst (λ i. AddsPieceBeside d w t cell (get_or pieces i no_part) (max pair.one pair.other - length pieces) old new) a (subst (λ i. AddsPieceBeside d w t cell (get_or pieces item no_part) i old new) b h))

-- of all pairs

pub no_beside : (d : Design) (w : Wiring) (t : Tables) (cell from : ℕ) (ls : List Link) → AddsPairsBeside d w t cell from [] ls ls
no_beside d w t cell from ls = record { kept = λ i j h. h; each = λ i j h. inl h; found = λ c r k x h s. absurd h }

pub beside_more : (d : Design) (w : Wiring) (t : Tables) (cell from : ℕ) (pairs : List Link) (n : ℕ) (o : Link) (old mid new : List Link) → n < length pairs → AddsPairsBeside d w t cell from (take n pairs) old mid
    → AddsPairsBeside d w t cell from (get_or pairs n o ∷ []) mid new → AddsPairsBeside d w t cell from (take (n + 1) pairs) old new
beside_more d w t cell from pairs n o old mid new lt h g =
    let pair = get_or pairs n o in
    let ls = take n pairs in
    let now : AddsPairsBeside d w t cell from (ls ++ pair ∷ []) old new = record {
      kept = λ i j k. g.kept i j (h.kept i j k);
      each = λ i j k. elim (g.each i j k) [ inl a ↦ h.each i j a | inr b ↦ inr b ];
      found = λ c r k x m s. elim (linked_cut ls pair (owned_before t cell c + r) (from + k) m) [
        | inl a ↦ one_on mid new g.kept (owned_before t cell c + r) (first_of d w t cell k + x) (h.found c r k x a s)
        | inr b ↦ g.found c r k x (inl b) s
      ];
    } in
    subst (λ (l : List Link). AddsPairsBeside d w t cell from l old new) (sym (take_more pairs n o lt)) now

pub beside_all : (d : Design) (w : Wiring) (t : Tables) (cell from : ℕ) (pairs : List Link) (k : ℕ) (old new : List Link) → k ≡ length pairs → AddsPairsBeside d w t cell from (take k pairs) old new → AddsPairsBeside d w t cell from pairs old new
beside_all d w t cell from pairs k old new e h = subst (λ (l : List Link). AddsPairsBeside d w t cell from l old new) (ap (λ i. take i pairs) e ∙ take-length pairs) h

pub pair_beside_at : (from places : ℕ) (ls : List Link) (k : ℕ) (o : Link) → ArePairsBeside from places ls → k < length ls → IsPairBeside from places (get_or ls k o)
pair_beside_at from places [] k o h lt = absurd (omega arith)
pair_beside_at from places (l ∷ ls) zero o h lt = h.0
pair_beside_at from places (l ∷ ls) (suc k) o h lt = pair_beside_at from places ls k o h.1 (omega arith)

pub whole_beside : (d : Design) (w : Wiring) (t : Tables) (cell from : ℕ) (pairs old new : List Link) → ((c r k x : ℕ) → c < length w.conductors → IsSquareLink d w t cell (Own c r) (Child k x) → IsLinked pairs (owned_before t cell c + r) (from + k))
    → AddsPairsBeside d w t cell from pairs old new → AddsBeside d w t cell old new
whole_beside d w t cell from pairs old new found h = record { kept = h.kept; each = h.each; found = λ c r k x s. h.found c r k x (found c r k x s.from.0 s) s }
