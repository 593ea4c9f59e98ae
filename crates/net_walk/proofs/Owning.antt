-- A cell's own rectangles as pieces.
use Rattle.std.proofs.Common.{◌≡◌, ◌↔◌, inl, inr, ℕ, zero, suc, ◌+◌, ◌<◌, List, [], ◌∷◌, ◌++◌, Some, slice_get, get_or, length, refl, sym, ◌∙◌, ap, subst, arith}
use Rattle.std.proofs.Math.Decide.{ℕ_discrete}
use Rattle.std.proofs.lemmas.Option.{slice_get_within, slice_get-get_or}
use Rattle.flat_layout.specs.Layout.{Design}
use Rattle.flat_layout.specs.Nets.{Own, Tables, items_of}
use Rattle.flat_layout.specs.Plane.{IsIn}
use Rattle.flat_layout.specs.Regions.{Wiring, IsJoined}
use Rattle.geo_base.specs.Rects.{IsRect}
use Rattle.geo_base.specs.declared.shapes.Rect.{Rect}
use Rattle.link_classes.specs.declared.classes.Link.{Link}
use Rattle.net_link_laws.proofs.Looking.{own_links}
use Rattle.net_link_laws.proofs.Standing.{own_place}
use Rattle.net_link_laws.specs.Found.{IsSquareLink}
use Rattle.net_link_laws.specs.Places.{owned_before}
use Rattle.net_walk.proofs.Adding.{nowhere}
use Rattle.net_walk.proofs.Seeing.{seen_none, seen_both, piece_seen}
use Rattle.net_walk.specs.Owned.{IsOfRects, IsOwned, AreOwnLinks}
use Rattle.net_walk.specs.Seen.{AddsSeen, AreLinksOver}
use Rattle.net_walk.specs.Walk.{HaveArea}
use Rattle.touching_pieces.specs.Pairs.{AreJoined}
use Rattle.touching_pieces.specs.declared.conductors.Joined.{Joined}
use Rattle.touching_pieces.specs.declared.pieces.Piece.{Piece}

area_at : (own : List Rect) (r : ℕ) → HaveArea own → r < length own → IsRect (get_or own r nowhere)
area_at [] r h lt = absurd (omega arith)
area_at (x ∷ xs) zero h lt = h.0
area_at (x ∷ xs) (suc r) h lt = area_at xs r h.1 (omega arith)

pub no_rects : (own : List Rect) (conductor at : ℕ) (ps : List Piece) → AddsSeen (IsOfRects own conductor at 0) ps ps
no_rects own conductor at ps = seen_none (IsOfRects own conductor at 0) ps (λ c i q h. let lt = h.2 in absurd (omega arith))

pub rects_more : (own : List Rect) (conductor at r : ℕ) (old mid : List Piece) → HaveArea own → r < length own → AddsSeen (IsOfRects own conductor at r) old mid
    → AddsSeen (IsOfRects own conductor at (r + 1)) old (mid ++ record { conductor = conductor; rect = get_or own r nowhere; item = at + r } ∷ [])
rects_more own conductor at r old mid area lt h =
    let rect = get_or own r nowhere in
    let o : Piece = record { conductor = conductor; rect = rect; item = at + r } in
    let there : slice_get own r ≡ Some rect = slice_get-get_or own r nowhere lt in
    seen_both (IsOfRects own conductor at r) (λ c i q. (conductor ≡ c) × (at + r ≡ i) × IsIn q rect) (IsOfRects own conductor at (r + 1)) old mid (mid ++ o ∷ []) h (piece_seen o mid (area_at own r area lt))
    (λ c i q. (
      (λ k. elim (ℕ_discrete k.1 r) [
        | yes e ↦
            let one : slice_get own r ≡ Some k.3 = subst (λ j. slice_get own j ≡ Some k.3) e k.4 in
            let same : k.3 ≡ rect = let f : Some k.3 ≡ Some rect = sym one ∙ there in cc in
            inr (k.0, ap (λ j. at + j) (sym e) ∙ k.6, subst (λ (v : Rect). IsIn q v) same k.5)
        | no n ↦ let less = k.2 in inl (k.0, k.1, omega arith, k.3, k.4, k.5, k.6)
      ]),
      (λ k. elim k [
        | inl a ↦ let less = a.2 in (a.0, a.1, omega arith, a.3, a.4, a.5, a.6)
        | inr b ↦ (b.0, r, omega arith, rect, there, b.2, b.1)
      ]),
    ))

pub none_owned : (t : Tables) (cell : ℕ) → AddsSeen (IsOwned t cell 0) [] []
none_owned t cell = seen_none (IsOwned t cell 0) [] (λ c i q h. let lt = h.0 in absurd (omega arith))

pub owned_more : (t : Tables) (cell n at : ℕ) (old mid new : List Piece) → at ≡ owned_before t cell n → AddsSeen (IsOwned t cell n) old mid → AddsSeen (IsOfRects (t.own cell n) n at (length (t.own cell n))) mid new → AddsSeen (IsOwned t cell (n + 1)) old new
owned_more t cell n at old mid new e h g =
    seen_both (IsOwned t cell n) (IsOfRects (t.own cell n) n at (length (t.own cell n))) (IsOwned t cell (n + 1)) old mid new h g
    (λ c i q. (
      (λ k. elim (ℕ_discrete c n) [
        | yes s ↦
            let listed : slice_get (t.own cell n) k.1 ≡ Some k.2 = subst (λ j. slice_get (t.own cell j) k.1 ≡ Some k.2) s k.3 in
            let place : at + k.1 ≡ i = ap (λ j. j + k.1) (e ∙ ap (owned_before t cell) (sym s)) ∙ k.5 in
            inr (sym s, k.1, slice_get_within (t.own cell n) k.1 k.2 listed, k.2, listed, k.4, place)
        | no m ↦ let lt = k.0 in inl (omega arith, k.1, k.2, k.3, k.4, k.5)
      ]),
      (λ k. elim k [
        | inl a ↦ let lt = a.0 in (omega arith, a.1, a.2, a.3, a.4, a.5)
        | inr b ↦
            let s = b.0 in
            let less : c < n + 1 = omega (arith, s) in
            let listed : slice_get (t.own cell c) b.1 ≡ Some b.3 = subst (λ j. slice_get (t.own cell j) b.1 ≡ Some b.3) s b.4 in
            let place : owned_before t cell c + b.1 ≡ i = ap (λ j. j + b.1) (sym (e ∙ ap (owned_before t cell) s)) ∙ b.6 in
            (less, b.1, b.3, listed, b.5, place)
      ]),
    ))

pub owned_links : (d : Design) (w : Wiring) (t : Tables) (cell : ℕ) (joins : List Joined) (links : List Link) → ((c e : ℕ) → AreJoined joins c e ↔ IsJoined w c e) → AreLinksOver joins (IsOwned t cell (length w.conductors)) links → AreOwnLinks d w t cell links
owned_links d w t cell joins links same h = record {
  each = λ i j k.
      let n = h.each i j k in
      let a = n.over in
      let b = n.over_too in
      let lt = slice_get_within (t.own cell n.c) a.1 a.2 a.3 in
      let lt_too = slice_get_within (t.own cell n.e) b.1 b.2 b.3 in
      let link : IsSquareLink d w t cell (Own n.c a.1) (Own n.e b.1) = (own_links d w t cell n.c a.1 n.e b.1 (a.0, lt) (b.0, lt_too)).1
      (record { rect = a.2; second = b.2; listed = a.3; listed_too = b.3; joined = (same n.c n.e).0 n.joined; p = n.p; q = n.q; in_one = a.4; in_other = b.4; near = n.near }) in (
        Own n.c a.1,
        Own n.e b.1,
        subst (λ k. slice_get (items_of d w t cell) k ≡ Some (Own n.c a.1)) a.5 (own_place d w t cell n.c a.1 a.0 lt),
        subst (λ k. slice_get (items_of d w t cell) k ≡ Some (Own n.e b.1)) b.5 (own_place d w t cell n.e b.1 b.0 lt_too),
        link,
      );
  found = λ c r e s l.
      let o = (own_links d w t cell c r e s l.from l.to).0 l in
      h.found (owned_before t cell c + r) (owned_before t cell e + s)
      (record { c = c; e = e; p = o.p; q = o.q; joined = (same c e).1 o.joined; over = (l.from.0, r, o.rect, o.listed, o.in_one, refl); over_too = (l.to.0, s, o.second, o.listed_too, o.in_other, refl); near = o.near });
}
