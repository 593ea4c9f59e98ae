-- Links whose chains join what touches.
use Rattle.std.proofs.Common.{◌≡◌, ◌⊎◌, inl, inr, ℕ, zero, suc, ◌<◌, ◌+◌, Bool, not, List, [], ◌∷◌, ◌++◌, length, take, get_or, refl, sym, ap, ◌∙◌, subst, arith, ◌↔◌}
use Rattle.std.proofs.Math.Seq.{take-length}
use Rattle.std.proofs.lemmas.Bool.{not_from_false, cases_Bool}
use Rattle.std.proofs.lemmas.List.{take_more}
use Rattle.link_classes.specs.Classes.{IsLinked}
use Rattle.link_classes.specs.declared.classes.Link.{Link}
use Rattle.plain_netlist.proofs.Links.{stays, single, both, back, along}
use Rattle.touching_pieces.proofs.Links.{linked_back, among_left, among_right, among_either, among_of, among_to, in_touch_weaker, lows_in, highs_in, low_or_high_in}
use Rattle.touching_pieces.proofs.Sides.{touching, touching_turned}
use Rattle.touching_pieces.specs.Crowds.{AddsCrowd, AddsFirsts, apart_from, touched_by}
use Rattle.touching_pieces.specs.Pairs.{AddsChains, AddsLinks, AddsTouching, AreInTouch, AreOne, IsAmong, highs, lows}
use Rattle.touching_pieces.specs.Touching.{AreTouching, touches}
use Rattle.touching_pieces.specs.declared.cuts.Cut.{Cut}
use Rattle.touching_pieces.specs.declared.pieces.Piece.{Piece}

-- chains

pub one_on : (old new : List Link) → ((i j : ℕ) → IsLinked old i j → IsLinked new i j) → (i j : ℕ) → AreOne old i j → AreOne new i j
one_on old new kept i j h = along (IsLinked old) (IsLinked new) (λ k. k) (λ a b l. single (IsLinked new) a b (kept a b l)) i j h

pub one_back : (ls : List Link) (i j : ℕ) → AreOne ls i j → AreOne ls j i
one_back ls i j h = back (IsLinked ls) (linked_back ls) i j h

pub one_by : (ls : List Link) (i j k : ℕ) → AreOne ls i j → AreOne ls j k → AreOne ls i k
one_by ls i j k h g = both (IsLinked ls) i j k h g

pub one_of : (ls : List Link) (i j : ℕ) → (i ≡ j) ⊎ IsLinked ls i j → AreOne ls i j
one_of ls i j (inl e) = stays (IsLinked ls) i j e
one_of ls i j (inr h) = single (IsLinked ls) i j h

-- a link for each is a chain for each
pub chains_of : (R : ℕ → ℕ → Type 0) (old new : List Link) → AddsLinks R old new → AddsChains R old new
chains_of R old new h = record { kept = h.kept; each = h.each; found = λ i j k. one_of new i j (h.found i j k) }

pub chains_none : (R : ℕ → ℕ → Type 0) (ls : List Link) → ((i j : ℕ) → R i j → ⊥) → AddsChains R ls ls
chains_none R ls not = record { kept = λ i j h. h; each = λ i j h. inl h; found = λ i j h. absurd (not i j h) }

pub chains_both : (R S T : ℕ → ℕ → Type 0) (old mid new : List Link) → AddsChains R old mid → AddsChains S mid new
    → ((i j : ℕ) → R i j → T i j) → ((i j : ℕ) → S i j → T i j) → ((i j : ℕ) → T i j → R i j ⊎ S i j) → AddsChains T old new
chains_both R S T old mid new h g r s t = record {
  kept = λ i j k. g.kept i j (h.kept i j k);
  each = λ i j k. elim (g.each i j k) [
    | inl m ↦ elim (h.each i j m) [
      | inl o ↦ inl o
      | inr o ↦ inr (elim o [ inl a ↦ inl (r i j a) | inr b ↦ inr (r j i b) ])
    ]
    | inr m ↦ inr (elim m [ inl a ↦ inl (s i j a) | inr b ↦ inr (s j i b) ])
  ];
  found = λ i j k. elim (t i j k) [
    | inl a ↦ one_on mid new g.kept i j (h.found i j a)
    | inr b ↦ g.found i j b
  ];
}

pub chains_same : (R S : ℕ → ℕ → Type 0) (old new : List Link) → AddsChains R old new → ((i j : ℕ) → R i j ↔ S i j) → AddsChains S old new
chains_same R S old new h e = record {
  kept = h.kept;
  each = λ i j k. elim (h.each i j k) [ inl m ↦ inl m | inr m ↦ inr (elim m [ inl a ↦ inl ((e i j).0 a) | inr b ↦ inr ((e j i).0 b) ]) ];
  found = λ i j k. h.found i j ((e i j).1 k);
}

-- halves

pub chain_halves : (cut : Cut) (ps qs : List Piece) (old mid new : List Link) → AddsChains (AreInTouch (lows cut ps) (lows cut qs)) old mid
    → AddsChains (AreInTouch (highs cut ps) (highs cut qs)) mid new → AddsChains (AreInTouch ps qs) old new
chain_halves cut ps qs old mid new h g =
    chains_both (AreInTouch (lows cut ps) (lows cut qs)) (AreInTouch (highs cut ps) (highs cut qs)) (AreInTouch ps qs) old mid new h g
    (lows_in cut ps qs) (highs_in cut ps qs) (low_or_high_in cut ps qs)

-- a crowd

turned_touch : (ps qs : List Piece) (i j : ℕ) → AreInTouch ps qs i j → AreInTouch qs ps j i
turned_touch ps qs i j h = record { one = h.other; other = h.one; in_ones = h.in_others; in_others = h.in_ones; touching = touching_turned h.one.rect h.other.rect h.touching; from = h.to; to = h.from }

-- those that are left, with the lists changed over
pub crowd_rest : (ps qs rs : List Piece) (old mid new : List Link) → AddsCrowd ps qs rs old mid → AddsChains (AreInTouch rs ps) mid new → AddsChains (AreInTouch ps qs) old new
crowd_rest ps qs rs old mid new h g =
    let into : (i j : ℕ) → AreInTouch rs ps i j → AreInTouch ps qs j i = λ i j k. turned_touch qs ps i j (in_touch_weaker rs ps qs ps h.among (λ p m. m) i j k) in
    record {
      kept = λ i j k. g.kept i j (h.kept i j k);
      each = λ i j k. elim (g.each i j k) [
        | inl m ↦ h.each i j m
        | inr m ↦ inr (elim m [ inl a ↦ inr (into i j a) | inr b ↦ inl (into j i b) ])
      ];
      found = λ i j k. elim (h.found i j k) [
        | inl a ↦ one_on mid new g.kept i j a
        | inr b ↦ one_back new j i (g.found j i (turned_touch ps rs i j b))
      ];
    }

-- the piece's links, and those of pieces that touch what it touches
pub crowd : (hub : Piece) (ps qs : List Piece) (old mid new : List Link) → IsAmong hub ps → AddsTouching (hub ∷ []) (touched_by hub qs) old mid
    → AddsFirsts ps (touched_by hub qs) mid new → AddsCrowd ps qs (apart_from hub qs) old new
crowd hub ps qs old mid new within h g =
    let f : Piece → Bool = λ (p : Piece). touches hub.rect p.rect in
    let e : Piece → Bool = λ (p : Piece). not (touches hub.rect p.rect) in
    let ts = touched_by hub qs in
    let hub_in : (p : Piece) → IsAmong p (hub ∷ []) → IsAmong p ps = λ p k. elim k [ inl s ↦ subst (λ (x : Piece). IsAmong x ps) (sym s) within | inr m ↦ absurd m ] in
    let in_qs : (p : Piece) → IsAmong p ts → IsAmong p qs = λ p k. (among_of f qs p k).0 in
    let to_hub : (q : Piece) → IsAmong q ts → AreOne new hub.item q.item = λ q k.
    one_on mid new g.kept hub.item q.item (one_of mid hub.item q.item (h.found hub.item q.item (record { one = hub; other = q; in_ones = inl refl; in_others = k; touching = touching hub.rect q.rect (among_of f qs q k).1; from = refl; to = refl }))) in
    record {
      kept = λ i j k. g.kept i j (h.kept i j k);
      each = λ i j k. elim (g.each i j k) [
        | inl m ↦ elim (h.each i j m) [
          | inl o ↦ inl o
          | inr o ↦ inr (elim o [ inl a ↦ inl (in_touch_weaker (hub ∷ []) ts ps qs hub_in in_qs i j a) | inr b ↦ inr (in_touch_weaker (hub ∷ []) ts ps qs hub_in in_qs j i b) ])
        ]
        | inr m ↦ inr (elim m [ inl a ↦ inl (in_touch_weaker ps ts ps qs (λ p o. o) in_qs i j a) | inr b ↦ inr (in_touch_weaker ps ts ps qs (λ p o. o) in_qs j i b) ])
      ];
      found = λ i j k. elim (cases_Bool (touches hub.rect k.other.rect)) [
        | inl t ↦
            let in_ts : IsAmong k.other ts = among_to f qs k.other k.in_others t in
            let first = g.found k.one k.other k.in_ones in_ts k.touching in
            let way : AreOne new k.one.item k.other.item =
            one_by new k.one.item first.0.item k.other.item first.2
            (one_by new first.0.item hub.item k.other.item (one_back new hub.item first.0.item (to_hub first.0 first.1)) (to_hub k.other in_ts)) in
            inl (subst (λ x. AreOne new x j) k.from (subst (λ y. AreOne new k.one.item y) k.to way))
        | inr t ↦
            inr (record { one = k.one; other = k.other; in_ones = k.in_ones; in_others = among_to e qs k.other k.in_others (not_from_false (touches hub.rect k.other.rect) t); touching = k.touching; from = k.from; to = k.to })
      ];
      among = λ p k. (among_of e qs p k).0;
    }

-- the first that each touches

pub firsts_none : (qs : List Piece) (ls : List Link) → AddsFirsts [] qs ls ls
firsts_none qs ls = record { kept = λ i j h. h; each = λ i j h. inl h; found = λ p q a. absurd a }

-- the piece touches none of them
pub first_none : (p : Piece) (qs : List Piece) (ls : List Link) → ((q : Piece) → IsAmong q qs → AreTouching p.rect q.rect → ⊥) → AddsFirsts (p ∷ []) qs ls ls
first_none p qs ls not = record {
  kept = λ i j h. h;
  each = λ i j h. inl h;
  found = λ o q a b t. elim a [ inl e ↦ absurd (not q b (subst (λ (x : Piece). AreTouching x.rect q.rect) e t)) | inr m ↦ absurd m ];
}

-- the piece touches this one of them
pub first_one : (p o : Piece) (qs : List Piece) (old new : List Link) → IsAmong o qs → AreTouching p.rect o.rect → AddsTouching (p ∷ []) (o ∷ []) old new → AddsFirsts (p ∷ []) qs old new
first_one p o qs old new within t h =
    let into : (q : Piece) → IsAmong q (o ∷ []) → IsAmong q qs = λ q k. elim k [ inl e ↦ subst (λ (x : Piece). IsAmong x qs) (sym e) within | inr m ↦ absurd m ] in
    let way : AreOne new p.item o.item = one_of new p.item o.item (h.found p.item o.item (record { one = p; other = o; in_ones = inl refl; in_others = inl refl; touching = t; from = refl; to = refl })) in
    record {
      kept = h.kept;
      each = λ i j k. elim (h.each i j k) [
        | inl m ↦ inl m
        | inr m ↦ inr (elim m [ inl a ↦ inl (in_touch_weaker (p ∷ []) (o ∷ []) (p ∷ []) qs (λ q n. n) into i j a) | inr b ↦ inr (in_touch_weaker (p ∷ []) (o ∷ []) (p ∷ []) qs (λ q n. n) into j i b) ])
      ];
      found = λ q r a b s. elim a [ inl e ↦ (o, within, subst (λ (x : Piece). AreOne new x.item o.item) (sym e) way) | inr m ↦ absurd m ];
    }

firsts_more : (ps qs : List Piece) (p : Piece) (old mid new : List Link) → AddsFirsts ps qs old mid → AddsFirsts (p ∷ []) qs mid new → AddsFirsts (ps ++ p ∷ []) qs old new
firsts_more ps qs p old mid new h g =
    let left = in_touch_weaker ps qs (ps ++ p ∷ []) qs (among_left ps (p ∷ [])) (λ q k. k) in
    let right = in_touch_weaker (p ∷ []) qs (ps ++ p ∷ []) qs (among_right ps (p ∷ [])) (λ q k. k) in
    record {
      kept = λ i j k. g.kept i j (h.kept i j k);
      each = λ i j k. elim (g.each i j k) [
        | inl m ↦ elim (h.each i j m) [ inl o ↦ inl o | inr o ↦ inr (elim o [ inl a ↦ inl (left i j a) | inr b ↦ inr (left j i b) ]) ]
        | inr m ↦ inr (elim m [ inl a ↦ inl (right i j a) | inr b ↦ inr (right j i b) ])
      ];
      found = λ o q a b t. elim (among_either ps (p ∷ []) o a) [
        | inl m ↦ let k = h.found o q m b t in (k.0, k.1, one_on mid new g.kept o.item k.0.item k.2)
        | inr m ↦ g.found o q m b t
      ];
    }

pub firsts_at : (ps qs : List Piece) (k : ℕ) (d : Piece) (old mid new : List Link) → k < length ps → AddsFirsts (take k ps) qs old mid → AddsFirsts (get_or ps k d ∷ []) qs mid new → AddsFirsts (take (k + 1) ps) qs old new
firsts_at ps qs k d old mid new lt h g = subst (λ (xs : List Piece). AddsFirsts xs qs old new) (sym (take_more ps k d lt)) (firsts_more (take k ps) qs (get_or ps k d) old mid new h g)

pub firsts_all : (ps qs : List Piece) (k : ℕ) (old new : List Link) → k ≡ length ps → AddsFirsts (take k ps) qs old new → AddsFirsts ps qs old new
firsts_all ps qs k old new e h = subst (λ (xs : List Piece). AddsFirsts xs qs old new) (ap (λ n. take n ps) e ∙ take-length ps) h

-- a piece at a place of a list

pub among_at : (ps : List Piece) (k : ℕ) (d : Piece) → k < length ps → IsAmong (get_or ps k d) ps
among_at [] k d lt = absurd (omega arith)
among_at (p ∷ ps) zero d lt = inl refl
among_at (p ∷ ps) (suc k) d lt = inr (among_at ps k d (omega arith))

-- of the first pieces, none

pub apart_none : (p : Piece) (ps : List Piece) (q : Piece) → IsAmong q (take 0 ps) → AreTouching p.rect q.rect → ⊥
apart_none p ps q h t = absurd h

pub apart_more : (p : Piece) (ps : List Piece) (k : ℕ) (d : Piece) → k < length ps → ((q : Piece) → IsAmong q (take k ps) → AreTouching p.rect q.rect → ⊥) → (AreTouching p.rect (get_or ps k d).rect → ⊥)
    → (q : Piece) → IsAmong q (take (k + 1) ps) → AreTouching p.rect q.rect → ⊥
apart_more p ps k d lt before not q h t =
    let h' : IsAmong q (take k ps ++ get_or ps k d ∷ []) = subst (λ (xs : List Piece). IsAmong q xs) (take_more ps k d lt) h in
    elim (among_either (take k ps) (get_or ps k d ∷ []) q h') [
      | inl m ↦ before q m t
      | inr m ↦ elim m [ inl e ↦ not (subst (λ (x : Piece). AreTouching p.rect x.rect) e t) | inr n ↦ absurd n ]
    ]

pub apart_all : (p : Piece) (ps : List Piece) (k : ℕ) (old new : List Link) → k ≡ length ps → new ≡ old → ((q : Piece) → IsAmong q (take k ps) → AreTouching p.rect q.rect → ⊥) → AddsFirsts (p ∷ []) ps old new
apart_all p ps k old new e same not =
    let all : take k ps ≡ ps = ap (λ n. take n ps) e ∙ take-length ps in
    subst (λ (ls : List Link). AddsFirsts (p ∷ []) ps old ls) (sym same)
    (first_none p ps old (λ q h. not q (subst (λ (xs : List Piece). IsAmong q xs) (sym all) h)))
