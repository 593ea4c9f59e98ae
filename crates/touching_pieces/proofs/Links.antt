-- Links that are added for pieces in touch.
use Rattle.std.proofs.Common.{◌≡◌, ◌⊎◌, inl, inr, ℕ, ◌<◌, ◌+◌, ℤ, pos, ◌<ℤ◌, ◌≤ℤ◌, int_le, int_lt, Bool, true, List, [], ◌∷◌, ◌++◌, length, take, get_or, refl, sym, ap, ◌∙◌, subst, arith, ◌↔◌}
use Rattle.base_laws.proofs.Tests.{lt_to, le_to}
use Rattle.std.specs.List.{filter}
use Rattle.std.proofs.Math.Seq.{take-length}
use Rattle.std.proofs.lemmas.Int.{ints, by_lt_z}
use Rattle.std.proofs.lemmas.Bool.{cases_Bool}
use Rattle.std.proofs.lemmas.List.{take_more}
use Rattle.geo_base.specs.declared.shapes.Rect.{Rect}
use Rattle.link_classes.specs.Classes.{IsLinked, IsOf}
use Rattle.link_classes.specs.declared.classes.Link.{Link}
use Rattle.touching_pieces.proofs.Sides.{AreBeside, sides}
use Rattle.touching_pieces.specs.Pairs.{IsAmong, AreInTouch, AddsLinks, AddsTouching, begins_by, ends_behind, lows, highs}
use Rattle.touching_pieces.specs.Touching.{AreTouching}
use Rattle.touching_pieces.specs.declared.cuts.Axis.TheVariants.{X, Y}
use Rattle.touching_pieces.specs.declared.cuts.Cut.{Cut}
use Rattle.touching_pieces.specs.declared.pieces.Piece.{Piece}

-- links

of_back : (l : Link) (i j : ℕ) → IsOf l i j → IsOf l j i
of_back l i j (inl e) = inr e
of_back l i j (inr e) = inl e

pub linked_back : (ls : List Link) (i j : ℕ) → IsLinked ls i j → IsLinked ls j i
linked_back [] i j h = absurd h
linked_back (l ∷ ls) i j (inl h) = inl (of_back l i j h)
linked_back (l ∷ ls) i j (inr h) = inr (linked_back ls i j h)

linked_left : (ls ms : List Link) (i j : ℕ) → IsLinked ls i j → IsLinked (ls ++ ms) i j
linked_left [] ms i j h = absurd h
linked_left (l ∷ ls) ms i j (inl h) = inl h
linked_left (l ∷ ls) ms i j (inr h) = inr (linked_left ls ms i j h)

linked_last : (ls : List Link) (l : Link) (i j : ℕ) → IsOf l i j → IsLinked (ls ++ l ∷ []) i j
linked_last [] l i j h = inl h
linked_last (m ∷ ls) l i j h = inr (linked_last ls l i j h)

linked_either : (ls : List Link) (l : Link) (i j : ℕ) → IsLinked (ls ++ l ∷ []) i j → IsLinked ls i j ⊎ IsOf l i j
linked_either [] l i j (inl h) = inr h
linked_either [] l i j (inr h) = absurd h
linked_either (m ∷ ls) l i j (inl h) = inl (inl h)
linked_either (m ∷ ls) l i j (inr h) = elim (linked_either ls l i j h) [ inl a ↦ inl (inr a) | inr b ↦ inr b ]

-- adding links

pub added_none : (R : ℕ → ℕ → Type 0) (ls : List Link) → ((i j : ℕ) → R i j → i ≡ j) → AddsLinks R ls ls
added_none R ls same = record { kept = λ i j h. h; each = λ i j h. inl h; found = λ i j h. inl (same i j h) }

-- a link for the one pair of a relation
pub added_one : (R : ℕ → ℕ → Type 0) (ls : List Link) (a b : ℕ) → R a b → ((i j : ℕ) → R i j → (a ≡ i) × (b ≡ j)) → AddsLinks R ls (ls ++ record { one = a; other = b } ∷ [])
added_one R ls a b r same =
    let l : Link = record { one = a; other = b } in
    record {
      kept = λ i j h. linked_left ls (l ∷ []) i j h;
      each = λ i j h. elim (linked_either ls l i j h) [
        | inl k ↦ inl k
        | inr k ↦ inr (elim k [
          | inl e ↦ inl (subst (λ x. R x j) e.0 (subst (λ y. R a y) e.1 r))
          | inr e ↦ inr (subst (λ x. R x i) e.0 (subst (λ y. R a y) e.1 r))
        ])
      ];
      found = λ i j h. inr (linked_last ls l i j (inl (same i j h)));
    }

-- links for one relation and then for another are links for a third that is cases_Bool
pub added_both : (R S T : ℕ → ℕ → Type 0) (old mid new : List Link) → AddsLinks R old mid → AddsLinks S mid new
    → ((i j : ℕ) → R i j → T i j) → ((i j : ℕ) → S i j → T i j) → ((i j : ℕ) → T i j → R i j ⊎ S i j) → AddsLinks T old new
added_both R S T old mid new h g r s t = record {
  kept = λ i j k. g.kept i j (h.kept i j k);
  each = λ i j k. elim (g.each i j k) [
    | inl m ↦ elim (h.each i j m) [
      | inl o ↦ inl o
      | inr o ↦ inr (elim o [ inl a ↦ inl (r i j a) | inr b ↦ inr (r j i b) ])
    ]
    | inr m ↦ inr (elim m [ inl a ↦ inl (s i j a) | inr b ↦ inr (s j i b) ])
  ];
  found = λ i j k. elim (t i j k) [
    | inl a ↦ elim (h.found i j a) [ inl e ↦ inl e | inr m ↦ inr (g.kept i j m) ]
    | inr b ↦ g.found i j b
  ];
}

-- the same links for a relation that is the same
pub added_same : (R S : ℕ → ℕ → Type 0) (old new : List Link) → AddsLinks R old new → ((i j : ℕ) → R i j ↔ S i j) → AddsLinks S old new
added_same R S old new h e = record {
  kept = h.kept;
  each = λ i j k. elim (h.each i j k) [ inl m ↦ inl m | inr m ↦ inr (elim m [ inl a ↦ inl ((e i j).0 a) | inr b ↦ inr ((e j i).0 b) ]) ];
  found = λ i j k. h.found i j ((e i j).1 k);
}

-- lists of pieces

pub among_left : (ps qs : List Piece) (p : Piece) → IsAmong p ps → IsAmong p (ps ++ qs)
among_left [] qs p h = absurd h
among_left (x ∷ ps) qs p (inl e) = inl e
among_left (x ∷ ps) qs p (inr h) = inr (among_left ps qs p h)

pub among_right : (ps qs : List Piece) (p : Piece) → IsAmong p qs → IsAmong p (ps ++ qs)
among_right [] qs p h = h
among_right (x ∷ ps) qs p h = inr (among_right ps qs p h)

pub among_either : (ps qs : List Piece) (p : Piece) → IsAmong p (ps ++ qs) → IsAmong p ps ⊎ IsAmong p qs
among_either [] qs p h = inr h
among_either (x ∷ ps) qs p (inl e) = inl (inl e)
among_either (x ∷ ps) qs p (inr h) = elim (among_either ps qs p h) [ inl a ↦ inl (inr a) | inr b ↦ inr b ]

pub in_touch_weaker : (ms bs cs ds : List Piece) → ((p : Piece) → IsAmong p ms → IsAmong p cs) → ((p : Piece) → IsAmong p bs → IsAmong p ds) → (i j : ℕ) → AreInTouch ms bs i j → AreInTouch cs ds i j
in_touch_weaker ms bs cs ds f g i j h = record { one = h.one; other = h.other; in_ones = f h.one h.in_ones; in_others = g h.other h.in_others; touching = h.touching; from = h.from; to = h.to }

pub others_more : (ps qs rs : List Piece) (old mid new : List Link) → AddsTouching ps qs old mid → AddsTouching ps rs mid new → AddsTouching ps (qs ++ rs) old new
others_more ps qs rs old mid new h g =
    added_both (AreInTouch ps qs) (AreInTouch ps rs) (AreInTouch ps (qs ++ rs)) old mid new h g
    (in_touch_weaker ps qs ps (qs ++ rs) (λ p k. k) (among_left qs rs))
    (in_touch_weaker ps rs ps (qs ++ rs) (λ p k. k) (among_right qs rs))
    (λ i j k. elim (among_either qs rs k.other k.in_others) [
      | inl m ↦ inl (record { one = k.one; other = k.other; in_ones = k.in_ones; in_others = m; touching = k.touching; from = k.from; to = k.to })
      | inr m ↦ inr (record { one = k.one; other = k.other; in_ones = k.in_ones; in_others = m; touching = k.touching; from = k.from; to = k.to })
    ])

pub ones_more : (ps qs rs : List Piece) (old mid new : List Link) → AddsTouching ps rs old mid → AddsTouching qs rs mid new → AddsTouching (ps ++ qs) rs old new
ones_more ps qs rs old mid new h g =
    added_both (AreInTouch ps rs) (AreInTouch qs rs) (AreInTouch (ps ++ qs) rs) old mid new h g
    (in_touch_weaker ps rs (ps ++ qs) rs (among_left ps qs) (λ p k. k))
    (in_touch_weaker qs rs (ps ++ qs) rs (among_right ps qs) (λ p k. k))
    (λ i j k. elim (among_either ps qs k.one k.in_ones) [
      | inl m ↦ inl (record { one = k.one; other = k.other; in_ones = m; in_others = k.in_others; touching = k.touching; from = k.from; to = k.to })
      | inr m ↦ inr (record { one = k.one; other = k.other; in_ones = m; in_others = k.in_others; touching = k.touching; from = k.from; to = k.to })
    ])

pub others_at : (ps qs : List Piece) (k : ℕ) (d : Piece) (old mid new : List Link) → k < length qs → AddsTouching ps (take k qs) old mid → AddsTouching ps (get_or qs k d ∷ []) mid new → AddsTouching ps (take (k + 1) qs) old new
others_at ps qs k d old mid new lt h g = subst (λ (xs : List Piece). AddsTouching ps xs old new) (sym (take_more qs k d lt)) (others_more ps (take k qs) (get_or qs k d ∷ []) old mid new h g)

pub ones_at : (ps qs : List Piece) (k : ℕ) (d : Piece) (old mid new : List Link) → k < length ps → AddsTouching (take k ps) qs old mid → AddsTouching (get_or ps k d ∷ []) qs mid new → AddsTouching (take (k + 1) ps) qs old new
ones_at ps qs k d old mid new lt h g = subst (λ (xs : List Piece). AddsTouching xs qs old new) (sym (take_more ps k d lt)) (ones_more (take k ps) (get_or ps k d ∷ []) qs old mid new h g)

pub others_all : (ps qs : List Piece) (k : ℕ) (old new : List Link) → k ≡ length qs → AddsTouching ps (take k qs) old new → AddsTouching ps qs old new
others_all ps qs k old new e h = subst (λ (xs : List Piece). AddsTouching ps xs old new) (ap (λ n. take n qs) e ∙ take-length qs) h

pub ones_all : (ps qs : List Piece) (k : ℕ) (old new : List Link) → k ≡ length ps → AddsTouching (take k ps) qs old new → AddsTouching ps qs old new
ones_all ps qs k old new e h = subst (λ (xs : List Piece). AddsTouching xs qs old new) (ap (λ n. take n ps) e ∙ take-length ps) h

-- a piece that stands past a list's end
abbrev pub no_piece : Piece
no_piece = record { conductor = 0; rect = record { x1 = pos 0; y1 = pos 0; x2 = pos 0; y2 = pos 0 }; item = 0 }

pub nothing_others : (ps : List Piece) (ls : List Link) → AddsTouching ps [] ls ls
nothing_others ps ls = added_none (AreInTouch ps []) ls (λ i j h. absurd h.in_others)

pub nothing_ones : (qs : List Piece) (ls : List Link) → AddsTouching [] qs ls ls
nothing_ones qs ls = added_none (AreInTouch [] qs) ls (λ i j h. absurd h.in_ones)

-- one piece beside another

are : (p q : Piece) (i j : ℕ) → AreInTouch (p ∷ []) (q ∷ []) i j → (p.item ≡ i) × (q.item ≡ j) × AreTouching p.rect q.rect
are p q i j h =
    let e : h.one ≡ p = elim h.in_ones [ inl k ↦ k | inr k ↦ absurd k ] in
    let f : h.other ≡ q = elim h.in_others [ inl k ↦ k | inr k ↦ absurd k ] in (
      subst (λ (x : Piece). x.item ≡ i) e h.from,
      subst (λ (x : Piece). x.item ≡ j) f h.to,
      subst (λ (x : Piece). AreTouching p.rect x.rect) f (subst (λ (x : Piece). AreTouching x.rect h.other.rect) e h.touching),
    )

pub one_linked : (p q : Piece) (ls : List Link) → AreTouching p.rect q.rect → AddsTouching (p ∷ []) (q ∷ []) ls (ls ++ record { one = p.item; other = q.item } ∷ [])
one_linked p q ls t =
    added_one (AreInTouch (p ∷ []) (q ∷ [])) ls p.item q.item
    (record { one = p; other = q; in_ones = inl refl; in_others = inl refl; touching = t; from = refl; to = refl })
    (λ i j h. let k = are p q i j h in (k.0, k.1))

pub one_apart : (p q : Piece) (ls : List Link) → (AreTouching p.rect q.rect → ⊥) → AddsTouching (p ∷ []) (q ∷ []) ls ls
one_apart p q ls not = added_none (AreInTouch (p ∷ []) (q ∷ [])) ls (λ i j h. absurd (not (are p q i j h).2))

pub one_same : (p q : Piece) (ls : List Link) → p.item ≡ q.item → AddsTouching (p ∷ []) (q ∷ []) ls ls
one_same p q ls e = added_none (AreInTouch (p ∷ []) (q ∷ [])) ls (λ i j h. let k = are p q i j h in sym k.0 ∙ e ∙ k.1)

-- what a filter keeps

pub among_of : (f : Piece → Bool) (ps : List Piece) (p : Piece) → IsAmong p (filter f ps) → IsAmong p ps × (f p ≡ true)
among_of f [] p h = absurd h
among_of f (x ∷ ps) p h = elim (cases_Bool (f x)) [
  | inl e ↦
      let k : IsAmong p (x ∷ filter f ps) = rw e at h in
      elim k [
        | inl same ↦ (inl same, subst (λ (y : Piece). f y ≡ true) (sym same) e)
        | inr m ↦ let g = among_of f ps p m in (inr g.0, g.1)
      ]
  | inr e ↦
      let k : IsAmong p (filter f ps) = rw e at h in
      let g = among_of f ps p k in (inr g.0, g.1)
]

pub among_to : (f : Piece → Bool) (ps : List Piece) (p : Piece) → IsAmong p ps → f p ≡ true → IsAmong p (filter f ps)
among_to f [] p h e = absurd h
among_to f (x ∷ ps) p (inl same) e =
    let k : f x ≡ true = subst (λ (y : Piece). f y ≡ true) same e in
    rw k (inl same)
among_to f (x ∷ ps) p (inr h) e = elim (cases_Bool (f x)) [
  | inl k ↦ rw k (inr (among_to f ps p h e))
  | inr k ↦ rw k (among_to f ps p h e)
]

split : (at a c b d : ℤ) → a <ℤ c → b <ℤ d → a ≤ℤ d → b ≤ℤ c → ((int_le a at ≡ true) × (int_le b at ≡ true)) ⊎ ((int_lt at c ≡ true) × (int_lt at d ≡ true))
split at a c b d s t h g = by_lt_z at a
    (λ lt. inr (lt_to at c (omega (arith, ints)), lt_to at d (omega (arith, ints))))
    (λ le. by_lt_z at b
    (λ lt. inr (lt_to at c (omega (arith, ints)), lt_to at d (omega (arith, ints))))
    (λ ke. inl (le_to a at le, le_to b at ke)))

-- two that touch lie both in the one part or both in the other
low_or_high : (cut : Cut) (a b : Rect) → AreBeside a b → ((begins_by cut a ≡ true) × (begins_by cut b ≡ true)) ⊎ ((ends_behind cut a ≡ true) × (ends_behind cut b ≡ true))
low_or_high cut a b h = elim cut.axis as (λ x. ((elim x [ X ↦ int_le a.x1 cut.at | Y ↦ int_le a.y1 cut.at ] ≡ true) × (elim x [ X ↦ int_le b.x1 cut.at | Y ↦ int_le b.y1 cut.at ] ≡ true)) ⊎ ((elim x [ X ↦ int_lt cut.at a.x2 | Y ↦ int_lt cut.at a.y2 ] ≡ true) × (elim x [ X ↦ int_lt cut.at b.x2 | Y ↦ int_lt cut.at b.y2 ] ≡ true))) [
  | X ↦ split cut.at a.x1 a.x2 b.x1 b.x2 h.wide h.wide' h.x h.x'
  | Y ↦ split cut.at a.y1 a.y2 b.y1 b.y2 h.high h.high' h.y h.y'
]

pub lows_in : (cut : Cut) (ps qs : List Piece) (i j : ℕ) → AreInTouch (lows cut ps) (lows cut qs) i j → AreInTouch ps qs i j
lows_in cut ps qs =
    let f : Piece → Bool = λ (p : Piece). begins_by cut p.rect in
    in_touch_weaker (lows cut ps) (lows cut qs) ps qs (λ p k. (among_of f ps p k).0) (λ p k. (among_of f qs p k).0)

pub highs_in : (cut : Cut) (ps qs : List Piece) (i j : ℕ) → AreInTouch (highs cut ps) (highs cut qs) i j → AreInTouch ps qs i j
highs_in cut ps qs =
    let f : Piece → Bool = λ (p : Piece). ends_behind cut p.rect in
    in_touch_weaker (highs cut ps) (highs cut qs) ps qs (λ p k. (among_of f ps p k).0) (λ p k. (among_of f qs p k).0)

pub low_or_high_in : (cut : Cut) (ps qs : List Piece) (i j : ℕ) → AreInTouch ps qs i j → AreInTouch (lows cut ps) (lows cut qs) i j ⊎ AreInTouch (highs cut ps) (highs cut qs) i j
low_or_high_in cut ps qs i j k =
    let f : Piece → Bool = λ (p : Piece). begins_by cut p.rect in
    let e : Piece → Bool = λ (p : Piece). ends_behind cut p.rect in
    elim (low_or_high cut k.one.rect k.other.rect (sides k.one.rect k.other.rect k.touching)) [
      | inl m ↦ inl (record { one = k.one; other = k.other; in_ones = among_to f ps k.one k.in_ones m.0; in_others = among_to f qs k.other k.in_others m.1; touching = k.touching; from = k.from; to = k.to })
      | inr m ↦ inr (record { one = k.one; other = k.other; in_ones = among_to e ps k.one k.in_ones m.0; in_others = among_to e qs k.other k.in_others m.1; touching = k.touching; from = k.from; to = k.to })
    ]

pub halves : (cut : Cut) (ps qs : List Piece) (old mid new : List Link) → AddsTouching (lows cut ps) (lows cut qs) old mid → AddsTouching (highs cut ps) (highs cut qs) mid new → AddsTouching ps qs old new
halves cut ps qs old mid new h g =
    added_both (AreInTouch (lows cut ps) (lows cut qs)) (AreInTouch (highs cut ps) (highs cut qs)) (AreInTouch ps qs) old mid new h g
    (lows_in cut ps qs) (highs_in cut ps qs) (low_or_high_in cut ps qs)
