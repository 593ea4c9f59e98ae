-- Two walks along upper and lower sides meet each contact.
use Rattle.std.proofs.Common.{◌≡◌, ◌⊎◌, inl, inr, ℕ, zero, suc, ◌+◌, ◌-◌, ◌<◌, ◌≤◌, ℤ, pos, ◌-ℤ◌, ◌≤ℤ◌, ◌<ℤ◌, List, [], ◌∷◌, ◌++◌, Bool, true, false, ◌&&◌, int_lt, int_le, Some, None, length, get_or, take, if◌then◌else◌, refl, sym, ◌∙◌, ap, subst, arith}
use Rattle.base_laws.proofs.Tests.{lt_from, le_from}
use Rattle.std.specs.Prelude.{slice_get}
use Rattle.std.proofs.Math.Decide.{ℕ_discrete}
use Rattle.std.proofs.lemmas.Bool.{false≢true, cases_lt, or_right, and_from, cases_Bool, or_cases, and_parts}
use Rattle.std.proofs.lemmas.Bool.Decides.{Decides-int_eq}
use Rattle.std.proofs.lemmas.Int.{ints, by_lt_z}
use Rattle.std.proofs.lemmas.List.{take_more, length-take-le}
use Rattle.std.proofs.lemmas.List.Sorted.{Contains-permutation, IsPermutation-sym}
use Rattle.std.proofs.lemmas.Option.{slice_get_within, slice_get-get_or, get_or_from_slice_get}
use Rattle.std.specs.List.{Contains}
use Rattle.std.specs.List.Sorted.{IsPermutation}
use Rattle.std.specs.Ordering.{int_eq}
use Rattle.flat_layout.specs.Parts.{Joint, Edges, Corners}
use Rattle.geo_base.specs.declared.shapes.Rect.{Rect}
use Rattle.geo_base.specs.declared.shapes.Square.{Square}
use Rattle.link_classes.specs.Classes.{IsLinked, AreInRange}
use Rattle.link_classes.specs.declared.classes.Link.{Link}
use Rattle.rect_sets.specs.Rects.{covers, IsRun, IsBlock, IsBelow, AreAbove, IsOrdered, IsListed, IsCanonical}
use Rattle.rect_sets.proofs.Splitting.{shared_block}
use Rattle.gate_shapes.specs.declared.contacts.Top.{Top}
use Rattle.gate_shapes.specs.Contacts.{crosses, is_over, ends_first, IsUpTo, IsOver, tops_from, found, IsNotLater, AreSortedTops, IsContact, AreContacts, ContactsSoFar, AreTops}

-- places of a list

pub listed_at : (rects : List Rect) (i : ℕ) (r : Rect) → slice_get rects i ≡ Some r → IsListed r rects
listed_at [] i r e = absurd (let f : None ≡ Some r = e in cc)
listed_at (s ∷ rects) zero r e = inl (let f : Some s ≡ Some r = e in cc)
listed_at (s ∷ rects) (suc i) r e = inr (listed_at rects i r e)

pub place_of : (rects : List Rect) (r : Rect) → IsListed r rects → (i : ℕ) × (slice_get rects i ≡ Some r)
place_of [] r l = absurd l
place_of (s ∷ rects) r (inl e) = (zero, ap (λ (t : Rect). Some t) (sym e))
place_of (s ∷ rects) r (inr l) = let p = place_of rects r l in (suc p.0, p.1)

above_at : (r s : Rect) (rects : List Rect) (b : ℕ) → AreAbove r rects → slice_get rects b ≡ Some s → IsBelow r s
above_at r s [] b h e = absurd (let f : None ≡ Some s = e in cc)
above_at r s (t ∷ rects) zero h e = let f : t ≡ s = (let g : Some t ≡ Some s = e in cc) in subst (λ (q : Rect). IsBelow r q) f h.0
above_at r s (t ∷ rects) (suc b) h e = above_at r s rects b h.1 e

pub ahead : (rects : List Rect) (a b : ℕ) (r s : Rect) → IsOrdered rects → a < b → slice_get rects a ≡ Some r → slice_get rects b ≡ Some s → IsBelow r s
ahead [] a b r s o lt e f = absurd (let g : None ≡ Some r = e in cc)
ahead (t ∷ rects) a zero r s o lt e f = absurd (omega arith)
ahead (t ∷ rects) zero (suc b) r s o lt e f = let g : t ≡ r = (let k : Some t ≡ Some r = e in cc) in above_at r s rects b (subst (λ (q : Rect). AreAbove q rects) g o.0) f
ahead (t ∷ rects) (suc a) (suc b) r s o lt e f = ahead rects a b r s o.1 (omega arith) e f

below_self : (r : Rect) → IsBelow r r → ⊥
below_self r (inl lt) = omega (arith, ints)
below_self r (inr p) = let lt = p.1 in omega (arith, ints)

-- a rectangle has one place
pub one_place : (rects : List Rect) (a b : ℕ) (r : Rect) → IsOrdered rects → slice_get rects a ≡ Some r → slice_get rects b ≡ Some r → a ≡ b
one_place rects a b r o e f = elim (ℕ_discrete a b) [
  | yes g ↦ g
  | no not ↦ absurd (below_self r (elim (either_way a b not) [ inl lt ↦ ahead rects a b r r o lt e f | inr lt ↦ ahead rects b a r r o lt f e ]))
]
  where
    either_way : (a b : ℕ) → (a ≡ b → ⊥) → (a < b) ⊎ (b < a)
    either_way zero zero not = absurd (not refl)
    either_way zero (suc b) not = inl (omega arith)
    either_way (suc a) zero not = inr (omega arith)
    either_way (suc a) (suc b) not = elim (either_way a b (λ e. not (ap (λ (n : ℕ). suc n) e))) [ inl lt ↦ inl (omega arith) | inr lt ↦ inr (omega arith) ]

-- runs of one row are one, or apart

clash : (set : Square → Bool) (y a b c d : ℤ) → IsRun set y a b → IsRun set y c d → b ≡ c → ⊥
clash set y a b c d h g e = let s = g.some in false≢true (sym h.after ∙ g.inside b (omega (arith, ints)) (omega (arith, ints)))

pub row_apart : (set : Square → Bool) (r s : Rect) (y : ℤ) → IsBlock set r → IsBlock set s → r.y1 ≤ℤ y → y <ℤ r.y2 → s.y1 ≤ℤ y → y <ℤ s.y2 → (r ≡ s) ⊎ ((r.x2 <ℤ s.x1) ⊎ (s.x2 <ℤ r.x1))
row_apart set r s y h g a b c d =
    let u = h.rows y a b in
    let v = g.rows y c d in
    let us = u.some in let vs = v.some in
    by_lt_z r.x2 s.x1 (λ lt. inr (inl lt)) (λ le. by_lt_z s.x2 r.x1 (λ lt. inr (inr lt)) (λ le'.
    by_lt_z s.x1 r.x2
    (λ one. by_lt_z r.x1 s.x2
    (λ two. by_lt_z r.x1 s.x1
    (λ three. let q : Square = record { x = s.x1; y = y } in inl (shared_block set r s q h g (record { x1 = omega (arith, ints); x2 = one; y1 = a; y2 = b }) (record { x1 = omega (arith, ints); x2 = vs; y1 = c; y2 = d })))
    (λ three. let q : Square = record { x = r.x1; y = y } in inl (shared_block set r s q h g (record { x1 = omega (arith, ints); x2 = us; y1 = a; y2 = b }) (record { x1 = three; x2 = two; y1 = c; y2 = d }))))
    (λ two. absurd (clash set y s.x1 s.x2 r.x1 r.x2 v u (omega (arith, ints)))))
    (λ one. absurd (clash set y r.x1 r.x2 s.x1 s.x2 u v (omega (arith, ints))))))

-- lower sides in order
rows_ahead : (rects : List Rect) (a b : ℕ) (r s : Rect) → IsCanonical rects → a < b → slice_get rects a ≡ Some r → slice_get rects b ≡ Some s → (r.y1 <ℤ s.y1) ⊎ ((r.y1 ≡ s.y1) × (r.x2 <ℤ s.x1))
rows_ahead rects a b r s h lt e f =
    let br = (h.each r).0 (listed_at rects a r e) in
    let bs = (h.each s).0 (listed_at rects b s f) in
    let sr = br.some in let ss = bs.some in
    elim (ahead rects a b r s h.ordered lt e f) [
      | inl below ↦ inl below
      | inr p ↦
          let y = p.0 in let x = p.1 in
          let run = (bs.rows s.y1 (omega (arith, ints)) ss).some in
          elim (row_apart (covers rects) r s r.y1 br bs (omega (arith, ints)) sr (omega (arith, ints)) (omega (arith, ints))) [
            | inl same ↦ (let z = ap (λ (q : Rect). q.x1) same in absurd (omega (arith, ints, z)))
            | inr g ↦ elim g [ inl k ↦ inr (y, omega (arith, ints)) | inr k ↦ absurd (omega (arith, ints)) ]
          ]
    ]

-- upper sides in order

two_later : (r s t : Top) → IsNotLater r s → IsNotLater s t → IsNotLater r t
two_later r s t (inl h) (inl g) = inl (omega (arith, ints))
two_later r s t (inl h) (inr g) = let e = g.0 in inl (omega (arith, ints))
two_later r s t (inr h) (inl g) = let e = h.0 in inl (omega (arith, ints))
two_later r s t (inr h) (inr g) = let a = h.0 in let b = h.1 in let c = g.0 in let d = g.1 in inr (omega (arith, ints), omega (arith, ints))

far : (tops : List Top) (d : Top) (n a : ℕ) → AreSortedTops tops → a + suc n < length tops → IsNotLater (get_or tops a d) (get_or tops (a + suc n) d)
far tops d zero a h lt = let e : a + 1 ≡ a + suc zero = omega arith in subst (λ (i : ℕ). IsNotLater (get_or tops a d) (get_or tops i d)) e (h a d (omega arith))
far tops d (suc n) a h lt =
    let e : (a + suc n) + 1 ≡ a + suc (suc n) = omega arith in
    two_later (get_or tops a d) (get_or tops (a + suc n) d) (get_or tops (a + suc (suc n)) d) (far tops d n a h (omega arith))
    (subst (λ (i : ℕ). IsNotLater (get_or tops (a + suc n) d) (get_or tops i d)) e (h (a + suc n) d (omega arith)))

sorted_apart : (tops : List Top) (a b : ℕ) (s t : Top) → AreSortedTops tops → a < b → slice_get tops a ≡ Some s → slice_get tops b ≡ Some t → IsNotLater s t
sorted_apart tops a b s t h lt e f =
    let n : (k : ℕ) × (a + suc k ≡ b) = (b - suc a, omega arith) in
    let within = slice_get_within tops b t f in
    let es = get_or_from_slice_get tops a s s e in
    let et : get_or tops (a + suc n.0) s ≡ t = ap (λ (i : ℕ). get_or tops i s) n.1 ∙ get_or_from_slice_get tops b t s f in
    subst (λ (q : Top). IsNotLater q t) es (subst (λ (q : Top). IsNotLater (get_or tops a s) q) et (far tops s n.0 a h (omega (arith, n.1))))

tops_at : (k : ℕ) (rects : List Rect) (a : ℕ) (t : Top) → slice_get (tops_from k rects) a ≡ Some t → (t.index ≡ k + a) × (slice_get rects a ≡ Some t.rect)
tops_at k [] a t e = absurd (let f : None ≡ Some t = e in cc)
tops_at k (r ∷ rects) zero t e =
    let first : Top = record { rect = r; index = k } in
    let f : first ≡ t = (let g : Some first ≡ Some t = e in cc) in
    let i = ap (λ (q : Top). q.index) f in
    (omega (arith, i), ap (λ (q : Top). Some q.rect) f)
tops_at k (r ∷ rects) (suc a) t e = let p = tops_at (suc k) rects a t e in let i = p.0 in (omega (arith, i), p.1)

at_tops : (k : ℕ) (rects : List Rect) (a : ℕ) (r : Rect) → slice_get rects a ≡ Some r → slice_get (tops_from k rects) a ≡ Some (record { rect = r; index = k + a })
at_tops k [] a r e = absurd (let f : None ≡ Some r = e in cc)
at_tops k (s ∷ rects) zero r e =
    let f : s ≡ r = (let g : Some s ≡ Some r = e in cc) in
    let z : k ≡ k + zero = omega arith in
    ap (λ (q : Rect). let t : Top = record { rect = q; index = k } in Some t) f ∙ ap (λ (n : ℕ). let t : Top = record { rect = r; index = n } in Some t) z
at_tops k (s ∷ rects) (suc a) r e =
    let z : suc k + a ≡ k + suc a = omega arith in
    at_tops (suc k) rects a r e ∙ ap (λ (n : ℕ). let t : Top = record { rect = r; index = n } in Some t) z

moved_place : (xs ys : List Top) (a : ℕ) (t : Top) → IsPermutation xs ys → slice_get xs a ≡ Some t → (b : ℕ) × (slice_get ys b ≡ Some t)
moved_place xs ys a t p e =
    let c : Contains xs t = (a, slice_get_within xs a t e, get_or_from_slice_get xs a t t e) in
    let g = Contains-permutation xs ys t p c in
    (g.0, slice_get-get_or ys g.0 t g.1 ∙ ap (λ (q : Top). Some q) g.2)

pub are_tops : (rects : List Rect) (tops : List Top) → IsCanonical rects → IsPermutation (tops_from 0 rects) tops → AreSortedTops tops → AreTops rects tops
are_tops rects tops h p sorted = record {
  each = each;
  all = λ x r e. (let f = at_tops 0 rects x r e in
      let z : 0 + x ≡ x = omega arith in
      moved_place (tops_from 0 rects) tops x (record { rect = r; index = x }) p (f ∙ ap (λ (n : ℕ). let t : Top = record { rect = r; index = n } in Some t) z));
  order = λ a b s t lt e f.
      let es = each a s e in
      let et = each b t f in
      let bs = (h.each s.rect).0 (listed_at rects s.index s.rect es) in
      let bt = (h.each t.rect).0 (listed_at rects t.index t.rect et) in
      let ss = bs.some in let st = bt.some in
      elim (sorted_apart tops a b s t sorted lt e f) [
        | inl below ↦ inr (inl below)
        | inr k ↦
            let y = k.0 in let x = k.1 in
            let run = (bt.rows t.rect.y1 (omega (arith, ints)) st).some in
            elim (row_apart (covers rects) s.rect t.rect (s.rect.y2 -ℤ pos 1) bs bt (omega (arith, ints)) (omega (arith, ints)) (omega (arith, ints)) (omega (arith, ints))) [
              | inl same ↦ inl (one_place rects s.index t.index s.rect h.ordered es (et ∙ ap (λ (q : Rect). Some q) (sym same)))
              | inr g ↦ elim g [ inl i ↦ inr (inr (y, omega (arith, ints))) | inr i ↦ absurd (omega (arith, ints)) ]
            ]
      ];
}
  where
    each : (a : ℕ) (t : Top) → slice_get tops a ≡ Some t → slice_get rects t.index ≡ Some t.rect
    each a t e =
        let m = moved_place tops (tops_from 0 rects) a t (IsPermutation-sym (tops_from 0 rects) tops p) e in
        let w = tops_at 0 rects m.0 t m.1 in
        let i = w.0 in
        let z : t.index ≡ m.0 = omega (arith, i) in
        subst (λ (n : ℕ). slice_get rects n ≡ Some t.rect) (sym z) w.1

-- links

pub linked_left : (xs ys : List Link) (x y : ℕ) → IsLinked xs x y → IsLinked (xs ++ ys) x y
linked_left [] ys x y h = absurd h
linked_left (l ∷ xs) ys x y (inl h) = inl h
linked_left (l ∷ xs) ys x y (inr h) = inr (linked_left xs ys x y h)

pub linked_right : (xs ys : List Link) (x y : ℕ) → IsLinked ys x y → IsLinked (xs ++ ys) x y
linked_right [] ys x y h = h
linked_right (l ∷ xs) ys x y h = inr (linked_right xs ys x y h)

linked_either : (xs ys : List Link) (x y : ℕ) → IsLinked (xs ++ ys) x y → IsLinked xs x y ⊎ IsLinked ys x y
linked_either [] ys x y h = inr h
linked_either (l ∷ xs) ys x y (inl h) = inl (inl h)
linked_either (l ∷ xs) ys x y (inr h) = elim (linked_either xs ys x y h) [ inl g ↦ inl (inr g) | inr g ↦ inr g ]

range_both : (n : ℕ) (xs ys : List Link) → AreInRange n xs → AreInRange n ys → AreInRange n (xs ++ ys)
range_both n [] ys h g = g
range_both n (l ∷ xs) ys h g = (h.0, h.1, range_both n xs ys h.2 g)

up_to_no_more : (j : Joint) (a b : ℤ) → IsUpTo j a b → a ≤ℤ b
up_to_no_more Edges a b h = omega (arith, ints)
up_to_no_more Corners a b h = h

over_from : (j : Joint) (a b : Rect) → is_over j a b ≡ true → IsOver j a b
over_from Edges a b e =
    let p = and_parts (int_eq a.y2 b.y1) (crosses Edges a b) e in
    let q = and_parts (int_lt a.x1 b.x2) (int_lt b.x1 a.x2) p.1 in
    record { row = (Decides-int_eq a.y2 b.y1).0 p.0; left = lt_from a.x1 b.x2 q.0; right = lt_from b.x1 a.x2 q.1 }
over_from Corners a b e =
    let p = and_parts (int_eq a.y2 b.y1) (crosses Corners a b) e in
    let q = and_parts (int_le a.x1 b.x2) (int_le b.x1 a.x2) p.1 in
    record { row = (Decides-int_eq a.y2 b.y1).0 p.0; left = le_from a.x1 b.x2 q.0; right = le_from b.x1 a.x2 q.1 }

over_to : (j : Joint) (a b : Rect) → IsOver j a b → is_over j a b ≡ true
over_to Edges a b h = let x = h.row in let y = h.left in let z = h.right in grind (arith, ints, Decides-int_eq a.y2 b.y1)
over_to Corners a b h = let x = h.row in let y = h.left in let z = h.right in grind (arith, ints, Decides-int_eq a.y2 b.y1)

first_from : (a b : Rect) → ends_first a b ≡ true → (a.y2 <ℤ b.y1) ⊎ ((a.y2 ≡ b.y1) × (a.x2 ≤ℤ b.x2))
first_from a b e = elim (or_cases (int_lt a.y2 b.y1) (int_eq a.y2 b.y1 && int_le a.x2 b.x2) e) [
  | inl h ↦ inl (lt_from a.y2 b.y1 h)
  | inr h ↦ let p = and_parts (int_eq a.y2 b.y1) (int_le a.x2 b.x2) h in inr ((Decides-int_eq a.y2 b.y1).0 p.0, le_from a.x2 b.x2 p.1)
]

first_not : (a b : Rect) → ends_first a b ≡ false → (b.y1 <ℤ a.y2) ⊎ ((a.y2 ≡ b.y1) × (b.x2 <ℤ a.x2))
first_not a b e =
    by_lt_z a.y2 b.y1 (λ lt. absurd (false≢true (sym e ∙ lower a b lt)))
    (λ le. by_lt_z b.y1 a.y2 (λ lt. inl lt)
    (λ le'. by_lt_z b.x2 a.x2 (λ lt. inr (omega (arith, ints), lt))
    (λ le2. absurd (false≢true (sym e ∙ level a b (omega (arith, ints)) le2)))))
  where
    le_to : (a b : ℤ) → a ≤ℤ b → int_le a b ≡ true
    le_to a b h = grind (arith, ints)

    lower : (a b : Rect) → a.y2 <ℤ b.y1 → ends_first a b ≡ true
    lower a b lt = grind (arith, ints)

    level : (a b : Rect) → a.y2 ≡ b.y1 → a.x2 ≤ℤ b.x2 → ends_first a b ≡ true
    level a b y le = let t = (Decides-int_eq a.y2 b.y1).1 y in or_right (int_lt a.y2 b.y1) (int_eq a.y2 b.y1 && int_le a.x2 b.x2) (and_from (int_eq a.y2 b.y1) (int_le a.x2 b.x2) t (le_to a.x2 b.x2 le))

-- the walk

pub contacts_none : (j : Joint) (rects : List Rect) (tops : List Top) → ContactsSoFar j rects tops 0 0 []
contacts_none j rects tops = record { sound = λ x y h. absurd h; inside = tt; seen = λ a b t s e f w over. absurd (elim w [ inl lt ↦ omega arith | inr lt ↦ omega arith ]) }

same_some : {A : Type 0} (xs : List A) (a : ℕ) (s t : A) → slice_get xs a ≡ Some s → slice_get xs a ≡ Some t → s ≡ t
same_some xs a s t e f = let g : Some s ≡ Some t = sym e ∙ f in cc

module _ (joint : Joint) (rects : List Rect) (tops : List Top) (good : IsCanonical rects) (are : AreTops rects tops) (i j : ℕ) (links : List Link) (far : ContactsSoFar joint rects tops i j links)
    (t : Top) (r : Rect) (at_i : slice_get tops i ≡ Some t) (at_j : slice_get rects j ≡ Some r) where
  abbrev new : List Link
  new = links ++ found joint t r j

  abbrev link : Link
  link = record { one = t.index; other = j }

  here : IsOver joint t.rect r → IsLinked new t.index j
  here over =
      let e : found joint t r j ≡ link ∷ [] = ap (λ (b : Bool). if b then (link ∷ []) else []) (over_to joint t.rect r over) in
      linked_right links (found joint t r j) t.index j (subst (λ (ls : List Link). IsLinked ls t.index j) (sym e) (inl (inl (refl, refl))))

  contact : IsOver joint t.rect r → IsContact joint rects t.index j
  contact over = record { one = t.rect; other = r; first = are.each i t at_i; second = at_j; over = over }

  sound_found : (x y : ℕ) → IsLinked (found joint t r j) x y → IsContact joint rects x y ⊎ IsContact joint rects y x
  sound_found x y h = elim (cases_Bool (is_over joint t.rect r)) [
    | inl e ↦
        let over = contact (over_from joint t.rect r e) in
        let f : found joint t r j ≡ link ∷ [] = ap (λ (b : Bool). if b then (link ∷ []) else []) e in
        elim (subst (λ (ls : List Link). IsLinked ls x y) f h) [
          | inl o ↦ elim o [
            | inl p ↦ inl (subst (λ (v : ℕ). IsContact joint rects x v) p.1 (subst (λ (v : ℕ). IsContact joint rects v j) p.0 over))
            | inr p ↦ inr (subst (λ (v : ℕ). IsContact joint rects y v) p.1 (subst (λ (v : ℕ). IsContact joint rects v j) p.0 over))
          ]
          | inr none ↦ absurd none
        ]
    | inr e ↦ (let f : found joint t r j ≡ [] = ap (λ (b : Bool). if b then (link ∷ []) else []) e in absurd (subst (λ (ls : List Link). IsLinked ls x y) f h))
  ]

  sound_new : (x y : ℕ) → IsLinked new x y → IsContact joint rects x y ⊎ IsContact joint rects y x
  sound_new x y h = elim (linked_either links (found joint t r j) x y h) [ inl g ↦ far.sound x y g | inr g ↦ sound_found x y g ]

  inside_found : AreInRange (length rects) (found joint t r j)
  inside_found = elim (cases_Bool (is_over joint t.rect r)) [
    | inl e ↦
        let f : found joint t r j ≡ link ∷ [] = ap (λ (b : Bool). if b then (link ∷ []) else []) e in
        subst (λ (ls : List Link). AreInRange (length rects) ls) (sym f) (slice_get_within rects t.index t.rect (are.each i t at_i), slice_get_within rects j r at_j, tt)
    | inr e ↦ (let f : found joint t r j ≡ [] = ap (λ (b : Bool). if b then (link ∷ []) else []) e in subst (λ (ls : List Link). AreInRange (length rects) ls) (sym f) tt)
  ]

  inside_new : AreInRange (length rects) new
  inside_new = range_both (length rects) links (found joint t r j) far.inside inside_found

  old : (a b : ℕ) (u : Top) (s : Rect) → slice_get tops a ≡ Some u → slice_get rects b ≡ Some s → (a < i) ⊎ (b < j) → IsOver joint u.rect s → IsLinked new u.index b
  old a b u s e f w over = linked_left links (found joint t r j) u.index b (far.seen a b u s e f w over)

  past_rect : (b : ℕ) (s : Rect) → j < b → slice_get rects b ≡ Some s → ends_first t.rect r ≡ true → IsOver joint t.rect s → ⊥
  past_rect b s lt f first over =
      let y = over.row in let p = up_to_no_more joint t.rect.x1 s.x2 over.left in let q = up_to_no_more joint s.x1 t.rect.x2 over.right in
      elim (rows_ahead rects j b r s good lt at_j f) [
        | inl k ↦ elim (first_from t.rect r first) [ inl h ↦ omega (arith, ints) | inr h ↦ (let h0 = h.0 in omega (arith, ints)) ]
        | inr k ↦ let k0 = k.0 in let k1 = k.1 in elim (first_from t.rect r first) [ inl h ↦ omega (arith, ints) | inr h ↦ (let h0 = h.0 in let h1 = h.1 in omega (arith, ints)) ]
      ]

  pub top_done : ends_first t.rect r ≡ true → ContactsSoFar joint rects tops (i + 1) j new
  top_done first = record {
    sound = sound_new;
    inside = inside_new;
    seen = λ a b u s e f w over.
        elim (cases_lt a i) [
          | inl lt ↦ old a b u s e f (inl lt) over
          | inr le ↦ elim (cases_lt b j) [
            | inl lt ↦ old a b u s e f (inr lt) over
            | inr le' ↦ at_top a b u s e f (elim w [ inl lt ↦ omega arith | inr lt ↦ absurd (omega arith) ]) le' first over
          ]
        ];
  }
    where
      at_top : (a b : ℕ) (u : Top) (s : Rect) → slice_get tops a ≡ Some u → slice_get rects b ≡ Some s → a ≡ i → j ≤ b → ends_first t.rect r ≡ true → IsOver joint u.rect s → IsLinked new u.index b
      at_top a b u s e f same le first over =
          let is : t ≡ u = same_some tops i t u at_i (subst (λ (n : ℕ). slice_get tops n ≡ Some u) same e) in
          let over' : IsOver joint t.rect s = subst (λ (q : Top). IsOver joint q.rect s) (sym is) over in
          subst (λ (q : Top). IsLinked new q.index b) is
          (elim (cases_lt j b) [
            | inl lt ↦ absurd (past_rect b s lt f first over')
            | inr le2 ↦
                let eb : b ≡ j = omega arith in
                let sr : r ≡ s = same_some rects j r s at_j (subst (λ (n : ℕ). slice_get rects n ≡ Some s) eb f) in
                subst (λ (n : ℕ). IsLinked new t.index n) (sym eb) (here (subst (λ (q : Rect). IsOver joint t.rect q) (sym sr) over'))
          ])

  pub rect_done : ends_first t.rect r ≡ false → ContactsSoFar joint rects tops i (j + 1) new
  rect_done first = record {
    sound = sound_new;
    inside = inside_new;
    seen = λ a b u s e f w over.
        elim (cases_lt a i) [
          | inl lt ↦ old a b u s e f (inl lt) over
          | inr le ↦ elim (cases_lt b j) [
            | inl lt ↦ old a b u s e f (inr lt) over
            | inr le' ↦ at_rect a b u s e f le (elim w [ inl lt ↦ absurd (omega arith) | inr lt ↦ omega arith ]) first over
          ]
        ];
  }
    where
      later : (a : ℕ) (u : Top) → slice_get tops a ≡ Some u → i < a → ends_first t.rect r ≡ false → IsOver joint u.rect r → IsLinked new u.index j
      later a u e lt first over =
          let y = over.row in let p = up_to_no_more joint u.rect.x1 r.x2 over.left in let q = up_to_no_more joint r.x1 u.rect.x2 over.right in
          elim (are.order i a t u lt at_i e) [
            | inl same ↦
                let rect : t.rect ≡ u.rect = same_some rects u.index t.rect u.rect (subst (λ (n : ℕ). slice_get rects n ≡ Some t.rect) same (are.each i t at_i)) (are.each a u e) in
                subst (λ (n : ℕ). IsLinked new n j) same (here (subst (λ (q : Rect). IsOver joint q r) (sym rect) over))
            | inr k ↦ absurd (elim k [
              | inl below ↦ elim (first_not t.rect r first) [ inl h ↦ omega (arith, ints) | inr h ↦ (let h0 = h.0 in omega (arith, ints)) ]
              | inr g ↦ let g0 = g.0 in let g1 = g.1 in elim (first_not t.rect r first) [ inl h ↦ omega (arith, ints) | inr h ↦ (let h0 = h.0 in let h1 = h.1 in omega (arith, ints)) ]
            ])
          ]

      at_rect : (a b : ℕ) (u : Top) (s : Rect) → slice_get tops a ≡ Some u → slice_get rects b ≡ Some s → i ≤ a → b ≡ j → ends_first t.rect r ≡ false → IsOver joint u.rect s → IsLinked new u.index b
      at_rect a b u s e f le same first over =
          let sr : r ≡ s = same_some rects j r s at_j (subst (λ (n : ℕ). slice_get rects n ≡ Some s) same f) in
          let over' : IsOver joint u.rect r = subst (λ (q : Rect). IsOver joint u.rect q) (sym sr) over in
          subst (λ (n : ℕ). IsLinked new u.index n) (sym same)
          (elim (cases_lt i a) [
            | inl lt ↦ later a u e lt first over'
            | inr le2 ↦
                let ea : a ≡ i = omega arith in
                let is : t ≡ u = same_some tops i t u at_i (subst (λ (n : ℕ). slice_get tops n ≡ Some u) ea e) in
                subst (λ (q : Top). IsLinked new q.index j) is (here (subst (λ (q : Top). IsOver joint q.rect r) (sym is) over'))
          ])

pub contacts_all : (joint : Joint) (rects : List Rect) (tops : List Top) (i j : ℕ) (links : List Link) → AreTops rects tops → (length tops ≤ i) ⊎ (length rects ≤ j) → ContactsSoFar joint rects tops i j links → AreContacts joint rects links
contacts_all joint rects tops i j links are over far = record {
  sound = far.sound;
  complete = λ x y c.
      let t : Top = record { rect = c.one; index = x } in
      let a = are.all x c.one c.first in
      let la = slice_get_within tops a.0 t a.1 in
      let lb = slice_get_within rects y c.other c.second in
      far.seen a.0 y t c.other a.1 c.second (elim over [ inl le ↦ inl (omega arith) | inr le ↦ inr (omega arith) ]) c.over;
  inside = far.inside;
}

tops_push : (k n : ℕ) (xs : List Rect) (r : Rect) → k + length xs ≡ n → tops_from k (xs ++ r ∷ []) ≡ tops_from k xs ++ record { rect = r; index = n } ∷ []
tops_push k n [] r e = let z : k ≡ n = omega (arith, e) in ap (λ (v : ℕ). let t : Top = record { rect = r; index = v } in t ∷ []) z
tops_push k n (x ∷ xs) r e = let z : suc k + length xs ≡ n = omega (arith, e) in ap (λ (ts : List Top). record { rect = x; index = k } ∷ ts) (tops_push (suc k) n xs r z)

pub tops_more : (rects : List Rect) (i : ℕ) (d : Rect) (out : List Top) → i < length rects → out ≡ tops_from 0 (take i rects) → out ++ record { rect = get_or rects i d; index = i } ∷ [] ≡ tops_from 0 (take (i + 1) rects)
tops_more rects i d out lt h =
    let t : Top = record { rect = get_or rects i d; index = i } in
    let long : 0 + length (take i rects) ≡ i = omega (arith, length-take-le i rects (omega arith)) in
    ap (λ (l : List Top). l ++ t ∷ []) h ∙ sym (tops_push 0 i (take i rects) (get_or rects i d) long) ∙ ap (tops_from 0) (sym (take_more rects i d lt))
