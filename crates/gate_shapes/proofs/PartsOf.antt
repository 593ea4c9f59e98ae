-- The classes of linked rectangles cover the regions.
use Rattle.std.proofs.Common.{◌≡◌, ◌⊎◌, ◌↔◌, inl, inr, ℕ, ◌+◌, ◌<◌, List, [], ◌∷◌, ◌++◌, Some, None, length, get_or, take, refl, length-append, sym, ◌∙◌, ap, subst, arith}
use Rattle.std.specs.Prelude.{slice_get, Vec}
use Rattle.std.specs.Global.{Global}
use Rattle.std.specs.List.{All}
use Rattle.std.proofs.lemmas.Int.{ints, by_lt_z}
use Rattle.std.proofs.lemmas.List.{take_more, length-take-le}
use Rattle.std.proofs.lemmas.Option.{slice_get_within, slice_get-get_or, get_or_from_slice_get, slice_get_cases}
use Rattle.geo_base.specs.Rects.{IsRect}
use Rattle.geo_base.specs.declared.shapes.Rect.{Rect}
use Rattle.geo_base.specs.declared.shapes.Square.{Square}
use Rattle.link_classes.specs.Classes.{AreClasses}
use Rattle.link_classes.specs.declared.classes.Link.{Link}
use Rattle.plain_netlist.specs.Chains.{IsChain}
use Rattle.rect_sets.specs.Rects.{covers, IsBelow, AreAbove, IsOrdered, IsListed, IsCanonical}
use Rattle.rect_sets.proofs.Blocking.{listed_covers, covers_listed}
use Rattle.rect_sets.proofs.Splitting.{IsInside, inside_from}
use Rattle.rect_sets.proofs.Unique.{all_rects, rect_of}
use Rattle.flat_layout.specs.Parts.{Joint, Edges, IsStep, InRegion}
use Rattle.flat_laws.proofs.Joints.{last_in}
use Rattle.gate_shapes.specs.Contacts.{AreContacts}
use Rattle.gate_shapes.specs.PartLists.{AreRegions, members}
use Rattle.flat_layout.specs.Parts.{IsLeast}
use Rattle.flat_layout.specs.Plane.{IsSquareBefore}
use Rattle.gate_shapes.specs.Sets.{in_set}
use Rattle.gate_shapes.specs.Sorted.{AreSortedOut, AreSetsOf, HaveRects}
use Rattle.gate_shapes.proofs.Areas.{same_square, inside_has}
use Rattle.gate_shapes.proofs.Joined.{squares_joined, places_joined}
use Rattle.gate_shapes.proofs.Members.{get_push, member_place, place_member, ordered_members}
use Rattle.gate_shapes.proofs.Touching.{listed_at, place_of, ahead}

abbrev corner : Rect → Square
corner r = record { x = r.x1; y = r.y1 }

listed_above : (r s : Rect) (rects : List Rect) → AreAbove r rects → IsListed s rects → IsBelow r s
listed_above r s [] h l = absurd l
listed_above r s (t ∷ rects) h (inl e) = subst (λ (q : Rect). IsBelow r q) (sym e) h.0
listed_above r s (t ∷ rects) h (inr l) = listed_above r s rects h.1 l

corner_in : (r : Rect) → IsRect r → IsInside r (corner r)
corner_in r h = let w = h.wide in let t = h.high in record { x1 = omega (arith, ints); x2 = w; y1 = omega (arith, ints); y2 = t }

-- a rectangle's squares come no earlier than its corner
after_corner : (r : Rect) (q : Square) → IsInside r q → (corner r ≡ q) ⊎ IsSquareBefore (corner r) q
after_corner r q h =
    let a = h.x1 in let c = h.y1 in
    by_lt_z r.y1 q.y (λ lt. inr (inl lt)) (λ le. by_lt_z r.x1 q.x (λ lt. inr (inr (omega (arith, ints), lt))) (λ le'. inl (same_square (corner r) q (omega (arith, ints)) (omega (arith, ints)))))

two_before : (p q r : Square) → IsSquareBefore p q → IsSquareBefore q r → IsSquareBefore p r
two_before p q r (inl h) (inl g) = inl (omega (arith, ints))
two_before p q r (inl h) (inr g) = let e = g.0 in inl (omega (arith, ints))
two_before p q r (inr h) (inl g) = let e = h.0 in inl (omega (arith, ints))
two_before p q r (inr h) (inr g) = let a = h.0 in let b = h.1 in let c = g.0 in let d = g.1 in inr (omega (arith, ints), omega (arith, ints))

pub before_after : (p q : Square) → IsSquareBefore p q → IsSquareBefore q p → ⊥
before_after p q (inl h) (inl g) = omega (arith, ints)
before_after p q (inl h) (inr g) = let e = g.0 in omega (arith, ints)
before_after p q (inr h) (inl g) = let e = h.0 in omega (arith, ints)
before_after p q (inr h) (inr g) = let b = h.1 in let d = g.1 in omega (arith, ints)

pub one_least : (set : Square → Type 0) (s t : Square) → IsLeast set s → IsLeast set t → s ≡ t
one_least set s t h g = elim (h.least t g.has) [ inl e ↦ e | inr b ↦ elim (g.least s h.has) [ inl e ↦ sym e | inr d ↦ absurd (before_after s t b d) ] ]

-- the corner of the first of a list in order is its least square
pub least_of : (r : Rect) (rest : List Rect) → IsOrdered (r ∷ rest) → ((s : Rect) → IsListed s (r ∷ rest) → IsRect s) → IsLeast (in_set (r ∷ rest)) (corner r)
least_of r rest o good = record {
  has = listed_covers (r ∷ rest) (corner r) r (inl refl) (inside_has r (corner r) (corner_in r (good r (inl refl))));
  least = λ q e.
      let s = covers_listed (r ∷ rest) q e in
      let i = after_corner s.one q (inside_from s.one q s.inside) in
      elim s.listed [
        | inl same ↦ subst (λ (t : Rect). (corner t ≡ q) ⊎ IsSquareBefore (corner t) q) same i
        | inr l ↦ let b : IsSquareBefore (corner r) (corner s.one) = listed_above r s.one rest o.0 l in
            elim i [ inl e' ↦ inr (subst (λ (v : Square). IsSquareBefore (corner r) v) e' b) | inr d ↦ inr (two_before (corner r) (corner s.one) q b d) ]
      ];
}

least_to : (a b : List Rect) (s : Square) → ((q : Square) → covers a q ≡ covers b q) → IsLeast (in_set a) s → IsLeast (in_set b) s
least_to a b s same h = record { has = sym (same s) ∙ h.has; least = λ q e. h.least q (same q ∙ e) }

pub end_in : (S : Square → Type 0) (p q : Square) (via : List Square) → S p → IsChain (IsStep S) p via q → S q
end_in S p q via h chain = last_in Edges S p q via h chain

module _ (joint : Joint) (rects : List Rect) (good : IsCanonical rects) (links : List Link) (are : AreContacts joint rects links) (n count : ℕ) (cs : List ℕ) (long : n ≡ length rects) (classes : AreClasses n links cs count) where
  rect_at : (r : Rect) → IsListed r rects → IsRect r
  rect_at r l = rect_of (covers rects) r ((good.each r).0 l)

  class_at : (j x : ℕ) → slice_get cs j ≡ Some x → get_or cs j 0 ≡ x
  class_at j x e = get_or_from_slice_get cs j x 0 e

  at_class : (j : ℕ) (r : Rect) → slice_get rects j ≡ Some r → slice_get cs j ≡ Some (get_or cs j 0)
  at_class j r e = let w = slice_get_within rects j r e in let l = classes.long in slice_get-get_or cs j 0 (omega (arith, w, l, long))

  below : (j : ℕ) (r : Rect) → slice_get rects j ≡ Some r → j < n
  below j r e = let w = slice_get_within rects j r e in omega (arith, w, long)

  -- the first rectangle of a class
  record IsFirst (x : ℕ) (first : Rect) (rest : List Rect) : Type 0 where
    is : members x cs rects ≡ first ∷ rest
    place : ℕ
    class : slice_get cs place ≡ Some x
    rect : slice_get rects place ≡ Some first

  first_of : (x : ℕ) (r : Rect) (ms : List Rect) → members x cs rects ≡ ms → IsListed r ms → (first : Rect) × (rest : List Rect) × IsFirst x first rest
  first_of x r [] e l = absurd l
  first_of x r (f ∷ rest) e l =
      let p = member_place x cs rects f (subst (λ (ms : List Rect). IsListed f ms) (sym e) (inl refl)) in
      (f, rest, record { is = e; place = p.0; class = p.1.class; rect = p.1.rect })

  used : (x : ℕ) → x < count → (first : Rect) × (rest : List Rect) × IsFirst x first rest
  used x lt =
      let u = classes.used x lt in
      let w = u.1 in
      elim ((slice_get_cases rects u.0).1) [
        | inl c ↦ (let e : slice_get cs u.0 ≡ Some x = at_class u.0 c.0 c.2 ∙ ap (λ (k : ℕ). Some k) u.2 in first_of x c.0 (members x cs rects) refl (place_member x cs rects c.0 u.0 e c.2))
        | inr c ↦ (let le = c.0 in absurd (omega (arith, w, le, long)))
      ]

  member_rect : (x : ℕ) (r : Rect) → IsListed r (members x cs rects) → IsRect r
  member_rect x r l = let p = member_place x cs rects r l in rect_at r (listed_at rects p.0 r p.1.rect)

  least_first : (x : ℕ) (first : Rect) (rest : List Rect) → IsFirst x first rest → IsLeast (in_set (members x cs rects)) (corner first)
  least_first x first rest h =
      subst (λ (ms : List Rect). IsLeast (in_set ms) (corner first)) (sym h.is)
      (least_of first rest (subst (λ (ms : List Rect). IsOrdered ms) h.is (ordered_members x cs rects good.ordered)) (λ s l. member_rect x s (subst (λ (ms : List Rect). IsListed s ms) (sym h.is) l)))

  same_part : (x : ℕ) (first : Rect) (rest : List Rect) → IsFirst x first rest → (q : Square) → in_set (members x cs rects) q ↔ InRegion joint (in_set rects) (corner first) q
  same_part x first rest h q =
      let l = listed_at rects h.place first h.rect in
      let inside = corner_in first (rect_at first l) in
      let start : in_set rects (corner first) = listed_covers rects (corner first) first l (inside_has first (corner first) inside) in
      let px = class_at h.place x h.class in (
        (λ e.
            let s = covers_listed (members x cs rects) q e in
            let p = member_place x cs rects s.one s.listed in
            let way = (classes.joined h.place p.0 (below h.place first h.rect) (below p.0 s.one p.1.rect)).0 (px ∙ sym (class_at p.0 x p.1.class)) in
            record { from = start; joined = squares_joined rects joint good links are h.place p.0 first s.one (corner first) q h.rect p.1.rect inside (inside_from s.one q s.inside) way }),
        (λ g.
            let here = last_in joint (in_set rects) (corner first) q g.joined.via start g.joined.chain in
            let s = covers_listed rects q here in
            let j = place_of rects s.one s.listed in
            let way = places_joined rects joint good links are h.place j.0 first s.one (corner first) q h.rect j.1 inside (inside_from s.one q s.inside) g.joined in
            let same = (classes.joined h.place j.0 (below h.place first h.rect) (below j.0 s.one j.1)).1 way in
            let e : slice_get cs j.0 ≡ Some x = at_class j.0 s.one j.1 ∙ ap (λ (k : ℕ). Some k) (sym same ∙ px) in
            listed_covers (members x cs rects) q s.one (place_member x cs rects s.one j.0 e j.1) s.inside),
      )

  -- classes begin in their order
  in_order : (x y : ℕ) (a b : Rect) (am bm : List Rect) → IsFirst x a am → IsFirst y b bm → x < y → IsSquareBefore (corner a) (corner b)
  in_order x y a b am bm h g lt =
      let py = class_at g.place y g.class in
      let m = classes.earlier g.place x (below g.place b g.rect) (omega (arith, py, lt)) in
      let w = slice_get_within rects g.place b g.rect in
      let mlt = m.1 in
      elim ((slice_get_cases rects m.0).1) [
        | inl c ↦
            let e : slice_get cs m.0 ≡ Some x = at_class m.0 c.0 c.2 ∙ ap (λ (k : ℕ). Some k) m.2 in
            let l : IsListed c.0 (a ∷ am) = subst (λ (ms : List Rect). IsListed c.0 ms) h.is (place_member x cs rects c.0 m.0 e c.2) in
            let o : IsOrdered (a ∷ am) = subst (λ (ms : List Rect). IsOrdered ms) h.is (ordered_members x cs rects good.ordered) in
            let later : IsSquareBefore (corner c.0) (corner b) = ahead rects m.0 g.place c.0 b good.ordered mlt c.2 g.rect in
            elim l [
              | inl same ↦ subst (λ (r : Rect). IsSquareBefore (corner r) (corner b)) same later
              | inr k ↦ two_before (corner a) (corner c.0) (corner b) (listed_above a c.0 am o.0 k) later
            ]
        | inr c ↦ (let le = c.0 in absurd (omega (arith, w, le, mlt)))
      ]

  pub have_rects : (lists : List (Vec Rect Global)) → AreSortedOut rects cs count lists → HaveRects lists
  have_rects lists sorted x list e =
      let same = sorted.each x list e in
      subst (λ (ms : List Rect). All IsRect ms) (sym same) (all_rects (members x cs rects) (λ r l. member_rect x r l))

  module _ (lists : List (Vec Rect Global)) (sorted : AreSortedOut rects cs count lists) (sets : List (List Rect)) (made : AreSetsOf lists sets) where
    covers_members : (x : ℕ) (part : List Rect) → slice_get sets x ≡ Some part → (x < count) × ((q : Square) → covers part q ≡ covers (members x cs rects) q)
    covers_members x part e =
        let w = slice_get_within sets x part e in
        let a = made.long in let b = sorted.long in
        elim ((slice_get_cases lists x).1) [
          | inl c ↦ (omega (arith, w, a, b), λ q. made.each x c.0 part c.2 e q ∙ ap (λ (ms : List Rect). covers ms q) (sorted.each x c.0 c.2))
          | inr c ↦ (let le = c.0 in absurd (omega (arith, w, a, le)))
        ]

    least_at : (x : ℕ) (part : List Rect) → slice_get sets x ≡ Some part → (first : Rect) × (rest : List Rect) × IsFirst x first rest × IsLeast (in_set part) (corner first)
    least_at x part e =
        let c = covers_members x part e in
        let f = used x c.0 in
        (f.0, f.1, f.2, least_to (members x cs rects) part (corner f.0) (λ q. sym (c.1 q)) (least_first x f.0 f.1 f.2))

    pub parts_law : AreRegions joint rects sets
    parts_law = record {
      each = λ x part e.
          let c = covers_members x part e in
          let f = least_at x part e in (
            corner f.0,
            record {
              least = f.3;
              same = λ q. (
                (λ g. (same_part x f.0 f.1 f.2 q).0 (sym (c.1 q) ∙ g)),
                (λ g. c.1 q ∙ (same_part x f.0 f.1 f.2 q).1 g),
              );
            },
          );
      found = λ q h.
          let s = covers_listed rects q h in
          let j = place_of rects s.one s.listed in
          let x = get_or cs j.0 0 in
          let lt = classes.below j.0 (below j.0 s.one j.1) in
          let a = made.long in let b = sorted.long in
          elim ((slice_get_cases sets x).1) [
            | inl c ↦ (x, c.0, c.2, (covers_members x c.0 c.2).1 q ∙ listed_covers (members x cs rects) q s.one (place_member x cs rects s.one j.0 (at_class j.0 s.one j.1) j.1) s.inside)
            | inr c ↦ (let le = c.0 in absurd (omega (arith, lt, a, b, le)))
          ];
      order = λ x y a b s t lt e f h g.
          let i = least_at x a e in
          let j = least_at y b f in
          subst (λ (v : Square). IsSquareBefore v t) (one_least (in_set a) (corner i.0) s i.3 h)
          (subst (λ (v : Square). IsSquareBefore (corner i.0) v) (one_least (in_set b) (corner j.0) t j.3 g) (in_order x y i.0 j.0 i.1 j.1 i.2 j.2 lt));
    }

pub sets_more : (lists : List (Vec Rect Global)) (sets : List (List Rect)) (i : ℕ) (list : Vec Rect Global) (set : List Rect) → i < length lists → slice_get lists i ≡ Some list → ((q : Square) → covers set q ≡ covers list.items q)
    → AreSetsOf (take i lists) sets → AreSetsOf (take (i + 1) lists) (sets ++ set ∷ [])
sets_more lists sets i list set lt at same h =
    let here : get_or lists i list ≡ list = get_or_from_slice_get lists i list list at in
    let more : take (i + 1) lists ≡ take i lists ++ list ∷ [] = take_more lists i list lt ∙ ap (λ (v : Vec Rect Global). take i lists ++ v ∷ []) here in
    let long = length-take-le i lists (omega arith) in
    let next = length-take-le (i + 1) lists (omega arith) in
    let count = h.long in
    record {
      long = omega (arith, length-append sets (set ∷ []), long, next, count);
      each = λ x l s e f.
          elim (get_push (take i lists) list l x (sym (ap (λ (ls : List (Vec Rect Global)). slice_get ls x) more) ∙ e)) [
            | inl a ↦ elim (get_push sets set s x f) [
              | inl b ↦ h.each x l s a b
              | inr b ↦ (let w = slice_get_within (take i lists) x l a in let z = b.1 in absurd (omega (arith, w, z, count)))
            ]
            | inr a ↦ elim (get_push sets set s x f) [
              | inl b ↦ (let w = slice_get_within sets x s b in let z = a.1 in absurd (omega (arith, w, z, count)))
              | inr b ↦ λ q. ap (λ (r : List Rect). covers r q) b.0 ∙ same q ∙ ap (λ (v : Vec Rect Global). covers v.items q) (sym a.0)
            ]
          ];
    }

pub sets_none : (lists : List (Vec Rect Global)) → AreSetsOf (take 0 lists) []
sets_none lists = record { long = refl; each = λ x l s e f. absurd (let g : None ≡ Some s = f in cc) }

pub least_law : (rects : List Rect) (r : Rect) → IsCanonical rects → Some r ≡ slice_get rects 0 → IsLeast (in_set rects) (corner r)
least_law [] r h e = absurd (let g : Some r ≡ None = e in cc)
least_law (s ∷ rest) r h e =
    let same : s ≡ r = (let g : Some r ≡ Some s = e in cc) in
    subst (λ (q : Rect). IsLeast (in_set (s ∷ rest)) (corner q)) same (least_of s rest h.ordered (λ q l. rect_of (covers (s ∷ rest)) q ((h.each q).0 l)))
