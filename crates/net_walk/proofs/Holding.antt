-- The nets of a cell that hold squares of a conductor.
use Rattle.std.proofs.Common.{◌≡◌, ◌⊎◌, ◌↔◌, inl, inr, ℕ, zero, suc, ◌+◌, ◌<◌, ◌==◌, ◌||◌, Bool, true, false, List, [], ◌∷◌, ◌++◌, Some, slice_get, get_or, length, take, drop, refl, sym, ◌∙◌, ap, subst, arith, eqb-true, eq-eqb}
use Rattle.base_laws.proofs.Lists.{none_set}
use Rattle.std.proofs.lemmas.Bool.{or_cases, or_left, or_right}
use Rattle.std.specs.Prelude.{replicate}
use Rattle.std.proofs.Math.Decide.{ℕ_discrete}
use Rattle.std.proofs.Math.Seq.{take-append_seam}
use Rattle.std.proofs.lemmas.Int.{ints}
use Rattle.std.proofs.lemmas.Option.{get_or_from_slice_get, slice_get_within, slice_get-get_or}
use Rattle.flat_laws.proofs.Items.{at_placed, items_sound, placed_at}
use Rattle.flat_layout.specs.Layout.{Design, IsPlaced, Place}
use Rattle.flat_layout.specs.Nets.{AreNets, Child, Global, Item, ItemHolds, Own, Tables}
use Rattle.flat_layout.specs.Plane.{IsIn}
use Rattle.flat_layout.specs.Regions.{At, Wiring}
use Rattle.geo_base.specs.Motions.{moved_square}
use Rattle.geo_base.specs.declared.shapes.Square.{Square}
use Rattle.net_link_laws.proofs.Held.{child_held_at, child_holds, no_square, own_held, own_holds, square_below}
use Rattle.net_link_laws.proofs.Standing.{own_place}
use Rattle.net_link_laws.specs.Collected.{IsInNet}
use Rattle.net_link_laws.specs.Places.{owned_before, places_of}
use Rattle.net_walk.proofs.Adding.{nowhere}
use Rattle.net_walk.proofs.Walking.{IsAmong, IsNext, IsVisited, among_more, at_net, child_at, child_fits, net_at, net_below, own_fits, visited_next}
use Rattle.net_walk.specs.Held.{AddsMarks, AreHeldLists, HasSquare, IsHeld, IsListAt, IsMarked, IsNumbered, IsNumberedAt, IsNumberedBy, IsOneOf}
use Rattle.net_walk.specs.Pairs.{first_of}
use Rattle.net_walk.specs.Walk.{AreNearOwn}
use Rattle.net_walk.specs.declared.held.Held.{Held}

-- ---- marks

pub marks_none : (R : ℕ → Type 0) (ms : List Bool) → ((x : ℕ) → R x → ⊥) → AddsMarks R ms ms
marks_none R ms none = record { long = refl; marked = λ x. ((λ h. inl h), (λ h. elim h [ inl a ↦ a | inr b ↦ absurd (none x b) ])) }

pub marks_both : (R S T : ℕ → Type 0) (old mid new : List Bool) → AddsMarks R old mid → AddsMarks S mid new → ((x : ℕ) → R x → T x) → ((x : ℕ) → S x → T x) → ((x : ℕ) → T x → R x ⊎ S x) → AddsMarks T old new
marks_both R S T old mid new h g r s t = record {
  long = g.long ∙ h.long;
  marked = λ x. (
    (λ m. elim ((g.marked x).0 m) [
      | inl a ↦ elim ((h.marked x).0 a) [ inl o ↦ inl o | inr b ↦ inr (r x b) ]
      | inr b ↦ inr (s x b)
    ]),
    (λ m. (g.marked x).1 (elim m [
      | inl o ↦ inl ((h.marked x).1 (inl o))
      | inr b ↦ elim (t x b) [ inl a ↦ inl ((h.marked x).1 (inr a)) | inr a ↦ inr a ]
    ])),
  );
}

pub one_mark : (net_of : List ℕ) (item : ℕ) (old new : List Bool) → length new ≡ length old → ((x : ℕ) → get_or new x false ≡ ((x == get_or net_of item 0) || get_or old x false)) → AddsMarks (IsNumbered net_of item) old new
one_mark net_of item old new long is = record {
  long = long;
  marked = λ x.
      let net = get_or net_of item 0 in (
        (λ h. elim (or_cases (x == net) (get_or old x false) (sym (is x) ∙ h)) [ inl a ↦ inr (sym (eqb-true x net a)) | inr b ↦ inl b ]),
        (λ h. is x ∙ elim h as (λ _. ((x == net) || get_or old x false) ≡ true) [
          | inl a ↦ or_right (x == net) (get_or old x false) a
          | inr b ↦ or_left (x == net) (get_or old x false) (eq-eqb x net (sym b))
        ]),
      );
}

pub no_own : (net_of : List ℕ) (at : ℕ) (ms : List Bool) → AddsMarks (IsNumberedAt net_of at 0) ms ms
no_own net_of at ms = marks_none (IsNumberedAt net_of at 0) ms (λ x h. let lt = h.1 in absurd (omega (arith, lt)))

pub own_more : (net_of : List ℕ) (at n : ℕ) (old mid new : List Bool) → AddsMarks (IsNumberedAt net_of at n) old mid → AddsMarks (IsNumbered net_of (at + n)) mid new → AddsMarks (IsNumberedAt net_of at (n + 1)) old new
own_more net_of at n old mid new h g =
    marks_both (IsNumberedAt net_of at n) (IsNumbered net_of (at + n)) (IsNumberedAt net_of at (n + 1)) old mid new h g
    (λ x r. (r.0, (let lt = r.1 in let more : r.0 < n + 1 = omega (arith, lt) in more), r.2))
    (λ x s. (n, (let lt : n < n + 1 = omega arith in lt), s))
    (λ x r. elim (ℕ_discrete r.0 n) [
      | yes e ↦ inr (subst (λ i. IsNumbered net_of (at + i) x) e r.2)
      | no not ↦ inl (r.0, (let lt = r.1 in let less : r.0 < n = omega (arith, lt, not) in less), r.2)
    ])

abbrev pub IsNumberedFirst : List ℕ → ℕ → List ℕ → ℕ → ℕ → Type 0
IsNumberedFirst below n net_of at x = (b : ℕ) × IsVisited below n b × IsNumbered net_of (at + b) x

pub no_below : (below net_of : List ℕ) (at : ℕ) (ms : List Bool) → AddsMarks (IsNumberedFirst below 0 net_of at) ms ms
no_below below net_of at ms = marks_none (IsNumberedFirst below 0 net_of at) ms (λ x h. let lt = h.1.1 in absurd (omega (arith, lt)))

pub below_more : (below net_of : List ℕ) (at n : ℕ) (old mid new : List Bool) → AddsMarks (IsNumberedFirst below n net_of at) old mid → AddsMarks (IsNumbered net_of (at + get_or below n 0)) mid new → AddsMarks (IsNumberedFirst below (n + 1) net_of at) old new
below_more below net_of at n old mid new h g =
    let next = visited_next below n (get_or below n 0) refl in
    marks_both (IsNumberedFirst below n net_of at) (IsNumbered net_of (at + get_or below n 0)) (IsNumberedFirst below (n + 1) net_of at) old mid new h g
    (λ x r. (r.0, next.grows r.0 r.1, r.2))
    (λ x s. (get_or below n 0, next.here, s))
    (λ x r. elim (next.splits r.0 r.1) [ inl a ↦ inl (r.0, a, r.2) | inr e ↦ inr (subst (λ b. IsNumbered net_of (at + b) x) e r.2) ])

pub below_all : (below net_of : List ℕ) (at n : ℕ) (old new : List Bool) → n ≡ length below → AddsMarks (IsNumberedFirst below n net_of at) old new → AddsMarks (IsNumberedBy below net_of at) old new
below_all below net_of at n old new e h = subst (λ k. AddsMarks (IsNumberedFirst below k net_of at) old new) e h

-- ---- the numbers of marks

one_cons : (xs : List ℕ) (y x : ℕ) → IsOneOf xs x → IsOneOf (y ∷ xs) x
one_cons xs y x h = (suc h.0, (let lt = h.1 in let more : suc h.0 < length (y ∷ xs) = omega (arith, lt) in more), h.2)

pub one_left : (xs ys : List ℕ) (x : ℕ) → IsOneOf xs x → IsOneOf (xs ++ ys) x
one_left [] ys x h = let lt = h.1 in absurd (omega (arith, lt))
one_left (z ∷ xs) ys x (zero, lt, e) = (zero, (let more : 0 < length ((z ∷ xs) ++ ys) = omega arith in more), e)
one_left (z ∷ xs) ys x (suc i, lt, e) = one_cons (xs ++ ys) z x (one_left xs ys x (i, (let less : i < length xs = omega (arith, lt) in less), e))

pub one_last : (xs : List ℕ) (y : ℕ) → IsOneOf (xs ++ y ∷ []) y
one_last [] y = (zero, (let lt : 0 < 1 = omega arith in lt), refl)
one_last (z ∷ xs) y = one_cons (xs ++ y ∷ []) z y (one_last xs y)

one_either : (xs : List ℕ) (y x : ℕ) → IsOneOf (xs ++ y ∷ []) x → IsOneOf xs x ⊎ (y ≡ x)
one_either [] y x (zero, lt, e) = inr e
one_either [] y x (suc i, lt, e) = absurd (omega (arith, lt))
one_either (z ∷ xs) y x (zero, lt, e) = inl (zero, (let more : 0 < length (z ∷ xs) = omega arith in more), e)
one_either (z ∷ xs) y x (suc i, lt, e) = elim (one_either xs y x (i, (let less : i < length (xs ++ y ∷ []) = omega (arith, lt) in less), e)) [ inl a ↦ inl (one_cons xs z x a) | inr b ↦ inr b ]

-- the numbers of the first marks that are set
abbrev pub AreFirstMarked : List Bool → ℕ → List ℕ → Type 0
AreFirstMarked ms n numbers = (x : ℕ) → IsOneOf numbers x ↔ ((x < n) × IsMarked ms x)

pub none_marked : (ms : List Bool) → AreFirstMarked ms 0 []
none_marked ms = λ x. ((λ h. let lt = h.1 in absurd (omega (arith, lt))), (λ h. let lt = h.0 in absurd (omega (arith, lt))))

more_first : (x n : ℕ) → x < n → x < n + 1
more_first x n lt = omega (arith, lt)

less_first : (x n : ℕ) → (x ≡ n → ⊥) → x < n + 1 → x < n
less_first x n not lt = omega (arith, lt, not)

pub mark_more : (ms : List Bool) (n : ℕ) (numbers : List ℕ) → IsMarked ms n → AreFirstMarked ms n numbers → AreFirstMarked ms (n + 1) (numbers ++ n ∷ [])
mark_more ms n numbers is h = λ x. (
  (λ o. elim (one_either numbers n x o) [
    | inl a ↦ (let f = (h x).0 a in (more_first x n f.0, f.1))
    | inr e ↦ (subst (λ k. k < n + 1) e (let lt : n < n + 1 = omega arith in lt), subst (IsMarked ms) e is)
  ]),
  (λ o. elim (ℕ_discrete x n) [
    | yes e ↦ subst (λ k. IsOneOf (numbers ++ n ∷ []) k) (sym e) (one_last numbers n)
    | no not ↦ one_left numbers (n ∷ []) x ((h x).1 (less_first x n not o.0, o.1))
  ]),
)

pub mark_same : (ms : List Bool) (n : ℕ) (numbers : List ℕ) → get_or ms n false ≡ false → AreFirstMarked ms n numbers → AreFirstMarked ms (n + 1) numbers
mark_same ms n numbers not_set h = λ x. (
  (λ o. let f = (h x).0 o in (more_first x n f.0, f.1)),
  (λ o. elim (ℕ_discrete x n) [
    | yes e ↦ (let is : get_or ms n false ≡ true = subst (λ k. get_or ms k false ≡ true) e o.1 in let z : ⊥ = cc in absurd z)
    | no not ↦ (h x).1 (less_first x n not o.0, o.1)
  ]),
)

marked_within : (ms : List Bool) (x : ℕ) → IsMarked ms x → x < length ms
marked_within [] x h = let z : ⊥ = cc in absurd z
marked_within (m ∷ ms) zero h = omega arith
marked_within (m ∷ ms) (suc x) h = let lt = marked_within ms x h in omega (arith, lt)

pub all_marks : (ms : List Bool) (n : ℕ) (numbers : List ℕ) → n ≡ length ms → AreFirstMarked ms n numbers → (x : ℕ) → IsOneOf numbers x ↔ IsMarked ms x
all_marks ms n numbers e h x = ((λ o. ((h x).0 o).1), (λ o. (h x).1 (subst (λ k. x < k) (sym e) (marked_within ms x o), o)))

-- ---- lists

pub list_within : (lists : List Held) (cell c p : ℕ) → IsListAt lists cell c p → p < length lists
list_within lists cell c p h = slice_get_within lists p h.0 h.1

-- what the list at the position holds
pub held_at : (d : Design) (t : Tables) (lists : List Held) (cell c p : ℕ) (nets : List ℕ) → AreHeldLists d t lists → IsListAt lists cell c p → ((h : Held) → slice_get lists p ≡ Some h → nets ≡ h.nets.items) → (x : ℕ) → IsOneOf nets x ↔ HasSquare d t cell c x
held_at d t lists cell c p nets are h is x =
    let e = is h.0 h.1 in
    let both = are p h.0 h.1 x in (
      (λ o. subst (λ k. HasSquare d t cell k x) h.3 (subst (λ k. HasSquare d t k h.0.conductor x) h.2 (both.0 (subst (λ (l : List ℕ). IsOneOf l x) e o)))),
      (λ o. subst (λ (l : List ℕ). IsOneOf l x) (sym e) (both.1 (subst (λ k. HasSquare d t k h.0.conductor x) (sym h.2) (subst (λ k. HasSquare d t cell k x) (sym h.3) o)))),
    )

at_either : (lists : List Held) (last : Held) (p : ℕ) (h : Held) → slice_get (lists ++ last ∷ []) p ≡ Some h → (slice_get lists p ≡ Some h) ⊎ (last ≡ h)
at_either [] last zero h e = inr (let s : last ≡ h = cc in s)
at_either [] last (suc p) h e = let z : ⊥ = cc in absurd z
at_either (l ∷ lists) last zero h e = inl e
at_either (l ∷ lists) last (suc p) h e = at_either lists last p h e

at_last : (lists : List Held) (last : Held) → slice_get (lists ++ last ∷ []) (length lists) ≡ Some last
at_last [] last = refl
at_last (l ∷ lists) last = at_last lists last

pub kept_lists : (d : Design) (t : Tables) (lists new : List Held) (last : Held) → new ≡ lists ++ last ∷ [] → AreHeldLists d t lists → IsHeld d t last → AreHeldLists d t new
kept_lists d t lists new last is are held p h at =
    elim (at_either lists last p h (subst (λ (l : List Held). slice_get l p ≡ Some h) is at)) [
      | inl a ↦ are p h a
      | inr e ↦ subst (λ (o : Held). IsHeld d t o) e held
    ]

pub kept_at : (lists new : List Held) (last : Held) (p : ℕ) → new ≡ lists ++ last ∷ [] → p ≡ length lists → IsListAt new last.cell last.conductor p
kept_at lists new last p is at = (last, subst (λ (l : List Held). slice_get l p ≡ Some last) (sym is) (subst (λ i. slice_get (lists ++ last ∷ []) i ≡ Some last) (sym at) (at_last lists last)), refl, refl)

pub no_lists : (d : Design) (t : Tables) (lists : List Held) → lists ≡ [] → AreHeldLists d t lists
no_lists d t lists e p h at = let z : slice_get [] p ≡ Some h = subst (λ (l : List Held). slice_get l p ≡ Some h) e at in let f : ⊥ = cc in absurd f

-- ---- the walk

pub written : (n : ℕ) (xs ys : List Bool) → length xs ≡ n → take n (xs ++ drop (length xs) ys) ≡ xs
written n xs ys e = subst (λ (k : ℕ). take k (xs ++ drop (length xs) ys) ≡ xs) e (take-append_seam xs (drop (length xs) ys))

pub false_long : (n : ℕ) → length (replicate n false) ≡ n
false_long zero = refl
false_long (suc n) = let e = false_long n in omega (arith, e)

-- an item of the cell itself or of one of these placements, in the net, holds a square
pub record HoldsSome (d : Design) (t : Tables) (cell c : ℕ) (S : ℕ → Type 0) (x : ℕ) : Type 0 where
  pub square : Square
  pub item : Item
  pub in_net : IsInNet (t.nets cell) item x
  pub among : IsAmong S item
  pub holds : ItemHolds d t cell item (At c square)

pub record AreMarkedFor (d : Design) (t : Tables) (cell c n : ℕ) (marks : List Bool) : Type 0 where
  pub long : length marks ≡ (t.nets cell).count
  pub marked : (x : ℕ) → IsMarked marks x ↔ HoldsSome d t cell c (λ k. k < n) x

before_next : (n : ℕ) → IsNext n (λ k. k < n) (λ k. k < n + 1)
before_next n = record {
  grows = λ j lt. more_first j n lt;
  splits = λ j lt. elim (ℕ_discrete j n) [ yes e ↦ inr e | no not ↦ inl (less_first j n not lt) ];
  here = (let lt : n < n + 1 = omega arith in lt);
}

module _ (d : Design) (w : Wiring) (t : Tables) (cell : ℕ) (nets : AreNets d w t cell (t.nets cell)) where
  abbrev net_of : List ℕ
  net_of = (t.nets cell).net_of

  nets_below : (i : ℕ) → i < length net_of → get_or net_of i 0 < (t.nets cell).count
  nets_below i lt = nets.below i (get_or net_of i 0) (slice_get-get_or net_of i 0 lt)

  pub read_below : (read : List ℕ) → read ≡ net_of → (i : ℕ) → i < length read → get_or read i 0 < (t.nets cell).count
  read_below read is i lt = rw is (nets_below i (subst (λ (l : List ℕ). i < length l) is lt))

  module _ (c : ℕ) (known : c < length w.conductors) where
    own_some : AreNearOwn t → (x : ℕ) → IsNumberedAt net_of (owned_before t cell c) (length (t.own cell c)) x → HoldsSome d t cell c (λ k. k < 0) x
    own_some rects x h =
        let at = owned_before t cell c + h.0 in
        let rect = get_or (t.own cell c) h.0 nowhere in
        let listed : slice_get (t.own cell c) h.0 ≡ Some rect = slice_get-get_or (t.own cell c) h.0 nowhere h.1 in
        let is = rects.rect cell c h.0 rect listed in
        let wide = is.wide in
        let high = is.high in
        let q : Square = record { x = rect.x1; y = rect.y1 } in
        let inside : IsIn q rect = (omega (arith, ints), wide, omega (arith, ints), high) in
        let fits = own_fits d w t cell nets c known in
        let lt = h.1 in
        let within : at < length net_of = omega (arith, fits, lt) in
        record {
          square = q;
          item = Own c h.0;
          in_net = net_at d w t cell nets at x (Own c h.0) (own_place d w t cell c h.0 known h.1) (slice_get-get_or net_of at 0 within ∙ ap Some h.2);
          among = tt;
          holds = own_holds d t cell c h.0 rect q listed inside;
        }

    some_own : (x : ℕ) (q : Square) (item : Item) → IsInNet (t.nets cell) item x → IsAmong (λ k. k < 0) item → ItemHolds d t cell item (At c q) → IsNumberedAt net_of (owned_before t cell c) (length (t.own cell c)) x
    some_own x q (Own e r) net among h =
        let o = own_held d t cell e r c q h in
        let listed : slice_get (t.own cell c) r ≡ Some o.rect = subst (λ i. slice_get (t.own cell i) r ≡ Some o.rect) o.same o.listed in
        let lt = slice_get_within (t.own cell c) r o.rect listed in
        let its : IsInNet (t.nets cell) (Own c r) x = subst (λ i. IsInNet (t.nets cell) (Own i r) x) o.same net in
        (r, lt, get_or_from_slice_get net_of (owned_before t cell c + r) x 0 (at_net d w t cell nets (owned_before t cell c + r) x (Own c r) (own_place d w t cell c r known lt) its))
    some_own x q (Child k b) net among h = let lt : k < 0 = among in absurd (omega (arith, lt))
    some_own x q (Global g) net among h = absurd among

    pub own_marked : AreNearOwn t → (marks : List Bool) → AddsMarks (IsNumberedAt net_of (owned_before t cell c) (length (t.own cell c))) (replicate (t.nets cell).count false) marks → AreMarkedFor d t cell c 0 marks
    own_marked rects marks h = record {
      long = h.long ∙ false_long (t.nets cell).count;
      marked = λ x. (
        (λ m. elim ((h.marked x).0 m) [
          | inl a ↦ (let f = none_set (t.nets cell).count x in let z : ⊥ = cc in absurd z)
          | inr b ↦ own_some rects x b
        ]),
        (λ s. (h.marked x).1 (inr (some_own x s.square s.item s.in_net s.among s.holds))),
      );
    }

    some_more : (n x : ℕ) → HoldsSome d t cell c (λ k. k < n) x → HoldsSome d t cell c (λ k. k < n + 1) x
    some_more n x h = record { square = h.square; item = h.item; in_net = h.in_net; among = among_more n (λ k. k < n) (λ k. k < n + 1) h.item (before_next n) h.among; holds = h.holds }

    some_split : (n x : ℕ) (q : Square) (item : Item) → IsInNet (t.nets cell) item x → IsAmong (λ k. k < n + 1) item → ItemHolds d t cell item (At c q)
        → HoldsSome d t cell c (λ k. k < n) x ⊎ ((b : ℕ) × IsInNet (t.nets cell) (Child n b) x × ItemHolds d t cell (Child n b) (At c q))
    some_split n x q (Own e r) net among h = inl (record { square = q; item = Own e r; in_net = net; among = tt; holds = h })
    some_split n x q (Child j b) net among h = elim ((before_next n).splits j among) [
      | inl s ↦ inl (record { square = q; item = Child j b; in_net = net; among = s; holds = h })
      | inr e ↦ inr (b, subst (λ i. IsInNet (t.nets cell) (Child i b) x) e net, subst (λ i. ItemHolds d t cell (Child i b) (At c q)) e h)
    ]
    some_split n x q (Global g) net among h = absurd among

    module _ (k : ℕ) (p : Place) (there : slice_get (places_of d cell) k ≡ Some p) (nets_too : AreNets d w t p.cell (t.nets p.cell)) (below : List ℕ) (held : (b : ℕ) → IsOneOf below b ↔ HasSquare d t p.cell c b) where
      abbrev at : ℕ
      at = first_of d w t cell k

      placed : IsPlaced d cell k p
      placed = placed_at d cell k p there

      below_count : (b : ℕ) → IsOneOf below b → b < (t.nets p.cell).count
      below_count b o = let h = (held b).0 o in net_below d w t cell nets c nowhere known k p there nets_too b h.0 h.1

      pub below_fits : (b : ℕ) → IsOneOf below b → at + b < length net_of
      below_fits b o = let lt = below_count b o in let fits = child_fits d w t cell nets k p there in omega (arith, lt, fits)

      child_some : (x : ℕ) → IsNumberedBy below net_of at x → HoldsSome d t cell c (λ j. j < k + 1) x
      child_some x h =
          let s = (held h.0).0 h.1 in
          record {
            square = moved_square p.motion s.0;
            item = Child k h.0;
            in_net = net_at d w t cell nets (at + h.0) x (Child k h.0) (child_at d w t cell nets c nowhere known k p there nets_too h.0 (below_count h.0 h.1)) (slice_get-get_or net_of (at + h.0) 0 (below_fits h.0 h.1) ∙ ap Some h.2);
            among = (before_next k).here;
            holds = child_holds d t cell k h.0 p (At c s.0) (At c (moved_square p.motion s.0)) placed s.1 refl;
          }

      some_child : (x : ℕ) (q : Square) (b : ℕ) → IsInNet (t.nets cell) (Child k b) x → ItemHolds d t cell (Child k b) (At c q) → IsNumberedBy below net_of at x
      some_child x q b net h =
          let m = square_below d t p b c q (child_held_at d t cell k b p (At c q) placed h) in
          let o = (held b).1 (m.square, m.holds) in
          (b, o, get_or_from_slice_get net_of (at + b) x 0 (at_net d w t cell nets (at + b) x (Child k b) (child_at d w t cell nets c nowhere known k p there nets_too b (below_count b o)) net))

      pub child_marked : (old new : List Bool) → AreMarkedFor d t cell c k old → AddsMarks (IsNumberedBy below net_of at) old new → AreMarkedFor d t cell c (k + 1) new
      child_marked old new h g = record {
        long = g.long ∙ h.long;
        marked = λ x. (
          (λ m. elim ((g.marked x).0 m) [ inl a ↦ some_more k x ((h.marked x).0 a) | inr b ↦ child_some x b ]),
          (λ s. (g.marked x).1 (elim (some_split k x s.square s.item s.in_net s.among s.holds) [ inl a ↦ inl ((h.marked x).1 a) | inr b ↦ inr (some_child x s.square b.0 b.1 b.2) ])),
        );
      }

    among_all : (n x : ℕ) (item : Item) (q : Square) → n ≡ length (places_of d cell) → IsInNet (t.nets cell) item x → ItemHolds d t cell item (At c q) → IsAmong (λ k. k < n) item
    among_all n x (Own e r) q is net h = tt
    among_all n x (Child k b) q is net h =
        let of = items_sound d w t cell (t.nets cell) nets net.0 (Child k b) net.1.listed in
        let lt = slice_get_within (places_of d cell) k of.0 (at_placed d cell k of.0 of.1) in
        subst (λ m. k < m) (sym is) lt
    among_all n x (Global g) q is net h = absurd (no_square d t cell g c q h)

    pub all_held : (n : ℕ) (marks : List Bool) (numbers : List ℕ) → n ≡ length (places_of d cell) → AreMarkedFor d t cell c n marks → ((x : ℕ) → IsOneOf numbers x ↔ IsMarked marks x) → (x : ℕ) → IsOneOf numbers x ↔ HasSquare d t cell c x
    all_held n marks numbers e h are x = (
      (λ o. let s = (h.marked x).0 ((are x).0 o) in (s.square, record { index = s.in_net.0; item = s.item; is_of = s.in_net.1; holds = s.holds })),
      (λ s. (are x).1 ((h.marked x).1 (record { square = s.0; item = s.1.item; in_net = (s.1.index, s.1.is_of); among = among_all n x s.1.item s.0 e (s.1.index, s.1.is_of) s.1.holds; holds = s.1.holds }))),
    )
