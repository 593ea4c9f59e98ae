-- Bounds that hold more and more points.
use Rattle.std.proofs.Common.{◌≡◌, ◌⊎◌, inl, inr, ℕ, ◌+◌, ◌<◌, ◌≤◌, ℤ, pos, ◌-ℤ◌, ◌≤ℤ◌, List, Option, Some, None, length, slice_get, refl, sym, ◌∙◌, ap, subst, arith}
use Rattle.std.proofs.Math.Decide.{ℕ_discrete}
use Rattle.std.proofs.lemmas.Int.{ints}
use Rattle.std.proofs.lemmas.Option.{slice_get_within}
use Rattle.geo_base.specs.declared.shapes.Point.{Point}
use Rattle.cell_graph.specs.declared.bounds.Bounds.{Bounds}
use Rattle.cell_graph.specs.Bounds.{IsWith, range_of}
use Rattle.cell_graph.specs.Drafts.{IsLeastRange}
use Rattle.cell_graph.specs.Sides.{Side, Left, Low, Right, High, value, side_of, Holds, IsSideOf, Widens, AmongFirst, Among}

pub no_point : (old : Option Bounds) → Widens old (λ p. ⊥) old
no_point old = record { kept = λ p h. h; holds = λ p h. absurd h; sides = λ s b e. inl (subst (λ o. IsSideOf s o (side_of s b)) (sym e) refl) }

-- one set of points after another
pub widens_both : (old mid new : Option Bounds) (Q R : Point → Type 0) → Widens old Q mid → Widens mid R new → Widens old (λ p. Q p ⊎ R p) new
widens_both old mid new Q R a b = record {
  kept = λ p h. b.kept p (a.kept p h);
  holds = λ p h. elim h [ inl q ↦ b.kept p (a.holds p q) | inr r ↦ b.holds p r ];
  sides = λ s x e. elim (b.sides s x e) [
    | inl h ↦ first mid refl s (side_of s x) h
    | inr h ↦ inr (h.0, inr h.1, h.2)
  ];
}
  where
    first : (o : Option Bounds) → mid ≡ o → (s : Side) (z : ℤ) → IsSideOf s o z → IsSideOf s old z ⊎ ((q : Point) × (Q q ⊎ R q) × (value s q ≡ z))
    first None e s z h = absurd h
    first (Some y) e s z h = elim (a.sides s y e) [
      | inl g ↦ inl (subst (IsSideOf s old) h g)
      | inr g ↦ inr (g.0, inl g.1, g.2 ∙ h)
    ]

-- other points with the same least bounds
pub swapped : (old new : Option Bounds) (Q R : Point → Type 0) → Widens old Q new → ((p : Point) → R p → Holds new p)
    → ((q : Point) → Q q → (s : Side) → (p : Point) × R p × (value s p ≤ℤ value s q)) → Widens old R new
swapped old new Q R a holds near = record {
  kept = a.kept;
  holds = holds;
  sides = λ s b e. elim (a.sides s b e) [
    | inl h ↦ inl h
    | inr (q, h, is) ↦
        let p = near q h s in
        let in_b : Holds (Some b) p.0 = subst (λ o. Holds o p.0) e (holds p.0 p.1) in
        inr (p.0, p.1, meets (side_of s b) (value s q) (value s p.0) is p.2 (in_b s))
  ];
}
  where
    meets : (b q p : ℤ) → q ≡ b → p ≤ℤ q → b ≤ℤ p → p ≡ b
    meets b q p e le ge = omega (arith, ints)

pub same_points : (old new : Option Bounds) (Q R : Point → Type 0) → ((p : Point) → Q p → R p) → ((p : Point) → R p → Q p) → Widens old Q new → Widens old R new
same_points old new Q R to from a = record {
  kept = a.kept;
  holds = λ p h. a.holds p (from p h);
  sides = λ s b e. elim (a.sides s b e) [ inl h ↦ inl h | inr (q, h, is) ↦ inr (q, to q h, is) ];
}

by_sides : (b : Bounds) (p : Point) → b.x1 ≤ℤ p.x → b.y1 ≤ℤ p.y → p.x ≤ℤ b.x2 → p.y ≤ℤ b.y2 → Holds (Some b) p
by_sides b p l o r h Left = l
by_sides b p l o r h Low = o
by_sides b p l o r h Right = omega (arith, ints)
by_sides b p l o r h High = omega (arith, ints)

-- a point more
pub widens_with : (bounds : Option Bounds) (p : Point) (r : Bounds) → IsWith bounds p r → Widens bounds (λ q. q ≡ p) (Some r)
widens_with None p r h = record {
  kept = λ q f. absurd f;
  holds = λ q e. subst (λ v. Holds (Some r) v) (sym e) (just h.left_is h.low_is h.right_is h.high_is);
  sides = λ s b e. (let same : r ≡ b = (let g : Some r ≡ Some b = e in cc) in inr (p, refl, subst (λ b. value s p ≡ side_of s b) same (is s h.left_is h.low_is h.right_is h.high_is)));
}
  where
    just : r.x1 ≡ p.x → r.y1 ≡ p.y → r.x2 ≡ p.x → r.y2 ≡ p.y → Holds (Some r) p
    just a b c d = by_sides r p (omega (arith, ints)) (omega (arith, ints)) (omega (arith, ints)) (omega (arith, ints))

    is : (s : Side) → r.x1 ≡ p.x → r.y1 ≡ p.y → r.x2 ≡ p.x → r.y2 ≡ p.y → value s p ≡ side_of s r
    is Left a b c d = sym a
    is Low a b c d = sym b
    is Right a b c d = ap (λ z. pos 0 -ℤ z) (sym c)
    is High a b c d = ap (λ z. pos 0 -ℤ z) (sym d)
widens_with (Some b) p r h = record {
  kept = λ q f. wider (f Left) (f Low) (f Right) (f High);
  holds = λ q e. subst (λ v. Holds (Some r) v) (sym e) here;
  sides = λ s c e. (let same : r ≡ c = (let g : Some r ≡ Some c = e in cc) in subst (λ c. (side_of s b ≡ side_of s c) ⊎ ((q : Point) × (q ≡ p) × (value s q ≡ side_of s c))) same (one s h.left_is.one h.low_is.one h.right_is.one h.high_is.one));
}
  where
    wider : {q : Point} → b.x1 ≤ℤ q.x → b.y1 ≤ℤ q.y → (pos 0 -ℤ b.x2) ≤ℤ (pos 0 -ℤ q.x) → (pos 0 -ℤ b.y2) ≤ℤ (pos 0 -ℤ q.y) → Holds (Some r) q
    wider {q = q} i0 i1 i2 i3 =
        let a = h.left_is.left in let c = h.right_is.left in let d = h.low_is.left in let e = h.high_is.left in
        by_sides r q (omega (arith, ints)) (omega (arith, ints)) (omega (arith, ints)) (omega (arith, ints))

    here : Holds (Some r) p
    here = by_sides r p h.left_is.right h.low_is.right h.right_is.right h.high_is.right

    one : (s : Side) → (r.x1 ≡ b.x1) ⊎ (r.x1 ≡ p.x) → (r.y1 ≡ b.y1) ⊎ (r.y1 ≡ p.y) → (r.x2 ≡ b.x2) ⊎ (r.x2 ≡ p.x) → (r.y2 ≡ b.y2) ⊎ (r.y2 ≡ p.y)
        → (side_of s b ≡ side_of s r) ⊎ ((q : Point) × (q ≡ p) × (value s q ≡ side_of s r))
    one Left (inl e) b c d = inl (sym e)
    one Left (inr e) b c d = inr (p, refl, sym e)
    one Low a (inl e) c d = inl (sym e)
    one Low a (inr e) c d = inr (p, refl, sym e)
    one Right a b (inl e) d = inl (ap (λ z. pos 0 -ℤ z) (sym e))
    one Right a b (inr e) d = inr (p, refl, ap (λ z. pos 0 -ℤ z) (sym e))
    one High a b c (inl e) = inl (ap (λ z. pos 0 -ℤ z) (sym e))
    one High a b c (inr e) = inr (p, refl, ap (λ z. pos 0 -ℤ z) (sym e))

-- points of one item after another
pub no_item : {A : Type 0} (P : A → Point → Type 0) (items : List A) (old : Option Bounds) → Widens old (AmongFirst P items 0) old
no_item P items old = same_points old old (λ p. ⊥) (AmongFirst P items 0) (λ p h. absurd h) (λ p (k, x, lt, at, h). absurd (let z : ⊥ = omega arith in z)) (no_point old)

pub next_item : {A : Type 0} (P : A → Point → Type 0) (items : List A) (n : ℕ) (x : A) (old mid new : Option Bounds) → slice_get items n ≡ Some x
    → Widens old (AmongFirst P items n) mid → Widens mid (P x) new → Widens old (AmongFirst P items (n + 1)) new
next_item {A = A} P items n x old mid new at a b =
    same_points old new (λ p. AmongFirst P items n p ⊎ P x p) (AmongFirst P items (n + 1))
    (λ p h. elim h [ inl (k, y, lt, there, g) ↦ (k, y, (let f : k < n + 1 = omega arith in f), there, g) | inr g ↦ (n, x, (let f : n < n + 1 = omega arith in f), at, g) ])
    (λ p (k, y, lt, there, g). elim (ℕ_discrete k n) [
      | yes e ↦
          let same : y ≡ x = (let f : Some y ≡ Some x = sym (subst (λ i. slice_get items i ≡ Some y) e there) ∙ at in cc) in
          inr (subst (λ (z : A). P z p) same g)
      | no e ↦ inl (k, y, (let f : k < n = omega arith in f), there, g)
    ])
    (widens_both old mid new (AmongFirst P items n) (P x) a b)

pub all_items : {A : Type 0} (P : A → Point → Type 0) (items : List A) (n : ℕ) (old new : Option Bounds) → length items ≤ n → Widens old (AmongFirst P items n) new → Widens old (Among P items) new
all_items P items n old new le a = same_points old new (AmongFirst P items n) (Among P items)
    (λ p (k, x, lt, at, h). (k, x, at, h))
    (λ p (k, x, at, h). (k, x, (let lt = slice_get_within items k x at in let f : k < n = omega arith in f), at, h)) a

-- bounds from nothing are the least range
pub least_of : (Q : Point → Type 0) (b : Bounds) → Widens None Q (Some b) → IsLeastRange Q (range_of b)
least_of Q b a = record {
  holds = λ p h. inside p (a.holds p h Left) (a.holds p h Low) (a.holds p h Right) (a.holds p h High);
  left = elim (a.sides Left b refl) [ inl h ↦ absurd h | inr h ↦ h ];
  low = elim (a.sides Low b refl) [ inl h ↦ absurd h | inr h ↦ h ];
  right = elim (a.sides Right b refl) [ inl h ↦ absurd h | inr (q, h, e) ↦ (q, h, back q.x b.x2 e) ];
  high = elim (a.sides High b refl) [ inl h ↦ absurd h | inr (q, h, e) ↦ (q, h, back q.y b.y2 e) ];
}
  where
    back : (x y : ℤ) → pos 0 -ℤ x ≡ pos 0 -ℤ y → x ≡ y
    back x y e = omega (arith, ints)

    inside : (p : Point) → b.x1 ≤ℤ p.x → b.y1 ≤ℤ p.y → (pos 0 -ℤ b.x2) ≤ℤ (pos 0 -ℤ p.x) → (pos 0 -ℤ b.y2) ≤ℤ (pos 0 -ℤ p.y) → (b.x1 ≤ℤ p.x) × (p.x ≤ℤ b.x2) × (b.y1 ≤ℤ p.y) × (p.y ≤ℤ b.y2)
    inside p l o r h = (l, (omega (arith, ints)), o, (omega (arith, ints)))
