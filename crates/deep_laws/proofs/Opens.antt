-- Tables of the squares that a cell leaves, and of those that others may make without it.
use Rattle.std.proofs.Common.{◌≡◌, ◌↔◌, inl, inr, ℕ, suc, ◌+◌, ℤ, pos, negsuc, unsigned_abs, Bool, true, false, not, ◌&&◌, ◌||◌, List, [], ◌∷◌, ◌++◌, refl, sym, ◌∙◌, ap, subst, arith}
use Rattle.base_laws.proofs.Tests.{not_both}
use Rattle.std.proofs.lemmas.Bool.{false≢true, and_from, and_parts, cases_Bool, not-true, or_cases, or_left, or_right}
use Rattle.std.proofs.lemmas.Int.{ints}
use Rattle.geo_base.specs.declared.layer.LayerKey.{LayerKey}
use Rattle.geo_base.specs.declared.layer.Op.{Op}
use Rattle.geo_base.specs.declared.layer.Op.TheVariants.{And, Or, Not, Xor}
use Rattle.geo_base.specs.declared.shapes.Rect.{Rect}
use Rattle.geo_base.specs.declared.shapes.Square.{Square}
use Rattle.rect_sets.specs.Rects.{covers}
use Rattle.flat_layout.specs.Hull.{IsInHull}
use Rattle.flat_layout.specs.Layers.{Formula, Input, Binary, Sized, IsLone, IsShutBy, IsCalmAt}
use Rattle.flat_layout.specs.Layout.{Design, Some_of, InFlatInput, IsDisturbed}
use Rattle.flat_layout.specs.Plane.{AreWithin, IsReachedBy, IsSized}
use Rattle.flat_layout.specs.Values.{IsZone, IsOpenZone, IsLoneZone}
use Rattle.flat_layout.specs.declared.way.Way.TheVariants.{Disturbed, Covered}
use Rattle.flat_laws.proofs.Names.{more_left, more_right}
use Rattle.flat_laws.proofs.Shut.{shut_both, shut_fewer, shut_none}
use Rattle.deep_laws.specs.Opens.{OpenZoneLaw, BareLaw, OpenNoneLaw, OpenUnionLaw, CalmByLaw, LoneInputLaw, LoneBinaryLaw, LoneSizedLaw, lone_of}

-- what lies within m of a square of a grown hull lies in it grown so much more
in_hull : (d : Design) (cell n m : ℕ) (z q : Square) → IsInHull d cell n q → AreWithin m z q → IsInHull d cell (n + m) z
in_hull d cell n m z q h near =
    let a = near.left in let b = near.right in let c = near.low in let e = near.high in
    let w = h.west in let w' = w.2 in let x = h.east in let x' = x.2 in
    let s = h.south in let s' = s.2 in let t = h.north in let t' = t.2 in
    record {
      west = (w.0, w.1, omega (arith, ints));
      east = (x.0, x.1, omega (arith, ints));
      south = (s.0, s.1, omega (arith, ints));
      north = (t.0, t.1, omega (arith, ints));
      wide = h.wide;
      tall = h.tall;
    }

pub open_zone : OpenZoneLaw
open_zone d keys n cell v undisturbed zone = record {
  canonical = zone.canonical;
  inside = λ q e. let h = (zone.each q).0 e in (h.1, λ shut. subst (λ w. IsShutBy w d keys cell q) undisturbed shut h.0);
  shut = λ q inner e. subst (λ w. IsShutBy w d keys cell q) (sym undisturbed) (λ h. not_both (covers v q) ((zone.each q).1 (h, inner)) e);
}

pub bare : BareLaw
bare d key n cell zone flat left covered is_zone is_flat canonical made = record {
  canonical = canonical;
  inside = λ q e.
      let two = and_parts (covers zone q) (not (covers flat q)) (sym (made q) ∙ e) in
      let h = (is_zone.each q).0 two.0 in (
        h.1,
        λ shut.
            let s = subst (λ w. IsShutBy w d (key ∷ []) cell q) covered shut in
            not_both (covers flat q) ((is_flat q).1 (two.0, s key (inl refl) h.0)) (not-true (covers flat q) two.1),
      );
  shut = λ q inner e. subst (λ w. IsShutBy w d (key ∷ []) cell q) (sym covered) (here q inner e);
}
  where
    of_key : (q : Square) (k : LayerKey) → Some_of (λ j. j ≡ k) (key ∷ []) → InFlatInput d cell key q → InFlatInput d cell k q
    of_key q k (inl e) h = subst (λ j. InFlatInput d cell j q) e h
    of_key q k (inr none) h = absurd none

    one_of : (q : Square) (k : LayerKey) → Some_of (λ j. j ≡ k) (key ∷ []) → IsDisturbed d (k ∷ []) cell q → IsDisturbed d (key ∷ []) cell q
    one_of q k (inl e) h = subst (λ j. IsDisturbed d (j ∷ []) cell q) (sym e) h
    one_of q k (inr none) h = absurd none

    here : (q : Square) → IsInHull d cell n q → covers left q ≡ false → IsShutBy Covered d (key ∷ []) cell q
    here q inner e = λ k listed h.
        let there = (is_zone.each q).1 (one_of q k listed h, inner) in
        of_key q k listed (elim (cases_Bool (covers flat q)) [
          | inl c ↦ ((is_flat q).0 c).1
          | inr c ↦ absurd (not_both (covers left q) (made q ∙ and_from (covers zone q) (not (covers flat q)) there (ap not c)) e)
        ])

pub open_none : OpenNoneLaw
open_none d n cell v canonical empty = record {
  canonical = canonical;
  inside = λ q e. absurd (not_both (covers v q) e (empty q));
  shut = λ q inner e. shut_none d.way d cell q;
}

pub open_union : OpenUnionLaw
open_union d xs ys n cell a b v first second canonical made = record {
  canonical = canonical;
  inside = λ q e. elim (or_cases (covers a q) (covers b q) (sym (made q) ∙ e)) [
    | inl x ↦ (let h = first.inside q x in (h.0, λ shut. h.1 (shut_fewer d.way d xs (xs ++ ys) cell q (λ key i. more_left (λ k. k ≡ key) xs ys i) shut)))
    | inr y ↦ (let h = second.inside q y in (h.0, λ shut. h.1 (shut_fewer d.way d ys (xs ++ ys) cell q (λ key i. more_right (λ k. k ≡ key) xs ys i) shut)))
  ];
  shut = λ q inner e.
      let off = neither (covers a q) (covers b q) (sym (made q) ∙ e) in
      shut_both d.way d xs ys cell q (first.shut q inner off.0) (second.shut q inner off.1);
}
  where
    neither : (s t : Bool) → (s || t) ≡ false → (s ≡ false) × (t ≡ false)
    neither true t e = absurd (false≢true (sym e))
    neither false t e = (refl, e)

pub calm_by : CalmByLaw
calm_by d keys m n cell v q zone inner = (
  (λ none z near. elim (cases_Bool (covers v z)) [
    | inl c ↦ absurd (none (record { square = z; within = near; has = c }))
    | inr c ↦ zone.shut z (in_hull d cell m n z q inner near) c
  ]),
  (λ calm h. (zone.inside h.square h.has).1 (calm h.square h.within)),
)

pub lone_input : LoneInputLaw
lone_input d key n cell v zone = record { canonical = zone.canonical; each = λ q inner. ((λ e. ((zone.each q).0 e).0), (λ h. (zone.each q).1 (h, inner))) }

pub lone_binary : LoneBinaryLaw
lone_binary d op a b n cell first second v one other canonical made = record { canonical = canonical; each = λ q inner. by op q (one.each q inner) (other.each q inner) (made q) }
  where
    by : (o : Op) (q : Square) → (covers first q ≡ true) ↔ IsLone d cell a q → (covers second q ≡ true) ↔ IsLone d cell b q → covers v q ≡ lone_of o (covers first q) (covers second q) → (covers v q ≡ true) ↔ IsLone d cell (Binary o a b) q
    by And q f g e = (
      (λ c. let two = and_parts (covers first q) (covers second q) (sym e ∙ c) in (f.0 two.0, g.0 two.1)),
      (λ h. e ∙ and_from (covers first q) (covers second q) (f.1 h.0) (g.1 h.1)),
    )
    by Or q f g e = (
      (λ c. elim (or_cases (covers first q) (covers second q) (sym e ∙ c)) [ inl x ↦ inl (f.0 x) | inr y ↦ inr (g.0 y) ]),
      (λ h. elim h [ inl x ↦ e ∙ or_left (covers first q) (covers second q) (f.1 x) | inr y ↦ e ∙ or_right (covers first q) (covers second q) (g.1 y) ]),
    )
    by Not q f g e = ((λ c. f.0 (sym e ∙ c)), (λ h. e ∙ f.1 h))
    by Xor q f g e = (
      (λ c. elim (or_cases (covers first q) (covers second q) (sym e ∙ c)) [ inl x ↦ inl (f.0 x) | inr y ↦ inr (g.0 y) ]),
      (λ h. elim h [ inl x ↦ e ∙ or_left (covers first q) (covers second q) (f.1 x) | inr y ↦ e ∙ or_right (covers first q) (covers second q) (g.1 y) ]),
    )

-- sets that are the same within the size are the same when sized
sized_same : (by : ℤ) (set other : Square → Type 0) (q : Square) → ((z : Square) → AreWithin (unsigned_abs by) z q → set z → other z) → IsSized by set q → IsSized by other q
sized_same (pos n) set other q to h = record { square = h.square; within = h.within; has = to h.square h.within h.has }
sized_same (negsuc n) set other q to h = λ z near. to z near (h z near)

pub lone_sized : LoneSizedLaw
lone_sized d by a n cell set v lone canonical made = record {
  canonical = canonical;
  each = λ q inner. (
    (λ e. sized_same by (λ z. covers set z ≡ true) (IsLone d cell a) q (λ z near c. (lone.each z (in_hull d cell n (unsigned_abs by) z q inner near)).0 c) ((made q).0 e)),
    (λ h. (made q).1 (sized_same by (IsLone d cell a) (λ z. covers set z ≡ true) q (λ z near c. (lone.each z (in_hull d cell n (unsigned_abs by) z q inner near)).1 c) h)),
  );
}
