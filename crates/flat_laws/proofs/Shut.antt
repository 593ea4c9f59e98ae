-- What each way of keeping shuts.
use Rattle.std.proofs.Common.{◌≡◌, ◌↔◌, ◌⊎◌, inl, inr, ℕ, ◌+◌, ◌≤◌, List, [], ◌∷◌, ◌++◌, refl, ap, subst, arith}
use Rattle.std.proofs.Math.Decide.{ℕ_discrete}
use Rattle.flat_layout.specs.Layout.{Place, Design, Some_of, IsOwn, IsPlaced, Takes, InFlatInput, IsPrefix, IsDisturbed, IsReached, IsHeight}
use Rattle.geo_base.specs.declared.layer.LayerKey.{LayerKey}
use Rattle.geo_base.specs.Motions.{moved_square}
use Rattle.geo_base.specs.declared.shapes.Square.{Square}
use Rattle.flat_layout.specs.Layers.{IsShutBy}
use Rattle.flat_layout.specs.declared.way.Way.{Way}
use Rattle.flat_layout.specs.declared.way.Way.TheVariants.{Disturbed, Covered}
use Rattle.flat_laws.specs.ShutLaws.{ShutInputLaw, ShutAboveLaw, ShutTopLaw, ShutFewerLaw, ShutStillLaw, keeping}
use Rattle.flat_laws.proofs.Names.{fewer}
use Rattle.flat_laws.proofs.Paths.{disturbs, extends, first_differs, law, moved_square-injective, same_place, shorter}

lower : (d : Design) (height : ℕ → ℕ) → IsHeight d height → (path : List ℕ) (from to : ℕ) (s q : Square) → Takes d from path to s q → height to ≤ height from
lower d height linked [] from to s q h = let e : height from ≡ height to = ap height h.0 in omega arith
lower d height linked (k ∷ ks) from to s q h =
    let one = linked from k h.0 h.1 in
    let rest = lower d height linked ks h.0.cell to s h.2 h.3 in
    omega arith

pub calm_top : (d : Design) (height : ℕ → ℕ) → IsHeight d height → (list : List LayerKey) (q : Square) → IsDisturbed d list d.top q → ⊥
calm_top d height linked list q h = empty h.path h.takes h.apart
  where
    empty : (path : List ℕ) → Takes d d.top path d.top q h.place → (IsPrefix path h.other → ⊥) → ⊥
    empty [] t apart = apart (h.other, refl)
    empty (k ∷ ks) t apart =
        let one = linked d.top k t.0 t.1 in
        let rest = lower d height linked ks t.0.cell d.top q t.2 t.3 in
        absurd (omega arith)

-- what disturbs the parent there disturbs the placed cell
pub disturbed_below : (d : Design) (keys : List LayerKey) (parent k : ℕ) (p : Place) (q : Square) → IsPlaced d parent k p → IsDisturbed d keys parent (moved_square p.motion q) → IsDisturbed d keys p.cell q
disturbed_below d keys parent k p q placed h = record {
  path = h.path ++ k ∷ [];
  other = h.other;
  end = h.end;
  square = h.square;
  place = h.place;
  key = h.key;
  listed = h.listed;
  takes = extends d d.top parent k p h.path q h.place h.takes placed;
  others = h.others;
  own = h.own;
  apart = λ g. h.apart (shorter h.path k h.other g);
}

flat_up : (d : Design) (key : LayerKey) (parent k : ℕ) (p : Place) (q : Square) → IsPlaced d parent k p → InFlatInput d p.cell key q → InFlatInput d parent key (moved_square p.motion q)
flat_up d key parent k p q placed f = record { path = k ∷ f.path; end = f.end; square = f.square; takes = (p, placed, q, f.takes, refl); own = f.own }

-- a shape over a covered square comes from the placed cell, or the cell has one there itself
came : (d : Design) (key : LayerKey) (parent k : ℕ) (p : Place) (q s : Square) (path : List ℕ) (end : ℕ)
    → IsReached d parent → IsPlaced d parent k p → (IsDisturbed d (key ∷ []) p.cell q → InFlatInput d p.cell key q)
    → Takes d parent path end s (moved_square p.motion q) → IsOwn d end key s → InFlatInput d p.cell key q
came d key parent k p q s [] end reached placed shut takes own =
    shut (disturbs d (key ∷ []) key parent k p q s [] end reached placed (inl refl) takes own (λ h. let e : k ∷ h.0 ≡ [] = h.1 in cc))
came d key parent k p q s (j ∷ js) end reached placed shut takes own =
    elim (ℕ_discrete j k) [
      | yes e ↦
          let same : takes.0 ≡ p = same_place d parent k takes.0 p (subst (λ (i : ℕ). IsPlaced d parent i takes.0) e takes.1) placed in
          let image_same : moved_square p.motion takes.2 ≡ moved_square p.motion q = subst (λ (r : Place). moved_square r.motion takes.2 ≡ moved_square p.motion q) same takes.4 in
          let square_same : takes.2 ≡ q = moved_square-injective p.motion takes.2 q image_same in
          record {
            path = js;
            end = end;
            square = s;
            takes = subst (λ (v : Square). Takes d p.cell js end s v) square_same (subst (λ (r : Place). Takes d r.cell js end s takes.2) same takes.3);
            own = own;
          }
      | no not ↦ shut (disturbs d (key ∷ []) key parent k p q s (j ∷ js) end reached placed (inl refl) takes own (first_differs j k js not))
    ]

pub shut_same : (v : Way) → ShutInputLaw (keeping v)
shut_same Disturbed d keys key parent k p q reached placed listed shut = law d keys key parent k p q reached placed listed shut
shut_same Covered d keys key parent k p q reached placed listed shut = (
  (λ f. came d key parent k p q f.square f.path f.end reached placed (shut key listed) f.takes f.own),
  flat_up d key parent k p q placed,
)

pub shut_above : (v : Way) → ShutAboveLaw (keeping v)
shut_above Disturbed d keys parent k p q placed shut = λ h. shut (disturbed_below d keys parent k p q placed h)
shut_above Covered d keys parent k p q placed shut = λ key listed h. flat_up d key parent k p q placed (shut key listed (disturbed_below d (key ∷ []) parent k p q placed h))

pub shut_top : (v : Way) → ShutTopLaw (keeping v)
shut_top Disturbed d height linked keys q = λ h. calm_top d height linked keys q h
shut_top Covered d height linked keys q = λ key listed h. absurd (calm_top d height linked (key ∷ []) q h)

pub shut_fewer : (v : Way) → ShutFewerLaw (keeping v)
shut_fewer Disturbed d keys more cell q grow shut = λ h. shut (fewer d keys more cell q grow h)
shut_fewer Covered d keys more cell q grow shut = λ key listed h. shut key (grow key listed) h

one_key : (keys : List LayerKey) (key : LayerKey) → Some_of (λ k. k ≡ key) keys → (j : LayerKey) → Some_of (λ k. k ≡ j) (key ∷ []) → Some_of (λ k. k ≡ j) keys
one_key keys key listed j (inl e) = subst (λ k. Some_of (λ i. i ≡ k) keys) e listed
one_key keys key listed j (inr x) = absurd x

-- where nothing is disturbed all is shut in each way
pub shut_still : (v : Way) → ShutStillLaw (keeping v)
shut_still Disturbed d keys cell q calm = calm
shut_still Covered d keys cell q calm = λ key listed h. absurd (calm (fewer d (key ∷ []) keys cell q (one_key keys key listed) h))

pub some_either : (P : LayerKey → Type 0) (xs ys : List LayerKey) → Some_of P (xs ++ ys) → Some_of P xs ⊎ Some_of P ys
some_either P [] ys h = inr h
some_either P (x ∷ xs) ys (inl h) = inl (inl h)
some_either P (x ∷ xs) ys (inr h) = elim (some_either P xs ys h) [ inl a ↦ inl (inr a) | inr b ↦ inr b ]

-- what disturbs a square for two lists does so for one of them
pub disturbed_either : (d : Design) (xs ys : List LayerKey) (cell : ℕ) (q : Square) → IsDisturbed d (xs ++ ys) cell q → IsDisturbed d xs cell q ⊎ IsDisturbed d ys cell q
disturbed_either d xs ys cell q h = elim (some_either (λ k. k ≡ h.key) xs ys h.listed) [
  | inl a ↦ inl (record { path = h.path; other = h.other; end = h.end; square = h.square; place = h.place; key = h.key; listed = a; takes = h.takes; others = h.others; own = h.own; apart = h.apart })
  | inr b ↦ inr (record { path = h.path; other = h.other; end = h.end; square = h.square; place = h.place; key = h.key; listed = b; takes = h.takes; others = h.others; own = h.own; apart = h.apart })
]

-- for no layers all is shut, and for two lists what is so for both
pub shut_none : (v : Way) (d : Design) (cell : ℕ) (q : Square) → IsShutBy v d [] cell q
shut_none Disturbed d cell q = λ h. h.listed
shut_none Covered d cell q = λ key listed h. absurd listed

pub shut_both : (v : Way) (d : Design) (xs ys : List LayerKey) (cell : ℕ) (q : Square) → IsShutBy v d xs cell q → IsShutBy v d ys cell q → IsShutBy v d (xs ++ ys) cell q
shut_both Disturbed d xs ys cell q first second = λ h. elim (disturbed_either d xs ys cell q h) [ inl x ↦ first x | inr y ↦ second y ]
shut_both Covered d xs ys cell q first second = λ key listed h. elim (some_either (λ k. k ≡ key) xs ys listed) [ inl a ↦ first key a h | inr b ↦ second key b h ]
