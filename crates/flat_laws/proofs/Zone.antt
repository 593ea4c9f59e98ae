-- Disturbed squares go down from the cells that place a cell.
use Rattle.std.proofs.Common.{◌≡◌, ◌⊎◌, inl, inr, ℕ, List, [], ◌∷◌, ◌++◌, refl, sym, ◌∙◌, ap, subst, append_assoc}
use Rattle.std.proofs.Math.Decide.{ℕ_discrete}
use Rattle.flat_laws.specs.LayerLaws.{ZoneLaw}
use Rattle.flat_layout.specs.Layout.{Place, Design, IsPlaced, Leads, Takes, IsPrefix, IsDisturbed, IsReached}
use Rattle.flat_layout.specs.Zones.{IsDisturbedAbove}
use Rattle.geo_base.specs.declared.layer.LayerKey.{LayerKey}
use Rattle.geo_base.specs.Motions.{moved_square}
use Rattle.geo_base.specs.declared.shapes.Square.{Square}
use Rattle.flat_laws.proofs.Paths.{moved_square-injective, same_place, disturbs, extends, shorter}

last : (xs : List ℕ) → (xs ≡ []) ⊎ ((ys : List ℕ) × (k : ℕ) × (xs ≡ ys ++ k ∷ []))
last [] = inl refl
last (x ∷ xs) = elim (last xs) [
  | inl e ↦ inr ([], x, ap (λ (l : List ℕ). x ∷ l) e)
  | inr h ↦ inr (x ∷ h.0, h.1, ap (λ (l : List ℕ). x ∷ l) h.2)
]

split_takes : (d : Design) (from to k : ℕ) (ys : List ℕ) (s q : Square) → Takes d from (ys ++ k ∷ []) to s q
    → (mid : ℕ) × (p : Place) × IsPlaced d mid k p × (p.cell ≡ to) × Takes d from ys mid (moved_square p.motion s) q
split_takes d from to k [] s q (p, placed, r, here, e) = (from, p, placed, here.0, (refl, ap (moved_square p.motion) here.1 ∙ e))
split_takes d from to k (y ∷ ys) s q (p, placed, r, rest, e) =
    let h = split_takes d p.cell to k ys s r rest in
    (h.0, h.1, h.2, h.3, (p, placed, r, h.4, e))

prefix_decided : (ys xs : List ℕ) → IsPrefix ys xs ⊎ (IsPrefix ys xs → ⊥)
prefix_decided [] xs = inl (xs, refl)
prefix_decided (y ∷ ys) [] = inr (λ h. let e : (y ∷ ys) ++ h.0 ≡ [] = h.1 in cc)
prefix_decided (y ∷ ys) (x ∷ xs) =
    elim (ℕ_discrete y x) [
      | no not ↦ inr (λ h. let e : (y ∷ (ys ++ h.0)) ≡ x ∷ xs = h.1 in let same : y ≡ x = cc in not same)
      | yes one ↦ elim (prefix_decided ys xs) [
        | inl h ↦ let f = h.1 in inl (h.0, (let e : (y ∷ (ys ++ h.0)) ≡ x ∷ xs = cc in e))
        | inr none ↦ inr (λ h. let e : (y ∷ (ys ++ h.0)) ≡ x ∷ xs = h.1 in let f : ys ++ h.0 ≡ xs = cc in none (h.0, f))
      ]
    ]

-- what goes on behind a common path
behind : (d : Design) (from mid to : ℕ) (ys zs : List ℕ) (s r q : Square) → Takes d from (ys ++ zs) to s q → Takes d from ys mid r q → Takes d mid zs to s r
behind d from mid to [] zs s r q h g = subst (λ c. Takes d c zs to s r) g.0 (subst (λ v. Takes d from zs to s v) (sym g.1) h)
behind d from mid to (y ∷ ys) zs s r q (p, placed, v, rest, e) (p', placed', v', rest', e') =
    let place : p' ≡ p = same_place d from y p' p placed' placed in
    let at : moved_square p.motion v' ≡ q = subst (λ (f : Place). moved_square f.motion v' ≡ q) place e' in
    let square : v' ≡ v = moved_square-injective p.motion v' v (at ∙ sym e) in
    let there : Takes d p.cell ys mid r v = subst (λ f. Takes d p.cell ys mid r f) square (subst (λ (f : Place). Takes d f.cell ys mid r v') place rest') in
    behind d p.cell mid to ys zs s r v rest there

pub leads_of : (d : Design) (from to : ℕ) (ys : List ℕ) (s q : Square) → Takes d from ys to s q → Leads d from ys to
leads_of d from to [] s q h = h.0
leads_of d from to (y ∷ ys) s q (p, placed, r, rest, e) = (p, placed, leads_of d p.cell to ys s r rest)

above : (d : Design) (keys : List LayerKey) (cell : ℕ) (q : Square) → IsDisturbed d keys cell q → IsDisturbedAbove d keys cell q
above d keys cell q h =
    elim (last h.path) [
      | inl e ↦ absurd (h.apart (subst (λ xs. IsPrefix xs h.other) (sym e) (h.other, refl)))
      | inr l ↦
          let ys = l.0 in
          let k = l.1 in
          let t = split_takes d d.top cell k ys q h.place (subst (λ xs. Takes d d.top xs cell q h.place) l.2 h.takes) in
          let p = t.1 in
          let up : IsReached d t.0 = record { path = ys; leads = leads_of d d.top t.0 ys (moved_square p.motion q) h.place t.4 } in
          elim (prefix_decided ys h.other) [
            | inl f ↦
                let zs = f.0 in
                let rest = behind d d.top t.0 h.end ys zs h.square (moved_square p.motion q) h.place (subst (λ xs. Takes d d.top xs h.end h.square h.place) (sym f.1) h.others) t.4 in
                record {
                  parent = t.0;
                  number = k;
                  place = p;
                  reached = up;
                  placed = t.2;
                  here = t.3;
                  why = inr (record {
                    path = zs;
                    end = h.end;
                    square = h.square;
                    key = h.key;
                    listed = h.listed;
                    takes = rest;
                    own = h.own;
                    apart = λ g. h.apart (g.0, ap (λ (xs : List ℕ). xs ++ g.0) l.2 ∙ append_assoc ys (k ∷ []) g.0 ∙ ap (λ (xs : List ℕ). ys ++ xs) g.1 ∙ f.1);
                  });
                }
            | inr not ↦
                record {
                  parent = t.0;
                  number = k;
                  place = p;
                  reached = up;
                  placed = t.2;
                  here = t.3;
                  why = inl (record { path = ys; other = h.other; end = h.end; square = h.square; place = h.place; key = h.key; listed = h.listed; takes = t.4; others = h.others; own = h.own; apart = not });
                }
          ]
    ]

below : (d : Design) (keys : List LayerKey) (cell : ℕ) (q : Square) → IsDisturbedAbove d keys cell q → IsDisturbed d keys cell q
below d keys cell q h = subst (λ c. IsDisturbed d keys c q) h.here (elim h.why [
  | inl g ↦ record {
    path = g.path ++ h.number ∷ [];
    other = g.other;
    end = g.end;
    square = g.square;
    place = g.place;
    key = g.key;
    listed = g.listed;
    takes = extends d d.top h.parent h.number h.place g.path q g.place g.takes h.placed;
    others = g.others;
    own = g.own;
    apart = λ f. g.apart (shorter g.path h.number g.other f);
  }
  | inr g ↦ disturbs d keys g.key h.parent h.number h.place q g.square g.path g.end h.reached h.placed g.listed g.takes g.own g.apart
])

pub zones : ZoneLaw
zones d keys cell q = (above d keys cell q, below d keys cell q)
