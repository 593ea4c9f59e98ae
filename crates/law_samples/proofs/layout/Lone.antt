-- A gate of one square, with a side left and right of it, is good.
use Rattle.std.proofs.Common.{◌≡◌, ◌⊎◌, inl, inr, ℕ, zero, suc, ◌≤◌, ◌+◌, List, [], ◌∷◌, pos, negsuc, refl, sym, ◌∙◌, ap, subst, arith}
use Rattle.std.proofs.lemmas.Int.{ints}
use Rattle.geo_base.specs.declared.shapes.Square.{Square}
use Rattle.flat_laws.proofs.Squares.{same_square}
use Rattle.flat_layout.specs.Gates.{Geometry, geometry, IsStep, InGate, InSide, InOneGroup, Edge, IsBorder, IsWide, IsLong, AreGroups, TwoGroups, IsGoodGate, IsSourceFirst, IsLeast}
use Rattle.plain_netlist.specs.Lists.{IsListed, AreApart}
use Rattle.flat_layout.specs.Layers.{Input, InFlat}
use Rattle.flat_layout.specs.Plane.{SharesEdge, IsAround, IsSquareBefore}
use Rattle.law_samples.proofs.layout.Columns.{one_column}
use Rattle.law_samples.proofs.layout.Sides.{side_column, gates_odd}
use Rattle.law_samples.specs.Transistors.{key_of, at, gate_design, gate_wiring, rule}
use Rattle.plain_netlist.proofs.Links.{stays}
use Rattle.plain_netlist.specs.Chains.{Reaches, IsChain}

-- what the rule's geometry reads
abbrev pub geo : Geometry
geo = geometry gate_wiring rule

abbrev pub InG : ℕ → Square → Type 0
InG cell = InFlat gate_design cell rule.gate

abbrev pub InS : ℕ → Square → Type 0
InS cell = InFlat gate_design cell rule.sd

alone_chain : (set : Square → Type 0) → ((p q : Square) → set p → set q → SharesEdge p q → ⊥) → (a b : Square) (via : List Square) → IsChain (IsStep set) a via b → a ≡ b
alone_chain set apart a b [] e = e
alone_chain set apart a b (x ∷ xs) (step, rest) = absurd (apart a x step.from step.to step.edge)

-- where no two squares of a set share an edge, a chain stays
alone : (set : Square → Type 0) → ((p q : Square) → set p → set q → SharesEdge p q → ⊥) → (a b : Square) → Reaches (IsStep set) a b → a ≡ b
alone set apart a b h = alone_chain set apart a b h.via h.chain

columns_beside : (a b : ℕ) → SharesEdge (at a) (at b) → (suc a ≡ b) ⊎ (suc b ≡ a)
columns_beside a b (inl (e, inl f)) = absurd (omega (arith, ints))
columns_beside a b (inl (e, inr f)) = absurd (omega (arith, ints))
columns_beside a b (inr (e, inl f)) = inl (omega (arith, ints))
columns_beside a b (inr (e, inr f)) = inr (omega (arith, ints))

at_beside : (p q : Square) (a b : ℕ) → p ≡ at a → q ≡ at b → SharesEdge p q → (suc a ≡ b) ⊎ (suc b ≡ a)
at_beside p q a b e f h = columns_beside a b (subst (λ k. SharesEdge (at a) k) f (subst (λ k. SharesEdge k q) e h))

same_far : (a b : ℕ) → a ≡ b → (suc a ≡ b) ⊎ (suc b ≡ a) → ⊥
same_far a b e (inl f) = absurd (omega arith)
same_far a b e (inr f) = absurd (omega arith)

two_far : (a b : ℕ) → (suc (suc a) ≡ b) ⊎ (suc (suc b) ≡ a) → (suc a ≡ b) ⊎ (suc b ≡ a) → ⊥
two_far a b (inl e) (inl f) = absurd (omega arith)
two_far a b (inl e) (inr f) = absurd (omega arith)
two_far a b (inr e) (inl f) = absurd (omega arith)
two_far a b (inr e) (inr f) = absurd (omega arith)

gates_apart : (cell : ℕ) (p q : Square) → InG cell p → InG cell q → SharesEdge p q → ⊥
gates_apart cell p q g h e =
    elim (gates_odd cell p g) [
      | inl a ↦ elim (gates_odd cell q h) [ inl b ↦ same_far 1 1 refl (at_beside p q 1 1 a b e) | inr b ↦ two_far 1 3 (inl refl) (at_beside p q 1 3 a b.1 e) ]
      | inr a ↦ elim (gates_odd cell q h) [ inl b ↦ two_far 3 1 (inr refl) (at_beside p q 3 1 a.1 b e) | inr b ↦ same_far 3 3 refl (at_beside p q 3 3 a.1 b.1 e) ]
    ]

-- a gate has one square
pub gate_is : (cell : ℕ) (s q : Square) → InGate gate_design geo cell s q → s ≡ q
gate_is cell s q h = alone (InG cell) (gates_apart cell) s q h.joined

pub gate_self : (cell : ℕ) (s q : Square) → InG cell s → s ≡ q → InGate gate_design geo cell s q
gate_self cell s q g e = record { from = g; joined = stays (IsStep (InG cell)) s q e }

abbrev pub gate_at : ℕ → Square
gate_at m = at (suc (m + m))

abbrev pub left_at : ℕ → Square
left_at m = at (m + m)

abbrev pub right_at : ℕ → Square
right_at m = at (suc (suc (m + m)))

abbrev up_at : ℕ → Square
up_at m = record { x = pos (suc (m + m)); y = pos 1 }

abbrev down_at : ℕ → Square
down_at m = record { x = pos (suc (m + m)); y = negsuc 0 }

abbrev pub edge_to : ℕ → Square → Edge
edge_to m q = record { inner = gate_at m; outer = q }

edge_same : (m : ℕ) (e : Edge) (q : Square) → gate_at m ≡ e.inner → e.outer ≡ q → e ≡ edge_to m q
edge_same m e q a b = ap (λ (v : Square). let k : Edge = record { inner = v; outer = e.outer } in k) (sym a) ∙ ap (λ (v : Square). let k : Edge = record { inner = gate_at m; outer = v } in k) b

data IsBeside (m : ℕ) (q : Square) : Type 0 where
  Left : q ≡ left_at m → IsBeside m q
  Right : q ≡ right_at m → IsBeside m q
  Up : q ≡ up_at m → IsBeside m q
  Down : q ≡ down_at m → IsBeside m q

beside : (m : ℕ) (q : Square) → SharesEdge (gate_at m) q → IsBeside m q
beside m q (inl (e, inl f)) = Up (same_square q (up_at m) (sym e) (omega (arith, ints)))
beside m q (inl (e, inr f)) = Down (same_square q (down_at m) (sym e) (omega (arith, ints)))
beside m q (inr (e, inl f)) = Right (same_square q (right_at m) (omega (arith, ints)) (sym e))
beside m q (inr (e, inr f)) = Left (same_square q (left_at m) (omega (arith, ints)) (sym e))

row_zero : (cell : ℕ) (q : Square) → InS cell q → q.y ≡ pos 0
row_zero cell q h = let s = side_column cell q h in ap (λ (k : Square). k.y) s.1

one_of_three : (k n : ℕ) → n ≤ k → k ≤ suc (suc n) → (k ≡ n) ⊎ ((k ≡ suc n) ⊎ (k ≡ suc (suc n)))
one_of_three zero zero a b = inl refl
one_of_three (suc zero) zero a b = inr (inl refl)
one_of_three (suc (suc zero)) zero a b = inr (inr refl)
one_of_three (suc (suc (suc k))) zero a b = absurd (omega arith)
one_of_three zero (suc n) a b = absurd (omega arith)
one_of_three (suc k) (suc n) a b = elim (one_of_three k n (omega arith) (omega arith)) [ inl e ↦ inl (ap suc e) | inr f ↦ inr (elim f [ inl e ↦ inl (ap suc e) | inr e ↦ inr (ap suc e) ]) ]

-- the ring's sides are those left and right
ring_side : (cell m : ℕ) (q : Square) → InG cell (gate_at m) → InSide gate_design gate_wiring rule cell (gate_at m) q → (q ≡ left_at m) ⊎ (q ≡ right_at m)
ring_side cell m q gate h =
    let close = h.ring.close in
    let e = gate_is cell (gate_at m) close.square close.in_part in
    let near : IsAround (gate_at m) q = subst (λ k. IsAround k q) (sym e) close.around in
    let c = side_column cell q h.sd in
    let x = ap (λ (k : Square). k.x) c.1 in
    let a = near.left in
    let b = near.right in
    elim (one_of_three c.0 (m + m) (omega (arith, ints)) (omega (arith, ints))) [
      | inl f ↦ inl (c.1 ∙ ap at f)
      | inr f ↦ elim f [ inl g ↦ absurd (h.sd.1 (subst (InFlat gate_design cell (Input (key_of 1))) (sym (c.1 ∙ ap at g)) gate.1)) | inr g ↦ inr (c.1 ∙ ap at g) ]
    ]

ring_apart : (cell m : ℕ) (p q : Square) → InG cell (gate_at m) → InSide gate_design gate_wiring rule cell (gate_at m) p → InSide gate_design gate_wiring rule cell (gate_at m) q → SharesEdge p q → ⊥
ring_apart cell m p q gate g h e =
    let n = m + m in
    elim (ring_side cell m p gate g) [
      | inl a ↦ elim (ring_side cell m q gate h) [ inl b ↦ same_far n n refl (at_beside p q n n a b e) | inr b ↦ two_far n (suc (suc n)) (inl refl) (at_beside p q n (suc (suc n)) a b e) ]
      | inr a ↦ elim (ring_side cell m q gate h) [ inl b ↦ two_far (suc (suc n)) n (inr refl) (at_beside p q (suc (suc n)) n a b e) | inr b ↦ same_far (suc (suc n)) (suc (suc n)) refl (at_beside p q (suc (suc n)) (suc (suc n)) a b e) ]
    ]

-- so a group has one square too
pub group_is : (cell m : ℕ) (a b : Square) → InG cell (gate_at m) → InOneGroup gate_design gate_wiring rule cell (gate_at m) a b → a ≡ b
group_is cell m a b gate h = alone (InSide gate_design gate_wiring rule cell (gate_at m)) (λ p q x y e. ring_apart cell m p q gate x y e) a b h

pub group_self : (cell : ℕ) (s a : Square) → InOneGroup gate_design gate_wiring rule cell s a a
group_self cell s a = stays (IsStep (InSide gate_design gate_wiring rule cell s)) a a refl

module _ (cell m : ℕ) (gate : InG cell (gate_at m)) (left : InS cell (left_at m)) (right : InS cell (right_at m)) where
  abbrev Wide : Edge → Type 0
  Wide = IsWide gate_design gate_wiring rule cell (gate_at m)

  abbrev Long : Edge → Type 0
  Long = IsLong gate_design gate_wiring rule cell (gate_at m)

  border : (q : Square) → (gate_at m ≡ q → ⊥) → SharesEdge (gate_at m) q → IsBorder gate_design gate_wiring rule cell (gate_at m) (edge_to m q)
  border q other edge = record { inside = gate_self cell (gate_at m) (gate_at m) gate refl; outside = λ h. other (gate_is cell (gate_at m) q h); edge = edge }

  wide_left : Wide (edge_to m (left_at m))
  wide_left = record { border = border (left_at m) (λ e. let f = one_column (suc (m + m)) (m + m) e in absurd (omega arith)) (inr (refl, inr (omega (arith, ints)))); sd = left }

  wide_right : Wide (edge_to m (right_at m))
  wide_right = record { border = border (right_at m) (λ e. let f = one_column (suc (m + m)) (suc (suc (m + m))) e in absurd (omega arith)) (inr (refl, inl (omega (arith, ints)))); sd = right }

  long_up : Long (edge_to m (up_at m))
  long_up = record {
    border = border (up_at m) (λ e. let f = ap (λ (k : Square). k.y) e in absurd (omega (arith, ints))) (inl (refl, inl (omega (arith, ints))));
    other = λ h. let f = row_zero cell (up_at m) h in absurd (omega (arith, ints));
  }

  long_down : Long (edge_to m (down_at m))
  long_down = record {
    border = border (down_at m) (λ e. let f = ap (λ (k : Square). k.y) e in absurd (omega (arith, ints))) (inl (refl, inr (omega (arith, ints))));
    other = λ h. let f = row_zero cell (down_at m) h in absurd (omega (arith, ints));
  }

  abbrev sides : List Edge
  sides = edge_to m (left_at m) ∷ (edge_to m (right_at m) ∷ [])

  abbrev ends : List Edge
  ends = edge_to m (up_at m) ∷ (edge_to m (down_at m) ∷ [])

  outward : (e : Edge) → IsBorder gate_design gate_wiring rule cell (gate_at m) e → (gate_at m ≡ e.inner) × IsBeside m e.outer
  outward e b = let g = gate_is cell (gate_at m) e.inner b.inside in (g, beside m e.outer (subst (λ k. SharesEdge k e.outer) (sym g) b.edge))

  side_of : (e : Edge) → gate_at m ≡ e.inner → IsBeside m e.outer → InS cell e.outer → IsListed e sides
  side_of e g (Left f) sd = inl (edge_same m e (left_at m) g f)
  side_of e g (Right f) sd = inr (inl (edge_same m e (right_at m) g f))
  side_of e g (Up f) sd = let a = row_zero cell e.outer sd in let b = ap (λ (k : Square). k.y) f in absurd (omega (arith, ints))
  side_of e g (Down f) sd = let a = row_zero cell e.outer sd in let b = ap (λ (k : Square). k.y) f in absurd (omega (arith, ints))

  end_of : (e : Edge) → gate_at m ≡ e.inner → IsBeside m e.outer → (InS cell e.outer → ⊥) → IsListed e ends
  end_of e g (Left f) other = absurd (other (subst (InS cell) (sym f) left))
  end_of e g (Right f) other = absurd (other (subst (InS cell) (sym f) right))
  end_of e g (Up f) other = inl (edge_same m e (up_at m) g f)
  end_of e g (Down f) other = inr (inl (edge_same m e (down_at m) g f))

  wide_listed : (e : Edge) → Wide e → IsListed e sides
  wide_listed e h = let o = outward e h.border in side_of e o.0 o.1 h.sd

  listed_wide : (e : Edge) → IsListed e sides → Wide e
  listed_wide e (inl f) = subst Wide (sym f) wide_left
  listed_wide e (inr (inl f)) = subst Wide (sym f) wide_right
  listed_wide e (inr (inr n)) = absurd n

  long_listed : (e : Edge) → Long e → IsListed e ends
  long_listed e h = let o = outward e h.border in end_of e o.0 o.1 h.other

  listed_long : (e : Edge) → IsListed e ends → Long e
  listed_long e (inl f) = subst Long (sym f) long_up
  listed_long e (inr (inl f)) = subst Long (sym f) long_down
  listed_long e (inr (inr n)) = absurd n

  left_right : left_at m ≡ right_at m → ⊥
  left_right e = let f = one_column (m + m) (suc (suc (m + m))) e in absurd (omega arith)

  sides_apart_here : AreApart sides
  sides_apart_here = ((λ l. elim l [ inl e ↦ left_right (ap (λ (k : Edge). k.outer) e) | inr n ↦ n ]), ((λ l. l), tt))

  ends_apart_here : AreApart ends
  ends_apart_here = ((λ l. elim l [ inl e ↦ (let f = ap (λ (k : Edge). k.outer.y) e in absurd (omega (arith, ints))) | inr n ↦ n ]), ((λ l. l), tt))

  outer_of : (a b : Edge) → a ≡ b → a.outer ≡ b.outer
  outer_of a b e = ap (λ (k : Edge). k.outer) e

  one_side : (a b : Edge) → IsListed a sides → IsListed b sides → a.outer ≡ b.outer → a ≡ b
  one_side a b (inl e) (inl f) g = e ∙ sym f
  one_side a b (inl e) (inr (inl f)) g = absurd (left_right (sym (outer_of a (edge_to m (left_at m)) e) ∙ g ∙ outer_of b (edge_to m (right_at m)) f))
  one_side a b (inr (inl e)) (inl f) g = absurd (left_right (sym (outer_of b (edge_to m (left_at m)) f) ∙ sym g ∙ outer_of a (edge_to m (right_at m)) e))
  one_side a b (inr (inl e)) (inr (inl f)) g = e ∙ sym f
  one_side a b (inl e) (inr (inr n)) g = absurd n
  one_side a b (inr (inl e)) (inr (inr n)) g = absurd n
  one_side a b (inr (inr n)) l g = absurd n

  groups : AreGroups gate_design gate_wiring rule cell (gate_at m) sides
  groups = record {
    each = listed_wide;
    found = λ a h. (a, wide_listed a h, group_self cell (gate_at m) a.outer);
    one = λ a b k l r. one_side a b k l (group_is cell m a.outer b.outer gate r);
    apart = sides_apart_here;
  }

  end_on : (q : Square) → InOneGroup gate_design gate_wiring rule cell (gate_at m) (left_at m) q ⊎ InOneGroup gate_design gate_wiring rule cell (gate_at m) (right_at m) q → InS cell q
  end_on q (inl h) = subst (InS cell) (group_is cell m (left_at m) q gate h) left
  end_on q (inr h) = subst (InS cell) (group_is cell m (right_at m) q gate h) right

  -- two edges wide, two long
  pub form : IsGoodGate gate_design gate_wiring rule cell (gate_at m) (TwoGroups (edge_to m (left_at m)) (edge_to m (right_at m))) 2 2
  form = record {
    groups = groups;
    wide = record { all = sides; apart = sides_apart_here; each = λ a. (wide_listed a, listed_wide a); count = refl };
    long = record { all = ends; apart = ends_apart_here; each = λ a. (long_listed a, listed_long a); count = refl };
    some = omega arith;
    gate_on = λ q h. subst (InFlat gate_design cell (Input (key_of 1))) (gate_is cell (gate_at m) q h) gate.1;
    ends_on = end_on;
    bulk_on = λ e. absurd (let z : ⊥ = cc in z);
  }

  -- the source is the side on the left
  pub first : IsSourceFirst gate_design gate_wiring rule cell (gate_at m) (TwoGroups (edge_to m (left_at m)) (edge_to m (right_at m)))
  first = (left_at m, group_self cell (gate_at m) (left_at m), λ q h. subst (λ k. IsSquareBefore (left_at m) k) (group_is cell m (right_at m) q gate h) (inr (refl, omega (arith, ints))))

  -- and the one square is the least
  pub least : IsLeast (InGate gate_design geo cell (gate_at m)) (gate_at m)
  least = record { has = gate_self cell (gate_at m) (gate_at m) gate refl; least = λ q h. inl (gate_is cell (gate_at m) q h) }
