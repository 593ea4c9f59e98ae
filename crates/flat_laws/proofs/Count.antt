-- A count is one number.
use Rattle.std.proofs.Common.{◌≡◌, ◌⊎◌, inl, inr, ℕ, suc, ◌+◌, ◌<◌, ◌≤◌, List, [], ◌∷◌, length, refl, sym, ◌∙◌, ap, subst, arith}
use Rattle.flat_laws.specs.GateLaws.{GoodInLaw, OneCountLaw, OneSizesLaw}
use Rattle.flat_layout.specs.Gates.{Counts, Sides, TwoGroups, Region, Form, Beside, Alone, Rule, form_of, geometry, sheets, InGate, IsBorder, IsWide, IsLong}
use Rattle.flat_layout.specs.Layers.{InFlat}
use Rattle.flat_layout.specs.Layout.{Design}
use Rattle.flat_layout.specs.Parts.{IsGoodForm}
use Rattle.flat_layout.specs.Regions.{Wiring}
use Rattle.geo_base.specs.declared.shapes.Square.{Square}
use Rattle.plain_netlist.specs.Lists.{IsListed, AreApart}

-- a list without one of its items
without : {A : Type 0} (x : A) (ys : List A) → IsListed x ys → (zs : List A) × (length ys ≡ suc (length zs)) × ((a : A) → IsListed a ys → (a ≡ x) ⊎ IsListed a zs)
without x [] h = absurd h
without x (y ∷ ys) (inl e) = (ys, refl, λ a l. elim l [ inl f ↦ inl (f ∙ sym e) | inr g ↦ inr g ])
without x (y ∷ ys) (inr h) =
    let r = without x ys h in
    (y ∷ r.0, ap (λ (n : ℕ). suc n) r.1, λ a l. elim l [ inl f ↦ inr (inl f) | inr g ↦ elim (r.2 a g) [ inl f ↦ inl f | inr k ↦ inr (inr k) ] ])

pub fewer : {A : Type 0} (xs ys : List A) → AreApart xs → ((a : A) → IsListed a xs → IsListed a ys) → length xs ≤ length ys
fewer [] ys apart in_ys = omega arith
fewer (x ∷ xs) ys apart in_ys =
    let r = without x ys (in_ys x (inl refl)) in
    let e = r.1 in
    let rest = fewer xs r.0 apart.1 (λ a l. elim (r.2 a (in_ys a (inr l))) [ inl f ↦ absurd (apart.0 (subst (λ b. IsListed b xs) f l)) | inr k ↦ k ]) in
    omega arith

pub count_one : {A : Type 0} (P : A → Type 0) (m n : ℕ) → Counts P m → Counts P n → m ≡ n
count_one P m n h g =
    let a = fewer h.all g.all h.apart (λ x l. (g.each x).0 ((h.each x).1 l)) in
    let b = fewer g.all h.all g.apart (λ x l. (h.each x).0 ((g.each x).1 l)) in
    let e = h.count in
    let f = g.count in
    omega arith

pub counts : OneCountLaw
counts d w u cell s m n = (
  count_one (IsWide d w u cell s) m n,
  count_one (IsLong d w u cell s) m n,
  count_one (InGate d (geometry w u) cell s) m n,
  count_one (IsBorder d w u cell s) m n,
)

form_sizes : (d : Design) (w : Wiring) (u : Rule) (cell : ℕ) (s : Square) (form : Form) (a b : Sides) (m n k l : ℕ) → IsGoodForm form (sheets d w u cell) (InGate d (geometry w u) cell s) a m n
    → IsGoodForm form (sheets d w u cell) (InGate d (geometry w u) cell s) b k l → (m ≡ k) × (n ≡ l)
form_sizes d w u cell s Beside (TwoGroups e f) (TwoGroups x y) m n k l h g = (count_one (IsWide d w u cell s) m k h.wide g.wide, count_one (IsLong d w u cell s) n l h.long g.long)
form_sizes d w u cell s Beside (TwoGroups e f) Region m n k l h g = absurd g
form_sizes d w u cell s Beside Region b m n k l h g = absurd h
form_sizes d w u cell s Alone (TwoGroups e f) b m n k l h g = absurd h
form_sizes d w u cell s Alone Region (TwoGroups e f) m n k l h g = absurd g
form_sizes d w u cell s Alone Region Region m n k l h g =
    let edges = count_one (IsBorder d w u cell s) h.edges g.edges h.border g.border in
    (count_one (InGate d (geometry w u) cell s) m k h.area g.area, h.twice ∙ ap (λ (x : ℕ). x + x) edges ∙ sym g.twice)

pub one_sizes : OneSizesLaw
one_sizes d w u cell s a b m n k l h g = form_sizes d w u cell s (form_of u.kind) a b m n k l h g

-- what is counted and not none, there is one of
some_counted : {A : Type 0} (P : A → Type 0) (n : ℕ) → Counts P n → 0 < n → (a : A) × P a
some_counted {A = A} P n c lt = by c.all refl
  where
    by : (list : List A) → list ≡ c.all → (a : A) × P a
    by [] e = let f : 0 ≡ n = ap (λ (l : List A). length l) e ∙ c.count in absurd (omega arith)
    by (x ∷ xs) e = (x, (c.each x).1 (subst (λ l. IsListed x l) e (inl refl)))

form_in : (d : Design) (w : Wiring) (u : Rule) (cell : ℕ) (s : Square) (form : Form) (sides : Sides) (m n : ℕ) → IsGoodForm form (sheets d w u cell) (InGate d (geometry w u) cell s) sides m n → InFlat d cell u.gate s
form_in d w u cell s Beside (TwoGroups e f) m n h = (h.groups.each e (inl refl)).border.inside.from
form_in d w u cell s Beside Region m n h = absurd h
form_in d w u cell s Alone (TwoGroups e f) m n h = absurd h
form_in d w u cell s Alone Region m n h = (some_counted (InGate d (geometry w u) cell s) m h.area h.some).1.from

pub good_in : GoodInLaw
good_in d w u cell s sides m n h = form_in d w u cell s (form_of u.kind) sides m n h
