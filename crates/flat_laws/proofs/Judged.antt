-- A gate is good or bad, and bad for one cause, also seen from above.
use Rattle.std.proofs.Common.{◌≡◌, ◌⊎◌, inl, inr, ℕ, suc, ◌≤◌, List, [], ◌∷◌, length, refl, sym, ◌∙◌, ap, subst, arith}
use Rattle.geo_base.specs.declared.shapes.Square.{Square}
use Rattle.flat_laws.specs.GateLaws.{CauseAlongLaw, NotBothLaw, OneCauseLaw}
use Rattle.flat_layout.specs.Gates.{Rule, geometry, Edge, Sides, TwoGroups, Region, Form, Beside, Alone, form_of, gate_sheet, sheets, AreClasses, AreGroups, IsStep, InSide, InOneGroup, IsWide, IsBadGate, InGate}
use Rattle.flat_layout.specs.Parts.{Edges, AllOn, SomeOff, InEnds, IsGoodPart, IsBadPart, IsGoodArea, IsBadArea, IsGoodForm, IsBadForm}
use Rattle.flat_layout.specs.Layout.{Design}
use Rattle.flat_layout.specs.Layers.{InFlat}
use Rattle.flat_layout.specs.Regions.{Wiring, formula}
use Rattle.plain_netlist.specs.Lists.{IsListed, AreApart}
use Rattle.plain_netlist.proofs.Links.{both, back}
use Rattle.flat_laws.proofs.Count.{fewer, counts}
use Rattle.flat_laws.proofs.Cover.{reached_below}
use Rattle.flat_laws.proofs.Formed.{bad, read_layers}
use Rattle.flat_laws.proofs.Once.{settled_along}
use Rattle.flat_laws.proofs.Joints.{adjacent_back}
use Rattle.flat_layout.specs.declared.cause.GateCause.{GateCause}
use Rattle.flat_layout.specs.declared.cause.GateCause.TheVariants.{Groups, OffGate, OffSd, NoBulk, NoLength}

module _ {A : Type 0} (P : A → Type 0) (R : A → A → Type 0) (turn : (a b : A) → R a b → R b a) (on : (a b c : A) → R a b → R b c → R a c) (l m : List A) (x : AreClasses P R l) (y : AreClasses P R m) where
  record Images (xs : List A) : Type 0 where
    ys : List A
    long : length ys ≡ length xs
    apart : AreApart ys
    from : (b : A) → IsListed b ys → IsListed b m × ((a : A) × IsListed a xs × R a b)

  images : (xs : List A) → ((a : A) → IsListed a xs → IsListed a l) → AreApart xs → Images xs
  images [] inside apart = record { ys = []; long = refl; apart = tt; from = λ b i. absurd i }
  images (a ∷ xs) inside apart =
      let rest = images xs (λ b i. inside b (inr i)) apart.1 in
      let f = y.found a (x.each a (inside a (inl refl))) in
      let new : IsListed f.0 rest.ys → ⊥ = λ i.
      let g = rest.from f.0 i in
      let same : a ≡ g.1.0 = x.one a g.1.0 (inside a (inl refl)) (inside g.1.0 (inr g.1.1)) (on a f.0 g.1.0 f.2 (turn g.1.0 f.0 g.1.2)) in
      apart.0 (subst (λ z. IsListed z xs) (sym same) g.1.1) in
      record {
        ys = f.0 ∷ rest.ys;
        long = ap suc rest.long;
        apart = (new, rest.apart);
        from = λ b i. elim i [
          | inl e ↦ (subst (λ z. IsListed z m) (sym e) f.1, (a, inl refl, subst (λ z. R a z) (sym e) f.2))
          | inr j ↦ let g = rest.from b j in (g.0, (g.1.0, inr g.1.1, g.1.2))
        ];
      }

  pub no_longer : length l ≤ length m
  no_longer =
      let r = images l (λ a i. i) x.apart in
      let h = fewer r.ys m r.apart (λ b i. (r.from b i).0) in
      let e = r.long in
      omega arith

module _ (d : Design) (w : Wiring) (u : Rule) (cell : ℕ) (s : Square) where
  abbrev R : Edge → Edge → Type 0
  R = λ a b. InOneGroup d w u cell s a.outer b.outer

  turn : (a b : Edge) → R a b → R b a
  turn a b h = back (IsStep (InSide d w u cell s)) (adjacent_back Edges (InSide d w u cell s)) a.outer b.outer h

  on : (a b c : Edge) → R a b → R b c → R a c
  on a b c h k = both (IsStep (InSide d w u cell s)) a.outer b.outer c.outer h k

  pub as_many : (l m : List Edge) → AreGroups d w u cell s l → AreGroups d w u cell s m → length l ≡ length m
  as_many l m x y =
      let a = no_longer (IsWide d w u cell s) R turn on l m x y in
      let b = no_longer (IsWide d w u cell s) R turn on m l y x in
      omega arith

  -- the squares of two groups, named twice
  ends_same : (e f a b : Edge) → AreGroups d w u cell s (e ∷ (f ∷ [])) → AreGroups d w u cell s (a ∷ (b ∷ [])) → (q : Square) → InOneGroup d w u cell s e.outer q ⊎ InOneGroup d w u cell s f.outer q
      → InOneGroup d w u cell s a.outer q ⊎ InOneGroup d w u cell s b.outer q
  ends_same e f a b x y q (inl h) = by e (x.each e (inl refl)) h
    where
      by : (c : Edge) → IsWide d w u cell s c → InOneGroup d w u cell s c.outer q → InOneGroup d w u cell s a.outer q ⊎ InOneGroup d w u cell s b.outer q
      by c wide way = let r = y.found c wide in pick r.0 r.1 (both (IsStep (InSide d w u cell s)) r.0.outer c.outer q (turn c r.0 r.2) way)
        where
          pick : (z : Edge) → IsListed z (a ∷ (b ∷ [])) → InOneGroup d w u cell s z.outer q → InOneGroup d w u cell s a.outer q ⊎ InOneGroup d w u cell s b.outer q
          pick z (inl i) k = inl (subst (λ (v : Edge). InOneGroup d w u cell s v.outer q) i k)
          pick z (inr (inl i)) k = inr (subst (λ (v : Edge). InOneGroup d w u cell s v.outer q) i k)
          pick z (inr (inr i)) k = absurd i
  ends_same e f a b x y q (inr h) = by f (x.each f (inr (inl refl))) h
    where
      by : (c : Edge) → IsWide d w u cell s c → InOneGroup d w u cell s c.outer q → InOneGroup d w u cell s a.outer q ⊎ InOneGroup d w u cell s b.outer q
      by c wide way = let r = y.found c wide in pick r.0 r.1 (both (IsStep (InSide d w u cell s)) r.0.outer c.outer q (turn c r.0 r.2) way)
        where
          pick : (z : Edge) → IsListed z (a ∷ (b ∷ [])) → InOneGroup d w u cell s z.outer q → InOneGroup d w u cell s a.outer q ⊎ InOneGroup d w u cell s b.outer q
          pick z (inl i) k = inl (subst (λ (v : Edge). InOneGroup d w u cell s v.outer q) i k)
          pick z (inr (inl i)) k = inr (subst (λ (v : Edge). InOneGroup d w u cell s v.outer q) i k)
          pick z (inr (inr i)) k = absurd i

  on_off : (set : Square → Type 0) → AllOn (InGate d (geometry w u) cell s) set → SomeOff (InGate d (geometry w u) cell s) set → ⊥
  on_off set h k = k.2 (h k.0 k.1)

  -- the sets that the gate, the ends and the bulk are to be on
  abbrev on_tg : Square → Type 0
  on_tg = gate_sheet u.kind (InFlat d cell (formula w u.tg))

  abbrev on_ts : Square → Type 0
  on_ts = InFlat d cell (formula w u.ts)

  abbrev on_tb : Square → Type 0
  on_tb = InFlat d cell (formula w u.tb)

  ends_clash : (e f a b : Edge) → AreGroups d w u cell s (e ∷ (f ∷ [])) → AreGroups d w u cell s (a ∷ (b ∷ [])) → AllOn (InEnds (InGate d (geometry w u) cell s) (InFlat d cell u.sd) a b) (InFlat d cell (formula w u.ts)) → SomeOff (InEnds (InGate d (geometry w u) cell s) (InFlat d cell u.sd) e f) (InFlat d cell (formula w u.ts)) → ⊥
  ends_clash e f a b x y h k = k.2 (h k.0 (ends_same e f a b x y k.0 k.1))

  many : (l : List Edge) (e f : Edge) (count : ℕ) → AreGroups d w u cell s l → length l ≡ count → (count ≡ 2 → ⊥) → AreGroups d w u cell s (e ∷ (f ∷ [])) → ⊥
  many l e f count x long apart2 y = let h = as_many l (e ∷ (f ∷ [])) x y in apart2 (sym long ∙ h)

  not_both_part : (e f : Edge) (m n : ℕ) (c : GateCause) → IsGoodPart (sheets d w u cell) (InGate d (geometry w u) cell s) e f m n → IsBadPart (sheets d w u cell) (InGate d (geometry w u) cell s) c → ⊥
  not_both_part e f m n (Groups count) form (l, x, long, apart2) = many l e f count x long apart2 form.groups
  not_both_part e f m n OffGate form (a, b, x, off) = on_off on_tg form.gate_on off
  not_both_part e f m n OffSd form (a, b, x, gate, off) = ends_clash a b e f x form.groups form.ends_on off
  not_both_part e f m n NoBulk form (a, b, x, gate, ends, none, off) = on_off on_tb (form.bulk_on none) off
  not_both_part e f m n NoLength form (a, b, x, gate, ends, bulk, none) = let h = (counts d w u cell s n 0).1 form.long none in let k = form.some in absurd (omega arith)

  one_part : (a b : GateCause) → IsBadPart (sheets d w u cell) (InGate d (geometry w u) cell s) a → IsBadPart (sheets d w u cell) (InGate d (geometry w u) cell s) b → a ≡ b
  one_part (Groups m) (Groups n) (l, x, long, apart2) (k, y, far, not) = let h = as_many l k x y in ap Groups (sym long ∙ (h ∙ far))
  one_part (Groups m) OffGate (l, x, long, apart2) k = absurd (many l k.0 k.1 m x long apart2 k.2)
  one_part (Groups m) OffSd (l, x, long, apart2) k = absurd (many l k.0 k.1 m x long apart2 k.2)
  one_part (Groups m) NoBulk (l, x, long, apart2) k = absurd (many l k.0 k.1 m x long apart2 k.2)
  one_part (Groups m) NoLength (l, x, long, apart2) k = absurd (many l k.0 k.1 m x long apart2 k.2)
  one_part OffGate (Groups m) k (l, x, long, apart2) = absurd (many l k.0 k.1 m x long apart2 k.2)
  one_part OffSd (Groups m) k (l, x, long, apart2) = absurd (many l k.0 k.1 m x long apart2 k.2)
  one_part NoBulk (Groups m) k (l, x, long, apart2) = absurd (many l k.0 k.1 m x long apart2 k.2)
  one_part NoLength (Groups m) k (l, x, long, apart2) = absurd (many l k.0 k.1 m x long apart2 k.2)
  one_part OffGate OffGate h k = refl
  one_part OffSd OffSd h k = refl
  one_part NoBulk NoBulk h k = refl
  one_part NoLength NoLength h k = refl
  one_part OffGate OffSd h k = absurd (on_off on_tg k.3 h.3)
  one_part OffGate NoBulk h k = absurd (on_off on_tg k.3 h.3)
  one_part OffGate NoLength h k = absurd (on_off on_tg k.3 h.3)
  one_part OffSd OffGate h k = absurd (on_off on_tg h.3 k.3)
  one_part NoBulk OffGate h k = absurd (on_off on_tg h.3 k.3)
  one_part NoLength OffGate h k = absurd (on_off on_tg h.3 k.3)
  one_part OffSd NoBulk h k = absurd (ends_clash h.0 h.1 k.0 k.1 h.2 k.2 k.4 h.4)
  one_part OffSd NoLength h k = absurd (ends_clash h.0 h.1 k.0 k.1 h.2 k.2 k.4 h.4)
  one_part NoBulk OffSd h k = absurd (ends_clash k.0 k.1 h.0 h.1 k.2 h.2 h.4 k.4)
  one_part NoLength OffSd h k = absurd (ends_clash k.0 k.1 h.0 h.1 k.2 h.2 h.4 k.4)
  one_part NoBulk NoLength h k = absurd (on_off on_tb (k.5 h.5) h.6)
  one_part NoLength NoBulk h k = absurd (on_off on_tb (h.5 k.5) k.6)

  not_both_area : (m n : ℕ) (c : GateCause) → IsGoodArea (sheets d w u cell) (InGate d (geometry w u) cell s) m n → IsBadArea (sheets d w u cell) (InGate d (geometry w u) cell s) c → ⊥
  not_both_area m n (Groups count) form h = h
  not_both_area m n OffGate form h = h
  not_both_area m n OffSd form (free, off) = on_off on_ts (form.ends_on free) off
  not_both_area m n NoBulk form (ends, none, off) = on_off on_tb (form.bulk_on none) off
  not_both_area m n NoLength form h = h

  one_area : (a b : GateCause) → IsBadArea (sheets d w u cell) (InGate d (geometry w u) cell s) a → IsBadArea (sheets d w u cell) (InGate d (geometry w u) cell s) b → a ≡ b
  one_area (Groups m) b h k = absurd h
  one_area OffGate b h k = absurd h
  one_area NoLength b h k = absurd h
  one_area OffSd (Groups m) h k = absurd k
  one_area OffSd OffGate h k = absurd k
  one_area OffSd NoLength h k = absurd k
  one_area OffSd OffSd h k = refl
  one_area OffSd NoBulk h k = absurd (on_off on_ts (k.0 h.0) h.1)
  one_area NoBulk (Groups m) h k = absurd k
  one_area NoBulk OffGate h k = absurd k
  one_area NoBulk NoLength h k = absurd k
  one_area NoBulk OffSd h k = absurd (on_off on_ts (h.0 k.0) k.1)
  one_area NoBulk NoBulk h k = refl

  not_both_form : (form : Form) (sides : Sides) (m n : ℕ) (c : GateCause) → IsGoodForm form (sheets d w u cell) (InGate d (geometry w u) cell s) sides m n → IsBadForm form (sheets d w u cell) (InGate d (geometry w u) cell s) c → ⊥
  not_both_form Beside (TwoGroups e f) m n c h k = not_both_part e f m n c h k
  not_both_form Beside Region m n c h k = h
  not_both_form Alone (TwoGroups e f) m n c h k = h
  not_both_form Alone Region m n c h k = not_both_area m n c h k

  one_form : (form : Form) (a b : GateCause) → IsBadForm form (sheets d w u cell) (InGate d (geometry w u) cell s) a → IsBadForm form (sheets d w u cell) (InGate d (geometry w u) cell s) b → a ≡ b
  one_form Beside a b h k = one_part a b h k
  one_form Alone a b h k = one_area a b h k

pub not_both : NotBothLaw
not_both d w u cell s sides m n c h k = not_both_form d w u cell s (form_of u.kind) sides m n c h k

pub one_cause : OneCauseLaw
one_cause d w u cell s a b h k = one_form d w u cell s (form_of u.kind) a b h k

pub along_path : CauseAlongLaw
along_path d w u [] cell end s q c reached takes settled h = subst (λ x. IsBadGate d w u x q c) (sym takes.0) (subst (λ z. IsBadGate d w u end z c) takes.1 h)
along_path d w u (k ∷ ks) cell end s q c reached (p, placed, r, takes, here) settled h =
    let down = reached_below d cell k p reached placed in
    let below = along_path d w u ks p.cell end s r c down takes settled h in
    let still = settled_along d (geometry w u) (read_layers w u).gate ks p.cell end s r down takes settled in
    subst (λ z. IsBadGate d w u cell z c) here (bad d w u cell k p r reached placed still c below)
