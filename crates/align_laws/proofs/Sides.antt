-- The two sides of an aligned pair; partners are one to one.
use Rattle.std.proofs.Common.{◌≡◌, ◌⊎◌, inl, inr, ℕ, ◌<◌, List, sym, ◌∙◌, ap, subst, arith}
use Rattle.net_names.specs.Folding.{folded_bytes}
use Rattle.plain_netlist.specs.Netlist.{CallRow, Circuit, Netlist, IsCircuit, IsCall}
use Rattle.plain_netlist.specs.Sound.{IsGood}
use Rattle.align_laws.specs.Cut.{Alignment, cut}
use Rattle.align_laws.specs.Partners.{HasName, IsLeftSaid, IsRightSaid, IsPartnerByName, IsPartner, AreNamesApart, AreLinesApart, OnePartnerLaw, SaidLaw, KeptLaw, AreSaidSame, IsAlignedPair, AreSides, AlignedSidesLaw, LeftOrderLaw}
use Rattle.align_laws.proofs.FlatGood.{flat_is_good}
use Rattle.align_laws.proofs.Soundness.{good_in, some_good, call_from}

module _ (layout schematic : Netlist) (top right_top : ℕ) (same : List (List ℕ × List ℕ)) (left right : Netlist) (v w : Alignment) (p : IsAlignedPair layout schematic top right_top same left right v w) where
  there : (k : ℕ) (x : Circuit) → IsCircuit left k x → (d : Circuit) × IsCircuit right k d
  there k x is =
      let f = p.left_only.from k x is in
      let pair = (p.pairs.left_kept f.0).0 f.1 in
      let kept = (p.pairs.right_kept pair.0).1 (f.0, pair.1) in
      let number = sym (p.pairs.together f.0 pair.0 pair.1) ∙ f.2 in
      let c = cut p.right_aligned.by.flat w pair.0 in
      (c, subst (λ m. IsCircuit right m c) number (p.right_aligned.by.cut_down.there pair.0 kept))

  back : (k : ℕ) (y : Circuit) → IsCircuit right k y → (c : Circuit) × IsCircuit left k c
  back k y is =
      let f = p.right_only.from k y is in
      let pair = (p.pairs.right_kept f.0).0 f.1 in
      let kept = (p.pairs.left_kept pair.0).1 (f.0, pair.1) in
      let number = p.pairs.together pair.0 f.0 pair.1 ∙ f.2 in
      let c = cut p.left_aligned.by.flat v pair.0 in
      (c, subst (λ m. IsCircuit left m c) number (p.left_aligned.by.cut_down.there pair.0 kept))

  lower : IsGood layout (λ k. k) → (i e : ℕ) (row : CallRow) → IsCall left i e row → row.circuit < i
  lower good i e row call =
      let a = p.left_aligned in
      let r = call_from layout left v a.goes a.by p.left_only i e row call in
      let flat = flat_is_good layout a.by.flat a.goes a.by.flats (λ k. k) good a.by.flattened in
      let low = p.pairs.rising r.old.circuit r.circuit (flat.lower r.circuit r.call r.old r.is) r.stays r.kept in
      let up = r.number in
      let down : row.circuit ≡ v.number r.old.circuit = ap (λ (y : CallRow). y.circuit) r.cut_to in
      omega arith

  pub left_order : IsGood layout (λ k. k) → IsGood left (λ k. k)
  left_order good = good_in layout left v p.left_aligned.goes p.left_aligned.by p.left_only (λ k. k) (lower good)

  pub sides : AreSides left right
  sides = record {
    there = there;
    back = back;
    left_good = some_good layout left v p.left_aligned.goes p.left_aligned.by p.left_only;
    right_good = some_good schematic right w p.right_aligned.goes p.right_aligned.by p.right_only;
  }

pub aligned_sides : AlignedSidesLaw
aligned_sides layout schematic top right_top same left right v w p = sides layout schematic top right_top same left right v w p

pub ordered : LeftOrderLaw
ordered layout schematic top right_top same left right v w good p = left_order layout schematic top right_top same left right v w p good

module _ (layout schematic : Netlist) (top : ℕ) (same : List (List ℕ × List ℕ)) (left : AreNamesApart layout) (right : AreNamesApart schematic) (lines : AreLinesApart same) where
  -- names of one circuit are one, folded
  one_name : (nl : Netlist) (c : ℕ) (m n : List ℕ) → HasName nl c m → HasName nl c n → folded_bytes m ≡ folded_bytes n
  one_name nl c m n (x, is, e) (y, also, f) = let s : x ≡ y = cc in sym e ∙ (ap (λ (z : Circuit). folded_bytes z.name) s ∙ f)

  called_so : (nl : Netlist) (c : ℕ) (m n : List ℕ) → folded_bytes m ≡ folded_bytes n → HasName nl c m → HasName nl c n
  called_so nl c m n e (x, is, h) = (x, is, h ∙ e)

  by_name_right : (a b c : ℕ) → IsPartnerByName layout schematic top same a b → IsPartnerByName layout schematic top same a c → b ≡ c
  by_name_right a b c (inl (l, i, x, y)) (inl (m, j, u, z)) =
      let e = lines.left l m i j (one_name layout a l.0 m.0 x u) in
      right b c m.1 (subst (λ (n : List ℕ × List ℕ). HasName schematic b n.1) e y) z
  by_name_right a b c (inl (l, i, x, y)) (inr (no_left, no_right, k)) = absurd (no_left (l, i, x))
  by_name_right a b c (inr (no_left, no_right, k)) (inl (l, i, x, y)) = absurd (no_left (l, i, x))
  by_name_right a b c (inr (p, q, (m, x, y))) (inr (r, s, (n, u, z))) = right b c n (called_so schematic b m n (one_name layout a m n x u) y) z

  by_name_left : (a b c : ℕ) → IsPartnerByName layout schematic top same a c → IsPartnerByName layout schematic top same b c → a ≡ b
  by_name_left a b c (inl (l, i, x, y)) (inl (m, j, u, z)) =
      let e = lines.right l m i j (one_name schematic c l.1 m.1 y z) in
      left a b m.0 (subst (λ (n : List ℕ × List ℕ). HasName layout a n.0) e x) u
  by_name_left a b c (inl (l, i, x, y)) (inr (no_left, no_right, k)) = absurd (no_right (l, i, y))
  by_name_left a b c (inr (no_left, no_right, k)) (inl (l, i, x, y)) = absurd (no_right (l, i, y))
  by_name_left a b c (inr (p, q, (m, x, y))) (inr (r, s, (n, u, z))) = left a b n (called_so layout a m n (one_name schematic c m n y z) x) u

  pub one_right : (a b c : ℕ) → IsPartner layout schematic top same a b → IsPartner layout schematic top same a c → b ≡ c
  one_right a b c (inl (is, h)) (inl (also, k)) = sym (h.one c k.uncalled)
  one_right a b c (inl (is, h)) (inr (k, none)) = absurd (h.unnamed c (subst (λ z. IsPartnerByName layout schematic top same z c) is k))
  one_right a b c (inr (h, none)) (inl (is, k)) = absurd (k.unnamed b (subst (λ z. IsPartnerByName layout schematic top same z b) is h))
  one_right a b c (inr (h, none)) (inr (k, also)) = by_name_right a b c h k

  pub one_left : (a b c : ℕ) → IsPartner layout schematic top same a c → IsPartner layout schematic top same b c → a ≡ b
  one_left a b c (inl (is, h)) (inl (also, k)) = is ∙ sym also
  one_left a b c (inl (is, h)) (inr (k, none)) = absurd (none h)
  one_left a b c (inr (h, none)) (inl (is, k)) = absurd (none k)
  one_left a b c (inr (h, none)) (inr (k, also)) = by_name_left a b c h k

pub one_partner : OnePartnerLaw
one_partner layout schematic top same left right lines = (one_right layout schematic top same left right lines, one_left layout schematic top same left right lines)

pub kept_from : KeptLaw
kept_from layout schematic top right_top same v w left right lines pairs = (
  (λ c kept. let p = (pairs.left_kept c).0 kept in elim p.1.devices [ inl e ↦ inl e | inr d ↦ inr (p.1.called, d.0) ]),
  (λ c kept.
      let p = (pairs.right_kept c).0 kept in
      elim p.1.devices [
        | inl e ↦ inl (one_right layout schematic top same left right lines top c right_top (subst (λ z. IsPartner layout schematic top same z c) e p.1.partner) p.1.tops)
        | inr d ↦ inr (p.1.right_called, d.1)
      ]),
)

module _ (layout schematic : Netlist) (top : ℕ) (same : List (List ℕ × List ℕ)) where
  by_line : (a b : ℕ) → IsLeftSaid layout schematic top same a ⊎ IsRightSaid layout schematic top same b → IsPartnerByName layout schematic top same a b → AreSaidSame layout schematic top same a b
  by_line a b said (inl h) = h
  by_line a b (inl l) (inr (no_left, no_right, k)) = absurd (no_left l)
  by_line a b (inr r) (inr (no_left, no_right, k)) = absurd (no_right r)

  said_only : (a b : ℕ) → IsLeftSaid layout schematic top same a ⊎ IsRightSaid layout schematic top same b → IsPartner layout schematic top same a b → AreSaidSame layout schematic top same a b
  said_only a b said (inr (h, none)) = by_line a b said h
  said_only a b (inl l) (inl (is, h)) = absurd (h.unsaid (subst (λ z. IsLeftSaid layout schematic top same z) is l))
  said_only a b (inr r) (inl (is, h)) = absurd (h.right_unsaid r)

pub said : SaidLaw
said layout schematic top same a b h k = said_only layout schematic top same a b h k
