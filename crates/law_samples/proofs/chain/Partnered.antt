-- Who is whose partner, and which circuits are pairs.
use Rattle.std.proofs.Common.{◌≡◌, ◌⊎◌, inl, inr, ℕ, zero, suc, ◌<◌, ltb, true, List, [], ◌∷◌, refl, sym, ◌∙◌, ap, subst, arith, true≢false}
use Rattle.std.proofs.lemmas.Bool.Decides.{Decides-ltb}
use Rattle.net_names.specs.Folding.{folded_bytes}
use Rattle.plain_netlist.specs.Lists.{IsListed}
use Rattle.plain_netlist.specs.Sound.{HasDevices, IsCalledFrom}
use Rattle.align_laws.specs.Aligned.{AreKeptFrom}
use Rattle.align_laws.specs.Partners.{HasName, IsLeftSaid, IsRightSaid, AreSaidSame, IsPartnerByName, IsPartner, IsPair, ArePairs}
use Rattle.align_laws.proofs.Sides.{said, kept_from}
use Rattle.law_samples.specs.Chain.{unit, middle, outer, layout, part, whole, schematic, same, is_kept, number_of, layout_alignment, schematic_alignment, NamesChainLaw, NamesakesChainLaw}
use Rattle.law_samples.proofs.chain.Sound.{schematic_at, apart_layout, apart_schematic}

pub names_apart : NamesChainLaw
names_apart = (
  (λ a b name (x, is, e) (y, js, f). apart_layout a b x y is js (e ∙ sym f)),
  (λ a b name (x, is, e) (y, js, f). apart_schematic a b x y is js (e ∙ sym f)),
  record { left = λ k l i j e. one k l i j; right = λ k l i j e. one k l i j },
)
  where
    one : (k l : List ℕ × List ℕ) → IsListed k same → IsListed l same → k ≡ l
    one k l (inl e) (inl f) = e ∙ sym f
    one k l (inl e) (inr f) = absurd f
    one k l (inr e) f = absurd e

-- the one line names UNIT of the layout and MID of the schematic
line_left : HasName layout 1 (117 ∷ 110 ∷ 105 ∷ 116 ∷ [])
line_left = (unit, refl, refl)

line_right : HasName schematic 0 (109 ∷ 105 ∷ 100 ∷ [])
line_right = (part, refl, refl)

said_same : AreSaidSame layout schematic 3 same 1 0
said_same = ((117 ∷ 110 ∷ 105 ∷ 116 ∷ [], 109 ∷ 105 ∷ 100 ∷ []), inl refl, line_left, line_right)

only_left : (c : ℕ) → IsLeftSaid layout schematic 3 same c → c ≡ 1
only_left c (line, inl e, (x, is, h)) = apart_layout c 1 x unit is refl (h ∙ ap (λ (l : List ℕ × List ℕ). folded_bytes l.0) e)
only_left c (line, inr e, h) = absurd e

only_right : (c : ℕ) → IsRightSaid layout schematic 3 same c → c ≡ 0
only_right c (line, inl e, (x, is, h)) = apart_schematic c 0 x part is refl (h ∙ ap (λ (l : List ℕ × List ℕ). folded_bytes l.1) e)
only_right c (line, inr e, h) = absurd e

tops_named : IsPartnerByName layout schematic 3 same 3 1
tops_named = inr ((λ h. absurd (let e = only_left 3 h in omega arith)), (λ h. absurd (let e = only_right 1 h in omega arith)), (outer.name, (outer, refl, refl), (whole, refl, refl)))

pub tops : IsPartner layout schematic 3 same 3 1
tops = inr (tops_named, λ h. h.unnamed 1 tops_named)

units : IsPartner layout schematic 3 same 1 0
units = inr (inl said_same, λ h. h.unnamed 1 tops_named)

-- the two that share the name MID
pub namesakes : NamesakesChainLaw
namesakes = (
  (middle.name, (middle, refl, refl), (part, refl, refl)),
  (λ h. let r = said layout schematic 3 same 2 0 (inr ((117 ∷ 110 ∷ 105 ∷ 116 ∷ [], 109 ∷ 105 ∷ 100 ∷ []), inl refl, line_right)) h in let e = only_left 2 (r.0, r.1, r.2) in absurd (omega arith)),
)

-- there are no others
by_name : (a b : ℕ) → IsPartnerByName layout schematic 3 same a b → ((a ≡ 1) × (b ≡ 0)) ⊎ ((a ≡ 3) × (b ≡ 1))
by_name a b (inl (line, i, h, k)) = inl (only_left a (line, i, h), only_right b (line, i, k))
by_name a b (inr (no_left, no_right, (name, (x, is, h), (y, js, k)))) =
    schematic_at (λ b y. (IsRightSaid layout schematic 3 same b → ⊥) → folded_bytes y.name ≡ folded_bytes name → ((a ≡ 1) × (b ≡ 0)) ⊎ ((a ≡ 3) × (b ≡ 1)))
    (λ none e. absurd (none ((117 ∷ 110 ∷ 105 ∷ 116 ∷ [], 109 ∷ 105 ∷ 100 ∷ []), inl refl, line_right)))
    (λ none e. inr (apart_layout a 3 x outer is refl (h ∙ sym e), refl)) b y js no_right k

only_pairs : (a b : ℕ) → IsPair layout schematic 3 same 1 a b → ((a ≡ 1) × (b ≡ 0)) ⊎ ((a ≡ 3) × (b ≡ 1))
only_pairs a b p = elim p.partner [ inl (e, h) ↦ absurd (h.unnamed 1 tops_named) | inr (h, none) ↦ by_name a b h ]

unit_called : IsCalledFrom layout 3 1
unit_called = (0 ∷ 0 ∷ [], (_, (outer, refl, refl), (_, (middle, refl, refl), refl)))

unit_devices : HasDevices layout 1
unit_devices = ([], 0, _, (unit, refl, refl))

part_called : IsCalledFrom schematic 1 0
part_called = (0 ∷ [], (_, (whole, refl, refl), refl))

part_devices : HasDevices schematic 0
part_devices = ([], 0, _, (part, refl, refl))

unit_pair : IsPair layout schematic 3 same 1 1 0
unit_pair = record { tops = tops; partner = units; called = unit_called; right_called = part_called; devices = inr (unit_devices, part_devices) }

top_pair : IsPair layout schematic 3 same 1 3 1
top_pair = record { tops = tops; partner = tops; called = ([], refl); right_called = ([], refl); devices = inl refl }

pub kept_cases : (c : ℕ) → is_kept c ≡ true → (c ≡ 1) ⊎ (c ≡ 3)
kept_cases zero h = absurd (true≢false (sym h))
kept_cases (suc zero) h = inl refl
kept_cases (suc (suc zero)) h = absurd (true≢false (sym h))
kept_cases (suc (suc (suc zero))) h = inr refl
kept_cases (suc (suc (suc (suc c)))) h = absurd (true≢false (sym h))

pub part_cases : (c : ℕ) → ltb c 2 ≡ true → (c ≡ 0) ⊎ (c ≡ 1)
part_cases zero h = inl refl
part_cases (suc zero) h = inr refl
part_cases (suc (suc c)) h = let low : suc (suc c) < 2 = (Decides-ltb (suc (suc c)) 2).0 h in absurd (omega arith)

pub pairs : ArePairs layout schematic 3 same 1 layout_alignment schematic_alignment
pairs = record {
  left_kept = λ a. (
    (λ h. elim (kept_cases a h) [
      | inl e ↦ (0, subst (λ (n : ℕ). IsPair layout schematic 3 same 1 n 0) (sym e) unit_pair)
      | inr e ↦ (1, subst (λ (n : ℕ). IsPair layout schematic 3 same 1 n 1) (sym e) top_pair)
    ]),
    (λ (b, p). elim (only_pairs a b p) [ inl e ↦ ap is_kept e.0 | inr e ↦ ap is_kept e.0 ]),
  );
  right_kept = λ b. (
    (λ h. elim (part_cases b h) [
      | inl e ↦ (1, subst (λ (n : ℕ). IsPair layout schematic 3 same 1 1 n) (sym e) unit_pair)
      | inr e ↦ (3, subst (λ (n : ℕ). IsPair layout schematic 3 same 1 3 n) (sym e) top_pair)
    ]),
    (λ (a, p). elim (only_pairs a b p) [ inl e ↦ ap (λ n. ltb n 2) e.1 | inr e ↦ ap (λ n. ltb n 2) e.1 ]),
  );
  together = λ a b p. elim (only_pairs a b p) [ inl e ↦ ap number_of e.0 ∙ sym e.1 | inr e ↦ ap number_of e.0 ∙ sym e.1 ];
  rising = λ a b low h k. elim (kept_cases a h) [
    | inl e ↦ elim (kept_cases b k) [
      | inl f ↦ absurd (omega arith)
      | inr f ↦ let x = ap number_of e in let y = ap number_of f in omega arith
    ]
    | inr e ↦ elim (kept_cases b k) [ inl f ↦ absurd (omega arith) | inr f ↦ absurd (omega arith) ]
  ];
}

pub tops_kept : AreKeptFrom layout 3 is_kept
tops_kept = (kept_from layout schematic 3 1 same layout_alignment schematic_alignment names_apart.0 names_apart.1 names_apart.2 pairs).0
