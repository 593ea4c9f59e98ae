-- Both netlists aligned: the layout with VOID left for dropping, and with VOID flattened too; the schematic as it is.
use Rattle.std.proofs.Common.{◌≡◌, ◌⊎◌, inl, inr, ℕ, zero, suc, ◌<◌, ltb, not, Bool, true, false, List, [], ◌∷◌, ◌++◌, length, Some, slice_get, refl, sym, ◌∙◌, ap, subst, arith, true≢false}
use Rattle.std.proofs.Math.Path.{fun_ext}
use Rattle.std.proofs.lemmas.Bool.Decides.{Decides-ltb}
use Rattle.std.proofs.lemmas.Fmt.{decimal_digit}
use Rattle.std.proofs.lemmas.Option.{none-some, same_Some}
use Rattle.plain_netlist.specs.Netlist.{Circuit, Netlist, IsCircuit, HasNet}
use Rattle.plain_netlist.specs.Normal.{appearances, IsNormalCircuit}
use Rattle.plain_netlist.specs.Sound.{IsGood, HasDevices}
use Rattle.plain_netlist.proofs.Numbered.{numbered}
use Rattle.plain_netlist.proofs.Once.{one_circuit}
use Rattle.align_laws.specs.Lists.{FlatCircuit, inlined, plain, given_of, AreFlat}
use Rattle.align_laws.specs.Cut.{Alignment, cut, OnDevice, OnHeldPin, AreCut}
use Rattle.align_laws.specs.Aligned.{IsAlignedBy, IsAligned, HasOnlyKept}
use Rattle.align_laws.proofs.FlatGood.{flat_is_good}
use Rattle.align_laws.proofs.Soundness.{no_further}
use Rattle.law_samples.specs.Chain.{void, unit, middle, outer, layout, part, whole, schematic, is_kept, number_of, names_after, layout_alignment, flat_outer, left, schematic_alignment, IsChainPair, AllFlattenedChainLaw, FurtherChainLaw}
use Rattle.law_samples.proofs.chain.Partnered.{tops, kept_cases, part_cases, pairs, tops_kept}
use Rattle.law_samples.proofs.chain.Sound.{layout_at, schematic_at, one_pin, two_pins, good_layout, good_schematic}

abbrev nothing : ℕ → FlatCircuit
nothing c = record { name = []; nets = []; pins = []; devices = []; calls = [] }

-- MID goes; VOID, and what isn't there, as told
abbrev goes : Bool → ℕ → Bool
goes t zero = t
goes t (suc zero) = false
goes t (suc (suc zero)) = true
goes t (suc (suc (suc zero))) = false
goes t (suc (suc (suc (suc c)))) = t

abbrev under : Bool → ℕ → FlatCircuit
under t zero = inlined (goes t) nothing void
under t (suc c) = inlined (goes t) nothing middle

abbrev flats : Bool → ℕ → FlatCircuit
flats t zero = inlined (goes t) nothing void
flats t (suc zero) = inlined (goes t) nothing unit
flats t (suc (suc zero)) = inlined (goes t) nothing middle
flats t (suc (suc (suc zero))) = inlined (goes t) (under t) outer
flats t (suc (suc (suc (suc c)))) = nothing c

abbrev flat : Bool → Netlist
flat t = record { circuits = plain (flats t 0) ∷ plain (flats t 1) ∷ plain (flats t 2) ∷ plain (flats t 3) ∷ [] }

flattened : (t : Bool) → AreFlat layout (flat t) (goes t) (flats t)
flattened t = record {
  each = layout_at (λ c x. flats t c ≡ inlined (goes t) (flats t) x) refl refl refl refl;
  there = layout_at (λ c x. IsCircuit (flat t) c (plain (flats t c))) refl refl refl refl;
  back = back;
}
  where
    back : (c : ℕ) (x : Circuit) → IsCircuit (flat t) c x → (given : Circuit) × IsCircuit layout c given
    back zero x h = (void, refl)
    back (suc zero) x h = (unit, refl)
    back (suc (suc zero)) x h = (middle, refl)
    back (suc (suc (suc zero))) x h = (outer, refl)
    back (suc (suc (suc (suc c)))) x h = absurd (none-some x h)

unit_cut : (t : Bool) → cut (flat t) layout_alignment 1 ≡ unit
unit_cut true = refl
unit_cut false = refl

outer_cut : (t : Bool) → cut (flat t) layout_alignment 3 ≡ flat_outer
outer_cut true = refl
outer_cut false = refl

-- a predicate of kept circuits
kept_at : (P : ℕ → Type 0) → P 1 → P 3 → (c : ℕ) → is_kept c ≡ true → P c
kept_at P p q c h = elim (kept_cases c h) [ inl e ↦ subst P (sym e) p | inr e ↦ subst P (sym e) q ]

part_at : (P : ℕ → Type 0) → P 0 → P 1 → (c : ℕ) → ltb c 2 ≡ true → P c
part_at P p q c h = elim (part_cases c h) [ inl e ↦ subst P (sym e) p | inr e ↦ subst P (sym e) q ]

-- held nets: both of two
held_by : (f : Netlist) (w : Alignment) (height : ℕ → ℕ) → IsGood f height → (c : ℕ) (x : Circuit) → IsCircuit f c x → length x.nets ≡ 2 → ((n : ℕ) → n < 2 → OnDevice f c n)
    → (n : ℕ) → (ltb n 2 ≡ true) → OnDevice f c n ⊎ OnHeldPin f w c n
held_by f w height good c x is two on n h = inl (on n ((Decides-ltb n 2).0 h))

held_back : (f : Netlist) (w : Alignment) (height : ℕ → ℕ) → IsGood f height → (c : ℕ) (x : Circuit) → IsCircuit f c x → length x.nets ≡ 2 → (n : ℕ) → OnDevice f c n ⊎ OnHeldPin f w c n → ltb n 2 ≡ true
held_back f w height good c x is two n h =
    let has : HasNet f c n = elim h [
      | inl (j, row, device, on) ↦ good.within.devices c j n row device on
      | inr (k, row, p, inner, call, kept, net, pin, held) ↦ good.within.calls c k p n row call net
    ] in
    let low : n < length x.nets = subst (λ (y : Circuit). n < length y.nets) (one_circuit f c has.0 x has.1 is) has.2 in
    (Decides-ltb n 2).1 (subst (λ (m : ℕ). n < m) two low)

good_flat : (t : Bool) → IsGood (flat t) (λ k. k)
good_flat t = flat_is_good layout (flat t) (goes t) (flats t) (λ k. k) good_layout (flattened t)

two_nets : (t : Bool) (c : ℕ) → is_kept c ≡ true → length (plain (flats t c)).nets ≡ 2
two_nets true = kept_at (λ c. length (plain (flats true c)).nets ≡ 2) refl refl
two_nets false = kept_at (λ c. length (plain (flats false c)).nets ≡ 2) refl refl

flat_at : (t : Bool) (c : ℕ) → is_kept c ≡ true → IsCircuit (flat t) c (plain (flats t c))
flat_at t = kept_at (λ c. IsCircuit (flat t) c (plain (flats t c))) refl refl

on_two : (P : ℕ → Type 0) → P 0 → P 1 → (n : ℕ) → n < 2 → P n
on_two P p q zero h = p
on_two P p q (suc zero) h = q
on_two P p q (suc (suc n)) h = absurd (omega arith)

on_devices : (t : Bool) (c : ℕ) → is_kept c ≡ true → (n : ℕ) → n < 2 → OnDevice (flat t) c n
on_devices true = kept_at (λ c. (n : ℕ) → n < 2 → OnDevice (flat true) c n)
    (on_two (OnDevice (flat true) 1) (0, _, (_, refl, refl), inr (inr (inl refl))) (0, _, (_, refl, refl), inl refl)) (on_two (OnDevice (flat true) 3) (0, _, (_, refl, refl), inr (inr (inl refl))) (0, _, (_, refl, refl), inl refl))
on_devices false = kept_at (λ c. (n : ℕ) → n < 2 → OnDevice (flat false) c n)
    (on_two (OnDevice (flat false) 1) (0, _, (_, refl, refl), inr (inr (inl refl))) (0, _, (_, refl, refl), inl refl)) (on_two (OnDevice (flat false) 3) (0, _, (_, refl, refl), inr (inr (inl refl))) (0, _, (_, refl, refl), inl refl))

cut_down : (t : Bool) → AreCut (flat t) left layout_alignment
cut_down t = record {
  given = λ c k. (plain (flats t c), flat_at t c k);
  there = kept_at (λ c. IsCircuit left (number_of c) (cut (flat t) layout_alignment c)) (ap Some (sym (unit_cut t))) (ap Some (sym (outer_cut t)));
  held = λ c n k. (
    (λ h. held_by (flat t) layout_alignment (λ k. k) (good_flat t) c (plain (flats t c)) (flat_at t c k) (two_nets t c k) (on_devices t c k) n h),
    (λ h. held_back (flat t) layout_alignment (λ k. k) (good_flat t) c (plain (flats t c)) (flat_at t c k) (two_nets t c k) n h),
  );
  back = λ c n h. refl;
}

normal_unit : IsNormalCircuit unit
normal_unit = record { pins = two_pins; numbered = numbered 2 0 (appearances unit) refl }

normal_outer : IsNormalCircuit flat_outer
normal_outer = record { pins = one_pin; numbered = numbered 2 0 (appearances flat_outer) refl }

named_outer : (t : Bool) (m : ℕ) → m < 2 → slice_get (names_after 3) m ≡ slice_get (given_of (flat t) 3).nets m
named_outer t zero low = refl
named_outer t (suc zero) low = ap (λ (s : List ℕ). Some (88 ∷ (s ++ 47 ∷ 66 ∷ []))) (sym (decimal_digit 1 (omega arith)))
named_outer t (suc (suc m)) low = absurd (omega arith)

pub layout_by : (t : Bool) → IsAlignedBy (goes t) layout left layout_alignment
layout_by t = record {
  height = λ k. k;
  good = good_layout;
  flat = flat t;
  flats = flats t;
  flattened = flattened t;
  cut_down = cut_down t;
  normal = kept_at (λ c. IsNormalCircuit (cut (flat t) layout_alignment c)) (subst IsNormalCircuit (sym (unit_cut t)) normal_unit) (subst IsNormalCircuit (sym (outer_cut t)) normal_outer);
  named = λ c m k low. kept_at (λ c. (m : ℕ) → m < length (names_after c) → slice_get (names_after c) m ≡ slice_get (given_of (flat t) c).nets m) (λ m low. refl) (named_outer t) c k m low;
}

pub all_flattened : AllFlattenedChainLaw
all_flattened = (subst (λ (f : ℕ → Bool). IsAlignedBy f layout left layout_alignment) (fun_ext same) (layout_by true), tops_kept)
  where
    same : (c : ℕ) → goes true c ≡ not (is_kept c)
    same zero = refl
    same (suc zero) = refl
    same (suc (suc zero)) = refl
    same (suc (suc (suc zero))) = refl
    same (suc (suc (suc (suc c)))) = refl

-- MID has a device and VOID hasn't
no_devices : HasDevices layout 0 → ⊥
no_devices ([], i, row, (x, is, h)) = none-some row (subst (λ (y : Circuit). slice_get y.devices i ≡ Some row) (sym (same_Some _ _ is)) h)
no_devices ((k ∷ ks), i, row, (call, (x, is, h), rest)) = none-some call (subst (λ (y : Circuit). slice_get y.calls k ≡ Some call) (sym (same_Some _ _ is)) h)

none_there : (c : ℕ) → HasDevices layout (suc (suc (suc (suc c)))) → ⊥
none_there c ([], i, row, (x, is, h)) = none-some x is
none_there c ((k ∷ ks), i, row, (call, (x, is, h), rest)) = none-some x is

going : (c : ℕ) → (is_kept c ≡ false) × HasDevices layout c → goes false c ≡ true
going zero (h, has) = absurd (no_devices has)
going (suc zero) (h, has) = absurd (true≢false h)
going (suc (suc zero)) (h, has) = refl
going (suc (suc (suc zero))) (h, has) = absurd (true≢false h)
going (suc (suc (suc (suc c)))) (h, has) = absurd (none_there c has)

gone : (c : ℕ) → goes false c ≡ true → (is_kept c ≡ false) × HasDevices layout c
gone zero h = absurd (true≢false (sym h))
gone (suc zero) h = absurd (true≢false (sym h))
gone (suc (suc zero)) h = (refl, ([], 0, _, (middle, refl, refl)))
gone (suc (suc (suc zero))) h = absurd (true≢false (sym h))
gone (suc (suc (suc (suc c)))) h = absurd (true≢false (sym h))

pub layout_aligned : IsAligned layout left layout_alignment
layout_aligned = record { goes = goes false; going = λ c. (gone c, going c); by = layout_by false }

-- the schematic
abbrev still : ℕ → FlatCircuit
still zero = inlined (λ c. false) nothing part
still (suc c) = inlined (λ c. false) nothing whole

abbrev part_kept : ℕ → Bool
part_kept c = ltb c 2

still_flat : AreFlat schematic schematic (λ c. false) still
still_flat = record {
  each = schematic_at (λ c x. still c ≡ inlined (λ c. false) still x) refl refl;
  there = schematic_at (λ c x. IsCircuit schematic c (plain (still c))) refl refl;
  back = λ c x h. (x, h);
}

schematic_there : (c : ℕ) → part_kept c ≡ true → IsCircuit schematic c (given_of schematic c)
schematic_there = part_at (λ c. IsCircuit schematic c (given_of schematic c)) refl refl

schematic_two : (c : ℕ) → part_kept c ≡ true → length (given_of schematic c).nets ≡ 2
schematic_two = part_at (λ c. length (given_of schematic c).nets ≡ 2) refl refl

schematic_on : (c : ℕ) → part_kept c ≡ true → (n : ℕ) → n < 2 → OnDevice schematic c n
schematic_on = part_at (λ c. (n : ℕ) → n < 2 → OnDevice schematic c n)
    (on_two (OnDevice schematic 0) (0, _, (_, refl, refl), inl refl) (0, _, (_, refl, refl), inr (inr (inl refl)))) (on_two (OnDevice schematic 1) (0, _, (_, refl, refl), inr (inr (inl refl))) (0, _, (_, refl, refl), inl refl))

schematic_cut : AreCut schematic schematic schematic_alignment
schematic_cut = record {
  given = λ c k. (given_of schematic c, schematic_there c k);
  there = part_at (λ c. IsCircuit schematic c (cut schematic schematic_alignment c)) refl refl;
  held = λ c n k. (
    (λ h. held_by schematic schematic_alignment (λ k. k) good_schematic c (given_of schematic c) (schematic_there c k) (schematic_two c k) (schematic_on c k) n h),
    (λ h. held_back schematic schematic_alignment (λ k. k) good_schematic c (given_of schematic c) (schematic_there c k) (schematic_two c k) n h),
  );
  back = λ c n h. refl;
}

normal_part : IsNormalCircuit part
normal_part = record { pins = two_pins; numbered = numbered 2 0 (appearances part) refl }

normal_whole : IsNormalCircuit whole
normal_whole = record { pins = one_pin; numbered = numbered 2 0 (appearances whole) refl }

schematic_by : IsAlignedBy (λ c. false) schematic schematic schematic_alignment
schematic_by = record {
  height = λ k. k;
  good = good_schematic;
  flat = schematic;
  flats = still;
  flattened = still_flat;
  cut_down = schematic_cut;
  normal = part_at (λ c. IsNormalCircuit (cut schematic schematic_alignment c)) normal_part normal_whole;
  named = λ c m k low. part_at (λ c. (m : ℕ) → m < 2 → slice_get (schematic_alignment.names c) m ≡ slice_get (given_of schematic c).nets m) (λ m low. refl) (λ m low. refl) c k m low;
}

schematic_going : (c : ℕ) → (part_kept c ≡ false) × HasDevices schematic c → false ≡ true
schematic_going zero (h, has) = absurd (true≢false h)
schematic_going (suc zero) (h, has) = absurd (true≢false h)
schematic_going (suc (suc c)) (h, ([], i, row, (x, is, at))) = absurd (none-some x is)
schematic_going (suc (suc c)) (h, ((k ∷ ks), i, row, (call, (x, is, at), rest))) = absurd (none-some x is)

pub schematic_aligned : IsAligned schematic schematic schematic_alignment
schematic_aligned = record { goes = λ c. false; going = λ c. ((λ h. absurd (true≢false (sym h))), schematic_going c); by = schematic_by }

-- no other circuits stand there
left_only : HasOnlyKept left layout_alignment
left_only = record { from = from; apart = apart }
  where
    from : (i : ℕ) (x : Circuit) → IsCircuit left i x → (c : ℕ) × (is_kept c ≡ true) × (number_of c ≡ i)
    from zero x h = (1, refl, refl)
    from (suc zero) x h = (3, refl, refl)
    from (suc (suc i)) x h = absurd (none-some x h)

    apart : (c d : ℕ) → is_kept c ≡ true → is_kept d ≡ true → number_of c ≡ number_of d → c ≡ d
    apart c d h k e = elim (kept_cases c h) [
      | inl x ↦ elim (kept_cases d k) [ inl y ↦ x ∙ sym y | inr y ↦ absurd (let z : ◌≡◌ {A = ℕ} 0 1 = sym (ap number_of x) ∙ (e ∙ ap number_of y) in omega arith) ]
      | inr x ↦ elim (kept_cases d k) [ inl y ↦ absurd (let z : ◌≡◌ {A = ℕ} 1 0 = sym (ap number_of x) ∙ (e ∙ ap number_of y) in omega arith) | inr y ↦ x ∙ sym y ]
    ]

right_only : HasOnlyKept schematic schematic_alignment
right_only = record { from = λ i x is. (i, schematic_at (λ i x. ltb i 2 ≡ true) refl refl i x is, refl); apart = λ c d h k e. e }

pub chain_pair : IsChainPair
chain_pair = record { partner = tops; pairs = pairs; left_aligned = layout_aligned; right_aligned = schematic_aligned; left_only = left_only; right_only = right_only }

pub further : FurtherChainLaw
further x h = no_further layout left layout_alignment x layout_aligned h
