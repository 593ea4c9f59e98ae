-- A netlist of two circuits, of four nets each with a device on each net, is its own aligned netlist.
use Rattle.std.proofs.Common.{◌≡◌, ◌⊎◌, inl, inr, ℕ, zero, suc, ◌<◌, ltb, true, false, [], ◌∷◌, length, Some, slice_get, refl, sym, ap, subst, arith, true≢false}
use Rattle.std.proofs.lemmas.Bool.Decides.{Decides-ltb}
use Rattle.std.proofs.lemmas.Option.{none-some, same_Some}
use Rattle.align_laws.specs.Aligned.{IsAlignedBy, IsAligned, HasOnlyKept}
use Rattle.align_laws.specs.Cut.{cut, AreCut, OnDevice, OnHeldPin}
use Rattle.align_laws.specs.Lists.{AreFlat, FlatCircuit, given_of, inlined, plain}
use Rattle.law_samples.specs.Matched.{as_it_is}
use Rattle.plain_netlist.proofs.Once.{one_circuit}
use Rattle.plain_netlist.specs.Netlist.{Circuit, HasNet, IsCircuit, Netlist}
use Rattle.plain_netlist.specs.Normal.{IsNormalCircuit, IsNormalNetlist}
use Rattle.plain_netlist.specs.Sound.{HasDevices, IsGood}

abbrev nothing : ℕ → FlatCircuit
nothing k = record { name = []; nets = []; pins = []; devices = []; calls = [] }

pub two_cases : (k : ℕ) → ltb k 2 ≡ true → (k ≡ 0) ⊎ (k ≡ 1)
two_cases zero h = inl refl
two_cases (suc zero) h = inr refl
two_cases (suc (suc k)) h = let low : suc (suc k) < 2 = (Decides-ltb (suc (suc k)) 2).0 h in absurd (omega arith)

pub kept_at : (P : ℕ → Type 0) → P 0 → P 1 → (k : ℕ) → ltb k 2 ≡ true → P k
kept_at P p q k h = elim (two_cases k h) [ inl e ↦ subst P (sym e) p | inr e ↦ subst P (sym e) q ]

module _ (c d : Circuit) where
  abbrev pub nl : Netlist
  nl = record { circuits = c ∷ d ∷ [] }

  pub circuit_at : (P : ℕ → Circuit → Type 0) → P 0 c → P 1 d → (k : ℕ) (x : Circuit) → IsCircuit nl k x → P k x
  circuit_at P p q zero x h = subst (P 0) (same_Some _ _ h) p
  circuit_at P p q (suc zero) x h = subst (P 1) (same_Some _ _ h) q
  circuit_at P p q (suc (suc k)) x h = absurd (none-some x h)

  abbrev pub still : ℕ → FlatCircuit
  still zero = inlined (λ k. false) nothing c
  still (suc k) = inlined (λ k. false) nothing d

  -- nothing is flattened and nothing cut, and each net is on a device
  pub record IsStill : Type 0 where
    pub first : still 0 ≡ inlined (λ k. false) still c
    pub second : still 1 ≡ inlined (λ k. false) still d
    pub first_plain : plain (still 0) ≡ c
    pub second_plain : plain (still 1) ≡ d
    pub first_cut : cut nl (as_it_is c d) 0 ≡ c
    pub second_cut : cut nl (as_it_is c d) 1 ≡ d
    pub first_count : length c.nets ≡ 4
    pub second_count : length d.nets ≡ 4
    pub first_on : (n : ℕ) → n < 4 → OnDevice nl 0 n
    pub second_on : (n : ℕ) → n < 4 → OnDevice nl 1 n
    pub normal : IsNormalNetlist nl
    pub good : IsGood nl (λ k. k)

  module _ (h : IsStill) where
    flat : AreFlat nl nl (λ k. false) still
    flat = record {
      each = circuit_at (λ k x. still k ≡ inlined (λ k. false) still x) h.first h.second;
      there = circuit_at (λ k x. IsCircuit nl k (plain (still k))) (ap Some (sym h.first_plain)) (ap Some (sym h.second_plain));
      back = λ k x is. (x, is);
    }

    there : (k : ℕ) → ltb k 2 ≡ true → IsCircuit nl k (given_of nl k)
    there = kept_at (λ k. IsCircuit nl k (given_of nl k)) refl refl

    four : (k : ℕ) → ltb k 2 ≡ true → length (given_of nl k).nets ≡ 4
    four = kept_at (λ k. length (given_of nl k).nets ≡ 4) h.first_count h.second_count

    on_device : (k : ℕ) → ltb k 2 ≡ true → (n : ℕ) → n < 4 → OnDevice nl k n
    on_device = kept_at (λ k. (n : ℕ) → n < 4 → OnDevice nl k n) h.first_on h.second_on

    held_back : (k : ℕ) → ltb k 2 ≡ true → (n : ℕ) → OnDevice nl k n ⊎ OnHeldPin nl (as_it_is c d) k n → ltb n 4 ≡ true
    held_back k kept n on =
        let has : HasNet nl k n = elim on [
          | inl (j, row, device, net) ↦ h.good.within.devices k j n row device net
          | inr (e, row, p, inner, call, too, net, pin, held) ↦ h.good.within.calls k e p n row call net
        ] in
        let low : n < length (given_of nl k).nets = subst (λ (y : Circuit). n < length y.nets) (one_circuit nl k has.0 (given_of nl k) has.1 (there k kept)) has.2 in
        (Decides-ltb n 4).1 (subst (λ (m : ℕ). n < m) (four k kept) low)

    cut_down : AreCut nl nl (as_it_is c d)
    cut_down = record {
      given = λ k kept. (given_of nl k, there k kept);
      there = kept_at (λ k. IsCircuit nl k (cut nl (as_it_is c d) k)) (ap Some (sym h.first_cut)) (ap Some (sym h.second_cut));
      held = λ k n kept. ((λ e. inl (on_device k kept n ((Decides-ltb n 4).0 e))), held_back k kept n);
      back = λ k n e. refl;
    }

    by : IsAlignedBy (λ k. false) nl nl (as_it_is c d)
    by = record {
      height = λ k. k;
      good = h.good;
      flat = nl;
      flats = still;
      flattened = flat;
      cut_down = cut_down;
      normal = kept_at (λ k. IsNormalCircuit (cut nl (as_it_is c d) k)) (subst IsNormalCircuit (sym h.first_cut) (h.normal 0 c refl)) (subst IsNormalCircuit (sym h.second_cut) (h.normal 1 d refl));
      named = λ k m kept low. kept_at (λ k. slice_get ((as_it_is c d).names k) m ≡ slice_get (given_of nl k).nets m) refl refl k kept;
    }

    going : (k : ℕ) → (ltb k 2 ≡ false) × HasDevices nl k → false ≡ true
    going zero (e, has) = absurd (true≢false e)
    going (suc zero) (e, has) = absurd (true≢false e)
    going (suc (suc k)) (e, ([], i, row, (x, is, at))) = absurd (none-some x is)
    going (suc (suc k)) (e, ((j ∷ js), i, row, (call, (x, is, at), rest))) = absurd (none-some x is)

    pub aligned : IsAligned nl nl (as_it_is c d)
    aligned = record { goes = λ k. false; going = λ k. ((λ e. absurd (true≢false (sym e))), going k); by = by }

  pub only_kept : HasOnlyKept nl (as_it_is c d)
  only_kept = record { from = λ k x is. (k, circuit_at (λ k x. ltb k 2 ≡ true) refl refl k x is, refl); apart = λ j k h g e. e }
