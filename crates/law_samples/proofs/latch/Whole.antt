-- The two latches as netlists: aligned as they are, sound, and matched.
use Rattle.std.proofs.Common.{◌≡◌, inl, inr, ℕ, zero, suc, ◌==◌, ◌<◌, ltb, true, false, [], ◌∷◌, length, Some, slice_get, refl, sym, subst, ◌∙◌, ap, arith, true≢false}
use Rattle.plain_netlist.proofs.Members.{listed}
use Rattle.std.specs.List.{list_all}
use Rattle.std.proofs.lemmas.Option.{none-some, same_Some}
use Rattle.std.proofs.lemmas.Bool.Decides.{Decides-eqb, Decides-ltb}
use Rattle.plain_netlist.specs.Lists.{IsListed}
use Rattle.plain_netlist.specs.Netlist.{DeviceRow, CallRow, Circuit, IsCircuit, IsCall, IsDevice, IsPin, HasNet}
use Rattle.plain_netlist.specs.Devices.{terminal_nets}
use Rattle.plain_netlist.specs.Normal.{appearances, IsNormalCircuit}
use Rattle.plain_netlist.specs.Sound.{AreNetsThere, IsGood, HasDevices, IsCalledFrom}
use Rattle.plain_netlist.proofs.Numbered.{numbered}
use Rattle.round_laws.specs.Nodes.{Side, Layout, Schematic}
use Rattle.match_laws.specs.Circuits.{circuit_of}
use Rattle.match_laws.specs.Answer.{Match, equal_names, IsAnswer}
use Rattle.align_laws.specs.Lists.{FlatCircuit, inlined, plain, given_of, AreFlat}
use Rattle.align_laws.specs.Cut.{cut, AreCut}
use Rattle.align_laws.specs.Aligned.{IsAlignedBy, IsAligned, HasOnlyKept}
use Rattle.align_laws.specs.Partners.{IsPartnerByName, IsPartner, IsPair, ArePairs}
use Rattle.composed_laws.specs.Answered.{pair_in, AreAnswers}
use Rattle.composed_laws.proofs.Matching.{matched_tops}
use Rattle.law_samples.specs.Latch.{untold, latches, swapped, netlist_of, answers, pairings, alignment_of, IsLatchPair, WholeLatchLaw}
use Rattle.law_samples.proofs.latch.Checks.{all_at}
use Rattle.law_samples.proofs.latch.Rounds.{answered}

-- the netlist has this one circuit
one_only : (side : Side) (c : ℕ) (x : Circuit) → IsCircuit (netlist_of side) c x → (c ≡ 0) × (circuit_of latches side ≡ x)
one_only side zero x h = (refl, same_Some _ _ h)
one_only side (suc c) x h = absurd (none-some x h)

first_only : (c : ℕ) → (c == 0) ≡ true → c ≡ 0
first_only c h = (Decides-eqb c 0).0 h

no_call : (side : Side) (c k : ℕ) (row : CallRow) → IsCall (netlist_of side) c k row → ⊥
no_call Layout c k row (x, is, h) = none-some row (subst (λ (z : Circuit). slice_get z.calls k ≡ Some row) (sym (one_only Layout c x is).1) h)
no_call Schematic c k row (x, is, h) = none-some row (subst (λ (z : Circuit). slice_get z.calls k ≡ Some row) (sym (one_only Schematic c x is).1) h)

seven : (side : Side) → length (circuit_of latches side).nets ≡ 7
seven Layout = refl
seven Schematic = refl

has_net : (side : Side) (c n : ℕ) (x : Circuit) → IsCircuit (netlist_of side) c x → n < 7 → HasNet (netlist_of side) c n
has_net side c n x is low =
    let e : length x.nets ≡ 7 = ap (λ (z : Circuit). length z.nets) (sym (one_only side c x is).1) ∙ seven side in
    (x, is, omega arith)

pins_by : (side : Side) → list_all (λ n. ltb n 7) (circuit_of latches side).pins ≡ true
pins_by Layout = refl
pins_by Schematic = refl

devices_by : (side : Side) → list_all (λ (d : DeviceRow). list_all (λ n. ltb n 7) (terminal_nets d)) (circuit_of latches side).devices ≡ true
devices_by Layout = refl
devices_by Schematic = refl

pin_in : (side : Side) (c i n : ℕ) → IsPin (netlist_of side) c i n → slice_get (circuit_of latches side).pins i ≡ Some n
pin_in side c i n (x, is, h) = subst (λ (z : Circuit). slice_get z.pins i ≡ Some n) (sym (one_only side c x is).1) h

device_in : (side : Side) (c j : ℕ) (d : DeviceRow) → IsDevice (netlist_of side) c j d → IsListed d (circuit_of latches side).devices
device_in side c j d (x, is, h) = listed _ j d (subst (λ (z : Circuit). slice_get z.devices j ≡ Some d) (sym (one_only side c x is).1) h)

terminal_low : (side : Side) (c j n : ℕ) (d : DeviceRow) → IsDevice (netlist_of side) c j d → IsListed n (terminal_nets d) → n < 7
terminal_low side c j n d h on =
    (Decides-ltb _ _).0 (all_at (λ m. ltb m 7) n (terminal_nets d)
    (all_at (λ (x : DeviceRow). list_all (λ m. ltb m 7) (terminal_nets x)) d (circuit_of latches side).devices (devices_by side) (device_in side c j d h)) on)

within : (side : Side) → AreNetsThere (netlist_of side)
within side = record {
  pins = λ c i n h. has_net side c n h.0 h.1 ((Decides-ltb _ _).0 (all_at _ n (circuit_of latches side).pins (pins_by side) (listed _ i n (pin_in side c i n h))));
  calls = λ c k p n row h e. absurd (no_call side c k row h);
  devices = λ c j n row h on. has_net side c n h.0 h.1 (terminal_low side c j n row h on);
}

-- pin i is net i
pin_at : (i n : ℕ) → slice_get (0 ∷ 1 ∷ 2 ∷ 3 ∷ 4 ∷ []) i ≡ Some n → n ≡ i
pin_at zero n h = sym (same_Some _ _ h)
pin_at (suc zero) n h = sym (same_Some _ _ h)
pin_at (suc (suc zero)) n h = sym (same_Some _ _ h)
pin_at (suc (suc (suc zero))) n h = sym (same_Some _ _ h)
pin_at (suc (suc (suc (suc zero)))) n h = sym (same_Some _ _ h)
pin_at (suc (suc (suc (suc (suc i))))) n h = absurd (none-some n h)

pin_is : (side : Side) (i n : ℕ) → slice_get (circuit_of latches side).pins i ≡ Some n → n ≡ i
pin_is Layout i n h = pin_at i n h
pin_is Schematic i n h = pin_at i n h

good : (side : Side) (height : ℕ → ℕ) → IsGood (netlist_of side) height
good side height = record {
  within = within side;
  lower = λ c k row h. absurd (no_call side c k row h);
  called = λ c k row h. absurd (no_call side c k row h);
  pins = λ c i n h. pin_is side i n (pin_in side c i n h);
}

abbrev nothing : FlatCircuit
nothing = record { name = []; nets = []; pins = []; devices = []; calls = [] }

abbrev flats_of : Side → ℕ → FlatCircuit
flats_of side c = inlined (λ k. false) (λ k. nothing) (circuit_of latches side)

-- without calls it doesn't matter what they would bring
flat_same : (side : Side) → flats_of side 0 ≡ inlined (λ k. false) (flats_of side) (circuit_of latches side)
flat_same Layout = refl
flat_same Schematic = refl

plain_same : (side : Side) → plain (flats_of side 0) ≡ circuit_of latches side
plain_same Layout = refl
plain_same Schematic = refl

flattened : (side : Side) → AreFlat (netlist_of side) (netlist_of side) (λ k. false) (flats_of side)
flattened side = record {
  each = λ c x h. flat_same side ∙ ap (inlined (λ k. false) (flats_of side)) (one_only side c x h).1;
  there = λ c x h. h ∙ ap Some (sym (one_only side c x h).1 ∙ sym (plain_same side));
  back = λ c x h. (x, h);
}

cut_same : (side : Side) → cut (netlist_of side) (alignment_of side) 0 ≡ circuit_of latches side
cut_same Layout = refl
cut_same Schematic = refl

-- each net has a device terminal
abbrev Terminal : Side → ℕ → Type 0
Terminal side n = (j : ℕ) × (row : DeviceRow) × (slice_get (circuit_of latches side).devices j ≡ Some row) × IsListed n (terminal_nets row)

held_one : (side : Side) (n : ℕ) → n < 7 → Terminal side n
held_one Layout zero h = (4, _, refl, inl refl)
held_one Layout (suc zero) h = (5, _, refl, inl refl)
held_one Layout (suc (suc zero)) h = (4, _, refl, inr (inl refl))
held_one Layout (suc (suc (suc zero))) h = (2, _, refl, inr (inr (inl refl)))
held_one Layout (suc (suc (suc (suc zero)))) h = (0, _, refl, inr (inr (inl refl)))
held_one Layout (suc (suc (suc (suc (suc zero))))) h = (0, _, refl, inl refl)
held_one Layout (suc (suc (suc (suc (suc (suc zero)))))) h = (0, _, refl, inr (inl refl))
held_one Layout (suc (suc (suc (suc (suc (suc (suc n))))))) h = absurd (omega arith)
held_one Schematic zero h = (4, _, refl, inl refl)
held_one Schematic (suc zero) h = (5, _, refl, inl refl)
held_one Schematic (suc (suc zero)) h = (4, _, refl, inr (inl refl))
held_one Schematic (suc (suc (suc zero))) h = (2, _, refl, inr (inr (inl refl)))
held_one Schematic (suc (suc (suc (suc zero)))) h = (0, _, refl, inr (inr (inl refl)))
held_one Schematic (suc (suc (suc (suc (suc zero))))) h = (0, _, refl, inl refl)
held_one Schematic (suc (suc (suc (suc (suc (suc zero)))))) h = (0, _, refl, inr (inl refl))
held_one Schematic (suc (suc (suc (suc (suc (suc (suc n))))))) h = absurd (omega arith)

cut_down : (side : Side) → AreCut (netlist_of side) (netlist_of side) (alignment_of side)
cut_down side = record {
  given = λ c k. (circuit_of latches side, subst (λ (n : ℕ). IsCircuit (netlist_of side) n (circuit_of latches side)) (sym (first_only c k)) refl);
  there = λ c k. subst (λ (n : ℕ). IsCircuit (netlist_of side) n (cut (netlist_of side) (alignment_of side) n)) (sym (first_only c k)) (ap Some (sym (cut_same side)));
  held = λ c n k. (
    (λ h.
        let t = held_one side n ((Decides-ltb _ _).0 h) in
        inl (t.0, t.1, (circuit_of latches side, subst (λ (m : ℕ). IsCircuit (netlist_of side) m (circuit_of latches side)) (sym (first_only c k)) refl, t.2), t.3)),
    (λ h. elim h [
      | inl d ↦ (Decides-ltb _ _).1 (terminal_low side c d.0 n d.1 d.2 d.3)
      | inr p ↦ absurd (no_call side c p.0 p.1 p.4)
    ]),
  );
  back = λ c n h. refl;
}

normal_first : (side : Side) → IsNormalCircuit (cut (netlist_of side) (alignment_of side) 0)
normal_first Layout = record { pins = pin_at; numbered = numbered 7 0 (appearances (cut (netlist_of Layout) (alignment_of Layout) 0)) refl }
normal_first Schematic = record { pins = pin_at; numbered = numbered 7 0 (appearances (cut (netlist_of Schematic) (alignment_of Schematic) 0)) refl }

abbrev IsNamedAt : Side → ℕ → ℕ → Type 0
IsNamedAt side c m = slice_get (circuit_of latches side).nets m ≡ slice_get (given_of (netlist_of side) c).nets m

named_first : (side : Side) (m : ℕ) → IsNamedAt side 0 m
named_first side m = refl

aligned_by : (side : Side) → IsAlignedBy (λ c. false) (netlist_of side) (netlist_of side) (alignment_of side)
aligned_by side = record {
  height = λ c. 0;
  good = good side (λ c. 0);
  flat = netlist_of side;
  flats = flats_of side;
  flattened = flattened side;
  cut_down = cut_down side;
  normal = λ c k. subst (λ (n : ℕ). IsNormalCircuit (cut (netlist_of side) (alignment_of side) n)) (sym (first_only c k)) (normal_first side);
  named = λ c m k low. subst (λ (n : ℕ). IsNamedAt side n m) (sym (first_only c k)) (named_first side m);
}

-- no circuit but the kept one has devices
devices_first : (side : Side) (c : ℕ) → HasDevices (netlist_of side) c → c ≡ 0
devices_first side c ([], i, row, (x, is, h)) = (one_only side c x is).0
devices_first side c ((k ∷ ks), i, row, (call, is, h)) = absurd (no_call side c k call is)

pub aligned : (side : Side) → IsAligned (netlist_of side) (netlist_of side) (alignment_of side)
aligned side = record {
  goes = λ c. false;
  going = λ c. ((λ h. absurd (true≢false (sym h))), (λ (gone, has). absurd (true≢false (subst (λ (n : ℕ). (n == 0) ≡ false) (devices_first side c has) gone))));
  by = aligned_by side;
}

pub only : (side : Side) → HasOnlyKept (netlist_of side) (alignment_of side)
only side = record {
  from = λ i x is. (i, (Decides-eqb i 0).1 (one_only side i x is).0, refl);
  apart = λ a b h k e. e;
}

by_name : IsPartnerByName (netlist_of Layout) (netlist_of Schematic) 0 [] 0 0
by_name = inr ((λ (l, i, n). absurd i), (λ (l, i, n). absurd i), ((circuit_of latches Layout).name, (circuit_of latches Layout, refl, refl), (circuit_of latches Schematic, refl, refl)))

partner : IsPartner (netlist_of Layout) (netlist_of Schematic) 0 [] 0 0
partner = inr (by_name, λ h. h.unnamed 0 by_name)

pair : IsPair (netlist_of Layout) (netlist_of Schematic) 0 [] 0 0 0
pair = record { tops = partner; partner = partner; called = ([], refl); right_called = ([], refl); devices = inl refl }

-- no other circuits are called
called_first : (side : Side) (c : ℕ) → IsCalledFrom (netlist_of side) 0 c → 0 ≡ c
called_first side c ([], h) = h
called_first side c ((k ∷ ks), (row, call, h)) = absurd (no_call side 0 k row call)

pairs : ArePairs (netlist_of Layout) (netlist_of Schematic) 0 [] 0 (alignment_of Layout) (alignment_of Schematic)
pairs = record {
  left_kept = λ a. (
    (λ h. (0, subst (λ (n : ℕ). IsPair (netlist_of Layout) (netlist_of Schematic) 0 [] 0 n 0) (sym (first_only a h)) pair)),
    (λ (b, p). (Decides-eqb a 0).1 (sym (called_first Layout a p.called))),
  );
  right_kept = λ b. (
    (λ h. (0, subst (λ (n : ℕ). IsPair (netlist_of Layout) (netlist_of Schematic) 0 [] 0 0 n) (sym (first_only b h)) pair)),
    (λ (a, p). (Decides-eqb b 0).1 (sym (called_first Schematic b p.right_called))),
  );
  together = λ a b p. sym (called_first Layout a p.called) ∙ called_first Schematic b p.right_called;
  rising = λ a b low h k. low;
}

pub aligned_pair : IsLatchPair
aligned_pair = record { partner = partner; pairs = pairs; left_aligned = aligned Layout; right_aligned = aligned Schematic; left_only = only Layout; right_only = only Schematic }

are_answers : AreAnswers (netlist_of Layout) (netlist_of Schematic) untold answers
are_answers k c d is also =
    subst (λ (x : Circuit). IsAnswer (pair_in false (netlist_of Layout) answers x d) (equal_names (pair_in false (netlist_of Layout) answers x d)) 1 (Match swapped)) (one_only Layout k c is).1
    (subst (λ (y : Circuit). IsAnswer (pair_in false (netlist_of Layout) answers (circuit_of latches Layout) y) (equal_names (pair_in false (netlist_of Layout) answers (circuit_of latches Layout) y)) 1 (Match swapped)) (one_only Schematic k d also).1
    (answered 1 (omega arith)))

pub whole : WholeLatchLaw
whole = (
  aligned_pair,
  are_answers,
  (λ k c is. refl),
  matched_tops (netlist_of Layout) (netlist_of Schematic) 0 0 [] (netlist_of Layout) (netlist_of Schematic) (alignment_of Layout) (alignment_of Schematic) aligned_pair untold answers pairings
      are_answers (λ k c is. refl),
)
