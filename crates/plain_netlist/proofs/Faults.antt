-- A netlist without faults is sound, and one has one first fault.
use Rattle.std.proofs.Common.{◌≡◌, ◌⊎◌, inl, inr, ℕ, ◌<◌, List, ◌++◌, length, Some, slice_get, refl, sym, subst, arith}
use Rattle.base_laws.proofs.Items.{item_at}
use Rattle.std.specs.Prelude.{flat_map}
use Rattle.std.proofs.Math.Decide.{ℕ_discrete}
use Rattle.std.proofs.lemmas.Bool.Decides.{leb_tells}
use Rattle.std.proofs.lemmas.Option.{slice_get_within}
use Rattle.plain_netlist.specs.Lists.{IsListed}
use Rattle.plain_netlist.specs.Netlist.{DeviceRow, CallRow, Circuit, Netlist, IsCircuit, HasNet}
use Rattle.plain_netlist.specs.Devices.{terminal_nets}
use Rattle.plain_netlist.specs.Normal.{appearances}
use Rattle.plain_netlist.specs.Sound.{NetlistFault, NameClash, BadTerminal, NoSuchCircuit, PinCount, CircuitCycle, ShowsFault, fault_rank, AreNetsThere, AreCallsFitting, IsSoundNetlist, SoundLaw, OneFaultLaw}
use Rattle.plain_netlist.proofs.Once.{one_circuit}
use Rattle.plain_netlist.proofs.Members.{listed, position, in_left, in_right, either_side, in_all, from_all}

-- before, at, or behind
pub sides : (a b : ℕ) → (a < b) ⊎ ((a ≡ b) ⊎ (b < a))
sides a b = elim (leb_tells b a) [
  | inl h ↦ elim (leb_tells a b) [ inl k ↦ inr (inl (let x = h.1 in let y = k.1 in omega arith)) | inr k ↦ inr (inr k.1) ]
  | inr h ↦ inl h.1
]

abbrev nets_named : DeviceRow → List ℕ
nets_named row = terminal_nets row

-- the nets that a circuit names are those of its pins, devices and calls
module _ (x : Circuit) where
  abbrev on_devices : List ℕ
  on_devices = flat_map nets_named x.devices

  abbrev on_calls : List ℕ
  on_calls = flat_map (λ (r : CallRow). r.nets) x.calls

  pub at_pin : (i n : ℕ) → slice_get x.pins i ≡ Some n → IsListed n (appearances x)
  at_pin i n h = in_left x.pins (on_devices ++ on_calls) n (listed x.pins i n h)

  pub at_device : (j n : ℕ) (row : DeviceRow) → slice_get x.devices j ≡ Some row → IsListed n (terminal_nets row) → IsListed n (appearances x)
  at_device j n row h g = in_right x.pins (on_devices ++ on_calls) n
      (in_left on_devices on_calls n (in_all nets_named x.devices row n (listed x.devices j row h) g))

  pub at_call : (k p n : ℕ) (row : CallRow) → slice_get x.calls k ≡ Some row → slice_get row.nets p ≡ Some n → IsListed n (appearances x)
  at_call k p n row h g = in_right x.pins (on_devices ++ on_calls) n
      (in_right on_devices on_calls n (in_all (λ (r : CallRow). r.nets) x.calls row n (listed x.calls k row h) (listed row.nets p n g)))

  -- where the circuit names a net
  pub data Mention (n : ℕ) : Type 0 where
    AtPin : (i : ℕ) → slice_get x.pins i ≡ Some n → Mention n
    AtDevice : (j : ℕ) (row : DeviceRow) → slice_get x.devices j ≡ Some row → IsListed n (terminal_nets row) → Mention n
    AtCall : (k p : ℕ) (row : CallRow) → slice_get x.calls k ≡ Some row → slice_get row.nets p ≡ Some n → Mention n

  pub mention : (n : ℕ) → IsListed n (appearances x) → Mention n
  mention n h = elim (either_side x.pins (on_devices ++ on_calls) n h) [
    | inl a ↦ let r = position x.pins n a in AtPin r.0 r.1
    | inr b ↦ elim (either_side on_devices on_calls n b) [
      | inl a ↦ let r = from_all nets_named x.devices n a in let q = position x.devices r.0 r.1 in AtDevice q.0 r.0 q.1 r.2
      | inr a ↦ let r = from_all (λ (row : CallRow). row.nets) x.calls n a in let q = position x.calls r.0 r.1 in let p = position r.0.nets n r.2 in AtCall q.0 p.0 r.0 q.1 p.1
    ]
  ]

-- a named net is there
pub is_there : (nl : Netlist) (c n : ℕ) (x : Circuit) → AreNetsThere nl → IsCircuit nl c x → IsListed n (appearances x) → n < length x.nets
is_there nl c n x nets is h =
    let has : HasNet nl c n = elim (mention x n h) [
      | AtPin i e ↦ nets.pins c i n (x, is, e)
      | AtDevice j row e o ↦ nets.devices c j n row (x, is, e) o
      | AtCall k p row e o ↦ nets.calls c k p n row (x, is, e) o
    ] in
    subst (λ (y : Circuit). n < length y.nets) (one_circuit nl c has.0 x has.1 is) has.2

-- and the other way round
pub nets_there : (nl : Netlist) → ((c n : ℕ) (x : Circuit) → IsCircuit nl c x → IsListed n (appearances x) → n < length x.nets) → AreNetsThere nl
nets_there nl h = record {
  pins = λ c i n (x, is, e). (x, is, h c n x is (at_pin x i n e));
  calls = λ c k p n row (x, is, e) o. (x, is, h c n x is (at_call x k p n row e o));
  devices = λ c j n row (x, is, e) o. (x, is, h c n x is (at_device x j n row e o));
}

module _ (nl : Netlist) (s : IsSoundNetlist nl) where
  no_fault : (fault : NetlistFault) (c : ℕ) → ShowsFault nl fault c → ⊥
  no_fault NameClash c (inl (b, x, y, low, is, is', e)) = absurd (let g = s.names b c x y is is' e in omega arith)
  no_fault NameClash c (inr (x, a, b, name, is, low, e, e')) = absurd (let g = s.net_names c a b x name is e e' in omega arith)
  no_fault BadTerminal c (x, n, is, h, high) = absurd (let low = is_there nl c n x s.nets is h in omega arith)
  no_fault NoSuchCircuit c (k, row, call, high) = absurd (let d = s.calls c k row call in let low = slice_get_within nl.circuits row.circuit d.0 d.1 in omega arith)
  no_fault PinCount c (k, row, d, call, is, other) =
      let e = s.calls c k row call in
      other (subst (λ (y : Circuit). length row.nets ≡ length y.pins) (one_circuit nl row.circuit e.0 d e.1 is) e.2)
  no_fault CircuitCycle c h = s.no_cycle c h

module _ (nl : Netlist) (none : (fault : NetlistFault) (c : ℕ) → ShowsFault nl fault c → ⊥) where
  below : (c n : ℕ) (x : Circuit) → IsCircuit nl c x → IsListed n (appearances x) → n < length x.nets
  below c n x is h = elim (leb_tells (length x.nets) n) [ inl k ↦ absurd (none BadTerminal c (x, n, is, h, k.1)) | inr k ↦ k.1 ]

  fit : AreCallsFitting nl
  fit c k row call = elim (leb_tells (length nl.circuits) row.circuit) [
    | inl h ↦ absurd (none NoSuchCircuit c (k, row, call, h.1))
    | inr h ↦
        let d = item_at nl.circuits row.circuit h.1 in
        elim (ℕ_discrete (length row.nets) (length d.0.pins)) [ yes e ↦ (d.0, d.1, e) | no ne ↦ absurd (none PinCount c (k, row, d.0, call, d.1, ne)) ]
  ]

  sound : IsSoundNetlist nl
  sound = record {
    names = λ b c x y is is' e. elim (sides b c) [
      | inl low ↦ absurd (none NameClash c (inl (b, x, y, low, is, is', e)))
      | inr (inl same) ↦ same
      | inr (inr low) ↦ absurd (none NameClash b (inl (c, y, x, low, is', is, sym e)))
    ];
    net_names = λ c a b x name is e e'. elim (sides a b) [
      | inl low ↦ absurd (none NameClash c (inr (x, a, b, name, is, low, e, e')))
      | inr (inl same) ↦ same
      | inr (inr low) ↦ absurd (none NameClash c (inr (x, b, a, name, is, low, e', e)))
    ];
    nets = nets_there nl below;
    calls = fit;
    no_cycle = none CircuitCycle;
  }

pub sound_law : SoundLaw
sound_law nl = (no_fault nl, sound nl)

one_rank : (f g : NetlistFault) → fault_rank f ≡ fault_rank g → f ≡ g
one_rank NameClash NameClash e = refl
one_rank BadTerminal BadTerminal e = refl
one_rank NoSuchCircuit NoSuchCircuit e = refl
one_rank PinCount PinCount e = refl
one_rank CircuitCycle CircuitCycle e = refl
one_rank f g e = absurd (omega arith)

pub one_fault : OneFaultLaw
one_fault nl f g c d h k =
    let e : f ≡ g = elim (sides (fault_rank f) (fault_rank g)) [
      | inl low ↦ absurd (k.before f c low h.shown)
      | inr (inl same) ↦ one_rank f g same
      | inr (inr low) ↦ absurd (h.before g d low k.shown)
    ] in (
      e,
      elim (sides c d) [
        | inl low ↦ absurd (k.first c low (subst (λ z. ShowsFault nl z c) e h.shown))
        | inr (inl same) ↦ same
        | inr (inr low) ↦ absurd (h.first d low (subst (λ z. ShowsFault nl z d) (sym e) k.shown))
      ],
    )
