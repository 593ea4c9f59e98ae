-- The nets, calls and groups of a netlist and of the merged one, at the ends of paths of calls.
use Rattle.std.proofs.Common.{◌≡◌, inl, inr, ℕ, true, List, [], ◌∷◌, map, Some, slice_get, sym, subst}
use Rattle.base_laws.proofs.Items.{map_to, map_from}
use Rattle.plain_netlist.specs.Lists.{IsListed, AreApart}
use Rattle.plain_netlist.specs.Netlist.{DeviceRow, CallRow, Circuit, Netlist, IsCircuit, IsCall, Slot, slot, Joins, IsJoin, IsEitherJoin, InOneNet, HasDevice, IsOnPin}
use Rattle.plain_netlist.proofs.Links.{along, single}
use Rattle.plain_netlist.proofs.Once.{one_circuit, one_call}
use Rattle.merge_laws.specs.Grouped.{is_alike, Placed, Group, members, groups, merged_row, merged_circuit, merged_netlist, IsGroup}
use Rattle.merge_laws.proofs.Groups.{are_groups}

module _ (nl : Netlist) where
  abbrev pub ml : Netlist
  ml = merged_netlist nl

  pub circuit_there : (k : ℕ) (c : Circuit) → IsCircuit nl k c → IsCircuit ml k (merged_circuit c)
  circuit_there k c is = map_to merged_circuit nl.circuits k c is

  pub circuit_back : (k : ℕ) (c : Circuit) → IsCircuit ml k c → (o : Circuit) × IsCircuit nl k o × (merged_circuit o ≡ c)
  circuit_back k c is = map_from merged_circuit nl.circuits k c is

  pub call_there : (c k : ℕ) (row : CallRow) → IsCall nl c k row → IsCall ml c k row
  call_there c k row (x, is, at) = (merged_circuit x, circuit_there c x is, at)

  pub call_back : (c k : ℕ) (row : CallRow) → IsCall ml c k row → IsCall nl c k row
  call_back c k row (x, is, at) = let o = circuit_back c x is in (o.0, o.1, subst (λ (z : Circuit). slice_get z.calls k ≡ Some row) (sym o.2) at)

  joins_there : (path : List ℕ) (c outer k inner : ℕ) → Joins nl c path outer k inner → Joins ml c path outer k inner
  joins_there [] c outer k inner (row, call, called, is, i, p, q) = (row, call_there c k row call, merged_circuit called, circuit_there row.circuit called is, i, p, q)
  joins_there (j ∷ js) c outer k inner (row, call, rest) = (row, call_there c j row call, joins_there js row.circuit outer k inner rest)

  joins_back : (path : List ℕ) (c outer k inner : ℕ) → Joins ml c path outer k inner → Joins nl c path outer k inner
  joins_back [] c outer k inner (row, call, called, is, i, p, q) =
      let o = circuit_back row.circuit called is in
      (row, call_back c k row call, o.0, o.1, i, p, subst (λ (z : Circuit). slice_get z.pins i ≡ Some inner) (sym o.2) q)
  joins_back (j ∷ js) c outer k inner (row, call, rest) = (row, call_back c j row call, joins_back js row.circuit outer k inner rest)

  pub net_there : (t : ℕ) (a b : Slot) → InOneNet nl t a b → InOneNet ml t a b
  net_there t a b h = along (IsEitherJoin nl t) (IsEitherJoin ml t) (λ x. x) (λ x y j. single (IsEitherJoin ml t) x y (elim j [ inl i ↦ inl (go x y i) | inr i ↦ inr (go y x i) ])) a b h
    where
      go : (x y : Slot) → IsJoin nl t x y → IsJoin ml t x y
      go x y i = record { number = i.number; deeper = i.deeper; joins = joins_there x.path t x.net i.number y.net i.joins }

  pub net_back : (t : ℕ) (a b : Slot) → InOneNet ml t a b → InOneNet nl t a b
  net_back t a b h = along (IsEitherJoin ml t) (IsEitherJoin nl t) (λ x. x) (λ x y j. single (IsEitherJoin nl t) x y (elim j [ inl i ↦ inl (go x y i) | inr i ↦ inr (go y x i) ])) a b h
    where
      go : (x y : Slot) → IsJoin ml t x y → IsJoin nl t x y
      go x y i = record { number = i.number; deeper = i.deeper; joins = joins_back x.path t x.net i.number y.net i.joins }

  pub pin_there : (t : ℕ) (a : Slot) → IsOnPin nl t a → IsOnPin ml t a
  pin_there t a (i, n, (c, is, at), one) = (i, n, (merged_circuit c, circuit_there t c is, at), net_there t a (slot [] n) one)

  pub pin_back : (t : ℕ) (a : Slot) → IsOnPin ml t a → IsOnPin nl t a
  pin_back t a (i, n, (c, is, at), one) =
      let o = circuit_back t c is in
      (i, n, (o.0, o.1, subst (λ (z : Circuit). slice_get z.pins i ≡ Some n) (sym o.2) at), net_back t a (slot [] n) one)

  pub group_has : (path : List ℕ) (t j : ℕ) (g : Group) → IsGroup nl t path j g → HasDevice ml t path j (merged_row g)
  group_has [] t j g (c, is, at) = (merged_circuit c, circuit_there t c is, map_to merged_row (groups c.devices) j g at)
  group_has (k ∷ ks) t j g (row, call, rest) = (row, call_there t k row call, group_has ks row.circuit j g rest)

  pub has_group : (path : List ℕ) (t j : ℕ) (row : DeviceRow) → HasDevice ml t path j row → (g : Group) × IsGroup nl t path j g × (merged_row g ≡ row)
  has_group [] t j row (c, is, at) =
      let o = circuit_back t c is in
      let g = map_from merged_row (groups o.0.devices) j row (subst (λ (z : Circuit). slice_get z.devices j ≡ Some row) (sym o.2) at) in
      (g.0, (o.0, o.1, g.1), g.2)
  has_group (k ∷ ks) t j row (call, is, rest) = let r = has_group ks call.circuit j row rest in (r.0, (call, call_back t k call is, r.1), r.2)

  pub member_has : (path : List ℕ) (t j : ℕ) (g : Group) (d : Placed) → IsGroup nl t path j g → IsListed d (members g) → HasDevice nl t path d.place d.row
  member_has [] t j g d (c, is, at) i = (c, is, ((are_groups c.devices).1.each j g d at i).0)
  member_has (k ∷ ks) t j g d (row, call, rest) i = (row, call, member_has ks row.circuit j g d rest i)

  pub in_group : (path : List ℕ) (t i : ℕ) (row : DeviceRow) → HasDevice nl t path i row → (j : ℕ) × (g : Group) × IsGroup nl t path j g × IsListed (record { place = i; row = row }) (members g)
  in_group [] t i row (c, is, at) = let r = are_groups c.devices in let f = r.1.found i row (r.2 i row at) at in (f.0, f.1, (c, is, f.2), f.3)
  in_group (k ∷ ks) t i row (call, is, rest) = let r = in_group ks call.circuit i row rest in (r.0, r.1, (call, is, r.2), r.3)

  pub one_group : (path : List ℕ) (t j : ℕ) (g h : Group) → IsGroup nl t path j g → IsGroup nl t path j h → g ≡ h
  one_group [] t j g h (c, is, at) (d, it, on) = let e : slice_get (groups d.devices) j ≡ Some g = subst (λ (z : Circuit). slice_get (groups z.devices) j ≡ Some g) (one_circuit nl t c d is it) at in cc
  one_group (k ∷ ks) t j g h (row, call, rest) (other, also, more) =
      one_group ks other.circuit j g h (subst (λ (z : CallRow). IsGroup nl z.circuit ks j g) (one_call nl t k row other call also) rest) more

  pub group_one : (path : List ℕ) (t j k : ℕ) (g h : Group) (d e : Placed) → IsGroup nl t path j g → IsGroup nl t path k h → IsListed d (members g) → IsListed e (members h) → d.place ≡ e.place → j ≡ k
  group_one [] t j k g h d e (c, is, at) (b, it, on) i l p =
      (are_groups b.devices).1.one j k g h d e (subst (λ (z : Circuit). slice_get (groups z.devices) j ≡ Some g) (one_circuit nl t c b is it) at) on i l p
  group_one (n ∷ ns) t j k g h d e (row, call, rest) (other, also, more) i l p =
      group_one ns other.circuit j k g h d e (subst (λ (z : CallRow). IsGroup nl z.circuit ns j g) (one_call nl t n row other call also) rest) more i l p

  pub group_alike : (path : List ℕ) (t j : ℕ) (g : Group) (d : Placed) → IsGroup nl t path j g → IsListed d g.others → is_alike g.first.row d.row ≡ true
  group_alike [] t j g d (c, is, at) i = (are_groups c.devices).1.alike j g d at i
  group_alike (k ∷ ks) t j g d (row, call, rest) i = group_alike ks row.circuit j g d rest i

  pub group_apart : (path : List ℕ) (t j : ℕ) (g : Group) → IsGroup nl t path j g → AreApart (map (λ (d : Placed). d.place) (members g))
  group_apart [] t j g (c, is, at) = (are_groups c.devices).1.apart j g at
  group_apart (k ∷ ks) t j g (row, call, rest) = group_apart ks row.circuit j g rest
