-- Two circuits that call nothing and expand to the same have a correspondence.
use Rattle.std.proofs.Common.{◌≡◌, ℕ, ◌<◌, List, [], length, Some, slice_get, refl, sym, ap, subst, ◌∙◌, arith}
use Rattle.base_laws.proofs.Items.{item_at}
use Rattle.std.specs.Prelude.{slice_index}
use Rattle.std.proofs.lemmas.Option.{slice_get_within}
use Rattle.match_laws.specs.Circuits.{IsCorrespondence, IsDeviceImage, IsOneToOne, Pair, Pairing, pin_name}
use Rattle.merge_laws.proofs.Leaves as leaves
use Rattle.plain_netlist.specs.Devices.{AreRowsAlike, Row, terminal_nets}
use Rattle.plain_netlist.specs.Flats.{Corresponds, Reversed, expanded, row_at}
use Rattle.plain_netlist.specs.Lists.{IsListed}
use Rattle.plain_netlist.specs.Netlist.{CallRow, Circuit, DeviceRow, HasDevice, InOneNet, IsCircuit, IsOnPin, IsTerminal, Netlist, Slot, slot}
use Rattle.plain_netlist.specs.Sound.{AreNetsThere}
use Rattle.plain_netlist.proofs.Alike.{reversed, terminal_image}
use Rattle.plain_netlist.proofs.Members.{listed, position}
use Rattle.plain_netlist.proofs.Rows.{rows_under, rows_where}
use Rattle.report_file.proofs.Choosing.{IsChosen, choose, one_to_one}

-- a device of the circuit has a terminal on net n
pub record IsOnDevice (c : Circuit) (n : ℕ) : Type 0 where
  pub device : ℕ
  pub row : DeviceRow
  pub there : slice_get c.devices device ≡ Some row
  pub is : IsListed n (terminal_nets row)

-- circuit k is this one, which calls nothing, and each of its nets is on a device
pub record IsLeaf (nl : Netlist) (k : ℕ) (c : Circuit) : Type 0 where
  pub circuit : IsCircuit nl k c
  pub calls : c.calls ≡ []
  pub held : (n : ℕ) → n < length c.nets → IsOnDevice c n
  pub within : AreNetsThere nl

module _ (nl : Netlist) (k : ℕ) (c : Circuit) (leaf : IsLeaf nl k c) where
  pub own_device : (path : List ℕ) (j : ℕ) (row : DeviceRow) → HasDevice nl k path j row → (path ≡ []) × (slice_get c.devices j ≡ Some row)
  own_device = leaves.own_device nl k c leaf.circuit leaf.calls

  has_device : (j : ℕ) (row : DeviceRow) → slice_get c.devices j ≡ Some row → HasDevice nl k [] j row
  has_device j row at = (c, leaf.circuit, at)

  pub one_slot : (a b : Slot) → InOneNet nl k a b → a ≡ b
  one_slot = leaves.one_slot nl k c leaf.circuit leaf.calls

  self_slot : (a : Slot) → InOneNet nl k a a
  self_slot a = record { via = []; chain = refl }

  pub on_pin : (n : ℕ) → IsOnPin nl k (slot [] n) → IsListed n c.pins
  on_pin n (i, m, (x, is, at), reach) =
      let also = leaf.circuit in
      let same : x ≡ c = cc in
      let e : n ≡ m = ap (λ (s : Slot). s.net) (one_slot (slot [] n) (slot [] m) reach) in
      subst (λ (y : ℕ). IsListed y c.pins) (sym e) (listed c.pins i m (subst (λ (y : Circuit). slice_get y.pins i ≡ Some m) same at))

  pub pin_on : (n : ℕ) → IsListed n c.pins → IsOnPin nl k (slot [] n)
  pin_on n h = let p = position c.pins n h in (p.0, n, (c, leaf.circuit, p.1), self_slot (slot [] n))

  -- the net of a terminal is there
  net_there : (j n : ℕ) (row : DeviceRow) → slice_get c.devices j ≡ Some row → IsListed n (terminal_nets row) → n < length c.nets
  net_there j n row at on =
      let h = leaf.within.devices k j n row (c, leaf.circuit, at) on in
      let there = h.1 in
      let also = leaf.circuit in
      let same : h.0 ≡ c = cc in subst (λ (y : Circuit). n < length y.nets) same h.2

  terminal : (n : ℕ) → n < length c.nets → IsTerminal nl k (slot [] n)
  terminal n l = let h = leaf.held n l in record { device = h.device; row = h.row; has = has_device h.device h.row h.there; on = h.is }

  -- a terminal's slot is a net of the circuit
  own_slot : (a : Slot) → IsTerminal nl k a → (a ≡ slot [] a.net) × (a.net < length c.nets)
  own_slot a h =
      let o = own_device a.path h.device h.row h.has in
      (ap (λ (p : List ℕ). slot p a.net) o.0, net_there h.device a.net h.row o.1 h.on)

module _ (left right : Netlist) (k : ℕ) (c d : Circuit) (l : IsLeaf left k c) (r : IsLeaf right k d) (D N : Slot → Slot → Type 0) (h : Corresponds (expanded left k) (expanded right k) D N) where
  -- device x of the right circuit is that of device j
  abbrev GoesTo : ℕ → ℕ → Type 0
  GoesTo j x = (row : DeviceRow) × (other : DeviceRow) × (slice_get c.devices j ≡ Some row) × (slice_get d.devices x ≡ Some other) × D (slot [] j) (slot [] x) × AreRowsAlike N (row_at [] row) (row_at [] other)

  device_there : (j : ℕ) → j < length c.devices → (x : ℕ) × GoesTo j x
  device_there j low =
      let at = item_at c.devices j low in
      let y = h.there (slot [] j) (row_at [] at.0) (at.0, has_device left k c l j at.0 at.1, refl) in
      let has = y.2 in
      let own = own_device right k d r y.0.path y.0.net has.0 has.1 in
      let place : y.0 ≡ slot [] y.0.net = ap (λ (p : List ℕ). slot p y.0.net) own.0 in
      let row : y.1 ≡ row_at [] has.0 = has.2 ∙ ap (λ (p : List ℕ). row_at p has.0) own.0 in
      (y.0.net, (at.0, has.0, at.1, own.1, subst (λ (s : Slot). D (slot [] j) s) place y.3, subst (λ (s : Row Slot). AreRowsAlike N (row_at [] at.0) s) row y.4))

  device_back : (x : ℕ) → x < length d.devices → (j : ℕ) × (j < length c.devices) × D (slot [] j) (slot [] x)
  device_back x low =
      let at = item_at d.devices x low in
      let y = h.back (slot [] x) (row_at [] at.0) (at.0, has_device right k d r x at.0 at.1, refl) in
      let has = y.2 in
      let own = own_device left k c l y.0.path y.0.net has.0 has.1 in
      let place : y.0 ≡ slot [] y.0.net = ap (λ (p : List ℕ). slot p y.0.net) own.0 in
      (y.0.net, slice_get_within c.devices y.0.net has.0 own.1, subst (λ (s : Slot). D s (slot [] x)) place y.3)

  -- net x of the right circuit is that of net n
  abbrev StandsFor : ℕ → ℕ → Type 0
  StandsFor n x = (x < length d.nets) × N (slot [] n) (slot [] x)

  net_image : (n : ℕ) → n < length c.nets → (x : ℕ) × StandsFor n x
  net_image n low =
      let y = terminal_image left right k k D N h (slot [] n) (terminal left k c l n low) in
      let own = own_slot right k d r y.0 y.1 in (y.0.net, (own.1, subst (λ (s : Slot). N (slot [] n) s) own.0 y.2))

  net_back : (x : ℕ) → x < length d.nets → (n : ℕ) × (n < length c.nets) × N (slot [] n) (slot [] x)
  net_back x low =
      let turned = reversed (expanded left k) (expanded right k) D N h in
      let y = terminal_image right left k k (Reversed D) (Reversed N) turned (slot [] x) (terminal right k d r x low) in
      let own = own_slot left k c l y.0 y.1 in (y.0.net, own.1, subst (λ (s : Slot). N s (slot [] x)) own.0 y.2)

  one_net : (m n x y : ℕ) → N (slot [] m) (slot [] x) → N (slot [] n) (slot [] y) → m ≡ n → x ≡ y
  one_net m n x y a b e =
      ap (λ (s : Slot). s.net) (one_slot right k d r (slot [] x) (slot [] y) ((h.nets (slot [] m) (slot [] n) (slot [] x) (slot [] y) a b).0 (subst (λ (z : ℕ). InOneNet left k (slot [] m) (slot [] z)) e (self_slot left k c l (slot [] m)))))

  net_one : (m n x y : ℕ) → N (slot [] m) (slot [] x) → N (slot [] n) (slot [] y) → x ≡ y → m ≡ n
  net_one m n x y a b e =
      ap (λ (s : Slot). s.net) (one_slot left k c l (slot [] m) (slot [] n) ((h.nets (slot [] m) (slot [] n) (slot [] x) (slot [] y) a b).1 (subst (λ (z : ℕ). InOneNet right k (slot [] x) (slot [] z)) e (self_slot right k d r (slot [] x)))))

  one_device : (i j x y : ℕ) → D (slot [] i) (slot [] x) → D (slot [] j) (slot [] y) → i ≡ j → x ≡ y
  one_device i j x y a b e = ap (λ (s : Slot). s.net) ((h.devices (slot [] i) (slot [] j) (slot [] x) (slot [] y) a b).0 (ap (λ (n : ℕ). slot [] n) e))

  device_one : (i j x y : ℕ) → D (slot [] i) (slot [] x) → D (slot [] j) (slot [] y) → x ≡ y → i ≡ j
  device_one i j x y a b e = ap (λ (s : Slot). s.net) ((h.devices (slot [] i) (slot [] j) (slot [] x) (slot [] y) a b).1 (ap (λ (n : ℕ). slot [] n) e))

  module _ (nets devices : List ℕ) (nets_are : IsChosen StandsFor (length c.nets) nets) (devices_are : IsChosen GoesTo (length c.devices) devices) where
    nets_one : IsOneToOne nets (length c.nets) (length d.nets)
    nets_one = one_to_one nets (length c.nets) (length d.nets) nets_are.long (λ n low. (nets_are.each n low).0)
        (λ m n a b e. net_one m n (slice_index nets m) (slice_index nets n) (nets_are.each m a).1 (nets_are.each n b).1 e)
        (λ x low. let b = net_back x low in (b.0, b.1, one_net b.0 b.0 (slice_index nets b.0) x (nets_are.each b.0 b.1).1 b.2 refl))

    devices_one : IsOneToOne devices (length c.devices) (length d.devices)
    devices_one = one_to_one devices (length c.devices) (length d.devices) devices_are.long
        (λ j low. let g = devices_are.each j low in slice_get_within d.devices (slice_index devices j) g.1 g.3)
        (λ i j a b e. device_one i j (slice_index devices i) (slice_index devices j) (devices_are.each i a).4 (devices_are.each j b).4 e)
        (λ x low. let b = device_back x low in (b.0, b.1, one_device b.0 b.0 (slice_index devices b.0) x (devices_are.each b.0 b.1).4 b.2 refl))

    on_net : (n x : ℕ) → n < length c.nets → N (slot [] n) (slot [] x) → slice_index nets n ≡ x
    on_net n x low a = one_net n n (slice_index nets n) x (nets_are.each n low).1 a refl

    device_image : (j : ℕ) (row other : DeviceRow) → slice_get c.devices j ≡ Some row → slice_get d.devices (slice_index devices j) ≡ Some other → IsDeviceImage nets row other
    device_image j row other at there =
        let g = devices_are.each j (slice_get_within c.devices j row at) in
        let one : g.0 ≡ row = (let a = g.2 in let z : Some g.0 ≡ Some row = sym a ∙ at in cc) in
        let two : g.1 ≡ other = (let a = g.3 in let z : Some g.1 ≡ Some other = sym a ∙ there in cc) in
        let alike = subst (λ (y : DeviceRow). AreRowsAlike N (row_at [] row) (row_at [] y)) two (subst (λ (y : DeviceRow). AreRowsAlike N (row_at [] y) (row_at [] g.1)) one g.5) in
        rows_where (λ n x. N (slot [] n) (slot [] x)) (λ n x. slice_index nets n ≡ x) row other (λ n x on a. on_net n x (net_there left k c l j n row at on) a)
        (rows_under N (slot []) (slot []) row other alike)

    corresponds : (p : Pair) → p.left ≡ c → p.right ≡ d → ((n x : ℕ) → n < length c.nets → x < length d.nets → N (slot [] n) (slot [] x) → pin_name p.told c n ≡ pin_name p.told d x) → IsCorrespondence p (record { nets = nets; devices = devices; calls = [] })
    corresponds p lp rp named = record {
      nets = subst (λ (x : Circuit). IsOneToOne nets (length x.nets) (length p.right.nets)) (sym lp) (subst (λ (x : Circuit). IsOneToOne nets (length c.nets) (length x.nets)) (sym rp) nets_one);
      devices = subst (λ (x : Circuit). IsOneToOne devices (length x.devices) (length p.right.devices)) (sym lp) (subst (λ (x : Circuit). IsOneToOne devices (length c.devices) (length x.devices)) (sym rp) devices_one);
      calls = record {
        count = sym (ap (λ (x : Circuit). length x.calls) lp ∙ ap (λ (rs : List CallRow). length rs) l.calls);
        below = λ x i. absurd i;
        once = λ j low. absurd (let e : length p.right.calls ≡ 0 = ap (λ (x : Circuit). length x.calls) rp ∙ ap (λ (rs : List CallRow). length rs) r.calls in omega (arith, low, e));
      };
      pin = λ n low.
          let inside : n < length c.nets = subst (λ (x : Circuit). n < length x.nets) lp low in
          let both = h.pins (slot [] n) (slot [] (slice_index nets n)) (nets_are.each n inside).1 in (
            (λ i. subst (λ (x : Circuit). IsListed (slice_index nets n) x.pins) (sym rp) (on_pin right k d r (slice_index nets n) (both.0 (pin_on left k c l n (subst (λ (x : Circuit). IsListed n x.pins) lp i))))),
            (λ i. subst (λ (x : Circuit). IsListed n x.pins) (sym lp) (on_pin left k c l n (both.1 (pin_on right k d r (slice_index nets n) (subst (λ (x : Circuit). IsListed (slice_index nets n) x.pins) rp i))))),
          );
      named = λ n low.
          let inside : n < length c.nets = subst (λ (x : Circuit). n < length x.nets) lp low in
          let there = nets_are.each n inside in
          ap (λ (x : Circuit). pin_name p.told x n) lp ∙ (named n (slice_index nets n) inside there.0 there.1 ∙ sym (ap (λ (x : Circuit). pin_name p.told x (slice_index nets n)) rp));
      device = λ j row other at there.
          device_image j row other (subst (λ (x : Circuit). slice_get x.devices j ≡ Some row) lp at) (subst (λ (x : Circuit). slice_get x.devices (slice_index devices j) ≡ Some other) rp there);
      call = λ e row other at there.
          let none : slice_get [] e ≡ Some row = subst (λ (rs : List CallRow). slice_get rs e ≡ Some row) (ap (λ (x : Circuit). x.calls) lp ∙ l.calls) at in absurd cc;
    }

  pub leaf_pair : (p : Pair) → p.left ≡ c → p.right ≡ d → ((n x : ℕ) → n < length c.nets → x < length d.nets → N (slot [] n) (slot [] x) → pin_name p.told c n ≡ pin_name p.told d x) → (f : Pairing) × IsCorrespondence p f
  leaf_pair p lp rp named =
      let nets = choose StandsFor (length c.nets) net_image in
      let devices = choose GoesTo (length c.devices) device_there in
      (record { nets = nets.0; devices = devices.0; calls = [] }, corresponds nets.0 devices.0 nets.1 devices.1 p lp rp named)
