-- Flattening and dropping, one after the other.
use Rattle.std.proofs.Common.{◌≡◌, ◌↔◌, ℕ, true, List, [], ◌∷◌, sym, ◌∙◌, ap, subst}
use Rattle.plain_netlist.specs.Netlist.{DeviceRow, Netlist, IsSlot, Slot, InOneNet, HasDevice, IsTerminal, slot, IsOnPin}
use Rattle.plain_netlist.specs.Lists.{IsListed}
use Rattle.plain_netlist.specs.Devices.{terminal_nets, IsRowOver}
use Rattle.plain_netlist.specs.Flats.{Through}
use Rattle.plain_netlist.proofs.Rows.{rows_terminal, over_alike, over_wider, over_through}
use Rattle.align_laws.specs.Flat.{Maps, net_image, device_image, AreInlined, IsSameExpansion}
use Rattle.align_laws.proofs.Prune.{Cuts, ArePruned, IsHeldSlot, new_slot, new_path, IsPrunedExpansion}
use Rattle.align_laws.specs.Aligned.{IsKeptExpansion}
use Rattle.align_laws.proofs.Flatten.{same_expansion}
use Rattle.align_laws.proofs.Dropped.{pruned_expansion}

-- where a net, and a device, of the given netlist stands in the cut one
abbrev pub whole_net : Maps → Cuts → ℕ → Slot → Slot
whole_net v w c s = new_slot w c (net_image v c s).path (net_image v c s).net

abbrev pub whole_device : Maps → Cuts → ℕ → Slot → Slot
whole_device v w c s = slot (new_path w c (device_image v c s.path s.net).path) (device_image v c s.path s.net).net

module _ (g f o : Netlist) (v : Maps) (w : Cuts) (height : ℕ → ℕ) (flat : AreInlined g f v height) (cut : ArePruned f o w) (c : ℕ) (kept : w.kept c ≡ true) where
  first : IsSameExpansion g f v c
  first = same_expansion g f v height flat c

  second : IsPrunedExpansion f o w c
  second = pruned_expansion f o w cut c kept

  device_slot : (path : List ℕ) (c j n : ℕ) (row : DeviceRow) → HasDevice g c path j row → IsListed n (terminal_nets row) → IsSlot g c path n
  device_slot [] c j n row h on = flat.within.devices c j n row h on
  device_slot (k ∷ ks) c j n row (call, is, h) on = (call, is, device_slot ks call.circuit j n row h on)

  terminal_slot : (a : Slot) → IsTerminal g c a → IsSlot g c a.path a.net
  terminal_slot a t = device_slot a.path c t.device a.net t.row t.has t.on

  terminal_held : (a : Slot) → IsTerminal g c a → IsHeldSlot f w c (net_image v c a).path (net_image v c a).net
  terminal_held a t =
      let d = first.device a.path t.device t.row t.has in
      let place = device_image v c a.path t.device in
      let m = rows_terminal (λ n b. net_image v c (slot a.path n) ≡ slot place.path b) t.row d.0 (over_alike (λ n b. net_image v c (slot a.path n) ≡ slot place.path b) t.row d.0 d.2) a.net t.on in
      subst (λ (s : Slot). IsHeldSlot f w c s.path s.net) (sym m.2) (second.terminal place.path place.net m.0 d.0 d.1 m.1)

  each : (path : List ℕ) (j : ℕ) (row : DeviceRow) → HasDevice g c path j row
      → (other : DeviceRow) × HasDevice o (w.number c) (whole_device v w c (slot path j)).path (whole_device v w c (slot path j)).net other
      × IsRowOver (λ a b. whole_net v w c (slot path a) ≡ slot (whole_device v w c (slot path j)).path b) row other
  each path j row h =
      let d = first.device path j row h in
      let e = second.device (device_image v c path j).path (device_image v c path j).net d.0 d.1 in
      let Mid : ℕ → ℕ → Type 0 = λ a b. net_image v c (slot path a) ≡ slot (device_image v c path j).path b in
      let Last : ℕ → ℕ → Type 0 = λ a b. new_slot w c (device_image v c path j).path a ≡ slot (new_path w c (device_image v c path j).path) b in (
        e.0,
        e.1,
        over_wider (Through Mid Last) (λ a b. whole_net v w c (slot path a) ≡ slot (whole_device v w c (slot path j)).path b) (λ n m k. ap (λ (s : Slot). new_slot w c s.path s.net) k.1 ∙ k.2) row e.0
            (over_through Mid Last row d.0 e.0 d.2 e.2),
      )

  back : (es : List ℕ) (j : ℕ) (other : DeviceRow) → HasDevice o (w.number c) es j other → (s : Slot) × (row : DeviceRow) × HasDevice g c s.path s.net row × (whole_device v w c s ≡ slot es j)
  back es j other h =
      let e = second.back es j other h in
      let d = first.back e.0 j e.1 e.2 in
      (d.0, d.1, d.2, ap (λ (s : Slot). slot (new_path w c s.path) s.net) d.3 ∙ ap (λ (q : List ℕ). slot q j) e.3)

  one : (s t : Slot) (a b : DeviceRow) → HasDevice g c s.path s.net a → HasDevice g c t.path t.net b → whole_device v w c s ≡ whole_device v w c t → s ≡ t
  one s t a b h k e =
      let d = first.device s.path s.net a h in
      let x = first.device t.path t.net b k in
      let path = second.one (device_image v c s.path s.net).path (device_image v c t.path t.net).path (device_image v c s.path s.net).net (device_image v c t.path t.net).net d.0 x.0 d.1 x.1 (ap (λ (s : Slot). s.path) e) in
      first.one s.path t.path s.net t.net a b h k (ap (λ (q : List ℕ). slot q (device_image v c s.path s.net).net) path ∙ ap (slot (device_image v c t.path t.net).path) (ap (λ (s : Slot). s.net) e))

  nets : (a b : Slot) → IsTerminal g c a → IsTerminal g c b → InOneNet g c a b ↔ InOneNet o (w.number c) (whole_net v w c a) (whole_net v w c b)
  nets a b t u =
      let x = first.nets a b (terminal_slot a t) (terminal_slot b u) in
      let y = second.nets (net_image v c a) (net_image v c b) (terminal_held a t) (terminal_held b u) in
      ((λ h. y.0 (x.0 h)), (λ h. x.1 (y.1 h)))

  pins : (a : Slot) → IsTerminal g c a → IsOnPin g c a ↔ IsOnPin o (w.number c) (whole_net v w c a)
  pins a t =
      let y = second.pins (net_image v c a) (terminal_held a t) in (
        (λ h. y.0 (h.0, h.1, (first.pins h.0 h.1).0 h.2, (first.nets a (slot [] h.1) (terminal_slot a t) (flat.within.pins c h.0 h.1 h.2)).0 h.3)),
        (λ h.
            let z = y.1 h in
            let pin = (first.pins z.0 z.1).1 z.2 in
            (z.0, z.1, pin, (first.nets a (slot [] z.1) (terminal_slot a t) (flat.within.pins c z.0 z.1 pin)).1 z.3)),
      )

  pub kept_expansion : IsKeptExpansion g o c (w.number c) (whole_net v w c) (whole_device v w c)
  kept_expansion = record { each = each; back = back; one = one; nets = nets; pins = pins }
