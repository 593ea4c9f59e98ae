-- An aligned netlist keeps what a kept circuit expands to.
use Rattle.std.proofs.Common.{◌≡◌, ◌↔◌, inl, inr, ℕ, zero, suc, ◌<◌, Bool, true, false, cond, List, refl, sym, ◌∙◌, ap, subst, arith}
use Rattle.base_laws.proofs.Tests.{not_both}
use Rattle.std.proofs.lemmas.Bool.{cases_Bool}
use Rattle.std.proofs.Math.Path.{fun_ext}
use Rattle.plain_netlist.specs.Netlist.{DeviceRow, CallRow, Netlist, IsCall, Slot, slot, InOneNet, HasDevice, IsTerminal, IsOnPin}
use Rattle.plain_netlist.specs.Devices.{Row, AreRowsAlike, IsRowOver}
use Rattle.plain_netlist.proofs.Rows.{rows_where, rows_over, over_alike}
use Rattle.plain_netlist.specs.Flats.{Corresponds, row_at, expanded}
use Rattle.plain_netlist.specs.Sound.{HasDevices, IsGood}
use Rattle.plain_netlist.proofs.Once.{one_device, one_call}
use Rattle.align_laws.specs.Flat.{Stays, Goes, Maps, AreInlined, call_through, net_image, device_image}
use Rattle.align_laws.specs.Lists.{FlatCircuit, maps_of, AreFlat, row_of, given_of, placing_of, own_calls, joined_place}
use Rattle.align_laws.specs.Cut.{Alignment, cut_path, cut_slot}
use Rattle.align_laws.specs.Aligned.{IsAlignedBy, IsKeptExpansion, aligned_net, aligned_device, AlignedLaw, AlignedCorrespondsLaw}
use Rattle.align_laws.proofs.CutList.{cut_pruned, row_is}
use Rattle.align_laws.proofs.FlatGood.{flat_is_good}
use Rattle.align_laws.proofs.Flatten.{same_expansion}
use Rattle.align_laws.proofs.Listed.{listed}
use Rattle.align_laws.proofs.Prune.{cuts_of, slot_is, path_is, AreDeadGone}
use Rattle.align_laws.proofs.Wholly.{whole_net, whole_device, kept_expansion}

-- kept circuits stay, and those with devices that aren't kept go; others may go or stay
pub record MayGo (g : Netlist) (kept goes : ℕ → Bool) : Type 0 where
  pub stay : (c : ℕ) → kept c ≡ true → goes c ≡ false
  pub go : (c : ℕ) → kept c ≡ false → HasDevices g c → goes c ≡ true

pub may_go : (g : Netlist) (kept goes : ℕ → Bool) → ((c : ℕ) → (goes c ≡ true) ↔ ((kept c ≡ false) × HasDevices g c)) → MayGo g kept goes
may_go g kept goes h = record {
  stay = λ c k. elim (cases_Bool (goes c)) [ inl t ↦ absurd (not_both (kept c) k ((h c).0 t).0) | inr f ↦ f ];
  go = λ c k d. (h c).1 (k, d);
}

module _ (g f : Netlist) (goes : ℕ → Bool) (flats : ℕ → FlatCircuit) (height : ℕ → ℕ) (good : IsGood g height) (flat : AreFlat g f goes flats) where
  abbrev v : Maps
  v = maps_of g goes flats

  are : AreInlined g f v height
  are = listed g f goes flats height good flat

  stays_fate : (c k e : ℕ) (row : CallRow) → IsCall g c k row → v.fate c k ≡ Stays e → goes row.circuit ≡ false
  stays_fate c k e row call fate = elim (cases_Bool (goes row.circuit)) [
    | inr h ↦ h
    | inl h ↦
        let t : goes (row_of g c k).circuit ≡ true = ap (λ (r : CallRow). goes r.circuit) (row_is g c k row call) ∙ h in
        let s : Goes (placing_of goes flats (given_of g c) k (row_of g c k)) ≡ Stays e
        = ap (λ (b : Bool). cond b (Goes (placing_of goes flats (given_of g c) k (row_of g c k))) (Stays (joined_place (own_calls goes flats) (given_of g c).calls k 0))) (sym t) ∙ fate in
        absurd (let z : ⊥ = cc in z)
  ]

  -- the calls of flat circuits are of circuits that stay
  call_stays : (h c e : ℕ) (row : CallRow) → height c < h → IsCall f c e row → goes row.circuit ≡ false
  call_stays zero c e row low call = absurd (omega arith)
  call_stays (suc h) c e row low call = elim ((are.each c).calls e row call) [
    | inl (k, given, fate) ↦ stays_fate c k e row given fate
    | inr (k, given, i, m, own, is, fate, deep, num) ↦
        let there = ((are.each c).goes k i given is fate).call m own deep in
        let one : call_through i.net own ≡ row = one_call f c e (call_through i.net own) row (subst (λ (n : ℕ). IsCall f c n (call_through i.net own)) num there.0) call in
        let lower = are.lower c k given is in
        let deeper : height given.circuit < h = let a = low in omega arith in
        subst (λ (r : CallRow). goes r.circuit ≡ false) one (call_stays h given.circuit m own deeper deep)
  ]

  pub stays : (c e : ℕ) (row : CallRow) → IsCall f c e row → goes row.circuit ≡ false
  stays c e row call = call_stays (suc (height c)) c e row (omega arith) call

  -- a device below a flat circuit is one below the given one
  pub has_devices : (c : ℕ) (path : List ℕ) (j : ℕ) (row : DeviceRow) → HasDevice f c path j row → HasDevices g c
  has_devices c path j row h = let b = (same_expansion g f v height are c).back path j row h in (b.0.path, b.0.net, b.1, b.2)

  pub dead_gone : (w : Alignment) → MayGo g w.kept goes → AreDeadGone f w
  dead_gone w may c k row kept call gone path j r h = not_both (goes row.circuit) (may.go row.circuit gone (has_devices row.circuit path j r h)) (stays c k row call)

module _ (g o : Netlist) (w : Alignment) (goes : ℕ → Bool) (may : MayGo g w.kept goes) (a : IsAlignedBy goes g o w) (c : ℕ) (kept : w.kept c ≡ true) where
  abbrev m : Maps
  m = maps_of g goes a.flats

  good_flat : IsGood a.flat a.height
  good_flat = flat_is_good g a.flat goes a.flats a.height a.good a.flattened

  inlined : AreInlined g a.flat m a.height
  inlined = listed g a.flat goes a.flats a.height a.good a.flattened

  before : IsKeptExpansion g o c (w.number c) (whole_net m (cuts_of a.flat w) c) (whole_device m (cuts_of a.flat w) c)
  before = kept_expansion g a.flat o m (cuts_of a.flat w) a.height inlined
      (cut_pruned a.flat o w a.cut_down a.height good_flat (dead_gone g a.flat goes a.flats a.height a.good a.flattened w may)) c kept

  abbrev Net : Slot → Slot
  Net s = cut_slot a.flat w c (net_image m c s).path (net_image m c s).net

  abbrev Device : Slot → Slot
  Device s = slot (cut_path a.flat w c (device_image m c s.path s.net).path) (device_image m c s.path s.net).net

  net_is : whole_net m (cuts_of a.flat w) c ≡ Net
  net_is = fun_ext (λ s. slot_is a.flat w (net_image m c s).path c (net_image m c s).net)

  device_is : whole_device m (cuts_of a.flat w) c ≡ Device
  device_is = fun_ext (λ s. ap (λ (p : List ℕ). slot p (device_image m c s.path s.net).net) (path_is a.flat w (device_image m c s.path s.net).path c))

  pub expansion : IsKeptExpansion g o c (w.number c) Net Device
  expansion =
      subst (λ (n : Slot → Slot). IsKeptExpansion g o c (w.number c) n Device) net_is
      (subst (λ (d : Slot → Slot). IsKeptExpansion g o c (w.number c) (whole_net m (cuts_of a.flat w) c) d) device_is before)

pub kept_alike : AlignedLaw
kept_alike g o w a c kept = expansion g o w a.goes (may_go g w.kept a.goes a.going) a.by c kept

module _ (g o : Netlist) (c d : ℕ) (net device : Slot → Slot) (h : IsKeptExpansion g o c d net device) where
  abbrev IsDevice : Slot → Slot → Type 0
  IsDevice s x = ((row : DeviceRow) × HasDevice g c s.path s.net row) × (device s ≡ x)

  abbrev IsNet : Slot → Slot → Type 0
  IsNet s x = IsTerminal g c s × (net s ≡ x)

  rows : (s : Slot) (row other : DeviceRow) → HasDevice g c s.path s.net row → IsRowOver (λ a b. net (slot s.path a) ≡ slot (device s).path b) row other → AreRowsAlike IsNet (row_at s.path row) (row_at (device s).path other)
  rows s row other has image =
      let Image : ℕ → ℕ → Type 0 = λ a b. net (slot s.path a) ≡ slot (device s).path b in
      let At : ℕ → ℕ → Type 0 = λ a b. IsNet (slot s.path a) (slot (device s).path b) in
      rows_over At IsNet (slot s.path) (slot (device s).path) (λ n m k. k) row other
      (rows_where Image At row other (λ n m on k. (record { device = s.net; row = row; has = has; on = on }, k)) (over_alike Image row other image))

  there : (s : Slot) (r : Row Slot) → (expanded g c).has_device s r → (x : Slot) × (q : Row Slot) × (expanded o d).has_device x q × IsDevice s x × AreRowsAlike IsNet r q
  there s r (row, has, e) =
      let k = h.each s.path s.net row has in
      (device s, row_at (device s).path k.0, (k.0, k.1, refl), ((row, has), refl), subst (λ (y : Row Slot). AreRowsAlike IsNet y (row_at (device s).path k.0)) (sym e) (rows s row k.0 has k.2))

  back : (x : Slot) (q : Row Slot) → (expanded o d).has_device x q → (s : Slot) × (r : Row Slot) × (expanded g c).has_device s r × IsDevice s x × AreRowsAlike IsNet r q
  back x q (other, has, e) =
      let b = h.back x.path x.net other has in
      let k = h.each b.0.path b.0.net b.1 b.2 in
      let same : k.0 ≡ other = one_device o x.path d x.net k.0 other (subst (λ (y : Slot). HasDevice o d y.path y.net k.0) b.3 k.1) has in
      let row : row_at (device b.0).path k.0 ≡ q = ap (λ (y : Slot). row_at y.path k.0) b.3 ∙ (ap (row_at x.path) same ∙ sym e) in
      (b.0, row_at b.0.path b.1, (b.1, b.2, refl), ((b.1, b.2), b.3), subst (λ (y : Row Slot). AreRowsAlike IsNet (row_at b.0.path b.1) y) row (rows b.0 b.1 k.0 b.2 k.2))

  pub correspond : Corresponds (expanded g c) (expanded o d) IsDevice IsNet
  correspond = record {
    there = there;
    back = back;
    devices = λ a b x y (ra, ea) (rb, eb). ((λ e. sym ea ∙ (ap device e ∙ eb)), (λ e. h.one a b ra.0 rb.0 ra.1 rb.1 (ea ∙ (e ∙ sym eb))));
    nets = λ a b x y (ta, ea) (tb, eb).
        let k = h.nets a b ta tb in (
          (λ i. subst (λ (z : Slot). InOneNet o d z y) ea (subst (λ (z : Slot). InOneNet o d (net a) z) eb (k.0 i))),
          (λ i. k.1 (subst (λ (z : Slot). InOneNet o d z (net b)) (sym ea) (subst (λ (z : Slot). InOneNet o d x z) (sym eb) i))),
        );
    pins = λ a x (ta, ea).
        let k = h.pins a ta in
        ((λ i. subst (λ (z : Slot). IsOnPin o d z) ea (k.0 i)), (λ i. k.1 (subst (λ (z : Slot). IsOnPin o d z) (sym ea) i)));
  }

pub aligned_corresponds : AlignedCorrespondsLaw
aligned_corresponds g o w a c kept = correspond g o c (w.number c) (aligned_net g o w a c) (aligned_device g o w a c) (kept_alike g o w a c kept)
