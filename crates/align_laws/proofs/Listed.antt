-- Lists made of a circuit and of those below it are what flattening asks.
use Rattle.std.proofs.Common.{◌≡◌, ◌↔◌, ◌⊎◌, inl, inr, ℕ, zero, suc, ◌<◌, Bool, true, false, cond, List, [], ◌∷◌, ◌++◌, map, length, Option, Some, slice_get, refl, sym, ◌∙◌, ap, ap₂, subst, arith}
use Rattle.base_laws.proofs.Items.{get_left, item_at, map_to, map_from}
use Rattle.std.proofs.lemmas.Bool.{cases_Bool}
use Rattle.plain_netlist.proofs.Once.{one_call, one_row}
use Rattle.plain_netlist.specs.Sound.{IsGood}
use Rattle.std.proofs.lemmas.Option.{slice_get_within}
use Rattle.plain_netlist.specs.Netlist.{DeviceRow, CallRow, Circuit, Netlist, IsCircuit, IsCall, IsDevice, IsPin, HasNet, slot}
use Rattle.plain_netlist.specs.Lists.{IsListed}
use Rattle.plain_netlist.specs.Devices.{terminal_nets, row_over}
use Rattle.plain_netlist.proofs.Rows.{terminal_over}
use Rattle.align_laws.specs.Flat.{Placing, Stays, Goes, Maps, below, IsPlacedInside, IsInlined, AreInlined, call_through}
use Rattle.align_laws.specs.Lists.{NetAt, DeviceAt, CallAt, FlatCircuit, over, indexed, pieces, joined_place, past, net_below, device_below, call_below, own_net, own_device, inner_nets, net_in, inner_devices, own_calls, inner_calls, plain, AreFlat, circuit_or, call_or, net_or, device_or, way_or, onward_or, given_of, row_of, placing_of, maps_of, ListLaw}
use Rattle.align_laws.proofs.Pieces.{append_right, append_cases, piece_at, piece_of, place_pin, place_cases, indexed_at, indexed_of}

module _ (g f : Netlist) (goes : ℕ → Bool) (flats : ℕ → FlatCircuit) (height : ℕ → ℕ) (good : IsGood g height) (flat : AreFlat g f goes flats) where
  abbrev v : Maps
  v = maps_of g goes flats

  given_is : (c : ℕ) (x : Circuit) → IsCircuit g c x → given_of g c ≡ x
  given_is c x is = ap circuit_or is

  row_is : (c k : ℕ) (row : CallRow) → IsCall g c k row → row_of g c k ≡ row
  row_is c k row (x, is, at) = ap call_or (ap (λ (y : Circuit). slice_get y.calls k) (given_is c x is) ∙ at)

  pub flat_is : (c : ℕ) (x : Circuit) → IsCircuit f c x → x ≡ plain (flats c)
  flat_is c x is =
      let b = flat.back c x is in
      let t = flat.there c b.0 b.1 in
      cc

  device_at : (c j : ℕ) (row : DeviceRow) → IsDevice f c j row → (d : DeviceAt) × (slice_get (flats c).devices j ≡ Some d) × (d.row ≡ row)
  device_at c j row (x, is, at) =
      map_from (λ (d : DeviceAt). d.row) (flats c).devices j row (subst (λ (y : Circuit). slice_get y.devices j ≡ Some row) (flat_is c x is) at)

  device_there : (c j : ℕ) (x : Circuit) (d : DeviceAt) → IsCircuit g c x → slice_get (flats c).devices j ≡ Some d → IsDevice f c j d.row
  device_there c j x d is at = (plain (flats c), flat.there c x is, map_to (λ (d : DeviceAt). d.row) (flats c).devices j d at)

  call_at : (c j : ℕ) (row : CallRow) → IsCall f c j row → (d : CallAt) × (slice_get (flats c).calls j ≡ Some d) × (d.row ≡ row)
  call_at c j row (x, is, at) =
      map_from (λ (d : CallAt). d.row) (flats c).calls j row (subst (λ (y : Circuit). slice_get y.calls j ≡ Some row) (flat_is c x is) at)

  call_there : (c j : ℕ) (x : Circuit) (d : CallAt) → IsCircuit g c x → slice_get (flats c).calls j ≡ Some d → IsCall f c j d.row
  call_there c j x d is at = (plain (flats c), flat.there c x is, map_to (λ (d : CallAt). d.row) (flats c).calls j d at)

  pub net_at : (c n : ℕ) → HasNet f c n → (d : NetAt) × (slice_get (flats c).nets n ≡ Some d)
  net_at c n (x, is, low) =
      let y = item_at x.nets n low in
      let m = map_from (λ (d : NetAt). d.name) (flats c).nets n y.0 (subst (λ (z : Circuit). slice_get z.nets n ≡ Some y.0) (flat_is c x is) y.1) in
      (m.0, m.1)

  pub net_there : (c n : ℕ) (x : Circuit) (d : NetAt) → IsCircuit g c x → slice_get (flats c).nets n ≡ Some d → HasNet f c n
  net_there c n x d is at =
      (plain (flats c), flat.there c x is, slice_get_within (map (λ (d : NetAt). d.name) (flats c).nets) n d.name (map_to (λ (d : NetAt). d.name) (flats c).nets n d at))

  -- what becomes of a call
  fate_is : (c k : ℕ) (x : Circuit) (row : CallRow) → IsCircuit g c x → IsCall g c k row
      → v.fate c k ≡ cond (goes row.circuit) (Goes (placing_of goes flats x k row)) (Stays (joined_place (own_calls goes flats) x.calls k 0))
  fate_is c k x row is call = ap₂ (λ (y : Circuit) (r : CallRow). cond (goes r.circuit) (Goes (placing_of goes flats y k r)) (Stays (joined_place (own_calls goes flats) y.calls k 0))) (given_is c x is) (row_is c k row call)

  pub fate_goes : (c k : ℕ) (x : Circuit) (row : CallRow) → IsCircuit g c x → IsCall g c k row → goes row.circuit ≡ true → v.fate c k ≡ Goes (placing_of goes flats x k row)
  fate_goes c k x row is call h = fate_is c k x row is call ∙ ap (λ (t : Bool). cond t (Goes (placing_of goes flats x k row)) (Stays (joined_place (own_calls goes flats) x.calls k 0))) h

  fate_stays : (c k : ℕ) (x : Circuit) (row : CallRow) → IsCircuit g c x → IsCall g c k row → goes row.circuit ≡ false → v.fate c k ≡ Stays (joined_place (own_calls goes flats) x.calls k 0)
  fate_stays c k x row is call h = fate_is c k x row is call ∙ ap (λ (t : Bool). cond t (Goes (placing_of goes flats x k row)) (Stays (joined_place (own_calls goes flats) x.calls k 0))) h

  call_here : (c k : ℕ) (x : Circuit) (row : CallRow) → IsCircuit g c x → IsCall g c k row → slice_get x.calls k ≡ Some row
  call_here c k x row is (y, is', at) = let e : y ≡ x = cc in subst (λ (z : Circuit). slice_get z.calls k ≡ Some row) e at

  own_net_there : (c n : ℕ) → HasNet g c n → HasNet f c n × (v.net_from c n ≡ slot [] n)
  own_net_there c n (x, is, low) =
      let y = item_at x.nets n low in
      let own = get_left (indexed own_net x.nets) (pieces (inner_nets goes flats) x.calls) n (own_net n y.0) (indexed_at own_net x.nets n y.0 y.1) in
      let at : slice_get (flats c).nets n ≡ Some (own_net n y.0) = subst (λ (z : FlatCircuit). slice_get z.nets n ≡ Some (own_net n y.0)) (sym (flat.each c x is)) own in
      (net_there c n x (own_net n y.0) is at, ap net_or at)

  module _ (c k : ℕ) (x : Circuit) (row : CallRow) (is : IsCircuit g c x) (call : IsCall g c k row) (h : goes row.circuit ≡ true) where
    abbrev to : ℕ → ℕ
    to = net_in goes flats x k row

    abbrev far : ℕ → ℕ
    far m = over (indexed own_net x.nets) (joined_place (inner_nets goes flats) x.calls k m)

    inner_at : (m : ℕ) (y : NetAt) → slice_get (past row.nets (flats row.circuit).nets) m ≡ Some y → slice_get (flats c).nets (far m) ≡ Some (net_below k y)
    inner_at m y at =
        let one = map_to (net_below k) (past row.nets (flats row.circuit).nets) m y at in
        let two : slice_get (inner_nets goes flats k row) m ≡ Some (net_below k y) =
        subst (λ (t : Bool). slice_get (cond t (map (net_below k) (past row.nets (flats row.circuit).nets)) []) m ≡ Some (net_below k y)) (sym h) one in
        let three = piece_at (inner_nets goes flats) x.calls k m row (net_below k y) (call_here c k x row is call) two in
        let four = append_right (indexed own_net x.nets) (pieces (inner_nets goes flats) x.calls) (joined_place (inner_nets goes flats) x.calls k m) (net_below k y) three in
        subst (λ (z : FlatCircuit). slice_get z.nets (far m) ≡ Some (net_below k y)) (sym (flat.each c x is)) four

    pin_there : (n o : ℕ) → slice_get row.nets n ≡ Some o → IsPin g row.circuit n n
    pin_there n o at =
        let d = good.called c k row call in
        let low : n < length d.0.pins = subst (λ (l : ℕ). n < l) d.2 (slice_get_within row.nets n o at) in
        let m = item_at d.0.pins n low in
        let e : m.0 ≡ n = good.pins row.circuit n m.0 (d.0, d.1, m.1) in
        subst (λ (q : ℕ). IsPin g row.circuit n q) e (d.0, d.1, m.1)

    pub inlaid : IsPlacedInside g f v c k row (placing_of goes flats x k row)
    inlaid = record {
      pin = λ p outer inner net pin.
          let e : p ≡ inner = sym (good.pins row.circuit p inner pin) in
          place_pin row.nets far inner outer (subst (λ (q : ℕ). slice_get row.nets q ≡ Some outer) e net);
      net = λ n has.
          let y = net_at row.circuit n has in
          elim (place_cases row.nets (flats row.circuit).nets far n y.0 y.1) [
            | inl (o, at) ↦ inl (n, o, at, pin_there n o at)
            | inr (m, at, e) ↦ inr (
                ap (λ (q : ℕ). net_or (slice_get (flats c).nets q)) e ∙ (ap net_or (inner_at m y.0 at) ∙ ap (λ (z : Option NetAt). below k (net_or z)) (sym y.1)))
          ];
      within = λ n has.
          let y = net_at row.circuit n has in
          elim (place_cases row.nets (flats row.circuit).nets far n y.0 y.1) [
            | inl (o, at) ↦ subst (λ (q : ℕ). HasNet f c q) (sym (place_pin row.nets far n o at)) (own_net_there c o (good.within.calls c k n o row call at)).0
            | inr (m, at, e) ↦ subst (λ (q : ℕ). HasNet f c q) (sym e) (net_there c (far m) x (net_below k y.0) is (inner_at m y.0 at))
          ];
      device = λ j own dev.
          let d = device_at row.circuit j own dev in
          let one = map_to (device_below k to) (flats row.circuit).devices j d.0 d.1 in
          let two : slice_get (inner_devices goes flats x k row) j ≡ Some (device_below k to d.0) =
          subst (λ (t : Bool). slice_get (cond t (map (device_below k to) (flats row.circuit).devices) []) j ≡ Some (device_below k to d.0)) (sym h) one in
          let three = piece_at (inner_devices goes flats x) x.calls k j row (device_below k to d.0) (call_here c k x row is call) two in
          let four = append_right (indexed own_device x.devices) (pieces (inner_devices goes flats x) x.calls) (joined_place (inner_devices goes flats x) x.calls k j) (device_below k to d.0) three in
          let at : slice_get (flats c).devices (over (indexed own_device x.devices) (joined_place (inner_devices goes flats x) x.calls k j)) ≡ Some (device_below k to d.0) =
          subst (λ (z : FlatCircuit). slice_get z.devices (over (indexed own_device x.devices) (joined_place (inner_devices goes flats x) x.calls k j)) ≡ Some (device_below k to d.0)) (sym (flat.each c x is)) four in (
            subst (λ (r : DeviceRow). IsDevice f c (over (indexed own_device x.devices) (joined_place (inner_devices goes flats x) x.calls k j)) (row_over to r)) d.2
                (device_there c (over (indexed own_device x.devices) (joined_place (inner_devices goes flats x) x.calls k j)) x (device_below k to d.0) is at),
            ap device_or at ∙ ap (λ (z : Option DeviceAt). below k (device_or z)) (sym d.1),
          );
      call = λ j own dev.
          let d = call_at row.circuit j own dev in
          let one = map_to (call_below k to) (flats row.circuit).calls j d.0 d.1 in
          let two : slice_get (inner_calls goes flats x k row) j ≡ Some (call_below k to d.0) =
          subst (λ (t : Bool). slice_get (cond t (map (call_below k to) (flats row.circuit).calls) []) j ≡ Some (call_below k to d.0)) (sym h) one in
          let three = piece_at (inner_calls goes flats x) x.calls k j row (call_below k to d.0) (call_here c k x row is call) two in
          let four = append_right (pieces (own_calls goes flats) x.calls) (pieces (inner_calls goes flats x) x.calls) (joined_place (inner_calls goes flats x) x.calls k j) (call_below k to d.0) three in
          let at : slice_get (flats c).calls (over (pieces (own_calls goes flats) x.calls) (joined_place (inner_calls goes flats x) x.calls k j)) ≡ Some (call_below k to d.0) =
          subst (λ (z : FlatCircuit). slice_get z.calls (over (pieces (own_calls goes flats) x.calls) (joined_place (inner_calls goes flats x) x.calls k j)) ≡ Some (call_below k to d.0)) (sym (flat.each c x is)) four in (
            subst (λ (r : CallRow). IsCall f c (over (pieces (own_calls goes flats) x.calls) (joined_place (inner_calls goes flats x) x.calls k j)) (call_through to r)) d.2
                (call_there c (over (pieces (own_calls goes flats) x.calls) (joined_place (inner_calls goes flats x) x.calls k j)) x (call_below k to d.0) is at),
            ap way_or at ∙ ap (λ (z : Option CallAt). k ∷ way_or z) (sym d.1),
          );
    }

  given_pins : (c : ℕ) (x : Circuit) → IsCircuit g c x → (flats c).pins ≡ x.pins
  given_pins c x is = ap (λ (z : FlatCircuit). z.pins) (flat.each c x is)

  stays_there : (c k e : ℕ) (row : CallRow) → IsCall g c k row → v.fate c k ≡ Stays e → IsCall f c e row × (v.way c e ≡ k ∷ [])
  stays_there c k e row call fate =
      let x = call.0 in
      elim (cases_Bool (goes row.circuit)) [
        | inl h ↦ let a = fate_goes c k x row call.1 call h in absurd (let b : Goes (placing_of goes flats x k row) ≡ Stays e = sym a ∙ fate in cc)
        | inr h ↦
            let a = fate_stays c k x row call.1 call h in
            let b : Stays (joined_place (own_calls goes flats) x.calls k 0) ≡ Stays e = sym a ∙ fate in
            let num : joined_place (own_calls goes flats) x.calls k 0 ≡ e = cc in
            let own : CallAt = record { way = k ∷ []; row = row } in
            let one : slice_get (own_calls goes flats k row) 0 ≡ Some own = subst (λ (t : Bool). slice_get (cond t [] (own ∷ [])) 0 ≡ Some own) (sym h) refl in
            let two = piece_at (own_calls goes flats) x.calls k 0 row own call.2 one in
            let three = get_left (pieces (own_calls goes flats) x.calls) (pieces (inner_calls goes flats x) x.calls) (joined_place (own_calls goes flats) x.calls k 0) own two in
            let four : slice_get (flats c).calls (joined_place (own_calls goes flats) x.calls k 0) ≡ Some own =
            subst (λ (z : FlatCircuit). slice_get z.calls (joined_place (own_calls goes flats) x.calls k 0) ≡ Some own) (sym (flat.each c x call.1)) three in
            let at : slice_get (flats c).calls e ≡ Some own = subst (λ (q : ℕ). slice_get (flats c).calls q ≡ Some own) num four in
            (call_there c e x own call.1 at, ap way_or at)
      ]

  goes_there : (c k : ℕ) (i : Placing) (row : CallRow) → IsCall g c k row → v.fate c k ≡ Goes i → IsPlacedInside g f v c k row i
  goes_there c k i row call fate =
      let x = call.0 in
      elim (cases_Bool (goes row.circuit)) [
        | inl h ↦
            let a = fate_goes c k x row call.1 call h in
            let b : Goes (placing_of goes flats x k row) ≡ Goes i = sym a ∙ fate in
            let same : placing_of goes flats x k row ≡ i = cc in
            subst (λ (j : Placing). IsPlacedInside g f v c k row j) same (inlaid c k x row call.1 call h)
        | inr h ↦ let a = fate_stays c k x row call.1 call h in absurd (let b : Stays (joined_place (own_calls goes flats) x.calls k 0) ≡ Goes i = sym a ∙ fate in cc)
      ]

  devices_from : (c j : ℕ) (row : DeviceRow) → IsDevice f c j row → IsDevice g c j row
      ⊎ ((k : ℕ) × (call : CallRow) × (i : Placing) × (m : ℕ) × (own : DeviceRow) × IsCall g c k call × (v.fate c k ≡ Goes i) × IsDevice f call.circuit m own × (i.device m ≡ j))
  devices_from c j row dev =
      let d = device_at c j row dev in
      let b = flat.back c dev.0 dev.1 in
      let x = b.0 in
      let at : slice_get (indexed own_device x.devices ++ pieces (inner_devices goes flats x) x.calls) j ≡ Some d.0 = subst (λ (z : FlatCircuit). slice_get z.devices j ≡ Some d.0) (flat.each c x b.1) d.1 in
      elim (append_cases (indexed own_device x.devices) (pieces (inner_devices goes flats x) x.calls) j d.0 at) [
        | inl own ↦
            let o = indexed_of own_device x.devices j d.0 own in
            let e : o.0 ≡ row = ap (λ (z : DeviceAt). z.row) o.2 ∙ d.2 in
            inl (x, b.1, o.1 ∙ ap (λ (z : DeviceRow). Some z) e)
        | inr (m, low, num) ↦
            let p = piece_of (inner_devices goes flats x) x.calls m d.0 low in
            let call : IsCall g c p.item p.of = (x, b.1, p.is) in
            elim (cases_Bool (goes p.of.circuit)) [
              | inl h ↦
                  let there : slice_get (map (device_below p.item (net_in goes flats x p.item p.of)) (flats p.of.circuit).devices) p.number ≡ Some d.0 =
                  subst (λ (t : Bool). slice_get (cond t (map (device_below p.item (net_in goes flats x p.item p.of)) (flats p.of.circuit).devices) []) p.number ≡ Some d.0) h p.at in
                  let o = map_from (device_below p.item (net_in goes flats x p.item p.of)) (flats p.of.circuit).devices p.number d.0 there in
                  let called = good.called c p.item p.of call in
                  inr (
                    p.item,
                    p.of,
                    placing_of goes flats x p.item p.of,
                    p.number,
                    o.0.row,
                    call,
                    fate_goes c p.item x p.of b.1 call h,
                    device_there p.of.circuit p.number called.0 o.0 called.1 o.1,
                    ap (over (indexed own_device x.devices)) p.there ∙ num,
                  )
              | inr h ↦
                  let none : slice_get [] p.number ≡ Some d.0 =
                  subst (λ (t : Bool). slice_get (cond t (map (device_below p.item (net_in goes flats x p.item p.of)) (flats p.of.circuit).devices) []) p.number ≡ Some d.0) h p.at in
                  absurd cc
            ]
      ]

  one_own : (r y : CallAt) (n : ℕ) → slice_get (r ∷ []) n ≡ Some y → (n ≡ 0) × (r ≡ y)
  one_own r y zero h = let e : Some r ≡ Some y = h in (refl, cc)
  one_own r y (suc n) h = let e : slice_get [] n ≡ Some y = h in absurd cc

  calls_from : (c e : ℕ) (row : CallRow) → IsCall f c e row → ((k : ℕ) × IsCall g c k row × (v.fate c k ≡ Stays e))
      ⊎ ((k : ℕ) × (call : CallRow) × (i : Placing) × (m : ℕ) × (own : CallRow) × IsCall g c k call × (v.fate c k ≡ Goes i) × IsCall f call.circuit m own × (i.call m ≡ e))
  calls_from c j row dev =
      let d = call_at c j row dev in
      let b = flat.back c dev.0 dev.1 in
      let x = b.0 in
      let at : slice_get (pieces (own_calls goes flats) x.calls ++ pieces (inner_calls goes flats x) x.calls) j ≡ Some d.0 = subst (λ (z : FlatCircuit). slice_get z.calls j ≡ Some d.0) (flat.each c x b.1) d.1 in
      elim (append_cases (pieces (own_calls goes flats) x.calls) (pieces (inner_calls goes flats x) x.calls) j d.0 at) [
        | inl own ↦
            let p = piece_of (own_calls goes flats) x.calls j d.0 own in
            let call : IsCall g c p.item p.of = (x, b.1, p.is) in
            let kept : CallAt = record { way = p.item ∷ []; row = p.of } in
            elim (cases_Bool (goes p.of.circuit)) [
              | inl h ↦
                  let none : slice_get [] p.number ≡ Some d.0 = subst (λ (t : Bool). slice_get (cond t [] (kept ∷ [])) p.number ≡ Some d.0) h p.at in
                  absurd cc
              | inr h ↦
                  let there : slice_get (kept ∷ []) p.number ≡ Some d.0 = subst (λ (t : Bool). slice_get (cond t [] (kept ∷ [])) p.number ≡ Some d.0) h p.at in
                  let o = one_own kept d.0 p.number there in
                  let e : p.of ≡ row = ap (λ (z : CallAt). z.row) o.1 ∙ d.2 in
                  let num : joined_place (own_calls goes flats) x.calls p.item 0 ≡ j = ap (joined_place (own_calls goes flats) x.calls p.item) (sym o.0) ∙ p.there in
                  inl (p.item, subst (λ (r : CallRow). IsCall g c p.item r) e call, fate_stays c p.item x p.of b.1 call h ∙ ap Stays num)
            ]
        | inr (m, low, num) ↦
            let p = piece_of (inner_calls goes flats x) x.calls m d.0 low in
            let call : IsCall g c p.item p.of = (x, b.1, p.is) in
            elim (cases_Bool (goes p.of.circuit)) [
              | inl h ↦
                  let there : slice_get (map (call_below p.item (net_in goes flats x p.item p.of)) (flats p.of.circuit).calls) p.number ≡ Some d.0 =
                  subst (λ (t : Bool). slice_get (cond t (map (call_below p.item (net_in goes flats x p.item p.of)) (flats p.of.circuit).calls) []) p.number ≡ Some d.0) h p.at in
                  let o = map_from (call_below p.item (net_in goes flats x p.item p.of)) (flats p.of.circuit).calls p.number d.0 there in
                  let called = good.called c p.item p.of call in
                  inr (
                    p.item,
                    p.of,
                    placing_of goes flats x p.item p.of,
                    p.number,
                    o.0.row,
                    call,
                    fate_goes c p.item x p.of b.1 call h,
                    call_there p.of.circuit p.number called.0 o.0 called.1 o.1,
                    ap (over (pieces (own_calls goes flats) x.calls)) p.there ∙ num,
                  )
              | inr h ↦
                  let none : slice_get [] p.number ≡ Some d.0 =
                  subst (λ (t : Bool). slice_get (cond t (map (call_below p.item (net_in goes flats x p.item p.of)) (flats p.of.circuit).calls) []) p.number ≡ Some d.0) h p.at in
                  absurd cc
            ]
      ]

  pins_same : (c i n : ℕ) → IsPin g c i n ↔ IsPin f c i n
  pins_same c i n = (
    (λ h. (plain (flats c), flat.there c h.0 h.1, subst (λ (ps : List ℕ). slice_get ps i ≡ Some n) (sym (given_pins c h.0 h.1)) h.2)),
    (λ h.
        let b = flat.back c h.0 h.1 in
        let at : slice_get (flats c).pins i ≡ Some n = subst (λ (z : Circuit). slice_get z.pins i ≡ Some n) (flat_is c h.0 h.1) h.2 in
        (b.0, b.1, subst (λ (ps : List ℕ). slice_get ps i ≡ Some n) (given_pins c b.0 b.1) at)),
  )

  each : (c : ℕ) → IsInlined g f v c
  each c = record {
    pins = pins_same c;
    target = λ k row call. ap (λ (r : CallRow). r.circuit) (row_is c k row call);
    onward = λ e row call. let d = call_at c e row call in ap onward_or d.1 ∙ ap (λ (r : CallRow). r.circuit) d.2;
    net = own_net_there c;
    device = λ j row dev.
        let x = dev.0 in
        let own = get_left (indexed own_device x.devices) (pieces (inner_devices goes flats x) x.calls) j (own_device j row) (indexed_at own_device x.devices j row dev.2) in
        let at : slice_get (flats c).devices j ≡ Some (own_device j row) = subst (λ (z : FlatCircuit). slice_get z.devices j ≡ Some (own_device j row)) (sym (flat.each c x dev.1)) own in
        (device_there c j x (own_device j row) dev.1 at, ap device_or at);
    stays = stays_there c;
    goes = goes_there c;
    devices = devices_from c;
    calls = calls_from c;
  }

  calls_within : (h c e p n : ℕ) (row : CallRow) → height c < h → IsCall f c e row → slice_get row.nets p ≡ Some n → HasNet f c n
  calls_within zero c e p n row low call net = absurd (let l = low in omega arith)
  calls_within (suc h) c e p n row low call net = elim (calls_from c e row call) [
    | inl (k, given, fate) ↦ (own_net_there c n (good.within.calls c k p n row given net)).0
    | inr (k, given, i, m, own, is, fate, deep, num) ↦
        let inlaid = goes_there c k i given is fate in
        let there = inlaid.call m own deep in
        let one : call_through i.net own ≡ row = one_call f c e (call_through i.net own) row (subst (λ (n : ℕ). IsCall f c n (call_through i.net own)) num there.0) call in
        let b = map_from i.net own.nets p n (subst (λ (r : CallRow). slice_get r.nets p ≡ Some n) (sym one) net) in
        let lower = good.lower c k given is in
        let deeper : height given.circuit < h = let a = low in omega arith in
        subst (λ (q : ℕ). HasNet f c q) b.2 (inlaid.within b.0 (calls_within h given.circuit m p b.0 own deeper deep b.1))
  ]

  devices_within : (h c j n : ℕ) (row : DeviceRow) → height c < h → IsDevice f c j row → IsListed n (terminal_nets row) → HasNet f c n
  devices_within zero c j n row low dev on = absurd (let l = low in omega arith)
  devices_within (suc h) c j n row low dev on = elim (devices_from c j row dev) [
    | inl given ↦ (own_net_there c n (good.within.devices c j n row given on)).0
    | inr (k, given, i, m, own, is, fate, deep, num) ↦
        let inlaid = goes_there c k i given is fate in
        let there = inlaid.device m own deep in
        let one : row_over i.net own ≡ row = one_row f c j (row_over i.net own) row (subst (λ (n : ℕ). IsDevice f c n (row_over i.net own)) num there.0) dev in
        let lower = good.lower c k given is in
        let deeper : height given.circuit < h = let a = low in omega arith in
        let b = terminal_over i.net own n (subst (λ (r : DeviceRow). IsListed n (terminal_nets r)) (sym one) on) in
        subst (λ (q : ℕ). HasNet f c q) (sym b.2) (inlaid.within b.0 (devices_within h given.circuit m b.0 own deeper deep b.1))
  ]

  pub are_inlined : AreInlined g f v height
  are_inlined = record {
    each = each;
    lower = good.lower;
    within = good.within;
    flat_within = record {
      pins = λ c i n pin. (own_net_there c n (good.within.pins c i n ((pins_same c i n).1 pin))).0;
      calls = λ c k p n row call net. calls_within (suc (height c)) c k p n row (omega arith) call net;
      devices = λ c j n row dev on. devices_within (suc (height c)) c j n row (omega arith) dev on;
    };
  }

pub listed : ListLaw
listed g f goes flats height good flat = are_inlined g f goes flats height good flat
