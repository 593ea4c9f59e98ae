-- Devices of a flat circuit are those at the ends of inner paths.
use Rattle.std.proofs.Common.{◌≡◌, inl, inr, ℕ, zero, suc, ◌<◌, List, [], ◌∷◌, refl, sym, ◌∙◌, ap, subst, arith}
use Rattle.plain_netlist.proofs.Once.{one_call}
use Rattle.plain_netlist.specs.Netlist.{DeviceRow, CallRow, Netlist, IsDevice, Slot, HasDevice, slot}
use Rattle.plain_netlist.specs.Devices.{row_over}
use Rattle.align_laws.specs.Flat.{CallFate, Goes, Maps, below, step, image, placed_device, device_image, AreInlined}
use Rattle.align_laws.specs.Words.{IsInside, AreDevicesInside, InsideLaw}

module _ (g f : Netlist) (v : Maps) (height : ℕ → ℕ) (are : AreInlined g f v height) where
  record Item (c j : ℕ) (s : Slot) : Type 0 where
    inside : IsInside g v c s.path
    own : DeviceRow
    has : HasDevice g c s.path s.net own
    is : device_image v c s.path s.net ≡ slot [] j

  item : (h c j : ℕ) (row : DeviceRow) → height c < h → IsDevice f c j row → Item c j (v.device_from c j)
  item zero c j row low dev = absurd (let l = low in omega arith)
  item (suc h) c j row low dev = elim ((are.each c).devices j row dev) [
    | inl given ↦
        let own : Item c j (slot [] j) = record { inside = tt; own = row; has = given; is = refl } in
        subst (λ (s : Slot). Item c j s) (sym ((are.each c).device j row given).1) own
    | inr (k, call, i, m, own, is, fate, deep, num) ↦
        let lower = are.lower c k call is in
        let deeper : height call.circuit < h = let a = low in omega arith in
        let target = (are.each c).target k call is in
        let from = (((are.each c).goes k i call is fate).device m own deep).1 in
        let r = item h call.circuit m own deeper deep in
        let s = v.device_from call.circuit m in
        let up : Item c (i.device m) (below k s) = record {
          inside = (call, is, i, fate, r.inside);
          own = r.own;
          has = (call, is, r.has);
          is = ap (λ (x : CallFate). step placed_device x (image v placed_device (v.target c k) s.path s.net)) fate
              ∙ (ap (λ (t : ℕ). step placed_device (Goes i) (image v placed_device t s.path s.net)) target ∙ ap (step placed_device (Goes i)) r.is);
        } in
        subst (λ (n : ℕ). Item c n (v.device_from c n)) num (subst (λ (s : Slot). Item c (i.device m) s) (sym from) up)
  ]

  found : (path : List ℕ) (c j : ℕ) (own : DeviceRow) → IsInside g v c path → HasDevice g c path j own → (m : ℕ) × (row : DeviceRow) × IsDevice f c m row × (v.device_from c m ≡ slot path j)
  found [] c j own inside h = let d = (are.each c).device j own h in (j, own, d.0, d.1)
  found (k ∷ ks) c j own (row, call, i, fate, inside) (row', call', h) =
      let inlaid = (are.each c).goes k i row' call' (fate) in
      let one : row ≡ row' = let a = call in let b = call' in one_call g c k row row' a b in
      let r = found ks row'.circuit j own (subst (λ (x : CallRow). IsInside g v x.circuit ks) one inside) h in
      let d = inlaid.device r.0 r.1 r.2 in
      (i.device r.0, row_over i.net r.1, d.0, d.1 ∙ ap (below k) r.3)

  pub inside : (c : ℕ) → AreDevicesInside g f v c
  inside c = record {
    each = λ j row dev. let r = item (suc (height c)) c j row (omega arith) dev in (r.inside, (r.own, r.has));
    found = λ path j own inner h. found path c j own inner h;
    once = λ i j a b x y e.
        let r = item (suc (height c)) c i a (omega arith) x in
        let s = item (suc (height c)) c j b (omega arith) y in
        ap (λ (z : Slot). z.net) (sym r.is ∙ (ap (λ (z : Slot). device_image v c z.path z.net) e ∙ s.is));
  }

pub insides : InsideLaw
insides g f v height are c = inside g f v height are c
