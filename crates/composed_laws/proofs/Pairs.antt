-- A match of each pair names pairs that are one to one and onto, so both netlists expand to the same.
use Rattle.std.proofs.Common.{◌≡◌, inl, inr, ℕ, suc, ◌<◌, false, List, [], ◌∷◌, length, slice_index, Option, Some, slice_get, refl, sym, ◌∙◌, ap, subst, arith}
use Rattle.base_laws.proofs.Items.{item_at}
use Rattle.std.proofs.lemmas.Option.{same_Some, slice_get_within, slice_get-get_or, get_or_from_slice_get}
use Rattle.plain_netlist.specs.Lists.{IsListed}
use Rattle.plain_netlist.specs.Netlist.{DeviceRow, CallRow, Circuit, Netlist, IsCircuit, IsCall, IsDevice, HasNet, HasDevice, Slot, slot}
use Rattle.plain_netlist.proofs.Members.{listed}
use Rattle.plain_netlist.proofs.Once.{one_circuit}
use Rattle.match_laws.specs.Circuits.{Pairing, IsOneToOne, IsCorrespondence, IsDeviceImage}
use Rattle.match_laws.proofs.Sums.{index_below, index_one, index_found}
use Rattle.composed_laws.specs.Paired.{IsImaged, IsPaired, IsWholeMatch}
use Rattle.plain_netlist.specs.Devices.{Row, AreRowsAlike}
use Rattle.plain_netlist.proofs.Rows.{rows_where, rows_over}
use Rattle.plain_netlist.specs.Flats.{Corresponds, row_at, expanded}
use Rattle.composed_laws.specs.Composed.{IsMatch, IsComparable, IsNetPair, IsDevicePair, IsCallPair, AreDevicesPaired, AreNetsPaired, WholeMatchLaw, MatchCorrespondsLaw}
use Rattle.composed_laws.proofs.Slots.{whole}

at_listed : (x : ℕ) (xs : List ℕ) → IsListed x xs → (i : ℕ) × (slice_get xs i ≡ Some x)
at_listed x [] h = absurd h
at_listed x (y ∷ ys) (inl e) = (0, ap Some (sym e))
at_listed x (y ∷ ys) (inr h) = let f = at_listed x ys h in (suc f.0, f.1)

-- an entry of a list of numbers
entry : (xs : List ℕ) (i : ℕ) → i < length xs → slice_get xs i ≡ Some (slice_index xs i)
entry xs i h = slice_get-get_or xs i 0 h

entry_is : (xs : List ℕ) (i x : ℕ) → slice_get xs i ≡ Some x → slice_index xs i ≡ x
entry_is xs i x h = get_or_from_slice_get xs i x 0 h

-- pairs named by a list that is one to one
list_one : (xs : List ℕ) (m n a b e : ℕ) → IsOneToOne xs m n → slice_get xs b ≡ Some a → slice_get xs e ≡ Some a → b ≡ e
list_one xs m n a b e one h g =
    let c = one.count in
    let low = slice_get_within xs b a h in
    let also = slice_get_within xs e a g in
    index_one xs m n b e one (omega arith) (omega arith) (entry_is xs b a h ∙ sym (entry_is xs e a g))

list_there : (xs : List ℕ) (m n a : ℕ) → IsOneToOne xs m n → a < m → slice_get xs a ≡ Some (slice_index xs a)
list_there xs m n a one h = let c = one.count in entry xs a (omega arith)

module _ (left right : Netlist) (children : ℕ → Option (List ℕ)) (m : ℕ → Pairing) (match : IsMatch left right children m) (sl : IsComparable left children) (sr : IsComparable right children) where
  abbrev Net : ℕ → ℕ → ℕ → Type 0
  Net = IsNetPair left m

  abbrev Device : ℕ → ℕ → ℕ → Type 0
  Device = IsDevicePair left m

  abbrev Call : ℕ → ℕ → ℕ → Type 0
  Call = IsCallPair left m

  pair_at : (c : ℕ) (x : Circuit) → IsCircuit left c x → (y : Circuit) × IsCircuit right c y × IsCorrespondence (record { left = x; right = y; children = children; told = false }) (m c)
  pair_at c x is = let y = match.there c x is in (y.0, y.1, match.each c x y.0 is y.1)

  pair_back : (c : ℕ) (y : Circuit) → IsCircuit right c y → (x : Circuit) × IsCircuit left c x × IsCorrespondence (record { left = x; right = y; children = children; told = false }) (m c)
  pair_back c y is = let x = match.back c y is in (x.0, x.1, match.each c x.0 y x.1 is)

  -- the nets of one circuit
  net_pair : (c a : ℕ) (x : Circuit) → IsCircuit left c x → a < length x.nets → Net c a (slice_index (m c).nets a)
  net_pair c a x is low = let p = pair_at c x is in (x, is, list_there (m c).nets _ _ a p.2.nets low)

  net_low : (c : ℕ) (x : Circuit) (a : ℕ) → IsCircuit left c x → HasNet left c a → a < length x.nets
  net_low c x a is h = subst (λ (z : Circuit). a < length z.nets) (one_circuit left c h.0 x h.1 is) h.2

  rows_paired : (c : ℕ) (x : Circuit) (d e : DeviceRow) (j : ℕ) → IsCircuit left c x → IsDevice left c j d → IsDeviceImage (m c).nets d e → AreRowsAlike (Net c) d e
  rows_paired c x d e j is at i = rows_where (λ n b. slice_index (m c).nets n ≡ b) (Net c) d e
      (λ n b on q. subst (λ (k : ℕ). Net c n k) q (net_pair c n x is (net_low c x n is (sl.within.devices c j n d at on)))) i

  devices : (c i : ℕ) (row : DeviceRow) → IsDevice left c i row → (j : ℕ) × (other : DeviceRow) × Device c i j × IsDevice right c j other × AreRowsAlike (Net c) row other
  devices c i row (x, is, at) =
      let p = pair_at c x is in
      let low = slice_get_within x.devices i row at in
      let j : ℕ = slice_index (m c).devices i in
      let e = item_at p.0.devices j (index_below (m c).devices _ _ i p.2.devices low) in
      (j, e.0, (x, is, list_there (m c).devices _ _ i p.2.devices low), (p.0, p.1, e.1), rows_paired c x row e.0 i is (x, is, at) (p.2.device i row e.0 at e.1))

  devices_back : (c j : ℕ) (other : DeviceRow) → IsDevice right c j other → (i : ℕ) × (row : DeviceRow) × Device c i j × IsDevice left c i row × AreRowsAlike (Net c) row other
  devices_back c j other (y, is, at) =
      let p = pair_back c y is in
      let i = index_found (m c).devices _ _ j p.2.devices (slice_get_within y.devices j other at) in
      let d = item_at p.0.devices i.0 i.1 in (
        i.0,
        d.0,
        (p.0, p.1, list_there (m c).devices _ _ i.0 p.2.devices i.1 ∙ ap Some i.2),
        (p.0, p.1, d.1),
        rows_paired c p.0 d.0 other i.0 p.1 (p.0, p.1, d.1) (p.2.device i.0 d.0 other d.1 (ap (slice_get y.devices) i.2 ∙ at)),
      )

  -- a call's image, and the nets at its pins
  calls : (c k : ℕ) (row : CallRow) → IsCall left c k row → IsImaged left right Net Call c k row
  calls c k row (x, is, at) =
      let p = pair_at c x is in
      let low = slice_get_within x.calls k row at in
      let j : ℕ = slice_index (m c).calls k in
      let e = item_at p.0.calls j (index_below (m c).calls _ _ k p.2.calls low) in
      let i = p.2.call k row e.0 at e.1 in (
        j,
        e.0,
        (x, is, list_there (m c).calls _ _ k p.2.calls low),
        (p.0, p.1, e.1),
        sym i.pair,
        λ called n a q circuit outer pin.
            let d = match.there row.circuit called circuit in
            let right_is : IsCircuit right e.0.circuit d.0 = subst (λ (z : ℕ). IsCircuit right z d.0) i.pair d.1 in
            let n_low : n < length row.nets = slice_get_within row.nets n a outer in
            let h : ℕ = slice_index i.pins n in
            let h_low : h < length row.nets = index_below i.pins _ _ n (sl.lists c k row i.pins (x, is, at) i.matched) n_low in
            let count = i.count in
            let under = sr.called c j e.0 (p.0, p.1, e.1) in
            let same : under.0 ≡ d.0 = one_circuit right e.0.circuit under.0 d.0 under.1 right_is in
            let long : length e.0.nets ≡ length d.0.pins = under.2 ∙ ap (λ (z : Circuit). length z.pins) same in
            let a_low : a < length x.nets = net_low c x a is (sl.within.calls c k n a row (x, is, at) outer) in
            let outer_is : slice_index (m c).nets a ≡ slice_index e.0.nets h = ap (slice_index (m c).nets) (sym (entry_is row.nets n a outer)) ∙ i.at n n_low in
            let q_low = slice_get_within called.pins n q pin in
            let q_net : q < length called.nets = net_low row.circuit called q circuit (sl.within.pins row.circuit n q (called, circuit, pin)) in
            let inner_is : slice_index (m row.circuit).nets q ≡ slice_index d.0.pins h
            = ap (slice_index (m row.circuit).nets) (sym (entry_is called.pins n q pin)) ∙ match.pins row.circuit called d.0 i.pins circuit d.1 i.matched n q_low in (
              d.0,
              h,
              slice_index (m c).nets a,
              slice_index (m row.circuit).nets q,
              right_is,
              entry e.0.nets h (omega arith) ∙ ap Some (sym outer_is),
              entry d.0.pins h (omega arith) ∙ ap Some (sym inner_is),
              net_pair c a x is a_low,
              net_pair row.circuit q called circuit q_net,
            ),
      )

  calls_back : (c k : ℕ) (row : CallRow) → IsCall right c k row → IsImaged right left (λ n b a. Net n a b) (λ n b a. Call n a b) c k row
  calls_back c k row (y, is, at) =
      let p = pair_back c y is in
      let j = index_found (m c).calls _ _ k p.2.calls (slice_get_within y.calls k row at) in
      let d = item_at p.0.calls j.0 j.1 in
      let i = p.2.call j.0 d.0 row d.1 (ap (slice_get y.calls) j.2 ∙ at) in (
        j.0,
        d.0,
        (p.0, p.1, list_there (m c).calls _ _ j.0 p.2.calls j.1 ∙ ap Some j.2),
        (p.0, p.1, d.1),
        i.pair,
        λ called n b q circuit outer pin.
            let l = match.back row.circuit called circuit in
            let left_is : IsCircuit left d.0.circuit l.0 = subst (λ (z : ℕ). IsCircuit left z l.0) (sym i.pair) l.1 in
            let right_is : IsCircuit right d.0.circuit called = subst (λ (z : ℕ). IsCircuit right z called) (sym i.pair) circuit in
            let n_low = slice_get_within row.nets n b outer in
            let count = i.count in
            let h = index_found i.pins _ _ n (sl.lists c j.0 d.0 i.pins (p.0, p.1, d.1) i.matched) (omega arith) in
            let h_low = h.1 in
            let under = sl.called c j.0 d.0 (p.0, p.1, d.1) in
            let same : under.0 ≡ l.0 = one_circuit left d.0.circuit under.0 l.0 under.1 left_is in
            let long : length d.0.nets ≡ length l.0.pins = under.2 ∙ ap (λ (z : Circuit). length z.pins) same in
            let a : ℕ = slice_index d.0.nets h.0 in
            let a_at : slice_get d.0.nets h.0 ≡ Some a = entry d.0.nets h.0 h.1 in
            let a_low : a < length p.0.nets = net_low c p.0 a p.1 (sl.within.calls c j.0 h.0 a d.0 (p.0, p.1, d.1) a_at) in
            let outer_is : slice_index (m c).nets a ≡ b = i.at h.0 h.1 ∙ (ap (slice_index row.nets) h.2 ∙ entry_is row.nets n b outer) in
            let o : ℕ = slice_index l.0.pins h.0 in
            let pin_low : h.0 < length l.0.pins = omega arith in
            let o_at : slice_get l.0.pins h.0 ≡ Some o = entry l.0.pins h.0 pin_low in
            let o_low : o < length l.0.nets = net_low d.0.circuit l.0 o left_is (sl.within.pins d.0.circuit h.0 o (l.0, left_is, o_at)) in
            let inner_is : slice_index (m d.0.circuit).nets o ≡ q
            = match.pins d.0.circuit l.0 called i.pins left_is right_is i.matched h.0 pin_low ∙ (ap (slice_index called.pins) h.2 ∙ entry_is called.pins n q pin) in
            let inner_pair : Net d.0.circuit o q = subst (λ (z : ℕ). Net d.0.circuit o z) inner_is (net_pair d.0.circuit o l.0 left_is o_low) in (
              l.0,
              h.0,
              a,
              o,
              left_is,
              a_at,
              o_at,
              subst (λ (z : ℕ). Net c a z) outer_is (net_pair c a p.0 p.1 a_low),
              subst (λ (z : ℕ). Net z o q) i.pair inner_pair,
            ),
      )

  one : (c a b e : ℕ) (list : Pairing → List ℕ) → ((x : Circuit) × IsCircuit left c x × (slice_get (list (m c)) a ≡ Some b)) → ((x : Circuit) × IsCircuit left c x × (slice_get (list (m c)) a ≡ Some e)) → b ≡ e
  one c a b e list h g = same_Some _ _ (sym h.2 ∙ g.2)

  pub paired : (c : ℕ) → IsPaired left right Net Device Call c
  paired c = record {
    net_one = λ a b e h g. one c a b e (λ x. x.nets) h g;
    net_one_back = λ a b e h g. let p = pair_at c h.0 h.1 in list_one (m c).nets _ _ a b e p.2.nets h.2 g.2;
    device_one = λ a b e h g. one c a b e (λ x. x.devices) h g;
    device_one_back = λ a b e h g. let p = pair_at c h.0 h.1 in list_one (m c).devices _ _ a b e p.2.devices h.2 g.2;
    call_one = λ a b e h g. one c a b e (λ x. x.calls) h g;
    call_one_back = λ a b e h g. let p = pair_at c h.0 h.1 in list_one (m c).calls _ _ a b e p.2.calls h.2 g.2;
    nets = λ a h. let p = pair_at c h.0 h.1 in (slice_index (m c).nets a, net_pair c a h.0 h.1 h.2, (p.0, p.1, index_below (m c).nets _ _ a p.2.nets h.2));
    nets_back = λ b h.
        let p = pair_back c h.0 h.1 in
        let f = index_found (m c).nets _ _ b p.2.nets h.2 in
        (f.0, (p.0, p.1, list_there (m c).nets _ _ f.0 p.2.nets f.1 ∙ ap Some f.2), (p.0, p.1, f.1));
    pins = λ i a h.
        let p = pair_at c h.0 h.1 in
        let low : a < length h.0.nets = net_low c h.0 a h.1 (sl.within.pins c i a h) in
        let f = at_listed (slice_index (m c).nets a) p.0.pins ((p.2.pin a low).0 (listed h.0.pins i a h.2)) in
        (f.0, slice_index (m c).nets a, net_pair c a h.0 h.1 low, (p.0, p.1, f.1));
    pins_back = λ j b h.
        let p = pair_back c h.0 h.1 in
        let there = sr.within.pins c j b h in
        let low : b < length h.0.nets = subst (λ (z : Circuit). b < length z.nets) (one_circuit right c there.0 h.0 there.1 h.1) there.2 in
        let a = index_found (m c).nets _ _ b p.2.nets low in
        let f = at_listed a.0 p.0.pins ((p.2.pin a.0 a.1).1 (subst (λ (z : ℕ). IsListed z h.0.pins) (sym a.2) (listed h.0.pins j b h.2))) in
        (f.0, a.0, (p.0, p.1, list_there (m c).nets _ _ a.0 p.2.nets a.1 ∙ ap Some a.2), (p.0, p.1, f.1));
    calls = calls c;
    calls_back = calls_back c;
    devices = devices c;
    devices_back = devices_back c;
  }

  pub composed_match : (top : ℕ) → IsWholeMatch left right Net Device Call top
  composed_match top = whole left right Net Device Call paired top

  abbrev D : ℕ → Slot → Slot → Type 0
  D top = AreDevicesPaired left m top

  abbrev N : ℕ → Slot → Slot → Type 0
  N top = AreNetsPaired left m top

  alike : (top : ℕ) (a x : Slot) (row other : DeviceRow) → AreRowsAlike (λ i j. N top (slot a.path i) (slot x.path j)) row other → AreRowsAlike (N top) (row_at a.path row) (row_at x.path other)
  alike top a x row other h = rows_over (λ i j. N top (slot a.path i) (slot x.path j)) (N top) (slot a.path) (slot x.path) (λ n m k. k) row other h

  there : (top : ℕ) (a : Slot) (r : Row Slot) (row : DeviceRow) → r ≡ row_at a.path row
      → (x : Slot) × (other : DeviceRow) × HasDevice right top x.path x.net other × D top a x × AreRowsAlike (λ i j. N top (slot a.path i) (slot x.path j)) row other
      → (x : Slot) × (s : Row Slot) × (expanded right top).has_device x s × D top a x × AreRowsAlike (N top) r s
  there top a r row e (x, other, has, pair, rows) = (x, row_at x.path other, (other, has, refl), pair, subst (λ (y : Row Slot). AreRowsAlike (N top) y (row_at x.path other)) (sym e) (alike top a x row other rows))

  back : (top : ℕ) (x : Slot) (s : Row Slot) (other : DeviceRow) → s ≡ row_at x.path other
      → (a : Slot) × (row : DeviceRow) × HasDevice left top a.path a.net row × D top a x × AreRowsAlike (λ i j. N top (slot a.path i) (slot x.path j)) row other
      → (a : Slot) × (r : Row Slot) × (expanded left top).has_device a r × D top a x × AreRowsAlike (N top) r s
  back top x s other e (a, row, has, pair, rows) = (a, row_at a.path row, (row, has, refl), pair, subst (λ (y : Row Slot). AreRowsAlike (N top) (row_at a.path row) y) (sym e) (alike top a x row other rows))

  pub composed : (top : ℕ) → Corresponds (expanded left top) (expanded right top) (AreDevicesPaired left m top) (AreNetsPaired left m top)
  composed top =
      let w = composed_match top in
      record {
        there = λ a r (row, has, e). there top a r row e (w.devices a row has);
        back = λ x r (row, has, e). back top x r row e (w.devices_back x row has);
        devices = λ a b x y p q. ((λ e. w.device_one b x y (subst (λ (z : Slot). AreDevicesPaired left m top z x) e p) q), (λ e. w.device_one_back a b y (subst (λ (z : Slot). AreDevicesPaired left m top a z) e p) q));
        nets = w.nets;
        pins = λ a x p. (
          (λ h. let f = (paired top).pins h.0 h.1 h.2 in (f.0, f.1, f.3, (w.nets a (slot [] h.1) x (slot [] f.1) p f.2).0 h.3)),
          (λ h. let f = (paired top).pins_back h.0 h.1 h.2 in (f.0, f.1, f.3, (w.nets a (slot [] f.1) x (slot [] h.1) p f.2).1 h.3)),
        );
      }

pub whole_match : WholeMatchLaw
whole_match left right children m match sl sr top = composed_match left right children m match sl sr top

pub composes : MatchCorrespondsLaw
composes left right children m match sl sr top = composed left right children m match sl sr top
