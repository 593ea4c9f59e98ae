-- Pairs of each circuit compose to pairs of what two netlists expand to.
use Rattle.std.proofs.Common.{◌≡◌, ◌↔◌, inl, inr, ℕ, List, [], ◌∷◌, ◌++◌, Some, slice_get, refl, sym, ap, ap₂, subst}
use Rattle.plain_netlist.specs.Chains.{IsChain}
use Rattle.plain_netlist.specs.Devices.{AreRowsAlike}
use Rattle.plain_netlist.proofs.Rows.{rows_wider}
use Rattle.plain_netlist.specs.Netlist.{DeviceRow, CallRow, Netlist, IsCall, Slot, slot, Joins, IsEitherJoin, InOneNet, HasDevice, IsSlot}
use Rattle.plain_netlist.proofs.Once.{one_call}
use Rattle.plain_netlist.proofs.Links.{stays, prepend}
use Rattle.composed_laws.specs.Paired.{IsImaged, IsPaired, IsSlotPair, ArePaired, IsWholeMatch}

pub slot_is : (s t : Slot) → s.path ≡ t.path → s.net ≡ t.net → s ≡ t
slot_is s t p n = ap₂ (λ (q : List ℕ) (m : ℕ). slot q m) p n

-- a net or a device below a path has one image
slot_one : (l : Netlist) (X call : ℕ → ℕ → ℕ → Type 0) → ((c a b e : ℕ) → X c a b → X c a e → b ≡ e) → ((c a b e : ℕ) → call c a b → call c a e → b ≡ e)
    → (path xs ys : List ℕ) (c a b e : ℕ) → IsSlotPair l X call c path a xs b → IsSlotPair l X call c path a ys e → (xs ≡ ys) × (b ≡ e)
slot_one l X call x_one call_one [] [] [] c a b e h g = (refl, x_one c a b e h g)
slot_one l X call x_one call_one [] [] (y ∷ ys) c a b e h g = absurd g
slot_one l X call x_one call_one [] (x ∷ xs) ys c a b e h g = absurd h
slot_one l X call x_one call_one (k ∷ ks) [] ys c a b e h g = absurd h
slot_one l X call x_one call_one (k ∷ ks) (x ∷ xs) [] c a b e h g = absurd g
slot_one l X call x_one call_one (k ∷ ks) (x ∷ xs) (y ∷ ys) c a b e (row, is, pair, below) (row', is', pair', below') =
    let one : row' ≡ row = one_call l c k row' row is' is in
    let first : x ≡ y = call_one c k x y pair pair' in
    let f = slot_one l X call x_one call_one ks xs ys row.circuit a b e below (subst (λ (v : CallRow). IsSlotPair l X call v.circuit ks a ys e) one below') in
    let tail : xs ≡ ys = f.0 in
    (cc, f.1)

module _ (l r : Netlist) (net call : ℕ → ℕ → ℕ → Type 0) (net_one : (c a b e : ℕ) → net c a b → net c a e → b ≡ e) (call_one : (c a b e : ℕ) → call c a b → call c a e → b ≡ e)
    (calls : (c k : ℕ) (row : CallRow) → IsCall l c k row → IsImaged l r net call c k row) where
  abbrev P : ℕ → List ℕ → ℕ → List ℕ → ℕ → Type 0
  P = IsSlotPair l net call

  join_on : (path es : List ℕ) (c a k inner b : ℕ) → Joins l c path a k inner → P c path a es b → (e : ℕ) × (q : ℕ) × Joins r c es b e q × P c (path ++ k ∷ []) inner (es ++ e ∷ []) q
  join_on [] [] c a k inner b (row, is, called, at, i, outer, pin) h =
      let m = calls c k row is in
      let f = m.5 called i a inner at outer pin in
      let same : f.2 ≡ b = net_one c a f.2 b f.7 h in
      (m.0, f.3, (m.1, m.3, f.0, f.4, f.1, subst (λ n. slice_get m.1.nets f.1 ≡ Some n) same f.5, f.6), (row, is, m.2, f.8))
  join_on [] (e ∷ es) c a k inner b g h = absurd h
  join_on (j ∷ js) [] c a k inner b g h = absurd h
  join_on (j ∷ js) (x ∷ xs) c a k inner b (row, is, rest) (row', is', pair, below) =
      let one : row' ≡ row = one_call l c j row' row is' is in
      let m = calls c j row is in
      let image : m.0 ≡ x = call_one c j m.0 x m.2 pair in
      let down : P row.circuit js a xs b = subst (λ (v : CallRow). P v.circuit js a xs b) one below in
      let f = join_on js xs row.circuit a k inner b rest down in (
        f.0,
        f.1,
        (m.1, subst (λ n. IsCall r c n m.1) image m.3, subst (λ n. Joins r n xs b f.0 f.1) (sym m.4) f.2),
        (row, is, pair, f.3),
      )

  join_up : (path es : List ℕ) (c a k inner q : ℕ) → Joins l c path a k inner → P c (path ++ k ∷ []) inner es q → (xs : List ℕ) × (e : ℕ) × (b : ℕ) × (xs ++ e ∷ [] ≡ es) × P c path a xs b × Joins r c xs b e q
  join_up [] [] c a k inner q g h = absurd h
  join_up [] (x ∷ []) c a k inner q (row, is, called, at, i, outer, pin) (row', is', pair, below) =
      let one : row' ≡ row = one_call l c k row' row is' is in
      let m = calls c k row is in
      let image : m.0 ≡ x = call_one c k m.0 x m.2 pair in
      let f = m.5 called i a inner at outer pin in
      let down : net row.circuit inner q = subst (λ (v : CallRow). net v.circuit inner q) one below in
      let same : f.3 ≡ q = net_one row.circuit inner f.3 q f.8 down in
      ([], x, f.2, refl, f.7, (m.1, subst (λ n. IsCall r c n m.1) image m.3, f.0, f.4, f.1, f.5, subst (λ n. slice_get f.0.pins f.1 ≡ Some n) same f.6))
  join_up [] (x ∷ (y ∷ ys)) c a k inner q g (row', is', pair, below) = absurd below
  join_up (j ∷ js) [] c a k inner q g h = absurd h
  join_up (j ∷ js) (x ∷ xs) c a k inner q (row, is, rest) (row', is', pair, below) =
      let one : row' ≡ row = one_call l c j row' row is' is in
      let m = calls c j row is in
      let image : m.0 ≡ x = call_one c j m.0 x m.2 pair in
      let down = subst (λ (v : CallRow). P v.circuit (js ++ k ∷ []) inner xs q) one below in
      let f = join_up js xs row.circuit a k inner q rest down in (
        x ∷ f.0,
        f.1,
        f.2,
        ap (λ (n : List ℕ). x ∷ n) f.3,
        (row, is, pair, f.4),
        (m.1, subst (λ n. IsCall r c n m.1) image m.3, subst (λ n. Joins r n f.0 f.2 f.1 q) (sym m.4) f.5),
      )

  abbrev S : ℕ → Slot → Slot → Type 0
  S c s t = P c s.path s.net t.path t.net

  step : (c : ℕ) (a b x : Slot) → IsEitherJoin l c a b → S c a x → (y : Slot) × IsEitherJoin r c x y × S c b y
  step c a b x (inl h) pair =
      let f = join_on a.path x.path c a.net h.number b.net x.net h.joins pair in
      let y : Slot = slot (x.path ++ f.0 ∷ []) f.1 in
      (y, inl (record { number = f.0; deeper = refl; joins = f.2 }), subst (λ path. P c path b.net (x.path ++ f.0 ∷ []) f.1) h.deeper f.3)
  step c a b x (inr h) pair =
      let at = subst (λ path. P c path a.net x.path x.net) (sym h.deeper) pair in
      let f = join_up b.path x.path c b.net h.number a.net x.net h.joins at in
      let y : Slot = slot f.0 f.2 in
      (y, inr (record { number = f.1; deeper = f.3; joins = f.5 }), f.4)

  chain : (c : ℕ) (a b x : Slot) (via : List Slot) → IsChain (IsEitherJoin l c) a via b → S c a x → (y : Slot) × InOneNet r c x y × S c b y
  chain c a b x [] h pair = (x, stays (IsEitherJoin r c) x x refl, subst (λ s. S c s x) h pair)
  chain c a b x (s ∷ ss) h pair =
      let f = step c a s x h.0 pair in
      let rest = chain c s b f.0 ss h.1 f.2 in
      (rest.0, prepend (IsEitherJoin r c) x f.0 rest.0 f.1 rest.1, rest.2)

  pub one_net : (c : ℕ) (a b x y : Slot) → S c a x → S c b y → InOneNet l c a b → InOneNet r c x y
  one_net c a b x y h g way =
      let f = chain c a b x way.via way.chain h in
      let same = slot_one l net call net_one call_one b.path f.0.path y.path c b.net f.0.net y.net f.2 g in
      subst (λ s. InOneNet r c x s) (slot_is f.0 y same.0 same.1) f.1

  -- the same pairs, seen from the other side
  pub turned : (X : ℕ → ℕ → ℕ → Type 0) (path es : List ℕ) (c a b : ℕ) → IsSlotPair l X call c path a es b → IsSlotPair r (λ n u v. X n v u) (λ n u v. call n v u) c es b path a
  turned X [] [] c a b h = h
  turned X [] (e ∷ es) c a b h = absurd h
  turned X (k ∷ ks) [] c a b h = absurd h
  turned X (k ∷ ks) (e ∷ es) c a b (row, is, pair, below) =
      let m = calls c k row is in
      let image : m.0 ≡ e = call_one c k m.0 e m.2 pair in
      (m.1, subst (λ n. IsCall r c n m.1) image m.3, pair, subst (λ n. IsSlotPair r (λ n u v. X n v u) (λ n u v. call n v u) n es b ks a) (sym m.4) (turned X ks es row.circuit a b below))

module _ (l r : Netlist) (net device call : ℕ → ℕ → ℕ → Type 0) (paired : (c : ℕ) → IsPaired l r net device call c) where
  abbrev N : ℕ → Slot → Slot → Type 0
  N c a x = ArePaired l net call c a x

  net_one : (c a b e : ℕ) → net c a b → net c a e → b ≡ e
  net_one c a b e h g = (paired c).net_one a b e h g

  net_back : (c a b e : ℕ) → net c b a → net c e a → b ≡ e
  net_back c a b e h g = (paired c).net_one_back a b e h g

  device_one : (c a b e : ℕ) → device c a b → device c a e → b ≡ e
  device_one c a b e h g = (paired c).device_one a b e h g

  device_back : (c a b e : ℕ) → device c b a → device c e a → b ≡ e
  device_back c a b e h g = (paired c).device_one_back a b e h g

  call_one : (c a b e : ℕ) → call c a b → call c a e → b ≡ e
  call_one c a b e h g = (paired c).call_one a b e h g

  call_back : (c a b e : ℕ) → call c b a → call c e a → b ≡ e
  call_back c a b e h g = (paired c).call_one_back a b e h g

  calls : (c k : ℕ) (row : CallRow) → IsCall l c k row → IsImaged l r net call c k row
  calls c k row is = (paired c).calls k row is

  calls_back : (c k : ℕ) (row : CallRow) → IsCall r c k row → IsImaged r l (λ n b a. net n a b) (λ n b a. call n a b) c k row
  calls_back c k row is = (paired c).calls_back k row is

  slots : (path : List ℕ) (c a : ℕ) → IsSlot l c path a → (es : List ℕ) × (b : ℕ) × IsSlot r c es b × IsSlotPair l net call c path a es b
  slots [] c a h = let f = (paired c).nets a h in ([], f.0, f.2, f.1)
  slots (k ∷ ks) c a (row, is, rest) =
      let f = slots ks row.circuit a rest in
      let v = calls c k row is in
      (v.0 ∷ f.0, f.1, (v.1, v.3, subst (λ n. IsSlot r n f.0 f.1) (sym v.4) f.2), (row, is, v.2, f.3))

  slots_back : (es : List ℕ) (c b : ℕ) → IsSlot r c es b → (path : List ℕ) × (a : ℕ) × IsSlot l c path a × IsSlotPair l net call c path a es b
  slots_back [] c b h = let f = (paired c).nets_back b h in ([], f.0, f.2, f.1)
  slots_back (e ∷ es) c b (row, is, rest) =
      let f = slots_back es row.circuit b rest in
      let v = calls_back c e row is in
      (v.0 ∷ f.0, f.1, (v.1, v.3, subst (λ n. IsSlot l n f.0 f.1) (sym v.4) f.2), (v.1, v.3, v.2, subst (λ n. IsSlotPair l net call n f.0 f.1 es b) (sym v.4) f.3))

  devices : (path : List ℕ) (c i : ℕ) (row : DeviceRow) → HasDevice l c path i row
      → (es : List ℕ) × (j : ℕ) × (other : DeviceRow) × HasDevice r c es j other × IsSlotPair l device call c path i es j × AreRowsAlike (λ m n. IsSlotPair l net call c path m es n) row other
  devices [] c i row h = let f = (paired c).devices i row h in ([], f.0, f.1, f.3, f.2, f.4)
  devices (k ∷ ks) c i row (row', is, rest) =
      let f = devices ks row'.circuit i row rest in
      let v = calls c k row' is in (
        v.0 ∷ f.0,
        f.1,
        f.2,
        (v.1, v.3, subst (λ n. HasDevice r n f.0 f.1 f.2) (sym v.4) f.3),
        (row', is, v.2, f.4),
        rows_wider (λ a b. IsSlotPair l net call row'.circuit ks a f.0 b) (λ a b. IsSlotPair l net call c (k ∷ ks) a (v.0 ∷ f.0) b) (λ a b s. (row', is, v.2, s)) row f.2 f.5,
      )

  devices_back : (es : List ℕ) (c j : ℕ) (other : DeviceRow) → HasDevice r c es j other
      → (path : List ℕ) × (i : ℕ) × (row : DeviceRow) × HasDevice l c path i row × IsSlotPair l device call c path i es j × AreRowsAlike (λ m n. IsSlotPair l net call c path m es n) row other
  devices_back [] c j other h = let f = (paired c).devices_back j other h in ([], f.0, f.1, f.3, f.2, f.4)
  devices_back (e ∷ es) c j other (row', is, rest) =
      let f = devices_back es row'.circuit j other rest in
      let v = calls_back c e row' is in (
        v.0 ∷ f.0,
        f.1,
        f.2,
        (v.1, v.3, subst (λ n. HasDevice l n f.0 f.1 f.2) (sym v.4) f.3),
        (v.1, v.3, v.2, subst (λ n. IsSlotPair l device call n f.0 f.1 es j) (sym v.4) f.4),
        rows_wider (λ a b. IsSlotPair l net call row'.circuit f.0 a es b) (λ a b. IsSlotPair l net call c (v.0 ∷ f.0) a (e ∷ es) b)
            (λ a b s. (v.1, v.3, v.2, subst (λ n. IsSlotPair l net call n f.0 a es b) (sym v.4) s)) f.2 other f.5,
      )

  -- and the other way round
  turn : (X : ℕ → ℕ → ℕ → Type 0) (c : ℕ) (a x : Slot) → ArePaired l X call c a x → IsSlotPair r (λ n u v. X n v u) (λ n u v. call n v u) c x.path x.net a.path a.net
  turn X c a x h = turned l r net call net_one call_one calls X a.path x.path c a.net x.net h

  nets : (c : ℕ) (a b x y : Slot) → N c a x → N c b y → InOneNet l c a b ↔ InOneNet r c x y
  nets c a b x y h g = (
    one_net l r net call net_one call_one calls c a b x y h g,
    one_net r l (λ n u v. net n v u) (λ n u v. call n v u) net_back call_back calls_back c x y a b (turn net c a x h) (turn net c b y g),
  )

  pub whole : (c : ℕ) → IsWholeMatch l r net device call c
  whole c = record {
    slots = λ a h. let f = slots a.path c a.net h in (slot f.0 f.1, f.2, f.3);
    slots_back = λ x h. let f = slots_back x.path c x.net h in (slot f.0 f.1, f.2, f.3);
    slot_one = λ a x y h g. let f = slot_one l net call net_one call_one a.path x.path y.path c a.net x.net y.net h g in slot_is x y f.0 f.1;
    slot_one_back = λ a b x h g.
        let f = slot_one r (λ n u v. net n v u) (λ n u v. call n v u) net_back call_back x.path a.path b.path c x.net a.net b.net (turn net c a x h) (turn net c b x g) in slot_is a b f.0 f.1;
    devices = λ a row h. let f = devices a.path c a.net row h in (slot f.0 f.1, f.2, f.3, f.4, f.5);
    devices_back = λ x other h. let f = devices_back x.path c x.net other h in (slot f.0 f.1, f.2, f.3, f.4, f.5);
    device_one = λ a x y h g. let f = slot_one l device call device_one call_one a.path x.path y.path c a.net x.net y.net h g in slot_is x y f.0 f.1;
    device_one_back = λ a b x h g.
        let f = slot_one r (λ n u v. device n v u) (λ n u v. call n v u) device_back call_back x.path a.path b.path c x.net a.net b.net (turn device c a x h) (turn device c b x g) in slot_is a b f.0 f.1;
    nets = nets c;
  }
