-- Flattening leaves the expansion as it is.
use Rattle.std.proofs.Common.{◌≡◌, ◌↔◌, inl, inr, ℕ, zero, suc, ◌<◌, List, [], ◌∷◌, ◌++◌, Some, slice_get, refl, sym, ◌∙◌, ap, subst, arith}
use Rattle.base_laws.proofs.Items.{map_to, map_from}
use Rattle.plain_netlist.proofs.Once.{one_call}
use Rattle.plain_netlist.specs.Chains.{Reaches}
use Rattle.plain_netlist.specs.Netlist.{DeviceRow, CallRow, Netlist, IsCall, IsDevice, IsPin, HasNet, IsSlot, Slot, Joins, IsEitherJoin, InOneNet, HasDevice, slot}
use Rattle.plain_netlist.specs.Devices.{row_over, IsRowOver}
use Rattle.plain_netlist.proofs.Rows.{over_wider, over_right, over_same}
use Rattle.align_laws.specs.Flat.{Placing, CallFate, Stays, Goes, Maps, below, beyond, inside, step, image, placed_net, placed_device, net_image, device_image, origin, IsPlacedInside, AreInlined, IsSameExpansion, FlatLaw, call_through}
use Rattle.plain_netlist.proofs.Links.{single, along}
use Rattle.align_laws.proofs.Joined.{net_same, net_back, net_on, net_down, call_joins}

module _ (g f : Netlist) (v : Maps) (height : ℕ → ℕ) (are : AreInlined g f v height) where
  -- joins of the called flat circuit are joins of the caller
  inside_joins : (c k : ℕ) (row : CallRow) (i : Placing) → IsPlacedInside g f v c k row i → (path : List ℕ) (outer e inner : ℕ) → Joins f row.circuit path outer e inner
      → (s : Slot) → path ++ e ∷ [] ≡ s.path → s.net ≡ inner → Reaches (IsEitherJoin f c) (inside placed_net i path outer) (inside placed_net i s.path s.net)
  inside_joins c k row i is [] outer e inner (own, call, called, at, p, net, pin) s deep low =
      let there = (is.call e own call).0 in
      let go : Reaches (IsEitherJoin f c) (slot [] (i.net outer)) (slot (i.call e ∷ []) inner) =
      call_joins f c (i.call e) (call_through i.net own) p (i.net outer) inner there (map_to i.net own.nets p outer net) (called, at, pin) in
      subst (λ (q : List ℕ). Reaches (IsEitherJoin f c) (slot [] (i.net outer)) (inside placed_net i q s.net)) deep
      (subst (λ (n : ℕ). Reaches (IsEitherJoin f c) (slot [] (i.net outer)) (slot (i.call e ∷ []) n)) (sym low) go)
  inside_joins c k row i is (x ∷ xs) outer e inner (own, call, rest) s deep low =
      let there = (is.call x own call).0 in
      let go : Reaches (IsEitherJoin f c) (slot (i.call x ∷ xs) outer) (slot (i.call x ∷ (xs ++ e ∷ [])) inner) =
      single (IsEitherJoin f c) (slot (i.call x ∷ xs) outer) (slot (i.call x ∷ (xs ++ e ∷ [])) inner)
      (inl (record { number = e; deeper = refl; joins = (call_through i.net own, there, rest) })) in
      subst (λ (q : List ℕ). Reaches (IsEitherJoin f c) (slot (i.call x ∷ xs) outer) (inside placed_net i q s.net)) deep
      (subst (λ (n : ℕ). Reaches (IsEitherJoin f c) (slot (i.call x ∷ xs) outer) (slot (i.call x ∷ (xs ++ e ∷ [])) n)) (sym low) go)

  into : Placing → Slot → Slot
  into i s = inside placed_net i s.path s.net

  inside_either : (c k : ℕ) (row : CallRow) (i : Placing) → IsPlacedInside g f v c k row i → (a b : Slot) → IsEitherJoin f row.circuit a b → Reaches (IsEitherJoin f c) (inside placed_net i a.path a.net) (inside placed_net i b.path b.net)
  inside_either c k row i is a b (inl h) = inside_joins c k row i is a.path a.net h.number b.net h.joins b h.deeper refl
  inside_either c k row i is a b (inr h) = net_back f c (inside placed_net i b.path b.net) (inside placed_net i a.path a.net) (inside_joins c k row i is b.path b.net h.number a.net h.joins a h.deeper refl)

  inside_net : (c k : ℕ) (row : CallRow) (i : Placing) → IsPlacedInside g f v c k row i → (a b : Slot) → InOneNet f row.circuit a b → InOneNet f c (inside placed_net i a.path a.net) (inside placed_net i b.path b.net)
  inside_net c k row i is a b h = along (IsEitherJoin f row.circuit) (IsEitherJoin f c) (λ (s : Slot). inside placed_net i s.path s.net) (inside_either c k row i is) a b h

  -- forward
  first_step : (c k : ℕ) (row : CallRow) (p outer inner : ℕ) → IsCall g c k row → slice_get row.nets p ≡ Some outer → IsPin g row.circuit p inner
      → (x : CallFate) → v.fate c k ≡ x → InOneNet f c (slot [] outer) (step placed_net x (slot [] inner))
  first_step c k row p outer inner call net pin (Stays e) is =
      call_joins f c e row p outer inner ((are.each c).stays k e row call is).0 net (((are.each row.circuit).pins p inner).0 pin)
  first_step c k row p outer inner call net pin (Goes i) is =
      net_same f c (slot [] outer) (slot [] (i.net inner)) (ap (slot []) (sym (((are.each c).goes k i row call is).pin p outer inner net pin)))

  next_step : (c k : ℕ) (row : CallRow) (a b : Slot) → IsCall g c k row → InOneNet f row.circuit a b → (x : CallFate) → v.fate c k ≡ x → InOneNet f c (step placed_net x a) (step placed_net x b)
  next_step c k row a b call h (Stays e) is = net_down f c e row ((are.each c).stays k e row call is).0 a b h
  next_step c k row a b call h (Goes i) is = inside_net c k row i ((are.each c).goes k i row call is) a b h

  forth : (path : List ℕ) (c outer k inner : ℕ) → Joins g c path outer k inner → InOneNet f c (image v placed_net c path outer) (image v placed_net c (path ++ k ∷ []) inner)
  forth [] c outer k inner (row, call, called, at, p, net, pin) = first_step c k row p outer inner call net (called, at, pin) (v.fate c k) refl
  forth (j ∷ js) c outer k inner (row, call, rest) =
      let target = (are.each c).target j row call in
      let low : InOneNet f row.circuit (image v placed_net (v.target c j) js outer) (image v placed_net (v.target c j) (js ++ k ∷ []) inner) =
      subst (λ (t : ℕ). InOneNet f row.circuit (image v placed_net t js outer) (image v placed_net t (js ++ k ∷ []) inner)) (sym target) (forth js row.circuit outer k inner rest) in
      next_step c j row (image v placed_net (v.target c j) js outer) (image v placed_net (v.target c j) (js ++ k ∷ []) inner) call low (v.fate c j) refl

  forth_either : (c : ℕ) (a b : Slot) → IsEitherJoin g c a b → InOneNet f c (net_image v c a) (net_image v c b)
  forth_either c a b (inl h) = subst (λ (q : List ℕ). InOneNet f c (net_image v c a) (image v placed_net c q b.net)) h.deeper (forth a.path c a.net h.number b.net h.joins)
  forth_either c a b (inr h) = net_back f c (net_image v c b) (net_image v c a)
      (subst (λ (q : List ℕ). InOneNet f c (net_image v c b) (image v placed_net c q a.net)) h.deeper (forth b.path c b.net h.number a.net h.joins))

  net_forth : (c : ℕ) (a b : Slot) → InOneNet g c a b → InOneNet f c (net_image v c a) (net_image v c b)
  net_forth c a b h = along (IsEitherJoin g c) (IsEitherJoin f c) (net_image v c) (forth_either c) a b h

  -- back: a net of the called flat circuit, and where it stands in the caller
  from_own : (c n : ℕ) → HasNet g c n → v.net_from c n ≡ slot [] n
  from_own c n h = ((are.each c).net n h).1

  from_inlaid : (c k : ℕ) (row : CallRow) (i : Placing) (n : ℕ) → IsCall g c k row → IsPlacedInside g f v c k row i → HasNet f row.circuit n → InOneNet g c (v.net_from c (i.net n)) (below k (v.net_from row.circuit n))
  from_inlaid c k row i n call is has = elim (is.net n has) [
    | inl (p, outer, net, pin) ↦
        let up : v.net_from c (i.net n) ≡ slot [] outer = ap (v.net_from c) (is.pin p outer n net pin) ∙ from_own c outer (are.within.calls c k p outer row call net) in
        let low : below k (v.net_from row.circuit n) ≡ slot (k ∷ []) n = ap (below k) (from_own row.circuit n (are.within.pins row.circuit p n pin)) in
        net_on g c (v.net_from c (i.net n)) (slot [] outer) (below k (v.net_from row.circuit n)) (net_same g c (v.net_from c (i.net n)) (slot [] outer) up)
        (net_on g c (slot [] outer) (slot (k ∷ []) n) (below k (v.net_from row.circuit n)) (call_joins g c k row p outer n call net pin) (net_same g c (slot (k ∷ []) n) (below k (v.net_from row.circuit n)) (sym low)))
    | inr e ↦ net_same g c (v.net_from c (i.net n)) (below k (v.net_from row.circuit n)) e
  ]

  -- a call of the flat circuit joins what the given one at the end of its way joins
  way_joins : (h c e : ℕ) (row : CallRow) (p outer inner : ℕ) → height c < h → IsCall f c e row → slice_get row.nets p ≡ Some outer → IsPin g row.circuit p inner
      → InOneNet g c (v.net_from c outer) (beyond (v.way c e) (slot [] inner))
  way_joins zero c e row p outer inner low call net pin = absurd (let l = low in omega arith)
  way_joins (suc h) c e row p outer inner low call net pin = elim ((are.each c).calls e row call) [
    | inl (k, given, fate) ↦
        let w = ((are.each c).stays k e row given fate).1 in
        let up = from_own c outer (are.within.calls c k p outer row given net) in
        subst (λ (q : List ℕ). InOneNet g c (v.net_from c outer) (beyond q (slot [] inner))) (sym w)
        (subst (λ (s : Slot). InOneNet g c s (slot (k ∷ []) inner)) (sym up) (call_joins g c k row p outer inner given net pin))
    | inr (k, given, i, m, own, is, fate, deep, num) ↦
        let inlaid = (are.each c).goes k i given is fate in
        let there = inlaid.call m own deep in
        let one : call_through i.net own ≡ row = one_call f c e (call_through i.net own) row (subst (λ (n : ℕ). IsCall f c n (call_through i.net own)) num there.0) call in
        let n = map_from i.net own.nets p outer (subst (λ (r : CallRow). slice_get r.nets p ≡ Some outer) (sym one) net) in
        let lower = are.lower c k given is in
        let deeper : height given.circuit < h = let a = low in omega arith in
        let rec = way_joins h given.circuit m own p n.0 inner deeper deep n.1 (subst (λ (r : CallRow). IsPin g r.circuit p inner) (sym one) pin) in
        let down = net_down g c k given is (v.net_from given.circuit n.0) (beyond (v.way given.circuit m) (slot [] inner)) rec in
        let top = from_inlaid c k given i n.0 is inlaid (are.flat_within.calls given.circuit m p n.0 own deep n.1) in
        let all = net_on g c (v.net_from c (i.net n.0)) (below k (v.net_from given.circuit n.0)) (beyond (k ∷ v.way given.circuit m) (slot [] inner)) top down in
        let w : v.way c e ≡ k ∷ v.way given.circuit m = subst (λ (x : ℕ). v.way c x ≡ k ∷ v.way given.circuit m) num there.1 in
        subst (λ (q : List ℕ). InOneNet g c (v.net_from c outer) (beyond q (slot [] inner))) (sym w)
        (subst (λ (x : ℕ). InOneNet g c (v.net_from c x) (beyond (k ∷ v.way given.circuit m) (slot [] inner))) n.2 all)
  ]

  -- what holds below each call of the given netlist holds along the way of a flat call
  along_way : (P : ℕ → List ℕ → Type 0) → ((c k : ℕ) (row : CallRow) (q : List ℕ) → IsCall g c k row → P row.circuit q → P c (k ∷ q))
      → (h c e : ℕ) (row : CallRow) → height c < h → IsCall f c e row → P row.circuit [] → P c (v.way c e)
  along_way P up zero c e row low call h = absurd (let l = low in omega arith)
  along_way P up (suc n) c e row low call h = elim ((are.each c).calls e row call) [
    | inl (k, given, fate) ↦ subst (λ (w : List ℕ). P c w) (sym ((are.each c).stays k e row given fate).1) (up c k row [] given h)
    | inr (k, given, i, m, own, is, fate, deep, num) ↦
        let inlaid = (are.each c).goes k i given is fate in
        let there = inlaid.call m own deep in
        let one : call_through i.net own ≡ row = one_call f c e (call_through i.net own) row (subst (λ (n : ℕ). IsCall f c n (call_through i.net own)) num there.0) call in
        let lower = are.lower c k given is in
        let deeper : height given.circuit < n = let a = low in omega arith in
        let rec = along_way P up n given.circuit m own deeper deep (subst (λ (r : CallRow). P r.circuit []) (sym one) h) in
        let w : v.way c e ≡ k ∷ v.way given.circuit m = subst (λ (x : ℕ). v.way c x ≡ k ∷ v.way given.circuit m) num there.1 in
        subst (λ (x : List ℕ). P c x) (sym w) (up c k given (v.way given.circuit m) is rec)
  ]

  way_net : (c e : ℕ) (row : CallRow) (a b : Slot) → IsCall f c e row → InOneNet g row.circuit a b → InOneNet g c (beyond (v.way c e) a) (beyond (v.way c e) b)
  way_net c e row a b call h = along_way (λ c q. InOneNet g c (beyond q a) (beyond q b))
      (λ c k row q call h. net_down g c k row call (beyond q a) (beyond q b) h) (suc (height c)) c e row (omega arith) call h

  way_device : (c e : ℕ) (row : CallRow) (path : List ℕ) (j : ℕ) (r : DeviceRow) → IsCall f c e row → HasDevice g row.circuit path j r → HasDevice g c (v.way c e ++ path) j r
  way_device c e row path j r call h = along_way (λ c q. HasDevice g c (q ++ path) j r)
      (λ c k row q call h. (row, call, h)) (suc (height c)) c e row (omega arith) call h

  -- origins of joined flat nets are joined
  origin_joins : (es : List ℕ) (c outer e inner : ℕ) → Joins f c es outer e inner → InOneNet g c (origin v v.net_from c es outer) (origin v v.net_from c (es ++ e ∷ []) inner)
  origin_joins [] c outer e inner (row, call, called, at, p, net, pin) =
      let given : IsPin g row.circuit p inner = ((are.each row.circuit).pins p inner).1 (called, at, pin) in
      let own = from_own row.circuit inner (are.within.pins row.circuit p inner given) in
      let go = way_joins (suc (height c)) c e row p outer inner (omega arith) call net given in
      let onward = (are.each c).onward e row call in
      subst (λ (t : ℕ). InOneNet g c (v.net_from c outer) (beyond (v.way c e) (v.net_from t inner))) (sym onward)
      (subst (λ (s : Slot). InOneNet g c (v.net_from c outer) (beyond (v.way c e) s)) (sym own) go)
  origin_joins (x ∷ xs) c outer e inner (row, call, rest) =
      let onward = (are.each c).onward x row call in
      let go = way_net c x row (origin v v.net_from row.circuit xs outer) (origin v v.net_from row.circuit (xs ++ e ∷ []) inner) call (origin_joins xs row.circuit outer e inner rest) in
      subst (λ (t : ℕ). InOneNet g c (beyond (v.way c x) (origin v v.net_from t xs outer)) (beyond (v.way c x) (origin v v.net_from t (xs ++ e ∷ []) inner))) (sym onward) go

  abbrev net_origin : ℕ → Slot → Slot
  net_origin c s = origin v v.net_from c s.path s.net

  origin_either : (c : ℕ) (a b : Slot) → IsEitherJoin f c a b → InOneNet g c (net_origin c a) (net_origin c b)
  origin_either c a b (inl h) = subst (λ (q : List ℕ). InOneNet g c (net_origin c a) (origin v v.net_from c q b.net)) h.deeper (origin_joins a.path c a.net h.number b.net h.joins)
  origin_either c a b (inr h) = net_back g c (net_origin c b) (net_origin c a)
      (subst (λ (q : List ℕ). InOneNet g c (net_origin c b) (origin v v.net_from c q a.net)) h.deeper (origin_joins b.path c b.net h.number a.net h.joins))

  net_returns : (c : ℕ) (a b : Slot) → InOneNet f c a b → InOneNet g c (net_origin c a) (net_origin c b)
  net_returns c a b h = along (IsEitherJoin f c) (IsEitherJoin g c) (net_origin c) (origin_either c) a b h

  -- a net is joined with the origin of its image
  record Returns (c : ℕ) (a t : Slot) : Type 0 where
    there : IsSlot f c t.path t.net
    back : InOneNet g c a (origin v v.net_from c t.path t.net)

  inlaid_returns : (c k : ℕ) (row : CallRow) (i : Placing) → IsCall g c k row → IsPlacedInside g f v c k row i → (a : Slot) (sp : List ℕ) (sn : ℕ) → Returns row.circuit a (slot sp sn) → Returns c (below k a) (inside placed_net i sp sn)
  inlaid_returns c k row i call is a [] sn r = record {
    there = is.within sn r.there;
    back = net_on g c (below k a) (below k (v.net_from row.circuit sn)) (v.net_from c (i.net sn))
        (net_down g c k row call a (v.net_from row.circuit sn) r.back)
        (net_back g c (v.net_from c (i.net sn)) (below k (v.net_from row.circuit sn)) (from_inlaid c k row i sn call is r.there));
  }
  inlaid_returns c k row i call is a (e ∷ es) sn r =
      let own : CallRow = r.there.0 in
      let deep : IsCall f row.circuit e own = r.there.1 in
      let moved = is.call e own deep in
      let onward : v.onward c (i.call e) ≡ v.onward row.circuit e = (are.each c).onward (i.call e) (call_through i.net own) moved.0 ∙ sym ((are.each row.circuit).onward e own deep) in
      let go = net_down g c k row call a (beyond (v.way row.circuit e) (origin v v.net_from (v.onward row.circuit e) es sn)) r.back in
      record {
        there = (call_through i.net own, moved.0, r.there.2);
        back = subst (λ (t : ℕ). InOneNet g c (below k a) (beyond (v.way c (i.call e)) (origin v v.net_from t es sn))) (sym onward)
            (subst (λ (w : List ℕ). InOneNet g c (below k a) (beyond w (origin v v.net_from (v.onward row.circuit e) es sn))) (sym moved.1) go);
      }

  step_returns : (c k : ℕ) (row : CallRow) (a s : Slot) → IsCall g c k row → Returns row.circuit a s → (x : CallFate) → v.fate c k ≡ x → Returns c (below k a) (step placed_net x s)
  step_returns c k row a s call r (Stays e) is =
      let there = (are.each c).stays k e row call is in
      let onward = (are.each c).onward e row there.0 in
      let go = net_down g c k row call a (origin v v.net_from row.circuit s.path s.net) r.back in
      record {
        there = (row, there.0, r.there);
        back = subst (λ (t : ℕ). InOneNet g c (below k a) (beyond (v.way c e) (origin v v.net_from t s.path s.net))) (sym onward)
            (subst (λ (w : List ℕ). InOneNet g c (below k a) (beyond w (origin v v.net_from row.circuit s.path s.net))) (sym there.1) go);
      }
  step_returns c k row a s call r (Goes i) is = inlaid_returns c k row i call ((are.each c).goes k i row call is) a s.path s.net r

  returning : (path : List ℕ) (c n : ℕ) → IsSlot g c path n → Returns c (slot path n) (image v placed_net c path n)
  returning [] c n h =
      let r = (are.each c).net n h in
      record { there = r.0; back = net_same g c (slot [] n) (v.net_from c n) (sym r.1) }
  returning (k ∷ ks) c n (row, call, h) =
      let target = (are.each c).target k row call in
      let low = subst (λ (t : ℕ). Returns row.circuit (slot ks n) (image v placed_net t ks n)) (sym target) (returning ks row.circuit n h) in
      step_returns c k row (slot ks n) (image v placed_net (v.target c k) ks n) call low (v.fate c k) refl

  nets : (c : ℕ) (a b : Slot) → IsSlot g c a.path a.net → IsSlot g c b.path b.net → InOneNet g c a b ↔ InOneNet f c (net_image v c a) (net_image v c b)
  nets c a b at bt = (
    (λ h. net_forth c a b h),
    (λ h.
        let r = returning a.path c a.net at in
        let q = returning b.path c b.net bt in
        let x = net_origin c (net_image v c a) in
        let y = net_origin c (net_image v c b) in
        net_on g c a x b r.back (net_on g c x y b (net_returns c (net_image v c a) (net_image v c b) h) (net_back g c b y q.back))),
  )

  -- devices
  record Seen (c : ℕ) (path : List ℕ) (j : ℕ) (row : DeviceRow) (t : Slot) : Type 0 where
    other : DeviceRow
    has : HasDevice f c t.path t.net other
    image : IsRowOver (λ a b. net_image v c (slot path a) ≡ slot t.path b) row other
    back : origin v v.device_from c t.path t.net ≡ slot path j

  stay_seen : (c k e : ℕ) (call : CallRow) (ks : List ℕ) (j : ℕ) (row : DeviceRow) (s : Slot) → IsCall g c k call → v.fate c k ≡ Stays e → Seen call.circuit ks j row s → Seen c (k ∷ ks) j row (below e s)
  stay_seen c k e call ks j row s is fate h =
      let there = (are.each c).stays k e call is fate in
      let onward = (are.each c).onward e call there.0 in
      let target = (are.each c).target k call is in
      record {
        other = h.other;
        has = (call, there.0, h.has);
        image = over_wider (λ a b. net_image v call.circuit (slot ks a) ≡ slot s.path b) (λ a b. net_image v c (slot (k ∷ ks) a) ≡ slot (e ∷ s.path) b)
            (λ n m low.
            ap (λ (x : CallFate). step placed_net x (image v placed_net (v.target c k) ks n)) fate
            ∙ (ap (λ (t : ℕ). below e (image v placed_net t ks n)) target ∙ ap (below e) low)) row h.other h.image;
        back = ap (λ (w : List ℕ). beyond w (origin v v.device_from (v.onward c e) s.path s.net)) there.1
            ∙ (ap (λ (t : ℕ). below k (origin v v.device_from t s.path s.net)) onward ∙ ap (below k) h.back);
      }

  inlaid_seen : (c k : ℕ) (i : Placing) (call : CallRow) (ks : List ℕ) (j : ℕ) (row : DeviceRow) (sp : List ℕ) (sn : ℕ) → IsCall g c k call → v.fate c k ≡ Goes i → Seen call.circuit ks j row (slot sp sn) → Seen c (k ∷ ks) j row (inside placed_device i sp sn)
  inlaid_seen c k i call ks j row [] sn is fate h =
      let inlaid = (are.each c).goes k i call is fate in
      let target = (are.each c).target k call is in
      let there = inlaid.device sn h.other h.has in
      record {
        other = row_over i.net h.other;
        has = there.0;
        image = over_right (λ a b. net_image v call.circuit (slot ks a) ≡ slot [] b) (λ a b. net_image v c (slot (k ∷ ks) a) ≡ slot [] b) i.net
            (λ n m low.
            ap (λ (x : CallFate). step placed_net x (image v placed_net (v.target c k) ks n)) fate
            ∙ (ap (λ (t : ℕ). step placed_net (Goes i) (image v placed_net t ks n)) target ∙ ap (step placed_net (Goes i)) low)) row h.other h.image;
        back = there.1 ∙ ap (below k) h.back;
      }
  inlaid_seen c k i call ks j row (e ∷ es) sn is fate h =
      let inlaid = (are.each c).goes k i call is fate in
      let target = (are.each c).target k call is in
      let own : CallRow = h.has.0 in
      let deep : IsCall f call.circuit e own = h.has.1 in
      let moved = inlaid.call e own deep in
      let onward : v.onward c (i.call e) ≡ v.onward call.circuit e = (are.each c).onward (i.call e) (call_through i.net own) moved.0 ∙ sym ((are.each call.circuit).onward e own deep) in
      record {
        other = h.other;
        has = (call_through i.net own, moved.0, h.has.2);
        image = over_wider (λ a b. net_image v call.circuit (slot ks a) ≡ slot (e ∷ es) b) (λ a b. net_image v c (slot (k ∷ ks) a) ≡ slot (i.call e ∷ es) b)
            (λ n m low.
            ap (λ (x : CallFate). step placed_net x (image v placed_net (v.target c k) ks n)) fate
            ∙ (ap (λ (t : ℕ). step placed_net (Goes i) (image v placed_net t ks n)) target ∙ ap (step placed_net (Goes i)) low)) row h.other h.image;
        back = ap (λ (w : List ℕ). beyond w (origin v v.device_from (v.onward c (i.call e)) es sn)) moved.1
            ∙ (ap (λ (t : ℕ). beyond (k ∷ v.way call.circuit e) (origin v v.device_from t es sn)) onward ∙ ap (below k) h.back);
      }

  step_seen : (c k : ℕ) (call : CallRow) (ks : List ℕ) (j : ℕ) (row : DeviceRow) (s : Slot) → IsCall g c k call → Seen call.circuit ks j row s → (x : CallFate) → v.fate c k ≡ x → Seen c (k ∷ ks) j row (step placed_device x s)
  step_seen c k call ks j row s is h (Stays e) fate = stay_seen c k e call ks j row s is fate h
  step_seen c k call ks j row s is h (Goes i) fate = inlaid_seen c k i call ks j row s.path s.net is fate h

  seen : (path : List ℕ) (c j : ℕ) (row : DeviceRow) → HasDevice g c path j row → Seen c path j row (device_image v c path j)
  seen [] c j row h =
      let r = (are.each c).device j row h in
      record { other = row; has = r.0; image = over_same (λ a b. net_image v c (slot [] a) ≡ slot [] b) (λ n. refl) row; back = r.1 }
  seen (k ∷ ks) c j row (call, is, h) =
      let target = (are.each c).target k call is in
      let low = subst (λ (t : ℕ). Seen call.circuit ks j row (image v placed_device t ks j)) (sym target) (seen ks call.circuit j row h) in
      step_seen c k call ks j row (image v placed_device (v.target c k) ks j) is low (v.fate c k) refl

  -- a path behind a flat call's way stands behind the call
  pub way_image : (h c e : ℕ) (row : CallRow) (path : List ℕ) (n : ℕ) → height c < h → IsCall f c e row → image v placed_device c (v.way c e ++ path) n ≡ below e (image v placed_device row.circuit path n)
  way_image zero c e row path n low call = absurd (let l = low in omega arith)
  way_image (suc h) c e row path n low call = elim ((are.each c).calls e row call) [
    | inl (k, given, fate) ↦
        let w = ((are.each c).stays k e row given fate).1 in
        let target = (are.each c).target k row given in
        ap (λ (q : List ℕ). image v placed_device c (q ++ path) n) w
        ∙ (ap (λ (x : CallFate). step placed_device x (image v placed_device (v.target c k) path n)) fate ∙ ap (λ (t : ℕ). below e (image v placed_device t path n)) target)
    | inr (k, given, i, m, own, is, fate, deep, num) ↦
        let inlaid = (are.each c).goes k i given is fate in
        let there = inlaid.call m own deep in
        let one : call_through i.net own ≡ row = one_call f c e (call_through i.net own) row (subst (λ (n : ℕ). IsCall f c n (call_through i.net own)) num there.0) call in
        let lower = are.lower c k given is in
        let deeper : height given.circuit < h = let a = low in omega arith in
        let target = (are.each c).target k given is in
        let rec = way_image h given.circuit m own path n deeper deep in
        let w : v.way c e ≡ k ∷ v.way given.circuit m = subst (λ (x : ℕ). v.way c x ≡ k ∷ v.way given.circuit m) num there.1 in
        let circuit : own.circuit ≡ row.circuit = ap (λ (r : CallRow). r.circuit) one in
        ap (λ (q : List ℕ). image v placed_device c (q ++ path) n) w
        ∙ (ap (λ (x : CallFate). step placed_device x (image v placed_device (v.target c k) (v.way given.circuit m ++ path) n)) fate
        ∙ (ap (λ (t : ℕ). step placed_device (Goes i) (image v placed_device t (v.way given.circuit m ++ path) n)) target
        ∙ (ap (step placed_device (Goes i)) rec
        ∙ (ap (λ (x : ℕ). below x (image v placed_device own.circuit path n)) num ∙ ap (λ (t : ℕ). below e (image v placed_device t path n)) circuit))))
  ]

  record Found (c : ℕ) (es : List ℕ) (j : ℕ) : Type 0 where
    place : Slot
    own : DeviceRow
    has : HasDevice g c place.path place.net own
    is : device_image v c place.path place.net ≡ slot es j

  found_here : (h c j : ℕ) (row : DeviceRow) → height c < h → IsDevice f c j row → Found c [] j
  found_here zero c j row low dev = absurd (let l = low in omega arith)
  found_here (suc h) c j row low dev = elim ((are.each c).devices j row dev) [
    | inl given ↦ record { place = slot [] j; own = row; has = given; is = refl }
    | inr (k, call, i, m, own, is, fate, deep, num) ↦
        let lower = are.lower c k call is in
        let deeper : height call.circuit < h = let a = low in omega arith in
        let target = (are.each c).target k call is in
        let r = found_here h call.circuit m own deeper deep in
        record {
          place = below k r.place;
          own = r.own;
          has = (call, is, r.has);
          is = ap (λ (x : CallFate). step placed_device x (image v placed_device (v.target c k) r.place.path r.place.net)) fate
              ∙ (ap (λ (t : ℕ). step placed_device (Goes i) (image v placed_device t r.place.path r.place.net)) target
              ∙ (ap (step placed_device (Goes i)) r.is ∙ ap (slot []) num));
        }
  ]

  found : (es : List ℕ) (c j : ℕ) (row : DeviceRow) → HasDevice f c es j row → Found c es j
  found [] c j row h = found_here (suc (height c)) c j row (omega arith) h
  found (e ∷ es) c j row (call, is, h) =
      let r = found es call.circuit j row h in
      record {
        place = beyond (v.way c e) r.place;
        own = r.own;
        has = way_device c e call r.place.path r.place.net r.own is r.has;
        is = way_image (suc (height c)) c e call r.place.path r.place.net (omega arith) is ∙ ap (below e) r.is;
      }

  pub same_expansion : (c : ℕ) → IsSameExpansion g f v c
  same_expansion c = record {
    nets = nets c;
    pins = (are.each c).pins;
    device = λ path j row h. let s = seen path c j row h in (s.other, s.has, s.image);
    back = λ es j row h. let r = found es c j row h in (r.place, r.own, r.has, r.is);
    one = λ p q i j a b h k e.
        let s = seen p c i a h in
        let t = seen q c j b k in
        sym s.back ∙ (ap (λ (x : Slot). origin v v.device_from c x.path x.net) e ∙ t.back);
  }

pub flattened : FlatLaw
flattened g f v height are c = same_expansion g f v height are c
