-- Dropping what holds nothing leaves devices and their nets as they are.
use Rattle.std.proofs.Common.{◌≡◌, ◌↔◌, ◌&&◌, inl, inr, ℕ, Bool, true, List, [], ◌∷◌, ◌++◌, Some, slice_get, refl, sym, ◌∙◌, ap, subst}
use Rattle.std.proofs.lemmas.Bool.{cases_Bool, and_parts, and_from}
use Rattle.plain_netlist.proofs.Once.{one_call}
use Rattle.plain_netlist.specs.Netlist.{DeviceRow, CallRow, Netlist, IsCall, IsPin, Slot, Joins, IsJoin, IsEitherJoin, InOneNet, HasDevice, slot, IsOnPin}
use Rattle.plain_netlist.specs.Lists.{IsListed}
use Rattle.plain_netlist.specs.Devices.{terminal_nets, row_over, IsRowOver}
use Rattle.plain_netlist.proofs.Rows.{over_wider, row_carried}
use Rattle.align_laws.specs.Flat.{below}
use Rattle.align_laws.proofs.Prune.{Cuts, ArePruned, IsHeldSlot, new_slot, new_path, IsPrunedExpansion, PruneLaw}
use Rattle.plain_netlist.proofs.Links.{along}
use Rattle.align_laws.proofs.Joined.{net_same, net_back, net_on, net_down, call_joins}
use Rattle.align_laws.proofs.Anchor.{HeldLink, held_chain, held_root}

abbrev held_at : Cuts → ℕ → List ℕ → ℕ → Bool
held_at v c [] n = v.held c n
held_at v c (k ∷ ks) n = v.kept (v.target c k) && held_at v (v.target c k) ks n

last_one : (xs ys : List ℕ) (k j : ℕ) → xs ++ k ∷ [] ≡ ys ++ j ∷ [] → (xs ≡ ys) × (k ≡ j)
last_one [] [] k j h = (refl, cc)
last_one [] (y ∷ []) k j h = absurd cc
last_one [] (y ∷ (z ∷ zs)) k j h = absurd cc
last_one (x ∷ []) [] k j h = absurd cc
last_one (x ∷ (z ∷ zs)) [] k j h = absurd cc
last_one (x ∷ xs) (y ∷ ys) k j h =
    let first : x ≡ y = cc in
    let tail : xs ++ k ∷ [] ≡ ys ++ j ∷ [] = cc in
    let r = last_one xs ys k j tail in
    let rest : xs ≡ ys = r.0 in
    (cc, r.1)

not_last : (xs : List ℕ) (k : ℕ) → xs ++ k ∷ [] ≡ [] → ⊥
not_last [] k h = cc
not_last (x ∷ xs) k h = cc

module _ (f o : Netlist) (v : Cuts) (are : ArePruned f o v) where
  -- a net has one net above it at most
  above_one : (path : List ℕ) (c k a b inner : ℕ) → Joins f c path a k inner → Joins f c path b k inner → a ≡ b
  above_one [] c k a b inner (row, call, called, at, p, net, pin) (row', call', called', at', p', net', pin') =
      let one : row' ≡ row = one_call f c k row' row call' call in
      let there : slice_get row.nets p' ≡ Some b = subst (λ (r : CallRow). slice_get r.nets p' ≡ Some b) one net' in
      let low : IsPin f row.circuit p' inner = subst (λ (r : CallRow). IsPin f r.circuit p' inner) one (called', at', pin') in
      let same : p' ≡ p = are.apart row.circuit p' p inner low (called, at, pin) in
      let here : slice_get row.nets p ≡ Some b = subst (λ (x : ℕ). slice_get row.nets x ≡ Some b) same there in
      cc
  above_one (j ∷ js) c k a b inner (row, call, rest) (row', call', rest') =
      let one : row' ≡ row = one_call f c j row' row call' call in
      above_one js row.circuit k a b inner rest (subst (λ (r : CallRow). Joins f r.circuit js b k inner) one rest')

  join_one : (c : ℕ) (u w s : Slot) → IsJoin f c u s → IsJoin f c w s → u ≡ w
  join_one c u w s h g =
      let e = last_one u.path w.path h.number g.number (h.deeper ∙ sym g.deeper) in
      let there : Joins f c u.path w.net h.number s.net =
      subst (λ (k : ℕ). Joins f c u.path w.net k s.net) (sym e.1) (subst (λ (q : List ℕ). Joins f c q w.net g.number s.net) (sym e.0) g.joins) in
      let net : u.net ≡ w.net = above_one u.path c h.number u.net w.net s.net h.joins there in
      ap (λ (q : List ℕ). slot q u.net) e.0 ∙ ap (slot w.path) net

  -- and it is held where that one is
  held_above : (path : List ℕ) (c outer k inner : ℕ) → v.kept c ≡ true → Joins f c path outer k inner → held_at v c (path ++ k ∷ []) inner ≡ true → held_at v c path outer ≡ true
  held_above [] c outer k inner there (row, call, called, at, p, net, pin) h =
      let target = (are.each c there).target k row call in
      let kept : v.kept row.circuit ≡ true = subst (λ (t : ℕ). v.kept t ≡ true) target ((and_parts (v.kept (v.target c k)) (v.held (v.target c k) inner) h).0) in
      let low : v.held row.circuit inner ≡ true = subst (λ (t : ℕ). v.held t inner ≡ true) target ((and_parts (v.kept (v.target c k)) (v.held (v.target c k) inner) h).1) in
      (((are.each c there).call k row call kept).4 p outer inner net (called, at, pin) low).0
  held_above (j ∷ js) c outer k inner there (row, call, rest) h =
      let target = (are.each c there).target j row call in
      let kept = (and_parts (v.kept (v.target c j)) (held_at v (v.target c j) (js ++ k ∷ []) inner) h).0 in
      let low = (and_parts (v.kept (v.target c j)) (held_at v (v.target c j) (js ++ k ∷ []) inner) h).1 in
      let kept_row : v.kept row.circuit ≡ true = subst (λ (t : ℕ). v.kept t ≡ true) target kept in
      let low_row : held_at v row.circuit (js ++ k ∷ []) inner ≡ true = subst (λ (t : ℕ). held_at v t (js ++ k ∷ []) inner ≡ true) target low in
      let up = held_above js row.circuit outer k inner kept_row rest low_row in
      and_from (v.kept (v.target c j)) (held_at v (v.target c j) js outer) kept (subst (λ (t : ℕ). held_at v t js outer ≡ true) (sym target) up)

  abbrev held_slot : ℕ → Slot → Bool
  held_slot c s = held_at v c s.path s.net

  join_closed : (c : ℕ) → v.kept c ≡ true → (u s : Slot) → IsJoin f c u s → held_slot c s ≡ true → held_slot c u ≡ true
  join_closed c there u s h held = held_above u.path c u.net h.number s.net there h.joins (subst (λ (q : List ℕ). held_at v c q s.net ≡ true) (sym h.deeper) held)

  is_held : (path : List ℕ) (c n : ℕ) → v.kept c ≡ true → IsHeldSlot f v c path n → held_at v c path n ≡ true
  is_held [] c n there h = h
  is_held (k ∷ ks) c n there (row, call, kept, h) =
      let target = (are.each c there).target k row call in
      and_from (v.kept (v.target c k)) (held_at v (v.target c k) ks n) (subst (λ (t : ℕ). v.kept t ≡ true) (sym target) kept)
      (subst (λ (t : ℕ). held_at v t ks n ≡ true) (sym target) (is_held ks row.circuit n kept h))

  -- joins of held nets
  new_joins : (path : List ℕ) (c outer k inner : ℕ) → v.kept c ≡ true → Joins f c path outer k inner → held_at v c (path ++ k ∷ []) inner ≡ true
      → InOneNet o (v.number c) (new_slot v c path outer) (new_slot v c (path ++ k ∷ []) inner)
  new_joins [] c outer k inner there (row, call, called, at, p, net, pin) h =
      let target = (are.each c there).target k row call in
      let kept : v.kept row.circuit ≡ true = subst (λ (t : ℕ). v.kept t ≡ true) target ((and_parts (v.kept (v.target c k)) (v.held (v.target c k) inner) h).0) in
      let low : v.held row.circuit inner ≡ true = subst (λ (t : ℕ). v.held t inner ≡ true) target ((and_parts (v.kept (v.target c k)) (v.held (v.target c k) inner) h).1) in
      let m = (are.each c there).call k row call kept in
      let q = m.4 p outer inner net (called, at, pin) low in
      subst (λ (t : ℕ). InOneNet o (v.number c) (slot [] (v.net c outer)) (slot (v.call c k ∷ []) (v.net t inner))) (sym target)
      (call_joins o (v.number c) (v.call c k) m.0 q.1 (v.net c outer) (v.net row.circuit inner) m.1 q.2 q.3)
  new_joins (j ∷ js) c outer k inner there (row, call, rest) h =
      let target = (are.each c there).target j row call in
      let kept : v.kept row.circuit ≡ true = subst (λ (t : ℕ). v.kept t ≡ true) target ((and_parts (v.kept (v.target c j)) (held_at v (v.target c j) (js ++ k ∷ []) inner) h).0) in
      let low : held_at v row.circuit (js ++ k ∷ []) inner ≡ true = subst (λ (t : ℕ). held_at v t (js ++ k ∷ []) inner ≡ true) target ((and_parts (v.kept (v.target c j)) (held_at v (v.target c j) (js ++ k ∷ []) inner) h).1) in
      let m = (are.each c there).call j row call kept in
      let rec = new_joins js row.circuit outer k inner kept rest low in
      let go = net_down o (v.number c) (v.call c j) m.0 m.1 (new_slot v row.circuit js outer) (new_slot v row.circuit (js ++ k ∷ []) inner)
      (subst (λ (t : ℕ). InOneNet o t (new_slot v row.circuit js outer) (new_slot v row.circuit (js ++ k ∷ []) inner)) (sym m.2) rec) in
      subst (λ (t : ℕ). InOneNet o (v.number c) (below (v.call c j) (new_slot v t js outer)) (below (v.call c j) (new_slot v t (js ++ k ∷ []) inner))) (sym target) go

  abbrev new_of : ℕ → Slot → Slot
  new_of c s = new_slot v c s.path s.net

  new_join : (c : ℕ) → v.kept c ≡ true → (a b : Slot) → IsJoin f c a b → held_slot c b ≡ true → InOneNet o (v.number c) (new_of c a) (new_of c b)
  new_join c there a b h held =
      subst (λ (q : List ℕ). InOneNet o (v.number c) (new_of c a) (new_slot v c q b.net)) h.deeper
      (new_joins a.path c a.net h.number b.net there h.joins (subst (λ (q : List ℕ). held_at v c q b.net ≡ true) (sym h.deeper) held))

  new_link : (c : ℕ) (there : v.kept c ≡ true) → (a b : Slot) → HeldLink (IsJoin f c) (held_slot c) (join_one c) (join_closed c there) a b → InOneNet o (v.number c) (new_of c a) (new_of c b)
  new_link c there a b (inl h, ha, hb) = new_join c there a b h hb
  new_link c there a b (inr h, ha, hb) = net_back o (v.number c) (new_of c b) (new_of c a) (new_join c there b a h ha)

  new_net : (c : ℕ) → v.kept c ≡ true → (a b : Slot) → held_slot c a ≡ true → held_slot c b ≡ true → InOneNet f c a b → InOneNet o (v.number c) (new_of c a) (new_of c b)
  new_net c there a b ha hb h =
      along (HeldLink (IsJoin f c) (held_slot c) (join_one c) (join_closed c there)) (IsEitherJoin o (v.number c)) (new_of c) (new_link c there) a b
      (held_chain (IsJoin f c) (held_slot c) (join_one c) (join_closed c there) a b ha hb h)

  -- back
  abbrev old_slot : ℕ → List ℕ → ℕ → Slot
  old_slot c [] m = slot [] (v.net_back c m)
  old_slot c (e ∷ es) m = below (v.call_back c e) (old_slot (v.target c (v.call_back c e)) es m)

  abbrev old_of : ℕ → Slot → Slot
  old_of c s = old_slot c s.path s.net

  old_joins : (es : List ℕ) (c outer e inner : ℕ) → v.kept c ≡ true → Joins o (v.number c) es outer e inner → InOneNet f c (old_slot c es outer) (old_slot c (es ++ e ∷ []) inner)
  old_joins [] c outer e inner there (other, call, called, at, q, net, pin) =
      let m = (are.each c there).call_back e other call in
      let p = m.5 q outer inner net (called, at, pin) in
      let target = (are.each c there).target (v.call_back c e) m.0 m.1 in
      subst (λ (t : ℕ). InOneNet f c (slot [] (v.net_back c outer)) (slot (v.call_back c e ∷ []) (v.net_back t inner))) (sym target)
      (call_joins f c (v.call_back c e) m.0 p.0 (v.net_back c outer) (v.net_back m.0.circuit inner) m.1 p.1 p.2)
  old_joins (x ∷ xs) c outer e inner there (other, call, rest) =
      let m = (are.each c there).call_back x other call in
      let target = (are.each c there).target (v.call_back c x) m.0 m.1 in
      let rec = old_joins xs m.0.circuit outer e inner m.2 (subst (λ (t : ℕ). Joins o t xs outer e inner) m.4 rest) in
      let go = net_down f c (v.call_back c x) m.0 m.1 (old_slot m.0.circuit xs outer) (old_slot m.0.circuit (xs ++ e ∷ []) inner) rec in
      subst (λ (t : ℕ). InOneNet f c (below (v.call_back c x) (old_slot t xs outer)) (below (v.call_back c x) (old_slot t (xs ++ e ∷ []) inner))) (sym target) go

  old_either : (c : ℕ) → v.kept c ≡ true → (a b : Slot) → IsEitherJoin o (v.number c) a b → InOneNet f c (old_of c a) (old_of c b)
  old_either c there a b (inl h) = subst (λ (q : List ℕ). InOneNet f c (old_of c a) (old_slot c q b.net)) h.deeper (old_joins a.path c a.net h.number b.net there h.joins)
  old_either c there a b (inr h) = net_back f c (old_of c b) (old_of c a)
      (subst (λ (q : List ℕ). InOneNet f c (old_of c b) (old_slot c q a.net)) h.deeper (old_joins b.path c b.net h.number a.net there h.joins))

  old_net : (c : ℕ) → v.kept c ≡ true → (a b : Slot) → InOneNet o (v.number c) a b → InOneNet f c (old_of c a) (old_of c b)
  old_net c there a b h = along (IsEitherJoin o (v.number c)) (IsEitherJoin f c) (old_of c) (old_either c there) a b h

  old_new : (path : List ℕ) (c n : ℕ) → v.kept c ≡ true → IsHeldSlot f v c path n → old_slot c (new_slot v c path n).path (new_slot v c path n).net ≡ slot path n
  old_new [] c n there h = ap (slot []) ((are.each c there).net_back n h)
  old_new (k ∷ ks) c n there (row, call, kept, h) =
      let target = (are.each c there).target k row call in
      let m = (are.each c there).call k row call kept in
      let rec = old_new ks row.circuit n kept h in
      ap (λ (t : ℕ). below (v.call_back c (v.call c k)) (old_slot (v.target c (v.call_back c (v.call c k))) (new_slot v t ks n).path (new_slot v t ks n).net)) target
      ∙ (ap (λ (x : ℕ). below x (old_slot (v.target c x) (new_slot v row.circuit ks n).path (new_slot v row.circuit ks n).net)) m.3
      ∙ (ap (λ (t : ℕ). below k (old_slot t (new_slot v row.circuit ks n).path (new_slot v row.circuit ks n).net)) target ∙ ap (below k) rec))

  nets : (c : ℕ) → v.kept c ≡ true → (a b : Slot) → IsHeldSlot f v c a.path a.net → IsHeldSlot f v c b.path b.net → InOneNet f c a b ↔ InOneNet o (v.number c) (new_of c a) (new_of c b)
  nets c there a b ha hb = (
    (λ h. new_net c there a b (is_held a.path c a.net there ha) (is_held b.path c b.net there hb) h),
    (λ h.
        let x = old_of c (new_of c a) in
        let y = old_of c (new_of c b) in
        net_on f c a x b (net_same f c a x (sym (old_new a.path c a.net there ha)))
        (net_on f c x y b (old_net c there (new_of c a) (new_of c b) h) (net_same f c y b (old_new b.path c b.net there hb)))),
  )

  pins : (c : ℕ) → v.kept c ≡ true → (a : Slot) → IsHeldSlot f v c a.path a.net → IsOnPin f c a ↔ IsOnPin o (v.number c) (new_of c a)
  pins c there a ha = (
    (λ h.
        let held_a = is_held a.path c a.net there ha in
        let held : v.held c h.1 ≡ true =
        held_root (IsJoin f c) (held_slot c) (join_one c) (join_closed c there) a (slot [] h.1) held_a h.3 (λ u j. not_last u.path j.number j.deeper) in
        let q = (are.each c there).pin h.0 h.1 h.2 held in
        (q.0, v.net c h.1, q.1, new_net c there a (slot [] h.1) held_a held h.3)),
    (λ h.
        let p = (are.each c there).pin_back h.0 h.1 h.2 in
        let way : InOneNet o (v.number c) (new_of c a) (slot [] (v.net c p.1)) = subst (λ (m : ℕ). InOneNet o (v.number c) (new_of c a) (slot [] m)) (sym p.4) h.3 in
        (p.0, p.1, p.2, (nets c there a (slot [] p.1) ha p.3).1 way)),
  )

  -- devices
  kept_call : (c k : ℕ) (call : CallRow) (path : List ℕ) (j : ℕ) (row : DeviceRow) → v.kept c ≡ true → IsCall f c k call → HasDevice f call.circuit path j row → v.kept call.circuit ≡ true
  kept_call c k call path j row there is h = elim (cases_Bool (v.kept call.circuit)) [
    | inl y ↦ y
    | inr n ↦ absurd ((are.each c there).dead k call is n path j row h)
  ]

  terminal : (path : List ℕ) (c j n : ℕ) (row : DeviceRow) → v.kept c ≡ true → HasDevice f c path j row → IsListed n (terminal_nets row) → IsHeldSlot f v c path n
  terminal [] c j n row there h on = (are.each c there).terminal j n row h on
  terminal (k ∷ ks) c j n row there (call, is, h) on =
      let kept = kept_call c k call ks j row there is h in
      (call, is, kept, terminal ks call.circuit j n row kept h on)

  record Seen (c : ℕ) (path : List ℕ) (j : ℕ) (row : DeviceRow) : Type 0 where
    other : DeviceRow
    has : HasDevice o (v.number c) (new_path v c path) j other
    image : IsRowOver (λ a b. new_slot v c path a ≡ slot (new_path v c path) b) row other

  seen : (path : List ℕ) (c j : ℕ) (row : DeviceRow) → v.kept c ≡ true → HasDevice f c path j row → Seen c path j row
  seen [] c j row there h = record {
    other = row_over (v.net c) row;
    has = (are.each c there).device j row h;
    image = over_wider (λ n m. v.net c n ≡ m) (λ a b. new_slot v c [] a ≡ slot [] b) (λ n m e. ap (slot []) e) row (row_over (v.net c) row) (row_carried (v.net c) row);
  }
  seen (k ∷ ks) c j row there (call, is, h) =
      let kept = kept_call c k call ks j row there is h in
      let target = (are.each c there).target k call is in
      let m = (are.each c there).call k call is kept in
      let s = seen ks call.circuit j row kept h in
      record {
        other = s.other;
        has = (m.0, m.1, subst (λ (t : ℕ). HasDevice o m.0.circuit (new_path v t ks) j s.other) (sym target) (subst (λ (t : ℕ). HasDevice o t (new_path v call.circuit ks) j s.other) (sym m.2) s.has));
        image = over_wider (λ a b. new_slot v call.circuit ks a ≡ slot (new_path v call.circuit ks) b) (λ a b. new_slot v c (k ∷ ks) a ≡ slot (new_path v c (k ∷ ks)) b)
            (λ n m low. subst (λ (t : ℕ). below (v.call c k) (new_slot v t ks n) ≡ slot (v.call c k ∷ new_path v t ks) m) (sym target) (ap (below (v.call c k)) low)) row s.other s.image;
      }

  record Found (c : ℕ) (es : List ℕ) (j : ℕ) : Type 0 where
    path : List ℕ
    own : DeviceRow
    has : HasDevice f c path j own
    is : new_path v c path ≡ es

  found : (es : List ℕ) (c j : ℕ) (row : DeviceRow) → v.kept c ≡ true → HasDevice o (v.number c) es j row → Found c es j
  found [] c j row there h = let r = (are.each c there).device_back j row h in record { path = []; own = r.0; has = r.1; is = refl }
  found (e ∷ es) c j row there (other, is, h) =
      let m = (are.each c there).call_back e other is in
      let target = (are.each c there).target (v.call_back c e) m.0 m.1 in
      let r = found es m.0.circuit j row m.2 (subst (λ (t : ℕ). HasDevice o t es j row) m.4 h) in
      record {
        path = v.call_back c e ∷ r.path;
        own = r.own;
        has = (m.0, m.1, r.has);
        is = ap (λ (x : ℕ). x ∷ new_path v (v.target c (v.call_back c e)) r.path) m.3
            ∙ (ap (λ (t : ℕ). e ∷ new_path v t r.path) target ∙ ap (λ (q : List ℕ). e ∷ q) r.is);
      }

  path_one : (p q : List ℕ) (c i j : ℕ) (a b : DeviceRow) → v.kept c ≡ true → HasDevice f c p i a → HasDevice f c q j b → new_path v c p ≡ new_path v c q → p ≡ q
  path_one [] [] c i j a b there h g e = refl
  path_one [] (y ∷ ys) c i j a b there h g e = absurd cc
  path_one (x ∷ xs) [] c i j a b there h g e = absurd cc
  path_one (x ∷ xs) (y ∷ ys) c i j a b there (row, is, h) (row', is', g) e =
      let kept = kept_call c x row xs i a there is h in
      let kept' = kept_call c y row' ys j b there is' g in
      let head : v.call c x ≡ v.call c y = cc in
      let tail : new_path v (v.target c x) xs ≡ new_path v (v.target c y) ys = cc in
      let same : x ≡ y = sym ((are.each c there).call x row is kept).3 ∙ (ap (v.call_back c) head ∙ ((are.each c there).call y row' is' kept').3) in
      let one : row' ≡ row = one_call f c x row' row (subst (λ (z : ℕ). IsCall f c z row') (sym same) is') is in
      let tx = (are.each c there).target x row is in
      let ty : v.target c y ≡ row.circuit = (are.each c there).target y row' is' ∙ ap (λ (r : CallRow). r.circuit) one in
      let low : new_path v row.circuit xs ≡ new_path v row.circuit ys = ap (λ (t : ℕ). new_path v t xs) (sym tx) ∙ (tail ∙ ap (λ (t : ℕ). new_path v t ys) ty) in
      let rest : xs ≡ ys = path_one xs ys row.circuit i j a b kept h (subst (λ (r : CallRow). HasDevice f r.circuit ys j b) one g) low in
      cc

  pub pruned_expansion : (c : ℕ) → v.kept c ≡ true → IsPrunedExpansion f o v c
  pruned_expansion c there = record {
    terminal = λ path j n row h on. terminal path c j n row there h on;
    nets = nets c there;
    pins = pins c there;
    device = λ path j row h. let s = seen path c j row there h in (s.other, s.has, s.image);
    back = λ es j row h. let r = found es c j row there h in (r.path, r.own, r.has, r.is);
    one = λ p q i j a b h g e. path_one p q c i j a b there h g e;
  }

pub pruned : PruneLaw
pruned f o v are c there = pruned_expansion f o v are c there
