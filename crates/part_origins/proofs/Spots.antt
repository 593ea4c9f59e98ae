-- The circuits that stand inside flat ones, with their paths: what flat circuits have is what these have.
use Rattle.std.proofs.Common.{◌≡◌, inl, inr, ℕ, zero, suc, ◌<◌, Bool, true, false, cond, List, [], ◌∷◌, ◌++◌, map, Some, slice_get, refl, sym, ◌∙◌, ap, ap₂, subst, arith}
use Rattle.base_laws.proofs.Items.{map_to, map_from}
use Rattle.std.proofs.lemmas.Bool.{cases_Bool}
use Rattle.std.specs.Prelude.{flat_map}
use Rattle.std.proofs.lemmas.List.{map-append}
use Rattle.std.proofs.lemmas.Option.{none-some, same_Some}
use Rattle.std.proofs.lemmas.Simd.{map-map}
use Rattle.plain_netlist.specs.Lists.{IsListed}
use Rattle.plain_netlist.specs.Netlist.{DeviceRow, CallRow, Circuit, Netlist, IsCircuit, IsCall, Slot, slot}
use Rattle.plain_netlist.specs.Sound.{IsGood, IsCallPath}
use Rattle.plain_netlist.proofs.Members.{listed, position}
use Rattle.align_laws.specs.Flat.{Placing, CallFate, Stays, Goes, Maps, step, image, placed_net, net_image, call_through}
use Rattle.plain_netlist.specs.Devices.{row_over}
use Rattle.plain_netlist.proofs.Rows.{row_over_self, row_over_twice}
use Rattle.align_laws.specs.Lists.{DeviceAt, CallAt, FlatCircuit, indexed, pieces, joined_place, device_below, call_below, own_device, inner_devices, own_calls, inner_calls, net_in, given_of, row_of, placing_of, maps_of, AreFlat}
use Rattle.align_laws.specs.Words.{IsInside}
use Rattle.align_laws.proofs.CutList.{given_is, row_is}
use Rattle.align_laws.proofs.Listed.{fate_goes}
use Rattle.align_laws.proofs.Pieces.{piece_at, piece_of}
use Rattle.align_laws.proofs.Unique.{pieces_same}
use Rattle.part_origins.proofs.Joined.{map_indexed, map_pieces, flat_pieces, map_same}

-- a circuit at the end of a path, with the flat net that each of its nets is
pub record Stood : Type 0 where
  pub path : List ℕ
  pub circuit : ℕ
  pub net : ℕ → ℕ

abbrev pub below_spot : ℕ → (ℕ → ℕ) → Stood → Stood
below_spot k to s = record { path = k ∷ s.path; circuit = s.circuit; net = λ n. to (s.net n) }

abbrev pub own_spot : ℕ → Stood
own_spot c = record { path = []; circuit = c; net = λ n. n }

-- its devices and calls, as the flat circuit has them
abbrev pub device_at : Stood → ℕ → DeviceRow → DeviceAt
device_at s j row = record { from = slot s.path j; row = row_over s.net row }

abbrev pub device_list : Netlist → Stood → List DeviceAt
device_list g s = indexed (device_at s) (given_of g s.circuit).devices

abbrev pub call_at : Stood → ℕ → CallRow → CallAt
call_at s k row = record { way = s.path ++ k ∷ []; row = call_through s.net row }

abbrev pub call_list : Netlist → (ℕ → Bool) → Stood → List CallAt
call_list g goes s = pieces (λ k r. cond (goes r.circuit) [] (call_at s k r ∷ [])) (given_of g s.circuit).calls

pub there : (g : Netlist) (c : ℕ) (x : Circuit) → IsCircuit g c x → IsCircuit g c (given_of g c)
there g c x is = is ∙ ap Some (sym (given_is g c x is))

indexed_same : {A B : Type 0} (f h : ℕ → A → B) (xs : List A) → ((k : ℕ) (x : A) → f k x ≡ h k x) → indexed f xs ≡ indexed h xs
indexed_same f h [] e = refl
indexed_same {B = B} f h (x ∷ xs) e = ap₂ (λ (y : B) (ys : List B). y ∷ ys) (e 0 x) (indexed_same (λ k. f (suc k)) (λ k. h (suc k)) xs (λ k z. e (suc k) z))

-- a device seen from its own circuit, and one call further out
own_seen : (c j : ℕ) (row : DeviceRow) → own_device j row ≡ device_at (own_spot c) j row
own_seen c j row = ap (λ (r : DeviceRow). let z : DeviceAt = record { from = slot [] j; row = r } in z) (sym (row_over_self row))

further_seen : (k : ℕ) (to : ℕ → ℕ) (s : Stood) (j : ℕ) (row : DeviceRow) → device_below k to (device_at s j row) ≡ device_at (below_spot k to s) j row
further_seen k to s j row = ap (λ (r : DeviceRow). let z : DeviceAt = record { from = slot (k ∷ s.path) j; row = r } in z) (row_over_twice to s.net row)

same_call : (r : CallRow) → r ≡ call_through (λ n. n) r
same_call r = ap (λ (ns : List ℕ). let z : CallRow = record { circuit = r.circuit; nets = ns } in z) (sym (map_same r.nets))

module _ (g : Netlist) (goes : ℕ → Bool) (flats : ℕ → FlatCircuit) where
  -- those that call k brings
  abbrev pub inner_spots : (ℕ → List Stood) → ℕ → ℕ → CallRow → List Stood
  inner_spots S c k r = cond (goes r.circuit) (map (below_spot k (net_in goes flats (given_of g c) k r)) (S r.circuit)) []

  abbrev pub spots_by : ℕ → ℕ → List Stood
  spots_by zero c = []
  spots_by (suc m) c = own_spot c ∷ pieces (inner_spots (spots_by m) c) (given_of g c).calls

  -- devices
  devices_below : (k : ℕ) (to : ℕ → ℕ) (ss : List Stood) → map (device_below k to) (flat_map (device_list g) ss) ≡ flat_map (device_list g) (map (below_spot k to) ss)
  devices_below k to [] = refl
  devices_below k to (s ∷ ss) =
      map-append (device_below k to) (device_list g s) (flat_map (device_list g) ss)
      ∙ ap₂ (λ (p q : List DeviceAt). p ++ q) (map_indexed (device_below k to) (device_at s) (given_of g s.circuit).devices
      ∙ indexed_same _ (device_at (below_spot k to s)) (given_of g s.circuit).devices (λ j row. further_seen k to s j row)) (devices_below k to ss)

  devices_in : (k : ℕ) (to : ℕ → ℕ) (ds : List DeviceAt) (ss : List Stood) → ds ≡ flat_map (device_list g) ss → (b : Bool)
      → cond b (map (device_below k to) ds) [] ≡ flat_map (device_list g) (cond b (map (below_spot k to) ss) [])
  devices_in k to ds ss e true = ap (map (device_below k to)) e ∙ devices_below k to ss
  devices_in k to ds ss e false = refl

  -- calls
  one_call : (k : ℕ) (to : ℕ → ℕ) (s : Stood) (j : ℕ) (r : CallRow) (b : Bool) → map (call_below k to) (cond b [] (call_at s j r ∷ [])) ≡ cond b [] (call_at (below_spot k to s) j r ∷ [])
  one_call k to s j r true = refl
  one_call k to s j r false = ap (λ (ns : List ℕ). let y : CallAt = record { way = k ∷ (s.path ++ j ∷ []); row = record { circuit = r.circuit; nets = ns } } in y ∷ []) (map-map to s.net r.nets)

  calls_below : (k : ℕ) (to : ℕ → ℕ) (ss : List Stood) → map (call_below k to) (flat_map (call_list g goes) ss) ≡ flat_map (call_list g goes) (map (below_spot k to) ss)
  calls_below k to [] = refl
  calls_below k to (s ∷ ss) =
      map-append (call_below k to) (call_list g goes s) (flat_map (call_list g goes) ss)
      ∙ ap₂ (λ (p q : List CallAt). p ++ q)
      (map_pieces (call_below k to) (λ j r. cond (goes r.circuit) [] (call_at s j r ∷ [])) (given_of g s.circuit).calls
      ∙ pieces_same _ _ (given_of g s.circuit).calls (λ j r at. one_call k to s j r (goes r.circuit)))
      (calls_below k to ss)

  calls_in : (k : ℕ) (to : ℕ → ℕ) (cs : List CallAt) (ss : List Stood) → cs ≡ flat_map (call_list g goes) ss → (b : Bool)
      → cond b (map (call_below k to) cs) [] ≡ flat_map (call_list g goes) (cond b (map (below_spot k to) ss) [])
  calls_in k to cs ss e true = ap (map (call_below k to)) e ∙ calls_below k to ss
  calls_in k to cs ss e false = refl

  -- where a spot that a call brings is from
  pub record Brought (S : ℕ → List Stood) (c q : ℕ) (s : Stood) : Type 0 where
    pub call : ℕ
    pub row : CallRow
    pub is : slice_get (given_of g c).calls call ≡ Some row
    pub gone : goes row.circuit ≡ true
    pub number : ℕ
    pub old : Stood
    pub at : slice_get (S row.circuit) number ≡ Some old
    pub brought : below_spot call (net_in goes flats (given_of g c) call row) old ≡ s
    pub place : joined_place (inner_spots S c) (given_of g c).calls call number ≡ q

  pub brought_by : (S : ℕ → List Stood) (c q : ℕ) (s : Stood) → slice_get (pieces (inner_spots S c) (given_of g c).calls) q ≡ Some s → Brought S c q s
  brought_by S c q s h =
      let p = piece_of (inner_spots S c) (given_of g c).calls q s h in
      let to : ℕ → ℕ = net_in goes flats (given_of g c) p.item p.of in
      elim (cases_Bool (goes p.of.circuit)) [
        | inl t ↦
            let item : slice_get (map (below_spot p.item to) (S p.of.circuit)) p.number ≡ Some s = subst (λ (b : Bool). slice_get (cond b (map (below_spot p.item to) (S p.of.circuit)) []) p.number ≡ Some s) t p.at in
            let o = map_from (below_spot p.item to) (S p.of.circuit) p.number s item in
            record { call = p.item; row = p.of; is = p.is; gone = t; number = p.number; old = o.0; at = o.1; brought = o.2; place = p.there }
        | inr t ↦ absurd (none-some s (subst (λ (b : Bool). slice_get (cond b (map (below_spot p.item to) (S p.of.circuit)) []) p.number ≡ Some s) t p.at))
      ]

  pub bring : (S : ℕ → List Stood) (c k : ℕ) (r : CallRow) (s : Stood) → slice_get (given_of g c).calls k ≡ Some r → goes r.circuit ≡ true → IsListed s (S r.circuit)
      → IsListed (below_spot k (net_in goes flats (given_of g c) k r) s) (pieces (inner_spots S c) (given_of g c).calls)
  bring S c k r s at t h =
      let to : ℕ → ℕ = net_in goes flats (given_of g c) k r in
      let p = position (S r.circuit) s h in
      let one : slice_get (inner_spots S c k r) p.0 ≡ Some (below_spot k to s) = subst (λ (b : Bool). slice_get (cond b (map (below_spot k to) (S r.circuit)) []) p.0 ≡ Some (below_spot k to s)) (sym t) (map_to (below_spot k to) (S r.circuit) p.0 s p.1) in
      listed (pieces (inner_spots S c) (given_of g c).calls) (joined_place (inner_spots S c) (given_of g c).calls k p.0) (below_spot k to s)
      (piece_at (inner_spots S c) (given_of g c).calls k p.0 r (below_spot k to s) at one)

  -- what holds of a spot
  pub record IsRight (c : ℕ) (s : Stood) : Type 0 where
    pub inside : IsInside g (maps_of g goes flats) c s.path
    pub ends : IsCallPath g c s.path s.circuit
    pub there : IsCircuit g s.circuit (given_of g s.circuit)
    pub nets : (n : ℕ) → net_image (maps_of g goes flats) c (slot s.path n) ≡ slot [] (s.net n)

module _ (g f : Netlist) (goes : ℕ → Bool) (flats : ℕ → FlatCircuit) (good : IsGood g (λ k. k)) (flat : AreFlat g f goes flats) where
  abbrev v : Maps
  v = maps_of g goes flats

  abbrev spots : ℕ → ℕ → List Stood
  spots = spots_by g goes flats

  abbrev inner : ℕ → ℕ → ℕ → CallRow → List Stood
  inner m = inner_spots g goes flats (spots m)

  called : (c k : ℕ) (r : CallRow) → IsCircuit g c (given_of g c) → slice_get (given_of g c).calls k ≡ Some r → IsCircuit g r.circuit (given_of g r.circuit)
  called c k r is at = let d = good.called c k r (given_of g c, is, at) in there g r.circuit d.0 d.1

  lower : (m c k : ℕ) (r : CallRow) → c < suc m → IsCircuit g c (given_of g c) → slice_get (given_of g c).calls k ≡ Some r → r.circuit < m
  lower m c k r low is at = let l = good.lower c k r (given_of g c, is, at) in omega arith

  pub devices_are : (m c : ℕ) → c < m → IsCircuit g c (given_of g c) → (flats c).devices ≡ flat_map (device_list g) (spots m c)
  devices_are zero c low is = absurd (omega arith)
  devices_are (suc m) c low is =
      let x : Circuit = given_of g c in
      ap (λ (z : FlatCircuit). z.devices) (flat.each c x is)
      ∙ ap₂ (λ (p q : List DeviceAt). p ++ q) (indexed_same own_device (device_at (own_spot c)) x.devices (λ j row. own_seen c j row))
      (pieces_same (inner_devices goes flats x) (λ k r. flat_map (device_list g) (inner m c k r)) x.calls
      (λ k r at. devices_in g goes flats k (net_in goes flats x k r) (flats r.circuit).devices (spots m r.circuit) (devices_are m r.circuit (lower m c k r low is at) (called c k r is at)) (goes r.circuit))
      ∙ sym (flat_pieces (device_list g) (inner m c) x.calls))

  pub calls_are : (m c : ℕ) → c < m → IsCircuit g c (given_of g c) → (flats c).calls ≡ flat_map (call_list g goes) (spots m c)
  calls_are zero c low is = absurd (omega arith)
  calls_are (suc m) c low is =
      let x : Circuit = given_of g c in
      ap (λ (z : FlatCircuit). z.calls) (flat.each c x is)
      ∙ ap₂ (λ (p q : List CallAt). p ++ q)
      (pieces_same (own_calls goes flats) (λ k r. cond (goes r.circuit) [] (call_at (own_spot c) k r ∷ [])) x.calls
      (λ k r at. ap (λ (w : CallRow). cond (goes r.circuit) [] (let y : CallAt = record { way = k ∷ []; row = w } in y ∷ [])) (same_call r)))
      (pieces_same (inner_calls goes flats x) (λ k r. flat_map (call_list g goes) (inner m c k r)) x.calls
      (λ k r at. calls_in g goes flats k (net_in goes flats x k r) (flats r.circuit).calls (spots m r.circuit) (calls_are m r.circuit (lower m c k r low is at) (called c k r is at)) (goes r.circuit))
      ∙ sym (flat_pieces (call_list g goes) (inner m c) x.calls))

  below_right : (c k : ℕ) (r : CallRow) (s : Stood) → IsCircuit g c (given_of g c) → slice_get (given_of g c).calls k ≡ Some r → goes r.circuit ≡ true → IsRight g goes flats r.circuit s
      → IsRight g goes flats c (below_spot k (net_in goes flats (given_of g c) k r) s)
  below_right c k r s is at t h =
      let x : Circuit = given_of g c in
      let call : IsCall g c k r = (x, is, at) in
      let i : Placing = placing_of goes flats x k r in
      let fate : v.fate c k ≡ Goes i = fate_goes g f goes flats (λ k. k) good flat c k x r is call t in
      let target : v.target c k ≡ r.circuit = ap (λ (z : CallRow). z.circuit) (row_is g c k r call) in
      record {
        inside = (r, call, i, fate, h.inside);
        ends = (r, call, h.ends);
        there = h.there;
        nets = λ n.
            ap (λ (z : CallFate). step placed_net z (image v placed_net (v.target c k) s.path n)) fate
            ∙ (ap (λ (d : ℕ). step placed_net (Goes i) (image v placed_net d s.path n)) target
            ∙ ap (λ (z : Slot). step placed_net (Goes i) z) (h.nets n));
      }

  own_right : (c : ℕ) → IsCircuit g c (given_of g c) → IsRight g goes flats c (own_spot c)
  own_right c is = record { inside = tt; ends = refl; there = is; nets = λ n. refl }

  pub all_right : (m c : ℕ) (s : Stood) → c < m → IsCircuit g c (given_of g c) → IsListed s (spots m c) → IsRight g goes flats c s
  all_right zero c s low is h = absurd h
  all_right (suc m) c s low is (inl e) = subst (λ (y : Stood). IsRight g goes flats c y) (sym e) (own_right c is)
  all_right (suc m) c s low is (inr h) =
      let q = position (pieces (inner m c) (given_of g c).calls) s h in
      let b = brought_by g goes flats (spots m) c q.0 s q.1 in
      let old = all_right m b.row.circuit b.old (lower m c b.call b.row low is b.is) (called c b.call b.row is b.is) (listed (spots m b.row.circuit) b.number b.old b.at) in
      subst (λ (y : Stood). IsRight g goes flats c y) b.brought (below_right c b.call b.row b.old is b.is b.gone old)

  pub found : (path : List ℕ) (m c : ℕ) → c < m → IsCircuit g c (given_of g c) → IsInside g v c path → (s : Stood) × IsListed s (spots m c) × (s.path ≡ path)
  found path zero c low is h = absurd (omega arith)
  found [] (suc m) c low is h = (own_spot c, inl refl, refl)
  found (k ∷ ks) (suc m) c low is (r, call, i, fate, h) =
      let at : slice_get (given_of g c).calls k ≡ Some r = subst (λ (z : Circuit). slice_get z.calls k ≡ Some r) (sym (given_is g c call.0 call.1)) call.2 in
      let row : row_of g c k ≡ r = row_is g c k r call in
      elim (cases_Bool (goes r.circuit)) [
        | inl t ↦
            let s = found ks m r.circuit (lower m c k r low is at) (called c k r is at) h in
            (below_spot k (net_in goes flats (given_of g c) k r) s.0, inr (bring g goes flats (spots m) c k r s.0 at t s.1), ap (λ (p : List ℕ). k ∷ p) s.2)
        | inr t ↦
            let stays : v.fate c k ≡ Stays (joined_place (own_calls goes flats) (given_of g c).calls k 0)
            = ap (λ (b : Bool). cond b (Goes (placing_of goes flats (given_of g c) k (row_of g c k))) (Stays (joined_place (own_calls goes flats) (given_of g c).calls k 0))) (ap (λ (z : CallRow). goes z.circuit) row ∙ t) in
            absurd (let e : Stays (joined_place (own_calls goes flats) (given_of g c).calls k 0) ≡ Goes i = sym stays ∙ fate in cc)
      ]

  no_call : (k : ℕ) (ks : List ℕ) → [] ≡ k ∷ ks → ⊥
  no_call k ks e = cc

  pub once : (m c i j : ℕ) (s t : Stood) → c < m → IsCircuit g c (given_of g c) → slice_get (spots m c) i ≡ Some s → slice_get (spots m c) j ≡ Some t → s.path ≡ t.path → i ≡ j
  once zero c i j s t low is h k e = absurd (omega arith)
  once (suc m) c zero zero s t low is h k e = refl
  once (suc m) c zero (suc j) s t low is h k e =
      let b = brought_by g goes flats (spots m) c j t k in
      let own : own_spot c ≡ s = same_Some _ _ h in
      absurd (no_call b.call b.old.path (ap (λ (y : Stood). y.path) own ∙ (e ∙ ap (λ (y : Stood). y.path) (sym b.brought))))
  once (suc m) c (suc i) zero s t low is h k e =
      let b = brought_by g goes flats (spots m) c i s h in
      let own : own_spot c ≡ t = same_Some _ _ k in
      absurd (no_call b.call b.old.path (ap (λ (y : Stood). y.path) own ∙ (sym e ∙ ap (λ (y : Stood). y.path) (sym b.brought))))
  once (suc m) c (suc i) (suc j) s t low is h k e =
      let a = brought_by g goes flats (spots m) c i s h in
      let b = brought_by g goes flats (spots m) c j t k in
      let path : a.call ∷ a.old.path ≡ b.call ∷ b.old.path = ap (λ (y : Stood). y.path) a.brought ∙ (e ∙ ap (λ (y : Stood). y.path) (sym b.brought)) in
      let call : a.call ≡ b.call = cc in
      let rest : a.old.path ≡ b.old.path = cc in
      let row : a.row ≡ b.row = same_Some _ _ (sym a.is ∙ (ap (slice_get (given_of g c).calls) call ∙ b.is)) in
      let there : slice_get (spots m a.row.circuit) b.number ≡ Some b.old = subst (λ (r : CallRow). slice_get (spots m r.circuit) b.number ≡ Some b.old) (sym row) b.at in
      let number = once m a.row.circuit a.number b.number a.old b.old (lower m c a.call a.row low is a.is) (called c a.call a.row is a.is) a.at there rest in
      ap suc (sym a.place ∙ (ap₂ (λ (u w : ℕ). joined_place (inner m c) (given_of g c).calls u w) call number ∙ b.place))
