-- The devices and kept calls of a flat circuit, with their nets as the places that these are from: a recursion over the calls alone.
use Rattle.std.proofs.Common.{◌≡◌, inl, inr, ℕ, suc, Bool, true, false, cond, List, [], ◌∷◌, ◌++◌, map, Some, slice_get, refl, sym, ◌∙◌, ap, ap₂}
use Rattle.base_laws.proofs.Items.{map_to}
use Rattle.base_laws.proofs.Tests.{not_both}
use Rattle.std.proofs.lemmas.List.{map-append}
use Rattle.plain_netlist.specs.Netlist.{DeviceRow, CallRow, Circuit, Netlist, IsCircuit, IsCall, IsDevice, Slot, slot}
use Rattle.plain_netlist.specs.Sound.{IsGood, HasDevices, IsCalledFrom}
use Rattle.plain_netlist.specs.Lists.{IsListed}
use Rattle.plain_netlist.specs.Devices.{Row, terminal_nets, row_over}
use Rattle.plain_netlist.proofs.Rows.{row_over_twice, row_over_agrees}
use Rattle.align_laws.specs.Flat.{AreInlined, call_through}
use Rattle.align_laws.specs.Lists.{DeviceAt, CallAt, FlatCircuit, indexed, pieces, device_below, call_below, own_device, inner_devices, own_calls, inner_calls, net_in, plain, AreFlat, maps_of}
use Rattle.align_laws.specs.Words.{IsWay}
use Rattle.align_laws.proofs.InnerCalls.{inner_calls as calls_inside}
use Rattle.align_laws.proofs.Kept.{MayGo, has_devices}
use Rattle.align_laws.proofs.Listed.{listed}
use Rattle.align_laws.proofs.Origins.{enter, from, own_from, brought_from}
use Rattle.align_laws.proofs.Unique.{pieces_same}

-- a device with its nets as places
abbrev pub Seen : Type 0
Seen = Row Slot

abbrev pub seen : (ℕ → Slot) → DeviceRow → Seen
seen o r = row_over o r

abbrev pub seen_on : (Slot → Slot) → Seen → Seen
seen_on e r = row_over e r

-- and a call
pub record SeenCall : Type 0 where
  pub circuit : ℕ
  pub nets : List Slot

abbrev pub seen_call : (ℕ → Slot) → CallRow → SeenCall
seen_call o r = record { circuit = r.circuit; nets = map o r.nets }

abbrev pub call_on : (Slot → Slot) → SeenCall → SeenCall
call_on e r = record { circuit = r.circuit; nets = map e r.nets }

-- the calls of kept circuits
abbrev pub keep : (ℕ → Bool) → List CallRow → List CallRow
keep kept [] = []
keep kept (r ∷ rs) = cond (kept r.circuit) (r ∷ keep kept rs) (keep kept rs)

-- lists
map_pieces : {A B C : Type 0} (h : B → C) (f : ℕ → A → List B) (xs : List A) → map h (pieces f xs) ≡ pieces (λ k x. map h (f k x)) xs
map_pieces h f [] = refl
map_pieces {C = C} h f (x ∷ xs) = map-append h (f 0 x) (pieces (λ k. f (suc k)) xs) ∙ ap (λ (ys : List C). map h (f 0 x) ++ ys) (map_pieces h (λ k. f (suc k)) xs)

rows_own : (f : ℕ → DeviceRow → DeviceAt) (xs : List DeviceRow) → ((k : ℕ) (x : DeviceRow) → (f k x).row ≡ x) → map (λ (d : DeviceAt). d.row) (indexed f xs) ≡ xs
rows_own f [] h = refl
rows_own f (x ∷ xs) h = ap₂ (λ (y : DeviceRow) (ys : List DeviceRow). y ∷ ys) (h 0 x) (rows_own (λ k. f (suc k)) xs (λ k. h (suc k)))

pub map_same_at : {A B : Type 0} (f g : A → B) (xs : List A) → ((i : ℕ) (x : A) → slice_get xs i ≡ Some x → f x ≡ g x) → map f xs ≡ map g xs
map_same_at f g [] h = refl
map_same_at {A} {B} f g (x ∷ xs) h = ap₂ (λ (z : B) (zs : List B). z ∷ zs) (h 0 x refl) (map_same_at f g xs (λ i y e. h (suc i) y e))

append_if : (b : Bool) (x : CallRow) (us vs ws : List CallRow) → us ≡ vs ++ ws → cond b (x ∷ us) us ≡ cond b (x ∷ vs) vs ++ ws
append_if true x us vs ws h = ap (λ (zs : List CallRow). x ∷ zs) h
append_if false x us vs ws h = h

keep_append : (kept : ℕ → Bool) (xs ys : List CallRow) → keep kept (xs ++ ys) ≡ keep kept xs ++ keep kept ys
keep_append kept [] ys = refl
keep_append kept (x ∷ xs) ys = append_if (kept x.circuit) x (keep kept (xs ++ ys)) (keep kept xs) (keep kept ys) (keep_append kept xs ys)

keep_pieces : {A : Type 0} (kept : ℕ → Bool) (f : ℕ → A → List CallRow) (xs : List A) → keep kept (pieces f xs) ≡ pieces (λ k x. keep kept (f k x)) xs
keep_pieces kept f [] = refl
keep_pieces kept f (x ∷ xs) = keep_append kept (f 0 x) (pieces (λ k. f (suc k)) xs) ∙ ap (λ (ys : List CallRow). keep kept (f 0 x) ++ ys) (keep_pieces kept (λ k. f (suc k)) xs)

pub keep_none : (kept : ℕ → Bool) (rows : List CallRow) → ((i : ℕ) (r : CallRow) → slice_get rows i ≡ Some r → kept r.circuit ≡ false) → keep kept rows ≡ []
keep_none kept [] h = refl
keep_none kept (r ∷ rs) h = ap (λ (b : Bool). cond b (r ∷ keep kept rs) (keep kept rs)) (h 0 r refl) ∙ keep_none kept rs (λ i y e. h (suc i) y e)

pub empty : {A : Type 0} (xs : List A) → ((i : ℕ) (x : A) → slice_get xs i ≡ Some x → ⊥) → xs ≡ []
empty [] h = refl
empty (x ∷ xs) h = absurd (h 0 x refl)

-- devices and calls put through a map and seen are seen and put through another
seen_same : (o : ℕ → Slot) (e : Slot → Slot) (p : ℕ → Slot) (to : ℕ → ℕ) (r : DeviceRow) → ((n : ℕ) → IsListed n (terminal_nets r) → o (to n) ≡ e (p n)) → seen o (row_over to r) ≡ seen_on e (seen p r)
seen_same o e p to r h = row_over_twice o to r ∙ (row_over_agrees (λ n. o (to n)) (λ n. e (p n)) r h ∙ sym (row_over_twice e p r))

inner_rows : (o : ℕ → Slot) (e : Slot → Slot) (p : ℕ → Slot) (to : ℕ → ℕ) (k : ℕ) (ds : List DeviceAt) → ((j : ℕ) (d : DeviceAt) → slice_get ds j ≡ Some d → (n : ℕ) → IsListed n (terminal_nets d.row) → o (to n) ≡ e (p n))
    → map (seen o) (map (λ (d : DeviceAt). d.row) (map (device_below k to) ds)) ≡ map (seen_on e) (map (seen p) (map (λ (d : DeviceAt). d.row) ds))
inner_rows o e p to k [] h = refl
inner_rows o e p to k (d ∷ ds) h = ap₂ (λ (y : Seen) (ys : List Seen). y ∷ ys) (seen_same o e p to d.row (h 0 d refl)) (inner_rows o e p to k ds (λ j x i. h (suc j) x i))

nets_through : (o : ℕ → Slot) (e : Slot → Slot) (p : ℕ → Slot) (to : ℕ → ℕ) (ns : List ℕ) → ((i n : ℕ) → slice_get ns i ≡ Some n → o (to n) ≡ e (p n)) → map o (map to ns) ≡ map e (map p ns)
nets_through o e p to [] h = refl
nets_through o e p to (n ∷ ns) h = ap₂ (λ (y : Slot) (ys : List Slot). y ∷ ys) (h 0 n refl) (nets_through o e p to ns (λ i m g. h (suc i) m g))

kept_if : (f h : CallRow → SeenCall) (b : Bool) (x y : CallRow) (xs ys : List CallRow) → f x ≡ h y → map f xs ≡ map h ys → map f (cond b (x ∷ xs) xs) ≡ map h (cond b (y ∷ ys) ys)
kept_if f h true x y xs ys first rest = ap₂ (λ (z : SeenCall) (zs : List SeenCall). z ∷ zs) first rest
kept_if f h false x y xs ys first rest = rest

both_maps : (e : Slot → Slot) (p : ℕ → Slot) (rows : List CallRow) → map (λ r. call_on e (seen_call p r)) rows ≡ map (call_on e) (map (seen_call p) rows)
both_maps e p [] = refl
both_maps e p (r ∷ rs) = ap (λ (ys : List SeenCall). call_on e (seen_call p r) ∷ ys) (both_maps e p rs)

inner_each : (kept : ℕ → Bool) (o : ℕ → Slot) (e : Slot → Slot) (p : ℕ → Slot) (to : ℕ → ℕ) (k : ℕ) (cs : List CallAt) → ((j : ℕ) (c : CallAt) → slice_get cs j ≡ Some c → (i n : ℕ) → slice_get c.row.nets i ≡ Some n → o (to n) ≡ e (p n))
    → map (seen_call o) (keep kept (map (λ (c : CallAt). c.row) (map (call_below k to) cs))) ≡ map (λ r. call_on e (seen_call p r)) (keep kept (map (λ (c : CallAt). c.row) cs))
inner_each kept o e p to k [] h = refl
inner_each kept o e p to k (c ∷ cs) h =
    kept_if (seen_call o) (λ r. call_on e (seen_call p r)) (kept c.row.circuit) (call_through to c.row) c.row
    (keep kept (map (λ (c : CallAt). c.row) (map (call_below k to) cs))) (keep kept (map (λ (c : CallAt). c.row) cs))
    (ap (λ (ns : List Slot). let y : SeenCall = record { circuit = c.row.circuit; nets = ns } in y) (nets_through o e p to c.row.nets (h 0 c refl)))
    (inner_each kept o e p to k cs (λ j x i. h (suc j) x i))

inner_kept : (kept : ℕ → Bool) (o : ℕ → Slot) (e : Slot → Slot) (p : ℕ → Slot) (to : ℕ → ℕ) (k : ℕ) (cs : List CallAt) → ((j : ℕ) (c : CallAt) → slice_get cs j ≡ Some c → (i n : ℕ) → slice_get c.row.nets i ≡ Some n → o (to n) ≡ e (p n))
    → map (seen_call o) (keep kept (map (λ (c : CallAt). c.row) (map (call_below k to) cs))) ≡ map (call_on e) (map (seen_call p) (keep kept (map (λ (c : CallAt). c.row) cs)))
inner_kept kept o e p to k cs h = inner_each kept o e p to k cs h ∙ both_maps e p (keep kept (map (λ (c : CallAt). c.row) cs))

-- a circuit without devices in or below it, from which no kept one is called: it brings nothing
pub record IsIdle (g : Netlist) (kept : ℕ → Bool) (c : ℕ) : Type 0 where
  pub none : HasDevices g c → ⊥
  pub kept_none : (d : ℕ) → IsCalledFrom g c d → kept d ≡ false

module _ (g f : Netlist) (goes : ℕ → Bool) (flats : ℕ → FlatCircuit) (height : ℕ → ℕ) (good : IsGood g height) (flat : AreFlat g f goes flats) (kept : ℕ → Bool) (may : MayGo g kept goes) where
  abbrev origin : ℕ → ℕ → Slot
  origin = from g f goes flats height good flat

  are : AreInlined g f (maps_of g goes flats) height
  are = listed g f goes flats height good flat

  abbrev pub device_view : ℕ → List Seen
  device_view c = map (seen (origin c)) (plain (flats c)).devices

  abbrev pub call_view : ℕ → List SeenCall
  call_view c = map (seen_call (origin c)) (keep kept (plain (flats c)).calls)

  device_there : (c j : ℕ) (x : Circuit) (d : DeviceAt) → IsCircuit g c x → slice_get (flats c).devices j ≡ Some d → IsDevice f c j d.row
  device_there c j x d is h = (plain (flats c), flat.there c x is, map_to (λ (d : DeviceAt). d.row) (flats c).devices j d h)

  call_there : (c j : ℕ) (x : Circuit) (r : CallAt) → IsCircuit g c x → slice_get (flats c).calls j ≡ Some r → IsCall f c j r.row
  call_there c j x r is h = (plain (flats c), flat.there c x is, map_to (λ (r : CallAt). r.row) (flats c).calls j r h)

  devices_in : (c k : ℕ) (x : Circuit) (row : CallRow) → IsCircuit g c x → slice_get x.calls k ≡ Some row → map (seen (origin c)) (map (λ (d : DeviceAt). d.row) (inner_devices goes flats x k row)) ≡ cond (goes row.circuit) (map (seen_on (enter k row)) (device_view row.circuit)) []
  devices_in c k x row is at = known (goes row.circuit) refl
    where
      known : (b : Bool) → goes row.circuit ≡ b
          → map (seen (origin c)) (map (λ (d : DeviceAt). d.row) (cond b (map (device_below k (net_in goes flats x k row)) (flats row.circuit).devices) []))
          ≡ cond b (map (seen_on (enter k row)) (device_view row.circuit)) []
      known true t =
          let call : IsCall g c k row = (x, is, at) in
          let d = good.called c k row call in
          inner_rows (origin c) (enter k row) (origin row.circuit) (net_in goes flats x k row) k (flats row.circuit).devices (λ j y h n on.
          brought_from g f goes flats height good flat c k n x row is call t (are.flat_within.devices row.circuit j n y.row (device_there row.circuit j d.0 y d.1 h) on))
      known false t = refl

  -- the devices of a flat circuit: its own, then those that the flattened calls bring
  pub devices_by : (c : ℕ) (x : Circuit) → IsCircuit g c x
      → device_view c ≡ map (seen (slot [])) x.devices ++ pieces (λ k row. cond (goes row.circuit) (map (seen_on (enter k row)) (device_view row.circuit)) []) x.calls
  devices_by c x is =
      let row_of : DeviceAt → DeviceRow = λ d. d.row in
      let o = origin c in
      ap (λ (z : FlatCircuit). map (seen o) (map row_of z.devices)) (flat.each c x is)
      ∙ (ap (map (seen o)) (map-append row_of (indexed own_device x.devices) (pieces (inner_devices goes flats x) x.calls))
      ∙ (map-append (seen o) (map row_of (indexed own_device x.devices)) (map row_of (pieces (inner_devices goes flats x) x.calls))
      ∙ ap₂ (λ (us vs : List Seen). us ++ vs)
      (ap (map (seen o)) (rows_own own_device x.devices (λ k y. refl)) ∙ map_same_at (seen o) (seen (slot [])) x.devices (λ j row h. row_over_agrees o (slot []) row (λ n on. own_from g f goes flats height good flat c n (good.within.devices c j n row (x, is, h) on))))
      (ap (map (seen o)) (map_pieces row_of (inner_devices goes flats x) x.calls)
      ∙ (map_pieces (seen o) (λ k row. map row_of (inner_devices goes flats x k row)) x.calls
      ∙ pieces_same _ _ x.calls (λ k row at. devices_in c k x row is at)))))

  own_in : (c k : ℕ) (x : Circuit) (row : CallRow) → IsCircuit g c x → slice_get x.calls k ≡ Some row
      → map (seen_call (origin c)) (keep kept (map (λ (r : CallAt). r.row) (own_calls goes flats k row))) ≡ cond (kept row.circuit) (seen_call (slot []) row ∷ []) []
  own_in c k x row is at = known (kept row.circuit) (goes row.circuit) refl refl
    where
      left : Bool → Bool → List SeenCall
      left a b = map (seen_call (origin c)) (keep kept (map (λ (r : CallAt). r.row) (cond b [] (record { way = k ∷ []; row = row } ∷ []))))

      one : (a : Bool) → kept row.circuit ≡ a → map (seen_call (origin c)) (keep kept (row ∷ [])) ≡ cond a (seen_call (origin c) row ∷ []) []
      one a e = ap (λ (t : Bool). map (seen_call (origin c)) (cond t (row ∷ []) [])) e ∙ both a
        where
          both : (a : Bool) → map (seen_call (origin c)) (cond a (row ∷ []) []) ≡ cond a (seen_call (origin c) row ∷ []) []
          both true = refl
          both false = refl

      nets : seen_call (origin c) row ≡ seen_call (slot []) row
      nets = ap (λ (ns : List Slot). let y : SeenCall = record { circuit = row.circuit; nets = ns } in y)
          (map_same_at (origin c) (slot []) row.nets (λ p n h. own_from g f goes flats height good flat c n (good.within.calls c k p n row (x, is, at) h)))

      known : (a b : Bool) → kept row.circuit ≡ a → goes row.circuit ≡ b
          → map (seen_call (origin c)) (keep kept (map (λ (r : CallAt). r.row) (cond b [] (record { way = k ∷ []; row = row } ∷ [])))) ≡ cond a (seen_call (slot []) row ∷ []) []
      known true true e t = absurd (not_both (goes row.circuit) t (may.stay row.circuit e))
      known false true e t = refl
      known true false e t = one true e ∙ ap (λ (y : SeenCall). y ∷ []) nets
      known false false e t = one false e

  calls_in : (c k : ℕ) (x : Circuit) (row : CallRow) → IsCircuit g c x → slice_get x.calls k ≡ Some row
      → map (seen_call (origin c)) (keep kept (map (λ (r : CallAt). r.row) (inner_calls goes flats x k row))) ≡ cond (goes row.circuit) (map (call_on (enter k row)) (call_view row.circuit)) []
  calls_in c k x row is at = known (goes row.circuit) refl
    where
      known : (b : Bool) → goes row.circuit ≡ b
          → map (seen_call (origin c)) (keep kept (map (λ (r : CallAt). r.row) (cond b (map (call_below k (net_in goes flats x k row)) (flats row.circuit).calls) [])))
          ≡ cond b (map (call_on (enter k row)) (call_view row.circuit)) []
      known true t =
          let call : IsCall g c k row = (x, is, at) in
          let d = good.called c k row call in
          inner_kept kept (origin c) (enter k row) (origin row.circuit) (net_in goes flats x k row) k (flats row.circuit).calls (λ j y h i n e.
          brought_from g f goes flats height good flat c k n x row is call t (are.flat_within.calls row.circuit j i n y.row (call_there row.circuit j d.0 y d.1 h) e))
      known false t = refl

  -- the kept calls of a flat circuit: its own, then those that the flattened calls bring
  pub calls_by : (c : ℕ) (x : Circuit) → IsCircuit g c x
      → call_view c ≡ pieces (λ k row. cond (kept row.circuit) (seen_call (slot []) row ∷ []) []) x.calls ++ pieces (λ k row. cond (goes row.circuit) (map (call_on (enter k row)) (call_view row.circuit)) []) x.calls
  calls_by c x is =
      let row_of : CallAt → CallRow = λ r. r.row in
      let o = origin c in
      let own = own_calls goes flats in
      let brought = inner_calls goes flats x in
      ap (λ (z : FlatCircuit). map (seen_call o) (keep kept (map row_of z.calls))) (flat.each c x is)
      ∙ (ap (λ (z : List CallRow). map (seen_call o) (keep kept z)) (map-append row_of (pieces own x.calls) (pieces brought x.calls))
      ∙ (ap (map (seen_call o)) (keep_append kept (map row_of (pieces own x.calls)) (map row_of (pieces brought x.calls)))
      ∙ (map-append (seen_call o) (keep kept (map row_of (pieces own x.calls))) (keep kept (map row_of (pieces brought x.calls)))
      ∙ ap₂ (λ (us vs : List SeenCall). us ++ vs)
      (piecewise o own x.calls ∙ pieces_same _ _ x.calls (λ k row at. own_in c k x row is at))
      (piecewise o brought x.calls ∙ pieces_same _ _ x.calls (λ k row at. calls_in c k x row is at)))))
    where
      piecewise : (o : ℕ → Slot) (h : ℕ → CallRow → List CallAt) (rows : List CallRow) → map (seen_call o) (keep kept (map (λ (r : CallAt). r.row) (pieces h rows))) ≡ pieces (λ k row. map (seen_call o) (keep kept (map (λ (r : CallAt). r.row) (h k row)))) rows
      piecewise o h rows =
          ap (λ (z : List CallRow). map (seen_call o) (keep kept z)) (map_pieces (λ (r : CallAt). r.row) h rows)
          ∙ (ap (map (seen_call o)) (keep_pieces kept (λ k row. map (λ (r : CallAt). r.row) (h k row)) rows)
          ∙ map_pieces (seen_call o) (λ k row. keep kept (map (λ (r : CallAt). r.row) (h k row))) rows)

  pub no_devices : (c : ℕ) (x : Circuit) → IsCircuit g c x → IsIdle g kept c → device_view c ≡ []
  no_devices c x is idle = ap (map (seen (origin c))) (empty (plain (flats c)).devices (λ j row h. idle.none (has_devices g f goes flats height good flat c [] j row (plain (flats c), flat.there c x is, h))))

  pub way_down : (path : List ℕ) (c d : ℕ) → IsWay g (maps_of g goes flats) c path d → IsCalledFrom g c d
  way_down [] c d h = absurd h
  way_down (k ∷ ks) c d (inl (e, (row, m, call, fate, same))) = (k ∷ [], (row, call, same))
  way_down (k ∷ ks) c d (inr (row, call, i, fate, h)) = let r = way_down ks row.circuit d h in (k ∷ r.0, (row, call, r.1))

  pub no_calls : (c : ℕ) (x : Circuit) → IsCircuit g c x → IsIdle g kept c → call_view c ≡ []
  no_calls c x is idle = ap (map (seen_call (origin c))) (keep_none kept (plain (flats c)).calls (λ e row h.
      idle.kept_none row.circuit (way_down _ c row.circuit ((calls_inside g f (maps_of g goes flats) height are c).each e row (plain (flats c), flat.there c x is, h)))))
