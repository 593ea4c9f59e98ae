-- Two flattenings that differ in circuits that bring nothing have the same devices and kept calls, and hold the same pins.
use Rattle.std.proofs.Common.{◌≡◌, ◌⊎◌, inl, inr, ℕ, zero, suc, ◌<◌, Bool, true, false, cond, List, [], ◌∷◌, ◌++◌, map, Some, slice_get, refl, sym, ◌∙◌, ap, subst, arith}
use Rattle.base_laws.proofs.Items.{map_to, map_from}
use Rattle.std.proofs.lemmas.Bool.{cases_Bool}
use Rattle.std.proofs.lemmas.Option.{none-some, same_Some}
use Rattle.plain_netlist.specs.Netlist.{DeviceRow, CallRow, Circuit, Netlist, IsCircuit, IsCall, IsDevice, IsPin, HasNet, Slot, slot}
use Rattle.plain_netlist.specs.Sound.{IsGood, IsCallPath}
use Rattle.plain_netlist.specs.Lists.{IsListed}
use Rattle.plain_netlist.specs.Devices.{terminal_nets}
use Rattle.plain_netlist.proofs.Rows.{over_terminal, terminal_over}
use Rattle.align_laws.specs.Flat.{AreInlined}
use Rattle.align_laws.specs.Lists.{pieces, plain, maps_of}
use Rattle.align_laws.specs.Cut.{Alignment}
use Rattle.align_laws.specs.Aligned.{IsAlignedBy}
use Rattle.align_laws.proofs.Held.{lower_calls}
use Rattle.align_laws.proofs.InnerCalls.{inner_calls as calls_inside}
use Rattle.align_laws.proofs.Kept.{MayGo}
use Rattle.align_laws.proofs.Listed.{listed, flat_is}
use Rattle.align_laws.proofs.Origins.{enter, from, from_one, own_from}
use Rattle.align_laws.proofs.Unique.{pieces_same}
use Rattle.align_laws.proofs.Views.{Seen, seen, seen_on, SeenCall, seen_call, call_on, keep, IsIdle, device_view, call_view, devices_by, calls_by, no_devices, no_calls, way_down}

-- equal images have equal items at equal places
pub same_at : {A B C : Type 0} (h : A → C) (k : B → C) (xs : List A) (ys : List B) → map h xs ≡ map k ys → (i : ℕ) (x : A) → slice_get xs i ≡ Some x → (y : B) × (slice_get ys i ≡ Some y) × (k y ≡ h x)
same_at {C = C} h k xs ys e i x at = map_from k ys i (h x) (subst (λ (zs : List C). slice_get zs i ≡ Some (h x)) e (map_to h xs i x at))

pub keep_at : (kept : ℕ → Bool) (rows : List CallRow) (k : ℕ) (row : CallRow) → slice_get rows k ≡ Some row → kept row.circuit ≡ true → (e : ℕ) × (slice_get (keep kept rows) e ≡ Some row)
keep_at kept [] k row at t = absurd (none-some row at)
keep_at kept (r ∷ rs) zero row at t =
    let same : r ≡ row = same_Some _ _ at in
    let here : kept r.circuit ≡ true = ap (λ (x : CallRow). kept x.circuit) same ∙ t in
    (0, subst (λ (b : Bool). slice_get (cond b (r ∷ keep kept rs) (keep kept rs)) 0 ≡ Some row) (sym here) at)
keep_at kept (r ∷ rs) (suc k) row at t = let rest = keep_at kept rs k row at t in elim (cases_Bool (kept r.circuit)) [
  | inl h ↦ (suc rest.0, subst (λ (b : Bool). slice_get (cond b (r ∷ keep kept rs) (keep kept rs)) (suc rest.0) ≡ Some row) (sym h) rest.1)
  | inr h ↦ (rest.0, subst (λ (b : Bool). slice_get (cond b (r ∷ keep kept rs) (keep kept rs)) rest.0 ≡ Some row) (sym h) rest.1)
]

pub keep_from : (kept : ℕ → Bool) (rows : List CallRow) (e : ℕ) (row : CallRow) → slice_get (keep kept rows) e ≡ Some row → (k : ℕ) × (slice_get rows k ≡ Some row) × (kept row.circuit ≡ true)
keep_from kept [] e row at = absurd (none-some row at)
keep_from kept (r ∷ rs) e row at = elim (cases_Bool (kept r.circuit)) [
  | inl h ↦ first e h (subst (λ (b : Bool). slice_get (cond b (r ∷ keep kept rs) (keep kept rs)) e ≡ Some row) h at) (λ m. keep_from kept rs m row)
  | inr h ↦ let rest = keep_from kept rs e row (subst (λ (b : Bool). slice_get (cond b (r ∷ keep kept rs) (keep kept rs)) e ≡ Some row) h at) in (suc rest.0, rest.1, rest.2)
]
  where
    first : (e : ℕ) → kept r.circuit ≡ true → slice_get (r ∷ keep kept rs) e ≡ Some row → ((m : ℕ) → slice_get (keep kept rs) m ≡ Some row → (k : ℕ) × (slice_get rs k ≡ Some row) × (kept row.circuit ≡ true))
        → (k : ℕ) × (slice_get (r ∷ rs) k ≡ Some row) × (kept row.circuit ≡ true)
    first zero h at more = (0, at, subst (λ (x : CallRow). kept x.circuit ≡ true) (same_Some _ _ at) h)
    first (suc m) h at more = let rest = more m at in (suc rest.0, rest.1, rest.2)

pub terminal_seen : (o p : ℕ → Slot) (r s : DeviceRow) → seen o r ≡ seen p s → (n : ℕ) → IsListed n (terminal_nets s) → (m : ℕ) × IsListed m (terminal_nets r) × (p n ≡ o m)
terminal_seen o p r s e n on = terminal_over o r (p n) (subst (λ (x : Seen). IsListed (p n) (terminal_nets x)) (sym e) (over_terminal p s n on))

nothing : {A B : Type 0} (b : Bool) (h : A → B) → cond b (map h []) [] ≡ []
nothing true h = refl
nothing false h = refl

module _ (g : Netlist) (kept : ℕ → Bool) (height : ℕ → ℕ) (good : IsGood g height) (R : ℕ → Type 0) (down : (c k : ℕ) (row : CallRow) → R c → IsCall g c k row → R row.circuit)
    (o : Netlist) (v : Alignment) (goes : ℕ → Bool) (a : IsAlignedBy goes g o v) (may : MayGo g kept goes) (v_kept : (c : ℕ) → v.kept c ≡ kept c)
    (p : Netlist) (w : Alignment) (also_goes : ℕ → Bool) (b : IsAlignedBy also_goes g p w) (also_may : MayGo g kept also_goes) (w_kept : (c : ℕ) → w.kept c ≡ kept c)
    (same : (c : ℕ) → R c → (goes c ≡ also_goes c) ⊎ IsIdle g kept c) where
  -- where nets are from, on both sides
  abbrev pub left_from : ℕ → ℕ → Slot
  left_from = from g a.flat goes a.flats height good a.flattened

  abbrev pub right_from : ℕ → ℕ → Slot
  right_from = from g b.flat also_goes b.flats height good b.flattened

  abbrev left_devices : ℕ → List Seen
  left_devices = device_view g a.flat goes a.flats height good a.flattened kept may

  abbrev right_devices : ℕ → List Seen
  right_devices = device_view g b.flat also_goes b.flats height good b.flattened kept also_may

  abbrev left_calls : ℕ → List SeenCall
  left_calls = call_view g a.flat goes a.flats height good a.flattened kept may

  abbrev right_calls : ℕ → List SeenCall
  right_calls = call_view g b.flat also_goes b.flats height good b.flattened kept also_may

  device_piece : (k d : ℕ) (x : Circuit) (row : CallRow) → IsCircuit g d x → (goes d ≡ also_goes d) ⊎ IsIdle g kept d → left_devices d ≡ right_devices d
      → cond (goes d) (map (seen_on (enter k row)) (left_devices d)) [] ≡ cond (also_goes d) (map (seen_on (enter k row)) (right_devices d)) []
  device_piece k d x row is (inl e) h =
      ap (λ (t : Bool). cond t (map (seen_on (enter k row)) (left_devices d)) []) e ∙ ap (λ (z : List Seen). cond (also_goes d) (map (seen_on (enter k row)) z) []) h
  device_piece k d x row is (inr idle) h =
      ap (λ (z : List Seen). cond (goes d) (map (seen_on (enter k row)) z) []) (no_devices g a.flat goes a.flats height good a.flattened kept may d x is idle)
      ∙ (nothing (goes d) (seen_on (enter k row))
      ∙ (sym (nothing (also_goes d) (seen_on (enter k row)))
      ∙ ap (λ (z : List Seen). cond (also_goes d) (map (seen_on (enter k row)) z) []) (sym (no_devices g b.flat also_goes b.flats height good b.flattened kept also_may d x is idle))))

  call_piece : (k d : ℕ) (x : Circuit) (row : CallRow) → IsCircuit g d x → (goes d ≡ also_goes d) ⊎ IsIdle g kept d → left_calls d ≡ right_calls d
      → cond (goes d) (map (call_on (enter k row)) (left_calls d)) [] ≡ cond (also_goes d) (map (call_on (enter k row)) (right_calls d)) []
  call_piece k d x row is (inl e) h =
      ap (λ (t : Bool). cond t (map (call_on (enter k row)) (left_calls d)) []) e ∙ ap (λ (z : List SeenCall). cond (also_goes d) (map (call_on (enter k row)) z) []) h
  call_piece k d x row is (inr idle) h =
      ap (λ (z : List SeenCall). cond (goes d) (map (call_on (enter k row)) z) []) (no_calls g a.flat goes a.flats height good a.flattened kept may d x is idle)
      ∙ (nothing (goes d) (call_on (enter k row))
      ∙ (sym (nothing (also_goes d) (call_on (enter k row)))
      ∙ ap (λ (z : List SeenCall). cond (also_goes d) (map (call_on (enter k row)) z) []) (sym (no_calls g b.flat also_goes b.flats height good b.flattened kept also_may d x is idle))))

  views : (h c : ℕ) (x : Circuit) → height c < h → R c → IsCircuit g c x → (left_devices c ≡ right_devices c) × (left_calls c ≡ right_calls c)
  views zero c x low r is = absurd (omega arith)
  views (suc m) c x low r is =
      let inner : (k : ℕ) (row : CallRow) → slice_get x.calls k ≡ Some row → (d : Circuit) × IsCircuit g row.circuit d × ((left_devices row.circuit ≡ right_devices row.circuit) × (left_calls row.circuit ≡ right_calls row.circuit))
      = λ k row at.
      let call : IsCall g c k row = (x, is, at) in
      let d = good.called c k row call in
      let lower = good.lower c k row call in
      let deeper : height row.circuit < m = omega arith in
      (d.0, d.1, views m row.circuit d.0 deeper (down c k row r call) d.1) in
      let devices : pieces (λ k row. cond (goes row.circuit) (map (seen_on (enter k row)) (left_devices row.circuit)) []) x.calls ≡ pieces (λ k row. cond (also_goes row.circuit) (map (seen_on (enter k row)) (right_devices row.circuit)) []) x.calls
      = pieces_same _ _ x.calls (λ k row at. let i = inner k row at in device_piece k row.circuit i.0 row i.1 (same row.circuit (down c k row r (x, is, at))) i.2.0) in
      let calls : pieces (λ k row. cond (goes row.circuit) (map (call_on (enter k row)) (left_calls row.circuit)) []) x.calls ≡ pieces (λ k row. cond (also_goes row.circuit) (map (call_on (enter k row)) (right_calls row.circuit)) []) x.calls
      = pieces_same _ _ x.calls (λ k row at. let i = inner k row at in call_piece k row.circuit i.0 row i.1 (same row.circuit (down c k row r (x, is, at))) i.2.1) in (
        devices_by g a.flat goes a.flats height good a.flattened kept may c x is
            ∙ (ap (λ (z : List Seen). map (seen (slot [])) x.devices ++ z) devices
            ∙ sym (devices_by g b.flat also_goes b.flats height good b.flattened kept also_may c x is)),
        calls_by g a.flat goes a.flats height good a.flattened kept may c x is
            ∙ (ap (λ (z : List SeenCall). pieces (λ k row. cond (kept row.circuit) (seen_call (slot []) row ∷ []) []) x.calls ++ z) calls
            ∙ sym (calls_by g b.flat also_goes b.flats height good b.flattened kept also_may c x is)),
      )

  pub devices_seen : (c : ℕ) (x : Circuit) → R c → IsCircuit g c x → left_devices c ≡ right_devices c
  devices_seen c x r is = (views (suc (height c)) c x (omega arith) r is).0

  pub calls_seen : (c : ℕ) (x : Circuit) → R c → IsCircuit g c x → left_calls c ≡ right_calls c
  calls_seen c x r is = (views (suc (height c)) c x (omega arith) r is).1

  right_are : AreInlined g b.flat (maps_of g also_goes b.flats) height
  right_are = listed g b.flat also_goes b.flats height good b.flattened

  left_are : AreInlined g a.flat (maps_of g goes a.flats) height
  left_are = listed g a.flat goes a.flats height good a.flattened

  -- a net of the given circuit is that net on the right where it is from the same place
  own_right : (c n m : ℕ) → HasNet g c n → HasNet b.flat c m → right_from c m ≡ left_from c n → m ≡ n
  own_right c n m has there e =
      from_one g b.flat also_goes b.flats height good b.flattened c m n there ((right_are.each c).net n has).0
      (e ∙ (own_from g a.flat goes a.flats height good a.flattened c n has ∙ sym (own_from g b.flat also_goes b.flats height good b.flattened c n has)))

  flat_call : (c k : ℕ) (row : CallRow) → IsCall a.flat c k row → slice_get (plain (a.flats c)).calls k ≡ Some row
  flat_call c k row (x, is, at) = subst (λ (y : Circuit). slice_get y.calls k ≡ Some row) (flat_is g a.flat goes a.flats height good a.flattened c x is) at

  flat_device : (c j : ℕ) (row : DeviceRow) → IsDevice a.flat c j row → slice_get (plain (a.flats c)).devices j ≡ Some row
  flat_device c j row (x, is, at) = subst (λ (y : Circuit). slice_get y.devices j ≡ Some row) (flat_is g a.flat goes a.flats height good a.flattened c x is) at

  lower_by : (c e : ℕ) (row : CallRow) → IsCall a.flat c e row → height row.circuit < height c
  lower_by = lower_calls g a.flat (maps_of g goes a.flats) height left_are

  reach_path : (path : List ℕ) (c d : ℕ) → R c → IsCallPath g c path d → R d
  reach_path [] c d r h = subst R h r
  reach_path (k ∷ ks) c d r (row, call, h) = reach_path ks row.circuit d (down c k row r call) h

  pub reach_by : (c e : ℕ) (row : CallRow) → R c → IsCall a.flat c e row → R row.circuit
  reach_by c e row r call =
      let way = (calls_inside g a.flat (maps_of g goes a.flats) height left_are c).each e row call in
      let called = way_down g a.flat goes a.flats height good a.flattened kept may _ c row.circuit way in
      reach_path called.0 c row.circuit r called.1

  -- a held pin is held on the right
  pub held_to : (h c n : ℕ) (x : Circuit) → height c < h → R c → kept c ≡ true → IsCircuit g c x → IsPin g c n n → v.held c n ≡ true → w.held c n ≡ true
  held_to zero c n x low r k is pin h = absurd (omega arith)
  held_to (suc m) c n x low r k is pin h =
      let has = good.within.pins c n n pin in
      let there : IsCircuit b.flat c (plain (b.flats c)) = b.flattened.there c x is in
      elim ((a.cut_down.held c n (v_kept c ∙ k)).0 h) [
        | inl (j, row, device, on) ↦
            let s = same_at (seen (left_from c)) (seen (right_from c)) (plain (a.flats c)).devices (plain (b.flats c)).devices (devices_seen c x r is) j row (flat_device c j row device) in
            let other : IsDevice b.flat c j s.0 = (plain (b.flats c), there, s.1) in
            let t = terminal_seen (right_from c) (left_from c) s.0 row s.2 n on in
            let same_net : t.0 ≡ n = own_right c n t.0 has (right_are.flat_within.devices c j t.0 s.0 other t.1) (sym t.2) in
            (b.cut_down.held c n (w_kept c ∙ k)).1 (inl (j, s.0, other, subst (λ (z : ℕ). IsListed z (terminal_nets s.0)) same_net t.1))
        | inr (e, row, q, inner, call, t, net, under, held) ↦
            let e_kept = keep_at kept (plain (a.flats c)).calls e row (flat_call c e row call) (sym (v_kept row.circuit) ∙ t) in
            let s = same_at (seen_call (left_from c)) (seen_call (right_from c)) (keep kept (plain (a.flats c)).calls) (keep kept (plain (b.flats c)).calls) (calls_seen c x r is) e_kept.0 row e_kept.1 in
            let back = keep_from kept (plain (b.flats c)).calls e_kept.0 s.0 s.1 in
            let other : IsCall b.flat c back.0 s.0 = (plain (b.flats c), there, back.1) in
            let circuit : s.0.circuit ≡ row.circuit = ap (λ (y : SeenCall). y.circuit) s.2 in
            let nets = same_at (left_from c) (right_from c) row.nets s.0.nets (sym (ap (λ (y : SeenCall). y.nets) s.2)) q n net in
            let at : nets.0 ≡ n = own_right c n nets.0 has (right_are.flat_within.calls c back.0 q nets.0 s.0 other nets.1) nets.2 in
            let given : IsPin g row.circuit q inner = ((left_are.each row.circuit).pins q inner).1 under in
            let pin_there : IsPin b.flat row.circuit q inner = ((right_are.each row.circuit).pins q inner).0 given in
            let number : inner ≡ q = good.pins row.circuit q inner given in
            let d = a.flattened.back row.circuit under.0 under.1 in
            let lower = lower_by c e row call in
            let deeper : height row.circuit < m = omega arith in
            let reached : R row.circuit = reach_by c e row r call in
            let inner_held = held_to m row.circuit inner d.0 deeper reached (sym (v_kept row.circuit) ∙ t) d.1 (subst (λ (z : ℕ). IsPin g row.circuit z inner) (sym number) given) held in
            (b.cut_down.held c n (w_kept c ∙ k)).1 (inr (
              back.0,
              s.0,
              q,
              inner,
              other,
              w_kept s.0.circuit ∙ back.2,
              nets.1 ∙ ap Some at,
              subst (λ (z : ℕ). IsPin b.flat z q inner) (sym circuit) pin_there,
              subst (λ (z : ℕ). w.held z inner ≡ true) (sym circuit) inner_held,
            ))
      ]
