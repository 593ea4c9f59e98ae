-- Where a called circuit's nets stand, and its rows put there.
use Rattle.std.proofs.Common.{◌≡◌, ℕ, zero, suc, ◌+◌, ◌<◌, Bool, true, false, cond, List, [], ◌∷◌, ◌++◌, map, take, get_or, length, slice_index, refl, sym, subst, ◌∙◌, ap, ap₂, arith, length-append, append-nil}
use Rattle.std.proofs.Math.Decide.{ℕ_discrete}
use Rattle.std.proofs.lemmas.List.{get_or_append_left, get_or_push, take_more, map-append, length-map, length-take-le}
use Rattle.plain_netlist.specs.Netlist.{DeviceRow, CallRow, Circuit}
use Rattle.align_laws.specs.Flat.{call_through}
use Rattle.plain_netlist.specs.Devices.{row_over, terminal_nets}
use Rattle.plain_netlist.specs.Lists.{IsListed}
use Rattle.plain_netlist.proofs.Rows.{row_over_agrees}
use Rattle.net_model.proofs.Shapes.{listed_net}
use Rattle.align_laws.specs.Lists.{net_at_pin}
use Rattle.net_model.specs.Rows.{plain_device, plain_call}
use Rattle.net_model.specs.declared.netlist.DeviceRow.{DeviceRow as Device}
use Rattle.net_model.specs.declared.netlist.CallRow.{CallRow as Call}
use Rattle.net_align.specs.Laid.{AreBelow, IsRowBelow, AreRowsBelow, AreCallsBelow, device_put, call_put, stands, AreStands, stayed, all_laid, laid}

place_near : (pins : List ℕ) (far : ℕ → ℕ) (n : ℕ) → n < length pins → slice_index pins n ≡ net_at_pin pins far n
place_near [] far n low = absurd (let l = low in omega arith)
place_near (x ∷ xs) far zero low = refl
place_near (x ∷ xs) far (suc n) low = place_near xs far n (let l = low in omega arith)

place_far : (pins : List ℕ) (far : ℕ → ℕ) (n m : ℕ) → n ≡ length pins + m → net_at_pin pins far n ≡ far m
place_far [] far n m e = ap far (let k = e in omega arith)
place_far (x ∷ xs) far zero m e = absurd (let k = e in omega arith)
place_far (x ∷ xs) far (suc n) m e = place_far xs far n m (let k = e in omega arith)

pub pins_stand : (pins : List ℕ) (behind : ℕ) → AreStands pins behind (length pins) pins
pins_stand pins behind = record { long = refl; each = λ i low. place_near pins (λ m. behind + m) i low }

pub one_stands : (pins : List ℕ) (behind n own : ℕ) (to : List ℕ) → n ≡ length pins + own → AreStands pins behind n to → AreStands pins behind (n + 1) (to ++ (behind + own) ∷ [])
one_stands pins behind n own to e h = record {
  long = let l = h.long in omega (arith, length-append to ((behind + own) ∷ []));
  each = λ i low. elim (ℕ_discrete i n) [
    | yes is ↦ subst (λ (x : ℕ). slice_index (to ++ (behind + own) ∷ []) x ≡ stands pins behind x) (sym is) (get_or_push to (behind + own) 0 n h.long ∙ sym (place_far pins (λ m. behind + m) n own e))
    | no not ↦
        let l = h.long in
        let below : i < n = omega (arith, not) in
        get_or_append_left to ((behind + own) ∷ []) 0 i (omega arith) ∙ h.each i below
  ];
}

map_below : (f g : ℕ → ℕ) (n : ℕ) (xs : List ℕ) → ((i : ℕ) → i < n → f i ≡ g i) → AreBelow xs n → map f xs ≡ map g xs
map_below f g n [] h low = refl
map_below f g n (x ∷ xs) h low =
    ap₂ (λ (y : ℕ) (ys : List ℕ). y ∷ ys) (h x (low 0 (omega arith))) (map_below f g n xs h (λ i l. low (suc i) (let k = l in omega arith)))

-- a terminal's net is one of the device's nets
terminal_low : (d : Device) (n : ℕ) → IsRowBelow d n → (m : ℕ) → IsListed m (terminal_nets (plain_device d)) → m < n
terminal_low d n low m l = let p = listed_net d.kind d.nets m l in subst (λ (x : ℕ). x < n) (sym p.2) (low p.0 p.1)

pub devices_put : (f g : ℕ → ℕ) (n : ℕ) (rows : List Device) → ((i : ℕ) → i < n → f i ≡ g i) → AreRowsBelow rows n → map (device_put f) rows ≡ map (row_over g) (map plain_device rows)
devices_put f g n [] h low = refl
devices_put f g n (d ∷ ds) h low =
    let b = low 0 d refl in
    ap₂ (λ (r : DeviceRow) (rs : List DeviceRow). r ∷ rs) (row_over_agrees f g (plain_device d) (λ m l. h m (terminal_low d n b m l)))
    (devices_put f g n ds h (λ i r e. low (suc i) r e))

pub calls_put : (f g : ℕ → ℕ) (n : ℕ) (rows : List Call) → ((i : ℕ) → i < n → f i ≡ g i) → AreCallsBelow rows n → map (call_put f) rows ≡ map (call_through g) (map plain_call rows)
calls_put f g n [] h low = refl
calls_put f g n (r ∷ rs) h low =
    ap₂ (λ (x : CallRow) (xs : List CallRow). x ∷ xs) (ap (λ (ns : List ℕ). let c : CallRow = record { circuit = r.circuit; nets = ns } in c) (map_below f g n r.nets.items h (low 0 r refl)))
    (calls_put f g n rs h (λ i x e. low (suc i) x e))

cond_more : (b : Bool) (x : CallRow) (long all rest : List CallRow) → long ≡ all ++ rest → cond b long (x ∷ long) ≡ cond b all (x ∷ all) ++ rest
cond_more true x long all rest e = e
cond_more false x long all rest e = ap (λ (t : List CallRow). x ∷ t) e

pub stayed_more : (goes : ℕ → Bool) (xs : List CallRow) (r : CallRow) → stayed goes (xs ++ r ∷ []) ≡ stayed goes xs ++ cond (goes r.circuit) [] (r ∷ [])
stayed_more goes [] r = refl
stayed_more goes (x ∷ xs) r = cond_more (goes x.circuit) x (stayed goes (xs ++ r ∷ [])) (stayed goes xs) (cond (goes r.circuit) [] (r ∷ [])) (stayed_more goes xs r)

pub calls_more : (xs : List Call) (i : ℕ) (r : Call) → i < length xs → r ≡ get_or xs i r → map plain_call (take (i + 1) xs) ≡ map plain_call (take i xs) ++ plain_call r ∷ []
calls_more xs i r low e =
    ap (λ (t : List Call). map plain_call t) (take_more xs i r low) ∙ (map-append plain_call (take i xs) (get_or xs i r ∷ []) ∙ ap (λ (x : Call). map plain_call (take i xs) ++ plain_call x ∷ []) (sym e))

-- a step where the call goes, and one where it stays
pub own_step : (goes : ℕ → Bool) (xs : List Call) (i : ℕ) (r : Call) (own new : List CallRow) → i < length xs → r ≡ get_or xs i r → own ≡ stayed goes (map plain_call (take i xs))
    → new ≡ own ++ cond (goes r.circuit) [] (plain_call r ∷ []) → new ≡ stayed goes (map plain_call (take (i + 1) xs))
own_step goes xs i r own new low at e n =
    n ∙ (ap (λ (t : List CallRow). t ++ cond (goes r.circuit) [] (plain_call r ∷ [])) e ∙ (sym (stayed_more goes (map plain_call (take i xs)) (plain_call r)) ∙ ap (stayed goes) (sym (calls_more xs i r low at))))

pub laid_more : (goes : ℕ → Bool) (flats : ℕ → Circuit) (k : ℕ) (xs : List CallRow) (r : CallRow) (c : Circuit) (n : ℕ) → n ≡ k + length xs
    → all_laid goes flats k (xs ++ r ∷ []) c ≡ cond (goes r.circuit) (laid n r (flats r.circuit) (all_laid goes flats k xs c)) (all_laid goes flats k xs c)
laid_more goes flats k [] r c n e = ap (λ (m : ℕ). cond (goes r.circuit) (laid m r (flats r.circuit) c) c) (let l = e in omega arith)
laid_more goes flats k (x ∷ xs) r c n e = laid_more goes flats (suc k) xs r (cond (goes x.circuit) (laid k x (flats x.circuit) c) c) n (let l = e in omega arith)

pub parts_same : (name : List ℕ) (pins : List ℕ) (nets other_nets : List (List ℕ)) (devices other_devices : List DeviceRow) (calls other_calls : List CallRow) → nets ≡ other_nets → devices ≡ other_devices → calls ≡ other_calls
    → (let c : Circuit = record { name = name; nets = nets; pins = pins; devices = devices; calls = calls } in c) ≡ (let c : Circuit = record { name = name; nets = other_nets; pins = pins; devices = other_devices; calls = other_calls } in c)
parts_same name pins nets other_nets devices other_devices calls other_calls a b e = cc

plain_same : (r q : Call) → q.circuit ≡ r.circuit → q.nets.items ≡ r.nets.items → plain_call q ≡ plain_call r
plain_same r q a b = ap₂ (λ (k : ℕ) (ns : List ℕ). let c : CallRow = record { circuit = k; nets = ns } in c) a b

pub stays_step : (xs ys : List Call) (r q : Call) (b : Bool) → b ≡ false → ys ≡ xs ++ q ∷ [] → q.circuit ≡ r.circuit → q.nets.items ≡ r.nets.items → map plain_call ys ≡ map plain_call xs ++ cond b [] (plain_call r ∷ [])
stays_step xs ys r q b is e k n =
    ap (λ (t : List Call). map plain_call t) e
    ∙ (map-append plain_call xs (q ∷ [])
    ∙ (ap (λ (x : CallRow). map plain_call xs ++ x ∷ []) (plain_same r q k n) ∙ ap (λ (w : Bool). map plain_call xs ++ cond w [] (plain_call r ∷ [])) (sym is)))

pub goes_step : (xs ys : List Call) (r : Call) (b : Bool) → b ≡ true → ys ≡ xs → map plain_call ys ≡ map plain_call xs ++ cond b [] (plain_call r ∷ [])
goes_step xs ys r b is e =
    ap (λ (t : List Call). map plain_call t) e ∙ (sym (append-nil (map plain_call xs)) ∙ ap (λ (w : Bool). map plain_call xs ++ cond w [] (plain_call r ∷ [])) (sym is))

pub laying_step : (goes : ℕ → Bool) (flats : ℕ → Circuit) (xs : List Call) (k : ℕ) (r : Call) (own now next : Circuit) → k < length xs → r ≡ get_or xs k r → now ≡ all_laid goes flats 0 (map plain_call (take k xs)) own
    → next ≡ cond (goes r.circuit) (laid k (plain_call r) (flats r.circuit) now) now → next ≡ all_laid goes flats 0 (map plain_call (take (k + 1) xs)) own
laying_step goes flats xs k r own now next low at before e =
    let long : length (map plain_call (take k xs)) ≡ length (take k xs) = length-map (take k xs) plain_call in
    let count : length (take k xs) ≡ k = length-take-le k xs (omega arith) in
    let n : k ≡ 0 + length (map plain_call (take k xs)) = omega (arith, long, count) in
    e ∙ (ap (λ (c : Circuit). cond (goes r.circuit) (laid k (plain_call r) (flats r.circuit) c) c) before
    ∙ (sym (laid_more goes flats 0 (map plain_call (take k xs)) (plain_call r) own k n)
    ∙ ap (λ (t : List CallRow). all_laid goes flats 0 t own) (sym (calls_more xs k r low at))))

pub cond_true : {A : Type 0} (b : Bool) (x y : A) → b ≡ true → x ≡ cond b x y
cond_true {A = A} b x y e = ap (λ (w : Bool). cond w x y) (sym e)

pub cond_false : {A : Type 0} (b : Bool) (x y : A) → b ≡ false → y ≡ cond b x y
cond_false {A = A} b x y e = ap (λ (w : Bool). cond w x y) (sym e)
