-- The nets of a circuit's row are numbered as they first appear.
use Rattle.std.proofs.Common.{◌≡◌, inl, inr, ℕ, zero, suc, ◌+◌, Bool, true, false, ◌||◌, List, [], ◌∷◌, ◌++◌, map, length, Some, refl, sym, subst, ap, ◌∙◌, arith, append_assoc}
use Rattle.std.proofs.lemmas.Bool.{cases_Bool}
use Rattle.std.specs.Prelude.{flat_map, slice_get}
use Rattle.std.specs.List.{list_any, position_or_len}
use Rattle.std.specs.Str.{bytes_eq}
use Rattle.std.proofs.lemmas.List.{append-nil, map-append, length-append}
use Rattle.std.proofs.lemmas.Slice.Eq.{bytes_eq-Decides}
use Rattle.text_table.specs.Texts.{has_text, with_text, place_of}
use Rattle.plain_netlist.specs.Devices.{terminal_nets}
use Rattle.plain_netlist.proofs.Rows.{terminal_nets_over}
use Rattle.plain_netlist.specs.Netlist as plain
use Rattle.plain_netlist.specs.Normal as normal
use Rattle.spice_rows.specs.Rows.{DeviceCard, CallCard}
use Rattle.spice_text.specs.Gather.{Circuit}
use Rattle.spice_text.specs.Needs.{first_seen, device_nets}
use Rattle.spice_text.specs.Means.{call_names, appearances, net_names, device_row, call_row, row_over, circuit_row, rows_from}
use Rattle.spice_text.proofs.CallLemmas.{place_lt}

-- what was seen stays in front
pub more : (seen ns : List (List ℕ)) → (extra : List (List ℕ)) × (first_seen seen ns ≡ seen ++ extra)
more seen [] = ([], sym (append-nil seen))
more seen (n ∷ ns) = elim (cases_Bool (has_text seen n)) [
  | inl t ↦ rw t (more seen ns)
  | inr f ↦ let r = more (seen ++ n ∷ []) ns in rw f (n ∷ r.0, r.1 ∙ append_assoc seen (n ∷ []) r.0)
]

place_front : (p : List ℕ → Bool) (xs ys : List (List ℕ)) → list_any p xs ≡ true → position_or_len p (xs ++ ys) ≡ position_or_len p xs
place_front p [] ys t = let z : ⊥ = cc in absurd z
place_front p (x ∷ xs) ys t = elim (cases_Bool (p x)) [
  | inl y ↦ rw y refl
  | inr f ↦ let e : (p x || list_any p xs) ≡ true = t in let r = place_front p xs ys (sym (ap (λ (b : Bool). b || list_any p xs) f) ∙ e) in rw f (ap (λ (n : ℕ). 1 + n) r)
]

place_new : (p : List ℕ → Bool) (xs ys : List (List ℕ)) (x : List ℕ) → list_any p xs ≡ false → p x ≡ true → position_or_len p (xs ++ x ∷ ys) ≡ length xs
place_new p [] ys x f t = rw t refl
place_new p (y ∷ xs) ys x f t = elim (cases_Bool (p y)) [
  | inl h ↦ let z : ⊥ = (let e : (p y || list_any p xs) ≡ false = f in let g : (true || list_any p xs) ≡ false = sym (ap (λ (b : Bool). b || list_any p xs) h) ∙ e in cc) in absurd z
  | inr h ↦ let e : (p y || list_any p xs) ≡ false = f in let r = place_new p xs ys x (sym (ap (λ (b : Bool). b || list_any p xs) h) ∙ e) t in rw h (let q : 1 + position_or_len p (xs ++ x ∷ ys) ≡ suc (length xs) = omega arith in q)
]

pub numbered : (total seen ns : List (List ℕ)) → total ≡ first_seen seen ns → normal.AreNumbered (length total) (length seen) (map (place_of total) ns)
numbered total seen [] e = ap (λ (xs : List (List ℕ)). length xs) (sym e)
numbered total seen (n ∷ ns) e = elim (cases_Bool (has_text seen n)) [
  | inl t ↦
      let e1 : total ≡ first_seen seen ns = e ∙ ap (λ (s : List (List ℕ)). first_seen s ns) (let w : with_text seen n ≡ seen = rw t refl in w) in
      let m = more seen ns in
      let at : place_of total n ≡ place_of seen n = ap (λ (xs : List (List ℕ)). place_of xs n) (e1 ∙ m.1) ∙ place_front (bytes_eq n) seen m.0 t in
      let less = place_lt (bytes_eq n) seen t in
      inl ((omega arith), numbered total seen ns e1)
  | inr f ↦
      let e1 : total ≡ first_seen (seen ++ n ∷ []) ns = e ∙ ap (λ (s : List (List ℕ)). first_seen s ns) (let w : with_text seen n ≡ seen ++ n ∷ [] = rw f refl in w) in
      let m = more (seen ++ n ∷ []) ns in
      let at : place_of total n ≡ length seen = ap (λ (xs : List (List ℕ)). place_of xs n) (e1 ∙ m.1 ∙ append_assoc seen (n ∷ []) m.0) ∙ place_new (bytes_eq n) seen m.0 n f ((bytes_eq-Decides n n).1 refl) in
      let len : length (seen ++ n ∷ []) ≡ suc (length seen) = length-append seen (n ∷ []) ∙ (let q : length seen + 1 ≡ suc (length seen) = omega arith in q) in
      inr (at, subst (λ (k : ℕ). normal.AreNumbered (length total) k (map (place_of total) ns)) len (numbered total (seen ++ n ∷ []) ns e1))
]

devices_map : (nets : List (List ℕ)) (ds : List DeviceCard) → flat_map (λ (r : plain.DeviceRow). terminal_nets r) (map (device_row nets) ds) ≡ map (place_of nets) (flat_map device_nets ds)
devices_map nets [] = refl
devices_map nets (d ∷ ds) =
    let f = place_of nets in
    ap (λ (xs : List ℕ). xs ++ flat_map (λ (r : plain.DeviceRow). terminal_nets r) (map (device_row nets) ds)) (terminal_nets_over f d)
    ∙ ap (λ (xs : List ℕ). map f (device_nets d) ++ xs) (devices_map nets ds)
    ∙ sym (map-append f (device_nets d) (flat_map device_nets ds))

calls_map : (names : List (List ℕ)) (needed : ℕ → List (List ℕ)) (nets : List (List ℕ)) (rs : List CallCard)
    → flat_map (λ (r : plain.CallRow). r.nets) (map (call_row names needed nets) rs) ≡ map (place_of nets) (flat_map (call_names names needed) rs)
calls_map names needed nets [] = refl
calls_map names needed nets (r ∷ rs) =
    ap (λ (xs : List ℕ). map (place_of nets) (call_names names needed r) ++ xs) (calls_map names needed nets rs)
    ∙ sym (map-append (place_of nets) (call_names names needed r) (flat_map (call_names names needed) rs))

pub row_map : (names : List (List ℕ)) (needed : ℕ → List (List ℕ)) (k : ℕ) (c : Circuit) (nets : List (List ℕ))
    → normal.appearances (row_over names needed k c nets) ≡ map (place_of nets) (appearances names needed k c)
row_map names needed k c nets =
    let f = place_of nets in
    let devices = flat_map device_nets c.devices in
    let calls = flat_map (call_names names needed) c.calls in
    ap (λ (xs : List ℕ). map f (c.pins ++ needed k) ++ (xs ++ flat_map (λ (r : plain.CallRow). r.nets) (map (call_row names needed nets) c.calls))) (devices_map nets c.devices)
    ∙ ap (λ (xs : List ℕ). map f (c.pins ++ needed k) ++ (map f devices ++ xs)) (calls_map names needed nets c.calls)
    ∙ ap (λ (xs : List ℕ). map f (c.pins ++ needed k) ++ xs) (sym (map-append f devices calls))
    ∙ sym (map-append f (c.pins ++ needed k) (devices ++ calls))
    ∙ ap (λ (xs : List (List ℕ)). map f xs) (append_assoc c.pins (needed k) (devices ++ calls))

pub row_numbered : (names : List (List ℕ)) (needed : ℕ → List (List ℕ)) (k : ℕ) (c : Circuit) → normal.AreNumbered (length (net_names names needed k c)) 0 (normal.appearances (circuit_row names needed k c))
row_numbered names needed k c =
    let nets = net_names names needed k c in
    subst (λ (xs : List ℕ). normal.AreNumbered (length nets) 0 xs) (sym (row_map names needed k c nets)) (numbered nets [] (appearances names needed k c) refl)

-- a row is that of the circuit of its number
pub row_of : (names : List (List ℕ)) (needed : ℕ → List (List ℕ)) (m i n : ℕ) (cs : List Circuit) (x : plain.Circuit) → n ≡ m + i → slice_get (rows_from names needed m cs) i ≡ Some x
    → (c : Circuit) × (slice_get cs i ≡ Some c) × (x ≡ circuit_row names needed n c)
row_of names needed m i n [] x e h = let z : ⊥ = cc in absurd z
row_of names needed m zero n (c ∷ cs) x e h = (c, refl, (let s : circuit_row names needed m c ≡ x = cc in sym s ∙ ap (λ (k : ℕ). circuit_row names needed k c) (let q : m ≡ n = omega arith in q)))
row_of names needed m (suc i) n (c ∷ cs) x e h = row_of names needed (m + 1) i n cs x (omega arith) h

pub all_numbered : (names : List (List ℕ)) (needed : ℕ → List (List ℕ)) (cs : List Circuit) (n : plain.Netlist) → n.circuits ≡ rows_from names needed 0 cs
    → (k : ℕ) (x : plain.Circuit) → plain.IsCircuit n k x → normal.AreNumbered (length x.nets) 0 (normal.appearances x)
all_numbered names needed cs n e k x h =
    let r = row_of names needed 0 k k cs x (omega arith) (sym (ap (λ (xs : List plain.Circuit). slice_get xs k) e) ∙ h) in
    subst (λ (y : plain.Circuit). normal.AreNumbered (length y.nets) 0 (normal.appearances y)) (sym r.2) (row_numbered names needed k r.0)
